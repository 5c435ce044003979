use Rattle.std.proofs.Common.{rules, ◌≡◌, ◌∙◌, ◌≤◌, ◌<◌, ◌^◌, ◌+◌, List, All, ℕ, Some, None, length, string_bytes, refl, sym, ap, subst, arith}
use Rattle.std.specs.Prelude.{Ok, Err}
use Rattle.sw_base.specs.Environment.{WhereTold}
use Rattle.log_format.specs.declared.format.Format.{Format}
use Rattle.race_model.specs.Row.{Row}
use Rattle.race_model.specs.Trace.{Trace}
use Rattle.log_walk.specs.declared.fault.WalkFault.{WalkFault}
use Rattle.log_walk.specs.declared.sweep.Sweep.{Sweep}
use Rattle.log_walk.specs.Ahead.{IsAhead}
use Rattle.log_walk.specs.Stack.{IsStackAfter}
use Rattle.log_segment.specs.Regions.{IsUnderRegion}
use Rattle.log_walk.specs.Sweep.{AnswersNext, AreRegions, HasSwept, WalksRegion}
use Rattle.log_walk.specs.Walk.{RefusesLogOf, TellsFirstBad, Walked}
use Rattle.log_walk.proofs.SweepMoves.{answers_again, answers_none, answers_refused, answers_region, region_small}
use Rattle.log_walk.proofs.sweep.Sweep.next_with.Goals as goal

pub returns-in-Some-clause-next : goal.returns-in-Some-clause-next
returns-in-Some-clause-next g c =
    answers_again (g.F.Folder.state c.args.folder.now).content c.args.self.now c.copy.result
    (ap (λ (s : Sweep). s.refused) (sym c.self.view_is) ∙ (c.in-Some.is ∙ ap (λ (e : WalkFault). Some e) (sym c.copy.ensures)))

pub returns-then-self-len-clause-next : goal.returns-then-self-len-clause-next
returns-then-self-len-clause-next g c =
    let fresh : c.self.inside.refused ≡ None = search rules in
    let past : length c.self.inside.rows.items ≤ c.self.inside.stack.place = search rules in
    answers_none (g.F.Folder.state c.args.folder.now).content c.args.self.now (ap (λ (s : Sweep). s.refused) (sym c.self.view_is) ∙ fresh)
    (subst (λ (s : Sweep). length s.rows ≤ s.stack.place) c.self.view_is past)

pub walk_region-requires-clause-read : goal.walk_region-requires-clause-read
walk_region-requires-clause-read g c κs within =
    let told = (g.F.Folder.state c.args.folder.now).content in
    let inside = subst (λ (s : Sweep). All (IsAhead s.format told s.dir s.rows) c.args.ahead.items) (sym c.self.view_is) c.requires.read in
    subst (λ (rs : List Row). All (IsAhead c.self.inside.format told c.deref.result.now rs) c.args.ahead.items) (sym c.deref-2.ensures.value)
    (subst (λ (d : List ℕ). All (IsAhead c.self.inside.format told d c.self.inside.rows.items) c.args.ahead.items) (sym c.deref.ensures) inside)

pub overflow_add-self : goal.overflow_add-self
overflow_add-self g c =
    let fresh : c.self.inside.refused ≡ None = search rules in
    let ahead : c.self.inside.stack.place < length c.self.inside.rows.items = search rules in
    let swept = subst (λ (s : Sweep). HasSwept c.requires.swept.0 (g.F.Folder.state c.args.folder.now).content c.requires.swept.1 s c.requires.swept.2) (sym c.self.view_is) c.requires.swept.3 in
    let stands = swept.stands fresh in
    let small : c.self.inside.region < 2 ^ 32 = region_small c.self.inside.rows.items c.self.inside.region c.requires.swept.2 swept.rows swept.regions (omega (arith, stands.place, ahead)) in
    search rules

pub returns-in-Ok-clause-next : goal.returns-in-Ok-clause-next
returns-in-Ok-clause-next g c =
    let told = (g.F.Folder.state c.args.folder.now).content in
    let fresh : c.self.inside.refused ≡ None = search rules in
    let ahead : c.self.inside.stack.place < length c.self.inside.rows.items = search rules in
    let old : Sweep = record { format = c.self.inside.format; dir = string_bytes c.self.inside.dir; rows = c.self.inside.rows.items; region = c.self.inside.region; stack = c.self.inside.stack; refused = c.self.inside.refused } in
    let new : Sweep = record old { region = old.region + 1; stack = c.walk_region.new.stack } in
    let swept = subst (λ (s : Sweep). (format : Format) × (dir : List ℕ) × (trace : Trace) × HasSwept format told dir s trace) (sym c.self.view_is) c.requires.swept in
    subst (λ (s : Sweep). AnswersNext told s new (Ok (Some c.in-Ok.found))) c.self.view_is
    (answers_region told old new c.in-Ok.found swept fresh ahead refl
    (λ format dir trace swept.
    (let at_rows = subst (λ (rs : List Row). IsStackAfter format rs old.stack trace → AreRegions old.region rs trace → WalksRegion format told c.deref.result.now rs old.region new.stack trace c.in-Ok.found.items) c.deref-2.ensures.value
    (subst (λ (f : Format). IsStackAfter f c.deref-2.result.now old.stack trace → AreRegions old.region c.deref-2.result.now trace → WalksRegion f told c.deref.result.now c.deref-2.result.now old.region new.stack trace c.in-Ok.found.items) swept.format_is
    (c.in-Ok.ensures.walks trace)) in
    subst (λ (d : List ℕ). WalksRegion format told d old.rows old.region new.stack trace c.in-Ok.found.items) (c.deref.ensures ∙ swept.dir_is) (at_rows (swept.stands fresh) swept.regions))))

pub returns-in-Err-clause-next : goal.returns-in-Err-clause-next
returns-in-Err-clause-next g c =
    let told = (g.F.Folder.state c.args.folder.now).content in
    let fresh : c.self.inside.refused ≡ None = search rules in
    let same : Some c.copy-in-Err.result ≡ Some c.in-Err.refusal = ap (λ (e : WalkFault). Some e) c.copy-in-Err.ensures in
    let old : Sweep = record { format = c.self.inside.format; dir = string_bytes c.self.inside.dir; rows = c.self.inside.rows.items; region = c.self.inside.region; stack = c.self.inside.stack; refused = c.self.inside.refused } in
    let new : Sweep = record old { stack = c.walk_region.new.stack; refused = Some c.copy-in-Err.result } in
    subst (λ (s : Sweep). AnswersNext told s new (Err c.in-Err.refusal)) c.self.view_is
    (answers_refused told old new c.in-Err.refusal fresh (λ i. record new { refused = same i })
    (λ format dir trace swept.
    (let at_rows = subst (λ (rs : List Row). IsStackAfter format rs old.stack trace → WhereTold told (λ x. Walked format x.held c.deref.result.now rs trace)
    → RefusesLogOf (IsUnderRegion old.region) c.in-Err.refusal × WhereTold told (λ x. TellsFirstBad format x.held c.deref.result.now c.in-Err.refusal)) c.deref-2.ensures.value
    (subst (λ (f : Format). IsStackAfter f c.deref-2.result.now old.stack trace → WhereTold told (λ x. Walked f x.held c.deref.result.now c.deref-2.result.now trace)
    → RefusesLogOf (IsUnderRegion old.region) c.in-Err.refusal × WhereTold told (λ x. TellsFirstBad f x.held c.deref.result.now c.in-Err.refusal)) swept.format_is
    (c.in-Err.ensures.refused trace)) in
    let in_dir = subst (λ (d : List ℕ). IsStackAfter format old.rows old.stack trace → WhereTold told (λ x. Walked format x.held d old.rows trace)
    → RefusesLogOf (IsUnderRegion old.region) c.in-Err.refusal × WhereTold told (λ x. TellsFirstBad format x.held d c.in-Err.refusal)) (c.deref.ensures ∙ swept.dir_is) at_rows in
    in_dir (swept.stands fresh) swept.holds)))
