use Rattle.std.proofs.Common.{refl, ap, sym, ◌∙◌, subst, ◌-◌, List, [], ◌∷◌, ℤ, Ok, w64, FitsSigned, rules}
use Rattle.std.specs.Prelude.{slice_set}
use Rattle.std.proofs.lemmas.Int.{to_z-of_z}
use Rattle.log_format.specs.Limit.{record_limit}
use Rattle.kernel_syntax.specs.Program.{stmt_code}
use Rattle.kernel_syntax.specs.Tree.{Done}
use Rattle.kernel_model.specs.declared.phase.Item.{Item}
use Rattle.kernel_model.specs.declared.phase.Item.TheVariants as phase_item
use Rattle.kernel_model.specs.Effect.{Returned}
use Rattle.kernel_model.specs.Parts.{run_part, bar_count}
use Rattle.kernel_model.specs.Phases.{part_of, without_barrier}
use Rattle.kernel_model.specs.State.{Gives, assign}
use Rattle.kernel_model.specs.Trace.{run}
use Rattle.kernel_model.proofs.Effects.{makes-stays}
use Rattle.lane_runner.specs.Going.{GoesPast, MadePast, site}
use Rattle.lane_runner.proofs.Following.{goes_same}
use Rattle.lane_runner.proofs.Running.{goes_assigned}
use Rattle.lane_runner.proofs.Values.{made_still}
use Rattle.lane_runner.specs.Phase.{IsItem}
use Rattle.lane_runner.proofs.Teams.{teams_of_item}
use Rattle.lane_runner.proofs.frame.Frame.step.Goals as goal

pub part-requires-clause-runs : goal.part-requires-clause-runs
part-requires-clause-runs g c κs within = teams_of_item _ _ _ _ _ c.in-Run.is c.requires.runs

pub returns-in-Set-clause-goes : goal.returns-in-Set-clause-goes
returns-in-Set-clause-goes g c =
    let w = c.args.world.now in
    let slots : List ℤ = c.args.self.now.locals.slots.items in
    let after : List ℤ = slice_set slots c.in-Set.slot c.in-Set.value in
    let track = c.args.self.now.track in
    let fits : FitsSigned w64 c.in-Set.value = search rules in
    subst (λ (s : List ℤ). MadePast (bar_count (part_of c.args.item.now ∷ [])) w (run_part (site w) (part_of c.args.item.now)) slots s track track (Returned tt))
    (sym (c.set.ensures ∙ ap (λ (z : ℤ). slice_set slots c.in-Set.slot z) (to_z-of_z w64 c.in-Set.value fits)))
    (subst (λ (i : Item). MadePast (bar_count (part_of i ∷ [])) w (run_part (site w) (part_of i)) slots after track track (Returned tt)) (sym c.in-Set.is)
    (goes_same w (λ s. Gives tt (assign c.in-Set.slot c.in-Set.value s)) (run_part (site w) (part_of (phase_item.Set c.in-Set.slot c.in-Set.value))) slots after track track (λ s. refl) (Ok tt)
    (goes_assigned w (λ s. Gives tt s) c.in-Set.slot c.in-Set.value slots after track track (Ok tt)
    (made_still w (λ s. Gives tt s) after track (Returned tt) c.requires.can (makes-stays (λ s. Gives tt s) after (record_limit - track.buffer.count) (Returned tt) (λ s same full. refl))))))

pub returns-in-Run-clause-goes : goal.returns-in-Run-clause-goes
returns-in-Run-clause-goes g c =
    let w = c.args.world.now in
    let slots : List ℤ = c.args.self.now.locals.slots.items in
    subst (λ (i : Item). GoesPast (bar_count (part_of i ∷ [])) w (run_part (site w) (part_of i)) slots c.part.new.self.locals.slots.items c.args.self.now.track c.part.new.self.track c.part.result) (sym c.in-Run.is)
    (goes_same w (run (site w) (without_barrier (stmt_code c.in-Run.stmt.now Done))) (run_part (site w) (part_of (phase_item.Run c.in-Run.stmt c.in-Run.which))) slots c.part.new.self.locals.slots.items c.args.self.now.track c.part.new.self.track (λ s. refl) c.part.result c.part.ensures.goes)

pub meet-requires-clause-line : goal.meet-requires-clause-line
meet-requires-clause-line g c κs within = subst (λ (i : Item). IsItem c.args.world.now.words.locks i) c.in-Bar.is c.requires.item

pub returns-in-Bar-clause-goes : goal.returns-in-Bar-clause-goes
returns-in-Bar-clause-goes g c =
    let w = c.args.world.now in
    let slots : List ℤ = c.args.self.now.locals.slots.items in
    subst (λ (i : Item). GoesPast (bar_count (part_of i ∷ [])) w (run_part (site w) (part_of i)) slots slots c.args.self.now.track c.meet.new.self c.meet.result) (sym c.in-Bar.is)
    (c.meet.ensures.goes w slots c.requires.can)
