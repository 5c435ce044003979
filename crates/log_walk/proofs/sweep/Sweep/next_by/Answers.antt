use Rattle.std.proofs.Common.{◌≡◌, ◌∙◌, All, Some, string_bytes, sym, ap, subst}
use Rattle.std.specs.Prelude.{Err}
use Rattle.sw_base.specs.Environment.{FolderState}
use Rattle.log_segment.specs.Regions.{IsUnderRegion}
use Rattle.log_walk.specs.Ahead.{IsAhead}
use Rattle.log_walk.specs.Sweep.{AnswersNext, HasSwept}
use Rattle.log_walk.specs.Walk.{RefusesLogOf, TellsFirstBad}
use Rattle.log_walk.specs.declared.fault.WalkFault.{WalkFault}
use Rattle.log_walk.specs.declared.sweep.Sweep.{Sweep}
use Rattle.log_walk.proofs.SweepMoves.{answers_refused, trouble_of, trouble_tells}
use Rattle.log_walk.proofs.sweep.Sweep.next_by.Goals as goal

pub next_with-requires-clause-read : goal.next_with-requires-clause-read
next_with-requires-clause-read g c κs within =
    subst (λ (s : FolderState). All (IsAhead c.args.self.now.format s.content c.args.self.now.dir c.args.self.now.rows) c.in-Ok.ahead.items) (sym c.read.ensures.reads.same) c.in-Ok.ensures.ahead

pub next_with-requires-clause-swept : goal.next_with-requires-clause-swept
next_with-requires-clause-swept g c κs within = (
  c.requires.swept.0,
  c.requires.swept.1,
  c.requires.swept.2,
  subst (λ (s : FolderState). HasSwept c.requires.swept.0 s.content c.requires.swept.1 c.args.self.now c.requires.swept.2) (sym c.read.ensures.reads.same) c.requires.swept.3,
)

pub returns-in-Ok-clause-next : goal.returns-in-Ok-clause-next
returns-in-Ok-clause-next g c =
    subst (λ (s : FolderState). AnswersNext s.content c.args.self.now c.next_with.new.self c.next_with.result) c.read.ensures.reads.same c.next_with.ensures.next

pub returns-in-Err-clause-next : goal.returns-in-Err-clause-next
returns-in-Err-clause-next g c =
    let told = (g.F.Folder.state c.args.folder.now).content in
    let same : Some c.copy.result ≡ Some c.from-refusal.result = ap (λ (e : WalkFault). Some e) c.copy.ensures in
    let new : Sweep = record { format = c.self.inside.format; dir = string_bytes c.self.inside.dir; rows = c.self.inside.rows.items; region = c.self.inside.region; stack = c.self.inside.stack; refused = Some c.copy.result } in
    subst (λ (s : Sweep). AnswersNext told s new (Err c.from-refusal.result)) c.self.view_is
    (answers_refused told _ new c.from-refusal.result (ap (λ (s : Sweep). s.refused) c.self.view_is ∙ c.in-Err.ensures.fresh) (λ i. record new { refused = same i })
    (λ format dir trace swept. (
      subst (λ (e : WalkFault). RefusesLogOf (IsUnderRegion c.self.inside.region) e) (sym c.from-refusal.ensures) (trouble_of (IsUnderRegion c.self.inside.region) c.in-Err.trouble),
      λ x is. subst (λ (e : WalkFault). TellsFirstBad format x.held dir e) (sym c.from-refusal.ensures) (trouble_tells format x.held dir c.in-Err.trouble),
    )))
