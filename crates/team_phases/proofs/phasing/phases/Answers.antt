use Rattle.std.proofs.Common.{◌≡◌, ap, sym, subst, ◌∙◌, List, ◌++◌, All}
use Rattle.std.specs.Prelude.{map}
use Rattle.std.proofs.lemmas.Result.{IfOk-weaker}
use Rattle.kernel_syntax.specs.Program.{code_of}
use Rattle.team_phases.specs.declared.unrolling.Piece.{Piece}
use Rattle.kernel_model.specs.State.{State}
use Rattle.kernel_model.specs.Value.{Site}
use Rattle.kernel_model.specs.Trace.{run}
use Rattle.kernel_model.specs.Parts.{Part, parts_of, run_parts}
use Rattle.team_phases.specs.Pieces.{part_of_piece}
use Rattle.kernel_model.specs.Phases.{ArePhases, parts_in, MeetsOnlyAtBars}
use Rattle.kernel_rules.proofs.RunningParts.{parts_run}
use Rattle.kernel_rules.proofs.BarrierCounts.{parts_meet}
use Rattle.team_phases.proofs.phasing.phases.Goals as goal

pub returns-clause-runs : goal.returns-clause-runs
returns-clause-runs c =
    let body = code_of c.args.team.now.body.stmts.items in
    let none = ap (λ (xs : List Piece). map part_of_piece xs ++ parts_of body) c.new-pieces.ensures.items in
    let are = ap (map part_of_piece) c.as_slice.ensures.value ∙ c.in_ok-add_body.ensures ∙ none in
    IfOk-weaker c.divide.result (λ phases. ArePhases (map part_of_piece c.as_slice.result.now) phases.items)
    (λ phases. (at : Site) (s : State) → run_parts at (parts_in phases.items) s ≡ run at body s)
    (λ phases is at s. ap (λ (ps : List Part). run_parts at ps s) (is.parts_are ∙ are) ∙ parts_run at body s) c.divide.ensures

pub returns-clause-barriers : goal.returns-clause-barriers
returns-clause-barriers c = λ even.
    let body = code_of c.args.team.now.body.stmts.items in
    let none = ap (λ (xs : List Piece). map part_of_piece xs ++ parts_of body) c.new-pieces.ensures.items in
    let are = ap (map part_of_piece) c.as_slice.ensures.value ∙ c.in_ok-add_body.ensures ∙ none in
    IfOk-weaker c.divide.result (λ phases. ArePhases (map part_of_piece c.as_slice.result.now) phases.items)
    (λ phases. All MeetsOnlyAtBars (parts_in phases.items))
    (λ phases is. subst (λ (ps : List Part). All MeetsOnlyAtBars ps) (sym (is.parts_are ∙ are)) (parts_meet body even)) c.divide.ensures
