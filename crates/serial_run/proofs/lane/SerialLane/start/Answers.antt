use Rattle.std.proofs.Common.{◌≡◌, ap, ◌∙◌, List, [], ◌∷◌, ◌++◌, rules}
use Rattle.kernel_syntax.specs.declared.syntax.Stmt.{Stmt}
use Rattle.kernel_syntax.specs.Program.{code_of}
use Rattle.log_format.specs.declared.record.Kind.TheVariants as kind
use Rattle.kernel_model.specs.State.{after, event, put}
use Rattle.kernel_model.specs.Trace.{run}
use Rattle.serial_run.specs.declared.frame.Frame.{Frame}
use Rattle.serial_run.specs.declared.frame.Frame.TheVariants as frame
use Rattle.serial_run.specs.Resting.{frames_rest}
use Rattle.serial_run.proofs.lane.SerialLane.start.Goals as goal

pub returns-clause-whole : goal.returns-clause-whole
returns-clause-whole c = λ memory s.
    let last = put (event kind.End c.args.team.now.end 0 0) in
    let none : c.new-rest.result.items ≡ [] = search rules in
    ap (λ (l : List Frame). frames_rest c.args.place l last s) (c.in_ok-push.ensures.items ∙ ap (λ (l : List Frame). l ++ frame.Statements c.as_slice.result ∷ []) none)
    ∙ ap (λ (l : List Stmt). after (run c.args.place (code_of l) s) last) c.as_slice.ensures.value
