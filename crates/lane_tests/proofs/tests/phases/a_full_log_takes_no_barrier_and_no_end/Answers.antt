use Rattle.std.proofs.Common.{◌≡◌, ◌∙◌, ap, subst, ℕ, [], Err}
use Rattle.kernel_model.specs.State.{State, Outcome}
use Rattle.kernel_model.specs.declared.stop.StopWhy.TheVariants.{LogFull}
use Rattle.kernel_model.specs.Effect.{Halted}
use Rattle.shared_words.specs.declared.view.View.{View}
use Rattle.shared_words.specs.Handles.{HandValue}
use Rattle.lane_runner.specs.declared.stop.Stop.{Stop}
use Rattle.lane_runner.specs.declared.stop.Stop.TheVariants as stop
use Rattle.lane_runner.specs.declared.stop.Halt.{Halt}
use Rattle.lane_runner.specs.declared.stop.Halt.TheVariants as halt
use Rattle.lane_runner.specs.World.{WorldValue}
use Rattle.lane_runner.specs.Going.{Progress, GoesPast, Made}
use Rattle.lane_tests.proofs.tests.phases.a_full_log_takes_no_barrier_and_no_end.Goals as goal

stops_full : (w : WorldValue) (part : State → Outcome (Unit {0})) (old new : Progress) (why : Halt) (line : ℕ) → why ≡ halt.Own (stop.LogFull line) → GoesPast 1 w part [] [] old new (Err why) → Made w part [] [] old new (Halted LogFull line)
stops_full w part old new why line is goes = subst (λ (h : Halt). GoesPast 1 w part [] [] old new (Err h)) is goes

pub finish-requires-clause-puts : goal.finish-requires-clause-puts
finish-requires-clause-puts g c κs =
    let full = c.in-Err-Own-LogFull.field-0-is ∙ ap (λ (s : Stop). halt.Own s) c.in-Err-Own-LogFull.field-0-0-is in
    let made = stops_full c.new-world.result _ c.fill.new.track c.meet.new.self c.in-Err-Own-LogFull.field-0 c.in-Err-Own-LogFull.line full (c.in-Err-Own-LogFull.ensures.goes c.new-world.result [] c.in-Ok.ensures.can) in
    record { there = ap (λ (h : HandValue View). h.there) made.done.hand; unrefused = made.unrefused }
