use Rattle.std.proofs.Common.{refl, ap, ◌∙◌, subst, List, Err}
use Rattle.std.proofs.lemmas.Result.{err_from_is_err_and}
use Rattle.log_format.specs.declared.record.Kind.TheVariants as kind
use Rattle.log_format.specs.declared.record.Record.{Record}
use Rattle.kernel_model.specs.State.{put, event}
use Rattle.kernel_model.proofs.Equations.{put-full}
use Rattle.serial_run.specs.declared.frame.Frame.{Frame}
use Rattle.serial_run.specs.Going.{LogsRecord, Marks, serial_progress}
use Rattle.serial_run.specs.Resting.{frames_rest}
use Rattle.serial_run.specs.Stepping.{stand_left, stand}
use Rattle.serial_run.proofs.Statements.{halts_marks}
use Rattle.serial_run.proofs.Advancing.{finishes}
use Rattle.serial_run.proofs.lane.SerialLane.finish.Goals as goal

pub returns-in_err-put : goal.returns-in_err-put
returns-in_err-put c =
    let p = err_from_is_err_and c.from_residual.result c.from_residual.ensures.1 in
    let x = stand c.args.self.now c.args.memory.now in
    let due = event kind.End x.end 0 0 in
    λ layout. rw (p.1, p.2)
    (halts_marks layout due (stand_left x) x (record x { progress = serial_progress c.put.new.self c.put.new.memory }) c.in_err-put.field-0.0 refl
    (λ s room. ap (λ (l : List Frame). frames_rest x.at l (put due) s) c.requires ∙ put-full due s room)
    (subst (λ (r : Record). Marks r x.progress (serial_progress c.put.new.self c.put.new.memory) (Err c.in_err-put.field-0.0)) c.event.ensures c.in_err-put.ensures))

pub returns : goal.returns
returns c =
    let x = stand c.args.self.now c.args.memory.now in
    λ layout.
    finishes layout x (record x { progress = serial_progress c.put.new.self c.put.new.memory }) c.requires refl refl refl c.in_ok-put.ensures.0
    (subst (λ (r : Record). LogsRecord r x.progress (serial_progress c.put.new.self c.put.new.memory)) c.event.ensures c.in_ok-put.ensures.1)
