use Rattle.std.proofs.Common.{Err, refl, subst}
use Rattle.std.proofs.lemmas.Result.{err_from_is_err_and}
use Rattle.log_format.specs.declared.record.Kind.TheVariants as kind
use Rattle.log_format.specs.declared.record.Record.{Record}
use Rattle.kernel_model.specs.State.{put, event}
use Rattle.kernel_model.proofs.Equations.{put-full}
use Rattle.serial_run.specs.Going.{LogsRecord, Marks, serial_progress}
use Rattle.serial_run.specs.Stepping.{stand}
use Rattle.serial_run.proofs.Leading.{steps_put, stepped_still}
use Rattle.serial_run.proofs.Statements.{halts_marks}
use Rattle.serial_run.proofs.lane.SerialLane.meet.Goals as goal

pub returns-in_err-put : goal.returns-in_err-put
returns-in_err-put c =
    let p = err_from_is_err_and c.from_residual.result c.from_residual.ensures.1 in
    let x = stand c.args.self.now c.args.memory.now in
    let due = event kind.Barrier c.args.line 0 0 in
    λ layout. rw (p.1, p.2)
    (halts_marks layout due (put due) x (record x { progress = serial_progress c.put.new.self c.put.new.memory }) c.in_err-put.field-0.0 refl (put-full due)
    (subst (λ (r : Record). Marks r x.progress (serial_progress c.put.new.self c.put.new.memory) (Err c.in_err-put.field-0.0)) c.event.ensures c.in_err-put.ensures))

pub returns : goal.returns
returns c =
    let x = stand c.args.self.now c.args.memory.now in
    let due = event kind.Barrier c.args.line 0 0 in
    λ layout. (
      c.args.line,
      stepped_still x
          (steps_put layout x.at due x.slots x.progress (serial_progress c.put.new.self c.put.new.memory) c.in_ok-put.ensures.0
          (subst (λ (r : Record). LogsRecord r x.progress (serial_progress c.put.new.self c.put.new.memory)) c.event.ensures c.in_ok-put.ensures.1) tt refl refl refl),
    )
