use Rattle.std.proofs.lemmas.Result.{err_from_is_err_and}
use Rattle.serial_run.specs.Going.{serial_progress}
use Rattle.serial_run.proofs.Stepping.{marks_unready, marks_spelled}
use Rattle.serial_run.proofs.track.Track.put.Goals as goal

pub returns-in_err-make_room : goal.returns-in_err-make_room
returns-in_err-make_room c =
    let p = err_from_is_err_and c.from_residual.result c.from_residual.ensures.1 in
    rw (p.1, p.2) (marks_unready c.args.due (serial_progress c.args.self.now c.args.memory.now) c.in_err-make_room.field-0.0 c.in_err-make_room.ensures)

pub returns : goal.returns
returns c =
    marks_spelled c.args.due (serial_progress c.args.self.now c.args.memory.now) (serial_progress c.spell.new.self c.spell.new.memory) c.spell.result c.in_ok-make_room.ensures c.spell.ensures.logs c.spell.ensures.memory
