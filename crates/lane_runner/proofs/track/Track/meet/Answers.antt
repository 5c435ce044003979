use Rattle.std.proofs.Common.{[]}
use Rattle.log_format.specs.declared.record.Kind.TheVariants as kind
use Rattle.kernel_model.specs.State.{event}
use Rattle.lane_runner.proofs.Noting.{barrier_note, note_can, note_goes}
use Rattle.lane_runner.proofs.track.Track.meet.Goals as goal

pub returns-clause-goes : goal.returns-clause-goes
returns-clause-goes g c = λ w slots can.
    note_goes w (event kind.Barrier c.args.line 0 0) 1 (barrier_note w c.args.line c.requires.line) slots c.args.self.now c.note.new.self c.note.result can c.note.ensures.takes

pub returns-clause-can : goal.returns-clause-can
returns-clause-can g c = λ w can.
    note_can w (event kind.Barrier c.args.line 0 0) 1 (barrier_note w c.args.line c.requires.line) [] c.args.self.now c.note.new.self c.note.result can c.note.ensures.takes
