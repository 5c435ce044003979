use Rattle.std.proofs.Common.{[]}
use Rattle.log_format.specs.declared.record.Kind.TheVariants as kind
use Rattle.kernel_model.specs.State.{event}
use Rattle.lane_runner.proofs.Noting.{end_note, note_can, note_goes}
use Rattle.lane_runner.proofs.track.Track.finish.Goals as goal

pub returns-clause-goes : goal.returns-clause-goes
returns-clause-goes g c = λ w slots can.
    note_goes w (event kind.End c.args.line 0 0) 0 (end_note w c.args.line c.requires.line) slots c.args.self.now c.note.new.self c.note.result can c.note.ensures.takes

pub returns-clause-can : goal.returns-clause-can
returns-clause-can g c = λ w can.
    note_can w (event kind.End c.args.line 0 0) 0 (end_note w c.args.line c.requires.line) [] c.args.self.now c.note.new.self c.note.result can c.note.ensures.takes
