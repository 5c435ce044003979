use Rattle.std.proofs.Common.{◌≡◌, take}
use Rattle.kernel_syntax.specs.Program.{code_of}
use Rattle.kernel_model.specs.Trace.{run, turns}
use Rattle.kernel_model.specs.Effect.{Returned}
use Rattle.kernel_model.specs.Drawing.{turn_from}
use Rattle.lane_runner.specs.Going.{Made, IsSameLog, site}
use Rattle.lane_runner.proofs.frame.Frame.+executing.Given as goal

abbrev pub invariant-repeat-loop-i : goal.invariant-repeat-loop-i
invariant-repeat-loop-i g l = record {
  made : Made l.world (turns l.i l.fn.first (turn_from (site l.world) (code_of l.body.stmts.items) l.slot l.from)) l.fn.self.locals.slots.items l.self.locals.slots.items l.fn.self.track l.self.track (Returned tt);
  log : IsSameLog l.fn.self.track.buffer l.self.track.buffer;
  loops : l.self.track.tally.next_loop ≡ l.fn.self.track.tally.next_loop;
}

abbrev pub invariant-statements-loop-stmt : goal.invariant-statements-loop-stmt
invariant-statements-loop-stmt g l = record {
  items : l.stmt-items ≡ l.body.stmts.items;
  made : Made l.world (run (site l.world) (code_of (take l.stmt-index l.body.stmts.items))) l.fn.self.locals.slots.items l.self.locals.slots.items l.fn.self.track l.self.track (Returned tt);
  log : IsSameLog l.fn.self.track.buffer l.self.track.buffer;
  loops : l.self.track.tally.next_loop ≡ l.fn.self.track.tally.next_loop;
}
