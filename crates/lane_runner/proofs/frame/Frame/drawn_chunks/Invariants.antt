use Rattle.std.proofs.Common.{◌≡◌, ◌-◌}
use Rattle.log_format.specs.Limit.{record_limit}
use Rattle.kernel_syntax.specs.Program.{code_of}
use Rattle.kernel_model.specs.Iterations.{chunk_count, chunk_iterations}
use Rattle.kernel_model.specs.Trace.{each}
use Rattle.kernel_model.specs.Drawing.{turn_from, draw_all}
use Rattle.lane_runner.specs.Going.{CanGo, IsSameLog, site}
use Rattle.lane_runner.proofs.Draining.{GoesOnIn}
use Rattle.lane_runner.proofs.frame.Frame.drawn_chunks.Given as goal

abbrev pub invariant-draws : goal.invariant-draws
invariant-draws g l = record {
  can : CanGo l.world l.self.track;
  held : l.self.track.hand.view.held ≡ l.fn.self.track.hand.view.held;
  opened : l.self.track.tally.next_loop ≡ l.fn.self.track.tally.next_loop;
  log : IsSameLog l.fn.self.track.buffer l.self.track.buffer;
  on : GoesOnIn l.world (draw_all l.fn.line (chunk_count l.fn.chunk l.fn.total) (λ q. each (chunk_iterations l.fn.chunk l.fn.total q) (turn_from (site l.world) (code_of l.body.stmts.items) l.fn.slot l.fn.from))) l.fn.self.locals.slots.items l.self.locals.slots.items l.fn.self.track l.self.track;
}

abbrev pub decreases-draws : goal.decreases-draws
decreases-draws g l = record_limit - l.self.track.buffer.count
