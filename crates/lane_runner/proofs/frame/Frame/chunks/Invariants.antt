use Rattle.std.proofs.Common.{◌≡◌, ◌-◌, ◌*◌}
use Rattle.kernel_syntax.specs.Program.{code_of}
use Rattle.lane_runner.specs.Going.{IsSameLog, site}
use Rattle.lane_runner.proofs.Dealing.{MadeChunks}
use Rattle.lane_runner.proofs.frame.Frame.chunks.Given as goal

abbrev pub invariant-chunks : goal.invariant-chunks
invariant-chunks g l = record {
  made : MadeChunks l.world (site l.world) (code_of l.body.stmts.items) l.fn.slot l.fn.from l.fn.chunk l.fn.total l.first l.fn.self.locals.slots.items l.self.locals.slots.items l.fn.self.track l.self.track;
  log : IsSameLog l.fn.self.track.buffer l.self.track.buffer;
  loops : l.self.track.tally.next_loop ≡ l.fn.self.track.tally.next_loop;
  stride : l.stride ≡ l.fn.chunk * l.world.span;
}

abbrev pub decreases-chunks : goal.decreases-chunks
decreases-chunks g l = l.total - l.first
