use Rattle.std.proofs.Common.{◌≡◌, ◌+◌, take}
use Rattle.std.specs.Prelude.{map}
use Rattle.kernel_model.specs.Parts.{bar_count, drawn_count, run_parts}
use Rattle.kernel_model.specs.Phases.{part_of}
use Rattle.kernel_model.specs.Effect.{Returned}
use Rattle.lane_runner.specs.Going.{MadePast, IsSameLog, site}
use Rattle.lane_runner.proofs.frame.Frame.run_phase.Given as goal

abbrev pub invariant-loop-item : goal.invariant-loop-item
invariant-loop-item g l = record {
  items : l.item-items ≡ l.phase;
  made : MadePast (bar_count (map part_of (take l.item-index l.phase))) l.world (run_parts (site l.world) (map part_of (take l.item-index l.phase))) l.fn.self.locals.slots.items l.self.locals.slots.items l.fn.self.track l.self.track (Returned tt);
  log : IsSameLog l.fn.self.track.buffer l.self.track.buffer;
  loops : l.self.track.tally.next_loop ≡ l.fn.self.track.tally.next_loop + drawn_count (map part_of (take l.item-index l.phase));
}
