use Rattle.std.proofs.Common.{◌≡◌, ◌<◌, ℕ, length, slice_index_or}
use Rattle.event_buffer.specs.Buffered.{Buffered}
use Rattle.race_model.specs.Listing.{lane_of}
use Rattle.lane_runner.specs.Children.{AreNewLogs}
use Rattle.lane_runner.specs.Handed.{log_place}
use Rattle.region_runner.specs.Opening.{OpensAs, lent_hand, lent_to}
use Rattle.region_runner.proofs.opening.open_all.Given as goal

abbrev pub invariant-loop-log : goal.invariant-loop-log
invariant-loop-log g l = record {
  lane : l.lane ≡ length l.yielded;
  count : length l.opened.items ≡ length l.yielded;
  share : l.share ≡ lent_to (length l.yielded) l.fn.share;
  opens : (task : Buffered) → task.path ≡ l.at → task.size ≡ l.ground.size → AreNewLogs g.L.Log task l.number l.span l.fn.logs.items
      → (k : ℕ) (d : _) → k < length l.yielded → OpensAs (log_place task) (lane_of l.at l.number k l.span) l.locals.slots.items (lent_hand l.fn.share) (slice_index_or l.opened.items k d);
}
