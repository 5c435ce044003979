use Rattle.std.proofs.Common.{◌≡◌, ◌-◌, ◌≤◌, length, take}
use Rattle.log_walk.specs.Unread.{unread}
use Rattle.log_walk.proofs.window.read_on.Given as goal

abbrev pub invariant-reads : goal.invariant-reads
invariant-reads g l = record {
  long : length l.bytes ≡ length l.fn.bytes;
  room : l.to ≤ length l.fn.bytes;
  unread : unread (take l.to l.bytes) (g.T.File.rest l.file) ≡ unread (take l.fn.to l.fn.bytes) (g.T.File.rest l.fn.file);
  no_fault : g.T.File.faults l.file ≡ g.T.File.faults l.fn.file;
}

abbrev pub decreases-reads : goal.decreases-reads
decreases-reads g l = l.count - l.to
