use Rattle.std.proofs.Common.{◌≡◌, ◌+◌, ◌≤◌, None}
use Rattle.log_walk.specs.Sweep.{logs_left}
use Rattle.log_walk.proofs.WalkMoves.{WalkedTo}
use Rattle.log_walk.proofs.walking.walk_as.Given as goal

abbrev pub invariant-regions : goal.invariant-regions
invariant-regions g l = record {
  so : WalkedTo l.fn.format (g.F.Folder.state l.fn.folder).content l.dir l.sweep l.found.items;
  fewer : logs_left l.sweep + l.round ≤ l.left;
  fresh : l.sweep.refused ≡ None;
  same : g.F.Folder.state l.folder ≡ g.F.Folder.state l.fn.folder;
  no_fault : g.F.Folder.read_faults l.folder ≡ g.F.Folder.read_faults l.fn.folder;
}
