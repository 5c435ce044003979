use Rattle.std.proofs.Common.{All, ◌≡◌}
use Rattle.race_model.specs.Trace.{Trace}
use Rattle.log_walk.specs.Ahead.{IsAhead}
use Rattle.log_walk.specs.Stack.{IsStackAfter}
use Rattle.log_walk.proofs.Sweeping.{RegionSoFar}
use Rattle.log_walk.proofs.sweep.walk_region.Given as goal

abbrev pub invariant-tasks : goal.invariant-tasks
invariant-tasks g l = record {
  so : (trace : Trace) → IsStackAfter l.format l.rows l.fn.stack trace → RegionSoFar l.format (g.F.Folder.state l.fn.folder).content l.dir l.rows l.region trace l.stack l.index l.found.items;
  read : All (IsAhead l.format (g.F.Folder.state l.fn.folder).content l.dir l.rows) l.ahead.items;
  same : g.F.Folder.state l.folder ≡ g.F.Folder.state l.fn.folder;
  no_fault : g.F.Folder.read_faults l.folder ≡ g.F.Folder.read_faults l.fn.folder;
}
