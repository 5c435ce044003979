use Rattle.std.proofs.Common.{All, ◌≡◌, ℕ, List, length}
use Rattle.race_model.specs.Row.{Row}
use Rattle.log_walk.specs.Ahead.{IsAhead, IsJob}
use Rattle.log_walk.proofs.together.gather.Given as goal

abbrev pub invariant-jobs : goal.invariant-jobs
invariant-jobs g l = record {
  so : (dir : List ℕ) (rows : List Row) → All (IsJob g.F.File.File.rest g.F.File.File.faults l.fn.format (g.F.Folder.state l.fn.folder).content dir rows) l.fn.jobs.items
      → All (IsJob g.F.File.File.rest g.F.File.File.faults l.fn.format (g.F.Folder.state l.fn.folder).content dir rows) l.jobs.items × All (IsAhead l.fn.format (g.F.Folder.state l.fn.folder).content dir rows) l.ahead.items;
  same : g.F.Folder.state l.folder ≡ g.F.Folder.state l.fn.folder;
  no_fault : g.F.Folder.read_faults l.folder ≡ g.F.Folder.read_faults l.fn.folder;
}

abbrev pub decreases-jobs : goal.decreases-jobs
decreases-jobs g l = length l.jobs.items
