use Rattle.std.proofs.Common.{All, ◌≡◌}
use Rattle.log_format.specs.declared.format.Format.{Format}
use Rattle.log_walk.specs.Ahead.{IsJob}
use Rattle.log_walk.proofs.together.jobs_of.Given as goal

abbrev pub invariant-loop-place : goal.invariant-loop-place
invariant-loop-place g l = record {
  so : (format : Format) → All (IsJob g.F.File.File.rest g.F.File.File.faults format (g.F.Folder.state l.fn.folder).content l.dir l.rows) l.jobs.items;
  same : g.F.Folder.state l.folder ≡ g.F.Folder.state l.fn.folder;
  no_fault : g.F.Folder.read_faults l.folder ≡ g.F.Folder.read_faults l.fn.folder;
}
