use Rattle.std.proofs.Common.{◌≡◌, List}
use Rattle.log_format.specs.declared.format.TheConstants.{FORMAT}
use Rattle.log_segment.specs.declared.segment.Segment.{Segment}
use Rattle.log_walk.specs.Sweep.{HasRefused, logs_left}
use Rattle.log_walk.specs.declared.fault.WalkFault.{WalkFault}
use Rattle.log_walk.proofs.WalkMoves.{WalkedTo}
use Rattle.explain.specs.Suspects.{IsOnLines, KeepsRuns}
use Rattle.explain.proofs.explaining.swept.Given as goal

abbrev pub invariant-regions : goal.invariant-regions
invariant-regions g l = record {
  all : List Segment;
  so : WalkedTo FORMAT (g.F.Folder.state l.fn.folder).content l.dir l.sweep all;
  keeps : KeepsRuns (IsOnLines l.lines) all l.kept.items;
  fresh : (e : WalkFault) → HasRefused l.sweep e → ⊥;
  same : g.F.Folder.state l.folder ≡ g.F.Folder.state l.fn.folder;
  no_fault : g.F.Folder.read_faults l.folder ≡ g.F.Folder.read_faults l.fn.folder;
}

abbrev pub decreases-regions : goal.decreases-regions
decreases-regions g l = logs_left l.sweep
