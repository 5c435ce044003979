use Rattle.std.proofs.Common.{◌≡◌}
use Rattle.race_model.specs.Trace.{Trace}
use Rattle.log_walk.specs.Sweep.{HasRefused, HasSwept, logs_left}
use Rattle.log_walk.specs.declared.fault.WalkFault.{WalkFault}
use Rattle.log_walk.proofs.swept.sweep_all_as.Given as goal

abbrev pub invariant-regions : goal.invariant-regions
invariant-regions g l = record {
  trace : Trace;
  swept : HasSwept l.fn.format (g.F.Folder.state l.fn.folder).content l.dir l.sweep trace;
  fresh : (e : WalkFault) → HasRefused l.sweep e → ⊥;
  same : g.F.Folder.state l.folder ≡ g.F.Folder.state l.fn.folder;
  no_fault : g.F.Folder.read_faults l.folder ≡ g.F.Folder.read_faults l.fn.folder;
}

abbrev pub decreases-regions : goal.decreases-regions
decreases-regions g l = logs_left l.sweep
