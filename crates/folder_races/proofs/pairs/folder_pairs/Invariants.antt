use Rattle.std.proofs.Common.{◌≡◌, ◌≤◌}
use Rattle.log_walk.specs.Sweep.{HasRefused, logs_left}
use Rattle.log_walk.specs.declared.fault.WalkFault.{WalkFault}
use Rattle.folder_races.specs.Waiting.{most_waiting, size_of}
use Rattle.folder_races.proofs.Sweeping.{SweptPairs}
use Rattle.folder_races.proofs.pairs.folder_pairs.Given as goal

abbrev pub invariant-regions : goal.invariant-regions
invariant-regions g l = record {
  swept : SweptPairs (g.F.Folder.state l.fn.folder).content l.dir l.sweep l.pairs.keys l.waiting.items;
  counted : size_of l.waiting.items ≡ l.number;
  few : l.number ≤ l.limit;
  most : l.limit ≤ most_waiting;
  fresh : (e : WalkFault) → HasRefused l.sweep e → ⊥;
  same : g.F.Folder.state l.folder ≡ g.F.Folder.state l.fn.folder;
  no_fault : g.F.Folder.read_faults l.folder ≡ g.F.Folder.read_faults l.fn.folder;
}

abbrev pub decreases-regions : goal.decreases-regions
decreases-regions g l = logs_left l.sweep
