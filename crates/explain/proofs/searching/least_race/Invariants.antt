use Rattle.std.proofs.Common.{◌≡◌}
use Rattle.sw_base.specs.Environment.{WhereTold}
use Rattle.race_model.specs.Trace.{Trace}
use Rattle.explain.specs.Suspects.{HoldAccesses}
use Rattle.explain.specs.Witness.{HoldsListedRun}
use Rattle.explain.proofs.Hits.{NoneBefore}
use Rattle.explain.proofs.searching.least_race.Given as goal

abbrev pub invariant-rows : goal.invariant-rows
invariant-rows g l = record {
  none : WhereTold (g.F.Folder.state l.fn.folder).content (λ c. (trace : Trace) → HoldsListedRun c l.dir l.rows trace → HoldAccesses trace l.lines l.suspects → NoneBefore trace l.lines l.first);
  same : g.F.Folder.state l.folder ≡ g.F.Folder.state l.fn.folder;
  no_fault : g.F.Folder.read_faults l.folder ≡ g.F.Folder.read_faults l.fn.folder;
}
