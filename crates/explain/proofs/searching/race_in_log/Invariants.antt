use Rattle.std.proofs.Common.{◌≡◌}
use Rattle.sw_base.specs.Environment.{WhereTold}
use Rattle.race_model.specs.Trace.{Trace}
use Rattle.explain.specs.Finding.{CanCount}
use Rattle.explain.specs.Least.{HasNoPartner}
use Rattle.explain.specs.Suspects.{HoldAccesses}
use Rattle.explain.specs.Witness.{HoldsListedRun}
use Rattle.explain.proofs.Scanning.{Scans}
use Rattle.explain.proofs.searching.race_in_log.Given as goal

abbrev pub invariant-records : goal.invariant-records
invariant-records g l = record {
  scans : WhereTold (g.F.Folder.state l.fn.folder).content (λ c. (trace : Trace) → HoldsListedRun c l.dir l.rows trace → HoldAccesses trace l.lines l.suspects
      → Scans c trace l.first l.reader l.place (HasNoPartner trace l.lines l.first));
  room : CanCount l.place l.reader.left;
  same : g.F.Folder.state l.folder ≡ g.F.Folder.state l.fn.folder;
  no_fault : g.F.Folder.read_faults l.folder ≡ g.F.Folder.read_faults l.fn.folder;
}

abbrev pub decreases-records : goal.decreases-records
decreases-records g l = l.reader.left
