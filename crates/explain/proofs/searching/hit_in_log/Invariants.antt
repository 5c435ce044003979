use Rattle.std.proofs.Common.{◌≡◌}
use Rattle.sw_base.specs.Environment.{WhereTold}
use Rattle.race_model.specs.Trace.{Trace, Node, logs_of}
use Rattle.explain.specs.Finding.{CanCount}
use Rattle.explain.specs.Suspects.{HoldPartners}
use Rattle.explain.specs.Witness.{HoldsListedRun, IsInLog, TellsRecord}
use Rattle.explain.proofs.Hits.{IsNoHit}
use Rattle.explain.proofs.Scanning.{Scans}
use Rattle.explain.proofs.searching.hit_in_log.Given as goal

abbrev pub invariant-records : goal.invariant-records
invariant-records g l = record {
  scans : WhereTold (g.F.Folder.state l.fn.folder).content (λ c. (trace : Trace) → HoldsListedRun c l.dir l.rows trace → (x : Node) → IsInLog trace l.first x
      → HoldPartners trace l.lines x l.met → TellsRecord (logs_of trace) x l.one → Scans c trace l.second l.reader l.place (IsNoHit trace l.lines x));
  room : CanCount l.place l.reader.left;
  same : g.F.Folder.state l.folder ≡ g.F.Folder.state l.fn.folder;
  no_fault : g.F.Folder.read_faults l.folder ≡ g.F.Folder.read_faults l.fn.folder;
}

abbrev pub decreases-records : goal.decreases-records
decreases-records g l = l.reader.left
