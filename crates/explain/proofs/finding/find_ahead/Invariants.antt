use Rattle.std.proofs.Common.{◌≡◌, List}
use Rattle.sw_base.specs.Environment.{WhereTold}
use Rattle.log_format.specs.declared.record.Record.{Record as LogRecord}
use Rattle.log_reader.specs.Reading.{StandsBefore}
use Rattle.explain.specs.Finding.{EachMayFollow, CanCount}
use Rattle.explain.proofs.Looking.{Passed}
use Rattle.explain.proofs.finding.find_ahead.Given as goal

abbrev pub invariant-records : goal.invariant-records
invariant-records g l = record {
  passed : WhereTold (g.F.Folder.state l.fn.folder).content (λ c. (events : List LogRecord) → StandsBefore c l.fn.reader events → EachMayFollow events
      → Passed c l.which l.reader l.place events);
  room : CanCount l.place l.reader.left;
  same : g.F.Folder.state l.folder ≡ g.F.Folder.state l.fn.folder;
  no_fault : g.F.Folder.read_faults l.folder ≡ g.F.Folder.read_faults l.fn.folder;
}

abbrev pub decreases-records : goal.decreases-records
decreases-records g l = l.reader.left
