use Rattle.std.proofs.Common.{string_bytes, ◌≡◌, ◌+◌, ◌≤◌, List}
use Rattle.sw_base.specs.Environment.{WhereTold}
use Rattle.log_format.specs.declared.record.Record.{Record}
use Rattle.log_reader.specs.Reading.{StandsBefore}
use Rattle.log_listing.specs.Listing.{record_line}
use Rattle.log_listing.proofs.ListedRecords.{ListedTo}
use Rattle.log_listing.proofs.listing.list_records.Given as goal

abbrev pub invariant-records : goal.invariant-records
invariant-records g l = record {
  listed : WhereTold (g.F.Folder.state l.initial.folder).content (λ c. (events : List Record) → StandsBefore c l.initial.reader events
      → ListedTo record_line c l.reader events (g.O.Out.written l.initial.out) (string_bytes l.initial.lines) (g.O.Out.written l.out) (string_bytes l.lines) l.number);
  room : l.number + l.reader.left ≤ l.initial.reader.left + 1;
  same : g.F.Folder.state l.folder ≡ g.F.Folder.state l.initial.folder;
  no_fault : g.F.Folder.read_faults l.folder ≡ g.F.Folder.read_faults l.initial.folder;
  later_out : g.O.Out.faults l.initial.out ≤ g.O.Out.faults l.out;
}

abbrev pub decreases-records : goal.decreases-records
decreases-records g l = l.reader.left
