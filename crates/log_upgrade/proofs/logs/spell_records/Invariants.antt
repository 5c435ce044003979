use Rattle.std.proofs.Common.{◌≡◌, ◌≤◌, List}
use Rattle.sw_base.specs.Environment.{WhereTold}
use Rattle.log_format.specs.declared.record.Record.{Record}
use Rattle.log_reader.specs.Reading.{StandsBefore}
use Rattle.log_upgrade.proofs.Spelled.{SpelledTo}
use Rattle.log_upgrade.proofs.logs.spell_records.Given as goal

abbrev pub invariant-records : goal.invariant-records
invariant-records g l = record {
  spelled : WhereTold (g.F.Folder.state l.fn.folder).content (λ c. (events : List Record) → StandsBefore c l.fn.reader events → SpelledTo c l.reader events l.bytes.items);
  same : g.F.Folder.state l.folder ≡ g.F.Folder.state l.fn.folder;
  no_fault : g.F.Folder.read_faults l.folder ≡ g.F.Folder.read_faults l.fn.folder;
}

abbrev pub decreases-records : goal.decreases-records
decreases-records g l = l.reader.left
