use Rattle.std.proofs.Common.{◌≡◌, ◌++◌, take}
use Rattle.std.specs.List.{flat_map}
use Rattle.log_format.specs.Spelling.{spelling}
use Rattle.generated_run.proofs.folder.spell.Given as goal

abbrev pub invariant-loop-record : goal.invariant-loop-record
invariant-loop-record l = l.bytes.items ≡ l.initial.bytes.items ++ flat_map spelling (take l.record-index l.records)
