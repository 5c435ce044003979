use Rattle.std.proofs.Common.{◌≡◌, map, take}
use Rattle.run_command.specs.Seals.{row_of_entry}
use Rattle.run_command.proofs.sealing.index_rows.Given as goal

abbrev pub invariant-loop-closed : goal.invariant-loop-closed
invariant-loop-closed g l = l.rows.items ≡ map row_of_entry (take l.closed-index l.logs)
