use Rattle.std.proofs.Common.{◌≡◌, ◌≤◌, ◌*◌, ◌^◌, take, sum_by}
use Rattle.run_command.proofs.sealing.records_in.Given as goal

abbrev pub invariant-loop-row : goal.invariant-loop-row
invariant-loop-row l = record {
  counted : l.count ≡ sum_by (λ row. row.records) (take l.row-index l.rows);
  small : l.count ≤ l.row-index * 2 ^ 32;
}
