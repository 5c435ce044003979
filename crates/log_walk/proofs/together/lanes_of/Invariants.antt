use Rattle.std.proofs.Common.{All, ℕ, ◌<◌, ◌≤◌, length}
use Rattle.log_walk.proofs.together.lanes_of.Given as goal

abbrev pub invariant-rows : goal.invariant-rows
invariant-rows l = record {
  within : All (λ (place : ℕ). place < length l.rows) l.lanes.items;
  few : length l.lanes.items ≤ 64;
}
