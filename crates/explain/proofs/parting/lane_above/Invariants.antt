use Rattle.std.proofs.Common.{◌≡◌, ℕ, ◌<◌, Some}
use Rattle.std.specs.Prelude.{slice_get}
use Rattle.race_model.specs.Row.{Row as TaskRow}
use Rattle.explain.specs.Witness.{IsLaneAbove}
use Rattle.explain.proofs.parting.lane_above.Given as goal

abbrev pub invariant-rows : goal.invariant-rows
invariant-rows l = record {
  none : (place : ℕ) (row : TaskRow) → place < l.place → slice_get l.rows place ≡ Some row → IsLaneAbove l.path l.level row.path → ⊥;
}
