-- The rows of the run are those of a well-formed index, and the folder that it was put into holds it.
use Rattle.std.proofs.Common.{refl, ℕ, ◌<◌, ◌≤◌, [], map, get_or, arith}
use Rattle.std.specs.Prelude.{All}
use Rattle.std.specs.List.{range_with_len}
use Rattle.std.proofs.lemmas.List.Elements.{All-cons, All-map, All-nil}
use Rattle.std.proofs.lemmas.List.FromFn.{get_or-range_with_len}
use Rattle.race_model.specs.FirstBad.{row_of, rows_of}
use Rattle.race_model.specs.IndexFault.{AreRows, IsRow, IsStep}
use Rattle.race_model.specs.Listing.{Ends, Forks, Lane, NoLane}
use Rattle.generated_run.specs.Generated.{generated, log_of_lane, root_task}
use Rattle.generated_run.proofs.Counting.{lane_length}

lane_step : (lane : ℕ) → lane < 8 → IsStep (record { region = 0; lane = lane; span = 8 })
lane_step lane within = record { region = omega arith; span = record { some = omega arith; limit = omega arith }; lane = omega arith }

root_row : IsRow (row_of root_task)
root_row = record { depth = omega arith; steps = All-nil IsStep; records = record { some = omega arith; limit = omega arith } }

lane_row : (rounds lane : ℕ) → rounds ≤ 100000 → lane < 8 → IsRow (row_of (log_of_lane rounds lane))
lane_row rounds lane few within = record {
  depth = omega arith;
  steps = All-cons IsStep (record { region = 0; lane = lane; span = 8 }) [] (lane_step lane within) (All-nil IsStep);
  records = let long = lane_length rounds lane in record { some = long.0; limit = omega (arith, long.1, few) };
}

lane_rows : (rounds : ℕ) → rounds ≤ 100000 → All IsRow (map (λ (lane : ℕ). row_of (log_of_lane rounds lane)) (range_with_len 0 8))
lane_rows rounds few = All-map IsRow (λ (lane : ℕ). row_of (log_of_lane rounds lane)) (range_with_len 0 8)
    (λ k d within. lane_row rounds (get_or (range_with_len 0 8) k d) few (omega (arith, within, get_or-range_with_len 0 8 k d within)))

pub generated_rows : (rounds : ℕ) → 1 ≤ rounds → rounds ≤ 100000 → AreRows (rows_of (generated rounds))
generated_rows rounds some few = record {
  lists = record { root = Forks Ends (Lane Ends (Lane Ends (Lane Ends (Lane Ends (Lane Ends (Lane Ends (Lane Ends NoLane))))))) Ends; lists = refl };
  each = All-cons IsRow (row_of root_task) (map (λ (lane : ℕ). row_of (log_of_lane rounds lane)) (range_with_len 0 8)) root_row (lane_rows rounds few);
  limit = omega arith;
}
