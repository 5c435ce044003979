-- What the lanes of a team drew, by their hands on the counters and by their logs.
use Rattle.std.specs.Prelude.{ℕ, zero, suc, List, [], ◌∷◌, ◌++◌}
use Rattle.log_format.specs.declared.record.Record.{Record}
use Rattle.kernel_model.specs.Chunking.{TellFirst}
use Rattle.shared_words.specs.declared.share.Share.{Share}
use Rattle.shared_words.specs.Draws.{regained}
use Rattle.lane_runner.specs.Drawing.{TellDraws}

-- The log of each lane tells what the lane drew, and how many chunks each loop has; all that was drawn, lane after lane.
pub data DrewByLogs (counts : List ℕ) : List (List Record) → List (ℕ × ℕ) → Type 0 where
  no_lane : DrewByLogs counts [] []
  lane : (records : List Record) (mine drawn : List (ℕ × ℕ)) (last : ℕ) (logs : List (List Record)) → TellDraws 0 records mine last → TellFirst counts records
      → DrewByLogs counts logs drawn → DrewByLogs counts (records ∷ logs) (mine ++ drawn)

-- what so many lanes drew, from this one on
abbrev pub drawn_by : (ℕ → List (ℕ × ℕ)) → ℕ → ℕ → List (ℕ × ℕ)
drawn_by mine first zero = []
drawn_by mine first (suc count) = mine first ++ drawn_by mine (suc first) count

-- the first hand on the counters once these were joined to it, one after another
abbrev pub regained_all : List Share → Share → Share
regained_all [] v = v
regained_all (w ∷ ws) v = regained_all ws (regained v w)
