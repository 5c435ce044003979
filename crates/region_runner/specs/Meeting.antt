-- The lanes of a team with their hands: parted before a phase, and joined after it.
use Rattle.std.specs.Prelude.{◌≡◌, ℕ, ◌<◌, ◌≤◌, Bool, true, false, List, length, map, slice_index_or}
use Rattle.shared_words.specs.declared.view.View.{View}
use Rattle.shared_words.specs.Handles.{HandValue, with_view}
use Rattle.shared_words.specs.Views.{IsAtRest}
use Rattle.region_runner.specs.Hands.{joined_with, lane_hand, parted_for}
use Rattle.region_runner.specs.Stands.{AllGo}
use Rattle.lane_runner.specs.Lane.{IsWithoutHand, LaneValue, hand_view, with_hand}

-- Each lane of so many got a hand that was split off this one.
pub record PartsHands (span : ℕ) (old new : HandValue View) (before after : List LaneValue) : Type 0 where
  pub hand : new ≡ with_view old (parted_for 0 span span old.view)
  pub rests : 1 ≤ span → IsAtRest old.view
  pub count : length after ≡ span
  pub given : (k : ℕ) (d : LaneValue) → k < span → slice_index_or after k d ≡ with_hand (slice_index_or before k d) (lane_hand old k)

-- The hands of all lanes were joined to this one, in the order of the lanes.
pub record JoinsHands (old new : HandValue View) (before after : List LaneValue) : Type 0 where
  pub hand : new ≡ with_view old (joined_with (map hand_view before) old.view)
  pub count : length after ≡ length before
  pub same : (k : ℕ) (d : LaneValue) → k < length before → IsWithoutHand (slice_index_or before k d) (slice_index_or after k d)

-- They were, and whether each lane goes on is told.
pub record MeetsSo (goes : Bool) (old new : HandValue View) (before after : List LaneValue) : Type 0 where
  pub joins : JoinsHands old new before after
  pub all : goes ≡ true → AllGo after
  pub some : goes ≡ false → AllGo after → ⊥
