-- The logs of a team's lanes, when they are opened.
use Rattle.std.specs.Prelude.{◌≡◌, ◌≢◌, ℕ, ◌<◌, List, [], length, ℤ, None, Result, Ok, Err, IsErr, IsOk, slice_index_or}
use Rattle.sw_base.specs.declared.path.Step.{Step}
use Rattle.race_model.specs.Listing.{lane_of}
use Rattle.shared_words.specs.declared.share.Share.{Share}
use Rattle.shared_words.specs.Draws.{lent_share, whole_share}
use Rattle.shared_words.specs.Handles.{HandValue, with_view}
use Rattle.lane_runner.specs.Handed.{LogPlace}
use Rattle.region_runner.specs.Begins.{LaneBegins}
use Rattle.region_runner.specs.Closing.{IsClosedAs}
use Rattle.region_runner.specs.Gathering.{ClosedValue, LaneGave}
use Rattle.lane_runner.specs.Lane.{LaneValue, halt_in}
use Rattle.region_runner.specs.declared.opening.Opened.{Opened}
use Rattle.region_runner.specs.declared.opening.Opened.TheVariants.{Team, Torn, Nothing}

-- The lane at this path executed nothing, and its log is closed.
pub record GaveNothing (place : LogPlace) (path : List Step) (draws : HandValue Share) (c : ClosedValue) : Type 0 where
  pub path_is : c.path ≡ path
  pub none_halted : c.halt ≡ None
  pub draws_are : c.draws ≡ draws
  pub gave : LaneGave place [] c

-- its log was opened, or refused
abbrev pub OpensAs : LogPlace → List Step → List ℤ → HandValue Share → Result LaneValue ClosedValue → Type 0
OpensAs place path slots draws (Ok m) = LaneBegins place path slots draws m
OpensAs place path slots draws (Err c) = GaveNothing place path draws c × (c.refused ≢ None)

-- the hand on the counters that each lane gets
abbrev pub lent_hand : HandValue Share → HandValue Share
lent_hand share = with_view share lent_share

-- the first hand on the counters once it has split off hands for so many lanes
abbrev pub lent_to : ℕ → HandValue Share → HandValue Share
lent_to count share = with_view share (record whole_share { splits = count; out = count })

-- all lanes of the region of this number of the task `at` begin
pub record AreLanes (place : LogPlace) (at : List Step) (number span : ℕ) (slots : List ℤ) (share : HandValue Share) (lanes : List LaneValue) : Type 0 where
  pub count : length lanes ≡ span
  pub each : (k : ℕ) (d : LaneValue) → k < span → LaneBegins place (lane_of at number k span) slots (lent_hand share) (slice_index_or lanes k d)

-- none of them executed anything, and the log of one refused
pub record AreTorn (place : LogPlace) (at : List Step) (number span : ℕ) (share : HandValue Share) (lanes : List ClosedValue) : Type 0 where
  pub count : length lanes ≡ span
  pub each : (k : ℕ) (d : ClosedValue) → k < span → GaveNothing place (lane_of at number k span) (lent_hand share) (slice_index_or lanes k d)
  pub torn : ℕ
  pub within : torn < span
  pub refused : (d : ClosedValue) → (slice_index_or lanes torn d).refused ≢ None

-- all logs were opened
abbrev pub AllOpen : List (Result LaneValue ClosedValue) → Type 0
AllOpen opened = (k : ℕ) (d : Result LaneValue ClosedValue) → k < length opened → IsOk (slice_index_or opened k d)

-- one refused
pub record OneTorn (opened : List (Result LaneValue ClosedValue)) : Type 0 where
  pub torn : ℕ
  pub within : torn < length opened
  pub refused : (d : Result LaneValue ClosedValue) → IsErr (slice_index_or opened torn d)

-- a lane whose log was opened and closed, or refused
abbrev pub ClosesAs : Result LaneValue ClosedValue → ClosedValue → Type 0
ClosesAs (Ok m) c =
    (c.path ≡ m.path) × IsClosedAs c.own c.refused m.path m.buffer × (c.below ≡ m.done) × (c.draws ≡ m.tally.draws) × (c.halt ≡ halt_in m)
ClosesAs (Err torn) c = c ≡ torn

-- The first hand on the counters has split off a hand for each lane; and all lanes begin, or none of them executed anything.
abbrev pub OpensTeam : {T : Type 0} → LogPlace → List Step → ℕ → ℕ → List ℤ → HandValue Share → HandValue Share → Opened T → Type 0
OpensTeam place at number span slots old new (Team lanes) = AreLanes place at number span slots old lanes.items × (new ≡ lent_to span old)
OpensTeam place at number span slots old new (Torn lanes) = AreTorn place at number span old lanes.items × (new ≡ lent_to span old)
OpensTeam place at number span slots old new Nothing = Unit {0}
