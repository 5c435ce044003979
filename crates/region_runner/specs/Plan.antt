-- What a team is to do, and how it stands before and after each of its phases.
use Rattle.std.specs.Prelude.{◌≡◌, ℕ, ◌+◌, ◌-◌, ◌<◌, ◌≤◌, ◌==◌, Bool, List, [], length, map, take, slice_index_or, if◌then◌else◌, All, Option, Some, None}
use denote.Ref.{MutBor}
use Rattle.std.specs.Global.{Vec}
use Rattle.team_live.specs.Phases.{DoesPhases}
use Rattle.kernel_model.specs.declared.phase.Item.{Item}
use Rattle.kernel_model.specs.Parts.{drawn_count}
use Rattle.kernel_model.specs.Phases.{AreDivided, parts_in}
use Rattle.shared_words.specs.declared.view.View.{View}
use Rattle.shared_words.specs.Handles.{Belongs, HandValue}
use Rattle.lane_runner.specs.Lane.{CanGoOn, LaneValue}
use Rattle.region_runner.specs.Crew.{CrewValue, world_of}
use Rattle.region_runner.specs.Ground.{GroundValue, IsOurLane, IsOurPhase, crew_of}
use Rattle.region_runner.specs.LastPhase.{WentOn}
use Rattle.region_runner.specs.Meeting.{PartsHands}
use Rattle.region_runner.specs.Stands.{HasPassed, IsFresh, TeamRan}

-- What all regions of the run have in common, how deep its lanes can fork, its crew, its phases, and the line of the End after the last one.
pub record PlanValue : Type 0 where
  pub ground : GroundValue
  pub depth : ℕ
  pub crew : CrewValue
  pub phases : List (List Item)
  pub line : ℕ

abbrev pub plan_of : GroundValue → ℕ → CrewValue → List (List Item) → ℕ → PlanValue
plan_of ground depth crew phases line = record { ground = ground; depth = depth; crew = crew; phases = phases; line = line }

-- a lawful team can do so
pub record IsPlan (p : PlanValue) : Type 0 where
  pub crew_is : p.crew ≡ crew_of p.ground p.crew.chunks p.crew.span
  pub number : p.crew.chunks.loops < 4294967296
  pub some : 1 ≤ p.crew.span
  pub span : p.crew.span ≤ 64
  pub lawful : All (IsOurPhase p.ground (4 - p.depth)) p.phases
  pub divided : AreDivided p.phases
  pub counters : drawn_count (parts_in p.phases) ≤ p.crew.chunks.loops
  pub end : 1 ≤ p.line

-- the items of the phase of this number
abbrev pub items_at : PlanValue → ℕ → List Item
items_at p number = slice_index_or p.phases number []

-- the line of the End after it, if it is the last one
abbrev pub end_at : PlanValue → ℕ → Option ℕ
end_at p number = if number + 1 == length p.phases then Some p.line else None

-- a lane of this number may do its part of the phase
pub record MayDo (p : PlanValue) (number index : ℕ) (m : LaneValue) : Type 0 where
  pub within : number < length p.phases
  pub lane : index < p.crew.span
  pub can : CanGoOn (world_of p.crew index) (items_at p number) m
  pub own : IsOurLane p.ground p.depth m

-- and did it
abbrev pub Did : PlanValue → ℕ → ℕ → LaneValue → LaneValue → Type 0
Did p number index old new = WentOn (world_of p.crew index) (items_at p number) (end_at p number) old new

-- a team before its first phase: its plan, its hand and its lanes
pub record TeamValue : Type 0 where
  pub plan : PlanValue
  pub hand : HandValue View
  pub lanes : List LaneValue

abbrev pub team_of_plan : PlanValue → HandValue View → List LaneValue → TeamValue
team_of_plan plan hand lanes = record { plan = plan; hand = hand; lanes = lanes }

-- it can begin
pub record CanBegin (t : TeamValue) : Type 0 where
  pub plan : IsPlan t.plan
  pub count : length t.lanes ≡ t.plan.crew.span
  pub belongs : Belongs t.hand t.plan.ground.words.table
  pub none_out : t.hand.view.out ≡ []
  pub fresh : (k : ℕ) (d : LaneValue) → k < length t.lanes → IsFresh t.plan.crew (slice_index_or t.lanes k d)
  pub own : (k : ℕ) (d : LaneValue) → k < length t.lanes → IsOurLane t.plan.ground t.plan.depth (slice_index_or t.lanes k d)

-- Before a phase it has passed all earlier ones, and after the last one it ran.
pub record StandsAt (t : TeamValue) (number : ℕ) (hand : HandValue View) (lanes : List LaneValue) : Type 0 where
  pub passed : number < length t.plan.phases → HasPassed t.plan.crew (take number t.plan.phases) t.hand hand t.lanes lanes
  pub ran : number ≡ length t.plan.phases → TeamRan t.plan.crew t.plan.phases t.plan.line t.hand hand t.lanes lanes

-- when its lanes are parted for the phase of this number
pub record IsParted (t : TeamValue) (number : ℕ) (hand : HandValue View) (lanes : List LaneValue) : Type 0 where
  pub home : HandValue View
  pub prev : List LaneValue
  pub passed : HasPassed t.plan.crew (take number t.plan.phases) t.hand home t.lanes prev
  pub parts : PartsHands t.plan.crew.span home hand prev lanes

-- and after a phase in which a lane stopped
abbrev pub LeavesOff : TeamValue → ℕ → HandValue View → List LaneValue → Type 0
LeavesOff t number hand lanes = TeamRan t.plan.crew t.plan.phases t.plan.line t.hand hand t.lanes lanes

module _ {M : Type 0} (seen : M → LaneValue) where
  -- the same of lanes of which a value is seen
  abbrev pub of_lane : (ℕ → ℕ → LaneValue → Type 0) → ℕ → ℕ → M → Type 0
  of_lane may number index lane = may number index (seen lane)

  abbrev pub of_step : (ℕ → ℕ → LaneValue → LaneValue → Type 0) → ℕ → ℕ → M → M → Type 0
  of_step did number index before after = did number index (seen before) (seen after)

  abbrev pub of_lanes : (ℕ → HandValue View → List LaneValue → Type 0) → ℕ → HandValue View → List M → Type 0
  of_lanes stands number hand lanes = stands number hand (map seen lanes)

  -- The closures of a team of this many lanes keep what its plan says of each phase, as it is seen of the lanes.
  abbrev pub DoesPlan : (ℕ → ℕ → MutBor M → Type 0) → (ℕ → ℕ → MutBor M → Unit {0} → MutBor M → Type 0) → (MutBor (HandValue View) → MutBor (Vec M) → Type 0) → (MutBor (HandValue View) → MutBor (Vec M) → Unit {0} → MutBor (HandValue View) → MutBor (Vec M) → Type 0)
      → (MutBor (HandValue View) → MutBor (Vec M) → Type 0) → (MutBor (HandValue View) → MutBor (Vec M) → Bool → MutBor (HandValue View) → MutBor (Vec M) → Type 0) → ℕ → TeamValue → Type 0
  DoesPlan task_accepts task_gives part_accepts part_gives meet_accepts meet_gives span t =
      DoesPhases task_accepts task_gives part_accepts part_gives meet_accepts meet_gives span (length t.plan.phases) (of_lanes (StandsAt t)) (of_lanes (IsParted t)) (of_lanes (LeavesOff t)) (of_lane (MayDo t.plan)) (of_step (Did t.plan))
