-- How a team stands after some of its phases.
use Rattle.std.specs.Prelude.{◌≡◌, ◌⊎◌, ◌++◌, ℕ, ◌+◌, ◌<◌, ◌≤◌, List, [], ◌∷◌, length, map, slice_index_or, Option, Some, None, Ok}
use Rattle.log_format.specs.Limit.{record_limit}
use Rattle.shared_words.specs.declared.view.View.{View}
use Rattle.shared_words.specs.Handles.{Belongs, HandValue, with_view}
use Rattle.shared_words.specs.Views.{IsAtRest}
use Rattle.std.specs.List.{flat_map}
use Rattle.log_format.specs.declared.record.Record.{Record}
use Rattle.race_model.specs.Trace.{barrier_count}
use Rattle.history_model.specs.Work.{Phases, lane_works, work_records}
use Rattle.history_model.specs.Joined.{LastIsEnd, PhasesEnd}
use Rattle.history_model.specs.Sound.{PassAllBarriers}
use Rattle.kernel_model.specs.declared.phase.Item.{Item}
use Rattle.kernel_model.specs.Parts.{bar_count, drawn_count}
use Rattle.kernel_model.specs.Phases.{part_of, parts_in}
use Rattle.lane_runner.specs.declared.stop.Halt.{Halt}
use Rattle.lane_runner.specs.Going.{IsSameLog, Progress, site}
use Rattle.region_runner.specs.Crew.{CrewValue, world_of}
use Rattle.region_runner.specs.Gathering.{ClosedValue}
use Rattle.region_runner.specs.Hands.{joined_with, lane_hand, parted_for}
use Rattle.region_runner.specs.LastPhase.{WentOn}
use Rattle.region_runner.specs.Opening.{ClosesAs}
use Rattle.lane_runner.specs.Lane.{IsWithoutHand, LaneValue, answer_due, halt_in, hand_view, progress, with_hand}
use Rattle.region_runner.specs.Ran.{TaskGoes, TakesUp, task_part}
use Rattle.region_runner.specs.Team.{DidPhases}

-- A lane that goes on can, with a new hand: its log has refused nothing and tells each fork, and it may draw as often as its log has room.
pub record MayStep (crew : CrewValue) (m : LaneValue) : Type 0 where
  pub unrefused : m.buffer.refused ≡ None
  pub drawing : Belongs m.tally.draws crew.chunks.table
  pub enough : record_limit ≤ m.tally.draws.view.left + m.buffer.count
  pub forks : m.tally.forked ≤ m.buffer.count

-- and it has the counters for the items of a phase
pub record MayGoOn (crew : CrewValue) (items : List Item) (m : LaneValue) : Type 0 where
  pub going : m.stopped ≡ None
  pub may : MayStep crew m
  pub counters : m.tally.next_loop + drawn_count (map part_of items) ≤ crew.chunks.loops

-- The lanes of the team executed a phase: each with a hand of its own, and all hands are home.
pub record RanPhase (crew : CrewValue) (items : List Item) (end : Option ℕ) (old new : HandValue View) (before after : List LaneValue) : Type 0 where
  pub mid : List LaneValue
  pub mid_count : length mid ≡ length before
  pub went : (k : ℕ) (d : LaneValue) → k < length before → WentOn (world_of crew k) items end (with_hand (slice_index_or before k d) (lane_hand old k)) (slice_index_or mid k d)
  pub rests : IsAtRest old.view
  pub hand : new ≡ with_view old (joined_with (map hand_view mid) (parted_for 0 crew.span crew.span old.view))
  pub count : length after ≡ length before
  pub same : (k : ℕ) (d : LaneValue) → k < length before → IsWithoutHand (slice_index_or mid k d) (slice_index_or after k d)

-- the records that a lane put in phases
abbrev pub records_put : ℕ → Phases → List Record
records_put lane phases = flat_map work_records (lane_works lane phases)

-- of these phases the last one has a barrier, if there is one, and before it a lane passes so many
pub record IsBehind (done : List (List Item)) (bars : ℕ) : Type 0 where
  pub earlier : List (List Item)
  pub last : List Item
  pub parts : done ≡ earlier ++ last ∷ []
  pub count : bars ≡ bar_count (parts_in earlier)

-- A lane, which was `start` before all phases, stands after these, and after its End, if it put one: who goes on has passed all
-- barriers, and who doesn't hasn't passed that of the last phase.
pub record LaneStands (crew : CrewValue) (start : LaneValue) (done : List (List Item)) (end : Option ℕ) (phases : Phases) (lane : ℕ) (m : LaneValue) : Type 0 where
  pub path : m.path ≡ start.path
  pub last : Progress
  pub up : TakesUp last (progress m)
  pub goes : TaskGoes (world_of crew lane) (task_part (site (world_of crew lane)) done end) start.locals m.locals (progress start) last (lane_works lane phases) (answer_due (halt_in m))
  pub log : IsSameLog start.buffer m.buffer
  pub loops : m.stopped ≡ None → m.tally.next_loop ≡ start.tally.next_loop + drawn_count (parts_in done)
  pub may : m.stopped ≡ None → MayStep crew m
  pub passes : m.stopped ≡ None → barrier_count (records_put lane phases) ≡ bar_count (parts_in done)
  pub ends : (line : ℕ) → end ≡ Some line → m.stopped ≡ None → LastIsEnd (records_put lane phases)
  pub behind : (h : Halt) → halt_in m ≡ Some h → IsBehind done (barrier_count (records_put lane phases))

-- so do all lanes of a team, and their hands are home
pub record TeamStands (crew : CrewValue) (done : List (List Item)) (end : Option ℕ) (phases : Phases) (old new : HandValue View) (before after : List LaneValue) : Type 0 where
  pub count : length after ≡ crew.span
  pub did : DidPhases crew.arrays crew.span old new phases
  pub lanes : (k : ℕ) (d : LaneValue) → k < crew.span → LaneStands crew (slice_index_or before k d) done end phases k (slice_index_or after k d)

-- all lanes go on
abbrev pub AllGo : List LaneValue → Type 0
AllGo lanes = (k : ℕ) (d : LaneValue) → k < length lanes → (slice_index_or lanes k d).stopped ≡ None

-- the team stands after these phases, and all its lanes go on
pub record HasPassed (crew : CrewValue) (items : List (List Item)) (old new : HandValue View) (before after : List LaneValue) : Type 0 where
  pub phases : Phases
  pub stands : TeamStands crew items None phases old new before after
  pub goes : AllGo after
  pub pass : PassAllBarriers phases

-- The lane has executed no phase yet: it has drawn from no counter, forked no region, and put no record.
pub record IsFresh (crew : CrewValue) (m : LaneValue) : Type 0 where
  pub going : m.stopped ≡ None
  pub may : MayStep crew m
  pub no_loop : m.tally.next_loop ≡ 0

-- the last of these phases has a barrier
pub record HasLastBar (done : List (List Item)) : Type 0 where
  pub earlier : List (List Item)
  pub last : List Item
  pub parts : done ≡ earlier ++ last ∷ []
  pub bar : bar_count (map part_of last) ≡ 1

-- The lanes of a team executed its phases, until one didn't go on. After all of them each that did put its End, at this line.
pub record TeamRan (crew : CrewValue) (items : List (List Item)) (line : ℕ) (old new : HandValue View) (before after : List LaneValue) : Type 0 where
  pub done : List (List Item)
  pub left : List (List Item)
  pub is : items ≡ done ++ left
  pub end : Option ℕ
  pub end_is : (end ≡ None) ⊎ ((end ≡ Some line) × (left ≡ []))
  pub phases : Phases
  pub stands : TeamStands crew done end phases old new before after
  pub ends : AllGo after → PhasesEnd phases
  pub early : end ≡ None → HasLastBar done

-- The lanes of a team executed its phases, and their logs were closed.
pub record TeamClosed (crew : CrewValue) (items : List (List Item)) (line : ℕ) (old new : HandValue View) (before : List LaneValue) (lanes : List ClosedValue) : Type 0 where
  pub after : List LaneValue
  pub ran : TeamRan crew items line old new before after
  pub count : length lanes ≡ crew.span
  pub closes : (k : ℕ) (d : LaneValue) (e : ClosedValue) → k < crew.span → ClosesAs (Ok (slice_index_or after k d)) (slice_index_or lanes k e)
