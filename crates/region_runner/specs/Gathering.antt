-- What the lanes of a team gave when their logs were closed, and what their region answers for it.
use Rattle.std.specs.Prelude.{◌≡◌, ◌≢◌, ◌⊎◌, ℕ, ◌<◌, ◌≤◌, List, [], ◌∷◌, ◌++◌, length, Bool, true, false, if◌then◌else◌, Option, Some, None, Ok, Err, is_some}
use Rattle.std.specs.List.{flat_map}
use Rattle.log_format.specs.Limit.{task_limit}
use Rattle.sw_base.specs.declared.path.Step.{Step}
use Rattle.sw_base.specs.declared.trouble.Trouble.{Trouble}
use Rattle.sw_base.specs.declared.trouble.Trouble.TheVariants.{Failed, Memory}
use Rattle.sw_base.specs.Environment.{WhereTold}
use Rattle.sw_base.specs.Names.{IsUnder}
use Rattle.log_format.specs.declared.format.TheConstants.{FORMAT}
use Rattle.log_format.specs.Format.{log_header}
use Rattle.history_model.specs.Work.{Work, work_regions}
use Rattle.execution_model.specs.Runs.{works_log}
use Rattle.shared_words.specs.declared.share.Share.{Share}
use Rattle.shared_words.specs.Handles.{HandValue}
use Rattle.lane_runner.specs.declared.stop.Halt.{Halt}
use Rattle.lane_runner.specs.declared.stop.Halt.TheVariants as halt
use Rattle.lane_runner.specs.declared.stop.Stop.{Stop}
use Rattle.lane_runner.specs.declared.stop.Stop.TheVariants as stop
use Rattle.lane_runner.specs.Forking.{Answer}
use Rattle.lane_runner.specs.Handed.{HandedEntry, HandsOn, LogPlace, MaybeStop}
use Rattle.lane_runner.specs.Lane.{stop_of}
use Rattle.region_runner.specs.declared.gathering.Verdict.{Verdict}
use Rattle.region_runner.specs.declared.gathering.Verdict.TheVariants.{Ended, Refused, Halted, Wanted}
use Rattle.region_runner.specs.Closing.{HasTaken}
use Rattle.region_runner.specs.Team.{handed_by}

-- A lane's path and its log, the logs of the tasks below it, why it didn't go on, if it didn't, why its log refused a record or what
-- waited, if it did, and its hand on the counters.
pub record ClosedValue : Type 0 where
  pub path : List Step
  pub own : HandedEntry
  pub below : List HandedEntry
  pub halt : Option Halt
  pub refused : Option Trouble
  pub draws : HandValue Share

-- what its hand on the counters knows
abbrev pub draws_view : ClosedValue → Share
draws_view c = c.draws.view

-- how the region that a lane forked last stopped, if that keeps the lane from going on
abbrev pub region_stop : Option Halt → MaybeStop
region_stop (Some (halt.Region path why)) = Some (path, why)
region_stop _ = None

-- The lane at this path put what these works put, and its log, which is of this place, has all of it, or a prefix where it refused.
pub record LaneGave (place : LogPlace) (works : List Work) (c : ClosedValue) : Type 0 where
  pub task : c.own.task ≡ c.path
  pub dir : c.own.dir ≡ place.dir
  pub own_path : c.own.path ≡ c.path
  pub tells : is_some c.own.text ≡ place.tells
  pub count : c.own.count ≡ length (works_log works)
  pub taken : WhereTold c.own.text (HasTaken c.refused (log_header FORMAT) (works_log works) place.size)
  pub failed : c.refused ≡ Some Failed → 0 < c.own.faults
  pub faultless : c.refused ≡ None → c.own.faults ≡ 0
  pub hands : HandsOn place (region_stop c.halt) c.path 0 (flat_map work_regions works) [] c.below
  pub refusal : (trouble : Trouble) → c.halt ≡ Some (halt.Own (stop.Trouble trouble)) → trouble ≢ Memory → c.refused ≡ Some trouble
  pub crowded : (line : ℕ) → c.halt ≡ Some (halt.Own (stop.Tasks line)) → task_limit < length c.below
  pub under : (path : List Step) (why : Stop) → c.halt ≡ Some (halt.Region path why) → IsUnder path c.path

-- A lane that made a stop, and whose log refused what waited then, stops by that. A lane of whose region a task stopped hands that on,
-- unless no memory was found to close its log.
abbrev pub stop_despite : List Step → Halt → Trouble → List Step × Stop
stop_despite path (halt.Region below why) Failed = (below, why)
stop_despite path h trouble = (path, stop.Trouble trouble)

-- how a lane stopped, if it did
abbrev pub lane_stop : List Step → Option Halt → Option Trouble → MaybeStop
lane_stop path None None = None
lane_stop path None (Some trouble) = Some (path, stop.Trouble trouble)
lane_stop path (Some h) None = Some (stop_of path h)
lane_stop path (Some h) (Some trouble) = Some (stop_despite path h trouble)

abbrev pub closed_stop : ClosedValue → MaybeStop
closed_stop c = lane_stop c.path c.halt c.refused

-- it is for want of memory
abbrev pub WantsMemory : MaybeStop → Type 0
WantsMemory None = ⊥
WantsMemory (Some s) = s.1 ≡ stop.Trouble Memory

-- what a lane hands on, if its logs found a place
abbrev pub kept_by : Bool → ClosedValue → List HandedEntry
kept_by kept c = if kept then c.own ∷ c.below else []

-- no memory was wanting for this lane
abbrev pub HasMemory : ClosedValue → Bool → Type 0
HasMemory c kept = (WantsMemory (closed_stop c) → ⊥) × (kept ≡ true)

-- The stop of lane k goes before what keeps lane j: lanes that didn't go on go before those whose logs refused what waited, and of
-- each the least does.
abbrev pub GoesBefore : ℕ → ClosedValue → ℕ → ClosedValue → Type 0
GoesBefore k c j d =
    ((c.halt ≢ None) × ((d.halt ≡ None) ⊎ (k ≤ j)))
    ⊎ ((c.halt ≡ None) × (d.halt ≡ None) × ((d.refused ≡ None) ⊎ (k ≤ j)))

-- What a region answers whose lanes gave this: Ok, where no lane stopped and all logs found a place; that memory was wanting, for the
-- least lane that tells so, or of which a task below does, or whose logs found no place; or else how the first of the lanes stopped.
pub data IsAnswer (span : ℕ) (lanes : ℕ → ClosedValue) (kept : ℕ → Bool) : Answer → Type 0 where
  all_ended : ((k : ℕ) → k < span → ((lanes k).halt ≡ None) × ((lanes k).refused ≡ None) × (kept k ≡ true)) → IsAnswer span lanes kept (Ok tt)
  wanted : (k : ℕ) (path : List Step) → k < span → (closed_stop (lanes k) ≡ Some (path, stop.Trouble Memory)) ⊎ ((path ≡ (lanes k).path) × (kept k ≡ false))
      → ((j : ℕ) → j < k → HasMemory (lanes j) (kept j)) → IsAnswer span lanes kept (Err (path, stop.Trouble Memory))
  stopped : (k : ℕ) (path : List Step) (why : Stop) → k < span → closed_stop (lanes k) ≡ Some (path, why) → ((j : ℕ) → j < span → HasMemory (lanes j) (kept j))
      → ((j : ℕ) → j < span → GoesBefore k (lanes k) j (lanes j)) → IsAnswer span lanes kept (Err (path, why))

-- The lanes were gathered: each handed on its own log and then those below it, or none of them where no memory was found for it; and
-- this is what their region answers.
pub record Gathered (span : ℕ) (lanes : ℕ → ClosedValue) (before after : List HandedEntry) (r : Answer) : Type 0 where
  pub kept : ℕ → Bool
  pub grows : after ≡ before ++ handed_by (λ k. kept_by (kept k) (lanes k)) 0 span
  pub answer : IsAnswer span lanes kept r

-- Of what lanes answer the one with the greatest urgency is their region's.
abbrev pub urgency_of : Verdict → ℕ
urgency_of Ended = 0
urgency_of (Refused path why) = 1
urgency_of (Halted path why) = 2
urgency_of (Wanted path) = 3

abbrev pub answer_for : Verdict → Answer
answer_for Ended = Ok tt
answer_for (Refused path why) = Err (path, why)
answer_for (Halted path why) = Err (path, why)
answer_for (Wanted path) = Err (path, stop.Trouble Memory)

-- what a lane answers, whose logs found a place or not
abbrev pub IsGathered : List Step → Option Halt → Option Trouble → Bool → Verdict → Type 0
IsGathered path halt refused kept Ended = (halt ≡ None) × (refused ≡ None) × (kept ≡ true)
IsGathered path halt refused kept (Refused at why) = (halt ≡ None) × (why ≢ stop.Trouble Memory) × (kept ≡ true) × (lane_stop path halt refused ≡ Some (at, why))
IsGathered path halt refused kept (Halted at why) = (halt ≢ None) × (why ≢ stop.Trouble Memory) × (kept ≡ true) × (lane_stop path halt refused ≡ Some (at, why))
IsGathered path halt refused kept (Wanted at) = (lane_stop path halt refused ≡ Some (at, stop.Trouble Memory)) ⊎ ((at ≡ path) × (kept ≡ false))

-- A lane's logs were put after others, or none of them, and it answers this.
pub record TookIn (c : ClosedValue) (before after : List HandedEntry) (v : Verdict) : Type 0 where
  pub kept : Bool
  pub grows : after ≡ before ++ kept_by kept c
  pub verdict : IsGathered c.path c.halt c.refused kept v
