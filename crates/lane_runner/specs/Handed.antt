-- The logs that the regions of a task hand on: those of all tasks below it, region by region and lane by lane, each before those of the
-- tasks below it.
use Rattle.std.specs.Prelude.{◌≡◌, ◌⊎◌, ℕ, suc, ◌+◌, ◌<◌, ◌≤◌, Bool, List, [], ◌∷◌, ◌++◌, length, map, All, Contains, Option, Some, None, is_some}
use Rattle.std.specs.List.{flat_map}
use Rattle.log_format.specs.Limit.{task_limit}
use Rattle.sw_base.specs.declared.environment.Log.{Ghosts}
use Rattle.sw_base.specs.declared.closed_log.ClosedLog.{ClosedLog}
use Rattle.sw_base.specs.declared.path.Step.{Step}
use Rattle.sw_base.specs.declared.trouble.Trouble.TheVariants.{Failed, Memory}
use Rattle.sw_base.specs.Environment.{Text, WhereTold}
use Rattle.sw_base.specs.Names.{IsUnder}
use Rattle.log_format.specs.declared.record.Record.{Record}
use Rattle.log_format.specs.declared.format.TheConstants.{FORMAT}
use Rattle.log_format.specs.Format.{log_header}
use Rattle.race_model.specs.Listing.{lane_of}
use Rattle.race_model.specs.Trace.{TaskLog, Trace}
use Rattle.history_model.specs.Work.{Work, RegionWork, work_regions, lane_works}
use Rattle.execution_model.specs.Runs.{works_log}
use Rattle.event_buffer.specs.Buffered.{Buffered}
use Rattle.event_buffer.specs.Logged.{HasAll, KeepsPrefix}
use Rattle.lane_runner.specs.declared.stop.Stop.{Stop}
use Rattle.lane_runner.specs.declared.stop.Stop.TheVariants.{Trouble, Tasks}

-- a log that is handed on: the path of its task, what is seen of it, and how many records the task put
pub record HandedEntry : Type 0 where
  pub task : List Step
  pub dir : List ℕ
  pub path : List Step
  pub text : Option Text
  pub faults : ℕ
  pub count : ℕ

module _ {T : Type 0} (seen : Ghosts T) where
  abbrev pub entry_of : ClosedLog T → HandedEntry
  entry_of closed = record {
    task = closed.path;
    dir = seen.dir closed.log;
    path = seen.path closed.log;
    text = seen.text closed.log;
    faults = seen.faults closed.log;
    count = closed.records;
  }

  abbrev pub entries_of : List (ClosedLog T) → List HandedEntry
  entries_of es = map entry_of es

-- how the logs of a run are written: into which folder, from blocks of which size, and whether they tell their text
pub record LogPlace : Type 0 where
  pub dir : List ℕ
  pub size : ℕ
  pub tells : Bool

abbrev pub log_place : Buffered → LogPlace
log_place b = record { dir = b.dir; size = b.size; tells = is_some b.text }

-- there are no more than that
abbrev pub AreFew : List HandedEntry → Type 0
AreFew entries = length entries ≤ task_limit

-- how a region stopped, if it did: in the task of this path, so
abbrev pub MaybeStop : Type 0
MaybeStop = Option (List Step × Stop)

-- since no memory was found
abbrev pub IsForMemory : MaybeStop → Type 0
IsForMemory None = ⊥
IsForMemory (Some stopped) = stopped.1 ≡ Trouble Memory

abbrev pub IsTrouble : Stop → Type 0
IsTrouble (Trouble trouble) = Unit {0}
IsTrouble _ = ⊥

-- With so many faults the log of the task of this path may lack records, where the region stopped: since no memory was found, or
-- since the log counts a fault; but not where this task is the one that stopped, and stopped otherwise.
abbrev pub MayLack : MaybeStop → List Step → ℕ → Type 0
MayLack None path faults = ⊥
MayLack (Some stopped) path faults = (stopped.1 ≡ Trouble Memory) ⊎ ((0 < faults) × (path ≡ stopped.0 → IsTrouble stopped.1))

-- the log has all of these records; or a prefix of them, where it may lack some
pub data KeepsRecords (stop : MaybeStop) (path : List Step) (records : List Record) (size faults : ℕ) (text : Text) : Type 0 where
  whole : HasAll (log_header FORMAT) records size text → KeepsRecords stop path records size faults text
  torn : MayLack stop path faults → KeepsPrefix (log_header FORMAT) records size text → KeepsRecords stop path records size faults text

-- the log of the task of this path, which put these records; where the region ended, it counts no fault
pub record IsEntryOf (place : LogPlace) (stop : MaybeStop) (path : List Step) (records : List Record) (e : HandedEntry) : Type 0 where
  pub task : e.task ≡ path
  pub dir : e.dir ≡ place.dir
  pub own : e.path ≡ path
  pub tells : is_some e.text ≡ place.tells
  pub count : e.count ≡ length records
  pub keeps : WhereTold e.text (KeepsRecords stop path records place.size e.faults)
  pub faultless : stop ≡ None → e.faults ≡ 0

module _ (place : LogPlace) (stop : MaybeStop) where
  mutual
    -- the logs of the task of this path with these works, and of all tasks below it: one may be missing where no memory was found
    pub data TaskHands : List Step → List Work → List HandedEntry → Type 0 where
      given : (path : List Step) (works : List Work) (e : HandedEntry) (below : List HandedEntry) → IsEntryOf place stop path (works_log works) e
          → RegionsHand path 0 (flat_map work_regions works) below → TaskHands path works (e ∷ below)
      missing : (path : List Step) (works : List Work) (below : List HandedEntry) → IsForMemory stop
          → RegionsHand path 0 (flat_map work_regions works) below → TaskHands path works below

    -- those of the regions of this task, from this number on
    pub data RegionsHand : List Step → ℕ → List RegionWork → List HandedEntry → Type 0 where
      no_region : (path : List Step) (number : ℕ) → RegionsHand path number [] []
      region : (path : List Step) (number : ℕ) (first : RegionWork) (regions : List RegionWork) (mine others : List HandedEntry)
          → LanesHand path number first 0 first.span mine → RegionsHand path (number + 1) regions others → RegionsHand path number (first ∷ regions) (mine ++ others)

    -- those of so many lanes of a region, from this one on
    pub data LanesHand : List Step → ℕ → RegionWork → ℕ → ℕ → List HandedEntry → Type 0 where
      no_lane : (path : List Step) (number : ℕ) (region : RegionWork) (lane : ℕ) → LanesHand path number region lane 0 []
      lane : (path : List Step) (number : ℕ) (region : RegionWork) (lane left : ℕ) (mine others : List HandedEntry)
          → TaskHands (lane_of path number lane region.span) (lane_works lane region.phases) mine → LanesHand path number region (suc lane) left others
          → LanesHand path number region lane (suc left) (mine ++ others)

-- the log of the task of this path counts a fault
pub record HasFaultyLog (path : List Step) (entries : List HandedEntry) : Type 0 where
  pub log : HandedEntry
  pub is : Contains entries log
  pub task : log.task ≡ path
  pub faulty : 0 < log.faults

-- too many tasks are below that of this path: their logs follow its own
pub record HasCrowdedTask (path : List Step) (entries : List HandedEntry) : Type 0 where
  pub before : List HandedEntry
  pub own : HandedEntry
  pub below : List HandedEntry
  pub after : List HandedEntry
  pub parts : entries ≡ before ++ own ∷ (below ++ after)
  pub task : own.task ≡ path
  pub under : All (λ (e : HandedEntry). IsUnder e.task path) below
  pub many : task_limit < length below

-- why the region stopped, as its logs tell it: since a call on a log failed, or too many tasks were below one
pub record TellStop (stop : MaybeStop) (entries : List HandedEntry) : Type 0 where
  pub failed : (path : List Step) → stop ≡ Some (path, Trouble Failed) → HasFaultyLog path entries
  pub crowded : (path : List Step) (line : ℕ) → stop ≡ Some (path, Tasks line) → HasCrowdedTask path entries

-- the regions of the task of this path, from this number on, added their logs, of which the last stopped so, if one did
pub record HandsOn (place : LogPlace) (stop : MaybeStop) (path : List Step) (number : ℕ) (regions : List RegionWork) (old new : List HandedEntry) : Type 0 where
  pub added : List HandedEntry
  pub grows : new ≡ old ++ added
  pub hands : RegionsHand place stop path number regions added
  pub tell : TellStop stop added

-- these are the logs of these tasks, in their order: one may be missing where no memory was found
pub data AreEntriesOf (place : LogPlace) (stop : MaybeStop) : Trace → List HandedEntry → Type 0 where
  no_task : AreEntriesOf place stop [] []
  given : (task : TaskLog) (tasks : Trace) (e : HandedEntry) (entries : List HandedEntry) → IsEntryOf place stop task.path task.records e → AreEntriesOf place stop tasks entries
      → AreEntriesOf place stop (task ∷ tasks) (e ∷ entries)
  missing : (task : TaskLog) (tasks : Trace) (entries : List HandedEntry) → IsForMemory stop → AreEntriesOf place stop tasks entries → AreEntriesOf place stop (task ∷ tasks) entries

-- no path of theirs has more steps
abbrev pub AreNoDeeper : ℕ → List HandedEntry → Type 0
AreNoDeeper depth entries = All (λ (e : HandedEntry). length e.task ≤ depth) entries
