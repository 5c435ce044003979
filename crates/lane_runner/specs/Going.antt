-- How a lane goes on: what its records, its hand and its locals have to do with the meaning of what it executes.
use Rattle.std.specs.Prelude.{true, ◌≡◌, ◌⊎◌, ℕ, ◌+◌, ◌-◌, ◌≤◌, List, [], ◌∷◌, ◌++◌, length, map, reverse, ◌<◌, ℤ, Some, None, Result, Ok, Err, is_some}
use Rattle.log_format.specs.Limit.{record_limit, task_limit}
use Rattle.sw_base.specs.declared.trouble.Trouble.{Trouble}
use Rattle.sw_base.specs.declared.trouble.Trouble.TheVariants.{Memory}
use Rattle.log_format.specs.declared.record.Record.{Record}
use Rattle.kernel_syntax.specs.declared.syntax.Array.{Array}
use Rattle.sw_base.specs.declared.path.Step.{Step}
use Rattle.kernel_syntax.specs.Program.{Program}
use Rattle.kernel_model.specs.declared.stop.StopWhy.TheVariants as reason
use Rattle.kernel_model.specs.State.{State, Fork, Outcome, state_of, reads_of, chunks_of}
use Rattle.kernel_model.specs.Value.{Site}
use Rattle.kernel_model.specs.Effect.{Finish, Returned, Halted, Makes, Effect, state_with}
use Rattle.shared_words.specs.declared.view.View.{View}
use Rattle.shared_words.specs.Handles.{HandValue, Belongs, with_view}
use Rattle.shared_words.specs.Views.{rest}
use Rattle.history_model.specs.Work.{Work, RegionWork, work_records, work_regions}
use Rattle.race_model.specs.Trace.{barrier_count}
use Rattle.race_model.specs.Race.{held_after}
use Rattle.race_model.specs.History.{release}
use Rattle.history_model.specs.Sound.{IsSound}
use Rattle.history_model.specs.Did as tree
use Rattle.history_model.specs.Did.{split_count}
use Rattle.execution_model.specs.Runs.{put_records, RunsRegions}
use Rattle.event_buffer.specs.Buffered.{Buffered, MayPut}
use Rattle.event_buffer.specs.Logged.{HoldsRecords}
use Rattle.event_buffer.specs.declared.fault.BufferFault.{BufferFault}
use Rattle.event_buffer.specs.declared.fault.BufferFault.TheVariants as fault
use Rattle.lane_runner.specs.declared.stop.Halt.{Halt}
use Rattle.lane_runner.specs.declared.stop.Stop.{Stop}
use Rattle.lane_runner.specs.declared.stop.Halt.TheVariants as halt
use Rattle.lane_runner.specs.declared.stop.Stop.TheVariants as stop
use Rattle.lane_runner.specs.Drawing.{Tally, HasDrawn}
use Rattle.lane_runner.specs.Handed.{HandedEntry, HandsOn, MaybeStop, AreFew, log_place}
use Rattle.lane_runner.specs.Stopping.{HaveEnded, StopsAtLast}
use Rattle.execution_model.specs.Stops.{LastIsRegion, LastIsRegionAt}
use Rattle.execution_model.specs.Elements.{element_word, layout_of}
use Rattle.lane_runner.specs.World.{WorldValue}

-- where a lane runs
abbrev pub site : WorldValue → Site
site w = record { arrays = w.arrays; lane = w.lane; span = w.span }

-- what of a lane changes with each step: its hand, the buffer before its log, what it drew, and the logs that its regions handed on
pub record Progress : Type 0 where
  pub hand : HandValue View
  pub buffer : Buffered
  pub tally : Tally
  pub done : List HandedEntry

-- the lane can go on: its hands belong to the words and to the counters, all that were split off the first are home, its log has
-- refused nothing and tells each fork, and it may draw as often as its log has room
pub record CanGo (w : WorldValue) (p : Progress) : Type 0 where
  pub belongs : Belongs p.hand w.words.table
  pub home : p.hand.view.out ≡ []
  pub unrefused : p.buffer.refused ≡ None
  pub drawing : Belongs p.tally.draws w.chunks.table
  pub enough : record_limit ≤ p.tally.draws.view.left + p.buffer.count
  pub forks : p.tally.forked ≤ p.buffer.count

-- a record can be put: the hand is there, and the log has refused nothing
pub record CanPut (p : Progress) : Type 0 where
  pub there : p.hand.there ≡ true
  pub unrefused : p.buffer.refused ≡ None

-- the mutex, one of those of the words, was won last
pub record IsWonLast (w : WorldValue) (v : View) (mutex : ℕ) : Type 0 where
  pub within : mutex < w.words.locks
  pub last : v.held ≡ mutex ∷ rest v.held

-- the records that a work puts into its log
abbrev pub log_of : Work → List Record
log_of work = put_records (work_records work)

-- a hand's view once it did the work
abbrev pub worked : (ℕ → ℕ) → View → Work → View
worked word v work = record v { splits = v.splits + split_count work; items = v.items ++ tree.did word v.name v.splits work }

-- a task's log has gained these records
pub record GainsRecords (old new : Buffered) (added : List Record) : Type 0 where
  pub records : (header : List ℕ) (records : List Record) → HoldsRecords header old records → HoldsRecords header new (records ++ added)
  pub count : new.count ≡ old.count + length added
  pub path : new.path ≡ old.path
  pub place : log_place new ≡ log_place old

-- it is the same log before and after
pub record IsSameLog (old new : Buffered) : Type 0 where
  pub dir : new.dir ≡ old.dir
  pub path : new.path ≡ old.path
  pub size : new.size ≡ old.size
  pub tells : is_some new.text ≡ is_some old.text
  pub later : old.faults ≤ new.faults

-- the lane did the work, past so many barriers of the team: its hand has the steps, its log the records, and its counts the draws and
-- the forks
pub record HasDonePast (bars : ℕ) (w : WorldValue) (old new : Progress) (work : Work) : Type 0 where
  pub hand : new.hand ≡ with_view old.hand (worked (element_word w.arrays) old.hand.view work)
  pub log : GainsRecords old.buffer new.buffer (log_of work)
  pub draws : HasDrawn old.tally new.tally (log_of work)
  pub forked : new.tally.forked ≡ old.tally.forked + length (work_regions work)
  pub told : length (work_regions work) ≤ length (log_of work)
  pub sound : IsSound (layout_of w.arrays) work
  pub barriers : barrier_count (work_records work) ≡ bars

-- past none
abbrev pub HasDone : WorldValue → Progress → Progress → Work → Type 0
HasDone w old new work = HasDonePast 0 w old new work

-- the state goes on from these records and forks
pub record GoesOnFrom (s : State) (records : List Record) (forks : List Fork) : Type 0 where
  pub more : List Record
  pub later : List Fork
  pub records_are : s.records ≡ records ++ more
  pub forks_are : s.forks ≡ forks ++ later

-- The part puts these records first and forks these regions, whatever was put and forked before, where it reads and draws what its
-- own records tell.
pub record BeginsPart {A : Type 0} (part : State → Outcome A) (slots : List ℤ) (room : ℕ) (added : List Record) (forks : List Fork) : Type 0 where
  pub within : length added ≤ room
  pub begins : (records : List Record) (before : List Fork) (reads : List ℤ) (chunks : List ℕ) →
      GoesOnFrom (state_of (part (state_with slots records before room (reads_of added ++ reads) (chunks_of added ++ chunks)))) (records ++ added) (before ++ forks)

-- What a work put is its log, and then the unlocks of what it holds at its end: these mutexes, the innermost first, beside those
-- that it held before. Who holds one forks no region.
pub record HasReleased (before : List ℕ) (work : Work) (own : List ℕ) : Type 0 where
  pub records : work_records work ≡ log_of work ++ map release own
  pub held : held_after (reverse before) (log_of work) ≡ reverse (own ++ before)
  pub apart : (before ≡ []) ⊎ (work_regions work ≡ [])

-- who executes a part to its end holds nothing of it any more
abbrev pub ClosesAll : {A : Type 0} → Finish A → List ℕ → Type 0
ClosesAll (Returned a) own = own ≡ []
ClosesAll (Halted why line) own = Unit {0}

-- what keeps a lane from going on: its log refused a record, in the region that it forked last the task of this path stopped so, or
-- once that region, at this line, had ended, too many tasks were below its own
pub data Cause : Type 0 where
  AtLog : Cause
  AtRegion : (path : List Step) → (why : Stop) → Cause
  AtTasks : (line : ℕ) → Cause

-- how the records of who doesn't go on end, where it held these mutexes
abbrev pub EndsBy : Cause → List ℕ → List Record → Type 0
EndsBy AtLog own records = Unit {0}
EndsBy (AtRegion path why) own records = (own ≡ []) × LastIsRegion records
EndsBy (AtTasks line) own records = (own ≡ []) × LastIsRegionAt line records

-- the logs of these regions but the last, with those handed on before, are no more than may be, and those of the last follow them
pub record AreFewBefore (stop : MaybeStop) (old new : Progress) (regions : List RegionWork) : Type 0 where
  pub before : List RegionWork
  pub last : RegionWork
  pub regions_are : regions ≡ before ++ last ∷ []
  pub earlier : List HandedEntry
  pub few : AreFew old.done → AreFew earlier
  pub handed : HandsOn (log_place old.buffer) stop old.buffer.path (old.tally.forked + length before) (last ∷ []) earlier new.done

-- what the regions forked have to do with it, where the task has forked others before
abbrev pub StopsBy : List Array → Progress → Progress → Cause → List Fork → List RegionWork → Type 0
StopsBy arrays before after AtLog forks regions = HaveEnded regions × (AreFew before.done → AreFew after.done)
StopsBy arrays before after (AtRegion path why) forks regions = StopsAtLast arrays before.buffer.path before.tally.forked path why forks regions × AreFewBefore (Some (path, why)) before after regions
StopsBy arrays before after (AtTasks line) forks regions = HaveEnded regions × (task_limit < length after.done) × AreFewBefore None before after regions

-- how the last of them stopped, if it did
abbrev pub stop_by : Cause → MaybeStop
stop_by AtLog = None
stop_by (AtRegion path why) = Some (path, why)
stop_by (AtTasks line) = None

-- the regions that the work forked added their logs to those handed on before
abbrev pub WorkHandsOn : MaybeStop → Progress → Progress → Work → Type 0
WorkHandsOn stop old new work = HandsOn (log_place old.buffer) stop old.buffer.path old.tally.forked (work_regions work) old.done new.done

-- what of the meaning of a part its work has made
abbrev pub effect_of : List ℤ → Work → List Fork → Effect
effect_of slots work forks = record { slots = slots; added = log_of work; forks = forks }

-- The lane executed the part, past so many barriers of the team; it ends so and leaves these locals.
pub record MadePast {A : Type 0} (bars : ℕ) (w : WorldValue) (part : State → Outcome A) (slots slots' : List ℤ) (old new : Progress) (finish : Finish A) : Type 0 where
  pub work : Work
  pub forks : List Fork
  pub own : List ℕ
  pub done : HasDonePast bars w old new work
  pub released : HasReleased old.hand.view.held work own
  pub closes : ClosesAll finish own
  pub ended : HaveEnded (work_regions work)
  pub handed : WorkHandsOn None old new work
  pub few : AreFew old.done → AreFew new.done
  pub unrefused : new.buffer.refused ≡ None
  pub makes : Makes part slots (record_limit - old.buffer.count) (effect_of slots' work forks) finish
  pub regions : (program : Program) → program.arrays ≡ w.arrays → RunsRegions program forks (work_regions work)

-- past none
abbrev pub Made : {A : Type 0} → WorldValue → (State → Outcome A) → List ℤ → List ℤ → Progress → Progress → Finish A → Type 0
Made w part slots slots' old new finish = MadePast 0 w part slots slots' old new finish

-- The lane executed the part up to a record that its log, or a region that its lanes, didn't take.
pub record Began {A : Type 0} (w : WorldValue) (part : State → Outcome A) (slots : List ℤ) (old new : Progress) (cause : Cause) : Type 0 where
  pub work : Work
  pub forks : List Fork
  pub own : List ℕ
  pub done : HasDone w old new work
  pub released : HasReleased old.hand.view.held work own
  pub ends : EndsBy cause own (log_of work)
  pub stops : StopsBy w.arrays old new cause forks (work_regions work)
  pub handed : WorkHandsOn (stop_by cause) old new work
  pub begins : BeginsPart part slots (record_limit - old.buffer.count) (log_of work) forks
  pub regions : (program : Program) → program.arrays ≡ w.arrays → RunsRegions program forks (work_regions work)

-- nothing was put, whatever the log took
pub record Waits (old new : Progress) : Type 0 where
  pub hand : new.hand ≡ old.hand
  pub records : (header : List ℕ) (records : List Record) → HoldsRecords header old.buffer records → HoldsRecords header new.buffer records
  pub count : new.buffer.count ≡ old.buffer.count
  pub path : new.buffer.path ≡ old.buffer.path
  pub place : log_place new.buffer ≡ log_place old.buffer
  pub tally : new.tally ≡ old.tally
  pub done : new.done ≡ old.done

-- and one record more may be put
pub record HasRoomFor (old new : Progress) : Type 0 where
  pub waits : Waits old new
  pub may_put : MayPut new.buffer

-- the log refused so, where it wasn't memory that wasn't found
pub record Refused (trouble : Trouble) (new : Progress) : Type 0 where
  pub refused : (trouble ≡ Memory → ⊥) → new.buffer.refused ≡ Some trouble

-- the answer of a lane for a part of a statement, where the part answers a value or the stop of the lane's own task
abbrev pub lane_answer : {A : Type 0} → Result A Stop → Result A Halt
lane_answer (Ok v) = Ok v
lane_answer (Err why) = Err (halt.Own why)

-- How the execution of a part ends, by what is answered: past so many barriers of the team where it ends without a stop, and else past
-- none.
abbrev pub GoesPast : {A : Type 0} → ℕ → WorldValue → (State → Outcome A) → List ℤ → List ℤ → Progress → Progress → Result A Halt → Type 0
GoesPast bars w part slots slots' old new (Ok v) = MadePast bars w part slots slots' old new (Returned v)
GoesPast bars w part slots slots' old new (Err (halt.Own (stop.DivZero line))) = Made w part slots slots' old new (Halted reason.DivZero line)
GoesPast bars w part slots slots' old new (Err (halt.Own (stop.Index line))) = Made w part slots slots' old new (Halted reason.Index line)
GoesPast bars w part slots slots' old new (Err (halt.Own (stop.LogFull line))) = Made w part slots slots' old new (Halted reason.LogFull line)
GoesPast bars w part slots slots' old new (Err (halt.Region path why)) = Began w part slots old new (AtRegion path why)
GoesPast bars w part slots slots' old new (Err (halt.Own (stop.Tasks line))) = Began w part slots old new (AtTasks line)
GoesPast bars w part slots slots' old new (Err (halt.Own (stop.Trouble trouble))) = Began w part slots old new AtLog × Refused trouble new

-- past none
abbrev pub Goes : {A : Type 0} → WorldValue → (State → Outcome A) → List ℤ → List ℤ → Progress → Progress → Result A Halt → Type 0
Goes w part slots slots' old new r = GoesPast 0 w part slots slots' old new r

-- one record was put, after its step, which left this view
pub record PutsRecord (event : Record) (after : View) (old new : Progress) : Type 0 where
  pub hand : new.hand ≡ with_view old.hand after
  pub log : GainsRecords old.buffer new.buffer (event ∷ [])
  pub below : old.buffer.count < record_limit
  pub unrefused : new.buffer.refused ≡ None
  pub tally : new.tally ≡ old.tally
  pub done : new.done ≡ old.done

-- the stop of a record that has no place
abbrev pub stop_for : BufferFault → ℕ → Stop
stop_for fault.LogFull line = stop.LogFull line
stop_for (fault.Trouble trouble) line = stop.Trouble trouble

-- room was made for one more record, or the log is full at its line, or refused
abbrev pub MakesRoom : ℕ → Progress → Progress → Result (Unit {0}) Halt → Type 0
MakesRoom line old new (Ok _) = HasRoomFor old new
MakesRoom line old new (Err (halt.Own (stop.LogFull at_line))) = (at_line ≡ line) × (record_limit ≤ old.buffer.count) × (new ≡ old)
MakesRoom line old new (Err (halt.Own (stop.Trouble trouble))) = Waits old new × Refused trouble new
MakesRoom line old new (Err _) = ⊥

-- the record was put after its step, or has no place
abbrev pub TakesOrHalts : {A : Type 0} → Record → View → Progress → Progress → Result A Halt → Type 0
TakesOrHalts event after old new (Ok _) = PutsRecord event after old new
TakesOrHalts event after old new (Err why) = MakesRoom event.line old new (Err why)
