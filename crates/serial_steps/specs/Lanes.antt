-- The serial run of a kernel: in each phase of a region its lanes go on one after another, each to its next barrier or its end, also past one that
-- stops. A region that a task forks runs before the task goes on.
use Rattle.std.specs.Prelude.{◌≡◌, ℕ, ◌+◌, ◌-◌, ◌<◌, ◌≤◌, List, [], ◌∷◌, ◌++◌, length, map, Some, slice_get}
use Rattle.std.specs.List.{flat_map, range_with_len}
use Rattle.sw_base.specs.declared.path.Step.{Step}
use Rattle.log_format.specs.Limit.{task_limit}
use Rattle.log_format.specs.declared.record.Record.{Record}
use Rattle.log_format.specs.declared.record.Kind.{Kind}
use Rattle.log_format.specs.declared.record.Kind.TheVariants.{Read, Barrier, Region, End}
use Rattle.race_model.specs.History.{stored_after}
use Rattle.race_model.specs.Listing.{lane_of}
use Rattle.race_model.specs.Race.{IsAccess}
use Rattle.race_model.specs.Trace.{Trace, region_count}
use Rattle.kernel_syntax.specs.Program.{Program}
use Rattle.kernel_model.specs.declared.stop.StopWhy.{StopWhy}
use Rattle.kernel_model.specs.declared.stop.StopWhy.TheVariants.{Tasks}
use Rattle.kernel_model.specs.Folder.{own_trace, root_start, IsTracedTo}
use Rattle.kernel_model.specs.State.{Fork}
use Rattle.kernel_model.specs.Trace.{Start, Stopped, Wanting}
use Rattle.execution_model.specs.Execution.{BeginsTrace}

-- what all tasks share: what stands at each address, and how many records the run may still make
pub record Shared : Type 0 where
  pub memory : ℕ → ℕ
  pub left : ℕ

-- a task: where it starts, the records that it made, and the logs of the tasks below it
pub record SerialTask : Type 0 where
  pub path : List Step
  pub start : Start
  pub records : List Record
  pub below : Trace

-- its log, and those below it
abbrev pub tasks_of : SerialTask → Trace
tasks_of t = record { path = t.path; records = t.records } ∷ t.below

-- what a task is and finds once it made this record
abbrev pub with_record : SerialTask → Record → SerialTask
with_record t r = record t { records = t.records ++ r ∷ [] }

abbrev pub after_record : Shared → Record → Shared
after_record s r = record { memory = λ addr. stored_after r.kind r addr (s.memory addr); left = s.left - 1 }

-- a read has what stands at its address
abbrev pub FindsMemory : Kind → Record → (ℕ → ℕ) → Type 0
FindsMemory Read r memory = r.value ≡ memory r.addr
FindsMemory _ r memory = Unit {0}

-- the next record of the task's trace, which the run may still make
pub record MakesNext (program : Program) (t : SerialTask) (s : Shared) (r : Record) : Type 0 where
  pub begun : BeginsTrace program t.start (t.records ++ r ∷ [])
  pub finds : FindsMemory r.kind r s.memory
  pub some : 0 < s.left

-- and it forks this region
pub record ForksNext (program : Program) (t : SerialTask) (s : Shared) (r : Record) (fork : Fork) : Type 0 where
  pub makes : MakesNext program t s r
  pub is_region : r.kind ≡ Region
  pub forks : slice_get (own_trace program t.start (t.records ++ r ∷ [])).forks (region_count t.records) ≡ Some fork

-- under what its records read, the task's trace has a record more, or wants a value to be read
pub record HasMore (program : Program) (t : SerialTask) : Type 0 where
  pub more : List Record
  pub begins : (own_trace program t.start t.records).records ≡ t.records ++ more
  pub wants : more ≡ [] → (own_trace program t.start t.records).end ≡ Wanting

-- the lanes of the task's next region, as they begin
abbrev pub lanes_of : SerialTask → Fork → List SerialTask
lanes_of t fork =
    map
    (λ lane. record { path = lane_of t.path (region_count t.records) lane fork.team.span; start = record { team = fork.team; lane = lane; slots = fork.slots }; records = []; below = [] })
    (range_with_len 0 fork.team.span)

-- the task behind the region, whose lanes came to stand so
abbrev pub past_lanes : SerialTask → Record → List SerialTask → SerialTask
past_lanes t r lanes = record t { records = t.records ++ r ∷ []; below = t.below ++ flat_map tasks_of lanes }

-- How a task comes to stand still: at a barrier, or at its end; or it, or a task below it, stopped, or would make a record too many.
pub data Still : Type 0 where
  at_barrier : Still
  at_end : Still
  stopped : List Step → ℕ → StopWhy → Still
  too_long : List Step → ℕ → Still

abbrev pub IsTooLong : Still → Type 0
IsTooLong (Still.too_long path number) = Unit {0}
IsTooLong _ = ⊥

-- what is told of a lane and of those after it: a record too many, else the first stop, else a barrier where one waits
abbrev pub told : Still → Still → Still
told (Still.stopped path line why) (Still.too_long other number) = Still.too_long other number
told (Still.stopped path line why) others = Still.stopped path line why
told Still.at_barrier Still.at_end = Still.at_barrier
told end others = others

mutual
  -- the task goes on to where it stands still
  pub data TaskGoes (program : Program) : SerialTask → Shared → SerialTask → Shared → Still → Type 0 where
    makes : (t u : SerialTask) (s q : Shared) (r : Record) (end : Still) → MakesNext program t s r → IsAccess r → TaskGoes program (with_record t r) (after_record s r) u q end → TaskGoes program t s u q end
    waits : (t : SerialTask) (s : Shared) (r : Record) → MakesNext program t s r → r.kind ≡ Barrier → TaskGoes program t s (with_record t r) (after_record s r) Still.at_barrier
    ends : (t : SerialTask) (s : Shared) (r : Record) → MakesNext program t s r → r.kind ≡ End → TaskGoes program t s (with_record t r) (after_record s r) Still.at_end
    stops : (t : SerialTask) (s : Shared) (line : ℕ) (why : StopWhy) → IsTracedTo program t.start t.records (Stopped why line) → TaskGoes program t s t s (Still.stopped t.path line why)
    would_make : (t : SerialTask) (s : Shared) → HasMore program t → s.left ≡ 0 → TaskGoes program t s t s (Still.too_long t.path (length t.records + 1))
    passes : (t u : SerialTask) (s p q : Shared) (r : Record) (fork : Fork) (lanes : List SerialTask) (end : Still) → ForksNext program t s r fork
        → RegionGoes program (lanes_of t fork) (after_record s r) lanes p Still.at_end → length (past_lanes t r lanes).below ≤ task_limit → TaskGoes program (past_lanes t r lanes) p u q end → TaskGoes program t s u q end
    is_crowded : (t : SerialTask) (s p : Shared) (r : Record) (fork : Fork) (lanes : List SerialTask) → ForksNext program t s r fork
        → RegionGoes program (lanes_of t fork) (after_record s r) lanes p Still.at_end → task_limit < length (past_lanes t r lanes).below
        → TaskGoes program t s (past_lanes t r lanes) p (Still.stopped t.path r.line Tasks)
    breaks : (t : SerialTask) (s p : Shared) (r : Record) (fork : Fork) (lanes : List SerialTask) (end : Still) → ForksNext program t s r fork
        → RegionGoes program (lanes_of t fork) (after_record s r) lanes p end → (end ≡ Still.at_end → ⊥) → TaskGoes program t s (past_lanes t r lanes) p end

  -- the lanes of a team go on, one after another; where a record would be one too many, no more of them do
  pub data PhaseGoes (program : Program) : List SerialTask → Shared → List SerialTask → Shared → Still → Type 0 where
    last : (t u : SerialTask) (s q : Shared) (end : Still) → TaskGoes program t s u q end → PhaseGoes program (t ∷ []) s (u ∷ []) q end
    lane : (t u : SerialTask) (ts us : List SerialTask) (s p q : Shared) (end others : Still) → TaskGoes program t s u p end → (IsTooLong end → ⊥)
        → PhaseGoes program ts p us q others → PhaseGoes program (t ∷ ts) s (u ∷ us) q (told end others)
    no_more : (t u v : SerialTask) (ts : List SerialTask) (s p : Shared) (end : Still) → TaskGoes program t s u p end → IsTooLong end → PhaseGoes program (t ∷ v ∷ ts) s (u ∷ v ∷ ts) p end

  -- phase after phase: the next one begins where all lanes wait at a barrier
  pub data RegionGoes (program : Program) : List SerialTask → Shared → List SerialTask → Shared → Still → Type 0 where
    over : (ts us : List SerialTask) (s q : Shared) (end : Still) → PhaseGoes program ts s us q end → (end ≡ Still.at_barrier → ⊥) → RegionGoes program ts s us q end
    next : (ts us vs : List SerialTask) (s p q : Shared) (end : Still) → PhaseGoes program ts s us p Still.at_barrier → RegionGoes program us p vs q end → RegionGoes program ts s vs q end

-- The serial run of the kernel, over memory that is 0 and with room for so many records, has these tasks and leaves this memory when its root stands
-- still so.
pub record GoesSerially (program : Program) (room : ℕ) (tasks : Trace) (memory : ℕ → ℕ) (end : Still) : Type 0 where
  pub root : SerialTask
  pub left : ℕ
  pub goes : TaskGoes program (record { path = []; start = root_start program; records = []; below = [] }) (record { memory = λ addr. 0; left = room }) root (record { memory = memory; left = left }) end
  pub tasks_are : tasks ≡ tasks_of root
