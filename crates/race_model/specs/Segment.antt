-- Segments (barrier intervals, SWORD): what a task does between two records that order it with other tasks.
use Rattle.std.specs.Prelude.{ℕ, ◌+◌, Bool, true, false, List, [], ◌∷◌, length, map, filter, flat_map}
use Rattle.std.specs.List.{list_any}
use Rattle.sw_base.specs.declared.path.Step.{Step}
use Rattle.log_format.specs.declared.record.Record.{Record}
use Rattle.log_format.specs.declared.record.Kind.{Kind}
use Rattle.log_format.specs.declared.record.Kind.TheVariants.{Read, Write, Barrier, Region, Update}
use Rattle.race_model.specs.Trace.{TaskLog, Trace}
use Rattle.race_model.specs.Race.{held_after_kind}

-- a record of a log, with its number, from 1, and the mutexes that the task holds there
pub record Event : Type 0 where
  pub number : ℕ
  pub event : Record
  pub held : List ℕ

abbrev pub events_from : ℕ → List ℕ → List Record → List Event
events_from n held [] = []
events_from n held (r ∷ records) = record { number = n; event = r; held = held } ∷ events_from (n + 1) (held_after_kind r.kind r.addr held) records

-- the records of a log
abbrev pub events : List Record → List Event
events records = events_from 1 [] records

abbrev pub is_access : Kind → Bool
is_access Read = true
is_access Write = true
is_access Update = true
is_access _ = false

-- puts an event at the start of the first run
abbrev pub in_first : Event → List (List Event) → List (List Event)
in_first e [] = (e ∷ []) ∷ []
in_first e (run ∷ runs) = (e ∷ run) ∷ runs

-- an event before the runs behind it: a Region or Barrier parts them, and stands in none
abbrev pub with_event : Kind → Event → List (List Event) → List (List Event)
with_event Region e runs = [] ∷ runs
with_event Barrier e runs = [] ∷ runs
with_event _ e runs = in_first e runs

-- the events, parted at each Region and Barrier
abbrev pub runs_of : List Event → List (List Event)
runs_of [] = [] ∷ []
runs_of (e ∷ es) = with_event e.event.kind e (runs_of es)

abbrev pub is_access_event : Event → Bool
is_access_event e = is_access e.event.kind

abbrev pub has_access : List Event → Bool
has_access run = list_any is_access_event run

-- the maximal runs without a Region or Barrier in which an access stands
abbrev pub intervals : List Record → List (List Event)
intervals records = filter has_access (runs_of (events records))

abbrev pub first_number : List Event → ℕ
first_number [] = 0
first_number (e ∷ es) = e.number

abbrev pub last_number : List Event → ℕ
last_number [] = 0
last_number (e ∷ []) = e.number
last_number (e ∷ f ∷ es) = last_number (f ∷ es)

-- records first to last of one task's log, and their accesses
pub record Segment : Type 0 where
  pub path : List Step
  pub first : ℕ
  pub last : ℕ
  pub accesses : List Event

abbrev pub segment_of : List Step → List Event → Segment
segment_of path run = record { path = path; first = first_number run; last = last_number run; accesses = filter is_access_event run }

abbrev pub task_segments : TaskLog → List Segment
task_segments task = map (segment_of task.path) (intervals task.records)

-- the segments of a run, in the order of its rows, and in each log by number
abbrev pub segments_of : Trace → List Segment
segments_of trace = flat_map task_segments trace

-- how many segments a log's records have
abbrev pub segment_count : List Record → ℕ
segment_count records = length (intervals records)
