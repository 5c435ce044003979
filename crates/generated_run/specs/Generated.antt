-- The run that is made from a number of rounds. Eight lanes write elements apart, pass a barrier, and read their neighbours'
-- elements. Lane 3 then writes half of one that lane 2 read, which is the one race.
use Rattle.std.specs.Prelude.{ℕ, ◌+◌, ◌*◌, ◌/◌, ◌%◌, ◌==◌, if◌then◌else◌, List, [], ◌∷◌, ◌++◌, map, count_by, sum_by}
use Rattle.std.specs.List.{range_with_len}
use Rattle.sw_base.specs.declared.path.Step.{Step}
use Rattle.log_format.specs.declared.record.Record.{Record}
use Rattle.log_format.specs.declared.record.Kind.{Kind}
use Rattle.log_format.specs.declared.record.Kind.TheVariants.{Read, Write, Barrier, Region, End}
use Rattle.race_model.specs.Segment.{is_access}
use Rattle.race_model.specs.Trace.{TaskLog, Trace}

-- the address of a lane's element of a round; each round lies further from the next one
abbrev pub element : ℕ → ℕ → ℕ
element round lane = 4096 + 64 * (round * (round + 1) / 2) + 8 * lane

abbrev pub write_of : ℕ → ℕ → Record
write_of lane round = record { kind = Write; size = 8; site = 0; line = 10; addr = element round lane; value = round }

-- a read of the next lane's element, the last lane's of the first one's
abbrev pub read_of : ℕ → ℕ → Record
read_of lane round = record { kind = Read; size = 8; site = 1; line = 30; addr = element round ((lane + 1) % 8); value = round }

-- a record of a kind that has nothing but a line
abbrev pub bare_record : Kind → ℕ → Record
bare_record kind line = record { kind = kind; size = 0; site = 0; line = line; addr = 0; value = 0 }

-- the write that races
abbrev pub late_write : Record
late_write = record { kind = Write; size = 4; site = 2; line = 40; addr = 4120; value = 0 }

abbrev pub late_writes : ℕ → List Record
late_writes lane = if lane == 3 then late_write ∷ [] else []

-- the rounds, from 0 on
abbrev pub rounds_of : ℕ → List ℕ
rounds_of rounds = range_with_len 0 rounds

abbrev pub lane_records : ℕ → ℕ → List Record
lane_records rounds lane =
    map (write_of lane) (rounds_of rounds)
    ++ bare_record Barrier 20 ∷ []
    ++ map (read_of lane) (rounds_of rounds)
    ++ late_writes lane
    ++ bare_record End 50 ∷ []

abbrev pub root_records : List Record
root_records = record { kind = Region; size = 0; site = 0; line = 1; addr = 0; value = 8 } ∷ bare_record End 50 ∷ []

abbrev pub path_of_lane : ℕ → List Step
path_of_lane lane = record { region = 0; lane = lane; span = 8 } ∷ []

abbrev pub task_of : List Step → List Record → TaskLog
task_of path records = record { path = path; records = records }

abbrev pub log_of_lane : ℕ → ℕ → TaskLog
log_of_lane rounds lane = task_of (path_of_lane lane) (lane_records rounds lane)

abbrev pub root_task : TaskLog
root_task = task_of [] root_records

-- those of so many lanes
abbrev pub logs_of_lanes : ℕ → ℕ → Trace
logs_of_lanes rounds lanes = map (log_of_lane rounds) (range_with_len 0 lanes)

-- the run: its root, and then the lanes of its one region
abbrev pub generated : ℕ → Trace
generated rounds = root_task ∷ logs_of_lanes rounds 8

-- how many reads and writes the logs of a run have
abbrev pub accesses_in : Trace → ℕ
accesses_in trace = sum_by (λ (task : TaskLog). count_by (λ (r : Record). is_access r.kind) task.records) trace
