-- Logs that lack records, draws of a dynamic loop, and regions after which a run has too many tasks.
use Rattle.std.specs.Prelude.{ℕ, List, [], ◌∷◌, length, take, Some}
use Rattle.sw_base.specs.HandedLog.{HandedLog}
use Rattle.log_format.specs.declared.format.TheConstants.{FORMAT}
use Rattle.log_format.specs.Format.{log_header}
use Rattle.log_format.specs.Spelling.{log_bytes}
use Rattle.log_format.specs.declared.record.Record.{Record}
use Rattle.log_format.specs.declared.record.Kind.TheVariants as kind
use Rattle.race_model.specs.Trace.{Trace}
use Rattle.kernel_model.specs.State.{event}
use Rattle.history_model.specs.Work.{Work, Rest, Put, Fork, Phase, NoPhase, Beside, NoWork}
use Rattle.run_cases.specs.TwoLanes.{dir, team_path, main_task, lane_task, second_log}

-- the log of lane 1 of which only the first of these records were taken: so many, in pieces of these lengths behind the header
abbrev pub torn_log : List Record → ℕ → List ℕ → HandedLog
torn_log records count lengths = record {
  task = team_path 1;
  dir = dir;
  path = team_path 1;
  told = Some (record { bytes = log_bytes (log_header FORMAT) (take count records); lengths = 8 ∷ lengths });
  count = length records;
}

-- five records
abbrev pub long_log : List Record
long_log = event kind.Barrier 4 0 0 ∷ second_log 1

-- two lanes that drew the chunks 0 and 1 of a loop of two, of which the first found no more: its closing record tells so many chunks
abbrev pub loop_logs : ℕ → List (List Record)
loop_logs n = (event kind.Chunk 3 0 2 ∷ event kind.Chunk 3 n n ∷ []) ∷ (event kind.Chunk 3 1 2 ∷ []) ∷ []

-- the tasks of a run of two lanes of which each drew chunk 0 of a loop of two
abbrev pub same_chunk : Trace
same_chunk = main_task [] ∷ lane_task 0 (event kind.Chunk 3 0 2 ∷ []) ∷ lane_task 1 (event kind.Chunk 3 0 2 ∷ []) ∷ []

-- what a lane does that ends at once
abbrev pub at_once : Work
at_once = Put (event kind.End 9 0 0) Rest

-- a task that forked a region at line 3, of which lane 0 ended, and lane 1 did this
abbrev pub after_region : Work → Work
after_region second = Fork 3 2 (Phase (Beside at_once (Beside second NoWork)) NoPhase) Rest
