-- The serial run of two lanes, of which the first stops.
use Rattle.std.proofs.Common.{◌≡◌, refl, inl, inr, ℕ, ◌≤◌, List, [], ◌∷◌, arith}
use Rattle.std.specs.Prelude.{take}
use Rattle.log_format.specs.declared.record.Record.{Record}
use Rattle.log_format.specs.declared.record.Kind.TheVariants as kind
use Rattle.log_format.specs.Fitting.{wrapped}
use Rattle.kernel_model.specs.State as state
use Rattle.kernel_model.specs.State.{event, put}
use Rattle.kernel_model.specs.declared.stop.StopWhy.TheVariants as reason
use Rattle.kernel_model.specs.Trace.{Stopped, run, draw, task}
use Rattle.kernel_model.specs.Value.{value, read}
use Rattle.kernel_model.specs.Folder.{root_start, IsTracedTo}
use Rattle.execution_model.specs.Execution.{BeginsTrace}
use Rattle.execution_model.specs.Runs.{lane_begin}
use Rattle.serial_steps.specs.Lanes.{Shared, SerialTask, after_record, ForksNext, HasMore, past_lanes, told, Still, TaskGoes, PhaseGoes, RegionGoes, GoesSerially}
use Rattle.run_cases.specs.TwoLanes.{accessed, body, kernel, memory, team_path, first_log, second_log, tasks, tasks_of}

abbrev fork : state.Fork
fork = record { team = record { span = 2; line = 3; end = 9; body = body }; slots = [] }

abbrev region : Record
region = event kind.Region 3 0 2

abbrev barrier : ℕ → Record
barrier line = event kind.Barrier line 0 0

abbrev root : SerialTask
root = record { path = []; start = root_start kernel; records = []; below = [] }

abbrev lane : ℕ → List Record → SerialTask
lane n records = record { path = team_path n; start = lane_begin fork n; records = records; below = [] }

-- ---- traces

first_writes : BeginsTrace kernel (lane_begin fork 0) (take 1 first_log)
unfolding run value put read draw task wrapped
first_writes = record { rest = barrier 5 ∷ []; begins = refl }

first_waits : BeginsTrace kernel (lane_begin fork 0) first_log
unfolding run value put read draw task wrapped
first_waits = record { rest = []; begins = refl }

first_stops : IsTracedTo kernel (lane_begin fork 0) first_log (Stopped reason.Index 6)
unfolding run value put read draw task wrapped
first_stops = record { records_are = refl; ended = refl }

second_waits : BeginsTrace kernel (lane_begin fork 1) (take 1 (second_log 1))
unfolding run value put read draw task wrapped
second_waits = record { rest = []; begins = refl }

second_reads : BeginsTrace kernel (lane_begin fork 1) (take 2 (second_log 1))
unfolding run value put read draw task wrapped
second_reads = record { rest = accessed kind.Write 6 3 4104 1 ∷ barrier 7 ∷ barrier 8 ∷ event kind.End 9 0 0 ∷ []; begins = refl }

second_writes : BeginsTrace kernel (lane_begin fork 1) (take 3 (second_log 1))
unfolding run value put read draw task wrapped
second_writes = record { rest = barrier 7 ∷ barrier 8 ∷ event kind.End 9 0 0 ∷ []; begins = refl }

second_has_more : HasMore kernel (lane 1 (take 3 (second_log 1)))
unfolding run value put read draw task wrapped
second_has_more = record { more = barrier 7 ∷ barrier 8 ∷ event kind.End 9 0 0 ∷ []; begins = refl; wants = λ is. absurd cc }

second_rests : BeginsTrace kernel (lane_begin fork 1) (second_log 1)
unfolding run value put read draw task wrapped
second_rests = record { rest = barrier 8 ∷ event kind.End 9 0 0 ∷ []; begins = refl }

-- ---- the run, with room for six records or more

module _ (room : ℕ) (enough : 6 ≤ room) where
  abbrev begun : Shared
  begun = record { memory = λ addr. 0; left = room }

  abbrev forked : Shared
  forked = after_record begun region

  abbrev written : Shared
  written = after_record forked (accessed kind.Write 4 0 4096 1)

  abbrev first_waited : Shared
  first_waited = after_record written (barrier 5)

  abbrev both_waited : Shared
  both_waited = after_record first_waited (barrier 5)

  abbrev found : Shared
  found = after_record both_waited (accessed kind.Read 6 2 4096 1)

  abbrev copied : Shared
  copied = after_record found (accessed kind.Write 6 3 4104 1)

  forks : ForksNext kernel root begun region fork
  unfolding run value put read draw task wrapped
  forks = record { makes = record { begun = record { rest = event kind.End 10 0 0 ∷ []; begins = refl }; finds = tt; some = omega (arith, enough) }; is_region = refl; forks = refl }

  first_phase : PhaseGoes kernel (lane 0 [] ∷ lane 1 [] ∷ []) forked (lane 0 first_log ∷ lane 1 (take 1 (second_log 1)) ∷ []) both_waited Still.at_barrier
  first_phase =
      PhaseGoes.lane (lane 0 []) (lane 0 first_log) (lane 1 [] ∷ []) (lane 1 (take 1 (second_log 1)) ∷ []) forked first_waited both_waited Still.at_barrier Still.at_barrier
      (TaskGoes.makes (lane 0 []) (lane 0 first_log) forked first_waited (accessed kind.Write 4 0 4096 1) Still.at_barrier
      (record { begun = first_writes; finds = tt; some = omega (arith, enough) }) (inr (inl refl))
      (TaskGoes.waits (lane 0 (take 1 first_log)) written (barrier 5) (record { begun = first_waits; finds = tt; some = omega (arith, enough) }) refl))
      (λ is. is)
      (PhaseGoes.last (lane 1 []) (lane 1 (take 1 (second_log 1))) first_waited both_waited Still.at_barrier
      (TaskGoes.waits (lane 1 []) first_waited (barrier 5) (record { begun = second_waits; finds = tt; some = omega (arith, enough) }) refl))

  -- in its second phase lane 1 goes on like this after what it wrote
  module _ (last : SerialTask) (after : Shared) (end : Still) (goes : TaskGoes kernel (lane 1 (take 3 (second_log 1))) copied last after end) where
    second_goes : TaskGoes kernel (lane 1 (take 1 (second_log 1))) both_waited last after end
    second_goes =
        TaskGoes.makes (lane 1 (take 1 (second_log 1))) last both_waited after (accessed kind.Read 6 2 4096 1) end
        (record { begun = second_reads; finds = refl; some = omega (arith, enough) }) (inl refl)
        (TaskGoes.makes (lane 1 (take 2 (second_log 1))) last found after (accessed kind.Write 6 3 4104 1) end
        (record { begun = second_writes; finds = tt; some = omega (arith, enough) }) (inr (inl refl)) goes)

    abbrev stop : Still
    stop = Still.stopped (team_path 0) 6 reason.Index

    second_phase : PhaseGoes kernel (lane 0 first_log ∷ lane 1 (take 1 (second_log 1)) ∷ []) both_waited (lane 0 first_log ∷ last ∷ []) after (told stop end)
    second_phase =
        PhaseGoes.lane (lane 0 first_log) (lane 0 first_log) (lane 1 (take 1 (second_log 1)) ∷ []) (last ∷ []) both_waited both_waited after stop end
        (TaskGoes.stops (lane 0 first_log) both_waited 6 reason.Index first_stops) (λ is. is)
        (PhaseGoes.last (lane 1 (take 1 (second_log 1))) last both_waited after end second_goes)

    root_goes : (told stop end ≡ Still.at_barrier → ⊥) → (told stop end ≡ Still.at_end → ⊥) → TaskGoes kernel root begun (past_lanes root region (lane 0 first_log ∷ last ∷ [])) after (told stop end)
    root_goes goes_no_further ends_not =
        TaskGoes.breaks root begun after region fork (lane 0 first_log ∷ last ∷ []) (told stop end) forks
        (RegionGoes.next (lane 0 [] ∷ lane 1 [] ∷ []) (lane 0 first_log ∷ lane 1 (take 1 (second_log 1)) ∷ []) (lane 0 first_log ∷ last ∷ []) forked both_waited after (told stop end) first_phase
        (RegionGoes.over (lane 0 first_log ∷ lane 1 (take 1 (second_log 1)) ∷ []) (lane 0 first_log ∷ last ∷ []) both_waited after (told stop end) second_phase goes_no_further)) ends_not

pub stops : GoesSerially kernel 7 tasks memory (Still.stopped (team_path 0) 6 reason.Index)
stops = record {
  root = past_lanes root region (lane 0 first_log ∷ lane 1 (second_log 1) ∷ []);
  left = 0;
  goes =
      root_goes 7 (omega arith) (lane 1 (second_log 1)) (after_record (copied 7 (omega arith)) (barrier 7)) Still.at_barrier
      (TaskGoes.waits (lane 1 (take 3 (second_log 1))) (copied 7 (omega arith)) (barrier 7) (record { begun = second_rests; finds = tt; some = omega arith }) refl) (λ is. cc) (λ is. cc);
  tasks_are = refl;
}

pub is_too_long : GoesSerially kernel 6 (tasks_of [] (take 3 (second_log 1))) memory (Still.too_long (team_path 1) 4)
is_too_long = record {
  root = past_lanes root region (lane 0 first_log ∷ lane 1 (take 3 (second_log 1)) ∷ []);
  left = 0;
  goes =
      root_goes 6 (omega arith) (lane 1 (take 3 (second_log 1))) (copied 6 (omega arith)) (Still.too_long (team_path 1) 4)
      (TaskGoes.would_make (lane 1 (take 3 (second_log 1))) (copied 6 (omega arith)) second_has_more refl) (λ is. cc) (λ is. cc);
  tasks_are = refl;
}
