-- A task that doesn't go on: which task stopped, and how.
use Rattle.std.proofs.Common.{◌≡◌, refl, ap, sym, ◌∙◌, subst, ℕ, ◌+◌, ◌<◌, List, [], ◌∷◌, ◌++◌, length, ℤ, Some, None, Err, arith}
use Rattle.std.specs.Prelude.{slice_get}
use Rattle.std.specs.List.{flat_map}
use Rattle.std.proofs.lemmas.List.{append-nil}
use Rattle.std.proofs.lemmas.Option.{same_Some}
use Rattle.sw_base.specs.declared.path.Step.{Step}
use Rattle.sw_base.proofs.Lists.{get_seam}
use Rattle.log_format.specs.declared.record.Record.{Record}
use Rattle.kernel_model.specs.declared.stop.StopWhy.{StopWhy}
use Rattle.kernel_model.specs.declared.stop.StopWhy.TheVariants as reason
use Rattle.kernel_model.specs.State.{State, Fork, Outcome}
use Rattle.kernel_model.specs.Trace.{Ending, Stopped}
use Rattle.kernel_model.specs.Folder.{IsTracedTo}
use Rattle.kernel_model.specs.Effect.{Halted}
use Rattle.history_model.specs.Work.{Work, RegionWork, work_regions}
use Rattle.execution_model.specs.Runs.{lane_begin, works_log}
use Rattle.lane_runner.specs.declared.stop.Halt.{Halt}
use Rattle.lane_runner.specs.declared.stop.Halt.TheVariants as halt
use Rattle.lane_runner.specs.declared.stop.Stop.{Stop}
use Rattle.lane_runner.specs.declared.stop.Stop.TheVariants as stop
use Rattle.lane_runner.specs.Going.{Progress, AtRegion, AtTasks}
use Rattle.lane_runner.specs.Stopping.{HaveEnded, IsLeastInLane, RestsInLane, StopsAtLast, ending_for, itself}
use Rattle.execution_model.specs.Stops.{LastIsRegionAt}
use Rattle.lane_runner.specs.Stopping.{RestsBelow, below as further}
use Rattle.lane_runner.specs.Stopping.{IsLeastBelow, below as lower}
use Rattle.lane_runner.specs.World.{WorldValue}
use Rattle.lane_runner.specs.Lane.{stop_of}
use Rattle.region_runner.specs.Ran.{in_one, TaskRan, TaskBegan, TaskGoes}
use Rattle.region_runner.specs.Stopping.{IsAtOrBelow, IsLeastUnder, RestsUnder, StopsTask}
use Rattle.region_runner.proofs.RegionLanes.{BeginsLane}
use Rattle.region_runner.proofs.Stops.{task_stops}
use Rattle.region_runner.proofs.Traced.{one_log, one_regions, stopped_trace, traces_begun}

module _ (fork : Fork) (lane : ℕ) (w : WorldValue) (part : State → Outcome (Unit {0})) (first_part : BeginsLane fork lane w part) (slots' : List ℤ) (old new : Progress) (none : old.buffer.count ≡ 0) (works : List Work) (own : List Step) where
  abbrev itself_at : IsAtOrBelow own own
  itself_at = record { rest = []; path_is = sym (append-nil own) }

  itself_least : IsLeastUnder own own works
  itself_least = record { at = itself_at; least = IsLeastBelow.itself works }

  -- the task's own stop
  itself_stops : (why : StopWhy) (line : ℕ) (it : Stop) → ending_for it ≡ Some (Stopped why line) → ((l : ℕ) → it ≡ stop.Tasks l → ⊥) → TaskRan w part fork.slots slots' old new works (Halted why line)
      → StopsTask w.arrays own own it (lane_begin fork lane) works
  itself_stops why line it ending other t = record {
    at = itself_at;
    traced = λ program same end told. record {
      at = itself_at;
      ends =
          itself (lane_begin fork lane) works
          (subst (λ (e : Ending). IsTracedTo program (lane_begin fork lane) (works_log works) e) (same_Some (Stopped why line) end (sym ending ∙ told))
          (stopped_trace program (lane_begin fork lane) w same part first_part.rest first_part.grows (first_part.is program same) slots' old new none works why line t));
    };
    crowded = λ l told. absurd (other l told);
    least = λ other. itself_least;
  }

  -- too many tasks were below the task
  itself_rests : (line : ℕ) → TaskBegan w part fork.slots old new works (AtTasks line) → RestsUnder line own own works
  itself_rests line t = record {
    at = itself_at;
    rests =
        RestsBelow.itself works (subst (λ (rs : List Record). LastIsRegionAt line rs) (one_log works) t.ends.1)
        (subst (λ (rs : List RegionWork). HaveEnded rs) (one_regions works) t.stops.0);
  }

  tasks_stop : (line : ℕ) → TaskBegan w part fork.slots old new works (AtTasks line) → StopsTask w.arrays own own (stop.Tasks line) (lane_begin fork lane) works
  tasks_stop line t = record {
    at = itself_at;
    traced = λ program same end told. absurd (no_ending told);
    crowded = λ l told. subst (λ (n : ℕ). RestsUnder n own own works) (line_of told) (itself_rests line t);
    least = λ other. itself_least;
  }
    where
      no_ending : {end : Ending} → None ≡ Some end → ⊥
      no_ending e = cc

      line_of : {l : ℕ} → stop.Tasks line ≡ stop.Tasks l → line ≡ l
      line_of e = cc

  trouble_stops : (it : Stop) → ending_for it ≡ None → ((l : ℕ) → it ≡ stop.Tasks l → ⊥) → StopsTask w.arrays own own it (lane_begin fork lane) works
  trouble_stops it none_told other = record { at = itself_at; traced = λ program same end told. absurd (no_ending (sym none_told ∙ told)); crowded = λ l told. absurd (other l told); least = λ other. itself_least } where
    no_ending : {end : Ending} → None ≡ Some end → ⊥
    no_ending e = cc

  -- a task below stopped
  below_stops : old.buffer.path ≡ own → old.tally.forked ≡ 0 → (path : List Step) (why : Stop) → TaskBegan w part fork.slots old new works (AtRegion path why)
      → StopsTask w.arrays own path why (lane_begin fork lane) works
  below_stops is first path why t = record {
    at = record {
      rest = record { region = length stops.before; lane = stops.stopped.inside.lane; span = stops.fork.team.span } ∷ stops.stopped.inside.below;
      path_is =
          stops.stopped.inside.path_is
          ∙ ap (λ (n : ℕ). own ++ record { region = n; lane = stops.stopped.inside.lane; span = stops.fork.team.span } ∷ stops.stopped.inside.below) (let e : 0 + length stops.before ≡ length stops.before = omega arith in e);
    };
    traced = λ program same end told.
        task_stops program end (lane_begin fork lane) w.arrays own path why t.forks works same told stops (t.regions program same)
        (traces_begun program (lane_begin fork lane) w same part first_part.rest first_part.grows (first_part.is program same) slots' old new none works (AtRegion path why) t);
    crowded = λ l told. rests_below l (stops.stopped.crowded l told);
    least = λ other. least_below (stops.stopped.least other);
  }
    where
      stops : StopsAtLast w.arrays own 0 path why t.forks (work_regions (in_one works))
      stops =
          subst (λ (p : List Step). StopsAtLast w.arrays p 0 path why t.forks (work_regions (in_one works))) is
          (subst (λ (n : ℕ). StopsAtLast w.arrays old.buffer.path n path why t.forks (work_regions (in_one works))) first t.stops.0)

      region_is : slice_get (flat_map work_regions works) (length stops.before) ≡ Some stops.region
      region_is = ap (λ (rs : List RegionWork). slice_get rs (length stops.before)) (sym (one_regions works) ∙ stops.regions_are) ∙ get_seam stops.before stops.region []

      -- a task of the last region
      in_last : (other : ℕ) (below : List Step) → path ≡ own ++ record { region = 0 + length stops.before; lane = other; span = stops.fork.team.span } ∷ below
          → path ≡ own ++ record { region = length stops.before; lane = other; span = stops.region.span } ∷ below
      in_last other below is_path =
          is_path
          ∙ ap (λ (n : ℕ). own ++ record { region = n; lane = other; span = stops.fork.team.span } ∷ below) (let e : 0 + length stops.before ≡ length stops.before = omega arith in e)
          ∙ ap (λ (n : ℕ). own ++ record { region = length stops.before; lane = other; span = n } ∷ below) (sym stops.span_is)

      rests_below : (l : ℕ) → RestsInLane l own (0 + length stops.before) stops.fork.team.span path stops.region.phases → RestsUnder l own path works
      rests_below l inner = record {
        at = record {
          rest = record { region = length stops.before; lane = inner.lane; span = stops.region.span } ∷ inner.below;
          path_is = in_last inner.lane inner.below inner.path_is;
        };
        rests =
            further works (length stops.before) stops.region inner.lane inner.below region_is (subst (λ (n : ℕ). inner.lane < n) (sym stops.span_is) inner.within) inner.rests;
      }

      least_below : IsLeastInLane own (0 + length stops.before) stops.fork.team.span path stops.region.phases → IsLeastUnder own path works
      least_below inner = record {
        at = record {
          rest = record { region = length stops.before; lane = inner.lane; span = stops.region.span } ∷ inner.below;
          path_is = in_last inner.lane inner.below inner.path_is;
        };
        least =
            lower works (length stops.before) stops.region inner.lane inner.below region_is (subst (λ (n : ℕ). inner.lane < n) (sym stops.span_is) inner.within) inner.least inner.down;
      }

  -- by why it doesn't go on
  pub stops_task : old.buffer.path ≡ own → old.tally.forked ≡ 0 → (h : Halt) → TaskGoes w part fork.slots slots' old new works (Err h)
      → StopsTask w.arrays own (stop_of own h).0 (stop_of own h).1 (lane_begin fork lane) works
  stops_task is first (halt.Own (stop.DivZero line)) t = itself_stops reason.DivZero line (stop.DivZero line) refl (λ l e. cc) t
  stops_task is first (halt.Own (stop.Index line)) t = itself_stops reason.Index line (stop.Index line) refl (λ l e. cc) t
  stops_task is first (halt.Own (stop.LogFull line)) t = itself_stops reason.LogFull line (stop.LogFull line) refl (λ l e. cc) t
  stops_task is first (halt.Region path why) t = below_stops is first path why t
  stops_task is first (halt.Own (stop.Tasks line)) t = tasks_stop line t
  stops_task is first (halt.Own (stop.Trouble trouble)) t = trouble_stops (stop.Trouble trouble) refl (λ l e. cc)
