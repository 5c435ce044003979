-- Where a task stopped that is told below the root: it is a task of the tree, and its log ends so.
use Rattle.std.proofs.Common.{◌≡◌, refl, ap, sym, ◌∙◌, subst, ℕ, zero, suc, ◌<◌, ◌≤◌, List, [], ◌∷◌, ◌++◌, length, slice_get, Option, Some, None, arith}
use Rattle.std.specs.List.{flat_map}
use Rattle.std.proofs.lemmas.List.{append-nil, append_assoc}
use Rattle.std.proofs.lemmas.Option.{get_or_from_slice_get, none-some, same_Some, slice_get_within}
use Rattle.sw_base.specs.declared.path.Step.{Step}
use Rattle.log_format.specs.declared.record.Record.{Record}
use Rattle.race_model.specs.Listing.{lane_of}
use Rattle.race_model.specs.Trace.{Logs, logs_of}
use Rattle.kernel_syntax.specs.Program.{Program}
use Rattle.kernel_model.specs.State.{Fork}
use Rattle.kernel_model.specs.Trace.{Start, Ending}
use Rattle.kernel_model.specs.Folder.{IsTracedTo, own_trace, root_start, lane_start, start_at, start_below}
use Rattle.kernel_model.proofs.Starts.{lane_started}
use Rattle.history_model.specs.Joined.{LastIsEnd, PhasesEnd}
use Rattle.history_model.specs.Sound.{IsSound}
use Rattle.history_model.specs.Tasks.{tree_tasks}
use Rattle.history_model.specs.Work.{Work, RegionWork, work_records, work_regions, lane_works, works_at_region, works_at_step, works_of, works_under}
use Rattle.history_laws.proofs.EndedLanes.{lane_ends}
use Rattle.history_laws.proofs.MetBarriers.{works_lane}
use Rattle.history_laws.proofs.TaskTree.{AreForked, forked_last, lane_is, listed_of, sound_regions, sound_works_under}
use Rattle.execution_model.specs.Runs.{IsWithin, RunsTask, lane_begin, logged_tasks, works_log}
use Rattle.execution_laws.proofs.Descent.{RunsAt, down, released_of}
use Rattle.execution_laws.proofs.LoggedTasks.{listed_forked, lists_logged, log_is, logged_lists}
use Rattle.execution_laws.proofs.Prefixes.{ends_same}
use Rattle.lane_runner.specs.Stopping.{GoesFurther, HaveEnded, IsLeastBelow, EndsBelow, RestsBelow}
use Rattle.execution_model.specs.Stops.{EndsTask, LanesEnd, LastIsRegionAt}
use Rattle.execution_model.specs.Elements.{layout_of}
use Rattle.region_runner.specs.Answer.{IsLeast}
use Rattle.execution_laws.specs.Nesting.{NestsWithin}
use Rattle.execution_laws.proofs.TaskListing.{RegionNests, WorksNest, all_regions_nest, found_nests, lane_of_region_nests}

-- a forked path is no longer than the regions nest
forked_within : (path : List Step) (d : ℕ) (works : List Work) → WorksNest d works → AreForked works path → length path ≤ d
forked_within [] d works nest forked = omega arith
forked_within (step ∷ path) d works nest forked =
    by d (found_nests d (flat_map work_regions works) step.region forked.0.region (all_regions_nest d works nest) forked.0.found)
    (λ e nests. forked_within path e (works_at_step step works) nests forked.1)
  where
    by : (d : ℕ) → RegionNests d forked.0.region → ((e : ℕ) → WorksNest e (works_at_step step works) → length path ≤ e) → length (step ∷ path) ≤ d
    by zero region below = absurd region
    by (suc d) region below =
        let lane = subst (λ (o : Option RegionWork). WorksNest d (works_at_region step o)) (sym forked.0.found) (lane_of_region_nests d step forked.0.region region.1) in
        let rest = below d lane in
        omega arith

module _ (program : Program) (end : Ending) where
  ends_forked : (start : Start) (works : List Work) (path : List Step) → EndsBelow program end start works path → AreForked works path
  ends_forked start works path (EndsBelow.itself s ws traced) = tt
  ends_forked start works path (EndsBelow.below s ws number fork region lane rest forked found less ends) = (
    record { region = region; found = found; span_is = refl; within = less },
    subst (λ (ws : List Work). AreForked ws rest) (sym (lane_is works region number lane found)) (ends_forked (lane_begin fork lane) (lane_works lane region.phases) rest ends),
  )

  -- the task starts where these logs fork it
  ends_traced : (logs : Logs) (at : List Step) (start begin : Start) (works : List Work) (path : List Step) → EndsBelow program end start works path
      → ((more : List Step) → logs (at ++ more) ≡ works_log (works_under works more)) → start_below program logs at (Some start) path ≡ Some begin
      → IsTracedTo program begin (works_log (works_under works path)) end
  ends_traced logs at start begin works path (EndsBelow.itself s ws traced) same starts =
      subst (λ (b : Start). IsTracedTo program b (works_log works) end) (same_Some start begin starts) traced
  ends_traced logs at start begin works path (EndsBelow.below s ws number fork region lane rest forked found less ends) same starts =
      by (lane_start (slice_get (own_trace program start (logs at)).forks number) step) refl starts
      (λ begins. ends_traced logs (at ++ step ∷ []) (lane_begin fork lane) begin (lane_works lane region.phases) rest ends
      (λ more. ap (λ (p : List Step). logs p) (append_assoc at (step ∷ []) more) ∙ same (step ∷ more) ∙ ap (λ (ws : List Work). works_log (works_under ws more)) works_are) begins)
    where
      step : Step
      step = record { region = number; lane = lane; span = region.span }

      works_are : works_at_step step works ≡ lane_works lane region.phases
      works_are = lane_is works region number lane found

      log_here : logs at ≡ works_log works
      log_here = ap (λ (p : List Step). logs p) (sym (append-nil at)) ∙ same []

      by : (o : Option Start) → lane_start (slice_get (own_trace program start (logs at)).forks number) step ≡ o → start_below program logs (at ++ step ∷ []) o rest ≡ Some begin
          → (start_below program logs (at ++ step ∷ []) (Some (lane_begin fork lane)) rest ≡ Some begin → IsTracedTo program begin (works_log (works_under (lane_works lane region.phases) rest)) end)
          → IsTracedTo program begin (works_log (works_under works (step ∷ rest))) end
      by None is begins below = absurd (none-some begin begins)
      by (Some next) is begins below =
          let told = lane_started (slice_get (own_trace program start (logs at)).forks number) step next is in
          let this : told.fork ≡ fork =
          same_Some told.fork fork (sym told.forked ∙ ap (λ (rs : List Record). slice_get (own_trace program start rs).forks number) log_here ∙ forked) in
          let next_is : next ≡ lane_begin fork lane = told.begins ∙ ap (λ (f : Fork). lane_begin f lane) this in
          subst (λ (ws : List Work). IsTracedTo program begin (works_log (works_under ws rest)) end) (sym works_are)
          (below (ap (λ (s : Start). start_below program logs (at ++ step ∷ []) (Some s) rest) (sym next_is) ∙ begins))

rests_last : (line : ℕ) (works : List Work) (path : List Step) → RestsBelow line works path → LastIsRegionAt line (works_log (works_under works path))
rests_last line works path (RestsBelow.itself ws last ended) = last
rests_last line works path (RestsBelow.below ws number region lane rest found less rests) =
    subst (λ (ws : List Work). LastIsRegionAt line (works_log (works_under ws rest))) (sym (lane_is works region number lane found)) (rests_last line (lane_works lane region.phases) rest rests)

rests_ended : (line : ℕ) (works : List Work) (path : List Step) → RestsBelow line works path → HaveEnded (flat_map work_regions (works_under works path))
rests_ended line works path (RestsBelow.itself ws last ended) = ended
rests_ended line works path (RestsBelow.below ws number region lane rest found less rests) =
    subst (λ (ws : List Work). HaveEnded (flat_map work_regions (works_under ws rest))) (sym (lane_is works region number lane found)) (rests_ended line (lane_works lane region.phases) rest rests)

region_ended : (regions : List RegionWork) (k : ℕ) (region : RegionWork) → HaveEnded regions → slice_get regions k ≡ Some region → PhasesEnd region.phases
region_ended regions k region ended found =
    subst (λ (r : RegionWork). PhasesEnd r.phases) (get_or_from_slice_get regions k region region found) (ended k region (slice_get_within regions k region found)).0

-- down to a step of the path: the works of that lane, and of a smaller one
least_at : (works : List Work) (path : List Step) → IsLeastBelow works path → (above : List Step) (step : Step) (below : List Step) → path ≡ above ++ step ∷ below → (lane : ℕ) → lane < step.lane
    → GoesFurther (works_log (works_under works (lane_of above step.region lane step.span))) (works_log (works_under works (above ++ step ∷ [])))
least_at works _ (IsLeastBelow.itself ws) [] step below parts lane smaller = absurd cc
least_at works _ (IsLeastBelow.itself ws) (a ∷ above) step below parts lane smaller = absurd cc
least_at works _ (IsLeastBelow.below ws number region own path found within least down) [] step below parts lane smaller =
    subst (λ (s : Step). lane < s.lane → GoesFurther (works_log (works_at_step (record { region = s.region; lane = lane; span = s.span }) works)) (works_log (works_at_step s works))) first here smaller
  where
    first : record { region = number; lane = own; span = region.span } ≡ step
    first = cc

    here : lane < own → GoesFurther (works_log (works_at_step (record { region = number; lane = lane; span = region.span }) works)) (works_log (works_at_step (record { region = number; lane = own; span = region.span }) works))
    here less =
        subst (λ (xs : List Work). GoesFurther (works_log xs) (works_log (works_at_step (record { region = number; lane = own; span = region.span }) works))) (sym (lane_is works region number lane found))
        (subst (λ (xs : List Work). GoesFurther (works_log (lane_works lane region.phases)) (works_log xs)) (sym (lane_is works region number own found)) (least lane less))
least_at works _ (IsLeastBelow.below ws number region own path found within least down) (a ∷ above) step below parts lane smaller =
    subst (λ (xs : List Work). GoesFurther (works_log (works_under xs (lane_of above step.region lane step.span))) (works_log (works_under xs (above ++ step ∷ []))))
    (sym (lane_is works region number own found) ∙ ap (λ (s : Step). works_at_step s works) first)
    (least_at (lane_works own region.phases) path down above step below rest lane smaller)
  where
    first : record { region = number; lane = own; span = region.span } ≡ a
    first = cc

    rest : path ≡ above ++ step ∷ below
    rest = cc

module _ (program : Program) (depth : ℕ) (root : Work) (sound : IsSound (layout_of program.arrays) root) (within : IsWithin depth root) (runs : RunsTask program (root_start program) (root ∷ []))
    (nests : NestsWithin depth root) where
  pub ends_task : (end : Ending) (path : List Step) → EndsBelow program end (root_start program) (root ∷ []) path → EndsTask program (logged_tasks depth root) path end
  unfolding start_at
  ends_task end path ends =
      let forked = ends_forked program end (root_start program) (root ∷ []) path ends in
      let at : RunsAt program (logs_of (logged_tasks depth root)) [] (root_start program) (root ∷ []) path =
      down program (logs_of (logged_tasks depth root)) [] (root_start program) (root ∷ []) path runs forked (log_is (layout_of program.arrays) depth root sound within) in
      record {
        listed = lists_logged (tree_tasks depth root) path (listed_of depth root path forked (forked_within path depth (root ∷ []) (nests, tt) forked));
        start = at.begin;
        starts = at.starts;
        traced = subst (λ (rs : List Record). IsTracedTo program at.begin rs end) (sym (log_is (layout_of program.arrays) depth root sound within path))
            (ends_traced program end (logs_of (logged_tasks depth root)) [] (root_start program) at.begin (root ∷ []) path ends (log_is (layout_of program.arrays) depth root sound within) at.starts);
      }

  -- each smaller lane went further at each step of the path
  pub least_task : (path : List Step) → IsLeastBelow (root ∷ []) path → IsLeast (logged_tasks depth root) path
  least_task path least above step below parts lane smaller =
      let there = least_at (root ∷ []) path least above step below parts lane smaller in
      subst (λ (rs : List Record). GoesFurther rs (logs_of (logged_tasks depth root) (above ++ step ∷ []))) (sym (log_is (layout_of program.arrays) depth root sound within (lane_of above step.region lane step.span)))
      (subst (λ (rs : List Record). GoesFurther (works_log (works_of root (lane_of above step.region lane step.span))) rs) (sym (log_is (layout_of program.arrays) depth root sound within (above ++ step ∷ []))) there)

  pub rests_task : (line : ℕ) (path : List Step) → RestsBelow line (root ∷ []) path → LastIsRegionAt line (logs_of (logged_tasks depth root) path)
  rests_task line path rests = subst (λ (rs : List Record). LastIsRegionAt line rs) (sym (log_is (layout_of program.arrays) depth root sound within path)) (rests_last line (root ∷ []) path rests)

  -- the lanes of its regions put their End
  pub joined_task : (line : ℕ) (path : List Step) → RestsBelow line (root ∷ []) path → LanesEnd (logged_tasks depth root) path
  joined_task line path rests step listed = subst (λ (rs : List Record). LastIsEnd rs) (sym (log_is (layout_of program.arrays) depth root sound within lane_path)) logged_end
    where
      lane_path : List Step
      lane_path = path ++ step ∷ []

      forked : AreForked (root ∷ []) lane_path
      forked = listed_forked depth root lane_path (logged_lists (tree_tasks depth root) lane_path listed)

      put_end : LastIsEnd (flat_map work_records (works_of root lane_path))
      put_end =
          let own = (forked_last (root ∷ []) path step forked).1 in
          let step_is : record { region = step.region; lane = step.lane; span = own.region.span } ≡ step = λ i. record { region = step.region; lane = step.lane; span = own.span_is i } in
          let works_are : works_of root lane_path ≡ lane_works step.lane own.region.phases =
          works_lane root path step ∙ ap (λ (s : Step). works_at_step s (works_of root path)) (sym step_is) ∙ lane_is (works_of root path) own.region step.region step.lane own.found in
          let phases_sound = sound_regions (layout_of program.arrays) (works_of root path) step.region own.region (sound_works_under (layout_of program.arrays) (root ∷ []) path (sound, tt)) own.found in
          let ended = region_ended (flat_map work_regions (works_of root path)) step.region own.region (rests_ended line (root ∷ []) path rests) own.found in
          subst (λ (ws : List Work). LastIsEnd (flat_map work_records ws)) (sym works_are)
          (lane_ends (layout_of program.arrays) own.region.span step.lane own.region.phases phases_sound (subst (λ (n : ℕ). step.lane < n) (sym own.span_is) own.within) ended)

      logged_end : LastIsEnd (works_log (works_of root lane_path))
      logged_end =
          let at = down program (logs_of (logged_tasks depth root)) [] (root_start program) (root ∷ []) lane_path runs forked (log_is (layout_of program.arrays) depth root sound within) in
          ends_same (λ p. works_log (works_of root lane_path)) (λ p. flat_map work_records (works_of root lane_path)) (λ p. released_of program at.begin (works_of root lane_path) at.task) [] put_end
