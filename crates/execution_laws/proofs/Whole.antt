-- The logs of a tree of work are an execution.
use Rattle.std.proofs.Common.{◌≡◌, ◌⊎◌, inl, inr, refl, sym, ap, ◌∙◌, subst, ℕ, zero, suc, ◌+◌, List, [], ◌∷◌, ◌++◌, length, map, take, Some, arith}
use Rattle.std.specs.List.{range_with_len}
use Rattle.std.proofs.lemmas.List.{append-nil}
use Rattle.sw_base.specs.declared.path.Step.{Step}
use Rattle.log_format.specs.declared.record.Record.{Record}
use Rattle.race_model.specs.Trace.{Logs, Node, logs_of, barrier_count}
use Rattle.race_model.specs.Order.{IsLane}
use Rattle.race_model.specs.Listing.{lane_of}
use Rattle.race_model.specs.ForkJoin.{ListsTask, IsTreeTrace, WasForked}
use Rattle.race_model.specs.History.{IsReleased, released}
use Rattle.kernel_syntax.specs.Program.{Program}
use Rattle.kernel_model.specs.Folder.{root_start, own_trace, start_at, start_below}
use Rattle.step_history.specs.History.{HasHistory}
use Rattle.history_model.specs.Work.{Work, lane_works, works_at_step, works_of, works_under, task_logs}
use Rattle.history_model.specs.Did.{did}
use Rattle.history_model.specs.Tasks.{tree_tasks}
use Rattle.history_model.specs.Sound.{WordLayout, IsSound, HasAddresses, AreFitted}
use Rattle.history_model.specs.Joined.{IsJoined}
use Rattle.history_laws.proofs.TaskTree.{IsForkedLane, AreForked, lane_is, forked_last, tree_of_tasks, records_forked}
use Rattle.history_laws.proofs.TreeHistory.{tree_history}
use Rattle.history_laws.proofs.MetBarriers.{barriers_met, works_lane}
use Rattle.history_laws.proofs.EndedLanes.{lanes_end}
use Rattle.history_laws.proofs.LongerLogs.{lane_full, there_full, take_full}
use Rattle.execution_model.specs.Execution.{BeginsTrace, IsBegun, HaveMet, HaveJoined, DrewSome, team_logs, HaveDrawn, IsExecution}
use Rattle.execution_model.specs.Runs.{put_records, works_log, logged_tasks, IsWithin, AreReleased, region_logs, RunsTask}
use Rattle.execution_laws.proofs.LoggedTasks.{no_records, lists_logged, logged_lists, tree_logs, log_is, listed_forked}
use Rattle.execution_laws.proofs.Descent.{begun_of, released_of, task_region, RegionAt, RunsAt, down}
use Rattle.execution_laws.proofs.Prefixes.{on, barriers_same, ends_same, lane_put}

map_same : {X Y : Type 0} (f g : X → Y) (xs : List X) → ((x : X) → f x ≡ g x) → map f xs ≡ map g xs
map_same f g [] same = refl
map_same {X} {Y} f g (x ∷ xs) same = ap (λ (y : Y). y ∷ map f xs) (same x) ∙ ap (λ (ys : List Y). g x ∷ ys) (map_same f g xs same)

start_is : (program : Program) (logs : Logs) (path : List Step) → start_at program logs path ≡ start_below program logs [] (Some (root_start program)) path
unfolding start_at
start_is program logs path = refl

-- a lane told by logs is one told by the same logs
lane_same : (logs other : Logs) → ((path : List Step) → logs path ≡ other path) → (fork : Node) (lane span : ℕ) (path : List Step) → IsLane logs fork lane span path → IsLane other fork lane span path
lane_same logs other same fork lane span path = lane_full logs other (λ p. ([], sym (same p) ∙ sym (append-nil (logs p)))) fork lane span path

module _ (program : Program) (layout : WordLayout) (depth : ℕ) (root : Work) (sound : IsSound layout root) (all : IsJoined root)
    (task : RunsTask program (root_start program) (root ∷ [])) (within : IsWithin depth root) where
  abbrev logs : Logs
  logs = logs_of (logged_tasks depth root)

  log_here : (path : List Step) → logs path ≡ works_log (works_of root path)
  log_here = log_is layout depth root sound within

  -- the task at a forked path
  at_path : (path : List Step) → AreForked (root ∷ []) path → RunsAt program logs [] (root_start program) (root ∷ []) path
  at_path path forked = down program logs [] (root_start program) (root ∷ []) path task forked log_here

  begun_at : (path : List Step) → ListsTask (logged_tasks depth root) path → IsBegun program logs path
  begun_at path lists = of_task (at_path path (listed_forked depth root path (logged_lists (tree_tasks depth root) path lists))) where
    of_task : RunsAt program logs [] (root_start program) (root ∷ []) path → IsBegun program logs path
    of_task r = record {
      start = r.begin;
      starts = start_is program logs path ∙ r.starts;
      begun = subst (λ (rs : List Record). BeginsTrace program r.begin rs) (sym (log_here path)) (begun_of program r.begin (works_of root path) r.task);
    }

  -- the logs are without the unlocks of what a task held when it stopped
  pub released_at : IsReleased logs (task_logs root)
  released_at path = by_size (length (task_logs root path)) refl where
    of_records : AreReleased (task_logs root path) → (task_logs root path ≡ logs path) ⊎ (task_logs root path ≡ released (logs path))
    of_records (inl same) = inl (same ∙ sym (log_here path))
    of_records (inr same) = inr (same ∙ ap (λ (rs : List Record). released rs) (sym (log_here path)))

    by_size : (n : ℕ) → length (task_logs root path) ≡ n → (task_logs root path ≡ logs path) ⊎ (task_logs root path ≡ released (logs path))
    by_size zero size =
        let empty = no_records (task_logs root path) size in
        inl (empty ∙ sym (log_here path ∙ ap (λ (rs : List Record). put_records rs) empty))
    by_size (suc n) size =
        let r = at_path path (records_forked layout (root ∷ []) path (sound, tt) (omega arith)) in
        of_records (released_of program r.begin (works_of root path) r.task)

  tree : IsTreeTrace (logged_tasks depth root)
  tree = record { root = lists_logged (tree_tasks depth root) [] whole.root; forked = λ path step lists. kept path step (whole.forked path step (logged_lists (tree_tasks depth root) (path ++ step ∷ []) lists)) } where
    whole : IsTreeTrace (tree_tasks depth root)
    whole = tree_of_tasks layout depth root sound

    kept : (path : List Step) (step : Step) → WasForked (logs_of (tree_tasks depth root)) path step → WasForked logs path step
    kept path step w = record {
      fork = w.fork;
      above = w.above;
      lane = lane_put logs (task_logs root) released_at w.fork step.lane step.span (path ++ step ∷ [])
          (lane_same (logs_of (tree_tasks depth root)) (task_logs root) (tree_logs layout depth root sound within) w.fork step.lane step.span (path ++ step ∷ []) w.lane);
    }

  met : HaveMet logs
  met fork lane other span path beside i mine yours less =
      let m = lane_full logs (task_logs root) (on logs (task_logs root) released_at) fork lane span path mine in
      let y = lane_full logs (task_logs root) (on logs (task_logs root) released_at) fork other span beside yours in
      let at : Node = record { path = path; index = i } in
      let there = there_full logs (task_logs root) (on logs (task_logs root) released_at) at less in
      let same = take_full logs (task_logs root) (on logs (task_logs root) released_at) at (omega arith) in
      let counts : barrier_count (take i (task_logs root path)) ≡ barrier_count (take i (logs path)) = ap (λ (rs : List Record). barrier_count rs) same in
      let le = barriers_met layout root fork lane other span path beside i sound m y there in
      let others = barriers_same logs (task_logs root) released_at beside in
      omega (arith, counts, le, others)

  joined : HaveJoined logs
  joined fork lane span path is more =
      ends_same logs (task_logs root) released_at path
      (lanes_end layout root fork lane span path sound all
      (lane_full logs (task_logs root) (on logs (task_logs root) released_at) fork lane span path is)
      (there_full logs (task_logs root) (on logs (task_logs root) released_at) (record { path = fork.path; index = fork.index + 1 }) more))

  drawn : HaveDrawn (logged_tasks depth root)
  drawn path step lists loop =
      at (forked_last (root ∷ []) path step (listed_forked depth root (path ++ step ∷ []) (logged_lists (tree_tasks depth root) (path ++ step ∷ []) lists)))
    where
      at : AreForked (root ∷ []) path × IsForkedLane (works_under (root ∷ []) path) step → DrewSome (team_logs logs path step) loop
      at (above, last) = subst (λ (lanes : List (List Record)). DrewSome lanes loop) (sym lanes_are) (of_region.drew loop) where
        r : RunsAt program logs [] (root_start program) (root ∷ []) path
        r = at_path path above

        of_region : RegionAt program (own_trace program r.begin (works_log (works_of root path))).forks step.region last.region
        of_region = task_region program r.begin (works_of root path) step.region last.region r.task last.found

        log_of_lane : (lane : ℕ) → logs (lane_of path step.region lane step.span) ≡ works_log (lane_works lane last.region.phases)
        log_of_lane lane =
            log_here (lane_of path step.region lane step.span)
            ∙ ap (λ (ws : List Work). works_log ws) (works_lane root path (record { region = step.region; lane = lane; span = step.span }))
            ∙ ap (λ (n : ℕ). works_log (works_at_step (record { region = step.region; lane = lane; span = n }) (works_of root path))) (sym last.span_is)
            ∙ ap (λ (ws : List Work). works_log ws) (lane_is (works_of root path) last.region step.region lane last.found)

        lanes_are : team_logs logs path step ≡ region_logs last.region.phases last.region.span
        lanes_are =
            map_same (λ (lane : ℕ). logs (lane_of path step.region lane step.span)) (λ (lane : ℕ). works_log (lane_works lane last.region.phases)) (range_with_len 0 step.span) log_of_lane
            ∙ ap (λ (n : ℕ). region_logs last.region.phases n) (sym last.span_is)

  pub execution : (memory words : List ℕ) → HasAddresses layout memory → AreFitted layout memory words → HasHistory (did layout.word [] 0 root) memory
      → IsExecution program (logged_tasks depth root) layout.address words
  execution memory words addresses fitted has = record {
    tree = tree;
    traced = begun_at;
    met = met;
    joined = joined;
    drawn = drawn;
    history = tree_history layout root sound memory words addresses fitted has logs released_at;
  }
