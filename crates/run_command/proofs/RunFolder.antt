-- The folder that a run leaves holds the run's trace.
use Rattle.std.proofs.Common.{◌≡◌, ◌≢◌, refl, sym, ap, subst, ◌∙◌, ℕ, suc, ◌<◌, Bool, true, false, cond, true≢false, nat_lt, List, [], ◌∷◌, ◌++◌, drop, map, length, get_or, slice_get, Option, None, Some, IsSome, arith}
use Rattle.std.specs.Prelude.{All, ◌==◌, ◌&&◌}
use Rattle.std.proofs.lemmas.Bool.Decides.{nat_tests}
use Rattle.std.specs.List.{IsDistinct, AllByRecursion}
use Rattle.std.proofs.lemmas.List.{get_or-map, length-map}
use Rattle.std.proofs.lemmas.List.Elements.{All-nil, All-cons, All-head, All-tail, All-weaker}
use Rattle.log_format.specs.declared.format.TheConstants.{FORMAT}
use Rattle.sw_base.specs.declared.path.Step.{Step}
use Rattle.sw_base.specs.Environment.{Content, Files, Outline, with_put}
use Rattle.sw_base.specs.HandedLog.{HandedLog, sealed_name, with_sealed, with_told}
use Rattle.sw_base.specs.Names.{index_name, log_name}
use Rattle.sw_base.proofs.AfterPut.{with_file-elsewhere, with_file-here}
use Rattle.sw_base.proofs.NameLaws.{HasPlace, log_name-not_index, log_name-places, place}
use Rattle.race_model.specs.FirstBad.{HoldsLogs, HoldsTrace, IsBad, row_of, rows_of}
use Rattle.race_model.specs.IndexFault.{IsRow, IsStep}
use Rattle.race_model.specs.BadPlace.{IsTooMany, BadPlace}
use Rattle.race_model.specs.Row.{index_bytes}
use Rattle.race_model.specs.Trace.{TaskLog, Trace, Logs, logs_of, path_eq}
use Rattle.race_laws.proofs.IndexRows.{put_is_index}
use Rattle.race_laws.proofs.KeptFolder.{kept_bad}
use Rattle.race_model.proofs.TraceLogs.{path_itself}
use Rattle.kernel_syntax.specs.Program.{Program}
use Rattle.kernel_model.specs.Folder.{lane_start, own_trace, paths_of, root_start, start_at, start_below}
use Rattle.kernel_model.specs.State.{Fork}
use Rattle.kernel_model.specs.Trace.{Start}
use Rattle.region_runner.specs.Answer.{IsEndedRun, whole_outline}
use Rattle.run_command.specs.Run.{told_log}

-- ---- names that were sealed

-- no two of the logs have one name
abbrev NamesApart : List HandedLog → Type 0
NamesApart [] = Unit {0}
NamesApart (log ∷ logs) = All (λ (other : HandedLog). sealed_name log ≢ sealed_name other) logs × NamesApart logs

-- sealing a log leaves another name as it is
told_elsewhere : (log : HandedLog) (told : Option Outline) (content : Content) (name : List ℕ) → name ≢ sealed_name log → (with_told (sealed_name log) told content).held name ≡ content.held name
told_elsewhere log None content name apart = refl
told_elsewhere log (Some told) content name apart = with_file-elsewhere (sealed_name log) told.bytes content.held name apart

-- a name of none of the logs is as before
sealed_elsewhere : (logs : List HandedLog) (content : Content) (name : List ℕ) → All (λ (log : HandedLog). name ≢ sealed_name log) logs
    → (with_sealed logs content).held name ≡ content.held name
sealed_elsewhere [] content name apart = refl
sealed_elsewhere (log ∷ logs) content name apart =
    sealed_elsewhere logs (with_told (sealed_name log) log.told content) name (All-tail (λ (log : HandedLog). name ≢ sealed_name log) log logs apart)
    ∙ told_elsewhere log log.told content name (All-head (λ (log : HandedLog). name ≢ sealed_name log) log logs apart)

-- the folder has the log's bytes
abbrev HasLog : Files → HandedLog → Type 0
HasLog files log = (told : Outline) → log.told ≡ Some told → files (sealed_name log) ≡ Some told.bytes

-- a log that was sealed is there
told_here : (log : HandedLog) (content : Content) → HasLog (with_told (sealed_name log) log.told content).held log
told_here log content told is =
    ap (λ (o : Option Outline). (with_told (sealed_name log) o content).held (sealed_name log)) is ∙ with_file-here (sealed_name log) told.bytes content.held

-- each log is there
sealed_here : (logs : List HandedLog) (content : Content) → NamesApart logs → All (HasLog (with_sealed logs content).held) logs
sealed_here [] content apart = All-nil (HasLog content.held)
sealed_here (log ∷ logs) content apart =
    All-cons (HasLog (with_sealed (log ∷ logs) content).held) log logs
    (λ told is. sealed_elsewhere logs (with_told (sealed_name log) log.told content) (sealed_name log) apart.0 ∙ told_here log content told is)
    (sealed_here logs (with_told (sealed_name log) log.told content) apart.1)

-- ---- names of tasks

module _ (program : Program) (logs : Logs) where
  -- the lane of a step has the span of the team that is forked
  lane_span : (fork : Fork) (step : Step) (b : Bool) → ((step.span == fork.team.span) && nat_lt step.lane step.span) ≡ b
      → IsSome {T = Start} (cond b (Some (record { team = fork.team; lane = step.lane; slots = fork.slots })) None) → step.span ≡ fork.team.span
  lane_span fork step true is some = grind (arith, nat_tests)
  lane_span fork step false is some = absurd (true≢false (sym some))

  -- lanes at one place of one fork are one lane
  one_lane : (fork : Option Fork) (a b : Step) → IsSome (lane_start fork a) → IsSome (lane_start fork b) → a.region ≡ b.region → a.lane ≡ b.lane → a ≡ b
  one_lane None a b one other region lane = absurd (true≢false (sym one))
  one_lane (Some fork) a b one other region lane =
      let spans : a.span ≡ b.span = lane_span fork a _ refl one ∙ sym (lane_span fork b _ refl other) in
      λ i. record { region = region i; lane = lane i; span = spans i }

  -- the lane of a step, below a task that starts so
  abbrev lane_below : List Step → Start → Step → Option Start
  lane_below path start step = lane_start (slice_get (own_trace program start (logs path)).forks step.region) step

  -- a task starts where one below it does
  starts_above : (path : List Step) (start : Option Start) (steps : List Step) → IsSome (start_below program logs path start steps) → IsSome start
  starts_above path None steps some = some
  starts_above path (Some start) steps some = refl

  -- steps to tasks below one are the same where their places are
  same_below : (path : List Step) (start : Option Start) (p q : List Step) → IsSome (start_below program logs path start p) → IsSome (start_below program logs path start q)
      → map place p ≡ map place q → p ≡ q
  same_below path None p q one other same = absurd (true≢false (sym one))
  same_below path (Some start) [] [] one other same = refl
  same_below path (Some start) [] (b ∷ q) one other same = let none : ◌≡◌ {A = ℕ} 0 (suc (length (map place q))) = ap length same in absurd (omega (arith, none))
  same_below path (Some start) (a ∷ p) [] one other same = let none : ◌≡◌ {A = ℕ} (suc (length (map place p))) 0 = ap length same in absurd (omega (arith, none))
  same_below path (Some start) (a ∷ p) (b ∷ q) one other same =
      let places : place a ≡ place b = ap (λ (at : List (ℕ × ℕ)). get_or at 0 (0, 0)) same in
      let region : a.region ≡ b.region = ap (λ (at : ℕ × ℕ). at.0) places in
      let forked = starts_above (path ++ a ∷ []) (lane_below path start a) p one in
      let beside = starts_above (path ++ b ∷ []) (lane_below path start b) q other in
      let step : a ≡ b = one_lane (slice_get (own_trace program start (logs path)).forks a.region) a b forked
      (subst (λ (r : ℕ). IsSome (lane_start (slice_get (own_trace program start (logs path)).forks r) b)) (sym region) beside) region (ap (λ (at : ℕ × ℕ). at.1) places) in
      let rest : p ≡ q = same_below (path ++ a ∷ []) (lane_below path start a) p q one
      (subst (λ (s : Step). IsSome (start_below program logs (path ++ s ∷ []) (lane_below path start s) q)) (sym step) other) (ap (λ (at : List (ℕ × ℕ)). drop 1 at) same) in
      λ i. step i ∷ rest i

  -- tasks at one place are one task
  same_path : (p q : List Step) → IsSome (start_at program logs p) → IsSome (start_at program logs q) → map place p ≡ map place q → p ≡ q
  unfolding start_at
  same_path p q one other same = same_below [] (Some (root_start program)) p q one other same

  -- a task of the run, whose name tells it
  record IsNamed (path : List Step) : Type 0 where
    starts : IsSome (start_at program logs path)
    places : All HasPlace path

  module _ (dir : List ℕ) where
    -- two tasks have two names
    names_differ : (p q : List Step) → IsNamed p → IsNamed q → (p ≡ q → ⊥) → log_name dir p ≢ log_name dir q
    names_differ p q one other apart same = apart (same_path p q one.starts other.starts (log_name-places dir p q one.places other.places same))

    -- two paths that are told apart are two
    differ : (p q : List Step) → path_eq p q ≡ false → p ≡ q → ⊥
    differ p q apart same = let equal : path_eq p q ≡ true = subst (λ (r : List Step). path_eq p r ≡ true) same (path_itself p) in cc

    -- the first task's name is none of the others'
    apart_first : (size : ℕ) (first : TaskLog) (tasks : Trace) → IsNamed first.path → All (λ (task : TaskLog). IsNamed task.path) tasks
        → AllByRecursion (λ p. path_eq first.path p ≡ false) (paths_of tasks) → All (λ (log : HandedLog). log_name dir first.path ≢ sealed_name log) (map (told_log dir size) tasks)
    apart_first size first [] named all apart = All-nil (λ (log : HandedLog). log_name dir first.path ≢ sealed_name log)
    apart_first size first (task ∷ tasks) named all apart =
        All-cons (λ (log : HandedLog). log_name dir first.path ≢ sealed_name log) (told_log dir size task) (map (told_log dir size) tasks)
        (names_differ first.path task.path named (All-head (λ (t : TaskLog). IsNamed t.path) task tasks all) (differ first.path task.path apart.0))
        (apart_first size first tasks named (All-tail (λ (t : TaskLog). IsNamed t.path) task tasks all) apart.1)

    -- no two tasks have one name
    tasks_apart : (size : ℕ) (tasks : Trace) → All (λ (task : TaskLog). IsNamed task.path) tasks → IsDistinct path_eq (paths_of tasks) → NamesApart (map (told_log dir size) tasks)
    unfolding IsDistinct
    tasks_apart size [] all once = tt
    tasks_apart size (task ∷ tasks) all once = (
      apart_first size task tasks (All-head (λ (t : TaskLog). IsNamed t.path) task tasks all) (All-tail (λ (t : TaskLog). IsNamed t.path) task tasks all) once.0,
      tasks_apart size tasks (All-tail (λ (t : TaskLog). IsNamed t.path) task tasks all) once.1,
    )

-- ---- a run

-- a step of a path fits its place
has_place : (step : Step) → IsStep step → HasPlace step
has_place step is = let region = is.region in let lane = is.lane in let span = is.span.limit in (omega arith, omega arith)

module _ (program : Program) (dir : List ℕ) (size : ℕ) (tasks : Trace) (words : List ℕ) (run : IsEndedRun program tasks words) where
  -- each has a name that tells it
  all_named : All (λ (task : TaskLog). IsNamed program (logs_of tasks) task.path) tasks
  all_named k d within = record {
    starts = let traced = run.traced.each k d within in subst (λ (o : Option Start). IsSome o) (sym traced.starts) refl;
    places = All-weaker IsStep HasPlace has_place (get_or tasks k d).path (task_row k d within).steps;
  } where
    task_row : (k : ℕ) (d : TaskLog) → k < length tasks → IsRow (row_of (get_or tasks k d))
    task_row k d within = subst IsRow (get_or-map row_of tasks k d (row_of d) within) (run.rules.rows.each k (row_of d) (omega (arith, length-map tasks row_of)))

  -- the folder after the run
  abbrev pub left_by : Content → Content
  left_by old = with_put (index_name dir) (index_bytes FORMAT (rows_of tasks)) (with_sealed (map (told_log dir size) tasks) old)

  -- each log is there and whole
  logs_held : (old : Content) → HoldsLogs FORMAT (left_by old).held dir tasks
  logs_held old k d within =
      let task = get_or tasks k d in
      let log = told_log dir size task in
      let after = with_sealed (map (told_log dir size) tasks) old in
      let sealed : HasLog after.held log
      = subst (HasLog after.held) (get_or-map (told_log dir size) tasks k d log within)
      (sealed_here (map (told_log dir size) tasks) old (tasks_apart program (logs_of tasks) dir size tasks all_named run.traced.once) k log (omega (arith, length-map tasks (told_log dir size)))) in
      record {
        there = with_file-elsewhere (index_name dir) (index_bytes FORMAT (rows_of tasks)) after.held (log_name dir task.path) (log_name-not_index dir task.path) ∙ sealed (whole_outline size task.records) refl;
        tabled = (run.rules.tasks k d within).tabled;
      }

  -- it holds the run's trace
  pub run_held : (old : Content) → HoldsTrace FORMAT (left_by old).held dir tasks
  run_held old = record { index = put_is_index (with_sealed (map (told_log dir size) tasks) old).held dir (rows_of tasks) run.rules.rows; logs = logs_held old }

  -- and is bad at most where a segment is one too many
  pub run_well_formed : (old : Content) (place : BadPlace) → IsBad FORMAT (left_by old).held dir place → IsTooMany place
  run_well_formed old = kept_bad (left_by old).held dir tasks run.rules (run_held old)
