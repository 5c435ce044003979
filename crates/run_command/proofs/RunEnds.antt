-- What comes out of a run, by what its logs were stored or sealed to.
use Rattle.std.proofs.Common.{◌≡◌, refl, sym, ap, subst, ◌∙◌, inl, inr, ℕ, ◌<◌, ◌≤◌, List, ◌∷◌, ◌++◌, map, length, sum_by, Option, None, Some, Ok, Err, true, true≢false, arith}
use Rattle.std.specs.Prelude.{All, is_some}
use Rattle.std.proofs.lemmas.List.{length-map, map-append}
use Rattle.std.proofs.lemmas.List.Elements.{All-cons, All-head, All-map, All-nil, All-tail, All-weaker}
use Rattle.std.proofs.lemmas.Option.{none-some, same_Some}
use Rattle.std.proofs.lemmas.Simd.{map-map}
use Rattle.log_format.specs.declared.format.TheConstants.{FORMAT}
use Rattle.log_format.specs.Format.{log_header}
use Rattle.sw_base.specs.declared.environment.Log.{Ghosts}
use Rattle.sw_base.specs.declared.closed_log.ClosedLog.{ClosedLog}
use Rattle.sw_base.specs.declared.path.Step.{Step}
use Rattle.sw_base.specs.declared.trouble.Trouble as fault
use Rattle.sw_base.specs.declared.trouble.Trouble.TheVariants as trouble
use Rattle.sw_base.specs.Environment.{Content, Rose, Text, outline_of}
use Rattle.sw_base.specs.HandedLog.{IsOwnLog, HandedLog, outline, SealsPrefix}
use Rattle.sw_base.specs.Names.{IsUnder}
use Rattle.race_model.specs.FirstBad.{row_of, rows_of}
use Rattle.race_model.specs.IndexFault.{AreRows}
use Rattle.race_model.specs.Row.{Row, index_bytes}
use Rattle.race_model.specs.Trace.{Trace, TaskLog}
use Rattle.kernel_model.specs.declared.stop.StopWhy.{StopWhy}
use Rattle.kernel_model.specs.declared.stop.StopWhy.TheVariants as because
use Rattle.kernel_syntax.specs.Program.{Program}
use Rattle.kernel_model.specs.Folder.{paths_of}
use Rattle.kernel_model.specs.Trace.{Stopped}
use Rattle.kernel_file.specs.declared.reading.KernelRefusal.{KernelRefusal}
use Rattle.kernel_file.specs.declared.reading.KernelRefusal.TheVariants as kernel
use Rattle.kernel_file.specs.Holding.{IsRefusal}
use Rattle.event_buffer.specs.Logged.{HasAll}
use Rattle.lane_runner.specs.declared.stop.Stop.{Stop}
use Rattle.lane_runner.specs.declared.stop.Stop.TheVariants.{DivZero, Index, LogFull, Tasks, Trouble}
use Rattle.lane_runner.specs.Handed.{AreEntriesOf, HandedEntry, HasCrowdedTask, HasFaultyLog, IsEntryOf, KeepsRecords, LogPlace, entries_of, entry_of}
use Rattle.lane_runner.specs.Handed as handed
use Rattle.lane_runner.specs.Stopping.{IsNoTrouble}
use Rattle.region_runner.specs.Answer.{HasRun, HasStoppedRun, IsEndedRun, StopsIn, whole_handed, whole_outline}
use Rattle.execution_model.specs.Stops.{EndsTask, IsCrowded, StopsAt}
use Rattle.run_command.specs.declared.outcome.Outcome.TheVariants as came
use Rattle.run_command.specs.Outcomes.{unkernelled, unwritten}
use Rattle.run_command.specs.Run.{AreLeftLogs, AreStopped, CameOut, CanRun, EndedRun, EndsSo, IsLeftLog, IsWholeRun, LeavesPart, StoppedRun}
use Rattle.run_command.specs.Run as left
use Rattle.run_command.specs.Told.{told_stop}
use Rattle.run_command.specs.Seals.{AllTell, RaiseFaults, SealsAll, StoresAll, StoresPrefix, StoresPart, all_logged, prefix, part, row_of_entry, rows_of_logs, with_index}
use Rattle.run_command.proofs.IndexKept.{IsOfFolder, prefix_keeps_index}
use Rattle.run_command.proofs.RunFolder.{left_by}
use Rattle.run_command.proofs.RunSums.{records_counted}
use Rattle.run_command.proofs.StoredRun.{rows-logged}
use Rattle.run_command.proofs.WholeRuns.{whole_run}

-- ---- a run that ended

-- the rows of a whole run's logs
whole_rows : (dir : List ℕ) (size : ℕ) (root : Option Text) (tasks : Trace) → rows_of_logs (map (whole_handed dir size root) tasks) ≡ rows_of tasks
whole_rows dir size root tasks = map-map (λ (log : HandedLog). record { path = log.task; records = log.count }) (whole_handed dir size root) tasks

-- each is of the folder and tells what it holds
whole_tell : (dir : List ℕ) (size : ℕ) (root : Text) (tasks : Trace) → AllTell dir (map (whole_handed dir size (Some root)) tasks)
whole_tell dir size root tasks = All-map (IsOwnLog dir true) (whole_handed dir size (Some root)) tasks (λ k d within. record { dir_is = refl; path_is = refl; tells_so = refl })

-- logs that tell what they hold are of the folder
own_dirs : (dir : List ℕ) (all : List HandedLog) → AllTell dir all → All (IsOfFolder dir) all
own_dirs dir all tell = All-weaker (IsOwnLog dir true) (IsOfFolder dir) (λ log own. own.dir_is) all tell

module _ {L : Type 0} (program : Program) (dir : List ℕ) (size : ℕ) (root : Option Text) (dir_of : L → List ℕ) (path_of : L → List Step) (text_of : L → Option Text) (entries : List (ClosedLog L))
    (words : List ℕ) (has : HasRun program dir size root (all_logged dir_of path_of text_of entries) words) where
  -- the rows of the logs are those of the tasks
  pub entry_rows : map row_of_entry entries ≡ rows_of has.tasks
  entry_rows = sym (rows-logged dir_of path_of text_of entries) ∙ ap rows_of_logs has.logs_are ∙ whole_rows dir size root has.tasks

  -- so they are those of an index
  pub run_rows : AreRows (map row_of_entry entries)
  run_rows = subst AreRows (sym entry_rows) has.run.rules.rows

-- no answer came of a write that failed
pub unwritten_part : (rose : Type 0) (file dir : List ℕ) (size : ℕ) (old new : Content) (t : fault.Trouble) → LeavesPart rose file dir size old new → CameOut rose file dir size old new (unwritten t)
unwritten_part rose file dir size old new trouble.Failed kept = kept
unwritten_part rose file dir size old new trouble.Memory kept = kept

-- only a call that failed ends so
pub unwritten_failed : (t : fault.Trouble) → unwritten t ≡ came.WriteFault → t ≡ trouble.Failed
unwritten_failed trouble.Failed is = refl
unwritten_failed trouble.Memory is = absurd (cc)

-- a count that rose, from an earlier moment
pub rose_more : (before old new : ℕ) → before ≤ old → Rose old new → Rose before new
rose_more before old new below rose = omega (arith, below, rose)

-- no kernel was read
pub kernel_refused : (rose : Type 0) (file dir : List ℕ) (size : ℕ) (content : Content) (why : KernelRefusal) → IsRefusal content.held file why → CameOut rose file dir size content content (unkernelled why)
kernel_refused rose file dir size content kernel.NoKernel none = (none, refl)
kernel_refused rose file dir size content (kernel.Refused line why) fault = (fault, refl)
kernel_refused rose file dir size content (kernel.Trouble trouble.Failed) told = refl
kernel_refused rose file dir size content (kernel.Trouble trouble.Memory) told = left.nothing refl

module _ (rose : Type 0) (file dir : List ℕ) (size : ℕ) (root : Text) (program : Program) (tasks : Trace) (words : List ℕ) (run : IsEndedRun program tasks words) where
  abbrev whole : IsWholeRun program tasks words
  whole = whole_run program tasks words run

  -- the logs that the run answers
  abbrev run_logs : List HandedLog
  run_logs = map (whole_handed dir size (Some root)) tasks

  -- a folder with all logs and the whole index
  all_left : (old : Content) → with_index dir run_logs (index_bytes FORMAT (rows_of_logs run_logs)) old ≡ left_by program dir size tasks words run old
  all_left old = ap (λ (rows : List Row). with_index dir run_logs (index_bytes FORMAT rows) old) (whole_rows dir size (Some root) tasks)

  -- what is left where storing the run was refused
  part_left : (old new : Content) → CanRun old.held file dir program → StoresPart dir run_logs old new → LeavesPart rose file dir size old new
  part_left old new can (part sealed) =
      left.logs program can run_logs (left.ended tasks words whole refl) sealed (prefix_keeps_index dir run_logs old new (own_dirs dir run_logs (whole_tell dir size root tasks)) sealed ∙ can.fresh)
  part_left old new can (prefix bytes rest parts leaves) =
      left.index program can tasks words whole bytes rest (ap (index_bytes FORMAT) (sym (whole_rows dir size (Some root) tasks)) ∙ parts) leaves

  -- storing the run was refused
  refused_ends : (old new : Option Content) (t : fault.Trouble) → StoresPrefix dir run_logs old new → EndsSo rose file dir size program old new (unwritten t)
  refused_ends old new t stores c d can is now =
      let put = stores c (whole_tell dir size root tasks) is in
      unwritten_part rose file dir size c d t (subst (λ (n : Content). LeavesPart rose file dir size c n) (same_Some put.content d (sym put.is ∙ now)) (part_left c put.content can put.holds))

  -- it was stored
  stored_ends : (old new : Option Content) (count records : ℕ) → StoresAll dir run_logs old new → count ≡ length tasks → records ≡ sum_by (λ (task : TaskLog). length task.records) tasks
      → (c d : Content) → CanRun c.held file dir program → old ≡ Some c → new ≡ Some d → EndedRun file dir size c d program count records words
  stored_ends old new count records stores counted summed c d can is now =
      let leaves : d ≡ left_by program dir size tasks words run c = same_Some d (with_index dir run_logs (index_bytes FORMAT (rows_of_logs run_logs)) c) (sym now ∙ stores c (whole_tell dir size root tasks) is) ∙ all_left c in
      record {
        can = can;
        tasks = tasks;
        run = whole;
        count_is = counted;
        records_are = summed;
        leaves = leaves;
      }

-- the same of the logs that a run answered
module _ (rose : Type 0) (file dir : List ℕ) (size : ℕ) (root : Text) (program : Program) (words : List ℕ) (all : List HandedLog) (has : HasRun program dir size (Some root) all words) where
  -- storing them was refused
  pub run_refused : (old new : Option Content) (t : fault.Trouble) → StoresPrefix dir all old new → EndsSo rose file dir size program old new (unwritten t)
  run_refused old new t stores =
      refused_ends rose file dir size root program has.tasks words has.run old new t (subst (λ (ls : List HandedLog). StoresPrefix dir ls old new) has.logs_are stores)

  -- they were stored
  pub run_stored : (old new : Option Content) (rows : List Row) → rows ≡ rows_of has.tasks → StoresAll dir all old new
      → (c d : Content) → CanRun c.held file dir program → old ≡ Some c → new ≡ Some d → EndedRun file dir size c d program (length rows) (sum_by (λ (row : Row). row.records) rows) words
  run_stored old new rows same stores =
      stored_ends rose file dir size root program has.tasks words has.run old new (length rows) (sum_by (λ (row : Row). row.records) rows) (subst (λ (ls : List HandedLog). StoresAll dir ls old new) has.logs_are stores)
      (ap length same ∙ length-map has.tasks row_of) (ap (λ (rs : List Row). sum_by (λ (row : Row). row.records) rs) same ∙ records_counted has.tasks)

-- ---- a kernel that stopped

-- the log of a task as it is handed on
abbrev log_of : HandedEntry → HandedLog
log_of e = record { task = e.task; dir = e.dir; path = e.path; told = outline e.text; count = e.count }

-- a log tells its outline where it tells its text
outline_told : (text : Option Text) → is_some text ≡ true → is_some (outline text) ≡ true
outline_told None is = is
outline_told (Some text) is = refl

-- a stop that is told is no trouble
told_no_trouble : (why : Stop) (told : ℕ × StopWhy) → told_stop why ≡ Some told → handed.IsTrouble why → ⊥
told_no_trouble (DivZero line) told is trouble = trouble
told_no_trouble (Index line) told is trouble = trouble
told_no_trouble (LogFull line) told is trouble = trouble
told_no_trouble (Tasks line) told is trouble = trouble
told_no_trouble (Trouble t) told is trouble = none-some told is

none_is_trouble : (why : Stop) (told : ℕ × StopWhy) → told_stop why ≡ Some told → IsNoTrouble why
none_is_trouble (DivZero line) told is = tt
none_is_trouble (Index line) told is = tt
none_is_trouble (LogFull line) told is = tt
none_is_trouble (Tasks line) told is = tt
none_is_trouble (Trouble t) told is = none-some told is

-- how a task stopped, by what is told of it
module _ (program : Program) (tasks : Trace) (path : List Step) (told : ℕ × StopWhy) where
  as_traced : (line : ℕ) (reason : StopWhy) → (reason ≡ because.Tasks → ⊥) → Some (line, reason) ≡ Some told → EndsTask program tasks path (Stopped reason line) → StopsAt program tasks path told.0 told.1
  as_traced line reason other is ends = subst (λ (t : ℕ × StopWhy). StopsAt program tasks path t.0 t.1) (same_Some (line, reason) told is) (StopsAt.as_traced reason other ends)

  stops_at : (why : Stop) → told_stop why ≡ Some told → StopsIn program tasks path why → ((at : ℕ) → why ≡ Tasks at → IsCrowded path (paths_of tasks)) → StopsAt program tasks path told.0 told.1
  stops_at (DivZero line) is s crowded = as_traced line because.DivZero (λ same. cc) is (s.traced (Stopped because.DivZero line) refl)
  stops_at (Index line) is s crowded = as_traced line because.Index (λ same. cc) is (s.traced (Stopped because.Index line) refl)
  stops_at (LogFull line) is s crowded = as_traced line because.LogFull (λ same. cc) is (s.traced (Stopped because.LogFull line) refl)
  stops_at (Tasks line) is s crowded =
      subst (λ (t : ℕ × StopWhy). StopsAt program tasks path t.0 t.1) (same_Some (line, because.Tasks) told is) (StopsAt.crowded (s.crowded line refl) (s.joined line refl) (crowded line refl))
  stops_at (Trouble t) is s crowded = absurd (none-some told is)

module _ (rose : Type 0) (dir : List ℕ) (size : ℕ) (path : List Step) (why : Stop) (told : ℕ × StopWhy) (is_told : told_stop why ≡ Some told) where
  -- where the logs are, and how the run stopped
  abbrev here : LogPlace
  here = record { dir = dir; size = size; tells = true }

  abbrev stop : Option (List Step × Stop)
  stop = Some (path, why)

  no_memory : why ≡ Trouble trouble.Memory → ⊥
  no_memory is = none-some told (sym (ap told_stop is) ∙ is_told)

  -- a log that keeps what its task put
  kept_log : (task : TaskLog) (e : HandedEntry) → IsEntryOf here stop task.path task.records e → (0 < e.faults → rose) → (text : Text) → e.text ≡ Some text
      → KeepsRecords stop task.path task.records size e.faults text → IsLeftLog rose dir size path task (log_of e)
  kept_log task e is raise text tells (handed.whole all) =
      let whole : outline e.text ≡ Some (whole_outline size task.records) = ap outline tells ∙ ap Some (outline_is all) in
      left.whole (λ i. record { task = is.task i; dir = is.dir i; path = is.own i; told = whole i; count = is.count i })
    where
      outline_is : HasAll (log_header FORMAT) task.records size text → outline_of text ≡ whole_outline size task.records
      outline_is all = λ i. record { bytes = all.bytes i; lengths = all.lengths i }
  kept_log task e is raise text tells (handed.torn (inl memory) first) = absurd (no_memory memory)
  kept_log task e is raise text tells (handed.torn (inr (faulty, own)) first) =
      let part : outline e.text ≡ Some (outline_of text) = ap outline tells in
      left.torn (raise faulty) (λ same. told_no_trouble why told is_told (own same)) (record {
        outline = outline_of text;
        log_is = λ i. record { task = is.task i; dir = is.dir i; path = is.own i; told = part i; count = is.count i };
        missing = first.missing;
        prefix = first.prefix;
        behind = first.behind;
      })

  -- by whether it tells its text, which it does
  left_log : (task : TaskLog) (e : HandedEntry) → IsEntryOf here stop task.path task.records e → (0 < e.faults → rose) → (text : Option Text) → e.text ≡ text → IsLeftLog rose dir size path task (log_of e)
  left_log task e is raise None none = absurd (true≢false (sym (ap is_some (sym none) ∙ is.tells)))
  left_log task e is raise (Some text) tells = kept_log task e is raise text tells (is.keeps text tells)

  -- all logs
  left_logs : (tasks : Trace) (entries : List HandedEntry) → AreEntriesOf here stop tasks entries → All (λ (e : HandedEntry). 0 < e.faults → rose) entries → AreLeftLogs rose dir size path tasks (map log_of entries)
  left_logs _ _ AreEntriesOf.no_task raise = left.no_task
  left_logs _ _ (AreEntriesOf.given task tasks e entries is rest) raise =
      left.next task tasks (log_of e) (map log_of entries) (left_log task e is (All-head (λ (e : HandedEntry). 0 < e.faults → rose) e entries raise) e.text refl)
      (left_logs tasks entries rest (All-tail (λ (e : HandedEntry). 0 < e.faults → rose) e entries raise))
  left_logs _ _ (AreEntriesOf.missing task tasks entries memory rest) raise = absurd (no_memory memory)

  -- they are of the folder and tell what they hold
  logs_tell : (tasks : Trace) (entries : List HandedEntry) → AreEntriesOf here stop tasks entries → AllTell dir (map log_of entries)
  logs_tell _ _ AreEntriesOf.no_task = All-nil (IsOwnLog dir true)
  logs_tell _ _ (AreEntriesOf.given task tasks e entries is rest) =
      All-cons (IsOwnLog dir true) (log_of e) (map log_of entries) (record { dir_is = is.dir; path_is = is.own ∙ sym is.task; tells_so = outline_told e.text is.tells }) (logs_tell tasks entries rest)
  logs_tell _ _ (AreEntriesOf.missing task tasks entries memory rest) = absurd (no_memory memory)

  -- the tasks are those of the logs
  entry_paths : (tasks : Trace) (entries : List HandedEntry) → AreEntriesOf here stop tasks entries → map (λ (e : HandedEntry). e.task) entries ≡ paths_of tasks
  entry_paths _ _ AreEntriesOf.no_task = refl
  entry_paths _ _ (AreEntriesOf.given task tasks e entries is rest) = let later = entry_paths tasks entries rest in λ i. is.task i ∷ later i
  entry_paths _ _ (AreEntriesOf.missing task tasks entries memory rest) = absurd (no_memory memory)

-- too many tasks are below one, told of the paths alone
crowded_paths : (path : List Step) (entries : List HandedEntry) (paths : List (List Step)) → map (λ (e : HandedEntry). e.task) entries ≡ paths → HasCrowdedTask path entries → IsCrowded path paths
crowded_paths path entries paths same has =
    let task : HandedEntry → List Step = λ (e : HandedEntry). e.task in
    let parts : map task (has.own ∷ (has.below ++ has.after)) ≡ path ∷ (map task has.below ++ map task has.after) = (let below = map-append task has.below has.after in λ i. has.task i ∷ below i) in
    record {
      before = map task has.before;
      below = map task has.below;
      after = map task has.after;
      parts = sym same ∙ ap (map task) has.parts ∙ map-append task has.before (has.own ∷ (has.below ++ has.after)) ∙ ap (λ (ps : List (List Step)). map task has.before ++ ps) parts;
      under = All-map (λ (p : List Step). IsUnder p path) task has.below has.under;
      many = let many = has.many in omega (arith, length-map has.below task);
    }

module _ (rose : Type 0) (file dir : List ℕ) (size : ℕ) (root : Text) (program : Program) (entries : List HandedEntry) (path : List Step) (why : Stop) (words : List ℕ)
    (has : HasStoppedRun program dir size (Some root) entries path why words) (line : ℕ) (reason : StopWhy) (is_told : told_stop why ≡ Some (line, reason)) (raise : All (λ (e : HandedEntry). 0 < e.faults → rose) entries) where
  abbrev stop_logs : List HandedLog
  stop_logs = map log_of entries

  -- what the logs are of
  are_stopped : AreStopped rose program dir size stop_logs path line reason
  are_stopped = record {
    tasks = has.tasks;
    words = words;
    execution = has.execution;
    listed = has.listed;
    logs_are = left_logs rose dir size path why (line, reason) is_told has.tasks entries has.logs_are raise;
    stops = stops_at program has.tasks path (line, reason) why is_told has.stops (λ at is.
        crowded_paths path entries (paths_of has.tasks) (entry_paths rose dir size path why (line, reason) is_told has.tasks entries has.logs_are)
        (has.tell.crowded path at (ap (λ (w : Stop). Some (path, w)) is)));
    least = has.stops.least (none_is_trouble why (line, reason) is_told);
  }

  all_tell : AllTell dir stop_logs
  all_tell = logs_tell rose dir size path why (line, reason) is_told has.tasks entries has.logs_are

  -- all logs were sealed
  stop_sealed : (old new : Option Content) → SealsAll stop_logs (Ok tt) old new → (c d : Content) → CanRun c.held file dir program → old ≡ Some c → new ≡ Some d
      → (p : Program) × StoppedRun rose file dir size c d p path line reason
  stop_sealed old new seals c d can is now =
      let sealed = seals dir c all_tell is in
      (program, record { can = can; logs = stop_logs; stopped = are_stopped; leaves = same_Some d sealed.content (sym now ∙ sealed.is) ∙ sealed.holds.done })

  -- one was refused
  stop_refused : (old new : Option Content) (t : fault.Trouble) → SealsAll stop_logs (Err t) old new → EndsSo rose file dir size program old new (unwritten t)
  stop_refused old new t seals c d can is now =
      let sealed = seals dir c all_tell is in
      let same = same_Some sealed.content d (sym sealed.is ∙ now) in
      let first = subst (λ (n : Content). SealsPrefix stop_logs c n) same sealed.holds.prefix in
      unwritten_part rose file dir size c d t
      (left.logs program can stop_logs (left.stopped path line reason are_stopped) first (prefix_keeps_index dir stop_logs c d (own_dirs dir stop_logs all_tell) first ∙ can.fresh))

-- the same of the logs as they are answered
module _ {L : Type 0} (dir_of : L → List ℕ) (path_of : L → List Step) (text_of : L → Option Text) (faults_of : L → ℕ) (entries : List (ClosedLog L)) where
  abbrev seen : Ghosts L
  seen = record { dir = dir_of; path = path_of; text = text_of; faults = faults_of }

  logs_same : map log_of (entries_of seen entries) ≡ all_logged dir_of path_of text_of entries
  logs_same = map-map log_of (entry_of seen) entries

  module _ (rose : Type 0) (raise : RaiseFaults faults_of entries rose) where
    raise_entries : All (λ (e : HandedEntry). 0 < e.faults → rose) (entries_of seen entries)
    raise_entries = All-map (λ (e : HandedEntry). 0 < e.faults → rose) (entry_of seen) entries raise

    -- a log that counts a fault is among them
    pub faulty_rose : (path : List Step) → HasFaultyLog path (entries_of seen entries) → rose
    faulty_rose path has = let (k, within, is) = has.is in subst (λ (e : HandedEntry). 0 < e.faults → rose) is (raise_entries k has.log within) has.faulty

    module _ (file dir : List ℕ) (size : ℕ) (root : Text) (program : Program) (path : List Step) (why : Stop) (words : List ℕ)
        (has : HasStoppedRun program dir size (Some root) (entries_of seen entries) path why words) (line : ℕ) (reason : StopWhy) (is_told : told_stop why ≡ Some (line, reason)) where
      pub stopped_ends : (old new : Option Content) → SealsAll (all_logged dir_of path_of text_of entries) (Ok tt) old new → (c d : Content) → CanRun c.held file dir program → old ≡ Some c
          → new ≡ Some d → (p : Program) × StoppedRun rose file dir size c d p path line reason
      stopped_ends old new seals =
          stop_sealed rose file dir size root program (entries_of seen entries) path why words has line reason is_told raise_entries old new
          (subst (λ (logs : List HandedLog). SealsAll logs (Ok tt) old new) (sym logs_same) seals)

      pub unsealed_ends : (old new : Option Content) (t : fault.Trouble) → SealsAll (all_logged dir_of path_of text_of entries) (Err t) old new → EndsSo rose file dir size program old new (unwritten t)
      unsealed_ends old new t seals =
          stop_refused rose file dir size root program (entries_of seen entries) path why words has line reason is_told raise_entries old new t
          (subst (λ (logs : List HandedLog). SealsAll logs (Err t) old new) (sym logs_same) seals)
