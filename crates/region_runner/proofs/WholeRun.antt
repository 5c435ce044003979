-- What a run of a kernel answers, by what its root did and the history of all hands.
use Rattle.std.proofs.Common.{◌≡◌, ◌⊎◌, inl, inr, refl, ap, sym, ◌∙◌, subst, ℕ, suc, ◌+◌, ◌-◌, ◌*◌, ◌<◌, ◌≤◌, List, [], ◌∷◌, length, map, Option, Some, None, Ok, Err, arith}
use Rattle.std.specs.Prelude.{is_some, slice_get}
use Rattle.std.specs.List.{flat_map}
use Rattle.std.specs.Option.{option_map}
use Rattle.std.proofs.lemmas.Bool.{cases_lt}
use Rattle.std.proofs.lemmas.List.{append-nil}
use Rattle.std.proofs.lemmas.List.Elements.{All-cons, All-nil}
use Rattle.std.proofs.lemmas.List.Sums.{sum_by-cons}
use Rattle.sw_base.specs.declared.environment.Log.{Ghosts}
use Rattle.sw_base.specs.declared.closed_log.ClosedLog.{ClosedLog}
use Rattle.sw_base.specs.declared.path.Step.{Step}
use Rattle.sw_base.specs.declared.trouble.Trouble.TheVariants.{Memory}
use Rattle.sw_base.specs.Environment.{Text, WhereTold}
use Rattle.sw_base.specs.HandedLog.{HandedLog, handed_log, outline}
use Rattle.log_format.specs.declared.format.TheConstants.{FORMAT}
use Rattle.log_format.specs.declared.record.Record.{Record}
use Rattle.log_format.specs.Format.{log_header}
use Rattle.race_model.specs.IndexFault.{max_rows}
use Rattle.race_model.specs.Trace.{TaskLog, Trace, logs_of}
use Rattle.kernel_syntax.specs.declared.syntax.Array.{Array}
use Rattle.kernel_syntax.specs.Bounds.{IsBounded}
use Rattle.kernel_syntax.specs.Layout.{aligned, elements, laid_from}
use Rattle.kernel_syntax.specs.Program.{Program}
use Rattle.kernel_model.specs.Folder.{root_start}
use Rattle.kernel_model.specs.Lawful.{IsLawful}
use Rattle.kernel_rules.proofs.LawfulFolder.{folder_keeps}
use Rattle.atomic_table.specs.Seated.{TableId}
use Rattle.step_history.specs.declared.item.Item.{Item}
use Rattle.step_history.specs.History.{HasHistory}
use Rattle.shared_words.specs.declared.view.View.{View}
use Rattle.shared_words.specs.Handles.{HandValue, hand_with}
use Rattle.shared_words.specs.Views.{newcomer}
use Rattle.event_buffer.specs.Logged.{HasAll}
use Rattle.history_model.specs.Did.{did}
use Rattle.history_model.specs.Joined.{LastIsEnd}
use Rattle.history_model.specs.Sound.{AreFitted, HasAddresses}
use Rattle.history_model.specs.Work.{Work, work_records}
use Rattle.execution_model.specs.Execution.{IsExecution}
use Rattle.execution_model.specs.Runs.{IsWithin, RunsTask, logged_tasks, works_log}
use Rattle.execution_laws.proofs.Descent.{released_of}
use Rattle.execution_laws.proofs.LoggedTasks.{log_is}
use Rattle.execution_laws.proofs.Prefixes.{ends_same}
use Rattle.execution_laws.proofs.Whole.{execution}
use Rattle.lane_runner.specs.declared.stop.Stop.{Stop}
use Rattle.lane_runner.specs.declared.stop.Stop.TheVariants as stop
use Rattle.lane_runner.specs.Forking.{Answer, stop_in}
use Rattle.lane_runner.specs.Handed.{AreEntriesOf, HandedEntry, IsEntryOf, KeepsRecords, LogPlace, TellStop, entries_of, entry_of}
use Rattle.execution_model.specs.Stops.{EndsTask, LanesEnd, LastIsRegionAt}
use Rattle.execution_model.specs.Elements.{HaveOwnWords, element_address, element_word, layout_of}
use Rattle.lane_runner.proofs.HandedTasks.{tree_listed}
use Rattle.execution_model.proofs.OwnWords.{bounded_widths, own_words}
use Rattle.region_runner.specs.Answer.{AreFaultless, HasRun, HasStoppedRun, IsLeast, IsEndedRun, StopsIn, whole_handed, whole_outline}
use Rattle.execution_laws.specs.Nesting.{NestsWithin}
use Rattle.region_runner.specs.Gathering.{ClosedValue}
use Rattle.region_runner.specs.Root.{IsSettled, RanRoot, RootRests, StopsRoot}
use Rattle.execution_laws.proofs.FinishedRun.{whole_folder}
use Rattle.region_runner.proofs.Nested.{root_nests}
use Rattle.region_runner.proofs.NestedHands.{root_within}
use Rattle.region_runner.proofs.RootHands.{root_rests}
use Rattle.region_runner.proofs.RootStops.{ends_task, joined_task, least_task, rests_task}
use Rattle.execution_laws.proofs.TaskListing.{are_listed, are_within}

-- ---- the words of elements

-- the word is that of an element of an array
record HasElement (arrays : List Array) (word : ℕ) : Type 0 where
  number : ℕ
  array : Array
  index : ℕ
  found : slice_get arrays number ≡ Some array
  within : index < array.count
  is : array.first + index ≡ word

element_in : (base first : ℕ) (arrays : List Array) (word : ℕ) → first ≤ word → word < first + elements arrays → HasElement (laid_from base first arrays) word
element_in base first [] word low high = absurd (let none : elements [] ≡ 0 = refl in omega (arith, none, low, high))
element_in base first (a ∷ arrays) word low high =
    let sum : elements (a ∷ arrays) ≡ a.count + elements arrays = sum_by-cons (λ (x : Array). x.count) a arrays in
    by (cases_lt word (first + a.count)) (λ past. element_in (aligned (base + a.width * a.count)) (first + a.count) arrays word past (omega (arith, high, sum)))
  where
    by : (word < first + a.count) ⊎ (first + a.count ≤ word) → (first + a.count ≤ word → HasElement (laid_from (aligned (base + a.width * a.count)) (first + a.count) arrays) word) → HasElement (laid_from base first (a ∷ arrays)) word
    by (inl less) later = record { number = 0; array = record a { base = base; first = first }; index = word - first; found = refl; within = omega (arith, low, less); is = omega (arith, low) }
    by (inr past) later =
        let e = later past in
        record { number = suc e.number; array = e.array; index = e.index; found = e.found; within = e.within; is = e.is }

-- each word of a table with one for each element has an address, and its element a width
have_addresses : (program : Program) → IsBounded program → HaveOwnWords program.arrays → (words : List ℕ) → length words ≤ elements program.arrays → HasAddresses (layout_of program.arrays) words
have_addresses program bounded apart words few word less =
    let e = subst (λ (arrays : List Array). HasElement arrays word) (sym bounded.placed) (element_in 4096 0 program.arrays word (omega arith) (omega (arith, few, less))) in (
      subst (λ (n : ℕ). element_word program.arrays (element_address program.arrays n) ≡ n) e.is
          (ap (λ (addr : ℕ). element_word program.arrays addr) (apart.address e.number e.index e.array e.found e.within)
          ∙ apart.word e.number e.index e.array e.found e.within),
      bounded_widths program bounded word,
    )

-- ---- the logs of a run that ended

told_whole : (text root : Option Text) (records : List Record) (size : ℕ) → is_some text ≡ is_some root → WhereTold text (HasAll (log_header FORMAT) records size)
    → outline text ≡ option_map (λ _. whole_outline size records) root
told_whole None None records size same all = refl
told_whole None (Some r) records size same all = absurd cc
told_whole (Some t) None records size same all = absurd cc
told_whole (Some t) (Some r) records size same all =
    let has = all t refl in
    λ i. Some (record { bytes = has.bytes i; lengths = has.lengths i })

kept_whole : (text : Option Text) (path : List Step) (records : List Record) (size faults : ℕ) → WhereTold text (KeepsRecords None path records size faults) → WhereTold text (HasAll (log_header FORMAT) records size)
kept_whole text path records size faults keeps t told = by (keeps t told) where
  by : KeepsRecords None path records size faults t → HasAll (log_header FORMAT) records size t
  by (KeepsRecords.whole all) = all
  by (KeepsRecords.torn lacks prefix) = absurd lacks

module _ {T : Type 0} (seen : Ghosts T) (dir : List ℕ) (size : ℕ) (root : Option Text) where
  abbrev place : LogPlace
  place = record { dir = dir; size = size; tells = is_some root }

  abbrev handed : ClosedLog T → HandedLog
  handed = handed_log seen.dir seen.path seen.text

  log_whole : (task : TaskLog) (item : ClosedLog T) → IsEntryOf place None task.path task.records (entry_of seen item) → handed item ≡ whole_handed dir size root task
  log_whole task item is =
      let told = told_whole (seen.text item.log) root task.records size is.tells (kept_whole (seen.text item.log) task.path task.records size (seen.faults item.log) is.keeps) in
      λ i. record { task = is.task i; dir = is.dir i; path = is.own i; told = told i; count = is.count i }

  all_whole : (tasks : Trace) (items : List (ClosedLog T)) (es : List HandedEntry) → es ≡ entries_of seen items → AreEntriesOf place None tasks es → map handed items ≡ map (whole_handed dir size root) tasks
  all_whole _ [] _ same AreEntriesOf.no_task = refl
  all_whole _ (item ∷ items) _ same AreEntriesOf.no_task = absurd cc
  all_whole _ [] _ same (AreEntriesOf.given task tasks e es is rest) = absurd cc
  all_whole _ (item ∷ items) _ same (AreEntriesOf.given task tasks e es is rest) =
      let first : e ≡ entry_of seen item = cc in
      let others : es ≡ entries_of seen items = cc in
      ap (λ (log : HandedLog). log ∷ map handed items) (log_whole task item (subst (λ (x : HandedEntry). IsEntryOf place None task.path task.records x) first is))
      ∙ ap (λ (logs : List HandedLog). whole_handed dir size root task ∷ logs) (all_whole tasks items es others rest)
  all_whole _ items _ same (AreEntriesOf.missing task tasks es none rest) = absurd none

  -- none counts a fault
  all_faultless : (tasks : Trace) (items : List (ClosedLog T)) (es : List HandedEntry) → es ≡ entries_of seen items → AreEntriesOf place None tasks es → AreFaultless seen.faults items
  all_faultless _ [] _ same AreEntriesOf.no_task = All-nil (λ (x : ClosedLog T). seen.faults x.log ≡ 0)
  all_faultless _ (item ∷ items) _ same AreEntriesOf.no_task = absurd cc
  all_faultless _ [] _ same (AreEntriesOf.given task tasks e es is rest) = absurd cc
  all_faultless _ (item ∷ items) _ same (AreEntriesOf.given task tasks e es is rest) =
      let first : e ≡ entry_of seen item = cc in
      let others : es ≡ entries_of seen items = cc in
      All-cons (λ (x : ClosedLog T). seen.faults x.log ≡ 0) item items (sym (ap (λ (x : HandedEntry). x.faults) first) ∙ is.faultless refl) (all_faultless tasks items es others rest)
  all_faultless _ items _ same (AreEntriesOf.missing task tasks es none rest) = absurd none

-- as many as there are tasks
as_many : (at : LogPlace) (tasks : Trace) (es : List HandedEntry) → AreEntriesOf at None tasks es → length tasks ≡ length es
as_many at _ _ AreEntriesOf.no_task = refl
as_many at _ _ (AreEntriesOf.given task tasks e es is rest) = ap suc (as_many at tasks es rest)
as_many at _ _ (AreEntriesOf.missing task tasks es none rest) = absurd none

-- ---- what is answered

-- a table that nobody has
no_table : TableId
no_table = record { words = 0; slots = 0; views_name = 0; atom = 0; block = 0; offset = 0; slot_names = [] }

module _ (program : Program) (lawful : IsLawful program) (dir : List ℕ) (size taken : ℕ) (root : Option Text) (table : TableId) (hand new : HandValue View) (closed : Option ClosedValue) (logs : List HandedEntry) (r : Answer) (memory words : List ℕ)
    (same_size : taken ≡ size) (first : hand ≡ hand_with table (newcomer [])) (ran : RanRoot program (record { dir = dir; size = taken; tells = is_some root }) hand new closed) (settled : IsSettled closed logs r) (few : length memory ≤ elements program.arrays)
    (history : HasHistory new.view.items memory) (fitted : AreFitted (layout_of program.arrays) memory words) where
  abbrev own_place : LogPlace
  own_place = record { dir = dir; size = size; tells = is_some root }

  rests : RootRests program own_place (hand_with table (newcomer [])) new logs r
  rests =
      root_rests program own_place (hand_with table (newcomer [])) new closed logs r refl
      (subst (λ (h : HandValue View). RanRoot program own_place h new closed) first (subst (λ (n : ℕ). RanRoot program (record own_place { size = n }) hand new closed) same_size ran)) settled

  abbrev work : Work
  work = rests.work

  abbrev tasks : Trace
  tasks = logged_tasks 4 work

  addresses : HasAddresses (layout_of program.arrays) memory
  addresses = have_addresses program lawful.bounded (own_words program lawful.bounded) memory few

  one_history : HasHistory (did (element_word program.arrays) [] 0 work) memory
  one_history = subst (λ (h : HandValue View). HasHistory h.view.items memory) rests.did.hand history

  runs : RunsTask program (root_start program) (work ∷ [])
  runs = rests.runs

  nests : NestsWithin 4 work
  nests = root_nests program lawful work rests.did.sound runs

  within : IsWithin 4 work
  within = are_within 4 work nests

  executed : IsExecution program tasks (element_address program.arrays) words
  executed = execution program (layout_of program.arrays) 4 work rests.did.sound rests.did.joined runs within memory words addresses fitted one_history

  entries : AreEntriesOf own_place (stop_in r) tasks logs
  entries = tree_listed own_place (stop_in r) 4 work logs rests.hands (root_within own_place (stop_in r) 4 work logs rests.hands nests)

  -- it stopped
  module _ (path : List Step) (why : Stop) (is : r ≡ Err (path, why)) (all : (length words ≡ elements program.arrays) ⊎ ((why ≡ stop.Trouble Memory) × (words ≡ []))) where
    stopped : StopsRoot program path why work
    stopped = rests.stops path why is

    stops_in : StopsIn program tasks path why
    stops_in = record {
      traced = λ end told.
          let ends = stopped.traced program refl end told in
          subst (λ (p : List Step). EndsTask program tasks p end) (sym ends.at.path_is) (ends_task program 4 work rests.did.sound within runs nests end ends.at.rest ends.ends);
      crowded = λ line told.
          let rests_at = stopped.crowded line told in
          subst (λ (p : List Step). LastIsRegionAt line (logs_of tasks p)) (sym rests_at.at.path_is) (rests_task program 4 work rests.did.sound within runs nests line rests_at.at.rest rests_at.rests);
      joined = λ line told.
          let rests_at = stopped.crowded line told in
          subst (λ (p : List Step). LanesEnd tasks p) (sym rests_at.at.path_is) (joined_task program 4 work rests.did.sound within runs nests line rests_at.at.rest rests_at.rests);
      least = λ other.
          let least = stopped.least other in
          subst (λ (p : List Step). IsLeast tasks p) (sym least.at.path_is) (least_task program 4 work rests.did.sound within runs nests least.at.rest least.least);
    }

    pub has_stopped : HasStoppedRun program dir size root logs path why words
    has_stopped = record {
      tasks = tasks;
      execution = executed;
      all = all;
      listed = are_listed 4 work nests;
      logs_are = subst (λ (x : Answer). AreEntriesOf own_place (stop_in x) tasks logs) is entries;
      stops = stops_in;
      tell = subst (λ (x : Answer). TellStop (stop_in x) logs) is rests.tell;
    }

  -- it ended
  module _ (is : r ≡ Ok tt) (all : length words ≡ elements program.arrays) where
    root_ended : LastIsEnd (logs_of tasks [])
    root_ended =
        subst (λ (rs : List Record). LastIsEnd rs) (sym (log_is (layout_of program.arrays) 4 work rests.did.sound within []))
        (ends_same (λ path. works_log (work ∷ [])) (λ path. flat_map work_records (work ∷ [])) (λ path. released_of program (root_start program) (work ∷ []) runs) []
        (subst (λ (rs : List Record). LastIsEnd rs) (sym (append-nil (work_records work))) (rests.ends is)))

    ended_entries : AreEntriesOf own_place None tasks logs
    ended_entries = subst (λ (x : Answer). AreEntriesOf own_place (stop_in x) tasks logs) is entries

    few_tasks : length tasks ≤ max_rows
    few_tasks = let count = as_many own_place tasks logs ended_entries in let most = rests.few is in omega (arith, count, most)

    is_run : IsEndedRun program tasks words
    is_run =
        let whole = whole_folder program tasks (element_address program.arrays) words executed (are_listed 4 work nests) root_ended in
        record { traced = whole; rules = folder_keeps program lawful tasks whole (are_listed 4 work nests) few_tasks; execution = executed; all = all }

    pub has_finished : {T : Type 0} (seen : Ghosts T) (items : List (ClosedLog T)) → logs ≡ entries_of seen items → HasRun program dir size root (map (handed_log seen.dir seen.path seen.text) items) words × AreFaultless seen.faults items
    has_finished seen items same = (
      record { tasks = tasks; run = is_run; logs_are = all_whole seen dir size root tasks items logs same ended_entries; few = few_tasks },
      all_faultless seen dir size root tasks items logs same ended_entries,
    )

-- ---- no memory was found for the words

no_words : (items : List Item) → items ≡ [] → HasHistory items []
no_words items none = subst (λ (xs : List Item). HasHistory xs []) (sym none) (record { log = []; legal = tt; whole = λ name. refl; ends = λ word less. absurd (omega (arith, less)) })

pub stopped_at_once : (program : Program) → IsLawful program → (dir : List ℕ) (size : ℕ) (root : Option Text) → HasStoppedRun program dir size root [] [] (stop.Trouble Memory) []
stopped_at_once program lawful dir size root =
    let hand : HandValue View = hand_with no_table (newcomer []) in
    has_stopped program lawful dir size size root no_table hand hand None [] (Err ([], stop.Trouble Memory)) [] [] refl refl refl (refl, refl) (omega arith) (no_words hand.view.items refl) (record { count = refl; each = λ word less. absurd (omega (arith, less)) }) [] (stop.Trouble Memory) refl (inr (refl, refl))
