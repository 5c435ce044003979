-- A folder of bytes that is bad nowhere holds a run.
use Rattle.std.proofs.Common.{◌≡◌, ◌⊎◌, inl, inr, ℕ, zero, suc, ◌+◌, ◌<◌, ◌≤◌, List, [], ◌∷◌, ◌++◌, length, get_or, take, drop, map, Option, Some, None, refl, sym, ap, ap₂, subst, ◌∙◌, arith, append_assoc, length-take}
use Rattle.std.specs.Prelude.{slice_get, All, Contains}
use Rattle.std.proofs.lemmas.Bool.{cases_lt}
use Rattle.std.proofs.lemmas.List.{append-nil, length-append, take-append-drop}
use Rattle.std.proofs.lemmas.List.Elements.{All-nil, All-cons, All-push}
use Rattle.std.proofs.lemmas.Option.{none-some, same_Some}
use Rattle.sw_base.specs.Environment.{Files}
use Rattle.sw_base.specs.Names.{log_name}
use Rattle.sw_base.proofs.ReadPrefixes.{BeginsWith}
use Rattle.log_format.specs.declared.format.Format.{Format}
use Rattle.log_format.specs.Format.{log_header}
use Rattle.log_format.specs.declared.record.Record.{Record}
use Rattle.log_format.specs.declared.record.Why.{Why}
use Rattle.log_format.specs.declared.record.Why.TheVariants as why
use Rattle.log_format.specs.Spelling.{spelling, log_bytes}
use Rattle.log_format.specs.Table.{IsTabled, IsFirstFault}
use Rattle.log_format.proofs.Deciding.{Decided, stable, equal}
use Rattle.log_format.proofs.DecidedRecords.{SpellsSome, spells_some}
use Rattle.log_format.proofs.Logs.{log_bytes-append}
use Rattle.race_model.specs.declared.why.RecordWhy.{RecordWhy}
use Rattle.race_model.specs.declared.why.RecordWhy.TheVariants as log
use Rattle.race_model.specs.BadPlace.{bad_record, missing_log}
use Rattle.race_model.specs.FirstBad.{HoldsLogs, HoldsTrace, rows_of}
use Rattle.race_model.specs.IndexFault.{IsIndex}
use Rattle.race_model.specs.LogFault.{LogTask, IsAt, IsLogFault, IsRead, IsWholeLog}
use Rattle.race_model.specs.Row.{Row}
use Rattle.race_model.specs.Trace.{TaskLog, Trace}
use Rattle.race_model.specs.WellFormed.{IsWellFormed}
use Rattle.race_laws.proofs.FolderRules.{lists_spans}
use Rattle.race_laws.proofs.Listed.{spans_listed}

-- every element is a byte
abbrev pub AreSmall : List ℕ → Type 0
AreSmall bytes = (i : ℕ) → get_or bytes i 0 < 256

small_take : (n : ℕ) (bytes : List ℕ) → AreSmall bytes → AreSmall (take n bytes)
small_take zero bytes small i = omega arith
small_take (suc n) [] small i = omega arith
small_take (suc n) (b ∷ bytes) small zero = small 0
small_take (suc n) (b ∷ bytes) small (suc i) = small_take n bytes (λ j. small (suc j)) i

small_end : (xs ys : List ℕ) → AreSmall (xs ++ ys) → AreSmall ys
small_end [] ys small = small
small_end (x ∷ xs) ys small = small_end xs ys (λ i. small (suc i))

-- whether bytes begin with others can be told
begins : (bytes prefix : List ℕ) → Decided (BeginsWith bytes prefix)
begins bytes [] = inl (record { rest = bytes; parts = refl })
begins [] (p ∷ prefix) = inr (λ is. absurd (omega (arith, ap length is.parts)))
begins (b ∷ bytes) (p ∷ prefix) = by_head (equal b p) (begins bytes prefix) where
  tail : List ℕ → List ℕ
  tail [] = []
  tail (x ∷ xs) = xs

  by_head : Decided (b ≡ p) → Decided (BeginsWith bytes prefix) → Decided (BeginsWith (b ∷ bytes) (p ∷ prefix))
  by_head (inl head) (inl is) = inl (record { rest = is.rest; parts = ap₂ (λ (x : ℕ) (xs : List ℕ). x ∷ xs) head is.parts })
  by_head (inl head) (inr not) = inr (λ is. not (record { rest = is.rest; parts = ap tail is.parts }))
  by_head (inr differ) other = inr (λ is. differ (ap (λ (xs : List ℕ). get_or xs 0 0) is.parts))

-- records that the bytes spell, as many as the task has
pub record ReadsAll (format : Format) (bytes : List ℕ) (count : ℕ) : Type 0 where
  pub records : List Record
  pub bytes_are : bytes ≡ log_bytes (log_header format) records
  pub tabled : All (IsTabled format) records
  pub all : length records ≡ count

-- ---- one log

module _ (format : Format) (bytes : List ℕ) (small : AreSmall bytes) (task : LogTask) (good : (n : ℕ) (rule : RecordWhy) → IsLogFault format bytes task n rule → ⊥) where
  module _ (before : List Record) (rest : List ℕ) (read : IsRead format bytes before rest) where
    small_rest : AreSmall rest
    small_rest = small_end (log_bytes (log_header format) before) rest (subst AreSmall read.parts small)

    at_end : length before ≡ task.records → rest ≡ []
    at_end all = by_rest rest refl where
      by_rest : (r : List ℕ) → rest ≡ r → rest ≡ []
      by_rest [] is = is
      by_rest (x ∷ xs) is = absurd (good (task.records + 1) log.Extra (record { records = before; rest = rest; read = read; all = all; number = refl; more = omega (arith, ap length is) }))

    module _ (more : length before + 1 ≤ task.records) where
      at : IsAt format bytes task.records (length before + 1) before rest
      at = record { read = read; number = refl; counted = more }

      long : 24 ≤ length rest
      long = by_length (cases_lt (length rest) 24) where
        by_length : (length rest < 24) ⊎ (24 ≤ length rest) → 24 ≤ length rest
        by_length (inl short) = absurd (good (length before + 1) log.Cut (record { before = before; rest = rest; at = at; short = short }))
        by_length (inr enough) = enough

      no_fault : (w : Why) → IsFirstFault format (take 24 rest) w → ⊥
      no_fault why.Kind first = good (length before + 1) log.Kind (record { before = before; rest = rest; at = at; whole = long; first = first })
      no_fault why.Size first = good (length before + 1) log.Size (record { before = before; rest = rest; at = at; whole = long; first = first })
      no_fault why.LineZero first = good (length before + 1) log.LineZero (record { before = before; rest = rest; at = at; whole = long; first = first })
      no_fault why.Address first = good (length before + 1) log.Address (record { before = before; rest = rest; at = at; whole = long; first = first })
      no_fault why.Span first = good (length before + 1) log.Span (record { before = before; rest = rest; at = at; whole = long; first = first })
      no_fault why.Reserved first = good (length before + 1) log.Reserved (record { before = before; rest = rest; at = at; whole = long; first = first })

      next : SpellsSome format (take 24 rest)
      next = spells_some format (take 24 rest) (let enough = long in omega (arith, length-take 24 rest)) (small_take 24 rest small_rest) no_fault

      read_next : IsRead format bytes (before ++ next.read ∷ []) (drop 24 rest)
      read_next = record {
        parts = read.parts
            ∙ ap (λ (bs : List ℕ). log_bytes (log_header format) before ++ bs) (sym (take-append-drop 24 rest) ∙ ap (λ (bs : List ℕ). bs ++ drop 24 rest) next.spells.spelled)
            ∙ sym (append_assoc (log_bytes (log_header format) before) (spelling next.read) (drop 24 rest))
            ∙ ap (λ (bs : List ℕ). bs ++ drop 24 rest)
            (ap (λ (bs : List ℕ). log_bytes (log_header format) before ++ bs) (sym (append-nil (spelling next.read))) ∙ sym (log_bytes-append (log_header format) before (next.read ∷ [])));
        tabled = All-push (IsTabled format) before next.read read.tabled next.spells.tabled;
      }

  go : (m : ℕ) (before : List Record) (rest : List ℕ) → IsRead format bytes before rest → length before + m ≡ task.records → ReadsAll format bytes task.records
  go zero before rest read all =
      let whole : length before ≡ task.records = omega (arith, all) in
      record {
        records = before;
        bytes_are = read.parts ∙ ap (λ (bs : List ℕ). log_bytes (log_header format) before ++ bs) (at_end before rest read whole) ∙ append-nil (log_bytes (log_header format) before);
        tabled = read.tabled;
        all = whole;
      }
  go (suc m) before rest read all =
      let more : length before + 1 ≤ task.records = omega (arith, all) in
      go m (before ++ (next before rest read more).read ∷ []) (drop 24 rest) (read_next before rest read more)
      (omega (arith, all, length-append before ((next before rest read more).read ∷ [])))

  pub reads_all : ReadsAll format bytes task.records
  reads_all =
      let header : BeginsWith bytes (log_header format) =
      stable (begins bytes (log_header format)) (λ not. good 0 log.Header (refl, λ rest is. not (record { rest = rest; parts = is }))) in
      go task.records [] header.rest (record { parts = header.parts ∙ ap (λ (bs : List ℕ). bs ++ header.rest) (sym (append-nil (log_header format))); tabled = All-nil (IsTabled format) }) (omega arith)

-- ---- all logs

-- a row's path is one of the rows' paths
contains_at : (rows : List Row) (k : ℕ) (row : Row) → slice_get rows k ≡ Some row → Contains (map (λ (r : Row). r.path) rows) row.path
contains_at [] k row found = cc
contains_at (r ∷ rows) zero row found = (0, omega arith, ap (λ (x : Row). x.path) (same_Some r row found))
contains_at (r ∷ rows) (suc k) row found =
    let later = contains_at rows k row found in (suc later.0, omega (arith, later.1), later.2)

-- the row's log is whole
record HasWholeLog (format : Format) (files : Files) (dir : List ℕ) (row : Row) : Type 0 where
  records : List Record
  whole : IsWholeLog format files dir row.path records
  all : length records ≡ row.records

-- tasks of these rows, whose logs are whole
record HasTasks (format : Format) (files : Files) (dir : List ℕ) (rows : List Row) : Type 0 where
  tasks : Trace
  rows_are : rows_of tasks ≡ rows
  logs : HoldsLogs format files dir tasks

has_tasks : {format : Format} (files : Files) (dir : List ℕ) (rows : List Row) → ((k : ℕ) (row : Row) → slice_get rows k ≡ Some row → HasWholeLog format files dir row) → HasTasks format files dir rows
has_tasks {format} files dir [] each = record { tasks = []; rows_are = refl; logs = All-nil (λ (task : TaskLog). IsWholeLog format files dir task.path task.records) }
has_tasks {format} files dir (row ∷ rows) each =
    let first = each 0 row refl in
    let others = has_tasks files dir rows (λ k. each (suc k)) in
    let task : TaskLog = record { path = row.path; records = first.records } in
    record {
      tasks = task ∷ others.tasks;
      rows_are = ap₂ (λ (r : Row) (rs : List Row). r ∷ rs) (λ i. record { path = row.path; records = first.all i }) others.rows_are;
      logs = All-cons (λ (task : TaskLog). IsWholeLog format files dir task.path task.records) task others.tasks first.whole others.logs;
    }

module _ (format : Format) (files : Files) (dir : List ℕ) (small : (name bytes : List ℕ) → files name ≡ Some bytes → AreSmall bytes) (good : IsWellFormed format files dir)
    (rows : List Row) (index : IsIndex format files dir rows) where
  module _ (k : ℕ) (row : Row) (found : slice_get rows k ≡ Some row) where
    listed : Contains (map (λ (r : Row). r.path) rows) row.path
    listed = contains_at rows k row found

    has_log : (held : Option (List ℕ)) → files (log_name dir row.path) ≡ held → HasWholeLog format files dir row
    has_log None is = absurd (good (missing_log (k + 1)) (rows, index, record { task = row; listed = record { index = k; number = refl; listed = found }; missing = is }))
    has_log (Some bytes) is =
        let has = spans_listed (map (λ (r : Row). r.path) rows) row.path index.rows_are.lists listed in
        let task : LogTask = record { path = row.path; records = row.records; spans = has.spans; due_barriers = None } in
        let all = reads_all format bytes (small (log_name dir row.path) bytes is) task (λ n rule fault. good (bad_record (k + 1) n rule) (
          rows,
          index,
          record {
            task = row;
            listed = record { index = k; number = refl; listed = found };
            bytes = bytes;
            there = is;
            spans = has.spans;
            has_spans = lists_spans rows row.path has.spans has.are;
            due_barriers = None;
            has_team = λ barriers same. absurd (none-some barriers same);
            fault = fault;
          },
        )) in
        record { records = all.records; whole = record { there = is ∙ ap (λ (bs : List ℕ). Some bs) all.bytes_are; tabled = all.tabled }; all = all.all }

    whole_log : HasWholeLog format files dir row
    whole_log = has_log (files (log_name dir row.path)) refl

  -- the folder's run
  pub record HoldsRun : Type 0 where
    pub trace : Trace
    pub holds : HoldsTrace format files dir trace

  pub holds_run : HoldsRun
  holds_run =
      let has = has_tasks files dir rows whole_log in
      record { trace = has.tasks; holds = record { index = subst (IsIndex format files dir) (sym has.rows_are) index; logs = has.logs } }
