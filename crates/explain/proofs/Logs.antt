-- The logs of a folder's rows, and the records that are found in them.
use Rattle.std.proofs.Common.{◌≡◌, ℕ, zero, suc, ◌+◌, ◌<◌, List, [], ◌∷◌, ◌++◌, length, take, drop, get_or, Option, Some, None, refl, sym, ap, subst, ◌∙◌, arith}
use Rattle.std.specs.Prelude.{slice_get}
use Rattle.std.proofs.Math.Seq.{take-append_seam}
use Rattle.std.proofs.lemmas.Option.{same_Some, slice_get-get_or}
use Rattle.sw_base.specs.declared.path.Step.{Step}
use Rattle.sw_base.specs.Environment.{Content}
use Rattle.sw_base.proofs.Lists.{get_seam}
use Rattle.log_format.specs.declared.format.TheConstants.{FORMAT}
use Rattle.log_format.specs.declared.record.Record.{Record}
use Rattle.log_format.specs.declared.record.Why.TheVariants as why
use Rattle.log_format.specs.Table.{HasAddress, IsTabled}
use Rattle.log_walk.proofs.ByKind.{lock_fits, unlock_fits}
use Rattle.race_model.specs.declared.why.RecordWhy.{RecordWhy}
use Rattle.race_model.specs.declared.why.RecordWhy.TheVariants as rule
use Rattle.race_model.specs.FirstBad.{row_of, rows_of}
use Rattle.race_model.specs.KeepsRules.{TaskKeepsRules}
use Rattle.race_model.specs.Listing.{IsListing}
use Rattle.race_model.specs.LogFault.{IsWholeLog, Breaks}
use Rattle.race_model.specs.Race.{held_after}
use Rattle.race_model.specs.Row.{Row}
use Rattle.race_model.specs.Trace.{TaskLog, Trace, Node, logs_of, barrier_count}
use Rattle.race_model.proofs.TraceLogs.{all_at, task_in}
use Rattle.race_laws.proofs.FolderForkJoin.{paths_same}
use Rattle.race_laws.proofs.FolderRules.{parted}
use Rattle.race_laws.proofs.ListedOnce.{logs_at}
use Rattle.counted_order.proofs.Paths.{length_front}
use Rattle.explain.specs.Finding.{EachMayFollow, IsFound, HasNone, FindsMarked}
use Rattle.explain.specs.Witness.{IsInLog, TellsRecord, FindsNamed, HoldsListedRun}
use Rattle.explain.specs.declared.finding.Found.{Found}
use Rattle.explain.specs.declared.finding.Mark.{Mark}
use Rattle.explain.specs.declared.finding.Mark.TheVariants as mark

pub some_at : {X : Type 0} (xs : List X) (k : ℕ) → k < length xs → (x : X) × (slice_get xs k ≡ Some x)
some_at [] k within = absurd (omega arith)
some_at (x ∷ xs) zero within = (x, refl)
some_at (x ∷ xs) (suc k) within = some_at xs k (omega arith)

-- an element where a list is parted
pub seam : {X : Type 0} (xs before after : List X) (x : X) (k : ℕ) → xs ≡ before ++ x ∷ after → length before ≡ k → slice_get xs k ≡ Some x
seam xs before after x k parts e = ap (λ l. slice_get l k) parts ∙ (ap (λ n. slice_get (before ++ x ∷ after) n) (sym e) ∙ get_seam before x after)

pub front : {X : Type 0} (xs before after : List X) (x : X) (k : ℕ) → xs ≡ before ++ x ∷ after → length before ≡ k → take k xs ≡ before
front xs before after x k parts e = ap (take k) parts ∙ (ap (λ n. take n (before ++ x ∷ after)) (sym e) ∙ take-append_seam before (x ∷ after))

-- the records of a task that keeps the rules may follow one another
nested : (trace : Trace) (task : TaskLog) → TaskKeepsRules FORMAT trace task → EachMayFollow task.records
nested trace task k before after r parts = record {
  numbered = lock_fits r address;
  named = unlock_fits r address;
  free = λ e held. never rule.LockTwice (e, held);
  few = λ e eight. never rule.LocksDeep (e, eight);
  innermost = λ e not_last. never rule.UnlockOther (e, not_last);
}
  where
    found : slice_get task.records (length before) ≡ Some r
    found = seam task.records before after r (length before) parts refl

    earlier : take (length before) task.records ≡ before
    earlier = front task.records before after r (length before) parts refl

    address : HasAddress r.kind r
    address = (all_at (IsTabled FORMAT) task.records (length before) r k.tabled found).passes why.Address

    never : (w : RecordWhy) → Breaks (record { path = task.path; records = length task.records; spans = k.spans; due_barriers = k.due_barriers }) before r w → ⊥
    never = subst (λ (l : List Record). (w : RecordWhy) → Breaks (record { path = task.path; records = length task.records; spans = k.spans; due_barriers = k.due_barriers }) l r w → ⊥)
        earlier (k.keeps (length before) r found)

-- the log of a row, and what is known of it
pub record LogOf (content : Content) (dir : List ℕ) (trace : Trace) (place : ℕ) (row : Row) : Type 0 where
  pub task : TaskLog
  pub listed : slice_get trace place ≡ Some task
  pub path_is : row.path ≡ task.path
  pub whole : IsWholeLog FORMAT content.held dir row.path task.records
  pub counted : row.records ≡ length task.records
  pub may_follow : EachMayFollow task.records
  pub logs_are : logs_of trace task.path ≡ task.records

pub log_of : (content : Content) (dir : List ℕ) (rows : List Row) (trace : Trace) → HoldsListedRun content dir rows trace → (place : ℕ) (row : Row) → slice_get rows place ≡ Some row
    → LogOf content dir trace place row
log_of content dir rows trace run place row found =
    let at = task_in trace place row (ap (λ (l : List Row). slice_get l place) run.rows_are ∙ found) in
    let path : row.path ≡ at.task.path = ap (λ (r : Row). r.path) at.row_is in
    record {
      task = at.task;
      listed = at.found;
      path_is = path;
      whole = subst (λ (p : List Step). IsWholeLog FORMAT content.held dir p at.task.records) (sym path)
          (all_at (λ (t : TaskLog). IsWholeLog FORMAT content.held dir t.path t.records) trace place at.task run.logs at.found);
      counted = ap (λ (r : Row). r.records) at.row_is;
      may_follow = nested trace at.task (all_at (TaskKeepsRules FORMAT trace) trace place at.task run.keeps.tasks at.found);
      logs_are = logs_at trace (subst IsListing (paths_same trace) run.keeps.rows.lists) place at.task at.found;
    }

-- the row of a place
pub row_of_place : (rows : List Row) (place : ℕ) (row : Row) → place < length rows → row ≡ get_or rows place row → slice_get rows place ≡ Some row
row_of_place rows place row within is = slice_get-get_or rows place row within ∙ ap Some (sym is)

pub row_at : (trace : Trace) (place : ℕ) (task : TaskLog) → slice_get trace place ≡ Some task → slice_get (rows_of trace) place ≡ Some (row_of task)
row_at [] place task found = cc
row_at (t ∷ trace) zero task found = ap (λ (u : TaskLog). Some (row_of u)) (same_Some t task found)
row_at (t ∷ trace) (suc place) task found = row_at trace place task found

module _ (content : Content) (dir : List ℕ) (trace : Trace) (place : ℕ) (row : Row) (log : LogOf content dir trace place row) where
  -- a node in this log
  pub here : (x : Node) → IsInLog trace place x → x.path ≡ log.task.path
  here x stands = stands.path_is ∙ ap (λ (t : TaskLog). t.path) (same_Some stands.task log.task (sym stands.listed ∙ log.listed))

  pub records_are : (x : Node) → IsInLog trace place x → logs_of trace x.path ≡ log.task.records
  records_are x stands = ap (logs_of trace) (here x stands) ∙ log.logs_are

  -- what is found tells the record there
  pub tells : (which : Mark) (found : Found) (f : IsFound which log.task.records found) → TellsRecord (logs_of trace) (record { path = log.task.path; index = length f.before }) found
  tells which found f = record {
    event = ap (λ (l : List Record). slice_get l (length f.before)) log.logs_are ∙ seam log.task.records f.before f.after found.event (length f.before) f.parts refl;
    held = f.held ∙ ap (held_after []) (sym first);
    barriers = f.barriers ∙ ap barrier_count (sym first);
  }
    where
      first : take (length f.before) (logs_of trace log.task.path) ≡ f.before
      first = ap (take (length f.before)) log.logs_are ∙ front log.task.records f.before f.after found.event (length f.before) f.parts refl

  names_none : (number earlier : ℕ) → number ≡ earlier + 1 → HasNone (mark.Record earlier) log.task.records → FindsNamed trace place number None
  names_none number earlier e none x stands number_is there =
      let same = records_are x stands in
      let some = some_at log.task.records x.index (subst (λ (l : List Record). x.index < length l) same there) in
      none (take x.index log.task.records) (drop (suc x.index) log.task.records) some.0 (parted log.task.records x.index some.0 some.1)
      (length_front log.task.records x.index some.0 some.1 ∙ (let i : x.index ≡ earlier = omega arith in i))

  pub names : (number earlier : ℕ) (answer : Option Found) → number ≡ earlier + 1 → FindsMarked (mark.Record earlier) log.task.records answer → FindsNamed trace place number answer
  names number earlier None e none = names_none number earlier e none
  names number earlier (Some found) e f = (
    record { path = log.task.path; index = length f.before },
    record { task = log.task; listed = log.listed; path_is = refl },
    (let marked : length f.before ≡ earlier = f.marked in omega arith),
    tells (mark.Record earlier) found f,
  )

  -- the path of a node in this log
  pub path_of : (x : Node) → IsInLog trace place x → x.path ≡ row.path
  path_of x stands = here x stands ∙ sym log.path_is
