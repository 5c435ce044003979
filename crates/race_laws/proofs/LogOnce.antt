-- A log has one list of records, and an index lists one list of spans for each task.
use Rattle.std.proofs.Common.{◌≡◌, inl, inr, ℕ, ◌<◌, List, length, Some, sym, ◌∙◌, arith, get_or}
use Rattle.std.specs.Prelude.{slice_get}
use Rattle.std.proofs.lemmas.List.{ext_get_or}
use Rattle.std.proofs.lemmas.Option.{same_Some, slice_get-get_or, slice_get_within}
use Rattle.std.proofs.lemmas.Bool.{cases_order}
use Rattle.sw_base.specs.declared.path.Step.{Step}
use Rattle.sw_base.specs.Environment.{Files}
use Rattle.log_format.specs.declared.format.Format.{Format}
use Rattle.log_format.specs.Format.{log_header}
use Rattle.log_format.specs.declared.record.Record.{Record}
use Rattle.log_format.specs.Spelling.{log_bytes}
use Rattle.log_format.proofs.Logs.{log_bytes-injective}
use Rattle.race_model.specs.Row.{Row}
use Rattle.race_model.specs.LogFault.{IsWholeLog, ListsSpans}

-- a name holds the log of one list of records
pub log_once : {format : Format} (files : Files) (dir : List ℕ) (path : List Step) (records others : List Record) → IsWholeLog format files dir path records → IsWholeLog format files dir path others → records ≡ others
log_once {format} files dir path records others one other =
    log_bytes-injective (log_header format) records others one.tabled other.tabled (same_Some (log_bytes (log_header format) records) (log_bytes (log_header format) others) (sym one.there ∙ other.there))

-- an index lists one list of spans for a task
shorter_spans : (rows : List Row) (path : List Step) (spans others : List ℕ) → ListsSpans rows path spans → ListsSpans rows path others → length spans < length others → ⊥
shorter_spans rows path spans others one other less =
    let found : slice_get others (length spans) ≡ Some (get_or others (length spans) 0) = slice_get-get_or others (length spans) 0 less in
    let there = (one (length spans) (get_or others (length spans) 0)).0 ((other (length spans) (get_or others (length spans) 0)).1 found) in
    absurd (omega (arith, slice_get_within spans (length spans) (get_or others (length spans) 0) there))

pub spans_once : (rows : List Row) (path : List Step) (spans others : List ℕ) → ListsSpans rows path spans → ListsSpans rows path others → spans ≡ others
spans_once rows path spans others one other = elim (cases_order (length spans) (length others)) [
  | inl even ↦ ext_get_or 0 spans others even (λ k within. at k within (omega arith))
  | inr either ↦ elim either [
    | inl less ↦ absurd (shorter_spans rows path spans others one other less)
    | inr more ↦ absurd (shorter_spans rows path others spans other one more)
  ]
]
  where
    at : (k : ℕ) → k < length spans → k < length others → get_or spans k 0 ≡ get_or others k 0
    at k within inside =
        let found : slice_get spans k ≡ Some (get_or spans k 0) = slice_get-get_or spans k 0 within in
        let there : slice_get others k ≡ Some (get_or spans k 0) = (other k (get_or spans k 0)).0 ((one k (get_or spans k 0)).1 found) in
        same_Some (get_or spans k 0) (get_or others k 0) (sym there ∙ slice_get-get_or others k 0 inside)
