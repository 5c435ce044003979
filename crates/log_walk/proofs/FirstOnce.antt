-- A folder has at most one first bad place, and a row's number tells its task.
use Rattle.std.proofs.Common.{◌≡◌, inl, inr, ℕ, cond, ◌==◌, List, [], ◌∷◌, length, refl, sym, ap, ap₂, ◌∙◌, arith, get_or}
use Rattle.std.specs.Prelude.{slice_get}
use Rattle.std.specs.Cmp.{nat_cmp_is}
use Rattle.std.specs.Cmp.Lexicographic.{slice_cmp}
use Rattle.std.specs.Ordering.{nat_cmp, ordering_then, ordering_reverse}
use Rattle.std.specs.declared.cmp.Ordering.{Ordering}
use Rattle.std.specs.declared.cmp.Ordering.TheVariants.{Less, Equal, Greater}
use Rattle.std.proofs.lemmas.Bool.{cases_order}
use Rattle.std.proofs.lemmas.Cmp.{nat_list_cmp_total}
use Rattle.std.proofs.lemmas.Option.{same_Some}
use Rattle.sw_base.specs.declared.path.Step.{Step}
use Rattle.sw_base.specs.Environment.{Files}
use Rattle.log_format.specs.declared.format.Format.{Format}
use Rattle.race_model.specs.Row.{Row}
use Rattle.race_model.specs.declared.why.IndexWhy.{IndexWhy}
use Rattle.race_model.specs.declared.why.IndexWhy.TheVariants as index
use Rattle.race_model.specs.declared.why.RecordWhy.{RecordWhy}
use Rattle.race_model.specs.declared.why.RecordWhy.TheVariants as log
use Rattle.race_model.specs.BadPlace.{BadPlace, no_index, bad_row, missing_log, bad_record, too_many_segments, place_key}
use Rattle.race_model.specs.FirstBad.{IsFirstBad}
use Rattle.race_laws.proofs.IndexRows.{index_once}
use Rattle.log_walk.specs.Walk.{IsLogRow}
use Rattle.race_model.specs.BadPlace.{last_rank}

-- the rules by their ranks
abbrev index_rule : ℕ → IndexWhy
index_rule n = cond (n == 0) index.Old (cond (n == 1) index.Header (cond (n == 2) index.TooMany (cond (n == 3) index.Cut (cond (n == 4) index.Depth (cond (n == 5) index.Span (cond (n == 6) index.Lane (cond (n == 7) index.Order (index.Records))))))))

abbrev record_rule : ℕ → RecordWhy
record_rule n = cond (n == 0) log.Header (cond (n == 1) log.Cut (cond (n == 2) log.Kind (cond (n == 3) log.Size (cond (n == 4) log.LineZero (cond (n == 5) log.Address (cond (n == 6) log.Span (cond (n == 7) log.Reserved (cond (n == 8) log.EndEarly (cond (n == 9) log.EndMissing (cond (n == 10) log.LockTwice (cond (n == 11) log.LocksDeep (cond (n == 12) log.UnlockOther (cond (n == 13) log.RootBarrier (cond (n == 14) log.BarrierLocked (cond (n == 15) log.RegionLocked (cond (n == 16) log.LockOpen (cond (n == 17) log.RegionRows (cond (n == 18) log.BarrierCount (log.Extra)))))))))))))))))))

-- the place that a key tells
abbrev of_log_key : List ℕ → ℕ → BadPlace
of_log_key key rank = cond (rank == last_rank) (too_many_segments (get_or key 1 0) (get_or key 2 0)) (bad_record (get_or key 1 0) (get_or key 2 0) (record_rule rank))

abbrev of_key : List ℕ → BadPlace
of_key key = cond (get_or key 0 0 == 0) no_index (cond (get_or key 0 0 == 1) (bad_row (get_or key 1 0) (index_rule (get_or key 2 0)))
    (cond (length key == 2) (missing_log (get_or key 1 0)) (of_log_key key (get_or key 3 0))))

of_index_key : (n : ℕ) (rule : IndexWhy) → of_key (place_key (bad_row n rule)) ≡ bad_row n rule
of_index_key n index.Old = refl
of_index_key n index.Header = refl
of_index_key n index.TooMany = refl
of_index_key n index.Cut = refl
of_index_key n index.Depth = refl
of_index_key n index.Span = refl
of_index_key n index.Lane = refl
of_index_key n index.Order = refl
of_index_key n index.Records = refl

of_record_key : (row n : ℕ) (rule : RecordWhy) → of_key (place_key (bad_record row n rule)) ≡ bad_record row n rule
of_record_key row n log.Header = refl
of_record_key row n log.Cut = refl
of_record_key row n log.Kind = refl
of_record_key row n log.Size = refl
of_record_key row n log.LineZero = refl
of_record_key row n log.Address = refl
of_record_key row n log.Span = refl
of_record_key row n log.Reserved = refl
of_record_key row n log.EndEarly = refl
of_record_key row n log.EndMissing = refl
of_record_key row n log.LockTwice = refl
of_record_key row n log.LocksDeep = refl
of_record_key row n log.UnlockOther = refl
of_record_key row n log.RootBarrier = refl
of_record_key row n log.BarrierLocked = refl
of_record_key row n log.RegionLocked = refl
of_record_key row n log.LockOpen = refl
of_record_key row n log.RegionRows = refl
of_record_key row n log.BarrierCount = refl
of_record_key row n log.Extra = refl

key_tells : (place : BadPlace) → of_key (place_key place) ≡ place
key_tells no_index = refl
key_tells (bad_row n rule) = of_index_key n rule
key_tells (missing_log row) = refl
key_tells (bad_record row n rule) = of_record_key row n rule
key_tells (too_many_segments row n) = refl

-- keys that compare as equal are the same
same_keys : (xs ys : List ℕ) → slice_cmp nat_cmp xs ys ≡ Equal → xs ≡ ys
same_keys [] [] same = refl
same_keys [] (y ∷ ys) same = cc same
same_keys (x ∷ xs) [] same = cc same
same_keys (x ∷ xs) (y ∷ ys) same = elim (cases_order x y) [
  | inl even ↦
      ap₂ (λ (z : ℕ) (zs : List ℕ). z ∷ zs) even (same_keys xs ys (ap (λ (o : Ordering). ordering_then o (slice_cmp nat_cmp xs ys)) (nat_cmp_is x y Equal even) ∙ same))
  | inr either ↦ elim either [
    | inl less ↦ let clash : Less ≡ Equal = ap (λ (o : Ordering). ordering_then o (slice_cmp nat_cmp xs ys)) (nat_cmp_is x y Less less) ∙ same in cc clash
    | inr more ↦ let clash : Greater ≡ Equal = ap (λ (o : Ordering). ordering_then o (slice_cmp nat_cmp xs ys)) (nat_cmp_is x y Greater more) ∙ same in cc clash
  ]
]

-- of two places that differ one is earlier
pub first_bad_once : {format : Format} (files : Files) (dir : List ℕ) (place other : BadPlace) → IsFirstBad format files dir place → IsFirstBad format files dir other → place ≡ other
first_bad_once files dir place other one two = at (slice_cmp nat_cmp (place_key place) (place_key other)) refl where
  at : (o : Ordering) → slice_cmp nat_cmp (place_key place) (place_key other) ≡ o → place ≡ other
  at Less is = absurd (two.least place is one.bad)
  at Equal is = sym (key_tells place) ∙ ap of_key (same_keys (place_key place) (place_key other) is) ∙ key_tells other
  at Greater is = absurd (one.least other (nat_list_cmp_total.antisymm (place_key other) (place_key place) ∙ ap ordering_reverse is) two.bad)

-- rows are numbered
pub row_task_once : {format : Format} (files : Files) (dir : List ℕ) (path other : List Step) (row : ℕ) → IsLogRow format files dir path row → IsLogRow format files dir other row → path ≡ other
row_task_once files dir path other row one two =
    let rows : two.rows ≡ one.rows = index_once files dir two.rows one.rows two.index one.index in
    let index : one.listed.index ≡ two.listed.index = omega (arith, one.listed.number, two.listed.number) in
    let task : one.task ≡ two.task = same_Some one.task two.task
    (sym one.listed.listed ∙ ap (λ (k : ℕ). slice_get one.rows k) index ∙ ap (λ (rs : List Row). slice_get rs two.listed.index) (sym rows) ∙ two.listed.listed) in
    sym one.path_is ∙ ap (λ (r : Row). r.path) task ∙ two.path_is
