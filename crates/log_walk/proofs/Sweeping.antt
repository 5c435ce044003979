-- A region of the root, gone over log by log.
use Rattle.std.proofs.Common.{◌≡◌, ◌⊎◌, inl, inr, ℕ, zero, suc, ◌+◌, ◌<◌, ◌≤◌, List, [], ◌∷◌, ◌++◌, length, Option, Some, None, refl, sym, ap, subst, ◌∙◌, arith, append_assoc, append-nil}
use Rattle.std.specs.Prelude.{slice_get}
use Rattle.std.proofs.lemmas.List.{length_push, length-append}
use Rattle.std.proofs.lemmas.List.Elements.{All-push}
use Rattle.std.proofs.lemmas.Grind.{flat_map-append}
use Rattle.std.proofs.lemmas.Option.{same_Some, slice_get_within}
use Rattle.sw_base.specs.declared.path.Step.{Step}
use Rattle.sw_base.specs.Environment.{Content, WhereTold}
use Rattle.log_format.specs.declared.format.Format.{Format}
use Rattle.race_model.specs.Row.{Row}
use Rattle.race_model.specs.IndexFault.{AreRows}
use Rattle.race_model.specs.Listing.{IsNextPath}
use Rattle.race_model.specs.LogFault.{IsWholeLog}
use Rattle.race_model.specs.Segment.{Segment as Interval, segments_of, task_segments}
use Rattle.race_model.specs.Trace.{TaskLog, Trace, Logs}
use Rattle.race_laws.proofs.ListedOnce.{next_path}
use Rattle.log_segment.specs.declared.segment.Segment.{Segment}
use Rattle.log_segment.specs.Walking.{AddsSegments, HasLogs}
use Rattle.log_segment.proofs.Passing.{adds_none, adds_more}
use Rattle.log_walk.specs.Stack.{IsStackAfter, WalksTask}
use Rattle.log_segment.specs.Regions.{IsUnderRegion}
use Rattle.log_walk.specs.Sweep.{AreRegions, WalksRegion}
use Rattle.log_walk.specs.Walk.{RefusesLogOf, Walked}
use Rattle.log_walk.specs.declared.fault.WalkFault.{WalkFault}
use Rattle.log_walk.specs.declared.fault.WalkFault.TheVariants as fault
use Rattle.log_walk.specs.declared.stack.Stack.{Stack}
use Rattle.log_walk.proofs.SpanOrder.{paths_of, path_found}
use Rattle.log_walk.proofs.StackMoves.{logs_before}

-- the logs of a region so far
pub record RegionSoFar (format : Format) (told : Option Content) (dir : List ℕ) (rows : List Row) (region : ℕ) (trace : Trace) (stack : Stack) (index : ℕ) (found : List Segment) : Type 0 where
  pub more : Trace
  pub stands : IsStackAfter format rows stack (trace ++ more)
  pub at_row : index ≡ length (trace ++ more)
  pub under : (k : ℕ) (row : Row) → slice_get rows k ≡ Some row → length trace ≤ k → k < length (trace ++ more) → IsUnderRegion region row.path
  pub holds : WhereTold told (λ c. Walked format c.held dir rows trace) → WhereTold told (λ c. Walked format c.held dir rows (trace ++ more))
  pub adds : (logs : Logs) → HasLogs logs (trace ++ more) → AddsSegments logs (segments_of more) [] found

pub region_none : {format : Format} (told : Option Content) (dir : List ℕ) (rows : List Row) (region : ℕ) (trace : Trace) (stack : Stack) (index : ℕ) → IsStackAfter format rows stack trace → index ≡ stack.place
    → RegionSoFar format told dir rows region trace stack index []
region_none {format} told dir rows region trace stack index stands at = record {
  more = [];
  stands = subst (λ (t : Trace). IsStackAfter format rows stack t) none stands;
  at_row = at ∙ (stands.place ∙ ap (λ (t : Trace). length t) none);
  under = λ k row found low high. absurd (omega (arith, high, ap (λ (t : Trace). length t) none));
  holds = λ was c is. subst (λ (t : Trace). Walked format c.held dir rows t) none (was c is);
  adds = λ logs has. adds_none logs [];
} where
  none : trace ≡ trace ++ []
  none = sym (append-nil trace)

-- one log more
pub walked_push : {format : Format} (told : Option Content) (dir : List ℕ) (rows : List Row) (trace : Trace) (t : TaskLog) (stack : Stack) → WhereTold told (λ c. Walked format c.held dir rows trace) → IsStackAfter format rows stack (trace ++ t ∷ [])
    → WhereTold told (λ c. IsWholeLog format c.held dir t.path t.records) → WhereTold told (λ c. Walked format c.held dir rows (trace ++ t ∷ []))
walked_push {format} told dir rows trace t stack holds stands whole c is =
    let was = holds c is in
    record {
      index = was.index;
      logs = All-push (λ (task : TaskLog). IsWholeLog format c.held dir task.path task.records) trace t was.logs (whole c is);
      good = stands.good;
    }

pub region_next : {format : Format} (told : Option Content) (dir : List ℕ) (rows : List Row) (region : ℕ) (trace : Trace) (stack now : Stack) (index : ℕ) (row : Row) (old new : List Segment)
    → (so : RegionSoFar format told dir rows region trace stack index old) → slice_get rows index ≡ Some row → IsUnderRegion region row.path
    → WalksTask format told dir rows now (trace ++ so.more) row old new → RegionSoFar format told dir rows region trace now (index + 1) new
region_next {format} told dir rows region trace stack now index row old new so found is_under walks = record {
  more = so.more ++ t ∷ [];
  stands = subst (λ (ts : Trace). IsStackAfter format rows now ts) assoc walks.stands;
  at_row = omega (arith, so.at_row, length_push (trace ++ so.more) t, ap (λ (ts : Trace). length ts) assoc);
  under = λ k other there low high. at k other there low (split k (length (trace ++ so.more)) (omega (arith, high, length_push (trace ++ so.more) t, ap (λ (ts : Trace). length ts) assoc)));
  holds = λ was c is. subst (λ (ts : Trace). Walked format c.held dir rows ts) assoc (walked_push told dir rows (trace ++ so.more) t now (so.holds was) walks.stands walks.whole c is);
  adds = λ logs has.
      (let before : HasLogs logs ((trace ++ so.more) ++ t ∷ []) = subst (λ (ts : Trace). HasLogs logs ts) (sym assoc) has in
      subst (λ (is : List Interval). AddsSegments logs is [] new) (sym segments)
      (adds_more logs (segments_of so.more) (task_segments t) [] old new (so.adds logs (logs_before logs (trace ++ so.more) t before)) (walks.adds logs before)));
} where
  t : TaskLog
  t = record { path = row.path; records = walks.records }

  assoc : (trace ++ so.more) ++ t ∷ [] ≡ trace ++ (so.more ++ t ∷ [])
  assoc = append_assoc trace so.more (t ∷ [])

  segments : segments_of (so.more ++ t ∷ []) ≡ segments_of so.more ++ task_segments t
  segments = flat_map-append task_segments so.more (t ∷ []) ∙ ap (λ (is : List Interval). segments_of so.more ++ is) (append-nil (task_segments t))

  split : (k n : ℕ) → k < n + 1 → (k < n) ⊎ (k ≡ n)
  split k n h = grind arith

  at : (k : ℕ) (other : Row) → slice_get rows k ≡ Some other → length trace ≤ k → (k < length (trace ++ so.more)) ⊎ (k ≡ length (trace ++ so.more)) → IsUnderRegion region other.path
  at k other there low (inl less) = so.under k other there low less
  at k other there low (inr same) =
      let is_it : row ≡ other = same_Some row other (sym found ∙ (ap (λ (n : ℕ). slice_get rows n) (so.at_row ∙ sym same) ∙ there)) in
      subst (λ (r : Row). IsUnderRegion region r.path) is_it is_under

-- the region after one that was gone over
region_after : (path next : List Step) (region : ℕ) → IsNextPath path next → IsUnderRegion region path → (IsUnderRegion region next → ⊥) → IsUnderRegion (region + 1) next
region_after path next region goes u other = at u.first u.rest next u.parts u.region_is goes other
  where
    at : (first : Step) (rest next : List Step) → path ≡ first ∷ rest → first.region ≡ region → IsNextPath path next → (IsUnderRegion region next → ⊥) → IsUnderRegion (region + 1) next
    at first rest next is number goes other = here next (subst (λ (p : List Step). IsNextPath p next) is goes) other
      where
        here : (n : List Step) → IsNextPath (first ∷ rest) n → (IsUnderRegion region n → ⊥) → IsUnderRegion (region + 1) n
        here [] goes other = absurd goes
        here (s ∷ []) (lasts, inl lane) other = absurd (other (record { first = s; rest = []; parts = refl; region_is = lane.region ∙ number }))
        here (s ∷ []) (lasts, inr after) other = record { first = s; rest = []; parts = refl; region_is = after.first.region_is ∙ ap (λ (n : ℕ). n + 1) number }
        here (s ∷ m ∷ more) (same, goes) other = absurd (other (record { first = s; rest = m ∷ more; parts = refl; region_is = ap (λ (t : Step). t.region) (sym same) ∙ number }))

-- a path is under one region
pub one_region : (path : List Step) (m n : ℕ) → IsUnderRegion m path → IsUnderRegion n path → m ≡ n
one_region path m n one other = sym one.region_is ∙ (ap (λ (s : Step). s.region) (same_first one.first other.first one.rest other.rest (sym one.parts ∙ other.parts)) ∙ other.region_is)
  where
    same_first : (s t : Step) (ss ts : List Step) → s ∷ ss ≡ t ∷ ts → s ≡ t
    same_first s t ss ts e = cc

pub regions_next : (rows : List Row) (region : ℕ) (trace more : Trace) → AreRows rows → AreRegions region rows trace → 0 < length more
    → ((k : ℕ) (row : Row) → slice_get rows k ≡ Some row → length trace ≤ k → k < length (trace ++ more) → IsUnderRegion region row.path)
    → ((row : Row) → slice_get rows (length (trace ++ more)) ≡ Some row → IsUnderRegion region row.path → ⊥)
    → AreRegions (region + 1) rows (trace ++ more)
regions_next rows region trace more good was some under past = record {
  begun = omega (arith, was.begun, length-append trace more);
  given = λ k row m found is_under within. at k row m found is_under (cut k (length trace)) within;
  next = λ row found. goes row found (place (length (trace ++ more)) (omega (arith, some, length-append trace more)));
} where
  cut : (k n : ℕ) → (k < n) ⊎ (n ≤ k)
  cut k n = grind arith

  at : (k : ℕ) (row : Row) (m : ℕ) → slice_get rows k ≡ Some row → IsUnderRegion m row.path → (k < length trace) ⊎ (length trace ≤ k) → k < length (trace ++ more) → m < region + 1
  at k row m found is_under (inl less) within = let low = was.given k row m found is_under less in omega arith
  at k row m found is_under (inr low) within = let same = one_region row.path m region is_under (under k row found low within) in omega arith

  place : (n : ℕ) → 0 < n → (j : ℕ) × (n ≡ suc j)
  place zero some_more = absurd (omega arith)
  place (suc j) some_more = (j, refl)

  goes : (row : Row) → slice_get rows (length (trace ++ more)) ≡ Some row → (j : ℕ) × (length (trace ++ more) ≡ suc j) → IsUnderRegion (region + 1) row.path
  goes row found (j, is) = from (slice_get rows j) refl
    where
      here : slice_get rows (suc j) ≡ Some row
      here = ap (λ (n : ℕ). slice_get rows n) (sym is) ∙ found

      from : (o : Option Row) → slice_get rows j ≡ o → IsUnderRegion (region + 1) row.path
      from None missing = absurd (no_gap rows j row missing here) where
        no_gap : (xs : List Row) (i : ℕ) (x : Row) → slice_get xs i ≡ None → slice_get xs (suc i) ≡ Some x → ⊥
        no_gap [] i x none there = cc
        no_gap (y ∷ xs) zero x none there = cc
        no_gap (y ∷ xs) (suc i) x none there = no_gap xs i x none there
      from (Some last) there =
          region_after last.path row.path region
          (next_path (paths_of rows) good.lists j last.path row.path (path_found rows j last there) (path_found rows (suc j) row here))
          (under j last there (omega (arith, is, some, length-append trace more)) (omega (arith, is))) (past row found)

-- the region ends at a row of another
pub region_stop : {format : Format} (told : Option Content) (dir : List ℕ) (rows : List Row) (region : ℕ) (trace : Trace) (stack : Stack) (index : ℕ) (row : Row) (found : List Segment) → RegionSoFar format told dir rows region trace stack index found
    → AreRegions region rows trace → slice_get rows index ≡ Some row → (IsUnderRegion region row.path → ⊥) → WalksRegion format told dir rows region stack trace found
region_stop told dir rows region trace stack index row found so regions at_row other = record {
  more = so.more;
  some = some so.more refl;
  stands = so.stands;
  under = so.under;
  past = λ next there is_under. other (subst (λ (r : Row). IsUnderRegion region r.path) (same_Some next row (sym there ∙ (ap (λ (n : ℕ). slice_get rows n) (sym so.at_row) ∙ at_row))) is_under);
  holds = so.holds;
  adds = so.adds;
} where
  some : (more : Trace) → so.more ≡ more → 0 < length more
  some [] none =
      let place : index ≡ length trace = so.at_row ∙ (ap (λ (ts : Trace). length (trace ++ ts)) none ∙ ap (λ (ts : Trace). length ts) (append-nil trace)) in
      absurd (other (regions.next row (ap (λ (n : ℕ). slice_get rows n) (sym place) ∙ at_row)))
  some (t ∷ more) is = omega arith

-- or with the rows
pub region_end : {format : Format} (told : Option Content) (dir : List ℕ) (rows : List Row) (region : ℕ) (trace : Trace) (stack : Stack) (index : ℕ) (found : List Segment) → RegionSoFar format told dir rows region trace stack index found
    → length rows ≤ index → length trace < length rows → WalksRegion format told dir rows region stack trace found
region_end told dir rows region trace stack index found so ended began = record {
  more = so.more;
  some = omega (arith, so.at_row, length-append trace so.more);
  stands = so.stands;
  under = so.under;
  past = λ next there is_under. absurd (omega (arith, so.at_row, slice_get_within rows (length (trace ++ so.more)) next there));
  holds = so.holds;
  adds = so.adds;
}

-- a refusal of the log of such a task
pub refuses_one : (IsOne : List Step → Type 0) (path : List Step) (e : WalkFault) → IsOne path → RefusesLogOf (λ p. p ≡ path) e → RefusesLogOf IsOne e
refuses_one IsOne path fault.NoIndex one refusal = refusal
refuses_one IsOne path (fault.BadIndex row why) one refusal = refusal
refuses_one IsOne path (fault.MissingLog p) one refusal = subst IsOne (sym refusal) one
refuses_one IsOne path (fault.BadRecord p n why) one refusal = subst IsOne (sym refusal) one
refuses_one IsOne path (fault.TooManySegments p n) one refusal = subst IsOne (sym refusal) one
refuses_one IsOne path fault.ReadFault one refusal = tt
refuses_one IsOne path fault.Memory one refusal = tt
