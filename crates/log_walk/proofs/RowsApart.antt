-- The logs of the rows of an index have names of their own.
use Rattle.std.proofs.Common.{◌≡◌, ◌≢◌, inl, inr, ℕ, zero, suc, ◌<◌, List, [], ◌∷◌, length, get_or, map, Option, Some, None, refl, ap, subst, arith}
use Rattle.std.specs.Prelude.{All, slice_get}
use Rattle.std.proofs.lemmas.List.{get_or-map, length-map}
use Rattle.std.proofs.lemmas.List.Elements.{All-weaker}
use Rattle.std.proofs.lemmas.Option.{slice_get-get_or}
use Rattle.sw_base.specs.declared.path.Step.{Step}
use Rattle.sw_base.proofs.NameLaws.{HasPlace, place}
use Rattle.race_model.specs.FirstBad.{row_of, rows_of}
use Rattle.race_model.specs.IndexFault.{AreRows, IsRow, IsStep}
use Rattle.race_model.specs.Row.{Row}
use Rattle.race_model.specs.Trace.{TaskLog, Trace}
use Rattle.log_index.proofs.Putting.{AreApart, HasPlaces}
use Rattle.log_walk.proofs.RowOrder.{PathBefore, listing_sorted}

-- a step of a path fits its place
has_place : (step : Step) → IsStep step → HasPlace step
has_place step is = let region = is.region in let lane = is.lane in let span = is.span.limit in (omega arith, omega arith)

-- the paths of rows have places
pub all_places : (trace : Trace) → All IsRow (rows_of trace) → All HasPlaces trace
all_places trace rows k d within =
    All-weaker IsStep HasPlace has_place (get_or trace k d).path
    (subst IsRow (get_or-map row_of trace k d (row_of d) within) (rows k (row_of d) (omega (arith, within, length-map trace row_of)))).steps

first_place : (s t : Step) (p q : List Step) → map place (s ∷ p) ≡ map place (t ∷ q) → place s ≡ place t
first_place s t p q same = ap (λ (at : List (ℕ × ℕ)). get_or at 0 (0, 0)) same

-- paths at one place aren't before one another
at_one_place : (p q : List Step) → PathBefore p q → map place p ≢ map place q
at_one_place [] [] before same = before
at_one_place [] (t ∷ q) before same = let none : ◌≡◌ {A = ℕ} 0 (suc (length (map place q))) = ap length same in absurd (omega (arith, none))
at_one_place (s ∷ p) [] before same = before
at_one_place (s ∷ p) (t ∷ q) (inl (inl less)) same = absurd (omega (arith, less, ap (λ (at : ℕ × ℕ). at.0) (first_place s t p q same)))
at_one_place (s ∷ p) (t ∷ q) (inl (inr less)) same = absurd (omega (arith, less.1, ap (λ (at : ℕ × ℕ). at.1) (first_place s t p q same)))
at_one_place (s ∷ p) (t ∷ q) (inr later) same = at_one_place p q later.1 (let rest : map place p ≡ map place q = cc in rest)

-- those of a listing are at places of their own
listed_apart : (trace : Trace) → ((i j : ℕ) (a b : TaskLog) → i < j → slice_get trace i ≡ Some a → slice_get trace j ≡ Some b → PathBefore a.path b.path) → AreApart trace
listed_apart [] sorted = tt
listed_apart (task ∷ trace) sorted = (
  (λ k d within. at_one_place task.path (get_or trace k d).path (sorted 0 (suc k) task (get_or trace k d) (omega arith) refl (slice_get-get_or trace k d within))),
  listed_apart trace (λ i j a b less one other. sorted (suc i) (suc j) a b (omega (arith, less)) one other),
)

path_at : (trace : Trace) (k : ℕ) (task : TaskLog) → slice_get trace k ≡ Some task → slice_get (map (λ (row : Row). row.path) (rows_of trace)) k ≡ Some task.path
path_at [] k task found = cc
path_at (t ∷ trace) zero task found = ap (option_path) found
  where
    option_path : Option TaskLog → Option (List Step)
    option_path (Some x) = Some x.path
    option_path None = None
path_at (t ∷ trace) (suc k) task found = path_at trace k task found

pub rows_apart : (trace : Trace) → AreRows (rows_of trace) → AreApart trace
rows_apart trace rows =
    listed_apart trace (λ i j a b less one other. listing_sorted (map (λ (row : Row). row.path) (rows_of trace)) i j a.path b.path rows.lists less (path_at trace i a one) (path_at trace j b other))
