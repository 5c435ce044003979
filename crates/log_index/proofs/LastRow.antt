-- What the last row tells of the rows' listing.
use Rattle.std.proofs.Common.{◌≡◌, ℕ, suc, ◌-◌, List, [], ◌∷◌, ◌++◌, All, IsTrue, Bool, true, ◌==◌, length, map, slice_get, Some, None, refl, sym, ap, subst, ◌∙◌, arith, append_assoc}
use Rattle.std.proofs.lemmas.List.{map-append}
use Rattle.sw_base.specs.declared.path.Step.{Step}
use Rattle.race_model.specs.Listing.{BeginsListing, IsListing, IsLastLane, IsNextPath}
use Rattle.race_laws.proofs.Listings.{begins_at_root, begins_one, begins_less, begins_more, lists_less, lists_more}
use Rattle.race_model.specs.Row.{Row}
use Rattle.race_model.specs.Row.{row_path}

-- the paths of rows
abbrev paths_of : List Row → List (List Step)
paths_of rows = map row_path rows

record IsLast (rows : List Row) (row : Row) : Type 0 where
  prefix : List Row
  parts : rows ≡ prefix ++ row ∷ []

same_some : {r s : Row} → Some r ≡ Some s → r ≡ s
same_some is = cc

one_before : (r : Row) (rows : List Row) (row : Row) → IsLast rows row → IsLast (r ∷ rows) row
one_before r rows row rest = record { prefix = r ∷ rest.prefix; parts = ap (λ (xs : List Row). r ∷ xs) rest.parts }

last_of : (rows : List Row) (row : Row) → slice_get rows (length rows - 1) ≡ Some row → IsLast rows row
last_of [] row is = cc
last_of (r ∷ []) row is =
    let same : r ≡ row = same_some is in
    record { prefix = []; parts = ap (λ (x : Row). x ∷ []) same }
last_of (r ∷ s ∷ rows) row is =
    let count : length (r ∷ s ∷ rows) - 1 ≡ suc (length (s ∷ rows) - 1) = omega arith in
    let rest : IsLast (s ∷ rows) row = last_of (s ∷ rows) row (sym (ap (λ (n : ℕ). slice_get (r ∷ s ∷ rows) n) count) ∙ is) in
    one_before r (s ∷ rows) row rest

none_of : (rows : List Row) → slice_get rows (length rows - 1) ≡ None → rows ≡ []
none_of [] is = refl
none_of (r ∷ []) is = cc
none_of (r ∷ s ∷ rows) is =
    let count : length (r ∷ s ∷ rows) - 1 ≡ suc (length (s ∷ rows) - 1) = omega arith in
    let rest : s ∷ rows ≡ [] = none_of (s ∷ rows) (sym (ap (λ (n : ℕ). slice_get (r ∷ s ∷ rows) n) count) ∙ is) in
    cc

-- what `is_empty` tells
pub empty_told : (path : List Step) (answer : Bool) → answer ≡ (length path == 0) → (IsTrue answer → path ≡ []) × (path ≡ [] → IsTrue answer)
empty_told [] answer is = (λ _. refl, λ _. is)
empty_told (step ∷ path) answer is = (λ told. absurd (grind (arith, sym told ∙ is)), λ none. absurd (omega (arith, ap length none)))

paths_last : (prefix : List Row) (row : Row) → paths_of (prefix ++ row ∷ []) ≡ paths_of prefix ++ row.path ∷ []
paths_last prefix row = map-append row_path prefix (row ∷ [])

pub first_goes_on : (rows : List Row) (path : List Step) → slice_get rows (length rows - 1) ≡ None
    → (path ≡ [] → BeginsListing (paths_of rows ++ path ∷ [])) × (BeginsListing (paths_of rows ++ path ∷ []) → path ≡ [])
first_goes_on rows path is =
    let none : rows ≡ [] = none_of rows is in
    subst (λ (rs : List Row). (path ≡ [] → BeginsListing (paths_of rs ++ path ∷ [])) × (BeginsListing (paths_of rs ++ path ∷ []) → path ≡ [])) (sym none)
    (begins_one path, begins_at_root path [])

pub next_goes_on : (rows : List Row) (row : Row) (path : List Step) → slice_get rows (length rows - 1) ≡ Some row → BeginsListing (paths_of rows)
    → (IsNextPath row.path path → BeginsListing (paths_of rows ++ path ∷ [])) × (BeginsListing (paths_of rows ++ path ∷ []) → IsNextPath row.path path)
next_goes_on rows row path is begins = (to, from) where
  last : IsLast rows row
  last = last_of rows row is

  paths_are : paths_of rows ≡ paths_of last.prefix ++ row.path ∷ []
  paths_are = ap paths_of last.parts ∙ paths_last last.prefix row

  longer : paths_of rows ++ path ∷ [] ≡ paths_of last.prefix ++ row.path ∷ path ∷ []
  longer = ap (λ (ps : List (List Step)). ps ++ path ∷ []) paths_are ∙ append_assoc (paths_of last.prefix) (row.path ∷ []) (path ∷ [])

  to : IsNextPath row.path path → BeginsListing (paths_of rows ++ path ∷ [])
  to on = subst (λ (ps : List (List Step)). BeginsListing ps) (sym longer) (begins_more (paths_of last.prefix) row.path path (subst (λ (ps : List (List Step)). BeginsListing ps) paths_are begins) on)

  from : BeginsListing (paths_of rows ++ path ∷ []) → IsNextPath row.path path
  from all = (begins_less (paths_of last.prefix) row.path path (subst (λ (ps : List (List Step)). BeginsListing ps) longer all)).1

pub last_whole : (rows : List Row) (row : Row) → slice_get rows (length rows - 1) ≡ Some row → BeginsListing (paths_of rows)
    → (All IsLastLane row.path → IsListing (paths_of rows)) × (IsListing (paths_of rows) → All IsLastLane row.path)
last_whole rows row is begins = (to, from) where
  last : IsLast rows row
  last = last_of rows row is

  paths_are : paths_of rows ≡ paths_of last.prefix ++ row.path ∷ []
  paths_are = ap paths_of last.parts ∙ paths_last last.prefix row

  to : All IsLastLane row.path → IsListing (paths_of rows)
  to lasts = subst (λ (ps : List (List Step)). IsListing ps) (sym paths_are) (lists_more (paths_of last.prefix) row.path (subst (λ (ps : List (List Step)). BeginsListing ps) paths_are begins) lasts)

  from : IsListing (paths_of rows) → All IsLastLane row.path
  from all = lists_less (paths_of last.prefix) row.path (subst (λ (ps : List (List Step)). IsListing ps) paths_are all)

pub no_rows : (rows : List Row) → rows ≡ [] → (length rows == 0) ≡ true
no_rows [] none = refl
no_rows (row ∷ rows) none = absurd (omega (arith, ap length none))
