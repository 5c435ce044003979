-- Declarations: what is laid out of arrays that break no rule, and arrays that break none by what is laid out.
use Rattle.std.proofs.Common.{◌≡◌, refl, inl, inr, ℕ, ◌+◌, ◌*◌, ◌≤◌, false, not, ◌||◌, leb, ltb, List, [], ◌∷◌, ◌++◌, length, Option, Some, None, All, arith, length-append}
use Rattle.std.specs.Prelude.{is_none, unwrap_or}
use Rattle.std.proofs.lemmas.Bool.Decides.{nat_tests}
use Rattle.std.proofs.lemmas.List.Elements.{All-nil, All-cons, All-head, All-tail}
use Rattle.std.proofs.lemmas.List.Sums.{sum_by-append, sum_by-cons}
use Rattle.kernel_reader.proofs.Bounded.{between-least}
use Rattle.kernel_syntax.specs.declared.syntax.Array.{Array}
use Rattle.log_format.specs.Fitting.{IsWidth}
use Rattle.kernel_syntax.specs.Layout.{laid, laid_from, aligned, elements}
use Rattle.kernel_syntax.proofs.Laying.{placed, HasWidth}
use Rattle.kernel_text.specs.declared.fault.KernelWhy.TheVariants as why
use Rattle.kernel_text.specs.Grammar.{Declaration, ArrayOf, MutexOf}
use Rattle.kernel_reader.specs.Scope.{is_array, is_among, is_between, count_literal}
use Rattle.kernel_reader.specs.Rules.{fault_if, width_of, array_of, declarations_faults, arrays_of, mutex_names}
use Rattle.kernel_reader.proofs.Broken.{nil_left, nil_right, fault_if-none, not-false}
use Rattle.kernel_laws.specs.Naming.{AreDeclaredOnce}
use Rattle.kernel_laws.proofs.Converse.{ahead, between-is}

-- an array that has elements
abbrev pub IsFilled : Array → Type 0
IsFilled a = 1 ≤ a.count

-- ---- what the layout keeps

filled-laid_from : (base first : ℕ) (xs : List Array) → All IsFilled xs → All IsFilled (laid_from base first xs)
filled-laid_from base first [] all = All-nil IsFilled
filled-laid_from base first (a ∷ xs) all =
    let base' = aligned (base + a.width * a.count) in
    let first' = first + a.count in
    All-cons IsFilled (placed base first a) (laid_from base' first' xs) (All-head IsFilled a xs all) (filled-laid_from base' first' xs (All-tail IsFilled a xs all))

pub filled-laid : (xs : List Array) → All IsFilled xs → All IsFilled (laid xs)
filled-laid xs all = filled-laid_from 4096 0 xs all

laid_from-filled : (base first : ℕ) (xs : List Array) → All IsFilled (laid_from base first xs) → All IsFilled xs
laid_from-filled base first [] all = All-nil IsFilled
laid_from-filled base first (a ∷ xs) all =
    let base' = aligned (base + a.width * a.count) in
    let first' = first + a.count in
    let others = laid_from base' first' xs in
    All-cons IsFilled a xs (All-head IsFilled (placed base first a) others all) (laid_from-filled base' first' xs (All-tail IsFilled (placed base first a) others all))

laid_from-widths : (base first : ℕ) (xs : List Array) → All HasWidth (laid_from base first xs) → All HasWidth xs
laid_from-widths base first [] all = All-nil HasWidth
laid_from-widths base first (a ∷ xs) all =
    let base' = aligned (base + a.width * a.count) in
    let first' = first + a.count in
    let others = laid_from base' first' xs in
    All-cons HasWidth a xs (All-head HasWidth (placed base first a) others all) (laid_from-widths base' first' xs (All-tail HasWidth (placed base first a) others all))

pub laid-filled : (xs : List Array) → All IsFilled (laid xs) → All IsFilled xs
laid-filled xs all = laid_from-filled 4096 0 xs all

pub laid-widths : (xs : List Array) → All HasWidth (laid xs) → All HasWidth xs
laid-widths xs all = laid_from-widths 4096 0 xs all

-- ---- arrays that break no rule have elements

pub declared-filled : (ds : List Declaration) (arrays : List Array) (mutexes : List (List ℕ)) → declarations_faults arrays mutexes ds ≡ [] → All IsFilled (arrays_of ds)
declared-filled [] arrays mutexes e = All-nil IsFilled
declared-filled (ArrayOf line name_line name width_line width count_line count ∷ ds) arrays mutexes e =
    let a = array_of name (unwrap_or (width_of width) 0) count in
    let free = nil_right (fault_if (is_array name arrays || is_among name mutexes) name_line why.Twice) _ e in
    let room = nil_right (fault_if (leb 64 (length arrays)) name_line why.Large) _ free in
    let wide = nil_right (fault_if (is_none (width_of width)) width_line why.Width) _ room in
    let counted = fault_if-none (not (is_between 1 1048576 count)) count_line why.Count (nil_left (fault_if (not (is_between 1 1048576 count)) count_line why.Count) _ wide) in
    let later = nil_right (fault_if (not (is_between 1 1048576 count)) count_line why.Count) _ wide in
    let small = nil_right (fault_if (ltb 1048576 (elements arrays + count_literal count)) count_line why.Large) _ later in
    All-cons IsFilled a (arrays_of ds) (between-least 1048576 count (not-false (is_between 1 1048576 count) counted)) (declared-filled ds (arrays ++ a ∷ []) mutexes small)
declared-filled (MutexOf line name_line name ∷ ds) arrays mutexes e =
    let free = nil_right (fault_if (is_array name arrays || is_among name mutexes) name_line why.Twice) _ e in
    declared-filled ds arrays (mutexes ++ name ∷ []) (nil_right (fault_if (leb 63 (length mutexes)) name_line why.Large) _ free)

-- ---- and the other way round

-- the arrays and mutexes that are declared, behind others, are within the limits
pub record AreGood (arrays : List Array) (mutexes : List (List ℕ)) (ds : List Declaration) : Type 0 where
  pub few : length arrays + length (arrays_of ds) ≤ 64
  pub small : elements arrays + elements (arrays_of ds) ≤ 1048576
  pub widths : All HasWidth (arrays_of ds)
  pub filled : All IsFilled (arrays_of ds)
  pub few_mutexes : length mutexes + length (mutex_names ds) ≤ 63

some-width : (o : Option ℕ) → IsWidth (unwrap_or o 0) → is_none o ≡ false
some-width (Some w) is = refl
some-width None (inl e) = absurd (omega (arith, e))
some-width None (inr (inl e)) = absurd (omega (arith, e))
some-width None (inr (inr (inl e))) = absurd (omega (arith, e))
some-width None (inr (inr (inr e))) = absurd (omega (arith, e))

pub no-fault : (ds : List Declaration) (arrays : List Array) (mutexes : List (List ℕ)) → AreDeclaredOnce arrays mutexes ds → AreGood arrays mutexes ds → declarations_faults arrays mutexes ds ≡ []
no-fault [] arrays mutexes once good = refl
no-fault (ArrayOf line name_line name width_line width count_line count ∷ ds) arrays mutexes once good =
    let a = array_of name (unwrap_or (width_of width) 0) count in
    let counts = sum_by-cons (λ (b : Array). b.count) a (arrays_of ds) in
    let sums = sum_by-append (λ (b : Array). b.count) arrays (a ∷ []) in
    let alone = sum_by-cons (λ (b : Array). b.count) a [] in
    let longer = length-append arrays (a ∷ []) in
    let few = good.few in
    let small = good.small in
    let some = All-head IsFilled a (arrays_of ds) good.filled in
    let room : leb 64 (length arrays) ≡ false = grind (arith, nat_tests) in
    let total : ltb 1048576 (elements arrays + count_literal count) ≡ false = grind (arith, nat_tests) in
    let later : AreGood (arrays ++ a ∷ []) mutexes ds = record {
      few = omega (arith, few, longer);
      small = omega (arith, small, counts, sums, alone);
      widths = All-tail HasWidth a (arrays_of ds) good.widths;
      filled = All-tail IsFilled a (arrays_of ds) good.filled;
      few_mutexes = good.few_mutexes;
    } in
    ahead (is_array name arrays || is_among name mutexes) name_line why.Twice _ once.0 (ahead (leb 64 (length arrays)) name_line why.Large _ room
    (ahead (is_none (width_of width)) width_line why.Width _ (some-width (width_of width) (All-head HasWidth a (arrays_of ds) good.widths))
    (ahead (not (is_between 1 1048576 count)) count_line why.Count _ (between-is 1048576 count some (omega (arith, small, counts)))
    (ahead (ltb 1048576 (elements arrays + count_literal count)) count_line why.Large _ total (no-fault ds (arrays ++ a ∷ []) mutexes once.1 later)))))
no-fault (MutexOf line name_line name ∷ ds) arrays mutexes once good =
    let longer = length-append mutexes (name ∷ []) in
    let few = good.few_mutexes in
    let room : leb 63 (length mutexes) ≡ false = grind (arith, nat_tests) in
    let later : AreGood arrays (mutexes ++ name ∷ []) ds = record {
      few = good.few;
      small = good.small;
      widths = good.widths;
      filled = good.filled;
      few_mutexes = omega (arith, few, longer);
    } in
    ahead (is_array name arrays || is_among name mutexes) name_line why.Twice _ once.0 (ahead (leb 63 (length mutexes)) name_line why.Large _ room (no-fault ds arrays (mutexes ++ name ∷ []) once.1 later))
