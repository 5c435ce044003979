-- What a search finds in the halves of a list and at its middle, and how many steps it takes.
use Rattle.std.proofs.Common.{◌≡◌, ℕ, zero, suc, ◌+◌, ◌-◌, ◌*◌, ◌/◌, ◌^◌, ◌<◌, ◌≤◌, inl, inr, true, false, cond, List, [], ◌∷◌, ◌++◌, length, get_or, take, drop, refl, sym, ◌∙◌, ap, subst, arith, length-append, append_assoc, length-drop}
use Rattle.std.specs.List.{All}
use Rattle.std.proofs.lemmas.Bool.Decides.{nat_tests}
use Rattle.std.specs.List.Sorted.{IsNonDecreasingBy}
use Rattle.std.proofs.Math.Nat.{mul-le-mul_right}
use Rattle.std.proofs.lemmas.Bool.{cases_lt}
use Rattle.std.proofs.lemmas.List.{same_from_push, take-append-le, drop-append-le, length-take-le, get_or_append_left, get_or-append-add, get_or_at, take_all, drop_all}
use Rattle.std.proofs.lemmas.List.Elements.{filter-append}
use Rattle.std.proofs.lemmas.List.Sorted.{IsNonDecreasingBy-take, IsNonDecreasingBy-drop}
use Rattle.stride_summary.specs.declared.run.Run.{Run}
use Rattle.stride_summary.specs.Run.{last_byte}
use Rattle.interval_tree.specs.Reaches.{AreReaches, left_half, right_half, furthest, reaches_of}
use Rattle.interval_tree.specs.Order.{first_byte, met, reaches_into}
use Rattle.interval_tree.specs.Visits.{StepsWithin}
use Rattle.interval_tree.proofs.Halves.{IsCut, halves_fit, reaches_of-node, reaches_of-none, some_in_cut}

pub reaches_yes : (lo hi : ℕ) (run : Run) → run.base ≤ hi → lo ≤ last_byte run → reaches_into lo hi run ≡ true
reaches_yes lo hi run begins reaches = grind (arith, nat_tests)

reaches_short : (lo hi : ℕ) (run : Run) → last_byte run < lo → reaches_into lo hi run ≡ false
reaches_short lo hi run short = grind (arith, nat_tests)

reaches_past : (lo hi : ℕ) (run : Run) → hi < run.base → reaches_into lo hi run ≡ false
reaches_past lo hi run past = grind (arith, nat_tests)

pub met-cut : (lo hi : ℕ) (xs left : List Run) (run : Run) (right : List Run) → IsCut xs left run right → met lo hi xs ≡ met lo hi left ++ met lo hi (run ∷ []) ++ met lo hi right
met-cut lo hi xs left run right cut = ap (met lo hi) (cut.all ∙ sym (append_assoc left (run ∷ []) right)) ∙ filter-append (reaches_into lo hi) (left ++ run ∷ []) right ∙ ap (λ ys. ys ++ met lo hi right) (filter-append (reaches_into lo hi) left (run ∷ []))

-- no run reaches lo
pub met-short : (lo hi : ℕ) (xs : List Run) → furthest xs < lo → met lo hi xs ≡ []
met-short lo hi [] short = refl
met-short lo hi (run ∷ runs) short = ap (λ b. cond b (run ∷ met lo hi runs) (met lo hi runs)) (reaches_short lo hi run (omega arith)) ∙ met-short lo hi runs (omega arith)

-- no run begins by hi
pub met-past : (lo hi : ℕ) (xs : List Run) → All (λ (run : Run). hi < run.base) xs → met lo hi xs ≡ []
met-past lo hi [] past = refl
met-past lo hi (run ∷ runs) past = ap (λ b. cond b (run ∷ met lo hi runs) (met lo hi runs)) (reaches_past lo hi run (past 0 run (omega arith))) ∙ met-past lo hi runs (λ k d within. past (suc k) d (omega arith))

pub met-past_one : (lo hi : ℕ) (run : Run) → hi < run.base → met lo hi (run ∷ []) ≡ []
met-past_one lo hi run past = ap (λ b. cond b (run ∷ []) []) (reaches_past lo hi run past)

some_left : (lo : ℕ) (run : Run) (runs : List Run) → last_byte run < lo → lo ≤ furthest (run ∷ runs) → 0 < length runs
some_left lo run [] short reached = absurd (omega arith)
some_left lo run (next ∷ runs) short reached = omega arith

-- some run reaches lo, and all begin by hi
pub met-some : (lo hi : ℕ) (xs : List Run) → 0 < length xs → lo ≤ furthest xs → All (λ (run : Run). run.base ≤ hi) xs → 1 ≤ length (met lo hi xs)
met-some lo hi [] some reached inside = absurd (omega arith)
met-some lo hi (run ∷ runs) some reached inside = elim (cases_lt (last_byte run) lo) [
  | inl short ↦ subst (λ (rs : List Run). 1 ≤ length rs) (sym (ap (λ b. cond b (run ∷ met lo hi runs) (met lo hi runs)) (reaches_short lo hi run short)))
      (met-some lo hi runs (some_left lo run runs short reached) (omega arith) (λ k d within. inside (suc k) d (omega arith)))
  | inr far ↦ subst (λ (rs : List Run). 1 ≤ length rs) (sym (ap (λ b. cond b (run ∷ met lo hi runs) (met lo hi runs)) (reaches_yes lo hi run (inside 0 run (omega arith)) far))) (omega arith)
]

pub below_power : (n : ℕ) → n < 2 ^ n
below_power zero = omega arith
below_power (suc n) = let h = below_power n in omega arith

pub length-reaches_of : (levels : ℕ) (xs : List Run) → length xs < 2 ^ levels → length (reaches_of levels xs) ≡ length xs
unfolding reaches_of
length-reaches_of zero [] fits = refl
length-reaches_of zero (run ∷ runs) fits = absurd (omega arith)
length-reaches_of (suc levels) [] fits = refl
length-reaches_of (suc levels) (run ∷ runs) fits =
    let xs : List Run = run ∷ runs in
    let left : length (left_half xs) ≡ length xs / 2 = length-take-le (length xs / 2) xs (omega arith) in
    let right : length (right_half xs) ≡ length xs - (length xs / 2 + 1) = length-drop (length xs / 2 + 1) xs in
    let all = length-append (reaches_of levels (left_half xs) ++ reaches_of levels (right_half xs)) (furthest xs ∷ []) in
    let both = length-append (reaches_of levels (left_half xs)) (reaches_of levels (right_half xs)) in
    omega (arith, all, both, length-reaches_of levels (left_half xs) (omega arith), length-reaches_of levels (right_half xs) (omega arith))

-- more levels than there are make no difference
reaches_of-same : (n m : ℕ) (xs : List Run) → length xs < 2 ^ n → length xs < 2 ^ m → reaches_of n xs ≡ reaches_of m xs
unfolding reaches_of
reaches_of-same n m [] in_n in_m = reaches_of-none n ∙ sym (reaches_of-none m)
reaches_of-same zero m (run ∷ runs) in_n in_m = absurd (omega arith)
reaches_of-same (suc n) zero (run ∷ runs) in_n in_m = absurd (omega arith)
reaches_of-same (suc n) (suc m) (run ∷ runs) in_n in_m =
    let xs : List Run = run ∷ runs in
    let left : length (left_half xs) ≡ length xs / 2 = length-take-le (length xs / 2) xs (omega arith) in
    let right : length (right_half xs) ≡ length xs - (length xs / 2 + 1) = length-drop (length xs / 2 + 1) xs in
    ap (λ ys. (ys ++ reaches_of n (right_half xs)) ++ furthest xs ∷ []) (reaches_of-same n m (left_half xs) (omega arith) (omega arith))
    ∙ ap (λ ys. (reaches_of m (left_half xs) ++ ys) ++ furthest xs ∷ []) (reaches_of-same n m (right_half xs) (omega arith) (omega arith))

take-front : (all front back : List ℕ) (n : ℕ) → length front ≡ n → all ≡ front ++ back → take n all ≡ front
take-front all front back n size is = ap (take n) is ∙ take-append-le n front back (omega arith) ∙ take_all n front (omega arith)

drop-front : (all front back : List ℕ) (n : ℕ) → length front ≡ n → all ≡ front ++ back → drop n all ≡ back
drop-front all front back n size is = ap (drop n) is ∙ drop-append-le n front back (omega arith) ∙ ap (λ ys. ys ++ back) (drop_all n front (omega arith))

-- the reaches of a list are those of its halves and then its own
pub record AreParts (parts : List ℕ) (reach : ℕ) (xs left right : List Run) : Type 0 where
  pub own : reach ≡ furthest xs
  pub long : length left ≤ length parts
  pub lefts : AreReaches (take (length left) parts) left
  pub rights : AreReaches (drop (length left) parts) right

pub AreParts-from_reaches : (reaches parts : List ℕ) (reach : ℕ) (xs left : List Run) (run : Run) (right : List Run) → IsCut xs left run right → AreReaches reaches xs → reaches ≡ parts ++ reach ∷ [] → AreParts parts reach xs left right
AreParts-from_reaches reaches parts reach xs left run right cut are split = record {
  own = both.1;
  long = omega (arith, ap length both.0, length-append (reaches_of (length xs) left) (reaches_of (length xs) right), in_left);
  lefts = λ levels fits. take-front parts (reaches_of (length xs) left) (reaches_of (length xs) right) (length left) in_left both.0 ∙ reaches_of-same (length xs) levels left smaller.0 fits;
  rights = λ levels fits. drop-front parts (reaches_of (length xs) left) (reaches_of (length xs) right) (length left) in_left both.0 ∙ reaches_of-same (length xs) levels right smaller.1 fits;
} where
  fits : length xs < 2 ^ suc (length xs)
  fits = omega (arith, below_power (length xs))

  smaller : (length left < 2 ^ length xs) × (length right < 2 ^ length xs)
  smaller = halves_fit xs left run right (length xs) cut fits

  in_left : length (reaches_of (length xs) left) ≡ length left
  in_left = length-reaches_of (length xs) left smaller.0

  node : reaches_of (suc (length xs)) xs ≡ (reaches_of (length xs) left ++ reaches_of (length xs) right) ++ furthest xs ∷ []
  node = reaches_of-node (length xs) xs (some_in_cut xs left run right cut)
      ∙ sym (ap (λ ys. (reaches_of (length xs) ys ++ reaches_of (length xs) right) ++ furthest xs ∷ []) cut.left_is ∙ ap (λ ys. (reaches_of (length xs) (left_half xs) ++ reaches_of (length xs) ys) ++ furthest xs ∷ []) cut.right_is)

  both : (parts ≡ reaches_of (length xs) left ++ reaches_of (length xs) right) × (reach ≡ furthest xs)
  both = same_from_push parts (reaches_of (length xs) left ++ reaches_of (length xs) right) reach (furthest xs) (sym split ∙ are (suc (length xs)) fits ∙ node)

-- the runs from the middle on begin no earlier than it, and those before it no later
pub record IsOrdered (hi : ℕ) (left : List Run) (run : Run) (right : List Run) : Type 0 where
  pub left_sorted : IsNonDecreasingBy first_byte left
  pub right_sorted : IsNonDecreasingBy first_byte right
  pub left_inside : run.base ≤ hi → All (λ (r : Run). r.base ≤ hi) left
  pub right_past : hi < run.base → All (λ (r : Run). hi < r.base) right

pub IsOrdered-from_sorted : (hi : ℕ) (xs left : List Run) (run : Run) (right : List Run) → IsCut xs left run right → IsNonDecreasingBy first_byte xs → IsOrdered hi left run right
IsOrdered-from_sorted hi xs left run right cut sorted =
    let rising : IsNonDecreasingBy first_byte (left ++ run ∷ right) = subst (λ (rs : List Run). IsNonDecreasingBy first_byte rs) cut.all sorted in
    let size : length (left ++ run ∷ right) ≡ length left + suc (length right) = length-append left (run ∷ right) in
    record {
      left_sorted = subst (λ (rs : List Run). IsNonDecreasingBy first_byte rs) (sym cut.left_is) (IsNonDecreasingBy-take first_byte (length xs / 2) xs sorted);
      right_sorted = subst (λ (rs : List Run). IsNonDecreasingBy first_byte rs) (sym cut.right_is) (IsNonDecreasingBy-drop first_byte (length xs / 2 + 1) xs sorted);
      left_inside = λ begins k d within. omega (arith, rising k (length left) d (omega arith) (omega arith), ap first_byte (get_or_append_left left (run ∷ right) d k within), ap first_byte (get_or_at left run right d (length left) refl));
      right_past = λ past k d within. omega (arith, rising (length left) (length left + suc k) d (omega arith) (omega arith), ap first_byte (get_or-append-add left (run ∷ right) (suc k) d), ap first_byte (get_or_at left run right d (length left) refl));
    }

-- a search that isn't cut off at once comes to a node
pub record IsEntered (lo hi : ℕ) (xs left : List Run) (run : Run) (right : List Run) : Type 0 where
  pub cut : IsCut xs left run right
  pub reached : lo ≤ furthest xs

met_length : (lo hi : ℕ) (xs left : List Run) (run : Run) (right : List Run) → IsCut xs left run right → length (met lo hi left) + length (met lo hi right) ≤ length (met lo hi xs)
met_length lo hi xs left run right cut =
    omega (arith, ap length (met-cut lo hi xs left run right cut), length-append (met lo hi left ++ met lo hi (run ∷ [])) (met lo hi right), length-append (met lo hi left) (met lo hi (run ∷ [])))

inside_left : (hi : ℕ) (xs left : List Run) (run : Run) (right : List Run) → IsCut xs left run right → All (λ (r : Run). r.base ≤ hi) xs → All (λ (r : Run). r.base ≤ hi) left
inside_left hi xs left run right cut all k d within =
    subst (λ (r : Run). r.base ≤ hi) (ap (λ (rs : List Run). get_or rs k d) cut.all ∙ get_or_append_left left (run ∷ right) d k within) (all k d (omega (arith, ap length cut.all ∙ length-append left (run ∷ right))))

inside_right : (hi : ℕ) (xs left : List Run) (run : Run) (right : List Run) → IsCut xs left run right → All (λ (r : Run). r.base ≤ hi) xs → All (λ (r : Run). r.base ≤ hi) right
inside_right hi xs left run right cut all k d within =
    subst (λ (r : Run). r.base ≤ hi) (ap (λ (rs : List Run). get_or rs (length left + suc k) d) cut.all ∙ get_or-append-add left (run ∷ right) (suc k) d) (all (length left + suc k) d (omega (arith, ap length cut.all ∙ length-append left (run ∷ right))))

-- after the left half alone
pub StepsWithin-left : (old new lo hi : ℕ) (xs left : List Run) (run : Run) (right : List Run) → IsEntered lo hi xs left run right → StepsWithin (old + 1) new lo hi left → StepsWithin old new lo hi xs
StepsWithin-left old new lo hi xs left run right entered steps = record {
  most = most;
  inside = inside;
} where
  fewer : length (met lo hi left) ≤ length (met lo hi xs)
  fewer = omega (arith, met_length lo hi xs left run right entered.cut)

  most : (digits : ℕ) → length xs < 2 ^ digits → new ≤ old + (length (met lo hi xs) + 1) * digits
  most zero fits = absurd (omega (arith, some_in_cut xs left run right entered.cut))
  most (suc d) fits =
      let smaller = halves_fit xs left run right d entered.cut fits in
      omega (arith, steps.most d smaller.0, mul-le-mul_right d fewer)

  inside : All (λ (r : Run). r.base ≤ hi) xs → (digits : ℕ) → length xs < 2 ^ digits → new ≤ old + length (met lo hi xs) * digits
  inside all zero fits = absurd (omega (arith, some_in_cut xs left run right entered.cut))
  inside all (suc d) fits =
      let smaller = halves_fit xs left run right d entered.cut fits in
      let one = met-some lo hi xs (some_in_cut xs left run right entered.cut) entered.reached all in
      omega (arith, one, steps.inside (inside_left hi xs left run right entered.cut all) d smaller.0, mul-le-mul_right d fewer)

-- after both halves, where the middle begins by hi
pub StepsWithin-both : (old half new lo hi : ℕ) (xs left : List Run) (run : Run) (right : List Run) → IsEntered lo hi xs left run right → All (λ (r : Run). r.base ≤ hi) left → StepsWithin (old + 1) half lo hi left → StepsWithin half new lo hi right → StepsWithin old new lo hi xs
StepsWithin-both old half new lo hi xs left run right entered begun lefts rights = record {
  most = most;
  inside = inside;
} where
  fewer : length (met lo hi left) + length (met lo hi right) ≤ length (met lo hi xs)
  fewer = met_length lo hi xs left run right entered.cut

  most : (digits : ℕ) → length xs < 2 ^ digits → new ≤ old + (length (met lo hi xs) + 1) * digits
  most zero fits = absurd (omega (arith, some_in_cut xs left run right entered.cut))
  most (suc d) fits =
      let smaller = halves_fit xs left run right d entered.cut fits in
      omega (arith, lefts.inside begun d smaller.0, rights.most d smaller.1, mul-le-mul_right d fewer)

  inside : All (λ (r : Run). r.base ≤ hi) xs → (digits : ℕ) → length xs < 2 ^ digits → new ≤ old + length (met lo hi xs) * digits
  inside all zero fits = absurd (omega (arith, some_in_cut xs left run right entered.cut))
  inside all (suc d) fits =
      let smaller = halves_fit xs left run right d entered.cut fits in
      let one = met-some lo hi xs (some_in_cut xs left run right entered.cut) entered.reached all in
      omega (arith, one, lefts.inside begun d smaller.0, rights.inside (inside_right hi xs left run right entered.cut all) d smaller.1, mul-le-mul_right d fewer)
