-- A list of runs as its middle and the halves beside it.
use Rattle.std.proofs.Common.{◌≡◌, ℕ, zero, suc, ◌+◌, ◌-◌, ◌/◌, ◌^◌, ◌<◌, ◌≤◌, List, [], ◌∷◌, ◌++◌, length, map, take, drop, max, refl, sym, ◌∙◌, ap, subst, arith, append_assoc, append-nil, length-append}
use Rattle.std.proofs.lemmas.List.{take-append-drop, take-map, drop-map, drop-drop, length-take, map-append, length-map}
use Rattle.stride_summary.specs.declared.run.Run.{Run}
use Rattle.stride_summary.specs.Run.{last_byte}
use Rattle.interval_tree.specs.Reaches.{AddsReaches, left_half, right_half, furthest, reaches_of}
use denote.Ref.{Bor}

-- what references point to
abbrev pub shown : List (Bor Run) → List Run
shown = map (λ r. r.now)

-- the list is a middle with the halves beside it
pub record IsCut (xs left : List Run) (run : Run) (right : List Run) : Type 0 where
  pub all : xs ≡ left ++ run ∷ right
  pub left_is : left ≡ left_half xs
  pub right_is : right ≡ right_half xs

tail_is : {X : Type 0} (xs : List X) (x : X) (ys : List X) (n : ℕ) → drop n xs ≡ x ∷ ys → ys ≡ drop (n + 1) xs
tail_is xs x ys n is = ap (drop 1) (sym is) ∙ drop-drop 1 n xs

pub IsCut-from_split : (xs left rest : List (Bor Run)) (run : Bor Run) (right : List (Bor Run)) → left ≡ take (length xs / 2) xs → rest ≡ drop (length xs / 2) xs → rest ≡ run ∷ right → IsCut (shown xs) (shown left) run.now (shown right)
IsCut-from_split xs left rest run right is_left is_rest is_right = record {
  all = ap shown (sym (take-append-drop (length xs / 2) xs) ∙ ap (λ ys. ys ++ drop (length xs / 2) xs) (sym is_left) ∙ ap (λ ys. left ++ ys) (sym is_rest ∙ is_right)) ∙ map-append _ left (run ∷ right);
  left_is = ap shown is_left ∙ sym (take-map _ (length xs / 2) xs) ∙ ap (λ n. take (n / 2) (shown xs)) (sym (length-map xs (λ r. r.now)));
  right_is = ap shown (tail_is xs run right (length xs / 2) (sym is_rest ∙ is_right)) ∙ sym (drop-map _ (length xs / 2 + 1) xs) ∙ ap (λ n. drop (n / 2 + 1) (shown xs)) (sym (length-map xs (λ r. r.now)));
}

pub reaches_of-none : (levels : ℕ) → reaches_of levels [] ≡ []
unfolding reaches_of
reaches_of-none zero = refl
reaches_of-none (suc levels) = refl

pub pushed-none : (xs : List (Bor Run)) (old : List ℕ) → length xs ≡ 0 → AddsReaches old old (shown xs)
pushed-none [] old none levels fits = sym (ap (λ ys. old ++ ys) (reaches_of-none levels) ∙ append-nil old)
pushed-none (x ∷ xs) old none levels fits = absurd (omega arith)

pub reaches_of-node : (levels : ℕ) (xs : List Run) → 0 < length xs → reaches_of (suc levels) xs ≡ reaches_of levels (left_half xs) ++ reaches_of levels (right_half xs) ++ furthest xs ∷ []
unfolding reaches_of
reaches_of-node levels [] some = absurd (omega arith)
reaches_of-node levels (run ∷ runs) some = refl

pub furthest-append : (xs ys : List Run) → furthest (xs ++ ys) ≡ max (furthest xs) (furthest ys)
furthest-append [] ys = omega arith
furthest-append (run ∷ xs) ys = omega (arith, furthest-append xs ys)

pub furthest-cut : (xs left : List Run) (run : Run) (right : List Run) → IsCut xs left run right → furthest xs ≡ max (max (last_byte run) (furthest left)) (furthest right)
furthest-cut xs left run right cut = ap furthest cut.all ∙ omega (arith, furthest-append left (run ∷ right))

-- the halves have a binary digit less
pub halves_fit : (xs left : List Run) (run : Run) (right : List Run) (levels : ℕ) → IsCut xs left run right → length xs < 2 ^ suc levels → (length left < 2 ^ levels) × (length right < 2 ^ levels)
halves_fit xs left run right levels cut fits =
    let whole = ap length cut.all ∙ length-append left (run ∷ right) in
    let half = ap length cut.left_is ∙ length-take (length xs / 2) xs in
    (omega arith, omega arith)

pub some_in_cut : (xs left : List Run) (run : Run) (right : List Run) → IsCut xs left run right → 0 < length xs
some_in_cut xs left run right cut = omega (arith, ap length cut.all ∙ length-append left (run ∷ right))

-- the reaches of the halves, and then that of the middle
pub pushed-cut : (xs left : List Run) (run : Run) (right : List Run) (old half all : List ℕ) → IsCut xs left run right → AddsReaches old half left → AddsReaches half all right → AddsReaches old (all ++ furthest xs ∷ []) xs
pushed-cut xs left run right old half all cut by_left by_right zero fits = absurd (omega (arith, some_in_cut xs left run right cut))
pushed-cut xs left run right old half all cut by_left by_right (suc n) fits =
    let smaller = halves_fit xs left run right n cut fits in
    let node = reaches_of-node n xs (some_in_cut xs left run right cut) in
    ap (λ ys. ys ++ furthest xs ∷ []) (by_right n smaller.1 ∙ ap (λ ys. ys ++ reaches_of n right) (by_left n smaller.0))
    ∙ ap (λ ys. ys ++ furthest xs ∷ []) (append_assoc old (reaches_of n left) (reaches_of n right))
    ∙ append_assoc old (reaches_of n left ++ reaches_of n right) (furthest xs ∷ [])
    ∙ ap (λ ys. old ++ ys) (ap (λ ys. reaches_of n ys ++ reaches_of n right ++ furthest xs ∷ []) cut.left_is ∙ ap (λ ys. reaches_of n (left_half xs) ++ reaches_of n ys ++ furthest xs ∷ []) cut.right_is ∙ sym node)

-- a level less is enough for a half
pub half_fits : (levels n half : ℕ) → 0 < n → n < 2 ^ levels → half ≤ n / 2 → (0 < levels) × (half < 2 ^ (levels - 1))
half_fits zero n half some fits less = absurd (omega arith)
half_fits (suc levels) n half some fits less =
    let one : suc levels - 1 ≡ levels = omega arith in
    let within : half < 2 ^ levels = omega arith in
    (omega arith, subst (λ (k : ℕ). half < 2 ^ k) (sym one) within)
