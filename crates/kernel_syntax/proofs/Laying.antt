-- The layout: what it keeps, and one step of it.
use Rattle.std.proofs.Common.{◌≡◌, refl, ap, sym, ◌∙◌, ℕ, suc, ◌+◌, ◌*◌, ◌<◌, ◌≤◌, List, [], ◌∷◌, ◌++◌, length, take, drop, set, get_or, All, arith, le_refl}
use Rattle.std.proofs.lemmas.Nat.{mul-le}
use Rattle.std.proofs.lemmas.List.{drop_more, take_more, get_or_at, set_at, length-take-le, append_assoc}
use Rattle.std.proofs.lemmas.List.Sums.{sum_by-append, sum_by-cons}
use Rattle.std.proofs.lemmas.List.Elements.{All-nil, All-cons, All-head, All-tail}
use Rattle.kernel_syntax.specs.declared.syntax.Array.{Array}
use Rattle.log_format.specs.Fitting.{IsWidth}
use Rattle.kernel_syntax.specs.Layout.{laid, laid_from, aligned, elements}

-- as many arrays are laid out
length-laid_from : (base first : ℕ) (xs : List Array) → length (laid_from base first xs) ≡ length xs
length-laid_from base first [] = refl
length-laid_from base first (a ∷ xs) = ap suc (length-laid_from (aligned (base + a.width * a.count)) (first + a.count) xs)

pub length-laid : (xs : List Array) → length (laid xs) ≡ length xs
length-laid xs = length-laid_from 4096 0 xs

-- the array laid out at this base and element
abbrev pub placed : ℕ → ℕ → Array → Array
placed base first a = record a { base = base; first = first }

-- ---- what no layout changes

-- with as many elements
elements-laid_from : (base first : ℕ) (xs : List Array) → elements (laid_from base first xs) ≡ elements xs
elements-laid_from base first [] = refl
elements-laid_from base first (a ∷ xs) =
    let base' = aligned (base + a.width * a.count) in
    let first' = first + a.count in
    sum_by-cons (λ (b : Array). b.count) (placed base first a) (laid_from base' first' xs)
    ∙ ap (λ n. a.count + n) (elements-laid_from base' first' xs)
    ∙ sym (sum_by-cons (λ (b : Array). b.count) a xs)

pub elements-laid : (xs : List Array) → elements (laid xs) ≡ elements xs
elements-laid xs = elements-laid_from 4096 0 xs

-- an array whose elements have one of the widths
abbrev pub HasWidth : Array → Type 0
HasWidth a = IsWidth a.width

-- and with the same widths
widths-laid_from : (base first : ℕ) (xs : List Array) → All HasWidth xs → All HasWidth (laid_from base first xs)
widths-laid_from base first [] all = All-nil HasWidth
widths-laid_from base first (a ∷ xs) all =
    let rest = laid_from (aligned (base + a.width * a.count)) (first + a.count) xs in
    All-cons HasWidth (placed base first a) rest (All-head HasWidth a xs all)
    (widths-laid_from (aligned (base + a.width * a.count)) (first + a.count) xs (All-tail HasWidth a xs all))

pub widths-laid : (xs : List Array) → All HasWidth xs → All HasWidth (laid xs)
widths-laid xs all = widths-laid_from 4096 0 xs all

-- to lay out again changes nothing
laid_from-laid_from : (base first base' first' : ℕ) (xs : List Array) → laid_from base first (laid_from base' first' xs) ≡ laid_from base first xs
laid_from-laid_from base first base' first' [] = refl
laid_from-laid_from base first base' first' (a ∷ xs) =
    ap (λ rest. placed base first a ∷ rest)
    (laid_from-laid_from (aligned (base + a.width * a.count)) (first + a.count) (aligned (base' + a.width * a.count)) (first' + a.count) xs)

pub laid-laid : (xs : List Array) → laid (laid xs) ≡ laid xs
laid-laid xs = laid_from-laid_from 4096 0 4096 0 xs

-- ---- one step

-- where i arrays are laid out, and what is left of the layout begins at this base and element
module _ (xs now : List Array) (i base first : ℕ) (d : Array) (within : i < length xs)
    (done : now ≡ take i (laid xs) ++ drop i xs) (left : drop i (laid xs) ≡ laid_from base first (drop i xs)) where
  prefix_length : length (take i (laid xs)) ≡ i
  prefix_length = length-take-le i (laid xs) (omega (arith, length-laid xs))

  opened : now ≡ take i (laid xs) ++ get_or xs i d ∷ drop (i + 1) xs
  opened = done ∙ ap (λ rest. take i (laid xs) ++ rest) (drop_more xs i d within)

  pub next-is : get_or now i d ≡ get_or xs i d
  next-is = ap (λ l. get_or l i d) opened ∙ get_or_at (take i (laid xs)) (get_or xs i d) (drop (i + 1) xs) d i prefix_length

  -- the next array of the layout, and what is left after it
  split : get_or (laid xs) i d ∷ drop (i + 1) (laid xs)
      ≡ placed base first (get_or xs i d)
      ∷ laid_from (aligned (base + (get_or xs i d).width * (get_or xs i d).count)) (first + (get_or xs i d).count) (drop (i + 1) xs)
  split = sym (drop_more (laid xs) i d (omega (arith, length-laid xs))) ∙ left ∙ ap (laid_from base first) (drop_more xs i d within)

  pub left-more : drop (i + 1) (laid xs)
      ≡ laid_from (aligned (base + (get_or xs i d).width * (get_or xs i d).count)) (first + (get_or xs i d).count) (drop (i + 1) xs)
  left-more = let both = split in cc

  laid-next : get_or (laid xs) i d ≡ placed base first (get_or xs i d)
  laid-next = let both = split in cc

  pub done-more : set now i (placed base first (get_or xs i d)) ≡ take (i + 1) (laid xs) ++ drop (i + 1) xs
  done-more =
      let b = placed base first (get_or xs i d) in
      ap (λ l. set l i b) opened
      ∙ set_at (take i (laid xs)) (get_or xs i d) (drop (i + 1) xs) b i prefix_length
      ∙ sym (append_assoc (take i (laid xs)) (b ∷ []) (drop (i + 1) xs))
      ∙ ap (λ a. (take i (laid xs) ++ a ∷ []) ++ drop (i + 1) xs) (sym laid-next)
      ∙ ap (λ prefix. prefix ++ drop (i + 1) xs) (sym (take_more (laid xs) i d (omega (arith, length-laid xs))))

  pub counted-more : elements (take (i + 1) xs) ≡ elements (take i xs) + (get_or xs i d).count
  counted-more =
      ap elements (take_more xs i d within)
      ∙ omega (arith, sum_by-append (λ (a : Array). a.count) (take i xs) (get_or xs i d ∷ []))

-- no base lies further than this from the one before
pub aligned-near : (n : ℕ) → aligned n ≤ n + 63
aligned-near n = omega arith

-- how far the next base is, where a width has 8 bits
pub near-more : (base width count first i : ℕ) → width < 256 → base ≤ 4096 + 255 * first + 63 * i →
    aligned (base + width * count) ≤ 4096 + 255 * (first + count) + 63 * (i + 1)
near-more base width count first i w near =
    omega (arith, aligned-near (base + width * count), mul-le width count 255 count w' (le_refl count))
  where
    w' : width ≤ 255
    w' = omega arith
