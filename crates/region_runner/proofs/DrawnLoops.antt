-- Of items so far, and of phases so far, no more loops have their chunks drawn than of all.
use Rattle.std.proofs.Common.{◌≡◌, refl, ap, sym, ◌∙◌, ℕ, suc, ◌+◌, ◌<◌, ◌≤◌, List, [], ◌∷◌, ◌++◌, length, map, take, drop, slice_index_or, arith}
use Rattle.std.specs.Prelude.{true}
use Rattle.std.proofs.lemmas.List.{map-append, take-append-drop}
use Rattle.std.proofs.Math.Seq.{take-suc}
use Rattle.kernel_model.specs.declared.phase.Item.{Item}
use Rattle.kernel_model.specs.Parts.{drawn_count, is_drawn}
use Rattle.kernel_model.specs.Phases.{part_of, parts_in}
use Rattle.region_runner.proofs.RegionLanes.{parts_both}
use Rattle.region_runner.proofs.Standing.{drawn_after, drawn_both}

-- a list is what is before one of its elements, the element, and the rest
split_at : {A : Type 0} (xs : List A) (n : ℕ) (x : A) → n < length xs → x ≡ slice_index_or xs n x → xs ≡ (take n xs ++ x ∷ []) ++ drop (suc n) xs
split_at {A} xs n x inside is =
    sym (take-append-drop (suc n) xs) ∙ ap (λ (ys : List A). ys ++ drop (suc n) xs) (take-suc xs n x inside ∙ ap (λ (y : A). take n xs ++ y ∷ []) (sym is))

items_drawn : (xs ys : List Item) → drawn_count (map part_of (xs ++ ys)) ≡ drawn_count (map part_of xs) + drawn_count (map part_of ys)
items_drawn xs ys = ap drawn_count (map-append part_of xs ys) ∙ drawn_both (map part_of xs) (map part_of ys)

pub items_so_far : (items : List Item) (n : ℕ) (x : Item) → n < length items → x ≡ slice_index_or items n x → is_drawn (part_of x) ≡ true → drawn_count (map part_of (take n items)) + 1 ≤ drawn_count (map part_of items)
items_so_far items n x inside is drawn =
    let all = ap (λ (xs : List Item). drawn_count (map part_of xs)) (split_at items n x inside is) in
    let rest = items_drawn (take n items ++ x ∷ []) (drop (suc n) items) in
    let next = items_drawn (take n items) (x ∷ []) in
    let one : drawn_count (map part_of (x ∷ [])) ≡ 1 = rw drawn refl in
    omega (arith, all, rest, next, one)

pub phases_so_far : (phases : List (List Item)) (n : ℕ) (x : List Item) → n < length phases → x ≡ slice_index_or phases n x
    → drawn_count (parts_in (take n phases)) + drawn_count (map part_of x) ≤ drawn_count (parts_in phases)
phases_so_far phases n x inside is =
    let all = ap (λ (ps : List (List Item)). drawn_count (parts_in ps)) (split_at phases n x inside is) in
    let rest = ap drawn_count (parts_both (take n phases ++ x ∷ []) (drop (suc n) phases)) ∙ drawn_both (parts_in (take n phases ++ x ∷ [])) (parts_in (drop (suc n) phases)) in
    let next = drawn_after (take n phases) x in
    omega (arith, all, rest, next)
