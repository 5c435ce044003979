-- What ascending addresses that are those of runs say of the runs.
use Rattle.std.proofs.Common.{◌≡◌, ◌↔◌, ℕ, zero, suc, ◌+◌, ◌-◌, ◌<◌, List, [], ◌∷◌, ◌++◌, length, get_or, Contains, inl, inr, refl, sym, ◌∙◌, ap, subst, arith, length-append}
use Rattle.std.specs.List.{flat_map}
use Rattle.std.specs.List.Sorted.{IsStrictlyIncreasing}
use Rattle.std.proofs.lemmas.List.{get_or_append_left, get_or-append-add, get_or_default}
use Rattle.std.proofs.lemmas.List.Elements.{Contains-append_cases, Contains-append_left, Contains-append_right}
use Rattle.sw_base.proofs.Lists.{contains_later, contains_either}
use Rattle.stride_summary.specs.declared.run.Run.{Run}
use Rattle.stride_summary.specs.Run.{HasRunAddress, last_address}
use Rattle.stride_summary.specs.Spread.{addresses_of}
use Rattle.stride_summary.proofs.Even.{get_or-evenly, length-evenly}

rising_far : (xs : List ℕ) → IsStrictlyIncreasing xs → (i n : ℕ) → i + suc n < length xs → get_or xs i 0 < get_or xs (i + suc n) 0
rising_far xs rising i zero within =
    let next : i + 1 ≡ i + suc zero = omega arith in
    subst (λ (k : ℕ). get_or xs i 0 < get_or xs k 0) next (rising i (omega arith))
rising_far xs rising i (suc n) within =
    let before : get_or xs i 0 < get_or xs (i + suc n) 0 = rising_far xs rising i n (omega arith) in
    let next : get_or xs (i + suc n) 0 < get_or xs (i + suc n + 1) 0 = rising (i + suc n) (omega arith) in
    let both : get_or xs i 0 < get_or xs (i + suc n + 1) 0 = omega arith in
    let at : i + suc n + 1 ≡ i + suc (suc n) = omega arith in
    subst (λ (k : ℕ). get_or xs i 0 < get_or xs k 0) at both

-- what stands in the first part is less than what stands in the second
pub rising_across : (xs ys : List ℕ) (x y : ℕ) → IsStrictlyIncreasing (xs ++ ys) → Contains xs x → Contains ys y → x < y
rising_across xs ys x y rising first second =
    let far = rising_far (xs ++ ys) rising first.0 (length xs + second.0 - first.0 - 1) (omega (arith, length-append xs ys, first.1, second.1)) in
    let at : first.0 + suc (length xs + second.0 - first.0 - 1) ≡ length xs + second.0 = omega (arith, first.1) in
    let left : get_or (xs ++ ys) first.0 0 ≡ x = get_or_append_left xs ys 0 first.0 first.1 ∙ get_or_default xs first.0 0 x first.1 ∙ first.2 in
    let right : get_or (xs ++ ys) (length xs + second.0) 0 ≡ y = get_or-append-add xs ys second.0 0 ∙ get_or_default ys second.0 0 y second.1 ∙ second.2 in
    let found : get_or (xs ++ ys) first.0 0 < get_or (xs ++ ys) (length xs + second.0) 0 = subst (λ (k : ℕ). get_or (xs ++ ys) first.0 0 < get_or (xs ++ ys) k 0) at far in
    omega arith

pub rising-back : (xs ys : List ℕ) → IsStrictlyIncreasing (xs ++ ys) → IsStrictlyIncreasing ys
rising-back xs ys rising k within =
    let here = rising (length xs + k) (omega (arith, length-append xs ys)) in
    let more : get_or (xs ++ ys) (length xs + k + 1) 0 ≡ get_or (xs ++ ys) (length xs + (k + 1)) 0 = ap (λ i. get_or (xs ++ ys) i 0) (omega arith) in
    omega (arith, here, more, get_or-append-add xs ys k 0, get_or-append-add xs ys (k + 1) 0)

-- ---- the addresses of a run

pub Contains-address : (run : Run) (address : ℕ) → Contains (addresses_of run) address ↔ HasRunAddress run address
Contains-address run address = (forth, back) where
  forth : Contains (addresses_of run) address → HasRunAddress run address
  forth there =
      let within : there.0 < run.count = omega (arith, there.1, length-evenly run.base run.stride run.count) in
      record { place = there.0; in_run = within; is = sym there.2 ∙ get_or-evenly run.base run.stride run.count there.0 address within }

  back : HasRunAddress run address → Contains (addresses_of run) address
  back has = (has.place, omega (arith, has.in_run, length-evenly run.base run.stride run.count), get_or-evenly run.base run.stride run.count has.place address has.in_run ∙ sym has.is)

pub has_base : (run : Run) → Contains (addresses_of run) run.base
has_base run = (Contains-address run run.base).1 (record { place = 0; in_run = run.not_empty; is = omega arith })

pub has_last : (run : Run) → Contains (addresses_of run) (last_address run)
has_last run = (Contains-address run (last_address run)).1 (record { place = run.count - 1; in_run = omega (arith, run.not_empty); is = refl })

-- ---- the addresses of runs

pub contains_first : {X : Type 0} (x : X) (xs : List X) → Contains (x ∷ xs) x
contains_first x xs = (0, omega arith, refl)

pub spread_has : (runs : List Run) (run : Run) (address : ℕ) → Contains runs run → Contains (addresses_of run) address → Contains (flat_map addresses_of runs) address
spread_has [] run address listed has = absurd (omega (arith, listed.1))
spread_has (r ∷ rs) run address listed has = elim (contains_either r rs run listed) [
  | inl it ↦ Contains-append_left (addresses_of r) (flat_map addresses_of rs) address (subst (λ (s : Run). Contains (addresses_of s) address) (sym it) has)
  | inr later ↦ Contains-append_right (addresses_of r) (flat_map addresses_of rs) address (spread_has rs run address later has)
]

pub spread_from : (runs : List Run) (address : ℕ) → Contains (flat_map addresses_of runs) address → (run : Run) × Contains runs run × Contains (addresses_of run) address
spread_from [] address has = absurd (omega (arith, has.1))
spread_from (r ∷ rs) address has = elim (Contains-append_cases (addresses_of r) (flat_map addresses_of rs) address has) [
  | inl here ↦ (r, contains_first r rs, here)
  | inr later ↦ let found = spread_from rs address later in (found.0, contains_later r rs found.0 found.1, found.2)
]

-- runs whose addresses ascend are apart
pub apart_from_rising : (runs : List Run) → IsStrictlyIncreasing (flat_map addresses_of runs) → (i j : ℕ) (d : Run) → i < j → j < length runs → last_address (get_or runs i d) < (get_or runs j d).base
apart_from_rising [] rising i j d less within = absurd (omega arith)
apart_from_rising (r ∷ rs) rising i zero d less within = absurd (omega arith)
apart_from_rising (r ∷ rs) rising zero (suc j) d less within =
    rising_across (addresses_of r) (flat_map addresses_of rs) (last_address r) (get_or rs j d).base rising (has_last r)
    (spread_has rs (get_or rs j d) (get_or rs j d).base (j, omega arith, get_or_default rs j (get_or rs j d) d (omega arith)) (has_base (get_or rs j d)))
apart_from_rising (r ∷ rs) rising (suc i) (suc j) d less within = apart_from_rising rs (rising-back (addresses_of r) (flat_map addresses_of rs) rising) i j d (omega arith) (omega arith)
