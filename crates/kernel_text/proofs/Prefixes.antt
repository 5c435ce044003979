-- Lemmas on a prefix of a --, and on numbers.
use Rattle.std.proofs.Common.{◌≡◌, ℕ, ◌+◌, ◌-◌, ◌*◌, ◌<◌, ◌≤◌, true, List, [], ◌∷◌, length, get_or, take, drop, None, Result, Ok, Err, refl, sym, ap, ◌∙◌, arith, inl, inr, length-take}
use Rattle.std.specs.Prelude.{IsAscii, MatchResult, is_ok}
use Rattle.std.specs.Char.{is_ascii_digit}
use Rattle.std.specs.List.{prefix_len, AllPass, fold}
use Rattle.std.proofs.lemmas.Bool.{cases_lt}
use Rattle.std.proofs.lemmas.Bool.Decides.{nat_tests}
use Rattle.std.proofs.lemmas.List.{get_or-take, get_or_past, take-append-drop}
use Rattle.std.proofs.lemmas.List.Sums.{prefix_len_passes, fold-append, fold_more}
use Rattle.kernel_text.specs.Tokens.{is_in_name, value_of, number}

in_name_ascii : (b : ℕ) → is_in_name b ≡ true → b < 128
in_name_ascii b h = grind (arith, nat_tests)

-- the part of a text that a name takes is ASCII
pub name_is_ascii : (bs : List ℕ) → IsAscii (take (prefix_len is_in_name bs) bs)
name_is_ascii bs i =
    elim (cases_lt i (prefix_len is_in_name bs)) [
      | inl lt ↦ rw (get_or-take (prefix_len is_in_name bs) bs i 0 lt) (in_name_ascii _ (prefix_len_passes is_in_name bs i 0 lt))
      | inr le ↦ rw (get_or_past (take (prefix_len is_in_name bs) bs) i 0 (omega (arith, length-take (prefix_len is_in_name bs) bs))) (omega arith)
    ]

-- the part of a text that a number takes is digits
pub digits_are_digits : (bs : List ℕ) → AllPass is_ascii_digit (take (prefix_len is_ascii_digit bs) bs)
digits_are_digits bs k d lt =
    let n = prefix_len is_ascii_digit bs in
    let below : k < n = omega (arith, length-take n bs) in
    rw (get_or-take n bs k d below) (prefix_len_passes is_ascii_digit bs k d below)

value_from_grows : (ds : List ℕ) (n : ℕ) → n ≤ fold (λ n d. 10 * n + (d - 48)) n ds
value_from_grows [] n = omega arith
value_from_grows (d ∷ ds) n = omega (arith, value_from_grows ds (10 * n + (d - 48)))

-- more digits make no smaller number
pub value_grows : (ds : List ℕ) (i : ℕ) → value_of (take i ds) ≤ value_of ds
value_grows ds i =
    let f : ℕ → ℕ → ℕ = λ n d. 10 * n + (d - 48) in
    let e : value_of ds ≡ fold f (value_of (take i ds)) (drop i ds) = ap (fold f 0) (sym (take-append-drop i ds)) ∙ fold-append f 0 (take i ds) (drop i ds) in
    rw e (value_from_grows (drop i ds) (value_of (take i ds)))

pub value_more : (ds : List ℕ) (i : ℕ) → i < length ds → value_of (take (i + 1) ds) ≡ 10 * value_of (take i ds) + (get_or ds i 0 - 48)
value_more ds i lt = fold_more (λ (n d : ℕ). 10 * n + (d - 48)) 0 ds i 0 lt

-- digits whose value is too large are no number
pub too_large : (ds : List ℕ) → 9223372036854775807 < value_of ds → number ds ≡ None
too_large ds h = grind (arith, nat_tests)

pub too_large_so_far : (ds : List ℕ) (i v : ℕ) → v ≡ value_of (take i ds) → i < length ds → 9223372036854775807 < 10 * v + (get_or ds i 0 - 48) → number ds ≡ None
too_large_so_far ds i v e lt large =
    too_large ds (omega (arith, value_more ds i lt, value_grows ds (i + 1)))

-- a call that fails only where P doesn't hold
pub no_error : {T E : Type 0} (A : T → Type 0) (P : Type 0) (B : E → Type 0) (r : Result T E) → P → MatchResult r A (λ e. ¬ P × B e) → is_ok r ≡ true
no_error A P B (Ok x) p m = refl
no_error A P B (Err e) p m = absurd (m.0 p)
