-- The rule holds of a new table.
use Rattle.std.proofs.Common.{◌≡◌, refl, sym, ap, subst, ℕ, zero, suc, ◌+◌, List, [], ◌∷◌, length, get_or, arith}
use Rattle.std.specs.Prelude.{replicate}
use mathlib.Core.Option.{some-injective, some-ne-none}
use Rattle.atomic_table.specs.Table.{opening}
use Rattle.shared_words.specs.declared.view.View.{View}
use Rattle.shared_words.specs.Views.{newcomer}
use Rattle.shared_words.specs.Rule.{ELEMENTS, Sits, Kept}
use Rattle.shared_words.proofs.Seats.{At}

abbrev pub zeros : ℕ → List ℕ
zeros n = replicate n 0

pub length-zeros : (n : ℕ) → length (zeros n) ≡ n
length-zeros zero = refl
length-zeros (suc n) = ap suc (length-zeros n)

pub zero_word : (n word : ℕ) → get_or (zeros n) word 0 ≡ 0
zero_word zero word = refl
zero_word (suc n) zero = refl
zero_word (suc n) (suc word) = zero_word n word

first_sits : Sits [] (λ _. 0) (newcomer [] ∷ []) 0 (newcomer [])
first_sits = record {
  shown = λ name. refl;
  lives = λ live. record {
    sits = refl;
    out = refl;
    fresh = λ k late. (refl, refl);
    holds = λ mutex held. let within = held.1 in absurd (omega arith);
    once = tt;
    parent = λ k p is. cc;
  };
  rests = λ dead. refl;
}

each_first : (id : ℕ) (v : View) → At (newcomer [] ∷ []) id v → Sits [] (λ _. 0) (newcomer [] ∷ []) id v
each_first zero v there = let P : View → Type 0 = λ u. Sits [] (λ _. 0) (newcomer [] ∷ []) 0 u in subst P (some-injective (newcomer []) v there) first_sits
each_first (suc id) v there = absurd (some-ne-none v (sym there))

pub begins : (elements : ℕ) → Kept elements (opening (zeros (ELEMENTS + elements)) [] (newcomer []))
begins elements = record {
  log = [];
  seat = λ _. 0;
  keeps = record {
    wide = length-zeros (ELEMENTS + elements);
    legal = tt;
    values = λ word within. zero_word (ELEMENTS + elements) (ELEMENTS + word);
    mutexes = λ mutex within. zero_word (ELEMENTS + elements) mutex;
    owners = λ mutex name is. cc;
    unborn = λ k p none_yet. refl;
    seated = λ name. omega arith;
    each = each_first;
  };
}
