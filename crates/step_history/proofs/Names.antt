-- The test of two names.
use Rattle.std.proofs.Common.{◌≡◌, refl, sym, Bool, true, false, [], ◌∷◌, eq-eqb}
use Rattle.std.specs.Prelude.{◌&&◌, ◌==◌}
use Rattle.std.specs.Cmp.Lexicographic.{same_text, other_text}
use Rattle.step_history.specs.History.{Name, name_eq}

pub same_name : (m n : Name) → name_eq m n ≡ true → m ≡ n
same_name m n is = same_text m n (sym is)

pub is_same_name : (n : Name) → name_eq n n ≡ true
is_same_name [] = refl
is_same_name (k ∷ n) = both (k == k) (name_eq n n) (eq-eqb k k refl) (is_same_name n)
  where
    both : (a b : Bool) → a ≡ true → b ≡ true → (a && b) ≡ true
    both true true one other = refl
    both true false one other = cc
    both false b one other = cc

pub other_name : (m n : Name) → (m ≡ n → ⊥) → name_eq m n ≡ false
other_name m n apart = at (name_eq m n) refl
  where
    at : (b : Bool) → name_eq m n ≡ b → b ≡ false
    at true is = absurd (apart (same_name m n is))
    at false is = refl

pub apart_names : (m n : Name) → name_eq m n ≡ false → m ≡ n → ⊥
apart_names m n is = other_text m n (sym is)
