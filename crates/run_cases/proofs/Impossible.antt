-- What can't be.
use Rattle.std.proofs.Common.{◌≡◌, ℕ, ◌<◌, ◌≤◌, List, [], ◌∷◌, ◌++◌, arith}

pub different : (m n : ℕ) → m ≡ n → m < n → ⊥
different m n e less = omega arith

pub no_more : (m n : ℕ) → m ≤ n → n < m → ⊥
no_more m n most less = omega arith

pub not_empty : {X : Type 0} (xs ys : List X) (y : X) → [] ≡ xs ++ y ∷ ys → ⊥
not_empty [] ys y e = cc
not_empty (x ∷ xs) ys y e = cc
