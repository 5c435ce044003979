-- The mutexes that a task holds, as a list, the innermost last.
use Rattle.std.specs.Prelude.{◌≡◌, ℕ, List, [], ◌∷◌, ◌++◌, Contains}

-- the mutex was taken last
abbrev pub IsInnermost : List ℕ → ℕ → Type 0
IsInnermost held id = (outer : List ℕ) × (held ≡ outer ++ id ∷ [])

-- no mutex is in both
abbrev pub AreDisjoint : List ℕ → List ℕ → Type 0
AreDisjoint xs ys = (id : ℕ) → Contains xs id → Contains ys id → ⊥
