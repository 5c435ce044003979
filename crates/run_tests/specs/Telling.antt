-- What the lanes of a team count, seen by a number of each.
use Rattle.std.specs.Prelude.{◌≡◌, ℕ, ◌+◌, ◌<◌, List, length, slice_index_or}

module _ {M : Type 0} (seen : M → ℕ) where
  -- this lane has counted the phases before this one, which is one of so many
  pub record MayCount (phases number index : ℕ) (lane : M) : Type 0 where
    pub within : number < phases
    pub so_far : seen lane ≡ number

  -- and this one, too
  pub record HasCounted (number index : ℕ) (before after : M) : Type 0 where
    pub more : seen after ≡ number + 1

  -- each lane has counted so many phases
  abbrev pub HaveCounted : ℕ → List M → Type 0
  HaveCounted number lanes = (index : ℕ) (d : M) → index < length lanes → seen (slice_index_or lanes index d) ≡ number
