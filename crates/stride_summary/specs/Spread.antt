-- The addresses of runs, one by one and in order.
use Rattle.std.specs.Prelude.{◌≡◌, ℕ, zero, suc, ◌+◌, ◌*◌, ◌^◌, ◌≤◌, List, [], ◌∷◌, ◌++◌, length, All, Contains, ◌↔◌}
use Rattle.std.specs.List.{flat_map}
use Rattle.std.specs.List.Sorted.{IsStrictlyIncreasing}
use Rattle.stride_summary.specs.declared.key.Key.{Key}
use Rattle.stride_summary.specs.declared.run.Run.{Run}
use Rattle.stride_summary.specs.Run.{run_key}

-- so many numbers at equal distances
abbrev pub evenly : ℕ → ℕ → ℕ → List ℕ
evenly base stride zero = []
evenly base stride (suc count) = base ∷ evenly (base + stride) stride count

abbrev pub addresses_of : Run → List ℕ
addresses_of run = evenly run.base run.stride run.count

-- the addresses fit a size
abbrev pub EndsInTime : ℕ → List ℕ → Type 0
EndsInTime size addresses = All (λ address. address + size ≤ 2 ^ 48) addresses

-- the runs have the key, and one after another just these addresses
pub record AreCuts (key : Key) (addresses : List ℕ) (runs : List Run) : Type 0 where
  pub keyed : All (λ run. run_key run ≡ key) runs
  pub spread : flat_map addresses_of runs ≡ addresses

-- the new runs are the old ones and those of the addresses, of which every two make a run
pub record AddsCuts (key : Key) (addresses : List ℕ) (old new : List Run) : Type 0 where
  pub cuts : List Run
  pub added : new ≡ old ++ cuts
  pub cut : AreCuts key addresses cuts
  pub few : 2 * length cuts ≤ length addresses + 1

-- the new runs are the old ones and those of the addresses, of which some may stand more than once
pub record AddsStretch (key : Key) (addresses : List ℕ) (old new : List Run) : Type 0 where
  pub ascending : List ℕ
  pub rising : IsStrictlyIncreasing ascending
  pub same : (address : ℕ) → Contains ascending address ↔ Contains addresses address
  pub cuts : AddsCuts key ascending old new
