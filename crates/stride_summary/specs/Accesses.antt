-- Accesses under no mutex.
use Rattle.std.specs.Prelude.{◌≡◌, ℕ, ◌+◌, ◌^◌, ◌<◌, ◌≤◌, List, [], All, AllPairs, length, slice_index_or}
use Rattle.log_format.specs.Fitting.{IsWidth}
use Rattle.stride_summary.specs.Sizes.{access_size_prop}
use Rattle.stride_summary.specs.declared.key.Key.{Key}
use Rattle.stride_summary.specs.declared.run.Run.{Run}
use Rattle.stride_summary.specs.declared.single.Single.{Single}
use Rattle.stride_summary.specs.Run.{address_at, run_key}

abbrev pub single_key : Single → Key
single_key single = record { write = single.write; atomic = single.atomic; size = single.size; site = single.site; line = single.line; held = [] }

-- each has a size that an access may have
abbrev pub AreSized : List Single → Type 0
AreSized singles = All (λ single. IsWidth single.size) singles

-- it has one proof
pub sized_prop : (singles : List Single) → IsProp (AreSized singles)
sized_prop singles = Prim.hlevel (access_size_prop)

-- none goes past the last byte that there is
abbrev pub EndByTheLast : List Single → Type 0
EndByTheLast singles = All (λ single. single.addr + single.size ≤ 2 ^ 48) singles

-- of two of one key the later one has the higher address
abbrev pub Ascend : List Single → Type 0
Ascend singles = AllPairs (λ one other. single_key one ≡ single_key other → one.addr < other.addr) singles

-- the other access has the same key and lies so far behind this one
abbrev pub LiesBehind : Single → Single → ℕ → Type 0
LiesBehind one other distance = (single_key one ≡ single_key other) × (other.addr ≡ one.addr + distance)

-- the run has just the first accesses
pub record BeginsWith (singles : List Single) (run : Run) : Type 0 where
  pub within : run.count ≤ length singles
  pub keyed : (place : ℕ) (d : Single) → place < run.count → single_key (slice_index_or singles place d) ≡ run_key run
  pub addressed : (place : ℕ) (d : Single) → place < run.count → (slice_index_or singles place d).addr ≡ address_at run place
