-- A strided run: its addresses, its bytes and its key.
use Rattle.std.specs.Prelude.{◌≡◌, ◌⊎◌, ℕ, ◌+◌, ◌-◌, ◌*◌, ◌<◌, ◌≤◌, List, Contains, AllPairs, length, slice_index_or}
use Rattle.stride_summary.specs.declared.access.Access.{Access}
use Rattle.stride_summary.specs.declared.key.Key.{Key}
use Rattle.stride_summary.specs.declared.run.Run.{Run}

-- the address at a place of the run, from 0
abbrev pub address_at : Run → ℕ → ℕ
address_at run place = run.base + place * run.stride

-- the last byte of the last address
abbrev pub last_byte : Run → ℕ
last_byte run = address_at run (run.count - 1) + (run.size - 1)

-- the address is one of the run's
pub record HasRunAddress (run : Run) (address : ℕ) : Type 0 where
  pub place : ℕ
  pub in_run : place < run.count
  pub is : address ≡ address_at run place

-- the byte is one of those at an address of the run
pub record HasRunByte (run : Run) (byte : ℕ) : Type 0 where
  pub place : ℕ
  pub in_run : place < run.count
  pub from_start : address_at run place ≤ byte
  pub to_end : byte < address_at run place + run.size

-- two runs have a common byte
pub record SharesRunByte (a b : Run) : Type 0 where
  pub byte : ℕ
  pub first : HasRunByte a byte
  pub second : HasRunByte b byte

-- what tells an access apart but its address
abbrev pub access_key : Access → Key
access_key a = record { write = a.write; atomic = a.atomic; size = a.size; site = a.site; line = a.line; held = a.held.now }

abbrev pub run_key : Run → Key
run_key run = record { write = run.write; atomic = run.atomic; size = run.size; site = run.site; line = run.line; held = run.held }

-- one of the runs has the key and the address
pub record HasPair (runs : List Run) (key : Key) (address : ℕ) : Type 0 where
  pub run : Run
  pub listed : Contains runs run
  pub keyed : run_key run ≡ key
  pub addressed : HasRunAddress run address

abbrev pub last_address : Run → ℕ
last_address run = address_at run (run.count - 1)

-- of two runs of one key one ends before the other begins
abbrev pub Apart : Run → Run → Type 0
Apart one other = run_key one ≡ run_key other → (last_address one < other.base) ⊎ (last_address other < one.base)

-- any two runs at different places are apart
abbrev pub EachApart : List Run → Type 0
EachApart runs = (i j : ℕ) (d : Run) → (i ≡ j → ⊥) → i < length runs → j < length runs → Apart (slice_index_or runs i d) (slice_index_or runs j d)

-- of two runs of one key the later one begins behind the last address of the other, so no address is in both
abbrev pub AreApart : List Run → Type 0
AreApart runs = AllPairs (λ one other. run_key one ≡ run_key other → last_address one < other.base) runs
