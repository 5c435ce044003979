-- Two runs share a byte where they have places that meet.
use Rattle.std.proofs.Common.{◌≡◌, ℕ, ◌+◌, ◌<◌, ◌≤◌, inl, inr, arith}
use Rattle.std.proofs.lemmas.Bool.{cases_lt}
use Rattle.log_format.specs.Fitting.{IsWidth}
use Rattle.stride_summary.specs.declared.run.Run.{Run}
use Rattle.stride_summary.specs.Run.{SharesRunByte, address_at}
use Rattle.stride_overlap.specs.Meeting.{Meets}

-- two runs, the second beginning behind the first's first address
pub record IsBehind (a b : Run) (low high : ℕ) : Type 0 where
  pub window_from : b.base + 1 ≡ a.base + a.size + low
  pub window_to : b.base + b.size ≡ a.base + high + 1

-- two of the runs' places that meet
pub record Common (a b : Run) (low high : ℕ) : Type 0 where
  pub i : ℕ
  pub j : ℕ
  pub in_first : i < a.count
  pub in_second : j < b.count
  pub meets : Meets a.stride b.stride low high i j

pub has_bytes : (n : ℕ) → IsWidth n → 1 ≤ n
has_bytes n size = elim size [ inl e ↦ omega arith | inr s ↦ elim s [ inl e ↦ omega arith | inr t ↦ elim t [ inl e ↦ omega arith | inr e ↦ omega arith ] ] ]

pub SharesRunByte-common : (a b : Run) (low high : ℕ) → IsBehind a b low high → Common a b low high → SharesRunByte a b
SharesRunByte-common a b low high behind common =
    let at = common.meets in
    let some_a = has_bytes a.size a.sized in
    let some_b = has_bytes b.size b.sized in
    elim (cases_lt (address_at a common.i) (address_at b common.j)) [
      | inl less ↦ record {
        byte = address_at b common.j;
        first = record { place = common.i; in_run = common.in_first; from_start = omega arith; to_end = omega arith };
        second = record { place = common.j; in_run = common.in_second; from_start = omega arith; to_end = omega arith };
      }
      | inr not ↦ record {
        byte = address_at a common.i;
        first = record { place = common.i; in_run = common.in_first; from_start = omega arith; to_end = omega arith };
        second = record { place = common.j; in_run = common.in_second; from_start = omega arith; to_end = omega arith };
      }
    ]

pub common_from_shared : (a b : Run) (low high : ℕ) → IsBehind a b low high → SharesRunByte a b → Common a b low high
common_from_shared a b low high behind shared = record {
  i = shared.first.place;
  j = shared.second.place;
  in_first = shared.first.in_run;
  in_second = shared.second.in_run;
  meets = record {
    above = omega (arith, shared.first.to_end, shared.second.from_start);
    below = omega (arith, shared.first.from_start, shared.second.to_end);
  };
}
