use Rattle.std.proofs.Common.{ℕ, ◌+◌, ◌-◌, ◌<◌, ◌≤◌, refl, arith}
use Rattle.stride_summary.specs.declared.run.Run.{Run}
use Rattle.stride_summary.specs.Run.{SharesRunByte}
use Rattle.stride_overlap.specs.Meeting.{Meets}
use Rattle.stride_overlap.specs.declared.meeting.Places.{Places}
use Rattle.stride_overlap.proofs.Shared.{IsBehind, Common, SharesRunByte-common, common_from_shared, has_bytes}
use Rattle.stride_overlap.proofs.overlapping.overlaps_later.Goals as goal

-- the first addresses have a common byte
first_shared : (a b : Run) → a.base ≤ b.base → b.base - a.base ≤ a.size - 1 → SharesRunByte a b
first_shared a b after near =
    let some_a = has_bytes a.size a.sized in
    let some_b = has_bytes b.size b.sized in
    record {
      byte = b.base;
      first = record { place = 0; in_run = a.not_empty; from_start = omega arith; to_end = omega arith };
      second = record { place = 0; in_run = b.not_empty; from_start = omega arith; to_end = omega arith };
    }

in_both : (a b : Run) (low high : ℕ) (at : Places) → Meets a.stride b.stride low high at.first at.second → (at.first < a.count) × (at.second < b.count) → Common a b low high
in_both a b low high at meets within = record { i = at.first; j = at.second; in_first = within.0; in_second = within.1; meets = meets }

-- the least places are in the runs where any are
both_in : (a b : Run) (low high : ℕ) (at : Places) → ((i j : ℕ) → Meets a.stride b.stride low high i j → (at.first ≤ i) × (at.second ≤ j)) → Common a b low high → (at.first < a.count) × (at.second < b.count)
both_in a b low high at least common =
    let less : (at.first ≤ common.i) × (at.second ≤ common.j) = least common.i common.j common.meets in
    (omega arith, omega arith)

pub returns-then-apart-short : goal.returns-then-apart-short
returns-then-apart-short c = (λ _. first_shared c.args.a.now c.args.b.now c.requires (omega arith), λ _. refl)

pub returns-in-Some : goal.returns-in-Some
returns-in-Some c =
    let a : Run = c.args.a.now in
    let b : Run = c.args.b.now in
    let some_a = has_bytes a.size a.sized in
    let some_b = has_bytes b.size b.sized in
    let low = b.base - a.base - (c.from-short.result - 1) in
    let high = b.base - a.base + c.from.result - 1 in
    let behind : IsBehind a b low high = record { window_from = omega arith; window_to = omega arith } in (
      λ yes. SharesRunByte-common a b low high behind (in_both a b low high c.in-Some.at c.in-Some.ensures.found (c.are_in.ensures.0 yes)),
      λ shared. c.are_in.ensures.1 (both_in a b low high c.in-Some.at c.in-Some.ensures.least (common_from_shared a b low high behind shared)),
    )
