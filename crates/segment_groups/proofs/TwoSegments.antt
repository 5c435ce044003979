-- What comparing two segments adds, over a tree that has the second one's runs in another order.
use Rattle.std.proofs.Common.{◌≡◌, ℕ, ◌+◌, ◌^◌, ◌<◌, ◌≤◌, List, length, filter, cond, take, get_or, sym, ap, ◌∙◌, subst, arith}
use Rattle.std.specs.List.Sorted.{IsPermutation}
use Rattle.std.proofs.lemmas.List.Sorted.{Contains-permutation, IsPermutation-sym, length_permutation, sum_by-IsPermutation}
use Rattle.std.proofs.lemmas.List.Sums.{length-filter, sum_by-le-sum_by, sum_by_more, sum_by_more_le}
use Rattle.std.proofs.Math.Nat.{mul-le-mul_right}
use Rattle.interval_tree.specs.Order.{reaches_into}
use Rattle.stride_summary.specs.declared.run.Run.{Run}
use Rattle.stride_summary.specs.Run.{last_byte}
use Rattle.log_segment.specs.declared.segment.Segment.{Segment}
use Rattle.race_model.specs.Label.{IsConcurrent}
use Rattle.pair_compare.specs.Conflict.{AddsPairs, AddsSome, IsPairOfRuns}
use Rattle.pair_compare.specs.Compare.{IsRacingPair}
use Rattle.segment_groups.specs.Search.{search_cost, searches_cost}
use Rattle.pair_compare.proofs.Adds.{AddsPairs-same, AddsSome-same}
use Rattle.pair_compare.proofs.Meeting.{IsConflictPair-from, IsPairOfRuns-from}

-- the same runs in another order
pub pair_permuted : (xs ys zs : List Run) (p : ℕ × ℕ) → IsPermutation ys zs → IsPairOfRuns ys xs p → IsPairOfRuns zs xs p
pair_permuted xs ys zs p same h = record { one = h.one; listed = h.listed; has = record { one = h.has.one; listed = Contains-permutation ys zs h.has.one same h.has.listed; has = h.has.has } }

racing_from : (a b : Segment) (tree : List Run) (p : ℕ × ℕ) → IsPermutation b.runs.items tree → IsConcurrent a.label b.label → IsPairOfRuns tree a.runs.items p → IsRacingPair a b p
racing_from a b tree p same concurrent h = record {
  concurrent = concurrent;
  conflict = IsConflictPair-from a.runs.items b.runs.items p (pair_permuted a.runs.items tree b.runs.items p (IsPermutation-sym b.runs.items tree same) h);
}

from_racing : (a b : Segment) (tree : List Run) (p : ℕ × ℕ) → IsPermutation b.runs.items tree → IsRacingPair a b p → IsPairOfRuns tree a.runs.items p
from_racing a b tree p same h = pair_permuted a.runs.items b.runs.items tree p same (IsPairOfRuns-from a.runs.items b.runs.items p h.conflict)

-- where the labels are concurrent, the conflicts are the races
pub AddsPairs-concurrent : (old new : List (ℕ × ℕ)) (a b : Segment) (tree : List Run) → IsPermutation b.runs.items tree → IsConcurrent a.label b.label → AddsPairs old new (IsPairOfRuns tree a.runs.items)
    → AddsPairs old new (IsRacingPair a b)
AddsPairs-concurrent old new a b tree same concurrent adds = AddsPairs-same old new (IsPairOfRuns tree a.runs.items) (IsRacingPair a b)
    (λ p h. racing_from a b tree p same concurrent h) (λ p h. from_racing a b tree p same h) adds

pub AddsSome-concurrent : (old new : List (ℕ × ℕ)) (a b : Segment) (tree : List Run) → IsPermutation b.runs.items tree → IsConcurrent a.label b.label → AddsSome old new (IsPairOfRuns tree a.runs.items)
    → AddsSome old new (IsRacingPair a b)
AddsSome-concurrent old new a b tree same concurrent adds = AddsSome-same old new (IsPairOfRuns tree a.runs.items) (IsRacingPair a b) (λ p h. racing_from a b tree p same concurrent h) adds

-- as many of the runs are met, in whatever order they stand
search_cost-same : (runs tree : List Run) (digits : ℕ) (x : Run) → IsPermutation runs tree → search_cost tree digits x ≤ search_cost runs digits x
search_cost-same runs tree digits x same =
    let test = reaches_into x.base (last_byte x) in
    let counts : length (filter test tree) ≡ length (filter test runs) = length-filter test tree ∙ (sum_by-IsPermutation (λ r. cond (test r) 1 0) runs tree same ∙ sym (length-filter test runs)) in
    mul-le-mul_right digits (omega arith)

pub searches_cost-same : (old new : ℕ) (xs runs tree : List Run) (digits : ℕ) → IsPermutation runs tree → (length tree < 2 ^ digits → new ≤ old + searches_cost tree digits xs) → length runs < 2 ^ digits → new ≤ old + searches_cost runs digits xs
searches_cost-same old new xs runs tree digits same cost fits =
    let lengths : length tree ≡ length runs = length_permutation runs tree same in
    let most = cost (subst (λ (n : ℕ). n < 2 ^ digits) (sym lengths) fits) in
    let less : searches_cost tree digits xs ≤ searches_cost runs digits xs = sum_by-le-sum_by (search_cost tree digits) (search_cost runs digits) xs (λ x. search_cost-same runs tree digits x same) in
    omega arith

-- the steps so far, after one more search
pub searches_cost-next : (start before after : ℕ) (tree : List Run) (digits : ℕ) (xs : List Run) (i : ℕ) (x : Run) → i < length xs → x ≡ get_or xs i x → before ≤ start + searches_cost tree digits (take i xs) → after ≤ before + search_cost tree digits x
    → after ≤ start + searches_cost tree digits (take (i + 1) xs)
searches_cost-next start before after tree digits xs i x within is so_far one =
    let more = sum_by_more (search_cost tree digits) xs i x within in
    let cost : search_cost tree digits x ≡ search_cost tree digits (get_or xs i x) = ap (search_cost tree digits) is in
    let total : searches_cost tree digits (take (i + 1) xs) ≡ searches_cost tree digits (take i xs) + search_cost tree digits x = more ∙ ap (λ (n : ℕ). searches_cost tree digits (take i xs) + n) (sym cost) in
    omega (arith, so_far, one, total)

pub searches_cost-within : (start before after : ℕ) (tree : List Run) (digits : ℕ) (xs : List Run) (i : ℕ) (x : Run) → i < length xs → x ≡ get_or xs i x → before ≤ start + searches_cost tree digits (take i xs) → after ≤ before + search_cost tree digits x
    → after ≤ start + searches_cost tree digits xs
searches_cost-within start before after tree digits xs i x within is so_far one =
    let most = sum_by_more_le (search_cost tree digits) xs i x within in
    let cost : search_cost tree digits x ≡ search_cost tree digits (get_or xs i x) = ap (search_cost tree digits) is in
    let total : searches_cost tree digits (take i xs) + search_cost tree digits x ≤ searches_cost tree digits xs = subst (λ (n : ℕ). searches_cost tree digits (take i xs) + n ≤ searches_cost tree digits xs) (sym cost) most in
    omega (arith, so_far, one, total)
