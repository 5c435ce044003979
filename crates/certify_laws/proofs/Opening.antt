-- Which record opens one barrier interval too many.
use Rattle.std.proofs.Common.{◌≡◌, refl, ap, ℕ, zero, suc, ◌+◌, ◌≤◌, List, ◌∷◌, take, Some, arith}
use Rattle.std.specs.Prelude.{replicate, slice_get}
use Rattle.std.proofs.lemmas.List.Sums.{sum_by-cons}
use Rattle.sw_base.specs.declared.path.Step.{Step}
use Rattle.log_walk.proofs.Places.{segments_push}
use Rattle.race_model.specs.FirstBad.{segments_in}
use Rattle.race_model.specs.LogFault.{max_segments}
use Rattle.race_model.specs.Segment.{segment_count}
use Rattle.race_model.specs.Trace.{TaskLog, Trace}
use Rattle.certify.specs.Verdicts.{OpensTheFirst}
use Rattle.certify_laws.specs.Opening.{last_path, one_interval, run_with, two_intervals}
use Rattle.certify_laws.proofs.TooMany.{not_few, same_first}

found : (n : ℕ) → slice_get (run_with n) n ≡ Some two_intervals
found zero = refl
found (suc n) = found n

before : (n : ℕ) → take n (run_with n) ≡ replicate n one_interval
before zero = refl
before (suc n) = ap (λ (tasks : Trace). one_interval ∷ tasks) (before n)

counted : (n : ℕ) → segments_in (replicate n one_interval) ≡ n
counted zero = refl
counted (suc n) =
    let one : segment_count one_interval.records ≡ 1 = refl in
    let sum : segments_in (replicate (suc n) one_interval) ≡ segment_count one_interval.records + segments_in (replicate n one_interval)
    = sum_by-cons (λ (t : TaskLog). segment_count t.records) one_interval (replicate n one_interval) in
    omega (arith, one, sum, counted n)

pub opens : (n : ℕ) → n + 1 ≡ max_segments → OpensTheFirst (run_with n) last_path 3
opens n more = record {
  index = n;
  task = two_intervals;
  listed = found n;
  path_is = refl;
  place = 2;
  within = omega arith;
  number_is = refl;
  full = let one : segment_count (take 2 two_intervals.records) ≡ 1 = refl in omega (arith, one, ap segments_in (before n), counted n, more);
  opens = refl;
}

pub not_another : (n number : ℕ) → n + 1 ≡ max_segments → OpensTheFirst (run_with n) last_path number → number ≡ 3
not_another n number more other = (same_first (run_with n) last_path last_path 3 number (opens n more) other).1

pub none : (n : ℕ) (path : List Step) (number : ℕ) → n + 2 ≤ max_segments → OpensTheFirst (run_with n) path number → ⊥
none n path number less first =
    not_few (run_with n) path number first
    (let two : segment_count two_intervals.records ≡ 2 = refl in omega (arith, less, two, counted n, segments_push (replicate n one_interval) two_intervals))
