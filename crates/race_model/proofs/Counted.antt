-- How many barriers and regions logs have that are put together.
use Rattle.std.proofs.Common.{◌≡◌, ◌+◌, cond, List, ◌++◌}
use Rattle.std.proofs.lemmas.List.Sums.{sum_by-append}
use Rattle.log_format.specs.declared.record.Record.{Record}
use Rattle.race_model.specs.Trace.{is_region_kind, is_barrier_kind, region_count, barrier_count}

pub barriers_both : (xs ys : List Record) → barrier_count (xs ++ ys) ≡ barrier_count xs + barrier_count ys
barriers_both xs ys = sum_by-append (λ (r : Record). cond (is_barrier_kind r.kind) 1 0) xs ys

pub regions_both : (xs ys : List Record) → region_count (xs ++ ys) ≡ region_count xs + region_count ys
regions_both xs ys = sum_by-append (λ (r : Record). cond (is_region_kind r.kind) 1 0) xs ys
