use Rattle.std.proofs.Common.{◌-◌, ◌<◌, ◌≤◌, ℕ, Bor, length, slice_index_or}
use Rattle.log_segment.specs.declared.segment.Segment.{Segment}
use Rattle.pair_compare.specs.Fields.{label_value}
use Rattle.pair_compare.proofs.field.count_up_to.Given as goal

abbrev pub invariant-search : goal.invariant-search
invariant-search l = record {
  order : l.low ≤ l.high;
  within : l.high ≤ length l.members;
  first : (i : ℕ) (d : Bor Segment) → i < l.low → label_value l.level l.field (slice_index_or l.members i d).now.label ≤ l.middle;
  rest : (i : ℕ) (d : Bor Segment) → l.high ≤ i → i < length l.members → l.middle < label_value l.level l.field (slice_index_or l.members i d).now.label;
}

abbrev pub decreases-search : goal.decreases-search
decreases-search l = l.high - l.low
