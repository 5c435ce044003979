use Rattle.std.proofs.Common.{◌≡◌, ◌*◌, ◌^◌, drop, pos, neg_ℤ, ◌+ℤ◌, ◌≤ℤ◌}
use Rattle.command_answer.specs.RunTexts.{sum_of}
use Rattle.command_answer.proofs.run_texts.sum_of.Given as goal

abbrev pub invariant-loop-value : goal.invariant-loop-value
invariant-loop-value l = record {
  summed : l.sum +ℤ sum_of (drop l.value-index l.values) ≡ sum_of l.values;
  low : neg_ℤ (pos (l.value-index * 2 ^ 63)) ≤ℤ l.sum;
  high : l.sum ≤ℤ pos (l.value-index * 2 ^ 63);
}
