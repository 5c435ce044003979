use Rattle.std.proofs.Common.{◌≡◌, ℕ, ◌<◌, ◌≤◌, length, get_or}
use Rattle.log_format.specs.Fitting.{fit}
use Rattle.execution_model.specs.Elements.{element_width}
use Rattle.lane_runner.proofs.fitting.fit_words.Given as goal

abbrev pub invariant-loop-word : goal.invariant-loop-word
invariant-loop-word l = record {
  count : length l.words ≡ length l.fn.words;
  fitted : (k : ℕ) → k < l.word → get_or l.words k 0 ≡ fit (get_or l.fn.words k 0) (element_width l.fn.arrays k);
  rest : (k : ℕ) → l.word ≤ k → get_or l.words k 0 ≡ get_or l.fn.words k 0;
}
