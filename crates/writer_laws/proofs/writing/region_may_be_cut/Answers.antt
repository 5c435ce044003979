use Rattle.writer_laws.proofs.Nested.{cut_nested}
use Rattle.writer_laws.proofs.Cut.{cut_keeps_pairs, other_tree}
use Rattle.writer_laws.proofs.writing.region_may_be_cut.Goals as goal

pub returns : goal.returns
returns c = record {
  run = λ region barriers span logs others tree cut. other_tree region barriers span logs others cut tree;
  nested = λ region barriers span logs others tree nested cut. cut_nested region barriers span logs others cut tree nested;
  pairs = λ region barriers span logs others pair tree cut. cut_keeps_pairs region barriers span logs others cut tree pair;
}
