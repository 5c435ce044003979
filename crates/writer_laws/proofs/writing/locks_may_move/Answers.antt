use Rattle.writer_laws.proofs.Guarding.{locks_keep_pairs, locks_keep_run}
use Rattle.writer_laws.proofs.writing.locks_may_move.Goals as goal

pub returns : goal.returns
returns c = record {
  run = λ logs others tree same. locks_keep_run logs others tree same;
  pairs = λ logs others pair tree same. locks_keep_pairs logs others tree same pair;
}
