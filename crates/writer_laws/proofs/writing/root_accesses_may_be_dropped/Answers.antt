use Rattle.writer_laws.proofs.Dropped.{drops_keep_pairs, root_drops}
use Rattle.writer_laws.proofs.KeptRun.{kept_run}
use Rattle.writer_laws.proofs.writing.root_accesses_may_be_dropped.Goals as goal

pub returns : goal.returns
returns c = record {
  run = λ keep logs others tree d. kept_run keep logs others tree (root_drops keep logs others tree d);
  pairs = λ keep logs others pair tree d.
      drops_keep_pairs keep logs others (root_drops keep logs others tree d) tree (kept_run keep logs others tree (root_drops keep logs others tree d)) pair;
}
