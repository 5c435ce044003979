use Rattle.writer_laws.proofs.Nested.{drops_nested, drops_tabled}
use Rattle.writer_laws.proofs.Dropped.{drops_keep_pairs}
use Rattle.writer_laws.proofs.KeptRun.{kept_run}
use Rattle.writer_laws.proofs.writing.accesses_may_be_dropped.Goals as goal

pub returns : goal.returns
returns c = record {
  run = λ keep logs others tree drops. kept_run keep logs others tree drops;
  nested = λ keep logs others nested drops. drops_nested keep logs others drops nested;
  tabled = λ format keep logs others tabled drops. drops_tabled format keep logs others drops tabled;
  pairs = λ keep logs others pair tree drops. drops_keep_pairs keep logs others drops tree (kept_run keep logs others tree drops) pair;
}
