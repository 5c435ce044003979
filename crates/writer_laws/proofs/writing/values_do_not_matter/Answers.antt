use Rattle.writer_laws.proofs.Nested.{values_nested}
use Rattle.writer_laws.proofs.Valued.{values_keep_pairs, values_keep_races, values_keep_run}
use Rattle.writer_laws.proofs.writing.values_do_not_matter.Goals as goal

pub returns : goal.returns
returns c = record {
  run = λ logs others tree same. values_keep_run logs others tree same;
  nested = λ logs others nested same. values_nested logs others same nested;
  pairs = λ logs others pair tree same. values_keep_pairs logs others tree same pair;
  races = λ logs others x y r s q t tree same race left right. values_keep_races logs others tree same x y r s q t race left right;
}
