use Rattle.writer_laws.proofs.Nested.{first_nested, second_nested}
use Rattle.writer_laws.proofs.Split.{first_run, second_run, split_pairs}
use Rattle.writer_laws.proofs.writing.run_may_be_split.Goals as goal

pub returns : goal.returns
returns c = record {
  runs = λ logs one two tree split. (first_run logs one two tree split, second_run logs one two tree split);
  nested = λ logs one two tree nested split unlocked. (first_nested logs one two tree split nested unlocked, second_nested logs one two tree split nested unlocked);
  pairs = λ logs one two pair tree split. split_pairs logs one two tree split pair;
}
