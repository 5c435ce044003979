use Rattle.writer_laws.proofs.Written.{written_runs, written_pairs}
use Rattle.writer_laws.proofs.writing.recorders_keep_pairs.Goals as goal

pub returns : goal.returns
returns c = record {
  runs = λ logs parts tree written. written_runs logs parts tree written;
  pairs = λ logs parts pair tree written. written_pairs pair logs parts tree written;
}
