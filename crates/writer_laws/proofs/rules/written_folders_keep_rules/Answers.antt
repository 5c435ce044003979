use Rattle.race_model.specs.Trace.{logs_of}
use Rattle.race_laws.proofs.FolderForkJoin.{fork_join}
use Rattle.writer_laws.proofs.Cut.{other_tree}
use Rattle.writer_laws.proofs.Guarding.{locks_keep_run}
use Rattle.writer_laws.proofs.KeptRules.{are_nested, are_tabled, keeps_rules}
use Rattle.writer_laws.proofs.KeptRun.{kept_run}
use Rattle.writer_laws.proofs.Nested.{cut_nested, drops_nested, drops_tabled, first_nested, second_nested, values_nested}
use Rattle.writer_laws.proofs.Split.{first_run, second_run}
use Rattle.writer_laws.proofs.Valued.{values_keep_run}
use Rattle.writer_laws.proofs.rules.written_folders_keep_rules.Goals as goal

pub returns : goal.returns
returns c = record {
  dropped = λ format keep trace other good rows drops.
      keeps_rules other (kept_run keep (logs_of trace) (logs_of other) (fork_join trace good) drops) rows
      (drops_tabled format keep (logs_of trace) (logs_of other) drops (are_tabled trace good)) (drops_nested keep (logs_of trace) (logs_of other) drops (are_nested trace good));
  moved = λ format trace other good rows tabled nested same. keeps_rules other (locks_keep_run (logs_of trace) (logs_of other) (fork_join trace good) same) rows tabled nested;
  changed = λ format trace other good rows tabled same.
      keeps_rules other (values_keep_run (logs_of trace) (logs_of other) (fork_join trace good) same) rows tabled (values_nested (logs_of trace) (logs_of other) same (are_nested trace good));
  cut = λ format k barriers span trace other good rows tabled is.
      keeps_rules other (other_tree k barriers span (logs_of trace) (logs_of other) is (fork_join trace good)) rows tabled
      (cut_nested k barriers span (logs_of trace) (logs_of other) is (fork_join trace good) (are_nested trace good));
  split = λ format trace one two good rows more tabled more_tabled is unlocked. (
    keeps_rules one (first_run (logs_of trace) (logs_of one) (logs_of two) (fork_join trace good) is) rows tabled
        (first_nested (logs_of trace) (logs_of one) (logs_of two) (fork_join trace good) is (are_nested trace good) unlocked),
    keeps_rules two (second_run (logs_of trace) (logs_of one) (logs_of two) (fork_join trace good) is) more more_tabled
        (second_nested (logs_of trace) (logs_of one) (logs_of two) (fork_join trace good) is (are_nested trace good) unlocked),
  );
}
