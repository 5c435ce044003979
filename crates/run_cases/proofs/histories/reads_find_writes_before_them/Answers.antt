use Rattle.run_cases.proofs.HistoryCases.{read_too_early}
use Rattle.run_cases.proofs.histories.reads_find_writes_before_them.Goals as goal

pub returns : goal.returns
returns c = read_too_early
