use Rattle.run_cases.proofs.HistoryCases.{words_of_another}
use Rattle.run_cases.proofs.histories.words_are_those_of_the_history.Goals as goal

pub returns : goal.returns
returns c = words_of_another
