use Rattle.certainty_model.proofs.CertainRuns.{only_run}
use Rattle.certainty_model.proofs.certainty.certain_run_is_the_only_one.Goals as goal

pub returns : goal.returns
returns c = λ program run other lawful certain is_run. only_run program lawful run certain other is_run
