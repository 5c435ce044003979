use Rattle.certainty_model.proofs.CertainRuns.{end_alike}
use Rattle.certainty_model.proofs.certainty.certain_runs_end_alike.Goals as goal

pub returns : goal.returns
returns c = λ program run other address words others lawful certain is_run one two. end_alike program lawful run certain other is_run address words others one two
