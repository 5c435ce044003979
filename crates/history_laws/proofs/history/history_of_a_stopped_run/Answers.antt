use Rattle.history_laws.proofs.TreeHistory.{tree_history}
use Rattle.history_laws.proofs.history.history_of_a_stopped_run.Goals as goal

pub returns : goal.returns
returns c = λ layout root memory words logs sound addresses fitted has is. tree_history layout root sound memory words addresses fitted has logs is
