use Rattle.std.proofs.Common.{inl, refl}
use Rattle.history_model.specs.Work.{task_logs}
use Rattle.history_laws.proofs.TreeHistory.{tree_history}
use Rattle.history_laws.proofs.history.history_of_a_run.Goals as goal

pub returns : goal.returns
returns c = λ layout root memory words sound addresses fitted has. tree_history layout root sound memory words addresses fitted has (task_logs root) (λ path. inl refl)
