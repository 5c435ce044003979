use Rattle.step_history.proofs.Labelled.{labelling}
use Rattle.step_history.proofs.labels.histories_take_labels.Goals as goal

pub returns : goal.returns
returns c = labelling
