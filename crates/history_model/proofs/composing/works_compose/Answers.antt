use Rattle.history_model.proofs.Parts.{then_records, then_splits, then_did, then_sound}
use Rattle.history_model.proofs.composing.works_compose.Goals as goal

pub returns : goal.returns
returns c = record { records = then_records; splits = then_splits; steps = then_did; sound = then_sound }
