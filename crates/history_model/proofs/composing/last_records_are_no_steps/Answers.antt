use Rattle.history_model.proofs.Parts.{end_phases_did, end_phases_splits, end_phases_works, end_phases_sound}
use Rattle.history_model.proofs.composing.last_records_are_no_steps.Goals as goal

pub returns : goal.returns
returns c = record { steps = end_phases_did; splits = end_phases_splits; logs = end_phases_works; sound = end_phases_sound }
