use Rattle.history_model.proofs.Parts.{phases_splits_sum, phases_did, phases_works, phases_sound, phases_pass, phases_count}
use Rattle.history_model.proofs.composing.phases_compose.Goals as goal

pub returns : goal.returns
returns c = record { splits = phases_splits_sum; steps = phases_did; works = phases_works; sound = phases_sound; passes = phases_pass; count = phases_count }
