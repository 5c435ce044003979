use Rattle.std.proofs.Common.{refl}
use Rattle.team_live.proofs.parcel.LaneParcel.done.Goals as goal

pub returns : goal.returns
returns g c = record { same_number = refl; same_index = refl; done = c.requires.tasks.done _ _ _ _ c.requires.may c.task.ensures }
