use Rattle.team_live.proofs.calling.call_lane.Goals as goal

pub returns : goal.returns
returns g c = record { did = c.requires.tasks.done _ _ _ _ c.requires.may c.task.ensures }
