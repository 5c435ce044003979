use Rattle.sw_base.specs.Environment.{Rose}
use Rattle.run_command.proofs.Statuses.{due_tells}
use Rattle.run_command.proofs.laws.statuses_tell_what_files_hold.Goals as goal

pub returns : goal.returns
returns c before after kernel dir size old new status text due = due_tells (Rose before after) kernel dir size old new status text due
