use Rattle.std.proofs.Common.{◌≡◌}
use Rattle.sw_base.specs.Environment.{Rose}
use Rattle.command_answer.proofs.Answering.{Tries-weaker}
use Rattle.run_command.specs.Outcomes.{IsDue}
use Rattle.run_command.specs.Run.{RunDue}
use Rattle.run_command.proofs.Dues.{due_of}
use Rattle.run_command.proofs.Leaving.{came_leaves}
use Rattle.run_command.proofs.Statuses.{done_so}
use Rattle.top_call.proofs.running.run_file.Goals as goal

pub returns-clause-answers : goal.returns-clause-answers
returns-clause-answers g c = λ old is new now.
    Tries-weaker (IsDue c.run-outcome.result) (RunDue (Rose (g.F.Folder.state c.args.folder.now).write_faults (g.F.Folder.state c.run-outcome.new.folder).write_faults) c.args.kernel.now c.args.dir.now c.args.size old new) _ _ _
    (λ status text due. due_of _ _ _ _ old new status text c.run-outcome.result (c.run-outcome.ensures.came old is new now) due) c.print_outcome.ensures.prints

pub returns-clause-leaves : goal.returns-clause-leaves
returns-clause-leaves g c = λ old is new now failure. came_leaves _ _ _ _ old new c.run-outcome.result (c.run-outcome.ensures.came old is new now)

pub returns-clause-no_fault : goal.returns-clause-no_fault
returns-clause-no_fault g c = λ done. c.run-outcome.ensures.no_fault (done_so c.run-outcome.result _ _ _ c.print_outcome.ensures.prints done)

pub returns-clause-no_read_fault : goal.returns-clause-no_read_fault
returns-clause-no_read_fault g c = λ other. c.run-outcome.ensures.no_read_fault (λ is. other (c.print_outcome.ensures.read_fault.1 is))
