use Rattle.std.proofs.Common.{◌≡◌, refl, sym, ap, Some}
use Rattle.kernel_model.specs.Stopping.{stop_name}
use Rattle.command_answer.proofs.Answering.{Tries-from_made, Tries-from_prints, Tries-weaker}
use Rattle.run_command.specs.declared.outcome.Outcome.TheVariants.{IndexThere, NoKernel, Ran, Refused, Stopped}
use Rattle.run_command.specs.Outcomes.{IsDue}
use Rattle.command_answer.specs.RunTexts.{run_text, stop_line}
use Rattle.run_command.proofs.answering.print_outcome.Goals as goal

pub returns-in-NoKernel-clause-prints : goal.returns-in-NoKernel-clause-prints
returns-in-NoKernel-clause-prints g c =
    rw c.in-NoKernel.is (Tries-weaker _ (IsDue NoKernel) _ _ _ (λ status text due. record { status_is = due.0; text_is = ap Some (sym due.1) }) c.refuse_kernel.ensures.answers)

pub returns-in-Refused-clause-prints : goal.returns-in-Refused-clause-prints
returns-in-Refused-clause-prints g c =
    rw c.in-Refused.is
    (Tries-weaker _ (IsDue (Refused c.in-Refused.line c.in-Refused.why)) _ _ _ (λ status text due. record { status_is = due.0; text_is = ap Some (sym due.1) }) c.refuse_kernel-in-Refused.ensures.answers)

pub returns-in-IndexThere-clause-prints : goal.returns-in-IndexThere-clause-prints
returns-in-IndexThere-clause-prints g c = rw c.in-IndexThere.is (Tries-from_prints (IsDue IndexThere) _ _ _ _ _ (record { status_is = refl; text_is = refl }) c.print.ensures.prints)

pub returns-in-Stopped-clause-prints : goal.returns-in-Stopped-clause-prints
returns-in-Stopped-clause-prints g c =
    rw c.in-Stopped.is
    (Tries-from_made (IsDue (Stopped c.in-Stopped.path c.in-Stopped.line c.in-Stopped.why)) c.stop_line.result _ (stop_line c.in-Stopped.path c.in-Stopped.line (stop_name c.in-Stopped.why)) _ _ _
    (record { status_is = refl; text_is = refl }) (rw c.name.ensures at c.stop_line.ensures) c.print_made.ensures.prints c.print_made.ensures.silent)

pub returns-in-Ran-clause-prints : goal.returns-in-Ran-clause-prints
returns-in-Ran-clause-prints g c =
    rw c.in-Ran.is
    (Tries-from_made (IsDue (Ran c.in-Ran.kernel c.in-Ran.tasks c.in-Ran.records c.in-Ran.words)) c.run_text-text.result _ (run_text c.in-Ran.tasks c.in-Ran.records c.in-Ran.kernel.arrays c.in-Ran.words.items) _ _ _
    (record { status_is = refl; text_is = refl }) (rw (← c.deref.ensures.value, ← c.as_slice.ensures) c.run_text-text.ensures) c.print_made-in-Ran.ensures.prints c.print_made-in-Ran.ensures.silent)
