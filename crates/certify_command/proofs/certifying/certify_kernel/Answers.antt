use Rattle.std.proofs.Common.{subst}
use Rattle.kernel_syntax.specs.Program.{program_of}
use Rattle.command_answer.proofs.Answering.{Tries-weaker}
use Rattle.certify_command.specs.Certify.{HasVerdict, IsVerdictText}
use Rattle.certify_command.proofs.certifying.certify_kernel.Goals as goal

pub returns-in-Ok-clause-answers : goal.returns-in-Ok-clause-answers
returns-in-Ok-clause-answers g c =
    Tries-weaker (IsVerdictText (program_of c.args.kernel.now).arrays c.in-Ok.verdict) (HasVerdict (program_of c.args.kernel.now)) _ _ _
    (λ status text due. record { verdict = c.in-Ok.verdict; tells = c.in-Ok.ensures.tells; due = due }) (rw (← c.as_slice.ensures) c.print_verdict.ensures.prints)
