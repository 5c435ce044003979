use Rattle.std.proofs.Common.{ap, ◌∙◌}
use Rattle.kernel_syntax.specs.Program.{program_of}
use Rattle.kernel_file.specs.Due.{of_kernel}
use Rattle.kernel_file.proofs.NoKernel.{refusal_due}
use Rattle.kernel_laws.proofs.Lawfulness.{kernels_are_lawful}
use Rattle.command_answer.proofs.Answering.{Tries-weaker}
use Rattle.certify_command.specs.Certify.{HasVerdict}
use Rattle.certify_command.proofs.certifying.certify_file.Goals as goal

pub certify_kernel-requires-after_bounds : goal.certify_kernel-requires-after_bounds
certify_kernel-requires-after_bounds g c κs within = kernels_are_lawful c.in-Ok.ensures.text.text (program_of c.in-Ok.kernel) c.in-Ok.ensures.text.kernel

pub returns-in-Ok-clause-answers : goal.returns-in-Ok-clause-answers
returns-in-Ok-clause-answers g c = λ content told.
    Tries-weaker _ _ _ _ _ (λ status text due. of_kernel (program_of c.in-Ok.kernel) (c.in-Ok.ensures.kernel content told) due) c.certify_kernel.ensures.answers

pub returns-in-Err-clause-answers : goal.returns-in-Err-clause-answers
returns-in-Err-clause-answers g c = λ content told.
    Tries-weaker _ _ _ _ _ (refusal_due HasVerdict content.held c.args.kernel.now c.in-Err.why (c.in-Err.ensures.refused content told)) c.refuse_kernel.ensures.answers
