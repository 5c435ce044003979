use Rattle.std.proofs.Common.{ap, ◌∙◌}
use Rattle.kernel_syntax.specs.Program.{program_of}
use Rattle.command_answer.proofs.Answering.{Tries-weaker}
use Rattle.kernel_file.specs.Due.{of_kernel}
use Rattle.kernel_file.proofs.NoKernel.{refusal_due}
use Rattle.folder_commands.specs.Check.{FolderDue}
use Rattle.folder_commands.specs.Replay.{HasReplay}
use Rattle.folder_commands.proofs.replaying.replay_file.Goals as goal

pub returns-in-Ok-clause-answers : goal.returns-in-Ok-clause-answers
returns-in-Ok-clause-answers g c = λ content told.
    Tries-weaker _ _ _ _ _ (λ status text due. of_kernel (program_of c.in-Ok.kernel) (c.in-Ok.ensures.kernel content told) due) (c.compare.ensures.answers content (ap (λ s. s.content) c.in-Ok.ensures.reads.same ∙ told))

pub returns-in-Err-clause-answers : goal.returns-in-Err-clause-answers
returns-in-Err-clause-answers g c = λ content told.
    Tries-weaker _ _ _ _ _ (refusal_due (λ program. FolderDue (HasReplay program) content.held c.args.dir.now) content.held c.args.kernel.now c.in-Err.why (c.in-Err.ensures.refused content told)) c.refuse_kernel.ensures.answers
