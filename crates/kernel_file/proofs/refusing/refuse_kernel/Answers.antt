use Rattle.std.proofs.Common.{refl}
use Rattle.kernel_file.specs.Refusing.{RefusalDue}
use Rattle.kernel_file.specs.declared.reading.KernelRefusal.TheVariants.{NoKernel}
use Rattle.command_answer.proofs.Answering.{Tries-from_prints}
use Rattle.kernel_file.proofs.refusing.refuse_kernel.Goals as goal

pub returns-in-NoKernel-clause-answers : goal.returns-in-NoKernel-clause-answers
returns-in-NoKernel-clause-answers g c = rw c.in-NoKernel.is (Tries-from_prints (RefusalDue NoKernel) _ _ _ _ _ (refl, refl) c.print.ensures.prints)

pub returns-in-Refused-clause-answers : goal.returns-in-Refused-clause-answers
returns-in-Refused-clause-answers g c = rw c.in-Refused.is c.refuse_text.ensures.answers
