use Rattle.kernel_laws.proofs.SomeAnswer.{some-answer}
use Rattle.kernel_laws.proofs.OneAnswer.{one-kernel, one-refusal, kernel-or-refusal}
use Rattle.kernel_laws.proofs.laws.texts_have_one_answer.Goals as goal

pub returns-clause-some : goal.returns-clause-some
returns-clause-some c = some-answer

pub returns-clause-kernel : goal.returns-clause-kernel
returns-clause-kernel c = one-kernel

pub returns-clause-refusal : goal.returns-clause-refusal
returns-clause-refusal c = one-refusal

pub returns-clause-apart : goal.returns-clause-apart
returns-clause-apart c = kernel-or-refusal
