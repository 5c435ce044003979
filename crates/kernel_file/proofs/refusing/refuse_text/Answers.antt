use Rattle.std.proofs.Common.{refl, ◌∙◌}
use Rattle.kernel_file.specs.Refusing.{RefusalDue}
use Rattle.kernel_file.specs.declared.reading.KernelRefusal.TheVariants.{Refused}
use Rattle.command_answer.proofs.Answering.{Tries-from_prints}
use Rattle.kernel_file.proofs.refusing.refuse_text.Goals as goal

pub returns-in-Ok-clause-answers : goal.returns-in-Ok-clause-answers
returns-in-Ok-clause-answers g c =
    let named = rw c.why_name.ensures at c.in-Ok.ensures in
    Tries-from_prints (RefusalDue (Refused c.args.line c.args.why)) _ c.as_bytes.result.now _ _ _ (refl, c.as_bytes.ensures.value ∙ named) c.print.ensures.prints
