use Rattle.std.proofs.lemmas.Result.{err_from_is_err_and}
use Rattle.kernel_syntax.specs.Program.{program_of}
use Rattle.kernel_laws.proofs.Lawfulness.{kernels_are_lawful}
use Rattle.run_command.proofs.RunEnds.{kernel_refused}
use Rattle.run_command.proofs.beginning.begin.Goals as goal

pub returns-in_err-kernel-clause-came : goal.returns-in_err-kernel-clause-came
returns-in_err-kernel-clause-came g c =
    let p = err_from_is_err_and c.from_residual.result c.from_residual.ensures.1 in
    rw (p.1, p.2) (λ content told size before after.
    kernel_refused _ c.args.kernel.now c.args.dir.now size content c.in_err-kernel.field-0.0 (c.in_err-kernel.ensures.refused content told))

pub returns-in-None-clause-lawful : goal.returns-in-None-clause-lawful
returns-in-None-clause-lawful g c = kernels_are_lawful c.in_ok-kernel.ensures.text.text (program_of c.in_ok-kernel.kernel) c.in_ok-kernel.ensures.text.kernel
