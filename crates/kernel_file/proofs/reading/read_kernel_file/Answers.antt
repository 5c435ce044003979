use Rattle.std.proofs.Common.{◌≡◌, Some}
use Rattle.std.proofs.lemmas.Result.{err_from_is_err_and}
use Rattle.kernel_reader.specs.declared.fault.ReadKernelFault.{ReadKernelFault}
use Rattle.kernel_file.proofs.Refusals.{text_refused}
use Rattle.kernel_file.proofs.reading.read_kernel_file.Goals as goal

pub returns-in_err-read_kernel-clause-refused : goal.returns-in_err-read_kernel-clause-refused
returns-in_err-read_kernel-clause-refused g c =
    let p = err_from_is_err_and c.from_residual-in_err-read_kernel.result c.from_residual-in_err-read_kernel.ensures.1 in
    let is = c.in_err-read_kernel.ensures.fault in
    let read = rw c.in-Some.is at c.in_ok-text.ensures.read in
    let fault : ReadKernelFault = c.in_err-read_kernel.field-0.0 in
    rw (p.1, p.2) (λ content told.
    let held : content.held c.args.name.now ≡ Some c.deref.result.now = rw c.deref.ensures.value (read content told) in
    text_refused content.held c.args.name.now c.deref.result.now fault held is)
