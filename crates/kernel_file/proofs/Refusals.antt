-- A file whose text is no kernel.
use Rattle.std.proofs.Common.{◌≡◌, List, ℕ, Some}
use Rattle.sw_base.specs.Environment.{Files}
use Rattle.kernel_reader.specs.declared.fault.ReadKernelFault.{ReadKernelFault}
use Rattle.kernel_reader.specs.declared.fault.ReadKernelFault.TheVariants as text
use Rattle.kernel_reader.specs.KernelOf.{IsFaultOf}
use Rattle.kernel_file.specs.Holding.{IsRefusal, refusal_of_text}

-- the file has the fault that its text has
pub text_refused : (files : Files) (name bytes : List ℕ) (fault : ReadKernelFault) → files name ≡ Some bytes → IsFaultOf bytes fault
    → IsRefusal files name (refusal_of_text fault)
text_refused files name bytes (text.Refused line why) held is = record { text = bytes; held = held; fault_is = is }
text_refused files name bytes text.Memory held is = tt
