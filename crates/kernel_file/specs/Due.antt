-- What is due of a command that reads a kernel.
use Rattle.std.specs.Prelude.{◌≡◌, ℕ, List, None}
use Rattle.sw_base.specs.Environment.{Files}
use Rattle.kernel_syntax.specs.Program.{Program}
use Rattle.kernel_text.specs.declared.fault.KernelWhy.{KernelWhy}
use Rattle.kernel_reader.specs.declared.fault.ReadKernelFault.TheVariants as read
use Rattle.command_answer.specs.declared.status.TheConstants.{KERNEL_REFUSED}
use Rattle.kernel_file.specs.Holding.{HoldsFault, HoldsKernel}
use Rattle.kernel_file.specs.Refusing.{no_kernel_text, refused_text}

-- there is no file, or its text is refused at a line; or the command's answer for its kernel
pub data KernelDue (answer : Program → ℕ → List ℕ → Type 0) (files : Files) (name : List ℕ) (status : ℕ) (text : List ℕ) : Type 0 where
  no_kernel : files name ≡ None → status ≡ KERNEL_REFUSED → text ≡ no_kernel_text → KernelDue answer files name status text
  refused_kernel : (line : ℕ) (why : KernelWhy) → HoldsFault files name (read.Refused line why) → status ≡ KERNEL_REFUSED → text ≡ refused_text line why
      → KernelDue answer files name status text
  of_kernel : (program : Program) → HoldsKernel files name program → answer program status text → KernelDue answer files name status text
