-- What is due where there is no kernel.
use Rattle.std.proofs.Common.{ℕ, List}
use Rattle.sw_base.specs.Environment.{Files}
use Rattle.kernel_syntax.specs.Program.{Program}
use Rattle.kernel_file.specs.Due.{KernelDue, no_kernel, refused_kernel}
use Rattle.kernel_file.specs.Holding.{IsRefusal}
use Rattle.kernel_file.specs.Refusing.{RefusalDue}
use Rattle.kernel_file.specs.declared.reading.KernelRefusal.{KernelRefusal}
use Rattle.kernel_file.specs.declared.reading.KernelRefusal.TheVariants.{NoKernel, Refused, Trouble}

pub refusal_due : (answer : Program → ℕ → List ℕ → Type 0) (files : Files) (kernel : List ℕ) (why : KernelRefusal) → IsRefusal files kernel why
    → (status : ℕ) (text : List ℕ) → RefusalDue why status text → KernelDue answer files kernel status text
refusal_due answer files kernel NoKernel is status text due = no_kernel is due.0 due.1
refusal_due answer files kernel (Refused line why) is status text due = refused_kernel line why is due.0 due.1
refusal_due answer files kernel (Trouble trouble) is status text due = absurd due
