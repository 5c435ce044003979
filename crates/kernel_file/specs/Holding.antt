-- What a file holds: a kernel, a text that is none, or there is no such file.
use Rattle.std.specs.Prelude.{◌≡◌, ℕ, List, None, Some}
use Rattle.sw_base.specs.declared.trouble.Trouble.TheVariants as trouble
use Rattle.sw_base.specs.Environment.{Files}
use Rattle.kernel_syntax.specs.Program.{Program}
use Rattle.kernel_reader.specs.declared.fault.ReadKernelFault.{ReadKernelFault}
use Rattle.kernel_reader.specs.declared.fault.ReadKernelFault.TheVariants as read
use Rattle.kernel_reader.specs.KernelOf.{IsKernelOf, IsFaultOf}
use Rattle.kernel_file.specs.declared.reading.KernelRefusal.{KernelRefusal}
use Rattle.kernel_file.specs.declared.reading.KernelRefusal.TheVariants.{NoKernel, Refused, Trouble}

-- the file of this name holds the text of a kernel
pub record HoldsKernel (files : Files) (name : List ℕ) (program : Program) : Type 0 where
  pub text : List ℕ
  pub held : files name ≡ Some text
  pub kernel : IsKernelOf text program

-- the program is the kernel of some text
pub record IsOfText (program : Program) : Type 0 where
  pub text : List ℕ
  pub kernel : IsKernelOf text program

-- the file of this name holds a text that has this fault
pub record HoldsFault (files : Files) (name : List ℕ) (fault : ReadKernelFault) : Type 0 where
  pub text : List ℕ
  pub held : files name ≡ Some text
  pub fault_is : IsFaultOf text fault

-- what a text that is no kernel is answered with
abbrev pub refusal_of_text : ReadKernelFault → KernelRefusal
refusal_of_text (read.Refused line why) = Refused line why
refusal_of_text read.Memory = Trouble trouble.Memory

-- what the files tell of a refusal
abbrev pub IsRefusal : Files → List ℕ → KernelRefusal → Type 0
IsRefusal files name NoKernel = files name ≡ None
IsRefusal files name (Refused line why) = HoldsFault files name (read.Refused line why)
IsRefusal files name (Trouble trouble) = Unit {0}
