-- What is printed where a file holds no kernel, each a line.
use Rattle.std.specs.Prelude.{◌≡◌, ℕ, List, ◌++◌, codes, decimal}
use Rattle.kernel_text.specs.declared.fault.KernelWhy.{KernelWhy}
use Rattle.kernel_text.specs.declared.fault.KernelWhy.TheVariants as why
use Rattle.command_answer.specs.declared.status.TheConstants.{KERNEL_REFUSED}
use Rattle.kernel_file.specs.declared.reading.KernelRefusal.{KernelRefusal}
use Rattle.kernel_file.specs.declared.reading.KernelRefusal.TheVariants.{NoKernel, Refused, Trouble}

abbrev pub no_kernel_text : List ℕ
no_kernel_text = codes "no kernel\n"

abbrev pub why_name : KernelWhy → List ℕ
why_name why.Token = codes "Token"
why_name why.Syntax = codes "Syntax"
why_name why.Unknown = codes "Unknown"
why_name why.Twice = codes "Twice"
why_name why.Width = codes "Width"
why_name why.Count = codes "Count"
why_name why.NotUniform = codes "NotUniform"
why_name why.BarrierHere = codes "BarrierHere"
why_name why.WorkHere = codes "WorkHere"
why_name why.CriticalOrder = codes "CriticalOrder"
why_name why.ParallelHere = codes "ParallelHere"
why_name why.Deep = codes "Deep"
why_name why.Large = codes "Large"
why_name why.NotUtf8 = codes "NotUtf8"

-- a text is no kernel for this reason at this line
abbrev pub refused_line : ℕ → List ℕ → List ℕ
refused_line line why = codes "kernel line " ++ (decimal line ++ (codes ": " ++ (why ++ codes "\n")))

abbrev pub refused_text : ℕ → KernelWhy → List ℕ
refused_text line why = refused_line line (why_name why)

-- the text that is due of a refusal
abbrev pub RefusalDue : KernelRefusal → ℕ → List ℕ → Type 0
RefusalDue NoKernel status text = (status ≡ KERNEL_REFUSED) × (text ≡ no_kernel_text)
RefusalDue (Refused line why) status text = (status ≡ KERNEL_REFUSED) × (text ≡ refused_text line why)
RefusalDue (Trouble trouble) status text = ⊥
