-- What a function that reads a part of a kernel answers: the part, where it breaks no rule, or the first rule that it breaks.
use Rattle.std.specs.Prelude.{◌≡◌, ℕ, List, [], ◌∷◌, Option, Some, None, Result, Ok, Err, min}
use Rattle.kernel_text.specs.Tokens.{Refusal}
use Rattle.kernel_reader.specs.declared.fault.ReadKernelFault.{ReadKernelFault}
use Rattle.kernel_reader.specs.declared.fault.ReadKernelFault.TheVariants as read

-- the first of the broken rules
abbrev pub first : List Refusal → Option Refusal
first [] = None
first (r ∷ later) = Some r

-- the fault is the first of the broken rules, or it is out of memory
abbrev pub IsFirstOf : List Refusal → ReadKernelFault → Type 0
IsFirstOf faults (read.Refused line why) = first faults ≡ Some (record { line = line; why = why })
IsFirstOf faults read.Memory = Unit {0}

-- no rule is broken, and the value is the one that is due; or the fault is the first of them
abbrev pub Settles : {X : Type 0} → Result X ReadKernelFault → List Refusal → (X → Type 0) → Type 0
Settles (Ok x) faults IsDue = (faults ≡ []) × IsDue x
Settles (Err fault) faults IsDue = IsFirstOf faults fault

-- a region's weight as far as the rule asks for it
abbrev pub capped : ℕ → ℕ
capped n = min n 65537
