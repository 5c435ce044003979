-- What names mean, as the code keeps it.
use Rattle.std.specs.Prelude.{ℕ, not, ◌||◌, is_some, List, Some, None, reverse}
use Rattle.kernel_syntax.specs.declared.syntax.Array.{Array}
use Rattle.kernel_text.specs.declared.fault.KernelWhy.TheVariants as why
use Rattle.kernel_text.specs.Tokens.{Refusal}
use Rattle.kernel_reader.specs.Scope.{Names, variable_of, is_array, is_among}
use Rattle.kernel_reader.specs.Rules.{fault_at, fault_if}
use Rattle.kernel_reader.specs.declared.binding.Variable.{Variable}
use Rattle.kernel_reader.specs.declared.place.State.{State}

-- the innermost variable comes last
abbrev pub names_of : List Array → List Variable → Names
names_of arrays variables = record { arrays = arrays; scope = reverse variables }

-- the names that are known in this state
abbrev pub names_in : List Array → State → Names
names_in arrays state = names_of arrays state.variables.items

-- a name that is assigned to is a `let` variable's
abbrev pub assigned_to : Names → ℕ → List ℕ → List Refusal
assigned_to n line name = elim (variable_of name n.scope) [ None ↦ fault_at line why.Unknown | Some v ↦ fault_if (not v.assignable) line why.Unknown ]

-- a name that an array, a mutex or a variable in scope has is taken
abbrev pub taken_faults : List Array → List (List ℕ) → List Variable → ℕ → List ℕ → List Refusal
taken_faults arrays mutexes variables line name = fault_if (is_array name arrays || (is_among name mutexes || is_some (variable_of name (reverse variables)))) line why.Twice
