-- What is known at a place of a kernel's text: the names in scope and the sections around it.
use Rattle.std.specs.Prelude.{ℕ, ◌+◌, Bool, ◌&&◌, List, ◌∷◌, Option, is_some, bytes_eq, position, find, ℤ, pos, negsuc, int_le}
use Rattle.kernel_syntax.specs.declared.syntax.Array.{Array}
use Rattle.kernel_reader.specs.declared.binding.Variable.{Variable}
use Rattle.kernel_text.specs.Grammar.{Stmts, NoMore, Let, Assign, Store, Update, If, IfElse, Loop, Parallel, For, Barrier, Critical, CriticalOf}

-- the place of a name among names, from 0
abbrev pub number_of : List ℕ → List (List ℕ) → Option ℕ
number_of name names = position (λ x. bytes_eq x name) names

abbrev pub is_among : List ℕ → List (List ℕ) → Bool
is_among name names = is_some (number_of name names)

-- the arrays and the local variables that names may mean; the innermost variable comes first
pub record Names : Type 0 where
  pub arrays : List Array
  pub scope : List Variable

-- the number of the array of a name
abbrev pub array_number : List ℕ → List Array → Option ℕ
array_number name arrays = position (λ a. bytes_eq a.name name) arrays

abbrev pub is_array : List ℕ → List Array → Bool
is_array name arrays = is_some (array_number name arrays)

-- the variable of a name
abbrev pub variable_of : List ℕ → List Variable → Option Variable
variable_of name scope = find (λ v. bytes_eq v.name name) scope

pub record Place : Type 0 where
  pub names : Names
  pub mutexes : List (List ℕ)
  -- the next slot
  pub slot : ℕ
  -- how many regions are around, and the product of their spans
  pub regions : ℕ
  pub spans : ℕ
  -- the mutex of the innermost critical section around, and how many are around
  pub critical : Option ℕ
  pub criticals : ℕ
  -- whether a worksharing loop or a critical section of the same region is around
  pub divided : Bool
  -- whether an `if`, or a loop that isn't fixed, of the same region is around
  pub uneven : Bool

-- the names with one more variable
abbrev pub declares : Names → List ℕ → ℕ → Bool → Names
declares n name slot assignable = record n { scope = record { name = name; slot = slot; assignable = assignable } ∷ n.scope }

-- with one more variable in scope
abbrev pub with_local : Place → List ℕ → Bool → Place
with_local p name assignable = record p { names = declares p.names name p.slot assignable; slot = p.slot + 1 }

-- how many variables the statements declare, each with a slot of its own
abbrev pub slots : Stmts → ℕ
slots NoMore = 0
slots (Let line name_line name sign_line value rest) = 1 + slots rest
slots (Assign line name sign_line value rest) = slots rest
slots (Store line name opened index closed sign_line value rest) = slots rest
slots (Update line name_line name opened index closed minus sign_line value rest) = slots rest
slots (If line test opened if_true closed rest) = slots if_true + slots rest
slots (IfElse line test opened if_true closed else_line else_opened if_false else_closed rest) = slots if_true + (slots if_false + slots rest)
slots (Loop line name_line name in_line from dots to opened body closed rest) = 1 + (slots body + slots rest)
slots (Parallel line number_line span opened body closed rest) = slots body + slots rest
slots (For line name_line name in_line from dots to schedule nowait opened body closed rest) = 1 + (slots body + slots rest)
slots (Barrier line rest) = slots rest
slots (Critical line opened body closed rest) = slots body + slots rest
slots (CriticalOf line name_line name opened body closed rest) = slots body + slots rest

-- behind statements whose variables are no longer in scope
abbrev pub past : Place → ℕ → Place
past p declared = record p { slot = p.slot + declared }

-- a number of the text as a count; no token is negative
abbrev pub count_literal : ℤ → ℕ
count_literal (pos n) = n
count_literal (negsuc n) = 0

-- a number between two
abbrev pub is_between : ℕ → ℕ → ℤ → Bool
is_between least most n = int_le (pos least) n && int_le n (pos most)
