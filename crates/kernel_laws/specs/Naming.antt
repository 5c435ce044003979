-- The names of a kernel: each that is used is known where it stands, and each that is declared is new there.
use Rattle.std.specs.Prelude.{◌≡◌, ℕ, ◌+◌, true, false, ◌||◌, List, [], ◌∷◌, ◌++◌, IsTrue, IsSome, unwrap_or}
use Rattle.kernel_syntax.specs.declared.syntax.Array.{Array}
use Rattle.kernel_text.specs.Grammar.{Tree, NumberAt, NameAt, TidAt, SpanAt, Element, Group, Minus, Binary, Stmts, NoMore, Let, Assign, Store, Update, If, IfElse, Loop, Parallel, For, Barrier, Critical, CriticalOf, Declaration, ArrayOf, MutexOf, KernelTree}
use Rattle.kernel_reader.specs.Scope.{Names, Place, is_among, is_array, variable_of, with_local, slots, past}
use Rattle.kernel_reader.specs.Rules.{is_taken, width_of, array_of, at_main}

-- each name in an expression is that of a variable in scope, or of an array before `[`
abbrev pub IsNamed : Names → Tree → Type 0
IsNamed n (NumberAt line value) = Unit {0}
IsNamed n (NameAt line name) = IsSome (variable_of name n.scope)
IsNamed n (TidAt line) = Unit {0}
IsNamed n (SpanAt line) = Unit {0}
IsNamed n (Element line name opened index closed) = IsTrue (is_array name n.arrays) × IsNamed n index
IsNamed n (Group opened inside closed) = IsNamed n inside
IsNamed n (Minus line operand) = IsNamed n operand
IsNamed n (Binary left op line right) = IsNamed n left × IsNamed n right

-- at this place no array, mutex or variable has the name
abbrev pub IsNewName : Place → List ℕ → Type 0
IsNewName p name = is_taken p name ≡ false

-- the names in statements
abbrev pub AreNamed : Place → Stmts → Type 0
AreNamed p NoMore = Unit {0}
AreNamed p (Let line name_line name sign_line value rest) = IsNewName p name × IsNamed p.names value × AreNamed (with_local p name true) rest
AreNamed p (Assign line name sign_line value rest) = IsSome (variable_of name p.names.scope) × IsNamed p.names value × AreNamed p rest
AreNamed p (Store line name opened index closed sign_line value rest) =
    IsTrue (is_array name p.names.arrays) × IsNamed p.names index × IsNamed p.names value × AreNamed p rest
AreNamed p (Update line name_line name opened index closed minus sign_line value rest) =
    IsTrue (is_array name p.names.arrays) × IsNamed p.names index × IsNamed p.names value × AreNamed p rest
AreNamed p (If line test opened if_true closed rest) = IsNamed p.names test × AreNamed p if_true × AreNamed (past p (slots if_true)) rest
AreNamed p (IfElse line test opened if_true closed else_line else_opened if_false else_closed rest) =
    IsNamed p.names test × AreNamed p if_true × AreNamed (past p (slots if_true)) if_false × AreNamed (past p (slots if_true + slots if_false)) rest
AreNamed p (Loop line name_line name in_line from dots to opened body closed rest) =
    IsNewName p name × IsNamed p.names from × IsNamed p.names to × AreNamed (with_local p name false) body × AreNamed (past p (1 + slots body)) rest
AreNamed p (Parallel line number_line span opened body closed rest) = AreNamed p body × AreNamed (past p (slots body)) rest
AreNamed p (For line name_line name in_line from dots to schedule nowait opened body closed rest) =
    IsNewName p name × IsNamed p.names from × IsNamed p.names to × AreNamed (with_local p name false) body × AreNamed (past p (1 + slots body)) rest
AreNamed p (Barrier line rest) = AreNamed p rest
AreNamed p (Critical line opened body closed rest) = AreNamed p body × AreNamed (past p (slots body)) rest
AreNamed p (CriticalOf line name_line name opened body closed rest) =
    IsTrue (is_among name p.mutexes) × AreNamed p body × AreNamed (past p (slots body)) rest

-- no array or mutex has the name of one declared before it
abbrev pub AreDeclaredOnce : List Array → List (List ℕ) → List Declaration → Type 0
AreDeclaredOnce arrays mutexes [] = Unit {0}
AreDeclaredOnce arrays mutexes (ArrayOf line name_line name width_line width count_line count ∷ ds) =
    ((is_array name arrays || is_among name mutexes) ≡ false) × AreDeclaredOnce (arrays ++ array_of name (unwrap_or (width_of width) 0) count ∷ []) mutexes ds
AreDeclaredOnce arrays mutexes (MutexOf line name_line name ∷ ds) =
    ((is_array name arrays || is_among name mutexes) ≡ false) × AreDeclaredOnce arrays (mutexes ++ name ∷ []) ds

-- the names of a kernel
pub record HasGoodNames (tree : KernelTree) : Type 0 where
  pub declared : AreDeclaredOnce [] [] tree.declarations
  pub used : AreNamed (at_main tree.declarations) tree.body
