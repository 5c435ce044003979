-- What the rules of the language say of a kernel: its names, where work is shared, how it nests, and how much it weighs.
use Rattle.std.specs.Prelude.{◌≡◌, ℕ, ◌+◌, ◌*◌, ◌<◌, ◌≤◌, ◌==◌, Bool, true, false, ◌||◌, ◌&&◌, IsTrue, List, [], ◌∷◌, ◌++◌, length, find, All, ℤ, FitsSigned, Option, Some, None, is_some, IsSome}
use Rattle.std.specs.Int.{w64}
use Rattle.kernel_syntax.specs.declared.syntax.Array.{Array}
use Rattle.kernel_syntax.specs.declared.syntax.Op.{Op}
use Rattle.kernel_syntax.specs.declared.syntax.Op.TheVariants.{Add, Sub, Mul}
use Rattle.kernel_syntax.specs.Arithmetic.{negated}
use Rattle.kernel_syntax.specs.Bounds.{IsBounded}
use Rattle.kernel_syntax.specs.Program.{Program}
use Rattle.kernel_syntax.specs.Tree.{Term, Number, Slot, Tid, Span, Load, Neg, Binary, Code, Done, Set, Store, Update, If, Loop, Parallel, For, Barrier, Critical}
use Rattle.kernel_model.specs.Iterations.{total_of}

-- ---- numbers

-- each number in an expression is a value of 64 bits
abbrev pub TermFits : Term → Type 0
TermFits (Number value) = FitsSigned w64 value
TermFits (Load array index line site) = TermFits index
TermFits (Neg operand) = TermFits operand
TermFits (Binary op line left right) = TermFits left × TermFits right
TermFits _ = Unit {0}

-- and each in the statements
abbrev pub CodeFits : Code → Type 0
CodeFits Done = Unit {0}
CodeFits (Set slot value rest) = TermFits value × CodeFits rest
CodeFits (Store array index value line site rest) = TermFits index × TermFits value × CodeFits rest
CodeFits (Update array index value minus line site rest) = TermFits index × TermFits value × CodeFits rest
CodeFits (If test if_true if_false rest) = TermFits test × CodeFits if_true × CodeFits if_false × CodeFits rest
CodeFits (Loop slot from to body rest) = TermFits from × TermFits to × CodeFits body × CodeFits rest
CodeFits (Parallel span line end body rest) = CodeFits body × CodeFits rest
CodeFits (For slot from to schedule nowait line end body rest) = TermFits from × TermFits to × CodeFits body × CodeFits rest
CodeFits (Barrier line rest) = CodeFits rest
CodeFits (Critical mutex line end body rest) = CodeFits body × CodeFits rest

-- ---- names

-- a variable in scope: its slot, and whether statements assign to it, which they do to no variable of a loop
pub record Variable : Type 0 where
  pub slot : ℕ
  pub assignable : Bool

-- how many arrays and slots a kernel has, and the variables in scope, the innermost first
pub record Scope : Type 0 where
  pub arrays : ℕ
  pub slots : ℕ
  pub variables : List Variable

-- the variable of a slot
abbrev pub variable_at : Scope → ℕ → Option Variable
variable_at n slot = find (λ (v : Variable). v.slot == slot) n.variables

-- the scope with one more variable
abbrev pub with_variable : Scope → ℕ → Bool → Scope
with_variable n slot assignable = record n { variables = record { slot = slot; assignable = assignable } ∷ n.variables }

-- a slot of the kernel that no variable in scope has
pub record IsNew (n : Scope) (slot : ℕ) : Type 0 where
  pub unused : variable_at n slot ≡ None
  pub within : slot < n.slots

-- a variable that statements assign to, or else a new one
abbrev pub IsAssigned : Scope → ℕ → Option Variable → Type 0
IsAssigned n slot (Some v) = IsTrue v.assignable
IsAssigned n slot None = slot < n.slots

-- the scope after an assignment: the first one to a slot declares its variable
abbrev pub after_assigning : Scope → ℕ → Option Variable → Scope
after_assigning n slot (Some v) = n
after_assigning n slot None = with_variable n slot true

-- each variable is in scope, and each array there
abbrev pub IsKnown : Scope → Term → Type 0
IsKnown n (Slot slot) = IsSome (variable_at n slot)
IsKnown n (Load array index line site) = (array < n.arrays) × IsKnown n index
IsKnown n (Neg operand) = IsKnown n operand
IsKnown n (Binary op line left right) = IsKnown n left × IsKnown n right
IsKnown n _ = Unit {0}

-- the operations in a bound of a worksharing loop
abbrev pub IsEvenOp : Op → Type 0
IsEvenOp Add = Unit {0}
IsEvenOp Sub = Unit {0}
IsEvenOp Mul = Unit {0}
IsEvenOp _ = ⊥

-- a variable of a loop
abbrev pub IsLoopVariable : Option Variable → Type 0
IsLoopVariable (Some v) = v.assignable ≡ false
IsLoopVariable None = ⊥

-- the same value in every lane of a team: sums and products of numbers, `span` and variables of loops
abbrev pub IsEvenTerm : Scope → Term → Type 0
IsEvenTerm n (Number value) = Unit {0}
IsEvenTerm n (Slot slot) = IsLoopVariable (variable_at n slot)
IsEvenTerm n Tid = ⊥
IsEvenTerm n Span = Unit {0}
IsEvenTerm n (Load array index line site) = ⊥
IsEvenTerm n (Neg operand) = IsEvenTerm n operand
IsEvenTerm n (Binary op line left right) = IsEvenTerm n left × IsEvenOp op × IsEvenTerm n right

-- every variable is in scope and every array there, no statement assigns to a variable of a loop, and the bounds of a
-- worksharing loop are the same for all lanes
abbrev pub IsScoped : Scope → Code → Type 0
IsScoped n Done = Unit {0}
IsScoped n (Set slot value rest) =
    IsKnown n value × IsAssigned n slot (variable_at n slot) × IsScoped (after_assigning n slot (variable_at n slot)) rest
IsScoped n (Store array index value line site rest) = (array < n.arrays) × IsKnown n index × IsKnown n value × IsScoped n rest
IsScoped n (Update array index value minus line site rest) = (array < n.arrays) × IsKnown n index × IsKnown n value × IsScoped n rest
IsScoped n (If test if_true if_false rest) = IsKnown n test × IsScoped n if_true × IsScoped n if_false × IsScoped n rest
IsScoped n (Loop slot from to body rest) =
    IsKnown n from × IsKnown n to × IsNew n slot × IsScoped (with_variable n slot false) body × IsScoped n rest
IsScoped n (Parallel span line end body rest) = IsScoped n body × IsScoped n rest
IsScoped n (For slot from to schedule nowait line end body rest) =
    IsEvenTerm n from × IsEvenTerm n to × IsNew n slot × IsScoped (with_variable n slot false) body × IsScoped n rest
IsScoped n (Barrier line rest) = IsScoped n rest
IsScoped n (Critical mutex line end body rest) = IsScoped n body × IsScoped n rest

-- ---- where lanes meet

-- the value of a bound that the text fixes: a number, or a sign and a number
abbrev pub fixed_bound : Term → Option ℤ
fixed_bound (Number value) = Some value
fixed_bound (Neg (Number value)) = Some (negated value)
fixed_bound _ = None

-- a loop whose turns the text fixes
abbrev pub has_fixed_bounds : Term → Term → Bool
has_fixed_bounds from to = is_some (fixed_bound from) && is_some (fixed_bound to)

-- a worksharing loop or a barrier of the same region stands in the statements
abbrev pub code_holds_work : Code → Bool
code_holds_work Done = false
code_holds_work (Set slot value rest) = code_holds_work rest
code_holds_work (Store array index value line site rest) = code_holds_work rest
code_holds_work (Update array index value minus line site rest) = code_holds_work rest
code_holds_work (If test if_true if_false rest) = code_holds_work if_true || (code_holds_work if_false || code_holds_work rest)
code_holds_work (Loop slot from to body rest) = code_holds_work body || code_holds_work rest
code_holds_work (Parallel span line end body rest) = code_holds_work rest
code_holds_work (For slot from to schedule nowait line end body rest) = true
code_holds_work (Barrier line rest) = true
code_holds_work (Critical mutex line end body rest) = code_holds_work body || code_holds_work rest

-- worksharing loops and barriers stand only where every lane of their team meets them: round them is nothing of their region but
-- fixed loops
abbrev pub IsEven : Code → Type 0
IsEven Done = Unit {0}
IsEven (Set slot value rest) = IsEven rest
IsEven (Store array index value line site rest) = IsEven rest
IsEven (Update array index value minus line site rest) = IsEven rest
IsEven (If test if_true if_false rest) =
    (code_holds_work if_true ≡ false) × (code_holds_work if_false ≡ false) × IsEven if_true × IsEven if_false × IsEven rest
IsEven (Loop slot from to body rest) = (code_holds_work body ≡ true → has_fixed_bounds from to ≡ true) × IsEven body × IsEven rest
IsEven (Parallel span line end body rest) = IsEven body × IsEven rest
IsEven (For slot from to schedule nowait line end body rest) = (code_holds_work body ≡ false) × IsEven body × IsEven rest
IsEven (Barrier line rest) = IsEven rest
IsEven (Critical mutex line end body rest) = (code_holds_work body ≡ false) × IsEven body × IsEven rest

-- ---- nesting

-- In this many regions, whose spans have this product, and with these mutexes held, in order of locking, of so many declared: at
-- most four regions nest, with at most 64 lanes in all, and none in a critical section; at most eight critical sections of one
-- region nest, and their mutexes ascend.
abbrev pub IsNested : ℕ → ℕ → ℕ → List ℕ → Code → Type 0
IsNested mutexes regions lanes held Done = Unit {0}
IsNested mutexes regions lanes held (Set slot value rest) = IsNested mutexes regions lanes held rest
IsNested mutexes regions lanes held (Store array index value line site rest) = IsNested mutexes regions lanes held rest
IsNested mutexes regions lanes held (Update array index value minus line site rest) = IsNested mutexes regions lanes held rest
IsNested mutexes regions lanes held (If test if_true if_false rest) =
    IsNested mutexes regions lanes held if_true × IsNested mutexes regions lanes held if_false × IsNested mutexes regions lanes held rest
IsNested mutexes regions lanes held (Loop slot from to body rest) =
    IsNested mutexes regions lanes held body × IsNested mutexes regions lanes held rest
IsNested mutexes regions lanes held (Parallel span line end body rest) =
    (held ≡ []) × (regions < 4) × (lanes * span ≤ 64)
    × IsNested mutexes (regions + 1) (lanes * span) [] body × IsNested mutexes regions lanes held rest
IsNested mutexes regions lanes held (For slot from to schedule nowait line end body rest) =
    IsNested mutexes regions lanes held body × IsNested mutexes regions lanes held rest
IsNested mutexes regions lanes held (Barrier line rest) = IsNested mutexes regions lanes held rest
IsNested mutexes regions lanes held (Critical mutex line end body rest) =
    (mutex ≤ mutexes) × All (λ outer. outer < mutex) held × (length held < 8)
    × IsNested mutexes regions lanes (held ++ mutex ∷ []) body × IsNested mutexes regions lanes held rest

-- ---- weights

-- the bounds of a loop that is unrolled: a fixed one that holds a worksharing loop or a barrier
abbrev pub unrolled_bounds : Option ℤ → Option ℤ → Bool → Option (ℤ × ℤ)
unrolled_bounds (Some from) (Some to) true = Some (from, to)
unrolled_bounds _ _ _ = None

abbrev pub bounds_of : Term → Term → Code → Option (ℤ × ℤ)
bounds_of from to body = unrolled_bounds (fixed_bound from) (fixed_bound to) (code_holds_work body)

-- such a loop weighs one more than its body, in each of its turns
abbrev pub unrolled_weight : Option (ℤ × ℤ) → ℕ → ℕ
unrolled_weight (Some bounds) body = total_of bounds.0 bounds.1 * (body + 1)
unrolled_weight None body = 1

abbrev pub code_weight : Code → ℕ
code_weight Done = 0
code_weight (Set slot value rest) = 1 + code_weight rest
code_weight (Store array index value line site rest) = 1 + code_weight rest
code_weight (Update array index value minus line site rest) = 1 + code_weight rest
code_weight (If test if_true if_false rest) = 1 + code_weight rest
code_weight (Loop slot from to body rest) = unrolled_weight (bounds_of from to body) (code_weight body) + code_weight rest
code_weight (Parallel span line end body rest) = 1 + code_weight rest
code_weight (For slot from to schedule nowait line end body rest) = 1 + code_weight rest
code_weight (Barrier line rest) = 1 + code_weight rest
code_weight (Critical mutex line end body rest) = 1 + code_weight rest

-- the most that a region weighs
abbrev pub max_weight : ℕ
max_weight = 65536

-- no region in the statements weighs more
abbrev pub IsLight : Code → Type 0
IsLight Done = Unit {0}
IsLight (Set slot value rest) = IsLight rest
IsLight (Store array index value line site rest) = IsLight rest
IsLight (Update array index value minus line site rest) = IsLight rest
IsLight (If test if_true if_false rest) = IsLight if_true × IsLight if_false × IsLight rest
IsLight (Loop slot from to body rest) = IsLight body × IsLight rest
IsLight (Parallel span line end body rest) = (code_weight body ≤ max_weight) × IsLight body × IsLight rest
IsLight (For slot from to schedule nowait line end body rest) = IsLight body × IsLight rest
IsLight (Barrier line rest) = IsLight rest
IsLight (Critical mutex line end body rest) = IsLight body × IsLight rest

-- ---- kernels

-- where the body of `main` begins
abbrev pub main_scope : Program → Scope
main_scope program = record { arrays = length program.arrays; slots = program.slots; variables = [] }

-- What the rules of the language say of a kernel: its numbers are within their bounds and its arrays laid out, each with an
-- element; every variable and array is there; no barrier or worksharing loop stands outside a region, and each where every lane meets it; regions and
-- critical sections nest as they may; and no region weighs too much.
pub record IsLawful (program : Program) : Type 0 where
  pub bounded : IsBounded program
  pub numbers : CodeFits program.main.body
  pub filled : All (λ (a : Array). 1 ≤ a.count) program.arrays
  pub few_mutexes : length program.mutexes ≤ 63
  pub alone : program.main.span ≡ 1
  pub scoped : IsScoped (main_scope program) program.main.body
  pub idle : code_holds_work program.main.body ≡ false
  pub even : IsEven program.main.body
  pub nested : IsNested (length program.mutexes) 0 1 [] program.main.body
  pub light : IsLight program.main.body
