-- The rules that a kernel has to keep beyond the grammar: each that it breaks, in the order of the text.
use Rattle.std.specs.Prelude.{ℕ, ◌+◌, ◌*◌, ◌==◌, Bool, true, false, not, ◌||◌, ◌&&◌, List, [], ◌∷◌, ◌++◌, length, Option, Some, None, option_map, is_some, is_none, bytes_eq, codes, if◌then◌else◌, nat_lt, nat_le, unwrap_or, ℤ, neg_ℤ, ◌-ℤ◌}
use Rattle.kernel_syntax.specs.declared.syntax.Op.{Op}
use Rattle.kernel_syntax.specs.declared.syntax.Op.TheVariants.{Add, Sub, Mul}
use Rattle.kernel_text.specs.declared.fault.KernelWhy.{KernelWhy}
use Rattle.kernel_text.specs.declared.fault.KernelWhy.TheVariants as why
use Rattle.kernel_text.specs.Tokens.{Refusal}
use Rattle.kernel_text.specs.Grammar.{Tree, NumberAt, NameAt, TidAt, SpanAt, Element, Group, Minus, Binary, ScheduleTree, Unsaid, Static, StaticBy, Dynamic, DynamicBy, Stmts, NoMore, Let, Assign, Store, Update, If, IfElse, Loop, Parallel, For, Barrier, Critical, CriticalOf, Declaration, ArrayOf, MutexOf, KernelTree}
use Rattle.kernel_syntax.specs.declared.syntax.Array.{Array}
use Rattle.kernel_syntax.specs.Layout.{elements}
use Rattle.kernel_reader.specs.Scope.{number_of, is_among, is_array, variable_of, Names, Place, with_local, slots, past, count_literal, is_between}

-- a rule that is broken at a line
abbrev pub fault_at : ℕ → KernelWhy → List Refusal
fault_at line w = record { line = line; why = w } ∷ []

abbrev pub fault_if : Bool → ℕ → KernelWhy → List Refusal
fault_if broken line w = if broken then fault_at line w else []

-- ---- declarations

-- the bytes of an element
abbrev pub width_of : List ℕ → Option ℕ
width_of name =
    if bytes_eq name (codes "i8") then Some 1 else
    (if bytes_eq name (codes "i16") then Some 2 else
    (if bytes_eq name (codes "i32") then Some 4 else
    (if bytes_eq name (codes "i64") then Some 8 else None)))

-- an array as declared, not laid out yet
abbrev pub array_of : List ℕ → ℕ → ℤ → Array
array_of name width count = record { name = name; width = width; count = count_literal count; base = 0; first = 0 }

-- at most 64 arrays and 63 mutexes, with different names, and 1 to 1,048,576 elements in each array and in all
abbrev pub declarations_faults : List Array → List (List ℕ) → List Declaration → List Refusal
declarations_faults arrays mutexes [] = []
declarations_faults arrays mutexes (ArrayOf line name_line name width_line width count_line count ∷ ds) =
    fault_if (is_array name arrays || is_among name mutexes) name_line why.Twice ++
    (fault_if (nat_le 64 (length arrays)) name_line why.Large ++
    (fault_if (is_none (width_of width)) width_line why.Width ++
    (fault_if (not (is_between 1 1048576 count)) count_line why.Count ++
    (fault_if (nat_lt 1048576 (elements arrays + count_literal count)) count_line why.Large ++
    declarations_faults (arrays ++ array_of name (unwrap_or (width_of width) 0) count ∷ []) mutexes ds))))
declarations_faults arrays mutexes (MutexOf line name_line name ∷ ds) =
    fault_if (is_array name arrays || is_among name mutexes) name_line why.Twice ++
    (fault_if (nat_le 63 (length mutexes)) name_line why.Large ++
    declarations_faults arrays (mutexes ++ name ∷ []) ds)

-- ---- expressions

-- an operation that no bound of a worksharing loop has
abbrev pub is_unfit : Op → Bool
is_unfit Add = false
is_unfit Sub = false
is_unfit Mul = false
is_unfit _ = true

abbrev pub name_faults : Names → Bool → ℕ → List ℕ → List Refusal
name_faults n in_bound line name = elim (variable_of name n.scope) [
  | None ↦ fault_at line why.Unknown
  | Some v ↦ fault_if (in_bound && v.assignable) line why.NotUniform
]

abbrev pub array_faults : Names → Bool → ℕ → List ℕ → List Refusal
array_faults n in_bound line name = if is_array name n.arrays then fault_if in_bound line why.NotUniform else fault_at line why.Unknown

-- each name is known; a bound of a worksharing loop is the same for all lanes
abbrev pub tree_faults : Names → Bool → Tree → List Refusal
tree_faults n in_bound (NumberAt line value) = []
tree_faults n in_bound (NameAt line name) = name_faults n in_bound line name
tree_faults n in_bound (TidAt line) = fault_if in_bound line why.NotUniform
tree_faults n in_bound (SpanAt line) = []
tree_faults n in_bound (Element line name opened index closed) = array_faults n in_bound line name ++ tree_faults n in_bound index
tree_faults n in_bound (Group opened inside closed) = tree_faults n in_bound inside
tree_faults n in_bound (Minus line operand) = tree_faults n in_bound operand
tree_faults n in_bound (Binary left op line right) =
    tree_faults n in_bound left ++ (fault_if (in_bound && is_unfit op) line why.NotUniform ++ tree_faults n in_bound right)

-- ---- loops that are fixed, and the weight of a region

-- the value of a number
abbrev pub plain_value : Tree → Option ℤ
plain_value (NumberAt line value) = Some value
plain_value (Group opened inside closed) = plain_value inside
plain_value _ = None

-- the value of a number, or of a sign and a number
abbrev pub fixed_value : Tree → Option ℤ
fixed_value (NumberAt line value) = Some value
fixed_value (Group opened inside closed) = fixed_value inside
fixed_value (Minus line operand) = option_map neg_ℤ (plain_value operand)
fixed_value _ = None

abbrev pub is_fixed : Tree → Tree → Bool
is_fixed from to = is_some (fixed_value from) && is_some (fixed_value to)

-- whether a worksharing loop or a barrier of the same region stands in the statements
abbrev pub holds_work : Stmts → Bool
holds_work NoMore = false
holds_work (Let line name_line name sign_line value rest) = holds_work rest
holds_work (Assign line name sign_line value rest) = holds_work rest
holds_work (Store line name opened index closed sign_line value rest) = holds_work rest
holds_work (Update line name_line name opened index closed minus sign_line value rest) = holds_work rest
holds_work (If line test opened if_true closed rest) = holds_work if_true || holds_work rest
holds_work (IfElse line test opened if_true closed else_line else_opened if_false else_closed rest) = holds_work if_true || (holds_work if_false || holds_work rest)
holds_work (Loop line name_line name in_line from dots to opened body closed rest) = holds_work body || holds_work rest
holds_work (Parallel line number_line span opened body closed rest) = holds_work rest
holds_work (For line name_line name in_line from dots to schedule nowait opened body closed rest) = true
holds_work (Barrier line rest) = true
holds_work (Critical line opened body closed rest) = holds_work body || holds_work rest
holds_work (CriticalOf line name_line name opened body closed rest) = holds_work body || holds_work rest

-- a fixed loop that holds a worksharing loop or a barrier weighs one more than its body, in each of its turns
abbrev pub loop_weight : Option ℤ → Option ℤ → Bool → ℕ → ℕ
loop_weight (Some a) (Some b) true body = count_literal (b -ℤ a) * (body + 1)
loop_weight _ _ _ body = 1

abbrev pub weight : Stmts → ℕ
weight NoMore = 0
weight (Let line name_line name sign_line value rest) = 1 + weight rest
weight (Assign line name sign_line value rest) = 1 + weight rest
weight (Store line name opened index closed sign_line value rest) = 1 + weight rest
weight (Update line name_line name opened index closed minus sign_line value rest) = 1 + weight rest
weight (If line test opened if_true closed rest) = 1 + weight rest
weight (IfElse line test opened if_true closed else_line else_opened if_false else_closed rest) = 1 + weight rest
weight (Loop line name_line name in_line from dots to opened body closed rest) =
    loop_weight (fixed_value from) (fixed_value to) (holds_work body) (weight body) + weight rest
weight (Parallel line number_line span opened body closed rest) = 1 + weight rest
weight (For line name_line name in_line from dots to schedule nowait opened body closed rest) = 1 + weight rest
weight (Barrier line rest) = 1 + weight rest
weight (Critical line opened body closed rest) = 1 + weight rest
weight (CriticalOf line name_line name opened body closed rest) = 1 + weight rest

-- ---- statements

-- an array, a mutex or a variable in scope has the name
abbrev pub is_taken : Place → List ℕ → Bool
is_taken p name = is_array name p.names.arrays || (is_among name p.mutexes || is_some (variable_of name p.names.scope))

abbrev pub declared_faults : Place → ℕ → List ℕ → List Refusal
declared_faults p line name = fault_if (is_taken p name) line why.Twice

abbrev pub assigned_faults : Place → ℕ → List ℕ → List Refusal
assigned_faults p line name = elim (variable_of name p.names.scope) [ None ↦ fault_at line why.Unknown | Some v ↦ fault_if (not v.assignable) line why.Unknown ]

-- outside any region, or inside a worksharing loop or a critical section of the same region
abbrev pub is_misplaced : Place → Bool
is_misplaced p = (p.regions == 0) || p.divided

abbrev pub chunk_faults : ℕ → ℤ → List Refusal
chunk_faults line chunk = fault_if (not (is_between 1 1048576 chunk)) line why.Count

abbrev pub schedule_faults : ScheduleTree → List Refusal
schedule_faults (StaticBy line number_line chunk) = chunk_faults number_line chunk
schedule_faults (DynamicBy line number_line chunk) = chunk_faults number_line chunk
schedule_faults _ = []

-- the sections around a critical section have smaller mutexes, and they are fewer than eight
abbrev pub critical_faults : Place → ℕ → ℕ → List Refusal
critical_faults p line mutex =
    fault_if (elim p.critical [ None ↦ false | Some around ↦ nat_le mutex around ]) line why.CriticalOrder ++
    fault_if (nat_le 8 p.criticals) line why.Deep

-- inside a critical section of a mutex
abbrev pub in_critical : Place → ℕ → Place
in_critical p mutex = record p { critical = Some mutex; criticals = p.criticals + 1; divided = true }

-- inside a region of so many lanes
abbrev pub in_region : Place → ℕ → Place
in_region p span = record p { regions = p.regions + 1; spans = p.spans * span; divided = false; uneven = false }

-- a store or an update of an element: its array, its index, its value
abbrev pub change_faults : Names → ℕ → List ℕ → Tree → Tree → List Refusal
change_faults n line name index value = array_faults n false line name ++ (tree_faults n false index ++ tree_faults n false value)

-- inside an `if`, or a loop
abbrev pub in_branch : Place → Bool → Place
in_branch p uneven = record p { uneven = p.uneven || uneven }

-- inside a worksharing loop
abbrev pub in_work : Place → Place
in_work p = record p { divided = true }

-- the number of a mutex: the declared ones count from 1
abbrev pub mutex_of : Place → List ℕ → ℕ
mutex_of p name = elim (number_of name p.mutexes) [ None ↦ 0 | Some n ↦ n + 1 ]

abbrev pub stmts_faults : Place → Stmts → List Refusal
stmts_faults p NoMore = []
stmts_faults p (Let line name_line name sign_line value rest) =
    declared_faults p name_line name ++ (tree_faults p.names false value ++ stmts_faults (with_local p name true) rest)
stmts_faults p (Assign line name sign_line value rest) = assigned_faults p line name ++ (tree_faults p.names false value ++ stmts_faults p rest)
stmts_faults p (Store line name opened index closed sign_line value rest) =
    array_faults p.names false line name ++ (tree_faults p.names false index ++ (tree_faults p.names false value ++ stmts_faults p rest))
stmts_faults p (Update line name_line name opened index closed minus sign_line value rest) =
    array_faults p.names false name_line name ++ (tree_faults p.names false index ++ (tree_faults p.names false value ++ stmts_faults p rest))
stmts_faults p (If line test opened if_true closed rest) =
    tree_faults p.names false test ++ (stmts_faults (in_branch p true) if_true ++ stmts_faults (past p (slots if_true)) rest)
stmts_faults p (IfElse line test opened if_true closed else_line else_opened if_false else_closed rest) =
    tree_faults p.names false test ++ (stmts_faults (in_branch p true) if_true ++
    (stmts_faults (in_branch (past p (slots if_true)) true) if_false ++ stmts_faults (past p (slots if_true + slots if_false)) rest))
stmts_faults p (Loop line name_line name in_line from dots to opened body closed rest) =
    declared_faults p name_line name ++ (tree_faults p.names false from ++ (tree_faults p.names false to ++
    (stmts_faults (in_branch (with_local p name false) (not (is_fixed from to))) body ++ stmts_faults (past p (1 + slots body)) rest)))
stmts_faults p (Parallel line number_line span opened body closed rest) =
    fault_if (is_some p.critical) line why.ParallelHere ++ (fault_if (nat_le 4 p.regions) line why.Deep ++
    (fault_if (not (is_between 1 64 span)) number_line why.Count ++ (fault_if (nat_lt 64 (p.spans * count_literal span)) number_line why.Large ++
    (stmts_faults (in_region p (count_literal span)) body ++ (fault_if (nat_lt 65536 (weight body)) closed why.Large ++
    stmts_faults (past p (slots body)) rest)))))
stmts_faults p (For line name_line name in_line from dots to schedule nowait opened body closed rest) =
    fault_if (is_misplaced p) line why.WorkHere ++ (fault_if p.uneven line why.NotUniform ++ (declared_faults p name_line name ++
    (tree_faults p.names true from ++ (tree_faults p.names true to ++ (schedule_faults schedule ++
    (stmts_faults (in_work (with_local p name false)) body ++ stmts_faults (past p (1 + slots body)) rest))))))
stmts_faults p (Barrier line rest) = fault_if (is_misplaced p) line why.BarrierHere ++ (fault_if p.uneven line why.NotUniform ++ stmts_faults p rest)
stmts_faults p (Critical line opened body closed rest) =
    critical_faults p line 0 ++ (stmts_faults (in_critical p 0) body ++ stmts_faults (past p (slots body)) rest)
stmts_faults p (CriticalOf line name_line name opened body closed rest) =
    fault_if (not (is_among name p.mutexes)) line why.Unknown ++ (critical_faults p line (mutex_of p name) ++
    (stmts_faults (in_critical p (mutex_of p name)) body ++ stmts_faults (past p (slots body)) rest))

-- ---- kernels

-- the arrays as declared, and the names of the mutexes
abbrev pub arrays_of : List Declaration → List Array
arrays_of [] = []
arrays_of (ArrayOf line name_line name width_line width count_line count ∷ ds) = array_of name (unwrap_or (width_of width) 0) count ∷ arrays_of ds
arrays_of (MutexOf line name_line name ∷ ds) = arrays_of ds

abbrev pub mutex_names : List Declaration → List (List ℕ)
mutex_names [] = []
mutex_names (ArrayOf line name_line name width_line width count_line count ∷ ds) = mutex_names ds
mutex_names (MutexOf line name_line name ∷ ds) = name ∷ mutex_names ds

-- where the body of `main` begins
abbrev pub at_main : List Declaration → Place
at_main ds = record {
  names = record { arrays = arrays_of ds; scope = [] };
  mutexes = mutex_names ds;
  slot = 0;
  regions = 0;
  spans = 1;
  critical = None;
  criticals = 0;
  divided = false;
  uneven = false;
}

-- the broken rules of a kernel, in the order of the text
abbrev pub kernel_faults : KernelTree → List Refusal
kernel_faults k = declarations_faults [] [] k.declarations ++ stmts_faults (at_main k.declarations) k.body
