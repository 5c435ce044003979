-- The kernel of a parse tree: names become numbers of arrays, mutexes and slots, and accesses get their sites.
use Rattle.std.specs.Prelude.{◌≡◌, ℕ, ◌+◌, true, false, List, unwrap_or, option_map, is_some}
use Rattle.kernel_syntax.specs.declared.syntax.Schedule.{Schedule}
use Rattle.kernel_syntax.specs.declared.syntax.Schedule.TheVariants as schedule
use Rattle.kernel_syntax.specs.Layout.{laid}
use Rattle.kernel_syntax.specs.Tree as kernel
use Rattle.kernel_syntax.specs.Tree.{Term, Code}
use Rattle.kernel_syntax.specs.Program.{Program}
use Rattle.kernel_text.specs.Grammar.{Tree, NumberAt, NameAt, TidAt, SpanAt, Element, Group, Minus, Binary, ScheduleTree, Unsaid, Static, StaticBy, Dynamic, DynamicBy, Stmts, NoMore, Let, Assign, Store, Update, If, IfElse, Loop, Parallel, For, Barrier, Critical, CriticalOf, KernelTree}
use Rattle.kernel_reader.specs.Scope.{array_number, variable_of, Names, Place, with_local, slots, past, count_literal}
use Rattle.kernel_reader.specs.declared.binding.Variable.{Variable}
use Rattle.kernel_reader.specs.Rules.{mutex_of, arrays_of, mutex_names, at_main}

-- how many array names stand before `[`; each has a site of its own, counted from 0 in the order of the text
abbrev pub sites : Tree → ℕ
sites (NumberAt line value) = 0
sites (NameAt line name) = 0
sites (TidAt line) = 0
sites (SpanAt line) = 0
sites (Element line name opened index closed) = 1 + sites index
sites (Group opened inside closed) = sites inside
sites (Minus line operand) = sites operand
sites (Binary left op line right) = sites left + sites right

abbrev pub stmts_sites : Stmts → ℕ
stmts_sites NoMore = 0
stmts_sites (Let line name_line name sign_line value rest) = sites value + stmts_sites rest
stmts_sites (Assign line name sign_line value rest) = sites value + stmts_sites rest
stmts_sites (Store line name opened index closed sign_line value rest) = 1 + (sites index + (sites value + stmts_sites rest))
stmts_sites (Update line name_line name opened index closed minus sign_line value rest) = 1 + (sites index + (sites value + stmts_sites rest))
stmts_sites (If line test opened if_true closed rest) = sites test + (stmts_sites if_true + stmts_sites rest)
stmts_sites (IfElse line test opened if_true closed else_line else_opened if_false else_closed rest) =
    sites test + (stmts_sites if_true + (stmts_sites if_false + stmts_sites rest))
stmts_sites (Loop line name_line name in_line from dots to opened body closed rest) = sites from + (sites to + (stmts_sites body + stmts_sites rest))
stmts_sites (Parallel line number_line span opened body closed rest) = stmts_sites body + stmts_sites rest
stmts_sites (For line name_line name in_line from dots to schedule nowait opened body closed rest) =
    sites from + (sites to + (stmts_sites body + stmts_sites rest))
stmts_sites (Barrier line rest) = stmts_sites rest
stmts_sites (Critical line opened body closed rest) = stmts_sites body + stmts_sites rest
stmts_sites (CriticalOf line name_line name opened body closed rest) = stmts_sites body + stmts_sites rest

abbrev pub slot_of : Names → List ℕ → ℕ
slot_of n name = unwrap_or (option_map (λ (v : Variable). v.slot) (variable_of name n.scope)) 0

abbrev pub array_at : Names → List ℕ → ℕ
array_at n name = unwrap_or (array_number name n.arrays) 0

-- an expression, where the next site is this one
abbrev pub term : Names → ℕ → Tree → Term
term n site (NumberAt line value) = kernel.Number value
term n site (NameAt line name) = kernel.Slot (slot_of n name)
term n site (TidAt line) = kernel.Tid
term n site (SpanAt line) = kernel.Span
term n site (Element line name opened index closed) = kernel.Load (array_at n name) (term n (site + 1) index) line site
term n site (Group opened inside closed) = term n site inside
term n site (Minus line operand) = kernel.Neg (term n site operand)
term n site (Binary left op line right) = kernel.Binary op line (term n site left) (term n (site + sites left) right)

-- no schedule and a bare `static` are even shares; a bare `dynamic` draws single iterations
abbrev pub schedule_of : ScheduleTree → Schedule
schedule_of Unsaid = schedule.Even
schedule_of (Static line) = schedule.Even
schedule_of (StaticBy line number_line chunk) = schedule.Static (count_literal chunk)
schedule_of (Dynamic line) = schedule.Dynamic 1
schedule_of (DynamicBy line number_line chunk) = schedule.Dynamic (count_literal chunk)

-- a store or an update of an element by its array, its index and its value
abbrev pub change : {X : Type 0} → (ℕ → Term → Term → X) → Names → ℕ → List ℕ → Tree → Tree → X
change made n site name index value = made (array_at n name) (term n (site + 1) index) (term n (site + 1 + sites index) value)

-- these are its array, its index and its value
abbrev pub IsResolved : Names → ℕ → List ℕ → Tree → Tree → ℕ → Term → Term → Type 0
IsResolved n site name index value array at amount = (array ≡ array_at n name) × (at ≡ term n (site + 1) index) × (amount ≡ term n (site + 1 + sites index) value)

abbrev pub code : Place → ℕ → Stmts → Code
code p site NoMore = kernel.Done
code p site (Let line name_line name sign_line value rest) =
    kernel.Set p.slot (term p.names site value) (code (with_local p name true) (site + sites value) rest)
code p site (Assign line name sign_line value rest) = kernel.Set (slot_of p.names name) (term p.names site value) (code p (site + sites value) rest)
code p site (Store line name opened index closed sign_line value rest) =
    change (λ array at amount. kernel.Store array at amount line site (code p (site + 1 + sites index + sites value) rest)) p.names site name index value
code p site (Update line name_line name opened index closed minus sign_line value rest) =
    change (λ array at amount. kernel.Update array at amount minus name_line site (code p (site + 1 + sites index + sites value) rest)) p.names site name index value
code p site (If line test opened if_true closed rest) =
    let inside = site + sites test in
    kernel.If (term p.names site test) (code p inside if_true) kernel.Done (code (past p (slots if_true)) (inside + stmts_sites if_true) rest)
code p site (IfElse line test opened if_true closed else_line else_opened if_false else_closed rest) =
    let inside = site + sites test in
    let other = inside + stmts_sites if_true in
    kernel.If (term p.names site test) (code p inside if_true) (code (past p (slots if_true)) other if_false)
    (code (past p (slots if_true + slots if_false)) (other + stmts_sites if_false) rest)
code p site (Loop line name_line name in_line from dots to opened body closed rest) =
    let inside = site + sites from + sites to in
    kernel.Loop p.slot (term p.names site from) (term p.names (site + sites from) to) (code (with_local p name false) inside body)
    (code (past p (1 + slots body)) (inside + stmts_sites body) rest)
code p site (Parallel line number_line span opened body closed rest) =
    kernel.Parallel (count_literal span) line closed (code p site body) (code (past p (slots body)) (site + stmts_sites body) rest)
code p site (For line name_line name in_line from dots to schedule nowait opened body closed rest) =
    let inside = site + sites from + sites to in
    kernel.For p.slot (term p.names site from) (term p.names (site + sites from) to) (schedule_of schedule) (is_some nowait) line closed
    (code (with_local p name false) inside body) (code (past p (1 + slots body)) (inside + stmts_sites body) rest)
code p site (Barrier line rest) = kernel.Barrier line (code p site rest)
code p site (Critical line opened body closed rest) =
    kernel.Critical 0 line closed (code p site body) (code (past p (slots body)) (site + stmts_sites body) rest)
code p site (CriticalOf line name_line name opened body closed rest) =
    kernel.Critical (mutex_of p name) line closed (code p site body) (code (past p (slots body)) (site + stmts_sites body) rest)

-- the kernel of a tree: `main` is a team of one
abbrev pub program : KernelTree → Program
program k = record {
  arrays = laid (arrays_of k.declarations);
  mutexes = mutex_names k.declarations;
  main = record { span = 1; line = k.line; end = k.closed; body = code (at_main k.declarations) 0 k.body };
  slots = slots k.body;
}
