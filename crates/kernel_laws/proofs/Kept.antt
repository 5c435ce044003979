-- What it says that statements break no rule, rule by rule.
use Rattle.std.proofs.Common.{◌≡◌, ℕ, ◌+◌, ◌*◌, Bool, true, false, not, leb, ltb, List, [], ◌++◌, Some, None}
use Rattle.std.specs.Prelude.{is_some}
use Rattle.kernel_reader.proofs.Bounded.{nil_split}
use Rattle.kernel_text.specs.declared.fault.KernelWhy.{KernelWhy}
use Rattle.kernel_text.specs.declared.fault.KernelWhy.TheVariants as why
use Rattle.kernel_text.specs.Tokens.{Refusal}
use Rattle.kernel_text.specs.Grammar.{Stmts, NoMore, Let, Assign, Store, Update, If, IfElse, Loop, Parallel, For, Barrier, Critical, CriticalOf}
use Rattle.kernel_reader.specs.Scope.{Place, with_local, slots, past, count_literal, is_among, is_between}
use Rattle.kernel_reader.specs.Rules.{fault_if, array_faults, tree_faults, is_fixed, weight, assigned_faults, is_misplaced, is_taken, schedule_faults, in_branch, in_region, in_work, in_critical, mutex_of, critical_faults, stmts_faults}
use Rattle.kernel_reader.proofs.Broken.{nil_left, nil_right, fault_if-none}

-- a mutex above those that are held, which are fewer than eight
pub record IsOrdered (q : Place) (mutex : ℕ) : Type 0 where
  pub above : elim q.critical [ None ↦ false | Some around ↦ leb mutex around ] ≡ false
  pub few : leb 8 q.criticals ≡ false

-- a region where one may begin
pub record IsRegion (q : Place) (span : ℕ) : Type 0 where
  pub apart : is_some q.critical ≡ false
  pub few : leb 4 q.regions ≡ false
  pub small : ltb 64 (q.spans * span) ≡ false

-- statements at a place break no rule
abbrev pub AreKept : Place → Stmts → Type 0
AreKept q NoMore = Unit {0}
AreKept q (Let line name_line name sign_line value rest) =
    (is_taken q name ≡ false) × (tree_faults q.names false value ≡ []) × AreKept (with_local q name true) rest
AreKept q (Assign line name sign_line value rest) = (assigned_faults q line name ≡ []) × (tree_faults q.names false value ≡ []) × AreKept q rest
AreKept q (Store line name opened index closed sign_line value rest) =
    (array_faults q.names false line name ≡ []) × (tree_faults q.names false index ≡ []) × (tree_faults q.names false value ≡ []) × AreKept q rest
AreKept q (Update line name_line name opened index closed minus sign_line value rest) =
    (array_faults q.names false name_line name ≡ []) × (tree_faults q.names false index ≡ []) × (tree_faults q.names false value ≡ []) × AreKept q rest
AreKept q (If line test opened if_true closed rest) =
    (tree_faults q.names false test ≡ []) × AreKept (in_branch q true) if_true × AreKept (past q (slots if_true)) rest
AreKept q (IfElse line test opened if_true closed else_line else_opened if_false else_closed rest) =
    (tree_faults q.names false test ≡ []) × AreKept (in_branch q true) if_true × AreKept (in_branch (past q (slots if_true)) true) if_false
    × AreKept (past q (slots if_true + slots if_false)) rest
AreKept q (Loop line name_line name in_line from dots to opened body closed rest) =
    (is_taken q name ≡ false) × (tree_faults q.names false from ≡ []) × (tree_faults q.names false to ≡ [])
    × AreKept (in_branch (with_local q name false) (not (is_fixed from to))) body × AreKept (past q (1 + slots body)) rest
AreKept q (Parallel line number_line span opened body closed rest) =
    IsRegion q (count_literal span) × AreKept (in_region q (count_literal span)) body × (ltb 65536 (weight body) ≡ false) × AreKept (past q (slots body)) rest
AreKept q (For line name_line name in_line from dots to schedule nowait opened body closed rest) =
    (is_misplaced q ≡ false) × (q.uneven ≡ false) × (is_taken q name ≡ false) × (tree_faults q.names true from ≡ []) × (tree_faults q.names true to ≡ [])
    × AreKept (in_work (with_local q name false)) body × AreKept (past q (1 + slots body)) rest
AreKept q (Barrier line rest) = (is_misplaced q ≡ false) × (q.uneven ≡ false) × AreKept q rest
AreKept q (Critical line opened body closed rest) = IsOrdered q 0 × AreKept (in_critical q 0) body × AreKept (past q (slots body)) rest
AreKept q (CriticalOf line name_line name opened body closed rest) =
    (not (is_among name q.mutexes) ≡ false) × IsOrdered q (mutex_of q name) × AreKept (in_critical q (mutex_of q name)) body × AreKept (past q (slots body)) rest

-- a rule ahead of others
rule : (broken : Bool) (line : ℕ) (w : KernelWhy) (ys : List Refusal) → fault_if broken line w ++ ys ≡ [] → (broken ≡ false) × (ys ≡ [])
rule broken line w ys e = (fault_if-none broken line w (nil_left (fault_if broken line w) ys e), nil_right (fault_if broken line w) ys e)

-- the two rules of a critical section
ordered : (q : Place) (line mutex : ℕ) → critical_faults q line mutex ≡ [] → IsOrdered q mutex
ordered q line mutex e =
    let first = rule (elim q.critical [ None ↦ false | Some around ↦ leb mutex around ]) line why.CriticalOrder _ e in
    record { above = first.0; few = fault_if-none (leb 8 q.criticals) line why.Deep first.1 }

-- statements without a fault
pub are-kept : (q : Place) (s : Stmts) → stmts_faults q s ≡ [] → AreKept q s
are-kept q NoMore lawful = tt
are-kept q (Let line name_line name sign_line value rest) lawful =
    let free = rule (is_taken q name) name_line why.Twice _ lawful in
    let known = nil_split (tree_faults q.names false value) _ free.1 in
    (free.0, known.0, are-kept (with_local q name true) rest known.1)
are-kept q (Assign line name sign_line value rest) lawful =
    let there = nil_split (assigned_faults q line name) _ lawful in
    let known = nil_split (tree_faults q.names false value) _ there.1 in
    (there.0, known.0, are-kept q rest known.1)
are-kept q (Store line name opened index closed sign_line value rest) lawful =
    let there = nil_split (array_faults q.names false line name) _ lawful in
    let indexed = nil_split (tree_faults q.names false index) _ there.1 in
    let known = nil_split (tree_faults q.names false value) _ indexed.1 in
    (there.0, indexed.0, known.0, are-kept q rest known.1)
are-kept q (Update line name_line name opened index closed minus sign_line value rest) lawful =
    let there = nil_split (array_faults q.names false name_line name) _ lawful in
    let indexed = nil_split (tree_faults q.names false index) _ there.1 in
    let known = nil_split (tree_faults q.names false value) _ indexed.1 in
    (there.0, indexed.0, known.0, are-kept q rest known.1)
are-kept q (If line test opened if_true closed rest) lawful =
    let tested = nil_split (tree_faults q.names false test) _ lawful in
    let parts = nil_split (stmts_faults (in_branch q true) if_true) _ tested.1 in
    (tested.0, are-kept (in_branch q true) if_true parts.0, are-kept (past q (slots if_true)) rest parts.1)
are-kept q (IfElse line test opened if_true closed else_line else_opened if_false else_closed rest) lawful =
    let tested = nil_split (tree_faults q.names false test) _ lawful in
    let parts = nil_split (stmts_faults (in_branch q true) if_true) _ tested.1 in
    let later = nil_split (stmts_faults (in_branch (past q (slots if_true)) true) if_false) _ parts.1 in (
      tested.0,
      are-kept (in_branch q true) if_true parts.0,
      are-kept (in_branch (past q (slots if_true)) true) if_false later.0,
      are-kept (past q (slots if_true + slots if_false)) rest later.1,
    )
are-kept q (Loop line name_line name in_line from dots to opened body closed rest) lawful =
    let inside = in_branch (with_local q name false) (not (is_fixed from to)) in
    let free = rule (is_taken q name) name_line why.Twice _ lawful in
    let begun = nil_split (tree_faults q.names false from) _ free.1 in
    let ended = nil_split (tree_faults q.names false to) _ begun.1 in
    let parts = nil_split (stmts_faults inside body) _ ended.1 in
    (free.0, begun.0, ended.0, are-kept inside body parts.0, are-kept (past q (1 + slots body)) rest parts.1)
are-kept q (Parallel line number_line span opened body closed rest) lawful =
    let apart = rule (is_some q.critical) line why.ParallelHere _ lawful in
    let few = rule (leb 4 q.regions) line why.Deep _ apart.1 in
    let counted = rule (not (is_between 1 64 span)) number_line why.Count _ few.1 in
    let small = rule (ltb 64 (q.spans * count_literal span)) number_line why.Large _ counted.1 in
    let parts = nil_split (stmts_faults (in_region q (count_literal span)) body) _ small.1 in
    let light = rule (ltb 65536 (weight body)) closed why.Large _ parts.1 in (
      record { apart = apart.0; few = few.0; small = small.0 },
      are-kept (in_region q (count_literal span)) body parts.0,
      light.0,
      are-kept (past q (slots body)) rest light.1,
    )
are-kept q (For line name_line name in_line from dots to schedule nowait opened body closed rest) lawful =
    let placed = rule (is_misplaced q) line why.WorkHere _ lawful in
    let even = rule q.uneven line why.NotUniform _ placed.1 in
    let free = rule (is_taken q name) name_line why.Twice _ even.1 in
    let begun = nil_split (tree_faults q.names true from) _ free.1 in
    let ended = nil_split (tree_faults q.names true to) _ begun.1 in
    let scheduled = nil_split (schedule_faults schedule) _ ended.1 in
    let parts = nil_split (stmts_faults (in_work (with_local q name false)) body) _ scheduled.1 in (
      placed.0,
      even.0,
      free.0,
      begun.0,
      ended.0,
      are-kept (in_work (with_local q name false)) body parts.0,
      are-kept (past q (1 + slots body)) rest parts.1,
    )
are-kept q (Barrier line rest) lawful =
    let placed = rule (is_misplaced q) line why.BarrierHere _ lawful in
    let even = rule q.uneven line why.NotUniform _ placed.1 in
    (placed.0, even.0, are-kept q rest even.1)
are-kept q (Critical line opened body closed rest) lawful =
    let nested = nil_split (critical_faults q line 0) _ lawful in
    let parts = nil_split (stmts_faults (in_critical q 0) body) _ nested.1 in
    (ordered q line 0 nested.0, are-kept (in_critical q 0) body parts.0, are-kept (past q (slots body)) rest parts.1)
are-kept q (CriticalOf line name_line name opened body closed rest) lawful =
    let known = rule (not (is_among name q.mutexes)) line why.Unknown _ lawful in
    let nested = nil_split (critical_faults q line (mutex_of q name)) _ known.1 in
    let parts = nil_split (stmts_faults (in_critical q (mutex_of q name)) body) _ nested.1 in (
      known.0,
      ordered q line (mutex_of q name) nested.0,
      are-kept (in_critical q (mutex_of q name)) body parts.0,
      are-kept (past q (slots body)) rest parts.1,
    )
