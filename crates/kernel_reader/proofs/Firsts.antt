-- The first broken rule of statements, by the parts of the first of them.
use Rattle.std.proofs.Common.{◌≡◌, ℕ, ◌*◌, Bool, true, false, not, List, [], ◌++◌, Option, subst, append_assoc}
use Rattle.std.specs.Prelude.{ℤ, nat_lt, nat_le, is_some}
use Rattle.kernel_text.specs.declared.fault.KernelWhy.{KernelWhy}
use Rattle.kernel_text.specs.declared.fault.KernelWhy.TheVariants as why
use Rattle.kernel_text.specs.Tokens.{Refusal}
use Rattle.kernel_text.specs.Grammar.{Tree, ScheduleTree, Stmts, Loop, For}
use Rattle.kernel_reader.specs.Scope.{Place, with_local, count_literal, is_between}
use Rattle.kernel_reader.specs.Rules.{fault_if, tree_faults, declared_faults, schedule_faults, stmts_faults, is_fixed, in_branch, in_work, is_misplaced}
use Rattle.kernel_reader.specs.declared.fault.ReadKernelFault.{ReadKernelFault}
use Rattle.kernel_reader.specs.Settled.{IsFirstOf}
use Rattle.kernel_reader.proofs.Broken.{first-before, first-behind}

pub part-2 : (a b z : List Refusal) (f : ReadKernelFault) → IsFirstOf (a ++ b) f → IsFirstOf (a ++ (b ++ z)) f
part-2 a b z f is = subst (λ (l : List Refusal). IsFirstOf l f) (append_assoc a b z) (first-before (a ++ b) z f is)

pub part-3 : (a b c z : List Refusal) (f : ReadKernelFault) → IsFirstOf (a ++ (b ++ c)) f → IsFirstOf (a ++ (b ++ (c ++ z))) f
part-3 a b c z f is = subst (λ (l : List Refusal). IsFirstOf (a ++ l) f) (append_assoc b c z) (part-2 a (b ++ c) z f is)

-- behind parts that break none
pub skip-2 : (a b z : List Refusal) (f : ReadKernelFault) → a ++ b ≡ [] → IsFirstOf z f → IsFirstOf (a ++ (b ++ z)) f
skip-2 a b z f none is = subst (λ (l : List Refusal). IsFirstOf l f) (append_assoc a b z) (first-behind (a ++ b) z f none is)

pub skip-3 : (a b c z : List Refusal) (f : ReadKernelFault) → a ++ (b ++ c) ≡ [] → IsFirstOf z f → IsFirstOf (a ++ (b ++ (c ++ z))) f
skip-3 a b c z f none is = subst (λ (l : List Refusal). IsFirstOf (a ++ l) f) (append_assoc b c z) (skip-2 a (b ++ c) z f none is)

-- the rules of a region
abbrev pub RegionFaults : Place → ℕ → ℕ → ℤ → List Refusal
RegionFaults p line number_line span =
    fault_if (is_some p.critical) line why.ParallelHere ++ (fault_if (nat_le 4 p.regions) line why.Deep ++
    (fault_if (not (is_between 1 64 span)) number_line why.Count ++ fault_if (nat_lt 64 (p.spans * count_literal span)) number_line why.Large))

-- the rules of a worksharing loop or a barrier
abbrev pub SharedFaults : Place → ℕ → KernelWhy → List Refusal
SharedFaults p line w = fault_if (is_misplaced p) line w ++ fault_if p.uneven line why.NotUniform

abbrev pub RangeFaults : Place → Bool → ℕ → List ℕ → Tree → Tree → List Refusal
RangeFaults p in_bound name_line name from to = declared_faults p name_line name ++ (tree_faults p.names in_bound from ++ tree_faults p.names in_bound to)

-- behind the bounds of a loop that break none, in a place that is the inner one
pub inner-first : (q p : Place) (b : Stmts) (z : List Refusal) (f : ReadKernelFault) → q ≡ p → IsFirstOf (stmts_faults q b) f → IsFirstOf (stmts_faults p b ++ z) f
inner-first q p b z f at told = first-before (stmts_faults p b) z f (rw (← at) told)

-- ---- loops

pub loop-range-first : (p : Place) (line : ℕ) (nl : ℕ) (n : List ℕ) (il : ℕ) (fr : Tree) (dots : ℕ) (to : Tree) (opened : ℕ) (b : Stmts) (closed : ℕ) (rest : Stmts) (f : ReadKernelFault) → IsFirstOf (RangeFaults p false nl n fr to) f → IsFirstOf (stmts_faults p (Loop line nl n il fr dots to opened b closed rest)) f
loop-range-first p line nl n il fr dots to opened b closed rest f told = part-3 (declared_faults p nl n) (tree_faults p.names false fr) (tree_faults p.names false to) _ f told

pub loop-body-first : (q p : Place) (line : ℕ) (nl : ℕ) (n : List ℕ) (il : ℕ) (fr : Tree) (dots : ℕ) (to : Tree) (opened : ℕ) (b : Stmts) (closed : ℕ) (rest : Stmts) (f : ReadKernelFault) → q ≡ in_branch (with_local p n false) (not (is_fixed fr to)) → RangeFaults p false nl n fr to ≡ [] → IsFirstOf (stmts_faults q b) f
    → IsFirstOf (stmts_faults p (Loop line nl n il fr dots to opened b closed rest)) f
loop-body-first q p line nl n il fr dots to opened b closed rest f at fine told =
    skip-3 (declared_faults p nl n) (tree_faults p.names false fr) (tree_faults p.names false to) _ f fine (inner-first q (in_branch (with_local p n false) (not (is_fixed fr to))) b _ f at told)

pub for-range-first : (p : Place) (line : ℕ) (nl : ℕ) (n : List ℕ) (il : ℕ) (fr : Tree) (dots : ℕ) (to : Tree) (s : ScheduleTree) (nowait : Option ℕ) (opened : ℕ) (b : Stmts) (closed : ℕ) (rest : Stmts) (f : ReadKernelFault) → SharedFaults p line why.WorkHere ≡ [] → IsFirstOf (RangeFaults p true nl n fr to) f
    → IsFirstOf (stmts_faults p (For line nl n il fr dots to s nowait opened b closed rest)) f
for-range-first p line nl n il fr dots to s nowait opened b closed rest f placed told =
    skip-2 (fault_if (is_misplaced p) line why.WorkHere) (fault_if p.uneven line why.NotUniform) _ f placed (part-3 (declared_faults p nl n) (tree_faults p.names true fr) (tree_faults p.names true to) _ f told)

pub for-schedule-first : (p : Place) (line : ℕ) (nl : ℕ) (n : List ℕ) (il : ℕ) (fr : Tree) (dots : ℕ) (to : Tree) (s : ScheduleTree) (nowait : Option ℕ) (opened : ℕ) (b : Stmts) (closed : ℕ) (rest : Stmts) (f : ReadKernelFault) → SharedFaults p line why.WorkHere ≡ [] → RangeFaults p true nl n fr to ≡ [] → IsFirstOf (schedule_faults s) f
    → IsFirstOf (stmts_faults p (For line nl n il fr dots to s nowait opened b closed rest)) f
for-schedule-first p line nl n il fr dots to s nowait opened b closed rest f placed fine told =
    skip-2 (fault_if (is_misplaced p) line why.WorkHere) (fault_if p.uneven line why.NotUniform) _ f placed
    (skip-3 (declared_faults p nl n) (tree_faults p.names true fr) (tree_faults p.names true to) _ f fine (first-before (schedule_faults s) _ f told))

pub for-body-first : (q p : Place) (line : ℕ) (nl : ℕ) (n : List ℕ) (il : ℕ) (fr : Tree) (dots : ℕ) (to : Tree) (s : ScheduleTree) (nowait : Option ℕ) (opened : ℕ) (b : Stmts) (closed : ℕ) (rest : Stmts) (f : ReadKernelFault) → q ≡ in_work (with_local p n false) → SharedFaults p line why.WorkHere ≡ [] → RangeFaults p true nl n fr to ≡ [] → schedule_faults s ≡ []
    → IsFirstOf (stmts_faults q b) f → IsFirstOf (stmts_faults p (For line nl n il fr dots to s nowait opened b closed rest)) f
for-body-first q p line nl n il fr dots to s nowait opened b closed rest f at placed fine even told =
    skip-2 (fault_if (is_misplaced p) line why.WorkHere) (fault_if p.uneven line why.NotUniform) _ f placed
    (skip-3 (declared_faults p nl n) (tree_faults p.names true fr) (tree_faults p.names true to) _ f fine (first-behind (schedule_faults s) _ f even (inner-first q (in_work (with_local p n false)) b _ f at told)))
