use Rattle.std.proofs.Common.{◌≡◌, ℕ, ◌+◌, ◌≤◌, not, ◌||◌, List, ◌∷◌, length, [], w64, subst, Result, refl, sym, ap, ◌∙◌, arith, rules}
use Rattle.std.proofs.lemmas.Result.{err_from_is_err_and}
use Rattle.std.proofs.lemmas.List.{nil_from_length}
use Rattle.std.proofs.lemmas.Int.{to_z-of_z}
use Rattle.std.specs.Prelude.{ℤ}
use Rattle.kernel_syntax.specs.declared.syntax.Array.{Array}
use Rattle.kernel_syntax.specs.Tree as kernel
use Rattle.kernel_syntax.specs.Program.{code_of}
use Rattle.kernel_text.specs.Grammar.{Stmts, NoMore}
use Rattle.kernel_parser.specs.Trees.{tree_of, schedule_tree, stmt_before, stmts_of}
use Rattle.kernel_parser.specs.declared.tree.Statement.{Statement}
use Rattle.kernel_parser.proofs.Equations.{before_if, before_if_else, before_loop, before_parallel, before_for, before_critical, before_critical_of}
use Rattle.kernel_reader.specs.Scope.{count_literal, slots}
use Rattle.kernel_reader.specs.Rules.{critical_faults, in_critical, is_fixed}
use Rattle.kernel_reader.specs.Resolve.{sites, stmts_sites}
use Rattle.kernel_reader.specs.Sections.{region_faults, region_section}
use Rattle.kernel_reader.specs.Folding.{names_at, IsFirstRead, IsLeft}
use Rattle.kernel_reader.specs.declared.fault.ReadKernelFault.{ReadKernelFault}
use Rattle.kernel_reader.specs.declared.place.State.{State}
use Rattle.kernel_reader.specs.declared.place.Section.{Section}
use Rattle.kernel_reader.specs.declared.statements.Added.{Added}
use Rattle.kernel_reader.proofs.Sizes.{apart, size}
use Rattle.kernel_reader.proofs.Firsts.{loop-range-first, loop-body-first, for-range-first, for-schedule-first, for-body-first}
use Rattle.kernel_reader.proofs.Advances.{if-read, if-else-read, loop-read, for-read, region-read, critical-read, critical-of-read, place-branch, place-loop, place-work, take-back}
use Rattle.kernel_reader.proofs.Lefts.{left-ends, left-fails, left-steps, take-through}
use Rattle.kernel_reader.proofs.Simple.{is_simple}
use Rattle.kernel_reader.proofs.place.Known.+statements.Goals as goal

-- a statement by its variant
first-at : (arrays : List Array) (mutexes : List (List ℕ)) (old new : State) (section : Section) (s v : Statement) (b rest : Stmts) (r : Result Added ReadKernelFault) → s ≡ v → stmt_before v rest ≡ b → IsFirstRead arrays mutexes old new section b rest r
    → IsFirstRead arrays mutexes old new section (stmt_before s rest) rest r
first-at arrays mutexes old new section s v b rest r is before read = rw (is, before) read

pub if_stmt-returns-clause-reads : goal.if_stmt-returns-clause-reads
if_stmt-returns-clause-reads t c =
    λ line rest. rw c.plain.ensures
    (if-read c.args.self.now.arrays.now c.args.self.now.mutexes.now c.args.state.now c.stmts.new.state c.args.section c.expr.new.state c.inside_branch.result line (tree_of c.args.test.now) c.args.yes.now.opened (stmts_of c.args.yes.now.stmts.items) c.args.yes.now.closed c.made_if.result c.in_ok-yes.yes rest c.in_ok-test.ensures.bound.0 c.in_ok-test.ensures.site c.in_ok-test.ensures.slot (place-branch c.args.self.now.arrays.now c.args.self.now.mutexes.now c.args.state.now c.expr.new.state c.args.section c.inside_branch.result c.inside_branch.ensures c.in_ok-test.ensures.slot c.in_ok-test.ensures.variables) c.in_ok-yes.ensures.reads
    (λ more. let m = c.made_if.ensures more in let e = c.in_ok-test.ensures.bound.1 in let i = ap code_of c.new.ensures.items in cc) (c.in_ok-yes.ensures.variables ∙ c.in_ok-test.ensures.variables))

pub if_else_stmt-returns-clause-reads : goal.if_else_stmt-returns-clause-reads
if_else_stmt-returns-clause-reads t c =
    λ line else_line rest. rw (c.plain.ensures, c.either-works.ensures)
    (if-else-read c.args.self.now.arrays.now c.args.self.now.mutexes.now c.args.state.now c.stmts-2.new.state c.args.section c.expr.new.state c.stmts.new.state c.inside_branch-inner.result line (tree_of c.args.test.now) c.args.yes.now.opened (stmts_of c.args.yes.now.stmts.items) c.args.yes.now.closed else_line c.args.no.now.opened (stmts_of c.args.no.now.stmts.items) c.args.no.now.closed c.made_if.result c.in_ok-yes.yes c.in_ok-no.no rest c.in_ok-test.ensures.bound.0 c.in_ok-test.ensures.site c.in_ok-test.ensures.slot (place-branch c.args.self.now.arrays.now c.args.self.now.mutexes.now c.args.state.now c.expr.new.state c.args.section c.inside_branch-inner.result c.inside_branch-inner.ensures c.in_ok-test.ensures.slot c.in_ok-test.ensures.variables) c.inside_branch-inner.ensures c.in_ok-yes.ensures.reads (c.in_ok-yes.ensures.variables ∙ c.in_ok-test.ensures.variables) c.in_ok-no.ensures.reads
    (λ last. let m = c.made_if.ensures last in let e = c.in_ok-test.ensures.bound.1 in cc) (c.in_ok-no.ensures.variables ∙ (c.in_ok-yes.ensures.variables ∙ c.in_ok-test.ensures.variables)))

pub loop_stmt-returns-clause-reads : goal.loop_stmt-returns-clause-reads
loop_stmt-returns-clause-reads t c =
    let inner_is : c.inside_branch-inner.result ≡ record c.args.section { uneven = c.args.section.uneven || not (is_fixed (tree_of c.args.range.now.from) (tree_of c.args.range.now.to)) } = rw (← c.is_fixed.ensures) c.inside_branch-inner.ensures in
    let length_is : c.len-known.result ≡ length c.args.state.now.variables.items = search rules in
    λ line rest. rw (← c.copy-name.ensures)
    (loop-read c.args.self.now.arrays.now c.args.self.now.mutexes.now c.args.state.now (record { variables = c.truncate.new.self; slot = c.stmts.new.state.slot; site = c.stmts.new.state.site }) c.args.section c.range.new.state c.stmts.new.state c.inside_branch-inner.result line c.args.range.now.name_line c.copy-name.result c.args.range.now.in_line (tree_of c.args.range.now.from) c.args.range.now.dots (tree_of c.args.range.now.to) c.args.body.now.opened (stmts_of c.args.body.now.stmts.items) c.args.body.now.closed c.made_loop.result c.loop_weight.result c.in_ok-block.block rest c.in_ok-slot.ensures.settled.0 c.in_ok-slot.ensures.site c.in_ok-slot.ensures.slot (place-loop c.args.self.now.arrays.now c.args.self.now.mutexes.now c.args.state.now c.range.new.state c.args.section c.inside_branch-inner.result c.copy-name.result (not (is_fixed (tree_of c.args.range.now.from) (tree_of c.args.range.now.to))) inner_is c.in_ok-slot.ensures.slot c.in_ok-slot.ensures.variables) c.in_ok-block.ensures.reads refl refl (take-back c.len-known.result c.args.state.now.variables.items c.stmts.new.state.variables.items c.truncate.new.self.items _ length_is (c.in_ok-block.ensures.variables ∙ c.in_ok-slot.ensures.variables) c.truncate.ensures.items)
    (λ more. let m = c.made_loop.ensures more in let e = c.in_ok-slot.ensures.settled.1 in let e0 = e.0 in let e1 = e.1 in let e2 = e.2 in cc) c.loop_weight.ensures.weighs)

pub for_stmt-returns-clause-reads : goal.for_stmt-returns-clause-reads
for_stmt-returns-clause-reads t c =
    let length_is : c.len-known.result ≡ length c.args.state.now.variables.items = search rules in
    λ rest. rw (c.plain.ensures, ← c.copy-name.ensures)
    (for-read c.args.self.now.arrays.now c.args.self.now.mutexes.now c.args.state.now (record { variables = c.truncate.new.self; slot = c.stmts.new.state.slot; site = c.stmts.new.state.site }) c.args.section c.range.new.state c.stmts.new.state c.inside_work.result c.args.line c.args.range.now.name_line c.copy-name.result c.args.range.now.in_line (tree_of c.args.range.now.from) c.args.range.now.dots (tree_of c.args.range.now.to) (schedule_tree c.args.schedule) c.args.nowait c.args.body.now.opened (stmts_of c.args.body.now.stmts.items) c.args.body.now.closed c.made_for-stmt.result c.in_ok-block.block rest c.in_ok-check_shared.ensures.0 c.in_ok-slot.ensures.settled.0 c.in_ok-schedule.ensures.0 c.in_ok-slot.ensures.site c.in_ok-slot.ensures.slot (place-work c.args.self.now.arrays.now c.args.self.now.mutexes.now c.args.state.now c.range.new.state c.args.section c.inside_work.result c.copy-name.result c.inside_work.ensures c.in_ok-slot.ensures.slot c.in_ok-slot.ensures.variables) c.in_ok-block.ensures.reads refl refl (take-back c.len-known.result c.args.state.now.variables.items c.stmts.new.state.variables.items c.truncate.new.self.items _ length_is (c.in_ok-block.ensures.variables ∙ c.in_ok-slot.ensures.variables) c.truncate.ensures.items)
    (λ more. let m = c.made_for-stmt.ensures more in let e = c.in_ok-slot.ensures.settled.1 in let e0 = e.0 in let e1 = e.1 in let e2 = e.2 in let f = c.in_ok-schedule.ensures.1 in let n = c.is_some.ensures in cc))

pub parallel_stmt-returns-clause-reads : goal.parallel_stmt-returns-clause-reads
parallel_stmt-returns-clause-reads t c =
    let z = to_z-of_z w64 c.args.span (search rules) in
    let r = subst (λ (v : ℤ). (region_faults c.args.section c.args.line c.args.number_line v ≡ []) × ((c.in_ok-span.span ≡ count_literal v) × (c.in_ok-span.inner ≡ region_section c.args.section v))) z c.in_ok-span.ensures in
    let light : c.in_ok-block.block.weight ≤ 65536 = omega arith in
    λ rest. rw c.plain.ensures
    (region-read c.args.self.now.arrays.now c.args.self.now.mutexes.now c.args.state.now c.stmts.new.state c.args.section c.in_ok-span.inner c.args.line c.args.number_line c.args.span c.in_ok-span.span c.args.body.now.opened (stmts_of c.args.body.now.stmts.items) c.args.body.now.closed c.made_parallel.result c.in_ok-block.block rest r.0 (ap (names_at c.args.self.now.arrays.now c.args.self.now.mutexes.now c.args.state.now) r.1.1) r.1.0 c.in_ok-block.ensures.reads light c.in_ok-block.ensures.variables c.made_parallel.ensures)

pub critical_stmt-returns-clause-reads : goal.critical_stmt-returns-clause-reads
critical_stmt-returns-clause-reads t c =
    let r = c.in_ok-inner.ensures in
    λ rest. rw c.plain.ensures
    (critical-read c.args.self.now.arrays.now c.args.self.now.mutexes.now c.args.state.now c.stmts.new.state c.args.section c.in_ok-inner.inner c.args.line c.args.body.now.opened (stmts_of c.args.body.now.stmts.items) c.args.body.now.closed c.made_critical-stmt.result c.in_ok-block.block rest r.0 (ap (names_at c.args.self.now.arrays.now c.args.self.now.mutexes.now c.args.state.now) r.1) c.in_ok-block.ensures.reads c.in_ok-block.ensures.variables c.made_critical-stmt.ensures)

pub critical_of_stmt-returns-clause-reads : goal.critical_of_stmt-returns-clause-reads
critical_of_stmt-returns-clause-reads t c =
    let m = c.in_ok-mutex.ensures in
    let r = c.in_ok-inner.ensures in
    λ name_line rest. rw c.plain.ensures
    (critical-of-read c.args.self.now.arrays.now c.args.self.now.mutexes.now c.args.state.now c.stmts.new.state c.args.section c.in_ok-inner.inner c.args.line name_line c.args.name.now c.args.body.now.opened (stmts_of c.args.body.now.stmts.items) c.args.body.now.closed c.made_critical-stmt.result c.in_ok-block.block rest m.0 (ap (critical_faults (names_at c.args.self.now.arrays.now c.args.self.now.mutexes.now c.args.state.now c.args.section) c.args.line) (sym m.1) ∙ r.0) (ap (names_at c.args.self.now.arrays.now c.args.self.now.mutexes.now c.args.state.now) r.1 ∙ ap (in_critical (names_at c.args.self.now.arrays.now c.args.self.now.mutexes.now c.args.state.now c.args.section)) m.1) c.in_ok-block.ensures.reads c.in_ok-block.ensures.variables
    (λ more. c.made_critical-stmt.ensures more ∙ ap (λ (k : ℕ). kernel.Critical k c.args.line c.args.body.now.closed (code_of c.in_ok-block.block.body.stmts.items) more) m.1))

pub stmt-returns-in-If-clause-reads : goal.stmt-returns-in-If-clause-reads
stmt-returns-in-If-clause-reads t c =
    λ rest. first-at c.args.self.now.arrays.now c.args.self.now.mutexes.now c.args.state.now c.if_stmt.new.state c.args.section c.args.stmt.now _ _ rest c.if_stmt.result c.in-If.is (before_if c.in-If.line c.in-If.test c.in-If.yes rest) (c.if_stmt.ensures.reads c.in-If.line rest)

pub stmt-returns-in-IfElse-clause-reads : goal.stmt-returns-in-IfElse-clause-reads
stmt-returns-in-IfElse-clause-reads t c =
    λ rest. first-at c.args.self.now.arrays.now c.args.self.now.mutexes.now c.args.state.now c.if_else_stmt.new.state c.args.section c.args.stmt.now _ _ rest c.if_else_stmt.result c.in-IfElse.is (before_if_else c.in-IfElse.line c.in-IfElse.test c.in-IfElse.yes c.in-IfElse.else_line c.in-IfElse.no rest) (c.if_else_stmt.ensures.reads c.in-IfElse.line c.in-IfElse.else_line rest)

pub stmt-returns-in-Loop-clause-reads : goal.stmt-returns-in-Loop-clause-reads
stmt-returns-in-Loop-clause-reads t c =
    λ rest. first-at c.args.self.now.arrays.now c.args.self.now.mutexes.now c.args.state.now c.loop_stmt.new.state c.args.section c.args.stmt.now _ _ rest c.loop_stmt.result c.in-Loop.is (before_loop c.in-Loop.line c.in-Loop.range c.in-Loop.body rest) (c.loop_stmt.ensures.reads c.in-Loop.line rest)

pub stmt-returns-in-Parallel-clause-reads : goal.stmt-returns-in-Parallel-clause-reads
stmt-returns-in-Parallel-clause-reads t c =
    λ rest. first-at c.args.self.now.arrays.now c.args.self.now.mutexes.now c.args.state.now c.parallel_stmt.new.state c.args.section c.args.stmt.now _ _ rest c.parallel_stmt.result c.in-Parallel.is (before_parallel c.in-Parallel.line c.in-Parallel.number_line c.in-Parallel.span c.in-Parallel.body rest) (rw (to_z-of_z w64 c.in-Parallel.span (search rules)) at (c.parallel_stmt.ensures.reads rest))

pub stmt-returns-in-For-clause-reads : goal.stmt-returns-in-For-clause-reads
stmt-returns-in-For-clause-reads t c =
    λ rest. first-at c.args.self.now.arrays.now c.args.self.now.mutexes.now c.args.state.now c.for_stmt.new.state c.args.section c.args.stmt.now _ _ rest c.for_stmt.result c.in-For.is (before_for c.in-For.line c.in-For.range c.in-For.schedule c.in-For.nowait c.in-For.body rest) (c.for_stmt.ensures.reads rest)

pub stmt-returns-in-Critical-clause-reads : goal.stmt-returns-in-Critical-clause-reads
stmt-returns-in-Critical-clause-reads t c =
    λ rest. first-at c.args.self.now.arrays.now c.args.self.now.mutexes.now c.args.state.now c.critical_stmt.new.state c.args.section c.args.stmt.now _ _ rest c.critical_stmt.result c.in-Critical.is (before_critical c.in-Critical.line c.in-Critical.body rest) (c.critical_stmt.ensures.reads rest)

pub stmt-returns-in-CriticalOf-clause-reads : goal.stmt-returns-in-CriticalOf-clause-reads
stmt-returns-in-CriticalOf-clause-reads t c =
    λ rest. first-at c.args.self.now.arrays.now c.args.self.now.mutexes.now c.args.state.now c.critical_of_stmt.new.state c.args.section c.args.stmt.now _ _ rest c.critical_of_stmt.result c.in-CriticalOf.is (before_critical_of c.in-CriticalOf.line c.in-CriticalOf.name_line c.in-CriticalOf.name c.in-CriticalOf.body rest) (c.critical_of_stmt.ensures.reads c.in-CriticalOf.name_line rest)

pub stmts-stmts-preserved : goal.stmts-stmts-preserved
stmts-stmts-preserved t c =
    let split : c.stmts.rest.now ≡ c.in-Some.first.now ∷ c.in-Some.others.now = c.in-Some.ensures.cases.0 in
    let b : Stmts = stmts_of c.args.block.now.stmts.items in
    let rest : Stmts = stmts_of c.in-Some.others.now in
    let here : stmts_of c.stmts.rest.now ≡ stmt_before c.in-Some.first.now rest = ap stmts_of split in
    let l = subst (λ (d : Stmts). IsLeft c.args.self.now.arrays.now c.args.self.now.mutexes.now c.args.state.now c.stmts.state c.args.section b d c.stmts.stmts.items c.stmts.weight c.stmts.works) here c.stmts.invariant.left in
    let parts = apart c.in-Some.first.now rest in
    let fewer = parts.size_is in
    let same = ap size here in
    let so_far = c.stmts.invariant.smaller in
    record {
      left = left-steps c.args.self.now.arrays.now c.args.self.now.mutexes.now c.args.state.now c.stmts.state c.stmt.new.state c.args.section b (stmt_before c.in-Some.first.now rest) rest c.stmts.stmts.items c.push.new.self.items c.stmts.weight c.sum-weight.result c.stmts.works c.either-works.result c.in_ok-added.added l (c.in_ok-added.ensures.reads rest) c.in_ok-push.ensures.items c.sum-weight.ensures.sum c.either-works.ensures;
      smaller = omega (arith, fewer, same, so_far);
      kept = take-through c.len-known.result c.args.state.now.variables.items c.stmts.state.variables.items c.stmt.new.state.variables.items c.stmts.invariant.known_is c.stmts.invariant.kept c.in_ok-added.ensures.variables;
      known_is = c.stmts.invariant.known_is;
      light = c.sum-weight.ensures.small;
    }

pub stmts-returns-in_err-added : goal.stmts-returns-in_err-added
stmts-returns-in_err-added t c =
    let split : c.stmts.rest.now ≡ c.in-Some.first.now ∷ c.in-Some.others.now = c.in-Some.ensures.cases.0 in
    let b : Stmts = stmts_of c.args.block.now.stmts.items in
    let rest : Stmts = stmts_of c.in-Some.others.now in
    let here : stmts_of c.stmts.rest.now ≡ stmt_before c.in-Some.first.now rest = ap stmts_of split in
    let l = subst (λ (d : Stmts). IsLeft c.args.self.now.arrays.now c.args.self.now.mutexes.now c.args.state.now c.stmts.state c.args.section b d c.stmts.stmts.items c.stmts.weight c.stmts.works) here c.stmts.invariant.left in
    let p = err_from_is_err_and c.from_residual.result c.from_residual.ensures.1 in
    record {
      reads = rw (p.1, p.2) (left-fails c.args.self.now.arrays.now c.args.self.now.mutexes.now c.args.state.now c.stmts.state c.args.section b (stmt_before c.in-Some.first.now rest) c.stmts.stmts.items c.stmts.weight c.stmts.works c.in_err-added.field-0.0 l (c.in_err-added.ensures.reads rest));
      weight = rw p.1 tt;
      variables = rw p.1 tt;
    }

pub stmts-returns-clause-reads : goal.stmts-returns-clause-reads
stmts-returns-clause-reads t c =
    let none = nil_from_length _ c.in_default.ensures.cases in
    let l = subst (λ (d : Stmts). IsLeft c.args.self.now.arrays.now c.args.self.now.mutexes.now c.args.state.now c.stmts.state c.args.section (stmts_of c.args.block.now.stmts.items) d c.stmts.stmts.items c.stmts.weight c.stmts.works) (ap stmts_of none) c.stmts.invariant.left in
    left-ends c.args.self.now.arrays.now c.args.self.now.mutexes.now c.args.state.now c.stmts.state (record { variables = c.truncate.new.self; slot = c.stmts.state.slot; site = c.stmts.state.site }) c.args.section (stmts_of c.args.block.now.stmts.items) c.stmts.stmts.items c.stmts.weight c.stmts.works _ l refl refl refl c.stmts.invariant.light refl refl

pub loop_stmt-returns-in_err-slot-clause-reads : goal.loop_stmt-returns-in_err-slot-clause-reads
loop_stmt-returns-in_err-slot-clause-reads t c =
    let p = err_from_is_err_and c.from_residual.result c.from_residual.ensures.1 in
    λ line rest. rw (p.1, p.2, ← c.copy-name.ensures) (loop-range-first (names_at c.args.self.now.arrays.now c.args.self.now.mutexes.now c.args.state.now c.args.section) line c.args.range.now.name_line c.copy-name.result c.args.range.now.in_line (tree_of c.args.range.now.from) c.args.range.now.dots (tree_of c.args.range.now.to) c.args.body.now.opened (stmts_of c.args.body.now.stmts.items) c.args.body.now.closed rest c.in_err-slot.field-0.0 c.in_err-slot.ensures.settled)

pub loop_stmt-returns-in_err-block-clause-reads : goal.loop_stmt-returns-in_err-block-clause-reads
loop_stmt-returns-in_err-block-clause-reads t c =
    let inner_is : c.inside_branch-inner.result ≡ record c.args.section { uneven = c.args.section.uneven || not (is_fixed (tree_of c.args.range.now.from) (tree_of c.args.range.now.to)) } = rw (← c.is_fixed.ensures) c.inside_branch-inner.ensures in
    let p = err_from_is_err_and c.from_residual-in_err-block.result c.from_residual-in_err-block.ensures.1 in
    λ line rest. rw (p.1, p.2, ← c.copy-name.ensures) (loop-body-first (names_at c.args.self.now.arrays.now c.args.self.now.mutexes.now c.range.new.state c.inside_branch-inner.result) (names_at c.args.self.now.arrays.now c.args.self.now.mutexes.now c.args.state.now c.args.section) line c.args.range.now.name_line c.copy-name.result c.args.range.now.in_line (tree_of c.args.range.now.from) c.args.range.now.dots (tree_of c.args.range.now.to) c.args.body.now.opened (stmts_of c.args.body.now.stmts.items) c.args.body.now.closed rest c.in_err-block.field-0.0 (place-loop c.args.self.now.arrays.now c.args.self.now.mutexes.now c.args.state.now c.range.new.state c.args.section c.inside_branch-inner.result c.copy-name.result (not (is_fixed (tree_of c.args.range.now.from) (tree_of c.args.range.now.to))) inner_is c.in_ok-slot.ensures.slot c.in_ok-slot.ensures.variables) c.in_ok-slot.ensures.settled.0 c.in_err-block.ensures.reads)

pub for_stmt-returns-in_err-slot-clause-reads : goal.for_stmt-returns-in_err-slot-clause-reads
for_stmt-returns-in_err-slot-clause-reads t c =
    let p = err_from_is_err_and c.from_residual-in_err-slot.result c.from_residual-in_err-slot.ensures.1 in
    λ rest. rw (p.1, p.2, ← c.copy-name.ensures) (for-range-first (names_at c.args.self.now.arrays.now c.args.self.now.mutexes.now c.args.state.now c.args.section) c.args.line c.args.range.now.name_line c.copy-name.result c.args.range.now.in_line (tree_of c.args.range.now.from) c.args.range.now.dots (tree_of c.args.range.now.to) (schedule_tree c.args.schedule) c.args.nowait c.args.body.now.opened (stmts_of c.args.body.now.stmts.items) c.args.body.now.closed rest c.in_err-slot.field-0.0 c.in_ok-check_shared.ensures.0 c.in_err-slot.ensures.settled)

pub for_stmt-returns-in_err-schedule-clause-reads : goal.for_stmt-returns-in_err-schedule-clause-reads
for_stmt-returns-in_err-schedule-clause-reads t c =
    let p = err_from_is_err_and c.from_residual-in_err-schedule.result c.from_residual-in_err-schedule.ensures.1 in
    λ rest. rw (p.1, p.2, ← c.copy-name.ensures) (for-schedule-first (names_at c.args.self.now.arrays.now c.args.self.now.mutexes.now c.args.state.now c.args.section) c.args.line c.args.range.now.name_line c.copy-name.result c.args.range.now.in_line (tree_of c.args.range.now.from) c.args.range.now.dots (tree_of c.args.range.now.to) (schedule_tree c.args.schedule) c.args.nowait c.args.body.now.opened (stmts_of c.args.body.now.stmts.items) c.args.body.now.closed rest c.in_err-schedule.field-0.0 c.in_ok-check_shared.ensures.0 c.in_ok-slot.ensures.settled.0 c.in_err-schedule.ensures)

pub for_stmt-returns-in_err-block-clause-reads : goal.for_stmt-returns-in_err-block-clause-reads
for_stmt-returns-in_err-block-clause-reads t c =
    let p = err_from_is_err_and c.from_residual-in_err-block.result c.from_residual-in_err-block.ensures.1 in
    λ rest. rw (p.1, p.2, ← c.copy-name.ensures) (for-body-first (names_at c.args.self.now.arrays.now c.args.self.now.mutexes.now c.range.new.state c.inside_work.result) (names_at c.args.self.now.arrays.now c.args.self.now.mutexes.now c.args.state.now c.args.section) c.args.line c.args.range.now.name_line c.copy-name.result c.args.range.now.in_line (tree_of c.args.range.now.from) c.args.range.now.dots (tree_of c.args.range.now.to) (schedule_tree c.args.schedule) c.args.nowait c.args.body.now.opened (stmts_of c.args.body.now.stmts.items) c.args.body.now.closed rest c.in_err-block.field-0.0 (place-work c.args.self.now.arrays.now c.args.self.now.mutexes.now c.args.state.now c.range.new.state c.args.section c.inside_work.result c.copy-name.result c.inside_work.ensures c.in_ok-slot.ensures.slot c.in_ok-slot.ensures.variables) c.in_ok-check_shared.ensures.0 c.in_ok-slot.ensures.settled.0 c.in_ok-schedule.ensures.0 c.in_err-block.ensures.reads)

pub stmt-if_stmt-requires : goal.stmt-if_stmt-requires
stmt-if_stmt-requires t c =
    let is = ap (λ (s : Statement). stmt_before s NoMore) c.in-If.is ∙ before_if c.in-If.line c.in-If.test c.in-If.yes NoMore in
    let e : stmts_sites (stmt_before c.args.stmt.now NoMore) ≡ sites (tree_of c.in-If.test) + (stmts_sites (stmts_of c.in-If.yes.stmts.items) + 0) = ap stmts_sites is in
    let d : slots (stmt_before c.args.stmt.now NoMore) ≡ slots (stmts_of c.in-If.yes.stmts.items) + 0 = ap slots is in
    let z : size (stmt_before c.args.stmt.now NoMore) ≡ 1 + (size (stmts_of c.in-If.yes.stmts.items) + 0) = ap size is in
    let falls = c.decreases in
    let room = c.requires.room in
    let most = c.requires.slots in
    (omega (arith, falls, z), (c.requires.few, (c.requires.few_mutexes, (omega (arith, e, room), omega (arith, d, most)))))

pub stmt-if_else_stmt-requires : goal.stmt-if_else_stmt-requires
stmt-if_else_stmt-requires t c =
    let is = ap (λ (s : Statement). stmt_before s NoMore) c.in-IfElse.is ∙ before_if_else c.in-IfElse.line c.in-IfElse.test c.in-IfElse.yes c.in-IfElse.else_line c.in-IfElse.no NoMore in
    let e : stmts_sites (stmt_before c.args.stmt.now NoMore) ≡ sites (tree_of c.in-IfElse.test) + (stmts_sites (stmts_of c.in-IfElse.yes.stmts.items) + (stmts_sites (stmts_of c.in-IfElse.no.stmts.items) + 0)) = ap stmts_sites is in
    let d : slots (stmt_before c.args.stmt.now NoMore) ≡ slots (stmts_of c.in-IfElse.yes.stmts.items) + (slots (stmts_of c.in-IfElse.no.stmts.items) + 0) = ap slots is in
    let z : size (stmt_before c.args.stmt.now NoMore) ≡ 1 + (size (stmts_of c.in-IfElse.yes.stmts.items) + (size (stmts_of c.in-IfElse.no.stmts.items) + 0)) = ap size is in
    let falls = c.decreases in
    let room = c.requires.room in
    let most = c.requires.slots in
    (omega (arith, falls, z), (c.requires.few, (c.requires.few_mutexes, (omega (arith, e, room), omega (arith, d, most)))))

pub stmt-parallel_stmt-requires : goal.stmt-parallel_stmt-requires
stmt-parallel_stmt-requires t c =
    let is = ap (λ (s : Statement). stmt_before s NoMore) c.in-Parallel.is ∙ before_parallel c.in-Parallel.line c.in-Parallel.number_line c.in-Parallel.span c.in-Parallel.body NoMore in
    let e : stmts_sites (stmt_before c.args.stmt.now NoMore) ≡ stmts_sites (stmts_of c.in-Parallel.body.stmts.items) + 0 = ap stmts_sites is in
    let d : slots (stmt_before c.args.stmt.now NoMore) ≡ slots (stmts_of c.in-Parallel.body.stmts.items) + 0 = ap slots is in
    let z : size (stmt_before c.args.stmt.now NoMore) ≡ 1 + (size (stmts_of c.in-Parallel.body.stmts.items) + 0) = ap size is in
    let falls = c.decreases in
    let room = c.requires.room in
    let most = c.requires.slots in
    (omega (arith, falls, z), (c.requires.few, (c.requires.few_mutexes, (omega (arith, e, room), omega (arith, d, most)))))

pub stmt-critical_stmt-requires : goal.stmt-critical_stmt-requires
stmt-critical_stmt-requires t c =
    let is = ap (λ (s : Statement). stmt_before s NoMore) c.in-Critical.is ∙ before_critical c.in-Critical.line c.in-Critical.body NoMore in
    let e : stmts_sites (stmt_before c.args.stmt.now NoMore) ≡ stmts_sites (stmts_of c.in-Critical.body.stmts.items) + 0 = ap stmts_sites is in
    let d : slots (stmt_before c.args.stmt.now NoMore) ≡ slots (stmts_of c.in-Critical.body.stmts.items) + 0 = ap slots is in
    let z : size (stmt_before c.args.stmt.now NoMore) ≡ 1 + (size (stmts_of c.in-Critical.body.stmts.items) + 0) = ap size is in
    let falls = c.decreases in
    let room = c.requires.room in
    let most = c.requires.slots in
    (omega (arith, falls, z), (c.requires.few, (c.requires.few_mutexes, (omega (arith, e, room), omega (arith, d, most)))))

pub stmt-critical_of_stmt-requires : goal.stmt-critical_of_stmt-requires
stmt-critical_of_stmt-requires t c =
    let is = ap (λ (s : Statement). stmt_before s NoMore) c.in-CriticalOf.is ∙ before_critical_of c.in-CriticalOf.line c.in-CriticalOf.name_line c.in-CriticalOf.name c.in-CriticalOf.body NoMore in
    let e : stmts_sites (stmt_before c.args.stmt.now NoMore) ≡ stmts_sites (stmts_of c.in-CriticalOf.body.stmts.items) + 0 = ap stmts_sites is in
    let d : slots (stmt_before c.args.stmt.now NoMore) ≡ slots (stmts_of c.in-CriticalOf.body.stmts.items) + 0 = ap slots is in
    let z : size (stmt_before c.args.stmt.now NoMore) ≡ 1 + (size (stmts_of c.in-CriticalOf.body.stmts.items) + 0) = ap size is in
    let falls = c.decreases in
    let room = c.requires.room in
    let most = c.requires.slots in
    (omega (arith, falls, z), (c.requires.few, (c.requires.few_mutexes, (omega (arith, e, room), omega (arith, d, most)))))

pub stmt-loop_stmt-requires : goal.stmt-loop_stmt-requires
stmt-loop_stmt-requires t c =
    let is = ap (λ (s : Statement). stmt_before s NoMore) c.in-Loop.is ∙ before_loop c.in-Loop.line c.in-Loop.range c.in-Loop.body NoMore in
    let e : stmts_sites (stmt_before c.args.stmt.now NoMore) ≡ sites (tree_of c.in-Loop.range.from) + (sites (tree_of c.in-Loop.range.to) + (stmts_sites (stmts_of c.in-Loop.body.stmts.items) + 0)) = ap stmts_sites is in
    let d : slots (stmt_before c.args.stmt.now NoMore) ≡ 1 + (slots (stmts_of c.in-Loop.body.stmts.items) + 0) = ap slots is in
    let z : size (stmt_before c.args.stmt.now NoMore) ≡ 1 + (size (stmts_of c.in-Loop.body.stmts.items) + 0) = ap size is in
    let falls = c.decreases in
    let room = c.requires.room in
    let most = c.requires.slots in
    (omega (arith, falls, z), (c.requires.few, (c.requires.few_mutexes, (omega (arith, e, room), omega (arith, d, most)))))

pub stmt-for_stmt-requires : goal.stmt-for_stmt-requires
stmt-for_stmt-requires t c =
    let is = ap (λ (s : Statement). stmt_before s NoMore) c.in-For.is ∙ before_for c.in-For.line c.in-For.range c.in-For.schedule c.in-For.nowait c.in-For.body NoMore in
    let e : stmts_sites (stmt_before c.args.stmt.now NoMore) ≡ sites (tree_of c.in-For.range.from) + (sites (tree_of c.in-For.range.to) + (stmts_sites (stmts_of c.in-For.body.stmts.items) + 0)) = ap stmts_sites is in
    let d : slots (stmt_before c.args.stmt.now NoMore) ≡ 1 + (slots (stmts_of c.in-For.body.stmts.items) + 0) = ap slots is in
    let z : size (stmt_before c.args.stmt.now NoMore) ≡ 1 + (size (stmts_of c.in-For.body.stmts.items) + 0) = ap size is in
    let falls = c.decreases in
    let room = c.requires.room in
    let most = c.requires.slots in
    (omega (arith, falls, z), (c.requires.few, (c.requires.few_mutexes, (omega (arith, e, room), omega (arith, d, most)))))

pub stmts-stmt-requires : goal.stmts-stmt-requires
stmts-stmt-requires t c =
    let split : c.stmts.rest.now ≡ c.in-Some.first.now ∷ c.in-Some.others.now = c.in-Some.ensures.cases.0 in
    let rest : Stmts = stmts_of c.in-Some.others.now in
    let here : stmts_of c.stmts.rest.now ≡ stmt_before c.in-Some.first.now rest = ap stmts_of split in
    let parts = apart c.in-Some.first.now rest in
    let e = parts.sites_are in let d = parts.slots_are in let z = parts.size_is in
    let e2 = ap stmts_sites here in let d2 = ap slots here in let z2 = ap size here in
    let e3 = c.stmts.invariant.left.sites_are in let d3 = c.stmts.invariant.left.slots_are in let z3 = c.stmts.invariant.smaller in
    let falls = c.decreases in
    let room = c.requires.room in
    let most = c.requires.slots in
    (omega (arith, falls, z, z2, z3), (c.requires.few, (c.requires.few_mutexes, (omega (arith, e, e2, e3, room), omega (arith, d, d2, d3, most)))))

pub stmt-simple_stmt-requires-clause-simple : goal.stmt-simple_stmt-requires-clause-simple
stmt-simple_stmt-requires-clause-simple t c =
    is_simple c.args.stmt.now c.in_default.not-If c.in_default.not-IfElse c.in_default.not-Loop c.in_default.not-Parallel c.in_default.not-For c.in_default.not-Critical c.in_default.not-CriticalOf
