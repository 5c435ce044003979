use Rattle.std.proofs.Common.{◌≡◌, ◌+◌, false, refl, ap, ◌∙◌, arith}
use Rattle.std.proofs.lemmas.Result.{err_from_is_err_and}
use Rattle.kernel_text.specs.Grammar.{NoMore}
use Rattle.kernel_parser.specs.Trees.{tree_of, stmt_before}
use Rattle.kernel_parser.specs.declared.tree.Statement.{Statement}
use Rattle.kernel_parser.proofs.Equations.{before_let, before_assign, before_store, before_update, before_barrier}
use Rattle.kernel_text.specs.declared.fault.KernelWhy.TheVariants as why
use Rattle.kernel_reader.specs.Rules.{fault_if, is_misplaced, declared_faults, assigned_faults, array_faults, tree_faults}
use Rattle.kernel_reader.specs.Resolve.{sites, stmts_sites}
use Rattle.kernel_reader.specs.Folding.{names_at}
use Rattle.kernel_reader.proofs.Firsts.{part-2, part-3}
use Rattle.kernel_reader.proofs.Advances.{let-read, assign-read, store-read, update-read, barrier-read}
use Rattle.kernel_reader.proofs.Simple.{simple_only}
use Rattle.kernel_reader.proofs.place.Known.simple_stmt.Goals as goal

pub let_stmt-requires-clause-room : goal.let_stmt-requires-clause-room
let_stmt-requires-clause-room c =
    let e : stmts_sites (stmt_before c.args.stmt.now NoMore) ≡ sites (tree_of c.in-Let.value) + 0 = ap stmts_sites (ap (λ (s : Statement). stmt_before s NoMore) c.in-Let.is ∙ before_let c.in-Let.line c.in-Let.name_line c.in-Let.name c.in-Let.sign_line c.in-Let.value NoMore) in
    let room = c.requires.room in omega (arith, e, room)

pub assign_stmt-requires-clause-room : goal.assign_stmt-requires-clause-room
assign_stmt-requires-clause-room c =
    let e : stmts_sites (stmt_before c.args.stmt.now NoMore) ≡ sites (tree_of c.in-Assign.value) + 0 = ap stmts_sites (ap (λ (s : Statement). stmt_before s NoMore) c.in-Assign.is ∙ before_assign c.in-Assign.line c.in-Assign.name c.in-Assign.sign_line c.in-Assign.value NoMore) in
    let room = c.requires.room in omega (arith, e, room)

pub store_stmt-requires-clause-room : goal.store_stmt-requires-clause-room
store_stmt-requires-clause-room c =
    let e : stmts_sites (stmt_before c.args.stmt.now NoMore) ≡ 1 + (sites (tree_of c.in-Store.index) + (sites (tree_of c.in-Store.value) + 0)) = ap stmts_sites (ap (λ (s : Statement). stmt_before s NoMore) c.in-Store.is ∙ before_store c.in-Store.line c.in-Store.name c.in-Store.opened c.in-Store.index c.in-Store.closed c.in-Store.sign_line c.in-Store.value NoMore) in
    let room = c.requires.room in omega (arith, e, room)

pub update_stmt-requires-clause-room : goal.update_stmt-requires-clause-room
update_stmt-requires-clause-room c =
    let e : stmts_sites (stmt_before c.args.stmt.now NoMore) ≡ 1 + (sites (tree_of c.in-Update.index) + (sites (tree_of c.in-Update.value) + 0)) = ap stmts_sites (ap (λ (s : Statement). stmt_before s NoMore) c.in-Update.is ∙ before_update c.in-Update.line c.in-Update.name_line c.in-Update.name c.in-Update.opened c.in-Update.index c.in-Update.closed c.in-Update.minus c.in-Update.sign_line c.in-Update.value NoMore) in
    let room = c.requires.room in omega (arith, e, room)

pub returns-in_err-let_stmt-in-Let-clause-reads : goal.returns-in_err-let_stmt-in-Let-clause-reads
returns-in_err-let_stmt-in-Let-clause-reads c =
    let p = err_from_is_err_and c.from_residual.result c.from_residual.ensures.1 in
    λ rest.
    let at = ap (λ (s : Statement). stmt_before s rest) c.in-Let.is ∙ before_let c.in-Let.line c.in-Let.name_line c.in-Let.name c.in-Let.sign_line c.in-Let.value rest in
    rw (p.1, p.2, at, ← c.copy.ensures) (part-2 (declared_faults (names_at c.args.self.now.arrays.now c.args.self.now.mutexes.now c.args.state.now c.args.section) c.in-Let.name_line c.copy.result) (tree_faults (names_at c.args.self.now.arrays.now c.args.self.now.mutexes.now c.args.state.now c.args.section).names false (tree_of c.in-Let.value)) _ _ c.in_err-let_stmt-in-Let.ensures.settled)

pub returns-in_ok-let_stmt-in-Let-clause-reads : goal.returns-in_ok-let_stmt-in-Let-clause-reads
returns-in_ok-let_stmt-in-Let-clause-reads c =
    λ rest.
    let at = ap (λ (s : Statement). stmt_before s rest) c.in-Let.is ∙ before_let c.in-Let.line c.in-Let.name_line c.in-Let.name c.in-Let.sign_line c.in-Let.value rest in
    rw (c.plain.ensures, at, ← c.copy.ensures) (let-read c.args.self.now.arrays.now c.args.self.now.mutexes.now c.args.state.now c.let_stmt.new.state c.args.section c.in-Let.line c.in-Let.name_line c.copy.result c.in-Let.sign_line (tree_of c.in-Let.value) c.in_ok-let_stmt-in-Let.field-0 rest c.in_ok-let_stmt-in-Let.ensures.settled.1 c.in_ok-let_stmt-in-Let.ensures.settled.0 c.in_ok-let_stmt-in-Let.ensures.site c.in_ok-let_stmt-in-Let.ensures.slot c.in_ok-let_stmt-in-Let.ensures.variables)

pub returns-in_err-assign_stmt-in-Assign-clause-reads : goal.returns-in_err-assign_stmt-in-Assign-clause-reads
returns-in_err-assign_stmt-in-Assign-clause-reads c =
    let p = err_from_is_err_and c.from_residual-in_err-assign_stmt-in-Assign.result c.from_residual-in_err-assign_stmt-in-Assign.ensures.1 in
    λ rest.
    let at = ap (λ (s : Statement). stmt_before s rest) c.in-Assign.is ∙ before_assign c.in-Assign.line c.in-Assign.name c.in-Assign.sign_line c.in-Assign.value rest in
    rw (p.1, p.2, at) (part-2 (assigned_faults (names_at c.args.self.now.arrays.now c.args.self.now.mutexes.now c.args.state.now c.args.section) c.in-Assign.line c.in-Assign.name) (tree_faults (names_at c.args.self.now.arrays.now c.args.self.now.mutexes.now c.args.state.now c.args.section).names false (tree_of c.in-Assign.value)) _ _ c.in_err-assign_stmt-in-Assign.ensures.settled)

pub returns-in_ok-assign_stmt-in-Assign-clause-reads : goal.returns-in_ok-assign_stmt-in-Assign-clause-reads
returns-in_ok-assign_stmt-in-Assign-clause-reads c =
    λ rest.
    let at = ap (λ (s : Statement). stmt_before s rest) c.in-Assign.is ∙ before_assign c.in-Assign.line c.in-Assign.name c.in-Assign.sign_line c.in-Assign.value rest in
    rw (c.plain-in-Assign.ensures, at) (assign-read c.args.self.now.arrays.now c.args.self.now.mutexes.now c.args.state.now c.assign_stmt.new.state c.args.section c.in-Assign.line c.in-Assign.name c.in-Assign.sign_line (tree_of c.in-Assign.value) c.in_ok-assign_stmt-in-Assign.field-0 rest c.in_ok-assign_stmt-in-Assign.ensures.settled.1 c.in_ok-assign_stmt-in-Assign.ensures.settled.0 c.in_ok-assign_stmt-in-Assign.ensures.site c.in_ok-assign_stmt-in-Assign.ensures.slot c.in_ok-assign_stmt-in-Assign.ensures.variables)

pub returns-in_err-store_stmt-in-Store-clause-reads : goal.returns-in_err-store_stmt-in-Store-clause-reads
returns-in_err-store_stmt-in-Store-clause-reads c =
    let p = err_from_is_err_and c.from_residual-in_err-store_stmt-in-Store.result c.from_residual-in_err-store_stmt-in-Store.ensures.1 in
    λ rest.
    let at = ap (λ (s : Statement). stmt_before s rest) c.in-Store.is ∙ before_store c.in-Store.line c.in-Store.name c.in-Store.opened c.in-Store.index c.in-Store.closed c.in-Store.sign_line c.in-Store.value rest in
    rw (p.1, p.2, at) (part-3 (array_faults (names_at c.args.self.now.arrays.now c.args.self.now.mutexes.now c.args.state.now c.args.section).names false c.in-Store.line c.in-Store.name) (tree_faults (names_at c.args.self.now.arrays.now c.args.self.now.mutexes.now c.args.state.now c.args.section).names false (tree_of c.in-Store.index)) (tree_faults (names_at c.args.self.now.arrays.now c.args.self.now.mutexes.now c.args.state.now c.args.section).names false (tree_of c.in-Store.value)) _ _ c.in_err-store_stmt-in-Store.ensures.settled)

pub returns-in_err-update_stmt-in-Update-clause-reads : goal.returns-in_err-update_stmt-in-Update-clause-reads
returns-in_err-update_stmt-in-Update-clause-reads c =
    let p = err_from_is_err_and c.from_residual-in_err-update_stmt-in-Update.result c.from_residual-in_err-update_stmt-in-Update.ensures.1 in
    λ rest.
    let at = ap (λ (s : Statement). stmt_before s rest) c.in-Update.is ∙ before_update c.in-Update.line c.in-Update.name_line c.in-Update.name c.in-Update.opened c.in-Update.index c.in-Update.closed c.in-Update.minus c.in-Update.sign_line c.in-Update.value rest in
    rw (p.1, p.2, at) (part-3 (array_faults (names_at c.args.self.now.arrays.now c.args.self.now.mutexes.now c.args.state.now c.args.section).names false c.in-Update.name_line c.in-Update.name) (tree_faults (names_at c.args.self.now.arrays.now c.args.self.now.mutexes.now c.args.state.now c.args.section).names false (tree_of c.in-Update.index)) (tree_faults (names_at c.args.self.now.arrays.now c.args.self.now.mutexes.now c.args.state.now c.args.section).names false (tree_of c.in-Update.value)) _ _ c.in_err-update_stmt-in-Update.ensures.settled)

pub returns-in_ok-store_stmt-in-Store-clause-reads : goal.returns-in_ok-store_stmt-in-Store-clause-reads
returns-in_ok-store_stmt-in-Store-clause-reads c =
    λ rest.
    let at = ap (λ (s : Statement). stmt_before s rest) c.in-Store.is ∙ before_store c.in-Store.line c.in-Store.name c.in-Store.opened c.in-Store.index c.in-Store.closed c.in-Store.sign_line c.in-Store.value rest in
    rw (c.plain-in-Store.ensures, at) (store-read c.args.self.now.arrays.now c.args.self.now.mutexes.now c.args.state.now c.store_stmt.new.state c.args.section c.in-Store.line c.in-Store.name c.in-Store.opened (tree_of c.in-Store.index) c.in-Store.closed c.in-Store.sign_line (tree_of c.in-Store.value) c.in_ok-store_stmt-in-Store.field-0 rest c.in_ok-store_stmt-in-Store.ensures.settled.1 c.in_ok-store_stmt-in-Store.ensures.settled.0 c.in_ok-store_stmt-in-Store.ensures.site c.in_ok-store_stmt-in-Store.ensures.slot c.in_ok-store_stmt-in-Store.ensures.variables)

pub returns-in_ok-update_stmt-in-Update-clause-reads : goal.returns-in_ok-update_stmt-in-Update-clause-reads
returns-in_ok-update_stmt-in-Update-clause-reads c =
    λ rest.
    let at = ap (λ (s : Statement). stmt_before s rest) c.in-Update.is ∙ before_update c.in-Update.line c.in-Update.name_line c.in-Update.name c.in-Update.opened c.in-Update.index c.in-Update.closed c.in-Update.minus c.in-Update.sign_line c.in-Update.value rest in
    rw (c.plain-in-Update.ensures, at) (update-read c.args.self.now.arrays.now c.args.self.now.mutexes.now c.args.state.now c.update_stmt.new.state c.args.section c.in-Update.line c.in-Update.name_line c.in-Update.name c.in-Update.opened (tree_of c.in-Update.index) c.in-Update.closed c.in-Update.minus c.in-Update.sign_line (tree_of c.in-Update.value) c.in_ok-update_stmt-in-Update.field-0 rest c.in_ok-update_stmt-in-Update.ensures.settled.1 c.in_ok-update_stmt-in-Update.ensures.settled.0 c.in_ok-update_stmt-in-Update.ensures.site c.in_ok-update_stmt-in-Update.ensures.slot c.in_ok-update_stmt-in-Update.ensures.variables)

pub returns-in_err-check_shared-in-Barrier-clause-reads : goal.returns-in_err-check_shared-in-Barrier-clause-reads
returns-in_err-check_shared-in-Barrier-clause-reads c =
    let p = err_from_is_err_and c.from_residual-in_err-check_shared-in-Barrier.result c.from_residual-in_err-check_shared-in-Barrier.ensures.1 in
    λ rest.
    let at = ap (λ (s : Statement). stmt_before s rest) c.in-Barrier.is ∙ before_barrier c.in-Barrier.line rest in
    rw (p.1, p.2, at) (part-2 (fault_if (is_misplaced (names_at c.args.self.now.arrays.now c.args.self.now.mutexes.now c.args.state.now c.args.section)) c.in-Barrier.line why.BarrierHere) (fault_if c.args.section.uneven c.in-Barrier.line why.NotUniform) _ _ c.in_err-check_shared-in-Barrier.ensures)

pub returns-in_ok-check_shared-in-Barrier-clause-reads : goal.returns-in_ok-check_shared-in-Barrier-clause-reads
returns-in_ok-check_shared-in-Barrier-clause-reads c =
    λ rest.
    let at = ap (λ (s : Statement). stmt_before s rest) c.in-Barrier.is ∙ before_barrier c.in-Barrier.line rest in
    rw (c.plain-in-Barrier.ensures, at) (barrier-read c.args.self.now.arrays.now c.args.self.now.mutexes.now c.args.state.now c.args.state.now c.args.section c.in-Barrier.line c.made_barrier.result rest c.made_barrier.ensures c.in_ok-check_shared-in-Barrier.ensures.0 refl refl refl)

pub unreachable-requires : goal.unreachable-requires
unreachable-requires c =
    simple_only c.args.stmt.now c.requires.simple c.in_default.not-Let c.in_default.not-Assign c.in_default.not-Store c.in_default.not-Update c.in_default.not-Barrier
