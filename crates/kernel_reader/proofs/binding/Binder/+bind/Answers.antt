use Rattle.std.proofs.Common.{rules, ◌≡◌, ◌&&◌, ◌∷◌, ◌++◌, reverse, [], arith}
use Rattle.std.proofs.lemmas.Result.{err_from_is_err_and}
use Rattle.kernel_text.specs.declared.fault.KernelWhy.TheVariants as why
use Rattle.kernel_reader.specs.Scope.{Names}
use Rattle.kernel_reader.specs.Rules.{fault_if, is_unfit}
use Rattle.kernel_reader.proofs.Broken.{first-before, first-behind}
use Rattle.kernel_parser.specs.Trees.{tree_of}
use Rattle.kernel_reader.specs.Rows.{in_row}
use Rattle.kernel_reader.proofs.Rowing.{head-is, broken-head, next-is, broken-next, begun-next}
use Rattle.kernel_reader.proofs.binding.Binder.+bind.Goals as goal

pub bind-requires-in-Binary : goal.bind-requires-in-Binary
bind-requires-in-Binary t c =
    let row : in_row (tree_of c.in_ok-first-in-Binary.first.now) c.in_ok-first-in-Binary.behind.items ≡ tree_of c.args.tree.now = search rules in
    let head = head-is (tree_of c.in_ok-first-in-Binary.first.now) c.in_ok-first-in-Binary.behind.items (tree_of c.args.tree.now) row c.in_ok-first-in-Binary.ensures.some in
    let less = head.smaller in
    let few = head.room in
    let room = c.requires.room in
    let falls = c.decreases in
    (omega (arith, falls, less), (c.requires.few, omega (arith, few, room)))

pub returns-in_err-bound-in-Binary-clause-bound : goal.returns-in_err-bound-in-Binary-clause-bound
returns-in_err-bound-in-Binary-clause-bound t c =
    let row : in_row (tree_of c.in_ok-first-in-Binary.first.now) c.in_ok-first-in-Binary.behind.items ≡ tree_of c.args.tree.now = search rules in
    let n : Names = record { arrays = c.args.self.now.arrays.now; scope = reverse c.args.self.now.variables.now } in
    let p = err_from_is_err_and c.from_residual-in_err-bound-in-Binary.result c.from_residual-in_err-bound-in-Binary.ensures.1 in
    rw (p.1, p.2) (broken-head n c.args.self.now.in_bound (tree_of c.in_ok-first-in-Binary.first.now) c.in_ok-first-in-Binary.behind.items (tree_of c.args.tree.now) c.in_err-bound-in-Binary.field-0.0 row c.in_err-bound-in-Binary.ensures.bound)

pub returns-in_err-check_op-in-Binary-clause-bound :
    goal.returns-in_err-check_op-in-Binary-clause-bound
returns-in_err-check_op-in-Binary-clause-bound t c =
    let n : Names = record { arrays = c.args.self.now.arrays.now; scope = reverse c.args.self.now.variables.now } in
    let split : c.behind.behind.items ≡ c.pop.new.self.items ++ c.in-Some.field-0 ∷ [] = search rules in
    let fault = c.in_err-check_op-in-Binary.field-0.0 in
    let p = err_from_is_err_and c.from_residual-in_err-check_op-in-Binary.result c.from_residual-in_err-check_op-in-Binary.ensures.1 in
    rw (p.1, p.2) (broken-next n c.args.self.now.in_bound c.args.site (tree_of c.args.tree.now) c.behind.behind.items c.pop.new.self.items c.in-Some.field-0 c.behind.bound c.behind.next fault split c.behind.invariant
    (first-before (fault_if (c.args.self.now.in_bound && is_unfit c.in-Some.field-0.op) c.in-Some.field-0.line why.NotUniform) _ fault c.in_err-check_op-in-Binary.ensures))

pub bind-requires-in-Some : goal.bind-requires-in-Some
bind-requires-in-Some t c =
    let n : Names = record { arrays = c.args.self.now.arrays.now; scope = reverse c.args.self.now.variables.now } in
    let split : c.behind.behind.items ≡ c.pop.new.self.items ++ c.in-Some.field-0 ∷ [] = search rules in
    let next = next-is n c.args.self.now.in_bound c.args.site (tree_of c.args.tree.now) c.behind.behind.items c.pop.new.self.items c.in-Some.field-0 c.behind.bound c.behind.next split c.behind.invariant in
    let less = next.smaller in
    let within = next.room in
    let room = c.requires.room in
    let falls = c.decreases in
    (omega (arith, falls, less), (c.requires.few, omega (arith, within, room)))

pub returns-in_err-right-in-Binary-clause-bound : goal.returns-in_err-right-in-Binary-clause-bound
returns-in_err-right-in-Binary-clause-bound t c =
    let n : Names = record { arrays = c.args.self.now.arrays.now; scope = reverse c.args.self.now.variables.now } in
    let split : c.behind.behind.items ≡ c.pop.new.self.items ++ c.in-Some.field-0 ∷ [] = search rules in
    let fault = c.in_err-right-in-Binary.field-0.0 in
    let p = err_from_is_err_and c.from_residual-in_err-right-in-Binary.result c.from_residual-in_err-right-in-Binary.ensures.1 in
    rw (p.1, p.2) (broken-next n c.args.self.now.in_bound c.args.site (tree_of c.args.tree.now) c.behind.behind.items c.pop.new.self.items c.in-Some.field-0 c.behind.bound c.behind.next fault split c.behind.invariant
    (first-behind (fault_if (c.args.self.now.in_bound && is_unfit c.in-Some.field-0.op) c.in-Some.field-0.line why.NotUniform) _ fault c.in_ok-check_op-in-Binary.ensures.0 c.in_err-right-in-Binary.ensures.bound))

pub behind-preserved : goal.behind-preserved
behind-preserved t c =
    let n : Names = record { arrays = c.args.self.now.arrays.now; scope = reverse c.args.self.now.variables.now } in
    let split : c.behind.behind.items ≡ c.pop.new.self.items ++ c.in-Some.field-0 ∷ [] = search rules in
    begun-next n c.args.self.now.in_bound c.args.site (tree_of c.args.tree.now) c.behind.behind.items c.pop.new.self.items c.in-Some.field-0 c.behind.bound c.in_ok-right-in-Binary.right c.in_ok-bound-in-Binary-2.bound c.behind.next c.in_ok-right-in-Binary.after split c.behind.invariant
    c.in_ok-check_op-in-Binary.ensures.0 c.in_ok-right-in-Binary.ensures.bound.0 c.in_ok-right-in-Binary.ensures.bound.1 c.in_ok-right-in-Binary.ensures.next c.in_ok-bound-in-Binary-2.ensures.made
