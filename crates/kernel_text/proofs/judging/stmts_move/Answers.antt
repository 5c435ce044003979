use Rattle.std.proofs.Common.{◌≡◌, false, rules, refl}
use Rattle.kernel_text.specs.declared.token.Word.TheVariants as word
use Rattle.kernel_text.specs.declared.token.Lexeme.TheVariants.{Reserved}
use Rattle.kernel_text.specs.Wanting.{stack_of}
use Rattle.kernel_text.proofs.Moving.{wanted}
use Rattle.kernel_text.proofs.UnfoldingStmts.{let-takes, parallel-takes, barrier-takes, critical-takes, assign-takes, is_stmt, stmts-skip}
use Rattle.kernel_text.proofs.judging.stmts_move.Goals as goal

pub returns-in-Reserved-Let : goal.returns-in-Reserved-Let
returns-in-Reserved-Let c =
    let is : c.args.lexeme.now ≡ Reserved word.Let = search rules in rw is (wanted c.want_all.result _ _ _ _ _ (let-takes c.args.level (stack_of c.args.stack.now.items) c.requires) c.want_all.ensures)

pub returns-in-Reserved-Parallel : goal.returns-in-Reserved-Parallel
returns-in-Reserved-Parallel c =
    let is : c.args.lexeme.now ≡ Reserved word.Parallel = search rules in
    rw is (wanted c.want_all-in-Reserved-Parallel.result _ _ _ _ _ (parallel-takes c.args.level (stack_of c.args.stack.now.items) c.requires) c.want_all-in-Reserved-Parallel.ensures)

pub returns-in-Reserved-Barrier : goal.returns-in-Reserved-Barrier
returns-in-Reserved-Barrier c =
    let is : c.args.lexeme.now ≡ Reserved word.Barrier = search rules in
    rw is (wanted c.want_all-in-Reserved-Barrier.result _ _ _ _ _ (barrier-takes c.args.level (stack_of c.args.stack.now.items) c.requires) c.want_all-in-Reserved-Barrier.ensures)

pub returns-in-Reserved-Critical : goal.returns-in-Reserved-Critical
returns-in-Reserved-Critical c =
    let is : c.args.lexeme.now ≡ Reserved word.Critical = search rules in
    rw is (wanted c.want_all-in-Reserved-Critical.result _ _ _ _ _ (critical-takes c.args.level (stack_of c.args.stack.now.items) c.requires) c.want_all-in-Reserved-Critical.ensures)

pub returns-in-Named : goal.returns-in-Named
returns-in-Named c =
    rw c.in-Named.is (wanted c.want_all-in-Named.result _ _ _ _ _ (assign-takes c.in-Named.field-0 c.args.level (stack_of c.args.stack.now.items) c.requires) c.want_all-in-Named.ensures)

pub returns-in_default : goal.returns-in_default
returns-in_default c = let is : is_stmt c.args.lexeme.now ≡ false = search rules in (stmts-skip c.args.lexeme.now c.args.level (stack_of c.args.stack.now.items) is, refl)

pub returns-in_default-2 : goal.returns-in_default-2
returns-in_default-2 c = let is : is_stmt c.args.lexeme.now ≡ false = search rules in (stmts-skip c.args.lexeme.now c.args.level (stack_of c.args.stack.now.items) is, refl)
