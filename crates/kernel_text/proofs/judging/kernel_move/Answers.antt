use Rattle.std.proofs.Common.{◌≡◌, false, rules}
use Rattle.kernel_text.specs.declared.token.Word.TheVariants as word
use Rattle.kernel_text.specs.declared.token.Lexeme.TheVariants.{Reserved}
use Rattle.kernel_text.specs.Wanting.{stack_of}
use Rattle.kernel_text.proofs.Moving.{wanted}
use Rattle.kernel_text.proofs.UnfoldingStmts.{array-takes, mutex-takes, main-takes, kernel-refuses, is_kernel}
use Rattle.kernel_text.proofs.judging.kernel_move.Goals as goal

pub returns-in-Reserved-Array : goal.returns-in-Reserved-Array
returns-in-Reserved-Array c =
    let is : c.args.lexeme.now ≡ Reserved word.Array = search rules in rw is (wanted c.want_all.result _ _ _ _ _ (array-takes (stack_of c.args.stack.now.items) c.requires) c.want_all.ensures)

pub returns-in-Reserved-Mutex : goal.returns-in-Reserved-Mutex
returns-in-Reserved-Mutex c =
    let is : c.args.lexeme.now ≡ Reserved word.Mutex = search rules in rw is (wanted c.want_all-in-Reserved-Mutex.result _ _ _ _ _ (mutex-takes (stack_of c.args.stack.now.items) c.requires) c.want_all-in-Reserved-Mutex.ensures)

pub returns-in-Reserved-Main : goal.returns-in-Reserved-Main
returns-in-Reserved-Main c =
    let is : c.args.lexeme.now ≡ Reserved word.Main = search rules in rw is (wanted c.want_all-in-Reserved-Main.result _ _ _ _ _ (main-takes (stack_of c.args.stack.now.items) c.requires) c.want_all-in-Reserved-Main.ensures)

pub returns-in_default : goal.returns-in_default
returns-in_default c =
    let is : is_kernel c.args.lexeme.now ≡ false = search rules in kernel-refuses c.args.lexeme.now (stack_of c.args.stack.now.items) is

pub returns-in_default-2 : goal.returns-in_default-2
returns-in_default-2 c =
    let is : is_kernel c.args.lexeme.now ≡ false = search rules in kernel-refuses c.args.lexeme.now (stack_of c.args.stack.now.items) is
