use Rattle.std.proofs.Common.{sym, subst, List, []}
use Rattle.kernel_syntax.specs.declared.syntax.Stmt.{Stmt}
use Rattle.kernel_syntax.specs.Program.{code_of}
use Rattle.lane_tests.specs.Lone.{IsLone}
use Rattle.lane_tests.proofs.tests.support.only.Goals as goal

pub returns : goal.returns
returns c = subst (λ (l : List Stmt). IsLone [] (code_of l)) (sym c.in_ok-stmts.ensures.items) c.requires.lone
