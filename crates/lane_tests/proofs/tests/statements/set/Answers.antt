use Rattle.std.proofs.Common.{sym, subst, []}
use Rattle.kernel_syntax.specs.Tree.{Done}
use Rattle.kernel_syntax.proofs.Equations.{stmt_code-Set}
use Rattle.lane_tests.specs.Lone.{IsLone}
use Rattle.lane_tests.proofs.tests.statements.set.Goals as goal

pub returns : goal.returns
returns c = subst (IsLone []) (sym (stmt_code-Set 1 c.args.value Done)) (record { bounded = (c.requires.value, tt); alone = tt })
