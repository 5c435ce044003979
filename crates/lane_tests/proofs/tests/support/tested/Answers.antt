use Rattle.std.proofs.Common.{sym, subst, []}
use Rattle.kernel_syntax.specs.declared.syntax.Expr.TheVariants as expr
use Rattle.kernel_syntax.specs.Tree.{Done}
use Rattle.kernel_syntax.proofs.Equations.{stmt_code-If}
use Rattle.lane_tests.specs.Lone.{IsLone}
use Rattle.lane_tests.proofs.tests.support.tested.Goals as goal

pub returns : goal.returns
returns c =
    subst (IsLone []) (sym (stmt_code-If (expr.Slot 0) c.args.yes c.args.no Done))
    (record { bounded = (tt, c.requires.lone.bounded, c.requires.no_lone.bounded, tt); alone = (c.requires.lone.alone, c.requires.no_lone.alone, tt) })
