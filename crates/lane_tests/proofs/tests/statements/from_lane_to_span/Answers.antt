use Rattle.std.proofs.Common.{sym, subst, []}
use Rattle.kernel_syntax.specs.declared.syntax.Expr.TheVariants as expr
use Rattle.kernel_syntax.specs.Tree.{Done}
use Rattle.kernel_syntax.proofs.Equations.{stmt_code-Loop}
use Rattle.lane_tests.specs.Lone.{IsLone}
use Rattle.lane_tests.proofs.tests.statements.from_lane_to_span.Goals as goal

pub returns : goal.returns
returns c = subst (IsLone []) (sym (stmt_code-Loop 0 expr.Tid expr.Span c.args.body Done)) (record { bounded = (tt, tt, c.requires.lone.bounded, tt); alone = (c.requires.lone.alone, tt) })
