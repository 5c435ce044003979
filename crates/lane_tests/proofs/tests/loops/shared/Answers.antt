use Rattle.std.proofs.Common.{sym, subst, pos, true, to_z, of_z, w64, arith}
use Rattle.kernel_syntax.specs.declared.syntax.Expr.TheVariants as expr
use Rattle.kernel_syntax.specs.Bounds.{IsBoundedCode}
use Rattle.kernel_syntax.specs.Tree.{Done}
use Rattle.kernel_syntax.proofs.Equations.{stmt_code-For}
use Rattle.lane_runner.specs.Phase.{IsOfTeam}
use Rattle.lane_tests.proofs.tests.loops.shared.Goals as goal

pub returns-clause-bounded : goal.returns-clause-bounded
returns-clause-bounded c =
    subst IsBoundedCode (sym (stmt_code-For 0 (expr.Number (pos 0)) (expr.Number (to_z w64 (of_z w64 c.args.to))) c.args.schedule true 6 9 c.args.body Done))
    (tt, tt, c.requires.schedule, record { some = omega arith; fits = omega arith }, record { some = omega arith; fits = omega arith }, c.requires.lone.bounded, tt)

pub returns-clause-own : goal.returns-clause-own
returns-clause-own c = subst (IsOfTeam 1) (sym (stmt_code-For 0 (expr.Number (pos 0)) (expr.Number (to_z w64 (of_z w64 c.args.to))) c.args.schedule true 6 9 c.args.body Done)) c.requires.lone.alone
