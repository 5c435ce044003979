use Rattle.std.proofs.Common.{ap, sym, subst, pos, false, [], ◌∷◌, arith}
use Rattle.kernel_syntax.specs.declared.syntax.Expr.TheVariants as expr
use Rattle.kernel_syntax.specs.declared.syntax.Schedule.TheVariants.{Even}
use Rattle.kernel_syntax.specs.Bounds.{IsBoundedCode}
use Rattle.kernel_syntax.specs.Tree.{Code, Done}
use Rattle.kernel_syntax.proofs.Equations.{stmt_code-For}
use Rattle.kernel_model.specs.Parts.{Run, drawn_count}
use Rattle.kernel_model.specs.Phases.{without_barrier}
use Rattle.lane_runner.specs.Phase.{IsOfTeam}
use Rattle.lane_tests.proofs.tests.regions.in_shares.Goals as goal

pub returns-clause-bounded : goal.returns-clause-bounded
returns-clause-bounded c =
    subst IsBoundedCode (sym (stmt_code-For 0 (expr.Number (pos 0)) (expr.Number (pos 2)) Even false 5 9 c.args.body Done))
    (tt, tt, tt, record { some = omega arith; fits = omega arith }, record { some = omega arith; fits = omega arith }, c.requires.lone.bounded, tt)

pub returns-clause-own : goal.returns-clause-own
returns-clause-own c = subst (IsOfTeam 1) (sym (stmt_code-For 0 (expr.Number (pos 0)) (expr.Number (pos 2)) Even false 5 9 c.args.body Done)) c.requires.lone.alone

pub returns-clause-undrawn : goal.returns-clause-undrawn
returns-clause-undrawn c = ap (λ (code : Code). drawn_count (Run (without_barrier code) ∷ [])) (stmt_code-For 0 (expr.Number (pos 0)) (expr.Number (pos 2)) Even false 5 9 c.args.body Done)
