use Rattle.std.proofs.Common.{ap, sym, subst, pos, [], ◌∷◌}
use Rattle.kernel_syntax.specs.declared.syntax.Expr.TheVariants as expr
use Rattle.kernel_syntax.specs.Tree.{Code, Done}
use Rattle.kernel_syntax.proofs.Equations.{stmt_code-Loop}
use Rattle.kernel_model.specs.Parts.{Run, drawn_count}
use Rattle.kernel_model.specs.Phases.{without_barrier}
use Rattle.lane_runner.specs.Phase.{IsOfTeam}
use Rattle.lane_tests.specs.Lone.{IsLone}
use Rattle.lane_tests.proofs.tests.support.in_loop.Goals as goal

pub returns-clause-lone : goal.returns-clause-lone
returns-clause-lone c =
    subst (IsLone []) (sym (stmt_code-Loop c.args.slot (expr.Number (pos 0)) (expr.Number (pos 2)) c.args.body Done))
    (record { bounded = (tt, tt, c.requires.lone.bounded, tt); alone = (c.requires.lone.alone, tt) })

pub returns-clause-own : goal.returns-clause-own
returns-clause-own c = subst (IsOfTeam 1) (sym (stmt_code-Loop c.args.slot (expr.Number (pos 0)) (expr.Number (pos 2)) c.args.body Done)) (c.requires.lone.alone, tt)

pub returns-clause-undrawn : goal.returns-clause-undrawn
returns-clause-undrawn c = ap (λ (code : Code). drawn_count (Run (without_barrier code) ∷ [])) (stmt_code-Loop c.args.slot (expr.Number (pos 0)) (expr.Number (pos 2)) c.args.body Done)
