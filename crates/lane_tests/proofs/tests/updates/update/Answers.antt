use Rattle.std.proofs.Common.{sym, subst, [], ◌∷◌, arith}
use Rattle.kernel_syntax.specs.Tree.{Done}
use Rattle.kernel_syntax.proofs.Equations.{stmt_code-Update}
use Rattle.lane_tests.specs.Lone.{IsLone}
use Rattle.lane_tests.proofs.tests.updates.update.Goals as goal

pub returns-clause-lone : goal.returns-clause-lone
returns-clause-lone c =
    subst (IsLone []) (sym (stmt_code-Update 0 c.args.index c.args.value c.args.minus c.args.line 2 Done))
    (record { bounded = (record { line_is = c.requires.line; site_fits = omega arith }, c.requires.index, c.requires.value, tt); alone = tt })

pub returns-clause-held : goal.returns-clause-held
returns-clause-held c =
    subst (IsLone (0 ∷ [])) (sym (stmt_code-Update 0 c.args.index c.args.value c.args.minus c.args.line 2 Done))
    (record { bounded = (record { line_is = c.requires.line; site_fits = omega arith }, c.requires.index, c.requires.value, tt); alone = tt })
