use Rattle.std.proofs.Common.{refl, sym, subst, [], arith}
use Rattle.kernel_syntax.specs.Tree.{Done}
use Rattle.kernel_syntax.proofs.Equations.{stmt_code-Parallel}
use Rattle.lane_tests.specs.Lone.{IsLone}
use Rattle.lane_tests.proofs.tests.regions.region.Goals as goal

pub returns : goal.returns
returns c =
    subst (IsLone []) (sym (stmt_code-Parallel _ Done))
    (record {
      bounded = (record { some = omega arith; limit = omega arith }, record { some = omega arith; fits = omega arith }, record { some = omega arith; fits = omega arith }, c.requires.bounded, tt);
      alone = (refl, tt);
    })
