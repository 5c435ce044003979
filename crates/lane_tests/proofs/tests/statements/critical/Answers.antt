use Rattle.std.proofs.Common.{sym, subst, List, [], ◌∷◌, arith}
use Rattle.std.proofs.lemmas.List.Elements.{All-nil}
use Rattle.kernel_syntax.specs.declared.syntax.Stmt.{Stmt}
use Rattle.kernel_syntax.specs.Program.{code_of}
use Rattle.kernel_syntax.specs.Tree.{Done}
use Rattle.kernel_syntax.proofs.Equations.{stmt_code-Critical}
use Rattle.lane_tests.specs.Lone.{IsLone}
use Rattle.lane_tests.proofs.tests.statements.critical.Goals as goal

pub returns : goal.returns
returns c =
    let within = subst (λ (l : List Stmt). IsLone (0 ∷ []) (code_of l)) (sym c.in_ok-stmts.ensures.items) c.requires.lone in
    subst (IsLone []) (sym (stmt_code-Critical 0 7 8 _ Done))
    (record {
      bounded = (omega arith, record { some = omega arith; fits = omega arith }, record { some = omega arith; fits = omega arith }, within.bounded, tt);
      alone = (omega arith, All-nil _, within.alone, tt);
    })
