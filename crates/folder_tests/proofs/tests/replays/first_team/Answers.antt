use Rattle.std.proofs.Common.{◌≡◌, ap, sym, ◌∙◌, subst, List, Some}
use Rattle.std.specs.Prelude.{slice_get}
use Rattle.std.specs.Option.{option_copied}
use Rattle.kernel_syntax.specs.Bounds.{IsBoundedCode}
use Rattle.kernel_syntax.specs.Program.{code_of, stmt_code}
use Rattle.kernel_syntax.specs.Tree.{Done}
use Rattle.kernel_syntax.specs.declared.syntax.Stmt.{Stmt}
use Rattle.kernel_syntax.specs.declared.syntax.Team.{Team}
use Rattle.kernel_syntax.proofs.Equations.{stmt_code-Parallel}
use Rattle.kernel_model.proofs.StmtLists.{bounded_at}
use Rattle.folder_tests.proofs.tests.replays.first_team.Goals as goal

pub returns-in-Some-Parallel : goal.returns-in-Some-Parallel
returns-in-Some-Parallel c =
    let found : slice_get c.deref.result.now 0 ≡ Some c.in-Some-Parallel.field-0.now = sym c.first.ensures.value ∙ ap option_copied c.in-Some-Parallel.is in
    let bounded = bounded_at c.deref.result.now 0 c.in-Some-Parallel.field-0.now found (subst (λ (l : List Stmt). IsBoundedCode (code_of l)) (sym c.deref.ensures.value) c.requires) in
    subst (λ (t : Team). IsBoundedCode (code_of t.body.stmts.items)) (sym c.in-Some-Parallel.team-is)
    (subst IsBoundedCode (ap (λ (s : Stmt). stmt_code s Done) c.in-Some-Parallel.field-0-is ∙ stmt_code-Parallel c.in-Some-Parallel.team Done) bounded).3
