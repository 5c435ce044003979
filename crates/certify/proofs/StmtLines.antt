-- The first construct that each kind of statement is or holds.
use Rattle.std.proofs.Common.{◌≡◌, refl, ap, sym, ◌∙◌, subst, ℕ, Bool, List, [], ◌∷◌, ◌++◌, Option, Some, None}
use Rattle.std.specs.Prelude.{slice_get}
use Rattle.std.proofs.lemmas.List.{append-nil}
use Rattle.kernel_syntax.specs.declared.syntax.Expr.{Expr}
use Rattle.kernel_syntax.specs.declared.syntax.Schedule.{Schedule}
use Rattle.kernel_syntax.specs.declared.syntax.Stmt.{Stmt}
use Rattle.kernel_syntax.specs.declared.syntax.Stmt.TheOpen as layer
use Rattle.kernel_syntax.specs.declared.syntax.Stmt.TheOpen.{Stmt-F}
use Rattle.kernel_syntax.specs.declared.syntax.Stmt.TheVariants as variant
use Rattle.kernel_syntax.specs.declared.syntax.Stmt.TheVariants.{rolls-Set, rolls-Store, rolls-Update, rolls-If, rolls-Loop, rolls-Parallel, rolls-For, rolls-Barrier, rolls-Critical}
use Rattle.kernel_syntax.specs.declared.syntax.Stmt.TheViews.{roll-Stmt, out-Stmt, roll-out-Stmt}
use Rattle.kernel_syntax.specs.declared.syntax.Body.{Body}
use Rattle.kernel_syntax.specs.declared.syntax.Team.{Team}
use Rattle.kernel_syntax.specs.Program.{term_of, code_of, stmt_code}
use Rattle.kernel_syntax.specs.Tree as tree
use Rattle.kernel_syntax.specs.Tree.{Code, Done}
use Rattle.kernel_syntax.proofs.Equations.{stmt_code-Set, stmt_code-Store, stmt_code-Update, stmt_code-If, stmt_code-Loop, stmt_code-Parallel, stmt_code-For, stmt_code-Barrier, stmt_code-Critical}
use Rattle.certify.specs.Constructs.{construct_lines, schedule_lines}

abbrev pub lines_of_stmt : Stmt → List ℕ
lines_of_stmt s = construct_lines (stmt_code s Done)

-- the lines of a statement are those of its code
module _ (s : Stmt) where
  from : (t : Stmt) (c : Code) → s ≡ t → stmt_code t Done ≡ c → lines_of_stmt s ≡ construct_lines c
  from t c is code = ap (λ (z : Stmt). lines_of_stmt z) is ∙ ap construct_lines code

  pub update_lines : (array : ℕ) (index value : Expr) (minus : Bool) (line site : ℕ) → s ≡ variant.Update array index value minus line site → lines_of_stmt s ≡ line ∷ []
  update_lines array index value minus line site is = from _ _ is (stmt_code-Update array index value minus line site Done)

  pub critical_lines : (mutex line end : ℕ) (body : Body) → s ≡ variant.Critical mutex line end body → lines_of_stmt s ≡ (line ∷ construct_lines (code_of body.stmts.items)) ++ []
  critical_lines mutex line end body is = from _ _ is (stmt_code-Critical mutex line end body Done)

  pub if_lines : (test : Expr) (if_true if_false : Body) → s ≡ variant.If test if_true if_false
      → lines_of_stmt s ≡ construct_lines (code_of if_true.stmts.items) ++ construct_lines (code_of if_false.stmts.items)
  if_lines test if_true if_false is =
      from _ _ is (stmt_code-If test if_true if_false Done) ∙ append-nil (construct_lines (code_of if_true.stmts.items) ++ construct_lines (code_of if_false.stmts.items))

  pub loop_lines : (slot : ℕ) (begin to : Expr) (body : Body) → s ≡ variant.Loop slot begin to body → lines_of_stmt s ≡ construct_lines (code_of body.stmts.items)
  loop_lines slot begin to body is = from _ _ is (stmt_code-Loop slot begin to body Done) ∙ append-nil (construct_lines (code_of body.stmts.items))

  pub parallel_lines : (team : Team) → s ≡ variant.Parallel team → lines_of_stmt s ≡ construct_lines (code_of team.body.stmts.items)
  parallel_lines team is = from _ _ is (stmt_code-Parallel team Done) ∙ append-nil (construct_lines (code_of team.body.stmts.items))

  pub for_lines : (slot : ℕ) (begin to : Expr) (schedule : Schedule) (nowait : Bool) (line end : ℕ) (body : Body) → s ≡ variant.For slot begin to schedule nowait line end body
      → lines_of_stmt s ≡ schedule_lines schedule line ++ construct_lines (code_of body.stmts.items)
  for_lines slot begin to schedule nowait line end body is =
      from _ _ is (stmt_code-For slot begin to schedule nowait line end body Done) ∙ append-nil (schedule_lines schedule line ++ construct_lines (code_of body.stmts.items))

  -- a statement of another kind has none
  pub record IsOther : Type 0 where
    pub not_update : (array : ℕ) (index value : Expr) (minus : Bool) (line site : ℕ) → s ≡ variant.Update array index value minus line site → ⊥
    pub not_if : (test : Expr) (if_true if_false : Body) → s ≡ variant.If test if_true if_false → ⊥
    pub not_loop : (slot : ℕ) (begin to : Expr) (body : Body) → s ≡ variant.Loop slot begin to body → ⊥
    pub not_parallel : (team : Team) → s ≡ variant.Parallel team → ⊥
    pub not_for : (slot : ℕ) (begin to : Expr) (schedule : Schedule) (nowait : Bool) (line end : ℕ) (body : Body) → s ≡ variant.For slot begin to schedule nowait line end body → ⊥
    pub not_critical : (mutex line end : ℕ) (body : Body) → s ≡ variant.Critical mutex line end body → ⊥

  other : IsOther → (x : Stmt-F Stmt Body Team) → roll-Stmt x ≡ s → lines_of_stmt s ≡ []
  other o (layer.Set slot value) is = from _ _ (sym is ∙ rolls-Set slot value) (stmt_code-Set slot value Done)
  other o (layer.Store array index value line site) is = from _ _ (sym is ∙ rolls-Store array index value line site) (stmt_code-Store array index value line site Done)
  other o (layer.Update array index value minus line site) is = absurd (o.not_update array index value minus line site (sym is ∙ rolls-Update array index value minus line site))
  other o (layer.If test if_true if_false) is = absurd (o.not_if test if_true if_false (sym is ∙ rolls-If test if_true if_false))
  other o (layer.Loop slot begin to body) is = absurd (o.not_loop slot begin to body (sym is ∙ rolls-Loop slot begin to body))
  other o (layer.Parallel team) is = absurd (o.not_parallel team (sym is ∙ rolls-Parallel team))
  other o (layer.For slot begin to schedule nowait line end body) is =
      absurd (o.not_for slot begin to schedule nowait line end body (sym is ∙ rolls-For slot begin to schedule nowait line end body))
  other o (layer.Barrier line) is = from _ _ (sym is ∙ rolls-Barrier line) (stmt_code-Barrier line Done)
  other o (layer.Critical mutex line end body) is = absurd (o.not_critical mutex line end body (sym is ∙ rolls-Critical mutex line end body))

  pub no_lines : IsOther → lines_of_stmt s ≡ []
  no_lines o = other o (out-Stmt s) (roll-out-Stmt s)
