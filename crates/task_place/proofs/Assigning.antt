-- Which statements are assignments, by their variants.
use Rattle.std.proofs.Common.{◌≡◌, ap, sym, ◌∙◌, subst, ℕ, Bool}
use Rattle.kernel_syntax.specs.declared.syntax.Expr.{Expr}
use Rattle.kernel_syntax.specs.declared.syntax.Schedule.{Schedule}
use Rattle.kernel_syntax.specs.declared.syntax.Stmt.{Stmt}
use Rattle.kernel_syntax.specs.declared.syntax.Stmt.TheOpen as layer
use Rattle.kernel_syntax.specs.declared.syntax.Stmt.TheOpen.{Stmt-F}
use Rattle.kernel_syntax.specs.declared.syntax.Stmt.TheVariants as variant
use Rattle.kernel_syntax.specs.declared.syntax.Stmt.TheVariants.{rolls-Set, rolls-Store, rolls-Update, rolls-If, rolls-Loop, rolls-Parallel, rolls-For, rolls-Barrier, rolls-Critical}
use Rattle.kernel_syntax.specs.declared.syntax.Stmt.TheViews.{roll-Stmt, out-Stmt, roll-out-Stmt}
use Rattle.kernel_syntax.specs.declared.syntax.Body.{Body}
use Rattle.kernel_syntax.specs.declared.syntax.Team.{Team}
use Rattle.kernel_syntax.specs.Program.{stmt_code}
use Rattle.kernel_syntax.specs.Tree.{Done}
use Rattle.kernel_syntax.proofs.Equations.{stmt_code-Set, stmt_code-Store, stmt_code-Update, stmt_code-If, stmt_code-Loop, stmt_code-Parallel, stmt_code-For, stmt_code-Barrier, stmt_code-Critical}
use Rattle.task_place.specs.Assigning.{IsAssignment}

-- a statement of no other kind is an assignment
module _ (s : Stmt) (no_if : (test : Expr) (if_true if_false : Body) → s ≡ variant.If test if_true if_false → ⊥) (no_loop : (slot : ℕ) (from to : Expr) (body : Body) → s ≡ variant.Loop slot from to body → ⊥)
    (no_region : (team : Team) → s ≡ variant.Parallel team → ⊥) (no_for : (slot : ℕ) (from to : Expr) (schedule : Schedule) (nowait : Bool) (line end : ℕ) (body : Body) → s ≡ variant.For slot from to schedule nowait line end body → ⊥)
    (no_barrier : (line : ℕ) → s ≡ variant.Barrier line → ⊥) (no_critical : (mutex line end : ℕ) (body : Body) → s ≡ variant.Critical mutex line end body → ⊥) where
  one_layer : (x : Stmt-F Stmt Body Team) → roll-Stmt x ≡ s → IsAssignment (stmt_code s Done)
  one_layer (layer.Set slot value) is = subst IsAssignment (sym (ap (λ (z : Stmt). stmt_code z Done) (sym is ∙ rolls-Set slot value) ∙ stmt_code-Set slot value Done)) tt
  one_layer (layer.Store array index value line site) is = subst IsAssignment (sym (ap (λ (z : Stmt). stmt_code z Done) (sym is ∙ rolls-Store array index value line site) ∙ stmt_code-Store array index value line site Done)) tt
  one_layer (layer.Update array index value minus line site) is = subst IsAssignment (sym (ap (λ (z : Stmt). stmt_code z Done) (sym is ∙ rolls-Update array index value minus line site) ∙ stmt_code-Update array index value minus line site Done)) tt
  one_layer (layer.If test if_true if_false) is = absurd (no_if test if_true if_false (sym is ∙ rolls-If test if_true if_false))
  one_layer (layer.Loop slot from to body) is = absurd (no_loop slot from to body (sym is ∙ rolls-Loop slot from to body))
  one_layer (layer.Parallel team) is = absurd (no_region team (sym is ∙ rolls-Parallel team))
  one_layer (layer.For slot from to schedule nowait line end body) is = absurd (no_for slot from to schedule nowait line end body (sym is ∙ rolls-For slot from to schedule nowait line end body))
  one_layer (layer.Barrier line) is = absurd (no_barrier line (sym is ∙ rolls-Barrier line))
  one_layer (layer.Critical mutex line end body) is = absurd (no_critical mutex line end body (sym is ∙ rolls-Critical mutex line end body))

  pub is_assignment : IsAssignment (stmt_code s Done)
  is_assignment = one_layer (out-Stmt s) (roll-out-Stmt s)

-- an assignment is one of these
module _ (s : Stmt) (h : IsAssignment (stmt_code s Done)) (no_set : (slot : ℕ) (value : Expr) → s ≡ variant.Set slot value → ⊥) (no_store : (array : ℕ) (index value : Expr) (line site : ℕ) → s ≡ variant.Store array index value line site → ⊥)
    (no_update : (array : ℕ) (index value : Expr) (minus : Bool) (line site : ℕ) → s ≡ variant.Update array index value minus line site → ⊥) where
  no_layer : (x : Stmt-F Stmt Body Team) → roll-Stmt x ≡ s → ⊥
  no_layer (layer.Set slot value) is = no_set slot value (sym is ∙ rolls-Set slot value)
  no_layer (layer.Store array index value line site) is = no_store array index value line site (sym is ∙ rolls-Store array index value line site)
  no_layer (layer.Update array index value minus line site) is = no_update array index value minus line site (sym is ∙ rolls-Update array index value minus line site)
  no_layer (layer.If test if_true if_false) is = subst IsAssignment (ap (λ (z : Stmt). stmt_code z Done) (sym is ∙ rolls-If test if_true if_false) ∙ stmt_code-If test if_true if_false Done) h
  no_layer (layer.Loop slot from to body) is = subst IsAssignment (ap (λ (z : Stmt). stmt_code z Done) (sym is ∙ rolls-Loop slot from to body) ∙ stmt_code-Loop slot from to body Done) h
  no_layer (layer.Parallel team) is = subst IsAssignment (ap (λ (z : Stmt). stmt_code z Done) (sym is ∙ rolls-Parallel team) ∙ stmt_code-Parallel team Done) h
  no_layer (layer.For slot from to schedule nowait line end body) is = subst IsAssignment (ap (λ (z : Stmt). stmt_code z Done) (sym is ∙ rolls-For slot from to schedule nowait line end body) ∙ stmt_code-For slot from to schedule nowait line end body Done) h
  no_layer (layer.Barrier line) is = subst IsAssignment (ap (λ (z : Stmt). stmt_code z Done) (sym is ∙ rolls-Barrier line) ∙ stmt_code-Barrier line Done) h
  no_layer (layer.Critical mutex line end body) is = subst IsAssignment (ap (λ (z : Stmt). stmt_code z Done) (sym is ∙ rolls-Critical mutex line end body) ∙ stmt_code-Critical mutex line end body Done) h

  pub assignment_only : ⊥
  assignment_only = no_layer (out-Stmt s) (roll-out-Stmt s)
