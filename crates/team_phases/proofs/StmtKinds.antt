-- Whether each kind of statement holds work, is drawn, or is unrolled.
use Rattle.std.proofs.Common.{◌≡◌, refl, ap, sym, ◌∙◌, ℕ, Bool, true, false, List, [], ◌∷◌, ℤ, Option, subst}
use Rattle.std.proofs.lemmas.List.{append-nil}
use Rattle.std.specs.Prelude.{◌||◌}
use Rattle.kernel_syntax.specs.declared.syntax.Expr.{Expr}
use Rattle.kernel_syntax.specs.declared.syntax.Schedule.{Schedule}
use Rattle.kernel_syntax.specs.declared.syntax.Stmt.{Stmt}
use Rattle.kernel_syntax.specs.declared.syntax.Stmt.TheOpen as layer
use Rattle.kernel_syntax.specs.declared.syntax.Stmt.TheOpen.{Stmt-F}
use Rattle.kernel_syntax.specs.declared.syntax.Stmt.TheVariants as variant
use Rattle.kernel_syntax.specs.declared.syntax.Stmt.TheVariants.{rolls-Set, rolls-Store, rolls-Update, rolls-If, rolls-Loop, rolls-Parallel, rolls-For, rolls-Barrier, rolls-Critical}
use Rattle.kernel_syntax.specs.declared.syntax.Stmt.TheViews.{roll-Stmt, out-Stmt, roll-out-Stmt}
use Rattle.kernel_syntax.specs.declared.syntax.Body.{Body}
use Rattle.kernel_syntax.specs.declared.syntax.Team.{Team}
use Rattle.kernel_syntax.specs.Program.{term_of, code_of, stmt_code}
use Rattle.kernel_syntax.specs.Tree as tree
use Rattle.kernel_syntax.specs.Tree.{Code, Done}
use Rattle.kernel_syntax.proofs.Equations.{stmt_code-Set, stmt_code-Store, stmt_code-Update, stmt_code-If, stmt_code-Loop, stmt_code-Parallel, stmt_code-For, stmt_code-Barrier, stmt_code-Critical}
use Rattle.kernel_model.specs.Lawful.{code_holds_work, bounds_of}
use Rattle.kernel_model.specs.Parts.{Part, Run, Bar, end_parts, loop_parts, parts_of, is_drawn, is_drawn_schedule}
use Rattle.kernel_model.specs.Phases.{part_of_stmt, without_barrier}

-- the parts of a single statement
abbrev pub parts_of_stmt : Stmt → List Part
parts_of_stmt s = parts_of (stmt_code s Done)

abbrev pub stmt_holds_work : Stmt → Bool
stmt_holds_work s = code_holds_work (stmt_code s Done)

or_nothing : (a : Bool) → a || false ≡ a
or_nothing true = refl
or_nothing false = refl

-- ---- each kind of statement

abbrev NotIf : Stmt → Type 0
NotIf s = (test : Expr) (if_true if_false : Body) → s ≡ variant.If test if_true if_false → ⊥

abbrev NotLoop : Stmt → Type 0
NotLoop s = (slot : ℕ) (from to : Expr) (body : Body) → s ≡ variant.Loop slot from to body → ⊥

abbrev NotFor : Stmt → Type 0
NotFor s =
    (slot : ℕ) (from to : Expr) (schedule : Schedule) (nowait : Bool) (line end : ℕ) (body : Body) →
    s ≡ variant.For slot from to schedule nowait line end body → ⊥

abbrev NotBarrier : Stmt → Type 0
NotBarrier s = (line : ℕ) → s ≡ variant.Barrier line → ⊥

abbrev NotCritical : Stmt → Type 0
NotCritical s = (mutex line end : ℕ) (body : Body) → s ≡ variant.Critical mutex line end body → ⊥

-- what holds of the code of a statement holds of the statement
module _ (s : Stmt) (F : Code → Type 0) where
  from : (t : Stmt) (c : Code) → s ≡ t → stmt_code t Done ≡ c → F c → F (stmt_code s Done)
  from t c is code h = subst F (sym (ap (λ (z : Stmt). stmt_code z Done) is ∙ code)) h

module _ (s : Stmt) where
  -- a statement of another kind is a single part
  other_parts : NotLoop s → NotFor s → NotBarrier s → (x : Stmt-F Stmt Body Team) → roll-Stmt x ≡ s → parts_of_stmt s ≡ part_of_stmt s ∷ []
  other_parts l f b (layer.Set slot value) is =
      from s (λ c. parts_of c ≡ Run (without_barrier c) ∷ []) _ _ (sym is ∙ rolls-Set slot value) (stmt_code-Set slot value Done) refl
  other_parts l f b (layer.Store array index value line site) is =
      from s (λ c. parts_of c ≡ Run (without_barrier c) ∷ []) _ _ (sym is ∙ rolls-Store array index value line site) (stmt_code-Store array index value line site Done) refl
  other_parts l f b (layer.Update array index value minus line site) is =
      from s (λ c. parts_of c ≡ Run (without_barrier c) ∷ []) _ _ (sym is ∙ rolls-Update array index value minus line site) (stmt_code-Update array index value minus line site Done) refl
  other_parts l f b (layer.If test if_true if_false) is =
      from s (λ c. parts_of c ≡ Run (without_barrier c) ∷ []) _ _ (sym is ∙ rolls-If test if_true if_false) (stmt_code-If test if_true if_false Done) refl
  other_parts l f b (layer.Loop slot from to body) is = absurd (l slot from to body (sym is ∙ rolls-Loop slot from to body))
  other_parts l f b (layer.Parallel team) is =
      from s (λ c. parts_of c ≡ Run (without_barrier c) ∷ []) _ _ (sym is ∙ rolls-Parallel team) (stmt_code-Parallel team Done) refl
  other_parts l f b (layer.For slot from to schedule nowait line end body) is =
      absurd (f slot from to schedule nowait line end body (sym is ∙ rolls-For slot from to schedule nowait line end body))
  other_parts l f b (layer.Barrier line) is = absurd (b line (sym is ∙ rolls-Barrier line))
  other_parts l f b (layer.Critical mutex line end body) is =
      from s (λ c. parts_of c ≡ Run (without_barrier c) ∷ []) _ _ (sym is ∙ rolls-Critical mutex line end body) (stmt_code-Critical mutex line end body Done) refl

  pub single_part : NotLoop s → NotFor s → NotBarrier s → parts_of_stmt s ≡ part_of_stmt s ∷ []
  single_part l f b = other_parts l f b (out-Stmt s) (roll-out-Stmt s)

  -- and holds no work where no statement in it may
  other_work : NotIf s → NotLoop s → NotFor s → NotBarrier s → NotCritical s → (x : Stmt-F Stmt Body Team) → roll-Stmt x ≡ s → stmt_holds_work s ≡ false
  other_work i l f b k (layer.Set slot value) is =
      from s (λ c. code_holds_work c ≡ false) _ _ (sym is ∙ rolls-Set slot value) (stmt_code-Set slot value Done) refl
  other_work i l f b k (layer.Store array index value line site) is =
      from s (λ c. code_holds_work c ≡ false) _ _ (sym is ∙ rolls-Store array index value line site) (stmt_code-Store array index value line site Done) refl
  other_work i l f b k (layer.Update array index value minus line site) is =
      from s (λ c. code_holds_work c ≡ false) _ _ (sym is ∙ rolls-Update array index value minus line site) (stmt_code-Update array index value minus line site Done) refl
  other_work i l f b k (layer.If test if_true if_false) is = absurd (i test if_true if_false (sym is ∙ rolls-If test if_true if_false))
  other_work i l f b k (layer.Loop slot from to body) is = absurd (l slot from to body (sym is ∙ rolls-Loop slot from to body))
  other_work i l f b k (layer.Parallel team) is =
      from s (λ c. code_holds_work c ≡ false) _ _ (sym is ∙ rolls-Parallel team) (stmt_code-Parallel team Done) refl
  other_work i l f b k (layer.For slot from to schedule nowait line end body) is =
      absurd (f slot from to schedule nowait line end body (sym is ∙ rolls-For slot from to schedule nowait line end body))
  other_work i l f b k (layer.Barrier line) is = absurd (b line (sym is ∙ rolls-Barrier line))
  other_work i l f b k (layer.Critical mutex line end body) is =
      absurd (k mutex line end body (sym is ∙ rolls-Critical mutex line end body))

  pub no_work : NotIf s → NotLoop s → NotFor s → NotBarrier s → NotCritical s → stmt_holds_work s ≡ false
  no_work i l f b k = other_work i l f b k (out-Stmt s) (roll-out-Stmt s)

  -- and no chunks are drawn
  other_drawn : NotFor s → (x : Stmt-F Stmt Body Team) → roll-Stmt x ≡ s → is_drawn (part_of_stmt s) ≡ false
  other_drawn f (layer.Set slot value) is =
      from s (λ c. is_drawn (Run (without_barrier c)) ≡ false) _ _ (sym is ∙ rolls-Set slot value) (stmt_code-Set slot value Done) refl
  other_drawn f (layer.Store array index value line site) is =
      from s (λ c. is_drawn (Run (without_barrier c)) ≡ false) _ _ (sym is ∙ rolls-Store array index value line site) (stmt_code-Store array index value line site Done) refl
  other_drawn f (layer.Update array index value minus line site) is =
      from s (λ c. is_drawn (Run (without_barrier c)) ≡ false) _ _ (sym is ∙ rolls-Update array index value minus line site) (stmt_code-Update array index value minus line site Done) refl
  other_drawn f (layer.If test if_true if_false) is =
      from s (λ c. is_drawn (Run (without_barrier c)) ≡ false) _ _ (sym is ∙ rolls-If test if_true if_false) (stmt_code-If test if_true if_false Done) refl
  other_drawn f (layer.Loop slot begin to body) is =
      from s (λ c. is_drawn (Run (without_barrier c)) ≡ false) _ _ (sym is ∙ rolls-Loop slot begin to body) (stmt_code-Loop slot begin to body Done) refl
  other_drawn f (layer.Parallel team) is =
      from s (λ c. is_drawn (Run (without_barrier c)) ≡ false) _ _ (sym is ∙ rolls-Parallel team) (stmt_code-Parallel team Done) refl
  other_drawn f (layer.For slot begin to schedule nowait line end body) is =
      absurd (f slot begin to schedule nowait line end body (sym is ∙ rolls-For slot begin to schedule nowait line end body))
  other_drawn f (layer.Barrier line) is =
      from s (λ c. is_drawn (Run (without_barrier c)) ≡ false) _ _ (sym is ∙ rolls-Barrier line) (stmt_code-Barrier line Done) refl
  other_drawn f (layer.Critical mutex line end body) is =
      from s (λ c. is_drawn (Run (without_barrier c)) ≡ false) _ _ (sym is ∙ rolls-Critical mutex line end body) (stmt_code-Critical mutex line end body Done) refl

  pub not_drawn : NotFor s → is_drawn (part_of_stmt s) ≡ false
  not_drawn f = other_drawn f (out-Stmt s) (roll-out-Stmt s)

  -- ---- the kinds that matter

  pub if_work : (test : Expr) (if_true if_false : Body) → s ≡ variant.If test if_true if_false →
      stmt_holds_work s ≡ code_holds_work (code_of if_true.stmts.items) || code_holds_work (code_of if_false.stmts.items)
  if_work test if_true if_false is =
      ap (λ (z : Stmt). stmt_holds_work z) is
      ∙ ap code_holds_work (stmt_code-If test if_true if_false Done)
      ∙ ap (λ b. code_holds_work (code_of if_true.stmts.items) || b) (or_nothing (code_holds_work (code_of if_false.stmts.items)))

  pub loop_work : (slot : ℕ) (begin to : Expr) (body : Body) → s ≡ variant.Loop slot begin to body →
      stmt_holds_work s ≡ code_holds_work (code_of body.stmts.items)
  loop_work slot begin to body is =
      ap (λ (z : Stmt). stmt_holds_work z) is ∙ ap code_holds_work (stmt_code-Loop slot begin to body Done) ∙ or_nothing (code_holds_work (code_of body.stmts.items))

  pub critical_work : (mutex line end : ℕ) (body : Body) → s ≡ variant.Critical mutex line end body →
      stmt_holds_work s ≡ code_holds_work (code_of body.stmts.items)
  critical_work mutex line end body is =
      ap (λ (z : Stmt). stmt_holds_work z) is ∙ ap code_holds_work (stmt_code-Critical mutex line end body Done) ∙ or_nothing (code_holds_work (code_of body.stmts.items))

  pub for_work : (slot : ℕ) (begin to : Expr) (schedule : Schedule) (nowait : Bool) (line end : ℕ) (body : Body) →
      s ≡ variant.For slot begin to schedule nowait line end body → stmt_holds_work s ≡ true
  for_work slot begin to schedule nowait line end body is =
      ap (λ (z : Stmt). stmt_holds_work z) is ∙ ap code_holds_work (stmt_code-For slot begin to schedule nowait line end body Done)

  pub barrier_work : (line : ℕ) → s ≡ variant.Barrier line → stmt_holds_work s ≡ true
  barrier_work line is = ap (λ (z : Stmt). stmt_holds_work z) is ∙ ap code_holds_work (stmt_code-Barrier line Done)

  pub for_drawn : (slot : ℕ) (begin to : Expr) (schedule : Schedule) (nowait : Bool) (line end : ℕ) (body : Body) →
      s ≡ variant.For slot begin to schedule nowait line end body → is_drawn (part_of_stmt s) ≡ is_drawn_schedule schedule
  for_drawn slot begin to schedule nowait line end body is =
      ap (λ (z : Stmt). is_drawn (part_of_stmt z)) is
      ∙ ap (λ c. is_drawn (Run (without_barrier c))) (stmt_code-For slot begin to schedule nowait line end body Done)

  pub barrier_parts : (line : ℕ) → s ≡ variant.Barrier line → parts_of_stmt s ≡ Bar line ∷ []
  barrier_parts line is = ap (λ (z : Stmt). parts_of_stmt z) is ∙ ap parts_of (stmt_code-Barrier line Done)

  pub for_parts : (slot : ℕ) (begin to : Expr) (schedule : Schedule) (nowait : Bool) (line end : ℕ) (body : Body) →
      s ≡ variant.For slot begin to schedule nowait line end body → parts_of_stmt s ≡ part_of_stmt s ∷ end_parts nowait end
  for_parts slot begin to schedule nowait line end body is =
      from s (λ c. parts_of c ≡ Run (without_barrier c) ∷ end_parts nowait end) _ _ is (stmt_code-For slot begin to schedule nowait line end body Done)
      (ap (λ ps. Run (tree.For slot (term_of begin) (term_of to) schedule true line end (code_of body.stmts.items) Done) ∷ ps) (append-nil (end_parts nowait end)))

  pub loop_parts_are : (slot : ℕ) (begin to : Expr) (body : Body) (bounds : Option (ℤ × ℤ)) → s ≡ variant.Loop slot begin to body →
      bounds ≡ bounds_of (term_of begin) (term_of to) (code_of body.stmts.items) →
      parts_of_stmt s ≡ loop_parts bounds slot (parts_of (code_of body.stmts.items)) (without_barrier (stmt_code s Done))
  loop_parts_are slot begin to body bounds is are =
      subst (λ o. parts_of_stmt s ≡ loop_parts o slot (parts_of (code_of body.stmts.items)) (without_barrier (stmt_code s Done))) (sym are)
      (from s
      (λ c. parts_of c
      ≡ loop_parts (bounds_of (term_of begin) (term_of to) (code_of body.stmts.items)) slot (parts_of (code_of body.stmts.items)) (without_barrier c))
      _ _ is (stmt_code-Loop slot begin to body Done)
      (append-nil (loop_parts (bounds_of (term_of begin) (term_of to) (code_of body.stmts.items)) slot (parts_of (code_of body.stmts.items))
      (tree.Loop slot (term_of begin) (term_of to) (code_of body.stmts.items) Done))))
