-- What holds of a list of statements holds of each.
use Rattle.std.proofs.Common.{◌≡◌, refl, ap, ◌∙◌, sym, subst, ℕ, Bool, false, List, [], ◌∷◌, Some}
use Rattle.std.specs.Prelude.{slice_get}
use Rattle.kernel_syntax.specs.declared.syntax.Expr.{Expr}
use Rattle.kernel_syntax.specs.declared.syntax.Stmt.{Stmt}
use Rattle.kernel_syntax.specs.declared.syntax.Stmt.TheOpen as layer
use Rattle.kernel_syntax.specs.declared.syntax.Stmt.TheOpen.{Stmt-F}
use Rattle.kernel_syntax.specs.declared.syntax.Stmt.TheVariants as variant
use Rattle.kernel_syntax.specs.declared.syntax.Stmt.TheVariants.{rolls-Set, rolls-Store, rolls-Update, rolls-If, rolls-Loop, rolls-Parallel, rolls-For, rolls-Barrier, rolls-Critical}
use Rattle.kernel_syntax.specs.declared.syntax.Stmt.TheViews.{roll-Stmt, out-Stmt, roll-out-Stmt}
use Rattle.kernel_syntax.specs.declared.syntax.Body.{Body}
use Rattle.kernel_syntax.specs.declared.syntax.Team.{Team}
use Rattle.kernel_syntax.proofs.Equations.{stmt_code-Set, stmt_code-Store, stmt_code-Update, stmt_code-If, stmt_code-Loop, stmt_code-Parallel, stmt_code-For, stmt_code-Barrier, stmt_code-Critical}
use Rattle.kernel_syntax.specs.Program.{stmt_code, code_of}
use Rattle.kernel_syntax.specs.Tree.{TeamTree, Code, Done, Set, Store, Update, If, Loop, Parallel, For, Barrier, Critical}
use Rattle.kernel_syntax.proofs.Following.{followed_by}
use Rattle.kernel_syntax.specs.declared.syntax.Schedule.{Schedule}
use Rattle.lane_runner.specs.Alone.{IsAlone}
use Rattle.lane_runner.specs.Phase.{IsOfTeam}
use Rattle.lane_runner.specs.Teams.{EachTeam}
use Rattle.kernel_model.proofs.StmtLists.{each_has}
use Rattle.kernel_model.specs.Parts.{drawn_count, is_drawn_code}
use Rattle.kernel_model.specs.Phases.{without_barrier, part_of_stmt}

alone_both : (locks : ℕ) (held : List ℕ) (code later : Code) → IsAlone locks held (followed_by code later) → IsAlone locks held code × IsAlone locks held later
alone_both locks held Done later b = (tt, b)
alone_both locks held (Set slot value rest) later b = alone_both locks held rest later b
alone_both locks held (Store array index value line site rest) later b = alone_both locks held rest later b
alone_both locks held (Update array index value minus line site rest) later b = alone_both locks held rest later b
alone_both locks held (If test if_true if_false rest) later b = let r = alone_both locks held rest later b.2 in ((b.0, b.1, r.0), r.1)
alone_both locks held (Loop slot from to body rest) later b = let r = alone_both locks held rest later b.1 in ((b.0, r.0), r.1)
alone_both locks held (Parallel span line end body rest) later b = let r = alone_both locks held rest later b.1 in ((b.0, r.0), r.1)
alone_both locks held (For slot from to schedule nowait line end body rest) later b = absurd b
alone_both locks held (Barrier line rest) later b = absurd b
alone_both locks held (Critical mutex line end body rest) later b = let r = alone_both locks held rest later b.3 in ((b.0, b.1, b.2, r.0), r.1)

teams_both : (P : TeamTree → Type 0) (code later : Code) → EachTeam P (followed_by code later) → EachTeam P code × EachTeam P later
teams_both P Done later b = (tt, b)
teams_both P (Set slot value rest) later b = teams_both P rest later b
teams_both P (Store array index value line site rest) later b = teams_both P rest later b
teams_both P (Update array index value minus line site rest) later b = teams_both P rest later b
teams_both P (If test if_true if_false rest) later b = let r = teams_both P rest later b.2 in ((b.0, b.1, r.0), r.1)
teams_both P (Loop slot from to body rest) later b = let r = teams_both P rest later b.1 in ((b.0, r.0), r.1)
teams_both P (Parallel span line end body rest) later b = let r = teams_both P rest later b.1 in ((b.0, r.0), r.1)
teams_both P (For slot from to schedule nowait line end body rest) later b = let r = teams_both P rest later b.1 in ((b.0, r.0), r.1)
teams_both P (Barrier line rest) later b = teams_both P rest later b
teams_both P (Critical mutex line end body rest) later b = let r = teams_both P rest later b.1 in ((b.0, r.0), r.1)

pub alone_at : (locks : ℕ) (held : List ℕ) (stmts : List Stmt) (k : ℕ) (x : Stmt) → slice_get stmts k ≡ Some x → IsAlone locks held (code_of stmts) → IsAlone locks held (stmt_code x Done)
alone_at locks held = each_has (IsAlone locks held) (alone_both locks held)

pub teams_at : (P : TeamTree → Type 0) (stmts : List Stmt) (k : ℕ) (x : Stmt) → slice_get stmts k ≡ Some x → EachTeam P (code_of stmts) → EachTeam P (stmt_code x Done)
teams_at P = each_has (EachTeam P) (teams_both P)

-- a statement that a lane executes alone is one of these
module _ (locks : ℕ) (held : List ℕ) (s : Stmt) (h : IsAlone locks held (stmt_code s Done)) (no_set : (slot : ℕ) (value : Expr) → s ≡ variant.Set slot value → ⊥)
    (no_store : (array : ℕ) (index value : Expr) (line site : ℕ) → s ≡ variant.Store array index value line site → ⊥)
    (no_update : (array : ℕ) (index value : Expr) (minus : Bool) (line site : ℕ) → s ≡ variant.Update array index value minus line site → ⊥)
    (no_if : (test : Expr) (if_true if_false : Body) → s ≡ variant.If test if_true if_false → ⊥) (no_loop : (slot : ℕ) (from to : Expr) (body : Body) → s ≡ variant.Loop slot from to body → ⊥)
    (no_region : (team : Team) → s ≡ variant.Parallel team → ⊥) (no_critical : (mutex line end : ℕ) (body : Body) → s ≡ variant.Critical mutex line end body → ⊥) where
  by_layer : (x : Stmt-F Stmt Body Team) → roll-Stmt x ≡ s → ⊥
  by_layer (layer.Set slot value) is = no_set slot value (sym is ∙ rolls-Set slot value)
  by_layer (layer.Store array index value line site) is = no_store array index value line site (sym is ∙ rolls-Store array index value line site)
  by_layer (layer.Update array index value minus line site) is = no_update array index value minus line site (sym is ∙ rolls-Update array index value minus line site)
  by_layer (layer.If test if_true if_false) is = no_if test if_true if_false (sym is ∙ rolls-If test if_true if_false)
  by_layer (layer.Loop slot from to body) is = no_loop slot from to body (sym is ∙ rolls-Loop slot from to body)
  by_layer (layer.Parallel team) is = no_region team (sym is ∙ rolls-Parallel team)
  by_layer (layer.For slot from to schedule nowait line end body) is =
      subst (IsAlone locks held) (ap (λ (z : Stmt). stmt_code z Done) (sym is ∙ rolls-For slot from to schedule nowait line end body) ∙ stmt_code-For slot from to schedule nowait line end body Done) h
  by_layer (layer.Barrier line) is = subst (IsAlone locks held) (ap (λ (z : Stmt). stmt_code z Done) (sym is ∙ rolls-Barrier line) ∙ stmt_code-Barrier line Done) h
  by_layer (layer.Critical mutex line end body) is = no_critical mutex line end body (sym is ∙ rolls-Critical mutex line end body)

  pub alone_only : ⊥
  alone_only = by_layer (out-Stmt s) (roll-out-Stmt s)

-- a statement that is no worksharing loop is executed alone
module _ (locks : ℕ) (s : Stmt) (h : IsOfTeam locks (stmt_code s Done))
    (no_loop : (slot : ℕ) (from to : Expr) (schedule : Schedule) (nowait : Bool) (line end : ℕ) (body : Body) → s ≡ variant.For slot from to schedule nowait line end body → ⊥) where
  alone_by : (t : Stmt) {code : Code} → s ≡ t → stmt_code t Done ≡ code → (IsOfTeam locks code → IsAlone locks [] code) → IsAlone locks [] (stmt_code s Done)
  alone_by t {code} same is own =
      let all : stmt_code s Done ≡ code = ap (λ (z : Stmt). stmt_code z Done) same ∙ is in
      subst (IsAlone locks []) (sym all) (own (subst (IsOfTeam locks) all h))

  alone_layer : (x : Stmt-F Stmt Body Team) → roll-Stmt x ≡ s → IsAlone locks [] (stmt_code s Done)
  alone_layer (layer.Set slot value) is = alone_by (variant.Set slot value) (sym is ∙ rolls-Set slot value) (stmt_code-Set slot value Done) (λ own. own)
  alone_layer (layer.Store array index value line site) is = alone_by (variant.Store array index value line site) (sym is ∙ rolls-Store array index value line site) (stmt_code-Store array index value line site Done) (λ own. own)
  alone_layer (layer.Update array index value minus line site) is = alone_by (variant.Update array index value minus line site) (sym is ∙ rolls-Update array index value minus line site) (stmt_code-Update array index value minus line site Done) (λ own. own)
  alone_layer (layer.If test if_true if_false) is = alone_by (variant.If test if_true if_false) (sym is ∙ rolls-If test if_true if_false) (stmt_code-If test if_true if_false Done) (λ own. own)
  alone_layer (layer.Loop slot from to body) is = alone_by (variant.Loop slot from to body) (sym is ∙ rolls-Loop slot from to body) (stmt_code-Loop slot from to body Done) (λ own. own)
  alone_layer (layer.Parallel team) is = alone_by (variant.Parallel team) (sym is ∙ rolls-Parallel team) (stmt_code-Parallel team Done) (λ own. own)
  alone_layer (layer.For slot from to schedule nowait line end body) is = absurd (no_loop slot from to schedule nowait line end body (sym is ∙ rolls-For slot from to schedule nowait line end body))
  alone_layer (layer.Barrier line) is = alone_by (variant.Barrier line) (sym is ∙ rolls-Barrier line) (stmt_code-Barrier line Done) (λ own. own)
  alone_layer (layer.Critical mutex line end body) is = alone_by (variant.Critical mutex line end body) (sym is ∙ rolls-Critical mutex line end body) (stmt_code-Critical mutex line end body Done) (λ own. own)

  pub alone_in_team : IsAlone locks [] (stmt_code s Done)
  alone_in_team = alone_layer (out-Stmt s) (roll-out-Stmt s)

-- such a statement has no barrier at its end, and isn't drawn
pub alone_whole : (locks : ℕ) (held : List ℕ) (code : Code) → IsAlone locks held code → without_barrier code ≡ code
alone_whole locks held Done own = refl
alone_whole locks held (Set slot value rest) own = refl
alone_whole locks held (Store array index value line site rest) own = refl
alone_whole locks held (Update array index value minus line site rest) own = refl
alone_whole locks held (If test if_true if_false rest) own = refl
alone_whole locks held (Loop slot from to body rest) own = refl
alone_whole locks held (Parallel span line end body rest) own = refl
alone_whole locks held (For slot from to schedule nowait line end body rest) own = absurd own
alone_whole locks held (Barrier line rest) own = absurd own
alone_whole locks held (Critical mutex line end body rest) own = refl

alone_undrawn : (locks : ℕ) (held : List ℕ) (code : Code) → IsAlone locks held code → is_drawn_code code ≡ false
alone_undrawn locks held Done own = refl
alone_undrawn locks held (Set slot value rest) own = refl
alone_undrawn locks held (Store array index value line site rest) own = refl
alone_undrawn locks held (Update array index value minus line site rest) own = refl
alone_undrawn locks held (If test if_true if_false rest) own = refl
alone_undrawn locks held (Loop slot from to body rest) own = refl
alone_undrawn locks held (Parallel span line end body rest) own = refl
alone_undrawn locks held (For slot from to schedule nowait line end body rest) own = absurd own
alone_undrawn locks held (Barrier line rest) own = absurd own
alone_undrawn locks held (Critical mutex line end body rest) own = refl

pub alone_draws_none : (locks : ℕ) (held : List ℕ) (s : Stmt) → IsAlone locks held (stmt_code s Done) → drawn_count (part_of_stmt s ∷ []) ≡ 0
alone_draws_none locks held s own = rw (ap is_drawn_code (alone_whole locks held (stmt_code s Done) own) ∙ alone_undrawn locks held (stmt_code s Done) own) refl
