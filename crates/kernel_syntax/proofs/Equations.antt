-- The code of each kind of statement: one equation a variant, for those who build or match one.
use Rattle.std.proofs.Common.{◌≡◌, ap, sym, refl, ◌∙◌, ℕ, Bool, List, [], ◌∷◌, ◌++◌}
use Rattle.kernel_syntax.specs.declared.syntax.Schedule.{Schedule}
use Rattle.kernel_syntax.specs.declared.syntax.Expr.{Expr}
use Rattle.kernel_syntax.specs.declared.syntax.Stmt.{Stmt}
use Rattle.kernel_syntax.specs.declared.syntax.Stmt.TheOpen as layer
use Rattle.kernel_syntax.specs.declared.syntax.Stmt.TheOpen.{Stmt-F}
use Rattle.kernel_syntax.specs.declared.syntax.Stmt.TheVariants as variant
use Rattle.kernel_syntax.specs.declared.syntax.Stmt.TheVariants.{rolls-Set, rolls-Store, rolls-Update, rolls-If, rolls-Loop, rolls-Parallel, rolls-For, rolls-Barrier, rolls-Critical}
use Rattle.kernel_syntax.specs.declared.syntax.Stmt.TheViews.{roll-Stmt}
use Rattle.kernel_syntax.specs.declared.syntax.Stmt.TheFolds.{fold-Body, fold-Team, fold-roll-Stmt, fold_out-Body, fold_out-Team, map-Stmt}
use Rattle.kernel_syntax.specs.declared.syntax.Body.{Body}
use Rattle.kernel_syntax.specs.declared.syntax.Team.{Team}
use Rattle.kernel_syntax.specs.Tree as tree
use Rattle.kernel_syntax.specs.Tree.{Code, TeamTree}
use Rattle.kernel_syntax.specs.Program.{term_of, stmt_code, stmts_code, code_of, team_of, team_tree, layer_code, layer_body, layer_team}

-- what the folds give for the parts of a statement
abbrev body_fold : Body → Code
body_fold = fold-Body (Code → Code) Code TeamTree layer_code layer_body layer_team

abbrev team_fold : Team → TeamTree
team_fold = fold-Team (Code → Code) Code TeamTree layer_code layer_body layer_team

body_fold-is : (b : Body) → body_fold b ≡ code_of b.stmts.items
unfolding stmt_code
body_fold-is b = fold_out-Body (Code → Code) Code TeamTree layer_code layer_body layer_team b

team_fold-is : (t : Team) → team_fold t ≡ team_of t
unfolding stmt_code
team_fold-is t =
    fold_out-Team (Code → Code) Code TeamTree layer_code layer_body layer_team t
    ∙ ap (team_tree t.span t.line t.end) (body_fold-is t.body)

-- a statement's code, where x is its variant and k the same code by the folds
from_layer : (x : Stmt-F Stmt Body Team) (s : Stmt) (rest : Code) → roll-Stmt x ≡ s →
    stmt_code s rest ≡ layer_code (map-Stmt Stmt Body Team (Code → Code) Code TeamTree stmt_code body_fold team_fold x) rest
unfolding stmt_code
from_layer x s rest is =
    ap (λ z. stmt_code z rest) (sym is)
    ∙ ap (λ (f : Code → Code). f rest) (fold-roll-Stmt (Code → Code) Code TeamTree layer_code layer_body layer_team x)

pub stmt_code-Set : (slot : ℕ) (value : Expr) (rest : Code) →
    stmt_code (variant.Set slot value) rest ≡ tree.Set slot (term_of value) rest
stmt_code-Set slot value rest = from_layer (layer.Set slot value) _ rest (rolls-Set slot value)

pub stmt_code-Store : (array : ℕ) (index value : Expr) (line site : ℕ) (rest : Code) →
    stmt_code (variant.Store array index value line site) rest ≡ tree.Store array (term_of index) (term_of value) line site rest
stmt_code-Store array index value line site rest =
    from_layer (layer.Store array index value line site) _ rest (rolls-Store array index value line site)

pub stmt_code-Update : (array : ℕ) (index value : Expr) (minus : Bool) (line site : ℕ) (rest : Code) →
    stmt_code (variant.Update array index value minus line site) rest
    ≡ tree.Update array (term_of index) (term_of value) minus line site rest
stmt_code-Update array index value minus line site rest =
    from_layer (layer.Update array index value minus line site) _ rest (rolls-Update array index value minus line site)

pub stmt_code-If : (test : Expr) (if_true if_false : Body) (rest : Code) →
    stmt_code (variant.If test if_true if_false) rest
    ≡ tree.If (term_of test) (code_of if_true.stmts.items) (code_of if_false.stmts.items) rest
stmt_code-If test if_true if_false rest =
    from_layer (layer.If test if_true if_false) _ rest (rolls-If test if_true if_false)
    ∙ ap (λ a. tree.If (term_of test) a (body_fold if_false) rest) (body_fold-is if_true)
    ∙ ap (λ b. tree.If (term_of test) (code_of if_true.stmts.items) b rest) (body_fold-is if_false)

pub stmt_code-Loop : (slot : ℕ) (from to : Expr) (body : Body) (rest : Code) →
    stmt_code (variant.Loop slot from to body) rest ≡ tree.Loop slot (term_of from) (term_of to) (code_of body.stmts.items) rest
stmt_code-Loop slot from to body rest =
    from_layer (layer.Loop slot from to body) _ rest (rolls-Loop slot from to body)
    ∙ ap (λ b. tree.Loop slot (term_of from) (term_of to) b rest) (body_fold-is body)

pub stmt_code-Parallel : (team : Team) (rest : Code) →
    stmt_code (variant.Parallel team) rest ≡ tree.Parallel team.span team.line team.end (code_of team.body.stmts.items) rest
stmt_code-Parallel team rest =
    from_layer (layer.Parallel team) _ rest (rolls-Parallel team)
    ∙ ap (λ t. tree.Parallel t.span t.line t.end t.body rest) (team_fold-is team)

pub stmt_code-For : (slot : ℕ) (from to : Expr) (schedule : Schedule) (nowait : Bool) (line end : ℕ) (body : Body) (rest : Code) →
    stmt_code (variant.For slot from to schedule nowait line end body) rest
    ≡ tree.For slot (term_of from) (term_of to) schedule nowait line end (code_of body.stmts.items) rest
stmt_code-For slot from to schedule nowait line end body rest =
    from_layer (layer.For slot from to schedule nowait line end body) _ rest (rolls-For slot from to schedule nowait line end body)
    ∙ ap (λ b. tree.For slot (term_of from) (term_of to) schedule nowait line end b rest) (body_fold-is body)

pub stmt_code-Barrier : (line : ℕ) (rest : Code) → stmt_code (variant.Barrier line) rest ≡ tree.Barrier line rest
stmt_code-Barrier line rest = from_layer (layer.Barrier line) _ rest (rolls-Barrier line)

pub stmt_code-Critical : (mutex line end : ℕ) (body : Body) (rest : Code) →
    stmt_code (variant.Critical mutex line end body) rest ≡ tree.Critical mutex line end (code_of body.stmts.items) rest
stmt_code-Critical mutex line end body rest =
    from_layer (layer.Critical mutex line end body) _ rest (rolls-Critical mutex line end body)
    ∙ ap (λ b. tree.Critical mutex line end b rest) (body_fold-is body)

-- one list of statements after another
pub stmts_code-append : (xs ys : List Stmt) (rest : Code) → stmts_code (xs ++ ys) rest ≡ stmts_code xs (stmts_code ys rest)
stmts_code-append [] ys rest = refl
stmts_code-append (x ∷ xs) ys rest = ap (stmt_code x) (stmts_code-append xs ys rest)
