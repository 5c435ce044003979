-- One list of statements after another, as trees.
use Rattle.std.proofs.Common.{◌≡◌, refl, ap, sym, ◌∙◌, List, [], ◌∷◌}
use Rattle.kernel_syntax.specs.declared.syntax.Stmt.{Stmt}
use Rattle.kernel_syntax.specs.declared.syntax.Stmt.TheOpen as layer
use Rattle.kernel_syntax.specs.declared.syntax.Stmt.TheOpen.{Stmt-F}
use Rattle.kernel_syntax.specs.declared.syntax.Stmt.TheViews.{out-Stmt}
use Rattle.kernel_syntax.specs.declared.syntax.Stmt.TheFolds.{fold_out-Stmt, fold-Body, fold-Team, map-Stmt}
use Rattle.kernel_syntax.specs.declared.syntax.Body.{Body}
use Rattle.kernel_syntax.specs.declared.syntax.Team.{Team}
use Rattle.kernel_syntax.specs.Tree.{Code, TeamTree, Done, Set, Store, Update, If, Loop, Parallel, For, Barrier, Critical}
use Rattle.kernel_syntax.specs.Program.{stmt_code, stmts_code, code_of, layer_code, layer_body, layer_team}

-- the statements of the first, and then those of the second
abbrev pub followed_by : Code → Code → Code
followed_by Done after = after
followed_by (Set slot e rest) after = Set slot e (followed_by rest after)
followed_by (Store array index e line site rest) after = Store array index e line site (followed_by rest after)
followed_by (Update array index e minus line site rest) after = Update array index e minus line site (followed_by rest after)
followed_by (If test if_true if_false rest) after = If test if_true if_false (followed_by rest after)
followed_by (Loop slot from to body rest) after = Loop slot from to body (followed_by rest after)
followed_by (Parallel span line end body rest) after = Parallel span line end body (followed_by rest after)
followed_by (For slot from to schedule nowait line end body rest) after = For slot from to schedule nowait line end body (followed_by rest after)
followed_by (Barrier line rest) after = Barrier line (followed_by rest after)
followed_by (Critical mutex line end body rest) after = Critical mutex line end body (followed_by rest after)

layer_code-follows : (x : Stmt-F (Code → Code) Code TeamTree) (rest after : Code) →
    layer_code x (followed_by rest after) ≡ followed_by (layer_code x rest) after
layer_code-follows (layer.Set slot value) rest after = refl
layer_code-follows (layer.Store array index value line site) rest after = refl
layer_code-follows (layer.Update array index value minus line site) rest after = refl
layer_code-follows (layer.If test if_true if_false) rest after = refl
layer_code-follows (layer.Loop slot from to body) rest after = refl
layer_code-follows (layer.Parallel team) rest after = refl
layer_code-follows (layer.For slot from to schedule nowait line end body) rest after = refl
layer_code-follows (layer.Barrier line) rest after = refl
layer_code-follows (layer.Critical mutex line end body) rest after = refl

-- the layer of a statement, with the code of its parts
abbrev parts_of : Stmt → Stmt-F (Code → Code) Code TeamTree
parts_of s =
    map-Stmt Stmt Body Team (Code → Code) Code TeamTree stmt_code
    (fold-Body (Code → Code) Code TeamTree layer_code layer_body layer_team)
    (fold-Team (Code → Code) Code TeamTree layer_code layer_body layer_team)
    (out-Stmt s)

stmt_code-is : (s : Stmt) (rest : Code) → stmt_code s rest ≡ layer_code (parts_of s) rest
unfolding stmt_code
stmt_code-is s rest = ap (λ (f : Code → Code). f rest) (fold_out-Stmt (Code → Code) Code TeamTree layer_code layer_body layer_team s)

pub stmt_code-follows : (s : Stmt) (rest after : Code) → stmt_code s (followed_by rest after) ≡ followed_by (stmt_code s rest) after
stmt_code-follows s rest after =
    stmt_code-is s (followed_by rest after)
    ∙ layer_code-follows (parts_of s) rest after
    ∙ ap (λ c. followed_by c after) (sym (stmt_code-is s rest))

-- statements, and what follows them
pub stmts_code-follows : (stmts : List Stmt) (after : Code) → stmts_code stmts after ≡ followed_by (code_of stmts) after
stmts_code-follows [] after = refl
stmts_code-follows (s ∷ stmts) after =
    ap (stmt_code s) (stmts_code-follows stmts after) ∙ stmt_code-follows s (code_of stmts) after

-- a first statement, and what follows it
pub stmt_code-first : (s : Stmt) (after : Code) → stmt_code s after ≡ followed_by (stmt_code s Done) after
stmt_code-first s after = stmt_code-follows s Done after
