-- The tree of a kernel, by which contracts compare kernels.
use Rattle.std.specs.Prelude.{ℕ, List, [], ◌∷◌, map}
use Rattle.kernel_syntax.specs.declared.syntax.Array.{Array}
use Rattle.kernel_syntax.specs.declared.syntax.Expr.{Expr}
use Rattle.kernel_syntax.specs.declared.syntax.Expr.TheVariants.{Number, Slot, Tid, Span, Load', Neg', Binary'}
use Rattle.kernel_syntax.specs.declared.syntax.Stmt.{Stmt}
use Rattle.kernel_syntax.specs.declared.syntax.Stmt.TheOpen as layer
use Rattle.kernel_syntax.specs.declared.syntax.Stmt.TheOpen.{Stmt-F, Body-F, Team-F}
use Rattle.kernel_syntax.specs.declared.syntax.Stmt.TheFolds.{fold-Stmt}
use Rattle.kernel_syntax.specs.declared.syntax.Team.{Team}
use Rattle.kernel_syntax.specs.declared.syntax.Kernel.{Kernel}
use Rattle.kernel_syntax.specs.Tree as tree
use Rattle.kernel_syntax.specs.Tree.{Term, Code, TeamTree, Done}

-- the tree of an expression
abbrev pub term_of : Expr → Term
term_of (Number n) = tree.Number n
term_of (Slot k) = tree.Slot k
term_of Tid = tree.Tid
term_of Span = tree.Span
term_of (Load' array _ index line site) = tree.Load array (term_of index) line site
term_of (Neg' _ e) = tree.Neg (term_of e)
term_of (Binary' op line _ left _ right) = tree.Binary op line (term_of left) (term_of right)

-- several statements followed by the rest, each given what follows it
abbrev pub in_sequence : {X : Type 0} → List (X → X) → X → X
in_sequence [] rest = rest
in_sequence (first ∷ others) rest = first (in_sequence others rest)

-- a team, given the code of its body
abbrev pub team_tree : ℕ → ℕ → ℕ → Code → TeamTree
team_tree span line end body = record { span = span; line = line; end = end; body = body }

-- one statement, given the code of the bodies in it and what follows
abbrev pub layer_code : Stmt-F (Code → Code) Code TeamTree → Code → Code
layer_code (layer.Set slot value) rest = tree.Set slot (term_of value) rest
layer_code (layer.Store array index value line site) rest = tree.Store array (term_of index) (term_of value) line site rest
layer_code (layer.Update array index value minus line site) rest =
    tree.Update array (term_of index) (term_of value) minus line site rest
layer_code (layer.If test if_true if_false) rest = tree.If (term_of test) if_true if_false rest
layer_code (layer.Loop slot from to body) rest = tree.Loop slot (term_of from) (term_of to) body rest
layer_code (layer.Parallel team) rest = tree.Parallel team.span team.line team.end team.body rest
layer_code (layer.For slot from to schedule nowait line end body) rest =
    tree.For slot (term_of from) (term_of to) schedule nowait line end body rest
layer_code (layer.Barrier line) rest = tree.Barrier line rest
layer_code (layer.Critical mutex line end body) rest = tree.Critical mutex line end body rest

abbrev pub layer_body : Body-F (Code → Code) Code TeamTree → Code
layer_body body = in_sequence body.stmts.items Done

abbrev pub layer_team : Team-F (Code → Code) Code TeamTree → TeamTree
layer_team team = team_tree team.span team.line team.end team.body

-- a statement followed by the rest
unfoldable pub stmt_code : Stmt → Code → Code
stmt_code = fold-Stmt (Code → Code) Code TeamTree layer_code layer_body layer_team

-- several statements followed by the rest
abbrev pub stmts_code : List Stmt → Code → Code
stmts_code stmts = in_sequence (map stmt_code stmts)

-- a list of statements
abbrev pub code_of : List Stmt → Code
code_of stmts = stmts_code stmts Done

-- the tree of a team
abbrev pub team_of : Team → TeamTree
team_of team = team_tree team.span team.line team.end (code_of team.body.stmts.items)

-- a kernel's arrays, mutexes and main team, and its number of slots
pub record Program : Type 0 where
  pub arrays : List Array
  pub mutexes : List (List ℕ)
  pub main : TeamTree
  pub slots : ℕ

-- the tree of a kernel
abbrev pub program_of : Kernel → Program
program_of kernel = record { arrays = kernel.arrays; mutexes = kernel.mutexes; main = team_of kernel.main; slots = kernel.slots }
