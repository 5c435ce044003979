-- What each kind of statement is before the rest: one equation a variant, for those who build or match one.
use Rattle.std.proofs.Common.{◌≡◌, ap, sym, refl, ◌∙◌, ℕ, Bool, List, [], ◌∷◌, ◌++◌, Option}
use Rattle.std.specs.Prelude.{ℤ}
use Rattle.kernel_text.specs.Grammar as grammar
use Rattle.kernel_text.specs.Grammar.{Stmts}
use Rattle.kernel_parser.specs.declared.tree.Tree.{Tree}
use Rattle.kernel_parser.specs.declared.tree.Range.{Range}
use Rattle.kernel_parser.specs.declared.tree.ScheduleTree.{ScheduleTree}
use Rattle.kernel_parser.specs.declared.tree.Block.{Block}
use Rattle.kernel_parser.specs.declared.tree.Statement.{Statement}
use Rattle.kernel_parser.specs.declared.tree.Statement.TheOpen as layer
use Rattle.kernel_parser.specs.declared.tree.Statement.TheOpen.{Statement-F}
use Rattle.kernel_parser.specs.declared.tree.Statement.TheVariants as variant
use Rattle.kernel_parser.specs.declared.tree.Statement.TheVariants.{rolls-Let, rolls-Assign, rolls-Store, rolls-Update, rolls-If, rolls-IfElse, rolls-Loop, rolls-Parallel, rolls-For, rolls-Barrier, rolls-Critical, rolls-CriticalOf}
use Rattle.kernel_parser.specs.declared.tree.Statement.TheViews.{roll-Statement, out-Statement, roll-out-Statement}
use Rattle.kernel_parser.specs.declared.tree.Statement.TheFolds.{fold-Block, fold-roll-Statement, fold_out-Block, map-Statement}
use Rattle.kernel_parser.specs.Trees.{tree_of, schedule_tree, BlockTree, layer_stmt, layer_block, stmt_before, stmts_before, stmts_of}

-- what the folds give for a block
abbrev pub block_fold : Block → BlockTree
block_fold = fold-Block (Stmts → Stmts) BlockTree layer_stmt layer_block

abbrev block_tree : Block → BlockTree
block_tree b = record { opened = b.opened; body = stmts_of b.stmts.items; closed = b.closed }

block_fold-is : (b : Block) → block_fold b ≡ block_tree b
unfolding stmt_before
block_fold-is b = fold_out-Block (Stmts → Stmts) BlockTree layer_stmt layer_block b

-- a statement, where x is its variant
from_layer : (x : Statement-F Statement Block) (s : Statement) (rest : Stmts) → roll-Statement x ≡ s →
    stmt_before s rest ≡ layer_stmt (map-Statement Statement Block (Stmts → Stmts) BlockTree stmt_before block_fold x) rest
unfolding stmt_before
from_layer x s rest is =
    ap (λ z. stmt_before z rest) (sym is)
    ∙ ap (λ (f : Stmts → Stmts). f rest) (fold-roll-Statement (Stmts → Stmts) BlockTree layer_stmt layer_block x)

-- a statement by its layer
pub before_layer : (s : Statement) (rest : Stmts) → stmt_before s rest ≡ layer_stmt (map-Statement Statement Block (Stmts → Stmts) BlockTree stmt_before block_fold (out-Statement s)) rest
before_layer s rest = from_layer (out-Statement s) s rest (roll-out-Statement s)

pub before_let : (line name_line : ℕ) (name : List ℕ) (sign_line : ℕ) (value : Tree) (rest : Stmts)
    → stmt_before (variant.Let line name_line name sign_line value) rest ≡ grammar.Let line name_line name sign_line (tree_of value) rest
before_let line name_line name sign_line value rest = from_layer (layer.Let line name_line name sign_line value) _ rest (rolls-Let line name_line name sign_line value)

pub before_assign : (line : ℕ) (name : List ℕ) (sign_line : ℕ) (value : Tree) (rest : Stmts)
    → stmt_before (variant.Assign line name sign_line value) rest ≡ grammar.Assign line name sign_line (tree_of value) rest
before_assign line name sign_line value rest = from_layer (layer.Assign line name sign_line value) _ rest (rolls-Assign line name sign_line value)

pub before_store : (line : ℕ) (name : List ℕ) (opened : ℕ) (index : Tree) (closed sign_line : ℕ) (value : Tree) (rest : Stmts)
    → stmt_before (variant.Store line name opened index closed sign_line value) rest ≡ grammar.Store line name opened (tree_of index) closed sign_line (tree_of value) rest
before_store line name opened index closed sign_line value rest =
    from_layer (layer.Store line name opened index closed sign_line value) _ rest (rolls-Store line name opened index closed sign_line value)

pub before_update : (line name_line : ℕ) (name : List ℕ) (opened : ℕ) (index : Tree) (closed : ℕ) (minus : Bool) (sign_line : ℕ) (value : Tree) (rest : Stmts)
    → stmt_before (variant.Update line name_line name opened index closed minus sign_line value) rest
    ≡ grammar.Update line name_line name opened (tree_of index) closed minus sign_line (tree_of value) rest
before_update line name_line name opened index closed minus sign_line value rest =
    from_layer (layer.Update line name_line name opened index closed minus sign_line value) _ rest (rolls-Update line name_line name opened index closed minus sign_line value)

pub before_if : (line : ℕ) (test : Tree) (body : Block) (rest : Stmts)
    → stmt_before (variant.If line test body) rest ≡ grammar.If line (tree_of test) body.opened (stmts_of body.stmts.items) body.closed rest
before_if line test body rest =
    from_layer (layer.If line test body) _ rest (rolls-If line test body)
    ∙ ap (λ (b : BlockTree). grammar.If line (tree_of test) b.opened b.body b.closed rest) (block_fold-is body)

pub before_if_else : (line : ℕ) (test : Tree) (body : Block) (else_line : ℕ) (other : Block) (rest : Stmts)
    → stmt_before (variant.IfElse line test body else_line other) rest
    ≡ grammar.IfElse line (tree_of test) body.opened (stmts_of body.stmts.items) body.closed else_line other.opened (stmts_of other.stmts.items) other.closed rest
before_if_else line test body else_line other rest =
    from_layer (layer.IfElse line test body else_line other) _ rest (rolls-IfElse line test body else_line other)
    ∙ ap (λ (b : BlockTree). grammar.IfElse line (tree_of test) b.opened b.body b.closed else_line (block_fold other).opened (block_fold other).body (block_fold other).closed rest) (block_fold-is body)
    ∙ ap (λ (b : BlockTree). grammar.IfElse line (tree_of test) body.opened (stmts_of body.stmts.items) body.closed else_line b.opened b.body b.closed rest) (block_fold-is other)

pub before_loop : (line : ℕ) (range : Range) (body : Block) (rest : Stmts)
    → stmt_before (variant.Loop line range body) rest
    ≡ grammar.Loop line range.name_line range.name range.in_line (tree_of range.from) range.dots (tree_of range.to) body.opened (stmts_of body.stmts.items) body.closed rest
before_loop line range body rest =
    from_layer (layer.Loop line range body) _ rest (rolls-Loop line range body)
    ∙ ap (λ (b : BlockTree). grammar.Loop line range.name_line range.name range.in_line (tree_of range.from) range.dots (tree_of range.to) b.opened b.body b.closed rest) (block_fold-is body)

pub before_parallel : (line number_line : ℕ) (span : ℤ) (body : Block) (rest : Stmts)
    → stmt_before (variant.Parallel line number_line span body) rest ≡ grammar.Parallel line number_line span body.opened (stmts_of body.stmts.items) body.closed rest
before_parallel line number_line span body rest =
    from_layer (layer.Parallel line number_line span body) _ rest (rolls-Parallel line number_line span body)
    ∙ ap (λ (b : BlockTree). grammar.Parallel line number_line span b.opened b.body b.closed rest) (block_fold-is body)

pub before_for : (line : ℕ) (range : Range) (schedule : ScheduleTree) (nowait : Option ℕ) (body : Block) (rest : Stmts)
    → stmt_before (variant.For line range schedule nowait body) rest
    ≡ grammar.For line range.name_line range.name range.in_line (tree_of range.from) range.dots (tree_of range.to) (schedule_tree schedule) nowait body.opened (stmts_of body.stmts.items) body.closed rest
before_for line range schedule nowait body rest =
    from_layer (layer.For line range schedule nowait body) _ rest (rolls-For line range schedule nowait body)
    ∙ ap (λ (b : BlockTree). grammar.For line range.name_line range.name range.in_line (tree_of range.from) range.dots (tree_of range.to) (schedule_tree schedule) nowait b.opened b.body b.closed rest) (block_fold-is body)

pub before_barrier : (line : ℕ) (rest : Stmts) → stmt_before (variant.Barrier line) rest ≡ grammar.Barrier line rest
before_barrier line rest = from_layer (layer.Barrier line) _ rest (rolls-Barrier line)

pub before_critical : (line : ℕ) (body : Block) (rest : Stmts)
    → stmt_before (variant.Critical line body) rest ≡ grammar.Critical line body.opened (stmts_of body.stmts.items) body.closed rest
before_critical line body rest =
    from_layer (layer.Critical line body) _ rest (rolls-Critical line body)
    ∙ ap (λ (b : BlockTree). grammar.Critical line b.opened b.body b.closed rest) (block_fold-is body)

pub before_critical_of : (line name_line : ℕ) (name : List ℕ) (body : Block) (rest : Stmts)
    → stmt_before (variant.CriticalOf line name_line name body) rest ≡ grammar.CriticalOf line name_line name body.opened (stmts_of body.stmts.items) body.closed rest
before_critical_of line name_line name body rest =
    from_layer (layer.CriticalOf line name_line name body) _ rest (rolls-CriticalOf line name_line name body)
    ∙ ap (λ (b : BlockTree). grammar.CriticalOf line name_line name b.opened b.body b.closed rest) (block_fold-is body)

-- with one more
pub before_push : (xs : List Statement) (x : Statement) (rest : Stmts) → stmts_before (xs ++ x ∷ []) rest ≡ stmts_before xs (stmt_before x rest)
before_push [] x rest = refl
before_push (y ∷ ys) x rest = ap (stmt_before y) (before_push ys x rest)

-- the same, with the parts by name
pub made_parallel : (line line2 number_line : ℕ) (span span2 : ℤ) (made : Block) (opened : ℕ) (body : Stmts) (closed : ℕ) → line2 ≡ number_line → span2 ≡ span → made.opened ≡ opened → stmts_of made.stmts.items ≡ body → made.closed ≡ closed
    → (rest : Stmts) → stmt_before (variant.Parallel line line2 span2 made) rest ≡ grammar.Parallel line number_line span opened body closed rest
made_parallel line line2 number_line span span2 made opened body closed line_is span_is opens is closes rest = let b = before_parallel line line2 span2 made rest in cc

pub made_critical_of : (line line2 name_line : ℕ) (name name2 : List ℕ) (made : Block) (opened : ℕ) (body : Stmts) (closed : ℕ) → line2 ≡ name_line → name2 ≡ name → made.opened ≡ opened → stmts_of made.stmts.items ≡ body → made.closed ≡ closed
    → (rest : Stmts) → stmt_before (variant.CriticalOf line line2 name2 made) rest ≡ grammar.CriticalOf line name_line name opened body closed rest
made_critical_of line line2 name_line name name2 made opened body closed line_is name_is opens is closes rest = let b = before_critical_of line line2 name2 made rest in cc
