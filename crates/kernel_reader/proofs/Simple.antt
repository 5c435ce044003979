-- Which statements are simple, by their variants.
use Rattle.std.proofs.Common.{◌≡◌, sym, ◌∙◌, subst, ℕ, Bool, List, Option}
use Rattle.std.specs.Prelude.{ℤ}
use Rattle.kernel_text.specs.Grammar.{Stmts, NoMore}
use Rattle.kernel_parser.specs.declared.tree.Tree.{Tree}
use Rattle.kernel_parser.specs.declared.tree.Range.{Range}
use Rattle.kernel_parser.specs.declared.tree.ScheduleTree.{ScheduleTree}
use Rattle.kernel_parser.specs.declared.tree.Block.{Block}
use Rattle.kernel_parser.specs.declared.tree.Statement.{Statement}
use Rattle.kernel_parser.specs.declared.tree.Statement.TheOpen as layer
use Rattle.kernel_parser.specs.declared.tree.Statement.TheOpen.{Statement-F}
use Rattle.kernel_parser.specs.declared.tree.Statement.TheVariants as variant
use Rattle.kernel_parser.specs.declared.tree.Statement.TheVariants.{rolls-Let, rolls-Assign, rolls-Store, rolls-Update, rolls-If, rolls-IfElse, rolls-Loop, rolls-Parallel, rolls-For, rolls-Barrier, rolls-Critical, rolls-CriticalOf}
use Rattle.kernel_parser.specs.declared.tree.Statement.TheViews.{roll-Statement, out-Statement, roll-out-Statement}
use Rattle.kernel_parser.specs.declared.tree.Statement.TheFolds.{map-Statement}
use Rattle.kernel_parser.specs.Trees.{BlockTree, layer_stmt, stmt_before}
use Rattle.kernel_parser.proofs.Equations.{block_fold, before_layer}
use Rattle.kernel_reader.specs.Simple.{IsSimple}

-- a statement is simple if its layer is
abbrev IsSimpleLayer : Statement-F Statement Block → Type 0
IsSimpleLayer x = IsSimple (layer_stmt (map-Statement Statement Block (Stmts → Stmts) BlockTree stmt_before block_fold x) NoMore)

-- a statement that has no block is simple
module _ (s : Statement) (no_if : (line : ℕ) (test : Tree) (body : Block) → s ≡ variant.If line test body → ⊥) (no_if_else : (line : ℕ) (test : Tree) (body : Block) (else_line : ℕ) (other : Block) → s ≡ variant.IfElse line test body else_line other → ⊥)
    (no_loop : (line : ℕ) (range : Range) (body : Block) → s ≡ variant.Loop line range body → ⊥) (no_parallel : (line number_line : ℕ) (span : ℤ) (body : Block) → s ≡ variant.Parallel line number_line span body → ⊥)
    (no_for : (line : ℕ) (range : Range) (schedule : ScheduleTree) (nowait : Option ℕ) (body : Block) → s ≡ variant.For line range schedule nowait body → ⊥) (no_critical : (line : ℕ) (body : Block) → s ≡ variant.Critical line body → ⊥)
    (no_critical_of : (line name_line : ℕ) (name : List ℕ) (body : Block) → s ≡ variant.CriticalOf line name_line name body → ⊥) where
  simple_layer : (x : Statement-F Statement Block) → roll-Statement x ≡ s → IsSimpleLayer x
  simple_layer (layer.Let line name_line name sign_line value) is = tt
  simple_layer (layer.Assign line name sign_line value) is = tt
  simple_layer (layer.Store line name opened index closed sign_line value) is = tt
  simple_layer (layer.Update line name_line name opened index closed minus sign_line value) is = tt
  simple_layer (layer.If line test body) is = absurd (no_if line test body (sym is ∙ rolls-If line test body))
  simple_layer (layer.IfElse line test body else_line other) is = absurd (no_if_else line test body else_line other (sym is ∙ rolls-IfElse line test body else_line other))
  simple_layer (layer.Loop line range body) is = absurd (no_loop line range body (sym is ∙ rolls-Loop line range body))
  simple_layer (layer.Parallel line number_line span body) is = absurd (no_parallel line number_line span body (sym is ∙ rolls-Parallel line number_line span body))
  simple_layer (layer.For line range schedule nowait body) is = absurd (no_for line range schedule nowait body (sym is ∙ rolls-For line range schedule nowait body))
  simple_layer (layer.Barrier line) is = tt
  simple_layer (layer.Critical line body) is = absurd (no_critical line body (sym is ∙ rolls-Critical line body))
  simple_layer (layer.CriticalOf line name_line name body) is = absurd (no_critical_of line name_line name body (sym is ∙ rolls-CriticalOf line name_line name body))

  pub is_simple : IsSimple (stmt_before s NoMore)
  is_simple = subst IsSimple (sym (before_layer s NoMore)) (simple_layer (out-Statement s) (roll-out-Statement s))

-- a simple statement is one of these
module _ (s : Statement) (h : IsSimple (stmt_before s NoMore)) (no_let : (line name_line : ℕ) (name : List ℕ) (sign_line : ℕ) (value : Tree) → s ≡ variant.Let line name_line name sign_line value → ⊥) (no_assign : (line : ℕ) (name : List ℕ) (sign_line : ℕ) (value : Tree) → s ≡ variant.Assign line name sign_line value → ⊥)
    (no_store : (line : ℕ) (name : List ℕ) (opened : ℕ) (index : Tree) (closed sign_line : ℕ) (value : Tree) → s ≡ variant.Store line name opened index closed sign_line value → ⊥) (no_update : (line name_line : ℕ) (name : List ℕ) (opened : ℕ) (index : Tree) (closed : ℕ) (minus : Bool) (sign_line : ℕ) (value : Tree) → s ≡ variant.Update line name_line name opened index closed minus sign_line value → ⊥)
    (no_barrier : (line : ℕ) → s ≡ variant.Barrier line → ⊥) where
  no_layer : (x : Statement-F Statement Block) → roll-Statement x ≡ s → IsSimpleLayer x → ⊥
  no_layer (layer.Let line name_line name sign_line value) is simple = no_let line name_line name sign_line value (sym is ∙ rolls-Let line name_line name sign_line value)
  no_layer (layer.Assign line name sign_line value) is simple = no_assign line name sign_line value (sym is ∙ rolls-Assign line name sign_line value)
  no_layer (layer.Store line name opened index closed sign_line value) is simple = no_store line name opened index closed sign_line value (sym is ∙ rolls-Store line name opened index closed sign_line value)
  no_layer (layer.Update line name_line name opened index closed minus sign_line value) is simple = no_update line name_line name opened index closed minus sign_line value (sym is ∙ rolls-Update line name_line name opened index closed minus sign_line value)
  no_layer (layer.If line test body) is simple = simple
  no_layer (layer.IfElse line test body else_line other) is simple = simple
  no_layer (layer.Loop line range body) is simple = simple
  no_layer (layer.Parallel line number_line span body) is simple = simple
  no_layer (layer.For line range schedule nowait body) is simple = simple
  no_layer (layer.Barrier line) is simple = no_barrier line (sym is ∙ rolls-Barrier line)
  no_layer (layer.Critical line body) is simple = simple
  no_layer (layer.CriticalOf line name_line name body) is simple = simple

  pub simple_only : ⊥
  simple_only = no_layer (out-Statement s) (roll-out-Statement s) (subst IsSimple (before_layer s NoMore) h)
