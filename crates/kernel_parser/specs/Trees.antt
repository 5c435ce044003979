-- The trees of the code, as those of the grammar.
use Rattle.std.specs.Prelude.{ℕ, List, [], ◌∷◌, map}
use Rattle.kernel_syntax.specs.Program.{in_sequence}
use Rattle.kernel_text.specs.Grammar.{Tree, NumberAt, NameAt, TidAt, SpanAt, Element, Group, Minus, Binary, ScheduleTree, Unsaid, Static, StaticBy, Dynamic, DynamicBy, Stmts, NoMore, Let, Assign, Store, Update, If, IfElse, Loop, Parallel, For, Barrier, Critical, CriticalOf, Declaration, ArrayOf, MutexOf, KernelTree}
use Rattle.kernel_parser.specs.declared.tree.Tree as code
use Rattle.kernel_parser.specs.declared.tree.Tree.TheVariants as written
use Rattle.kernel_parser.specs.declared.tree.ScheduleTree as schedules
use Rattle.kernel_parser.specs.declared.tree.ScheduleTree.TheVariants as schedule
use Rattle.kernel_parser.specs.declared.tree.Statement.{Statement}
use Rattle.kernel_parser.specs.declared.tree.Statement.TheOpen as layer
use Rattle.kernel_parser.specs.declared.tree.Statement.TheOpen.{Statement-F, Block-F}
use Rattle.kernel_parser.specs.declared.tree.Statement.TheFolds.{fold-Statement}
use Rattle.kernel_parser.specs.declared.tree.Declaration as declarations
use Rattle.kernel_parser.specs.declared.tree.Declaration.TheVariants as declaration
use Rattle.kernel_parser.specs.declared.tree.KernelTree as kernels

-- an expression
abbrev pub tree_of : code.Tree → Tree
tree_of (written.Number line value) = NumberAt line value
tree_of (written.Name line name) = NameAt line name
tree_of (written.Tid line) = TidAt line
tree_of (written.Span line) = SpanAt line
tree_of (written.Element' line name opened _ index closed) = Element line name opened (tree_of index) closed
tree_of (written.Group' opened _ inside closed) = Group opened (tree_of inside) closed
tree_of (written.Minus' line _ operand) = Minus line (tree_of operand)
tree_of (written.Binary' _ left op line _ right) = Binary (tree_of left) op line (tree_of right)

abbrev pub schedule_tree : schedules.ScheduleTree → ScheduleTree
schedule_tree schedule.Unsaid = Unsaid
schedule_tree (schedule.Static line) = Static line
schedule_tree (schedule.StaticBy line number_line chunk) = StaticBy line number_line chunk
schedule_tree (schedule.Dynamic line) = Dynamic line
schedule_tree (schedule.DynamicBy line number_line chunk) = DynamicBy line number_line chunk

-- a block: the lines of its braces and its statements
pub record BlockTree : Type 0 where
  pub opened : ℕ
  pub body : Stmts
  pub closed : ℕ

-- one statement before the rest, given the blocks in it
abbrev pub layer_stmt : Statement-F (Stmts → Stmts) BlockTree → Stmts → Stmts
layer_stmt (layer.Let line name_line name sign_line value) rest = Let line name_line name sign_line (tree_of value) rest
layer_stmt (layer.Assign line name sign_line value) rest = Assign line name sign_line (tree_of value) rest
layer_stmt (layer.Store line name opened index closed sign_line value) rest = Store line name opened (tree_of index) closed sign_line (tree_of value) rest
layer_stmt (layer.Update line name_line name opened index closed minus sign_line value) rest =
    Update line name_line name opened (tree_of index) closed minus sign_line (tree_of value) rest
layer_stmt (layer.If line test if_true) rest = If line (tree_of test) if_true.opened if_true.body if_true.closed rest
layer_stmt (layer.IfElse line test if_true else_line if_false) rest =
    IfElse line (tree_of test) if_true.opened if_true.body if_true.closed else_line if_false.opened if_false.body if_false.closed rest
layer_stmt (layer.Loop line range body) rest =
    Loop line range.name_line range.name range.in_line (tree_of range.from) range.dots (tree_of range.to) body.opened body.body body.closed rest
layer_stmt (layer.Parallel line number_line span body) rest = Parallel line number_line span body.opened body.body body.closed rest
layer_stmt (layer.For line range schedule nowait body) rest =
    For line range.name_line range.name range.in_line (tree_of range.from) range.dots (tree_of range.to) (schedule_tree schedule) nowait body.opened body.body body.closed rest
layer_stmt (layer.Barrier line) rest = Barrier line rest
layer_stmt (layer.Critical line body) rest = Critical line body.opened body.body body.closed rest
layer_stmt (layer.CriticalOf line name_line name body) rest = CriticalOf line name_line name body.opened body.body body.closed rest

abbrev pub layer_block : Block-F (Stmts → Stmts) BlockTree → BlockTree
layer_block b = record { opened = b.opened; body = in_sequence b.stmts.items NoMore; closed = b.closed }

-- a statement before the rest
unfoldable pub stmt_before : Statement → Stmts → Stmts
stmt_before = fold-Statement (Stmts → Stmts) BlockTree layer_stmt layer_block

-- several statements before the rest
abbrev pub stmts_before : List Statement → Stmts → Stmts
stmts_before stmts = in_sequence (map stmt_before stmts)

-- several statements
abbrev pub stmts_of : List Statement → Stmts
stmts_of stmts = stmts_before stmts NoMore

abbrev pub declaration_of : declarations.Declaration → Declaration
declaration_of (declaration.Array line name_line name width_line width count_line count) = ArrayOf line name_line name width_line width count_line count
declaration_of (declaration.Mutex line name_line name) = MutexOf line name_line name

-- a kernel
abbrev pub kernel_of : kernels.KernelTree → KernelTree
kernel_of k = record {
  declarations = map declaration_of k.declarations.items;
  line = k.line;
  opened = k.body.opened;
  body = stmts_of k.body.stmts.items;
  closed = k.body.closed;
}
