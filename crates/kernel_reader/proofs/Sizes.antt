-- How many sites, slots and statements there are: those of the first statement, and those of the rest.
use Rattle.std.proofs.Common.{◌≡◌, ℕ, ◌+◌, arith}
use Rattle.kernel_text.specs.Grammar.{Stmts, NoMore, Let, Assign, Store, Update, If, IfElse, Loop, Parallel, For, Barrier, Critical, CriticalOf}
use Rattle.kernel_parser.specs.declared.tree.Statement.{Statement}
use Rattle.kernel_parser.specs.declared.tree.Statement.TheOpen as layer
use Rattle.kernel_parser.specs.declared.tree.Statement.TheOpen.{Statement-F}
use Rattle.kernel_parser.specs.Trees.{BlockTree, layer_stmt, stmt_before}
use Rattle.kernel_parser.proofs.Equations.{before_layer}
use Rattle.kernel_reader.specs.Scope.{slots}
use Rattle.kernel_reader.specs.Resolve.{stmts_sites}

-- how many statements there are, those in blocks, too
abbrev pub size : Stmts → ℕ
size NoMore = 0
size (Let line name_line name sign_line value rest) = 1 + size rest
size (Assign line name sign_line value rest) = 1 + size rest
size (Store line name opened index closed sign_line value rest) = 1 + size rest
size (Update line name_line name opened index closed minus sign_line value rest) = 1 + size rest
size (If line test opened if_true closed rest) = 1 + (size if_true + size rest)
size (IfElse line test opened if_true closed else_line else_opened if_false else_closed rest) = 1 + (size if_true + (size if_false + size rest))
size (Loop line name_line name in_line from dots to opened body closed rest) = 1 + (size body + size rest)
size (Parallel line number_line span opened body closed rest) = 1 + (size body + size rest)
size (For line name_line name in_line from dots to schedule nowait opened body closed rest) = 1 + (size body + size rest)
size (Barrier line rest) = 1 + size rest
size (Critical line opened body closed rest) = 1 + (size body + size rest)
size (CriticalOf line name_line name opened body closed rest) = 1 + (size body + size rest)

-- of statements, where one of them and the others are known
pub record Apart (all first rest : Stmts) : Type 0 where
  pub sites_are : stmts_sites all ≡ stmts_sites first + stmts_sites rest
  pub slots_are : slots all ≡ slots first + slots rest
  pub size_is : size all ≡ size first + size rest

layer-apart : (y : Statement-F (Stmts → Stmts) BlockTree) (rest : Stmts) → Apart (layer_stmt y rest) (layer_stmt y NoMore) rest
layer-apart (layer.Let line name_line name sign_line value) rest = record { sites_are = omega arith; slots_are = omega arith; size_is = omega arith }
layer-apart (layer.Assign line name sign_line value) rest = record { sites_are = omega arith; slots_are = omega arith; size_is = omega arith }
layer-apart (layer.Store line name opened index closed sign_line value) rest = record { sites_are = omega arith; slots_are = omega arith; size_is = omega arith }
layer-apart (layer.Update line name_line name opened index closed minus sign_line value) rest = record { sites_are = omega arith; slots_are = omega arith; size_is = omega arith }
layer-apart (layer.If line test body) rest = record { sites_are = omega arith; slots_are = omega arith; size_is = omega arith }
layer-apart (layer.IfElse line test body else_line other) rest = record { sites_are = omega arith; slots_are = omega arith; size_is = omega arith }
layer-apart (layer.Loop line range body) rest = record { sites_are = omega arith; slots_are = omega arith; size_is = omega arith }
layer-apart (layer.Parallel line number_line span body) rest = record { sites_are = omega arith; slots_are = omega arith; size_is = omega arith }
layer-apart (layer.For line range schedule nowait body) rest = record { sites_are = omega arith; slots_are = omega arith; size_is = omega arith }
layer-apart (layer.Barrier line) rest = record { sites_are = omega arith; slots_are = omega arith; size_is = omega arith }
layer-apart (layer.Critical line body) rest = record { sites_are = omega arith; slots_are = omega arith; size_is = omega arith }
layer-apart (layer.CriticalOf line name_line name body) rest = record { sites_are = omega arith; slots_are = omega arith; size_is = omega arith }

pub apart : (s : Statement) (rest : Stmts) → Apart (stmt_before s rest) (stmt_before s NoMore) rest
apart s rest = rw (before_layer s rest, before_layer s NoMore) (layer-apart _ rest)
