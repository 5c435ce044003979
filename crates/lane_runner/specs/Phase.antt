-- A lane's phase: what it executes up to a barrier of its team, or to the end.
use Rattle.std.specs.Prelude.{◌⊎◌, ℕ, ◌≤◌, List, [], All}
use Rattle.kernel_syntax.specs.Tree as tree
use Rattle.kernel_syntax.specs.Tree.{Code, Done}
use Rattle.kernel_syntax.specs.Bounds.{IsBoundedCode}
use Rattle.kernel_syntax.specs.Program.{stmt_code}
use Rattle.kernel_model.specs.declared.phase.Item.{Item}
use Rattle.kernel_model.specs.declared.phase.Item.TheVariants as item
use Rattle.kernel_model.specs.Phases.{EndsInBar, IsNoBar}
use Rattle.lane_runner.specs.Alone.{IsAlone}

-- A statement of a team, by so many mutexes: a worksharing loop whose body a lane executes alone, or another statement that a lane
-- executes alone.
abbrev pub IsOfTeam : ℕ → Code → Type 0
IsOfTeam locks (tree.For slot from to schedule nowait line end body rest) = IsAlone locks [] body
IsOfTeam locks code = IsAlone locks [] code

-- a value, a statement of a team within the bounds of the language, or a barrier at a line
abbrev pub IsItem : ℕ → Item → Type 0
IsItem locks (item.Set slot value) = Unit {0}
IsItem locks (item.Run stmt which) = IsBoundedCode (stmt_code stmt.now Done) × IsOfTeam locks (stmt_code stmt.now Done)
IsItem locks (item.Bar line) = 1 ≤ line

-- such items, of which only the last can be a barrier
abbrev pub IsPhase : ℕ → List Item → Type 0
IsPhase locks items = All (IsItem locks) items × (EndsInBar items ⊎ All IsNoBar items)
