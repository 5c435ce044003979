-- Teams of lawful kernels, wherever they stand.
use Rattle.std.specs.Prelude.{ℕ, ◌+◌, ◌<◌, ◌≤◌, List, [], All}
use Rattle.kernel_syntax.specs.Bounds.{IsLine, IsSpan, IsBoundedCode}
use Rattle.kernel_syntax.specs.Tree.{TeamTree}
use Rattle.kernel_model.specs.Lawful.{Scope, IsScoped, IsEven, IsNested}
use Rattle.kernel_model.specs.declared.phase.Item.{Item}
use Rattle.kernel_model.specs.Parts.{Part, Set, Run, Bar}
use Rattle.lane_runner.specs.Phase.{IsOfTeam, IsPhase}
use Rattle.lane_runner.specs.Teams.{EachTeam, EachTeamIn}

-- the rules of the language hold of a team in this many regions, itself among them, of a kernel with so many mutexes
pub record IsTeam (mutexes regions : ℕ) (team : TeamTree) : Type 0 where
  pub span : IsSpan team.span
  pub line : IsLine team.line
  pub end_line : IsLine team.end
  pub bounded : IsBoundedCode team.body
  pub names : Scope
  pub scoped : IsScoped names team.body
  pub even : IsEven team.body
  pub lanes : ℕ
  pub nested : IsNested mutexes regions lanes [] team.body

-- a team that a lane in this many regions forks
pub record IsInnerTeam (mutexes regions : ℕ) (team : TeamTree) : Type 0 where
  pub deeper : regions < 4
  pub lawful : IsTeam mutexes (regions + 1) team

-- a part of a team's body in this many regions
abbrev pub IsLawfulPart : ℕ → ℕ → Part → Type 0
IsLawfulPart mutexes regions (Set slot value) = Unit {0}
IsLawfulPart mutexes regions (Run code) = IsBoundedCode code × IsOfTeam (mutexes + 1) code × EachTeam (IsInnerTeam mutexes regions) code
IsLawfulPart mutexes regions (Bar line) = 1 ≤ line

-- a phase that the lanes of such a team can run
pub record IsLawfulPhase (mutexes regions : ℕ) (items : List Item) : Type 0 where
  pub runs : IsPhase (mutexes + 1) items
  pub teams : All (EachTeamIn (IsInnerTeam mutexes regions)) items
