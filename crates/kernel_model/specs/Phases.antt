-- The phases of a team: its parts, divided after each barrier, with the loops whose chunks are drawn counted.
use Rattle.std.specs.Prelude.{◌≡◌, ℕ, true, false, List, [], ◌∷◌, ◌++◌, map, take, slice_get, All, Some}
use Rattle.std.specs.List.{flat_map}
use Rattle.kernel_syntax.specs.declared.syntax.Stmt.{Stmt}
use Rattle.kernel_syntax.specs.Program.{stmt_code}
use Rattle.kernel_syntax.specs.Tree as tree
use Rattle.kernel_syntax.specs.Tree.{Code, Done}
use Rattle.kernel_model.specs.declared.phase.Item.{Item}
use Rattle.kernel_model.specs.declared.phase.Item.TheVariants as item
use Rattle.kernel_model.specs.Parts.{Part, Set, Run, Bar, run_part, is_bar, drawn_count}
use Rattle.kernel_model.specs.State.{State, state_of}
use Rattle.kernel_model.specs.Value.{Site}
use Rattle.race_model.specs.Trace.{barrier_count}

-- a statement without the barrier at the end of a worksharing loop
abbrev pub without_barrier : Code → Code
without_barrier (tree.For slot from to schedule nowait line end body rest) = tree.For slot from to schedule true line end body rest
without_barrier code = code

-- the part that a statement is
abbrev pub part_of_stmt : Stmt → Part
part_of_stmt stmt = Run (without_barrier (stmt_code stmt Done))

-- the part that an item is
abbrev pub part_of : Item → Part
part_of (item.Set slot value) = Set slot value
part_of (item.Run stmt which) = part_of_stmt stmt.now
part_of (item.Bar line) = Bar line

-- the items of all phases, in order, and their parts
abbrev pub items_in : List (List Item) → List Item
items_in phases = flat_map (λ phase. phase) phases

abbrev pub parts_in : List (List Item) → List Part
parts_in phases = map part_of (items_in phases)

abbrev pub IsNoBar : Item → Type 0
IsNoBar item = is_bar (part_of item) ≡ false

-- a phase that ends in its only barrier
pub record EndsInBar (phase : List Item) : Type 0 where
  pub before : List Item
  pub line : ℕ
  pub parts : phase ≡ before ++ item.Bar line ∷ []
  pub only : All IsNoBar before

-- each phase but the last ends in its only barrier, and the last has none
pub record AreDivided (phases : List (List Item)) : Type 0 where
  pub earlier : List (List Item)
  pub last : List Item
  pub parts : phases ≡ earlier ++ last ∷ []
  pub each : All EndsInBar earlier
  pub none_in_last : All IsNoBar last

-- a statement has this number
abbrev pub HasNumber : ℕ → Item → Type 0
HasNumber n (item.Run stmt which) = which ≡ n
HasNumber n _ = Unit {0}

-- each statement's number is how many loops whose chunks are drawn stand before it
abbrev pub HaveNumbers : List Item → Type 0
HaveNumbers items = (k : ℕ) (at : Item) → slice_get items k ≡ Some at → HasNumber (drawn_count (map part_of (take k items))) at

-- where it is no barrier of the team, it records none
abbrev pub MeetsOnlyAtBars : Part → Type 0
MeetsOnlyAtBars (Bar line) = Unit {0}
MeetsOnlyAtBars part =
    (at : Site) (s : State) → barrier_count (state_of (run_part at part s)).records ≡ barrier_count s.records

-- phases that are these parts
pub record ArePhases (parts : List Part) (phases : List (List Item)) : Type 0 where
  pub parts_are : parts_in phases ≡ parts
  pub divided : AreDivided phases
  pub numbered : HaveNumbers (items_in phases)
