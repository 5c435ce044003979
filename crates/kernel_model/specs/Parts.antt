-- A team's body as a list of parts, one after another: single statements, and the barriers between them.
use Rattle.std.specs.Prelude.{ℕ, zero, suc, Bool, true, false, List, [], ◌∷◌, ◌++◌, count_by, ℤ, pos, ◌+ℤ◌, Option, Some, None}
use Rattle.kernel_syntax.specs.declared.syntax.Schedule.{Schedule}
use Rattle.kernel_syntax.specs.declared.syntax.Schedule.TheVariants.{Dynamic}
use Rattle.kernel_syntax.specs.Tree as tree
use Rattle.kernel_syntax.specs.Tree.{Term, Code, Done}
use Rattle.log_format.specs.declared.record.Kind.TheVariants as kind
use Rattle.kernel_model.specs.State.{State, Outcome, Gives, after, put, event, assign}
use Rattle.kernel_model.specs.Value.{Site}
use Rattle.kernel_model.specs.Iterations.{total_of}
use Rattle.kernel_model.specs.Trace.{run}
use Rattle.kernel_model.specs.Lawful.{bounds_of}

-- a variable gets a value, a statement runs, or all lanes of the team meet
pub data Part : Type 0 where
  Set : (slot : ℕ) → (value : ℤ) → Part
  Run : (statement : Code) → Part
  Bar : (line : ℕ) → Part

-- so many turns of a loop from a value on, each the loop's variable and then the parts of the body
abbrev pub unrolled : ℕ → ℕ → ℤ → List Part → List Part
unrolled zero slot from body = []
unrolled (suc n) slot from body = Set slot from ∷ body ++ unrolled n slot (from +ℤ pos 1) body

-- a fixed loop that holds a barrier or a worksharing loop is unrolled; each other one is a single statement
abbrev pub loop_parts : Option (ℤ × ℤ) → ℕ → List Part → Code → List Part
loop_parts (Some bounds) slot body loop = unrolled (total_of bounds.0 bounds.1) slot bounds.0 body
loop_parts None slot body loop = Run loop ∷ []

-- the barrier at the end of a worksharing loop
abbrev pub end_parts : Bool → ℕ → List Part
end_parts true end = []
end_parts false end = Bar end ∷ []

-- the parts of a body: a worksharing loop stands there without the barrier at its end, which is a part of its own
abbrev pub parts_of : Code → List Part
parts_of Done = []
parts_of (tree.Set slot value rest) = Run (tree.Set slot value Done) ∷ parts_of rest
parts_of (tree.Store array index value line site rest) = Run (tree.Store array index value line site Done) ∷ parts_of rest
parts_of (tree.Update array index value minus line site rest) = Run (tree.Update array index value minus line site Done) ∷ parts_of rest
parts_of (tree.If test if_true if_false rest) = Run (tree.If test if_true if_false Done) ∷ parts_of rest
parts_of (tree.Loop slot from to body rest) =
    loop_parts (bounds_of from to body) slot (parts_of body) (tree.Loop slot from to body Done) ++ parts_of rest
parts_of (tree.Parallel span line end body rest) = Run (tree.Parallel span line end body Done) ∷ parts_of rest
parts_of (tree.For slot from to schedule nowait line end body rest) =
    Run (tree.For slot from to schedule true line end body Done) ∷ end_parts nowait end ++ parts_of rest
parts_of (tree.Barrier line rest) = Bar line ∷ parts_of rest
parts_of (tree.Critical mutex line end body rest) = Run (tree.Critical mutex line end body Done) ∷ parts_of rest

-- what a lane does at a part
abbrev pub run_part : Site → Part → State → Outcome (Unit {0})
run_part at (Set slot value) s = Gives tt (assign slot value s)
run_part at (Run statement) s = run at statement s
run_part at (Bar line) s = put (event kind.Barrier line 0 0) s

-- one part after another
abbrev pub run_parts : Site → List Part → State → Outcome (Unit {0})
run_parts at [] s = Gives tt s
run_parts at (part ∷ parts) s = after (run_part at part s) (run_parts at parts)

-- a barrier of the team
abbrev pub is_bar : Part → Bool
is_bar (Bar line) = true
is_bar _ = false

-- how many barriers each lane meets
abbrev pub bar_count : List Part → ℕ
bar_count parts = count_by is_bar parts

-- a worksharing loop whose chunks are drawn
abbrev pub is_drawn_schedule : Schedule → Bool
is_drawn_schedule (Dynamic chunk) = true
is_drawn_schedule _ = false

abbrev pub is_drawn_code : Code → Bool
is_drawn_code (tree.For slot from to schedule nowait line end body rest) = is_drawn_schedule schedule
is_drawn_code _ = false

abbrev pub is_drawn : Part → Bool
is_drawn (Run statement) = is_drawn_code statement
is_drawn _ = false

-- how many of the parts are such loops
abbrev pub drawn_count : List Part → ℕ
drawn_count parts = count_by is_drawn parts
