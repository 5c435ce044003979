-- The turns of a loop, and one draw after another of a loop whose chunks are drawn.
use Rattle.std.specs.Prelude.{ℕ, nat_lt, if◌then◌else◌, Bool, true, false, ℤ, pos, ◌+ℤ◌}
use Rattle.kernel_syntax.specs.Tree.{Code}
use Rattle.kernel_model.specs.State.{State, Outcome, Gives, and_then, assign}
use Rattle.kernel_model.specs.Trace.{run, draw, draws}
use Rattle.kernel_model.specs.Value.{Site}

-- a turn of a loop whose first one has this number: the variable is set, and the body runs
abbrev pub turn_from : Site → Code → ℕ → ℤ → ℕ → State → Outcome (Unit {0})
turn_from at body slot from i s = run at body (assign slot (from +ℤ pos i) s)

-- a part, after which another draw may follow
abbrev pub then_more : Outcome (Unit {0}) → Outcome Bool
then_more m = and_then m (λ u s. Gives true s)

-- the chunk drawn, where it is one of so many
abbrev pub if_drawn : ℕ → ℕ → (ℕ → State → Outcome (Unit {0})) → State → Outcome Bool
if_drawn q n chunk s = (if nat_lt q n then then_more (chunk q s) else Gives false s)

-- a draw, and the chunk drawn where it is one of so many: then another draw may follow
abbrev pub draw_once : ℕ → ℕ → (ℕ → State → Outcome (Unit {0})) → State → Outcome Bool
draw_once line n chunk s = and_then (draw line n s) (λ q t. if_drawn q n chunk t)

-- draws until no chunk is left, as many as there is room for
abbrev pub draw_all : ℕ → ℕ → (ℕ → State → Outcome (Unit {0})) → State → Outcome (Unit {0})
draw_all line n chunk s = draws s.room line n chunk s
