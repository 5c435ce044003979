-- A worksharing loop without the barrier at its end.
use Rattle.std.specs.Prelude.{ℕ}
use Rattle.kernel_syntax.specs.declared.syntax.Schedule.{Schedule}
use Rattle.kernel_syntax.specs.Tree.{Term, Code}
use Rattle.kernel_model.specs.Drawing.{turn_from}
use Rattle.kernel_model.specs.State.{State, Outcome, and_then}
use Rattle.kernel_model.specs.Iterations.{total_of}
use Rattle.kernel_model.specs.Trace.{shared}
use Rattle.kernel_model.specs.Value.{Site, value}

abbrev pub sharing : Site → ℕ → Term → Term → Schedule → ℕ → Code → State → Outcome (Unit {0})
sharing at slot from to schedule line body s =
    and_then (value at from s) (λ a s. and_then (value at to s) (λ b s. shared schedule at line (total_of a b) (turn_from at body slot a) s))
