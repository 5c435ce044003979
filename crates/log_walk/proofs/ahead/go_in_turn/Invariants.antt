use Rattle.std.proofs.Common.{All, ℕ, List}
use Rattle.std.specs.Prelude.{Option}
use Rattle.sw_base.specs.Environment.{Content}
use Rattle.race_model.specs.Row.{Row}
use Rattle.log_walk.specs.Ahead.{IsJob}
use Rattle.log_walk.proofs.ahead.go_in_turn.Given as goal

abbrev pub invariant-loop-job : goal.invariant-loop-job
invariant-loop-job g l = (told : Option Content) (dir : List ℕ) (rows : List Row) → All (IsJob g.T.File.rest g.T.File.faults l.format told dir rows) l.fn.jobs → All (IsJob g.T.File.rest g.T.File.faults l.format told dir rows) l.jobs
