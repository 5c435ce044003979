use Rattle.std.proofs.Common.{◌≡◌, ◌<◌, ℕ, Some, Contains}
use Rattle.std.specs.Prelude.{slice_get}
use Rattle.stride_summary.specs.declared.run.Run.{Run}
use Rattle.explain.proofs.keeping.runs_on.Given as goal

abbrev pub invariant-loop-run : goal.invariant-loop-run
invariant-loop-run l = (k : ℕ) (run : Run) → k < l.run-index → slice_get l.runs k ≡ Some run → run.line ≡ l.line → Contains l.kept.items run
