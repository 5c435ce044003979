use Rattle.std.proofs.Common.{◌≡◌, ◌<◌, ℕ, Some, Contains}
use Rattle.std.specs.Prelude.{slice_get}
use Rattle.log_segment.specs.declared.segment.Segment.{Segment}
use Rattle.stride_summary.specs.declared.run.Run.{Run}
use Rattle.explain.specs.Suspects.{HasPart}
use Rattle.explain.proofs.keeping.keep_line.Given as goal

abbrev pub invariant-loop-segment : goal.invariant-loop-segment
invariant-loop-segment l = record {
  keeps : (k : ℕ) (own : Segment) → k < l.segment-index → slice_get l.segments k ≡ Some own → (run : Run) → Contains own.runs.items run → run.line ≡ l.line → HasPart own run l.kept.items;
  old : (part : Segment) → Contains l.initial.kept.items part → Contains l.kept.items part;
}
