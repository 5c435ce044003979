use Rattle.std.proofs.Common.{◌≡◌, ◌<◌, ℕ, Some, Contains}
use Rattle.std.specs.Borrow.{Bor}
use Rattle.std.specs.Prelude.{slice_get}
use Rattle.log_segment.specs.declared.segment.Segment.{Segment}
use Rattle.pair_compare.specs.Compare.{IsRacingPair}
use Rattle.explain.specs.Suspects.{root_team}
use Rattle.explain.proofs.suspecting.is_row_suspected.Given as goal

abbrev pub invariant-loop-own : goal.invariant-loop-own
invariant-loop-own l = (k : ℕ) (own : Bor Segment) → k < l.own-index → slice_get l.own-items k ≡ Some own
    → (their : Segment) → Contains l.suspects their → root_team own.now.label ≡ root_team their.label → IsRacingPair own.now their l.lines → ⊥
