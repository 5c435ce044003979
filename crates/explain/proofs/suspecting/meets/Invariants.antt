use Rattle.std.proofs.Common.{◌≡◌, ◌<◌, ℕ, Some}
use Rattle.std.specs.Borrow.{Bor}
use Rattle.std.specs.Prelude.{slice_get}
use Rattle.log_segment.specs.declared.segment.Segment.{Segment}
use Rattle.pair_compare.specs.Compare.{IsRacingPair}
use Rattle.explain.proofs.suspecting.meets.Given as goal

abbrev pub invariant-loop-suspect : goal.invariant-loop-suspect
invariant-loop-suspect l = (k : ℕ) (their : Bor Segment) → k < l.suspect-index → slice_get l.suspects k ≡ Some their → IsRacingPair l.own their.now l.lines → ⊥
