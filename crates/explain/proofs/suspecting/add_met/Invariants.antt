use Rattle.std.proofs.Common.{◌≡◌, ◌<◌, ℕ, Some, Contains}
use Rattle.std.specs.Borrow.{Bor}
use Rattle.std.specs.Prelude.{slice_get, IfSome}
use Rattle.pair_compare.specs.Compare.{IsRacingPair}
use Rattle.log_segment.specs.declared.segment.Segment.{Segment}
use Rattle.explain.specs.Suspects.{IsAmong, MayMeet}
use Rattle.explain.specs.declared.stretch.RecordRange.{RecordRange}
use Rattle.explain.proofs.suspecting.add_met.Given as goal

abbrev pub invariant-loop-their : goal.invariant-loop-their
invariant-loop-their l = record {
  met : (k : ℕ) (their : Bor Segment) → k < l.their-index → slice_get l.suspects k ≡ Some their → MayMeet l.own their.now l.one l.lines → IsAmong their.now l.met.items;
  told : (their : Segment) (lines : ℕ × ℕ) → MayMeet l.own their l.one lines → IfSome l.alone (λ probe. IsRacingPair probe their lines);
  old : (s : RecordRange) → Contains l.initial.met.items s → Contains l.met.items s;
}
