use Rattle.std.proofs.Common.{◌≡◌, ◌<◌, ℕ, Some, Contains}
use Rattle.std.specs.Borrow.{Bor}
use Rattle.std.specs.Prelude.{slice_get}
use Rattle.log_segment.specs.declared.segment.Segment.{Segment}
use Rattle.explain.specs.Suspects.{IsAmong, IsRunWithin, MayMeet, root_team}
use Rattle.explain.proofs.suspecting.met_by.Given as goal

abbrev pub invariant-loop-suspect : goal.invariant-loop-suspect
invariant-loop-suspect l = (k : ℕ) (own : Bor Segment) → k < l.suspect-index → slice_get l.suspect-items k ≡ Some own → IsRunWithin own.now.path own.now.first own.now.last l.path l.number
    → (their : Segment) → Contains l.suspects their → root_team own.now.label ≡ root_team their.label → MayMeet own.now their l.one l.lines → IsAmong their l.met.items
