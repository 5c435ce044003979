use Rattle.std.proofs.Common.{◌≡◌, ◌+◌, ◌<◌}
use Rattle.shared_words.specs.Handles.{Belongs}
use Rattle.shared_tests.proofs.tests.words.draw_chunks.Given as goal

abbrev pub invariant-loop-round : goal.invariant-loop-round
invariant-loop-round l = record {
  belongs : Belongs l.hand l.chunks.table;
  left : 10000 < l.hand.view.left + l._round;
  first : l.hand.view.first ≡ l.initial.hand.view.first;
}
