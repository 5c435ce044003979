use Rattle.std.proofs.Common.{◌≡◌}
use Rattle.shared_words.specs.Handles.{IsFree}
use Rattle.shared_tests.proofs.tests.words.add_many.Given as goal

abbrev pub invariant-loop : goal.invariant-loop
invariant-loop g l = record {
  free : IsFree l.hand l.words.table;
  name : l.hand.view.name ≡ l.initial.hand.view.name;
  out : l.hand.view.out ≡ l.initial.hand.view.out;
}
