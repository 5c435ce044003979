use Rattle.std.proofs.Common.{◌≡◌, ℕ, ◌+◌, ◌<◌, get_or}
use Rattle.core.specs.Mem.Slots.{slots_items}
use Rattle.shared_words.specs.Rule.{ELEMENTS}
use Rattle.shared_words.proofs.words.copy_elements.Given as goal

abbrev pub invariant-loop-i : goal.invariant-loop-i
invariant-loop-i l = (k : ℕ) → k < l.i → get_or l.word-items k 0 ≡ get_or (slots_items l.closed.words) (ELEMENTS + k) 0
