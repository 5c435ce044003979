use Rattle.std.proofs.Common.{◌≡◌, sym, ◌∙◌, ℕ, zero, suc, ◌+◌, ◌<◌, List, [], ◌∷◌, length, get_or, get_or-set_same, get_or-set_other, below_more, arith}
use mathlib.Core.Option.{some, some-injective, some-ne-none}
use lib.ListN.{get_elem?}
use Rattle.shared_words.proofs.words.copy_elements.Goals as goal

found : (xs : List ℕ) (i x : ℕ) → get_elem? xs i ≡ some x → get_or xs i 0 ≡ x
found [] i x is = absurd (some-ne-none x (sym is))
found (y ∷ ys) zero x is = some-injective y x is
found (y ∷ ys) (suc i) x is = found ys i x is

pub loop-i-preserved : goal.loop-i-preserved
loop-i-preserved c =
    let i : ℕ = c.loop-i.i in
    let inside : i < length c.loop-i.word-items = omega arith in
    below_more _ _
    (λ k h. get_or-set_other c.loop-i.word-items i k c.word.result 0 (omega arith) ∙ c.loop-i.invariant k h)
    (get_or-set_same c.loop-i.word-items i c.word.result 0 inside ∙ sym (found _ (65 + i) c.word.result c.word.ensures))
