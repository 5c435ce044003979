-- Elements made from numbers in turn.
use Rattle.std.proofs.Common.{◌≡◌, ℕ, ◌+◌, List, [], ◌∷◌, ◌++◌, map, sym, ap, ◌∙◌, append_assoc, arith}
use Rattle.std.specs.List.{range_with_len}
use Rattle.std.proofs.lemmas.List.FromFn.{map-range_with_len_more}

-- one more
pub pushed_more : {X : Type 0} (f : ℕ → X) (old items new : List X) (x : X) (n : ℕ) → items ≡ old ++ map f (range_with_len 0 n) → x ≡ f n → new ≡ items ++ x ∷ []
    → new ≡ old ++ map f (range_with_len 0 (n + 1))
pushed_more f old items new x n so_far is pushed =
    pushed ∙ ap (λ y. items ++ y ∷ []) is ∙ ap (λ ys. ys ++ f n ∷ []) so_far ∙ append_assoc old (map f (range_with_len 0 n)) (f n ∷ [])
    ∙ ap (λ ys. old ++ ys) (sym (map-range_with_len_more f 0 n n (omega arith)))
