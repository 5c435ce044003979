-- What decides which of two labels is before the other.
use Rattle.std.proofs.Common.{◌≡◌, List, ◌∷◌, refl}
use Rattle.race_model.specs.Label.{Triple, IsTripleBefore, IsLabelBefore}

-- the first triples decide, or they are the same and the rest decides
pub label_before_first : (x y : Triple) (xs ys : List Triple) → (x ≡ y → ⊥) → IsLabelBefore (x ∷ xs) (y ∷ ys) → IsTripleBefore x y
label_before_first _ _ _ _ apart (IsLabelBefore.same x xs ys before) = absurd (apart refl)
label_before_first _ _ _ _ apart (IsLabelBefore.differ x y xs ys _ before) = before

pub label_before_rest : (x y : Triple) (xs ys : List Triple) → x ≡ y → IsLabelBefore (x ∷ xs) (y ∷ ys) → IsLabelBefore xs ys
label_before_rest _ _ _ _ e (IsLabelBefore.same x xs ys before) = before
label_before_rest _ _ _ _ e (IsLabelBefore.differ x y xs ys apart before) = absurd (apart e)
