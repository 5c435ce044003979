-- Precedence of labels is transitive, and is decided after a common prefix.
use Rattle.std.proofs.Common.{◌≡◌, ◌⊎◌, ◌<◌, ◌%◌, List, [], ◌∷◌, ◌++◌, refl, ap, arith, ◌∙◌, inl, inr}
use Rattle.race_model.specs.Label.{Triple, IsTripleBefore, IsLabelBefore}

abbrev pub Earlier : Triple → Triple → Type 0
Earlier a b = (a.barrier < b.barrier) ⊎ ((a.barrier ≡ b.barrier) × (a.offset < b.offset) × (a.offset % a.span ≡ b.offset % b.span))

earlier_trans : (x y z : Triple) → Earlier x y → Earlier y z → Earlier x z
earlier_trans x y z (inl b) (inl b') = inl (omega arith)
earlier_trans x y z (inl b) (inr e) = let e0 = e.0 in inl (omega arith)
earlier_trans x y z (inr e) (inl b) = let e0 = e.0 in inl (omega arith)
earlier_trans x y z (inr e) (inr f) = inr (e.0 ∙ f.0, omega arith, e.2 ∙ f.2)

triple_trans : (x y z : Triple) → IsTripleBefore x y → IsTripleBefore y z → IsTripleBefore x z
triple_trans x y z before after = record { same_span = before.same_span ∙ after.same_span; earlier = earlier_trans x y z before.earlier after.earlier }

pub not_earlier : (x y : Triple) → x ≡ y → Earlier x y → ⊥
not_earlier x y e (inl b) = let same : x.barrier ≡ y.barrier = ap (λ (t : Triple). t.barrier) e in omega arith
not_earlier x y e (inr f) = let same : x.offset ≡ y.offset = ap (λ (t : Triple). t.offset) e in omega arith

pub label_before_trans : (x y z : List Triple) → IsLabelBefore x y → IsLabelBefore y z → IsLabelBefore x z
label_before_trans _ _ _ (IsLabelBefore.prefix y ys) (IsLabelBefore.same x xs zs after) = IsLabelBefore.prefix x zs
label_before_trans _ _ _ (IsLabelBefore.prefix y ys) (IsLabelBefore.differ x z xs zs apart after) = IsLabelBefore.prefix z zs
label_before_trans _ _ _ (IsLabelBefore.same x xs ys before) (IsLabelBefore.same x' ys' zs after) = IsLabelBefore.same x xs zs (label_before_trans xs ys zs before after)
label_before_trans _ _ _ (IsLabelBefore.same x xs ys before) (IsLabelBefore.differ x' z ys' zs apart after) = IsLabelBefore.differ x z xs zs apart after
label_before_trans _ _ _ (IsLabelBefore.differ x y xs ys apart before) (IsLabelBefore.same y' ys' zs after) = IsLabelBefore.differ x y xs zs apart before
label_before_trans _ _ _ (IsLabelBefore.differ x y xs ys apart before) (IsLabelBefore.differ y' z ys' zs apart' after) =
    IsLabelBefore.differ x z xs zs (λ e. not_earlier x z e (triple_trans x y z before after).earlier) (triple_trans x y z before after)

pub label_not_before_itself : (x y : List Triple) → x ≡ y → IsLabelBefore x y → ⊥
label_not_before_itself _ _ e (IsLabelBefore.prefix y ys) = cc
label_not_before_itself _ _ e (IsLabelBefore.same x xs ys before) = label_not_before_itself xs ys (let rest : xs ≡ ys = cc in rest) before
label_not_before_itself _ _ e (IsLabelBefore.differ x y xs ys apart before) = apart (let first : x ≡ y = cc in first)

-- below a common prefix
pub label_before_below : (prefix xs ys : List Triple) → IsLabelBefore xs ys → IsLabelBefore (prefix ++ xs) (prefix ++ ys)
label_before_below [] xs ys before = before
label_before_below (t ∷ prefix) xs ys before = IsLabelBefore.same t (prefix ++ xs) (prefix ++ ys) (label_before_below prefix xs ys before)

-- what goes on from a label is after it
pub label_before_longer : (prefix : List Triple) (t : Triple) (ts : List Triple) → IsLabelBefore prefix (prefix ++ t ∷ ts)
label_before_longer [] t ts = IsLabelBefore.prefix t ts
label_before_longer (u ∷ prefix) t ts = IsLabelBefore.same u prefix (prefix ++ t ∷ ts) (label_before_longer prefix t ts)

-- how one label comes before another: it goes on, or parts after a common prefix
pub record GoesOn (x y : List Triple) : Type 0 where
  pub next : Triple
  pub rest : List Triple
  pub parts : y ≡ x ++ next ∷ rest

pub record PartsAfter (x y : List Triple) : Type 0 where
  pub prefix : List Triple
  pub mine : Triple
  pub yours : Triple
  pub my_rest : List Triple
  pub your_rest : List Triple
  pub my_parts : x ≡ prefix ++ mine ∷ my_rest
  pub your_parts : y ≡ prefix ++ yours ∷ your_rest
  pub before : IsTripleBefore mine yours

below_first : (t : Triple) (xs ys : List Triple) → GoesOn xs ys ⊎ PartsAfter xs ys → GoesOn (t ∷ xs) (t ∷ ys) ⊎ PartsAfter (t ∷ xs) (t ∷ ys)
below_first t xs ys (inl g) = inl (record { next = g.next; rest = g.rest; parts = ap (λ l. t ∷ l) g.parts })
below_first t xs ys (inr p) = inr (record {
  prefix = t ∷ p.prefix;
  mine = p.mine;
  yours = p.yours;
  my_rest = p.my_rest;
  your_rest = p.your_rest;
  my_parts = ap (λ l. t ∷ l) p.my_parts;
  your_parts = ap (λ l. t ∷ l) p.your_parts;
  before = p.before;
})

pub how_before : (x y : List Triple) → IsLabelBefore x y → GoesOn x y ⊎ PartsAfter x y
how_before _ _ (IsLabelBefore.prefix y ys) = inl (record { next = y; rest = ys; parts = refl })
how_before _ _ (IsLabelBefore.same x xs ys before) = below_first x xs ys (how_before xs ys before)
how_before _ _ (IsLabelBefore.differ x y xs ys apart before) =
    inr (record { prefix = []; mine = x; yours = y; my_rest = xs; your_rest = ys; my_parts = refl; your_parts = refl; before = before })
