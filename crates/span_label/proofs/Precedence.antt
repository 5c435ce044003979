-- Precedence of labels, a triple at a time, and the last triple of a label.
use Rattle.std.proofs.Common.{◌≡◌, ◌≢◌, ◌⊎◌, inl, inr, Bool, true, false, ◌&&◌, nat_eq, ℕ, suc, List, [], ◌∷◌, ◌++◌, All, slice_get, ◌-◌, length, length-append, refl, sym, subst, ap, ◌∙◌, arith}
use lib.Pointwise.{pointwise, pointwise_decides}
use Rattle.std.proofs.lemmas.Bool.Decides.{eqb_tells}
use Rattle.race_model.proofs.Labels.{label_before_first, label_before_rest}
use Rattle.race_model.specs.Label.{Triple, IsTripleBefore, IsLabelBefore}
use Rattle.span_label.specs.Levels.{HasSpan, own_level}

-- what is before another is so after one more triple
pub one_more_same : (x y : Triple) (xs ys : List Triple) → x ≡ y → IsLabelBefore xs ys → IsLabelBefore (x ∷ xs) (y ∷ ys)
one_more_same x y xs ys same before = subst (λ (z : Triple). IsLabelBefore (x ∷ xs) (z ∷ ys)) same (IsLabelBefore.same x xs ys before)

-- labels whose first triples are known
labels_in_parts : (x y : Triple) (xs ys us vs : List Triple) → us ≡ x ∷ xs → vs ≡ y ∷ ys → IsLabelBefore us vs → IsLabelBefore (x ∷ xs) (y ∷ ys)
labels_in_parts x y xs ys us vs as_is bs_is before =
    subst (λ (zs : List Triple). IsLabelBefore (x ∷ xs) zs) bs_is (subst (λ (zs : List Triple). IsLabelBefore zs vs) as_is before)

-- triples with the same numbers are one
equal_triples : (x y : Triple) → x.offset ≡ y.offset → x.span ≡ y.span → x.barrier ≡ y.barrier → x ≡ y
equal_triples x y offset span barrier =
    ap (λ (n : ℕ). let t : Triple = record { offset = n; span = x.span; barrier = x.barrier } in t) offset
    ∙ ap (λ (n : ℕ). let t : Triple = record { offset = y.offset; span = n; barrier = x.barrier } in t) span
    ∙ ap (λ (n : ℕ). let t : Triple = record { offset = y.offset; span = y.span; barrier = n } in t) barrier

-- what comparing them number by number tells
pub compared : (x y : Triple) → (b : Bool) → b ≡ (nat_eq x.offset y.offset && (nat_eq x.span y.span && nat_eq x.barrier y.barrier))
    → ((b ≡ true) × (x ≡ y)) ⊎ ((b ≡ false) × (x ≢ y))
compared x y b e =
    elim (eqb_tells x.offset y.offset) [
      | inl p ↦ elim (eqb_tells x.span y.span) [
        | inl q ↦ elim (eqb_tells x.barrier y.barrier) [
          | inl r ↦ inl (e ∙ rw (p.0, q.0, r.0) refl, equal_triples x y p.1 q.1 r.1)
          | inr r ↦ inr (e ∙ rw (p.0, q.0, r.0) refl, λ same. r.1 (ap (λ (t : Triple). t.barrier) same))
        ]
        | inr q ↦ inr (e ∙ rw (p.0, q.0) refl, λ same. q.1 (ap (λ (t : Triple). t.span) same))
      ]
      | inr p ↦ inr (e ∙ rw p.0 refl, λ same. p.1 (ap (λ (t : Triple). t.offset) same))
    ]

-- comparing triples number by number
abbrev pub equal : Triple → Triple → Bool
equal x y = nat_eq x.offset y.offset && (nat_eq x.span y.span && nat_eq x.barrier y.barrier)

-- decides whether they are one
equal_decides : (x y : Triple) → (equal x y ≡ true → x ≡ y) × (x ≡ y → equal x y ≡ true)
equal_decides x y =
    elim (compared x y (equal x y) refl) [
      | inl p ↦ (λ e. p.1, λ same. p.0)
      | inr p ↦ (λ e. absurd (let q = p.0 in cc), λ same. absurd (p.1 same))
    ]

-- and so for lists of them
pub labels_decide : (xs ys : List Triple) → (pointwise equal xs ys ≡ true → xs ≡ ys) × (xs ≡ ys → pointwise equal xs ys ≡ true)
labels_decide xs ys = pointwise_decides equal_decides xs ys

-- a triple in common leaves the answer to the rests
pub decides_by_rests : (P : Type 0) (x y : Triple) (xs ys us vs : List Triple) → us ≡ x ∷ xs → vs ≡ y ∷ ys → x ≡ y
    → (P → IsLabelBefore xs ys) → (IsLabelBefore xs ys → P) → (P → IsLabelBefore us vs) × (IsLabelBefore us vs → P)
decides_by_rests P x y xs ys us vs as_is bs_is same from to = (
  λ p. subst (λ (zs : List Triple). IsLabelBefore zs vs) (sym as_is) (subst (λ (zs : List Triple). IsLabelBefore (x ∷ xs) zs) (sym bs_is) (one_more_same x y xs ys same (from p))),
  λ before. to (label_before_rest x y xs ys same (labels_in_parts x y xs ys us vs as_is bs_is before)),
)

-- the first triple that differs decides
pub decides_by_triples : (P : Type 0) (x y : Triple) (xs ys us vs : List Triple) → us ≡ x ∷ xs → vs ≡ y ∷ ys → x ≢ y
    → (P → IsTripleBefore x y) → (IsTripleBefore x y → P) → (P → IsLabelBefore us vs) × (IsLabelBefore us vs → P)
decides_by_triples P x y xs ys us vs as_is bs_is apart from to = (
  λ p. subst (λ (zs : List Triple). IsLabelBefore zs vs) (sym as_is) (subst (λ (zs : List Triple). IsLabelBefore (x ∷ xs) zs) (sym bs_is) (IsLabelBefore.differ x y xs ys apart (from p))),
  λ before. to (label_before_first x y xs ys apart (labels_in_parts x y xs ys us vs as_is bs_is before)),
)

-- the empty list is before each other
pub nothing_before : (y : Triple) (us vs ys : List Triple) → length us ≡ 0 → vs ≡ y ∷ ys → IsLabelBefore us vs
nothing_before y [] vs ys none vs_is = subst (λ (zs : List Triple). IsLabelBefore [] zs) (sym vs_is) (IsLabelBefore.prefix y ys)
nothing_before y (u ∷ us) vs ys none vs_is = absurd (omega arith)

-- what holds of all of a list holds of all of its rest
pub all_rest : (x : Triple) (xs us : List Triple) → us ≡ x ∷ xs → All HasSpan us → All HasSpan xs
all_rest x xs us as_is all = λ k d h. (subst (λ (zs : List Triple). All HasSpan zs) as_is all) (suc k) d (omega arith)

-- the last triple of a label and what is above it
pub last_is : (xs ys : List Triple) (x y : Triple) → xs ++ x ∷ [] ≡ ys ++ y ∷ [] → (xs ≡ ys) × (x ≡ y)
last_is [] [] x y same = (refl, cc)
last_is [] (b ∷ ys) x y same = absurd (omega (arith, ap length same, length-append ys (y ∷ [])))
last_is (a ∷ xs) [] x y same = absurd (omega (arith, ap length same, length-append xs (x ∷ [])))
last_is (a ∷ xs) (b ∷ ys) x y same =
    let first : a ≡ b = cc in
    let rest : xs ++ x ∷ [] ≡ ys ++ y ∷ [] = cc in
    let found = last_is xs ys x y rest in
    (ap (λ (t : Triple). t ∷ xs) first ∙ ap (λ (ts : List Triple). b ∷ ts) found.0, found.1)

-- more levels above leave the own level
below_first : (u v : Triple) (rest : List Triple) → own_level (u ∷ v ∷ rest) ≡ own_level (v ∷ rest)
below_first u v rest =
    let more : suc (suc (length rest)) - 1 ≡ suc (length rest) = omega arith in
    let fewer : suc (length rest) - 1 ≡ length rest = omega arith in
    ap (λ (n : ℕ). slice_get (u ∷ v ∷ rest) n) more ∙ sym (ap (λ (n : ℕ). slice_get (v ∷ rest) n) fewer)
