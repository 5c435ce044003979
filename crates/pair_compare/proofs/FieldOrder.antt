-- Labels that are the same before a field and differ there.
use Rattle.std.proofs.Common.{◌≡◌, ◌⊎◌, ◌%◌, ◌<◌, List, [], ◌∷◌, ◌++◌, inl, inr, refl, sym, ap, arith}
use Rattle.race_model.proofs.Labels.{label_before_first, label_before_rest}
use Rattle.race_model.specs.Label.{Triple, IsConcurrent, IsLabelBefore, IsTripleBefore}
use Rattle.race_laws.proofs.LabelOrder.{label_before_below}

-- two labels of which one is before the other
abbrev pub AreOrdered : List Triple → List Triple → Type 0
AreOrdered l m = IsLabelBefore l m ⊎ IsLabelBefore m l

pub not_concurrent : (l m : List Triple) → AreOrdered l m → IsConcurrent l m → ⊥
not_concurrent l m (inl before) c = c.not_before before
not_concurrent l m (inr after) c = c.not_after after

below : (prefix xs ys : List Triple) → IsLabelBefore (prefix ++ xs) (prefix ++ ys) → IsLabelBefore xs ys
below [] xs ys before = before
below (t ∷ prefix) xs ys before = below prefix xs ys (label_before_rest t t (prefix ++ xs) (prefix ++ ys) refl before)

same_below : (prefix xs ys : List Triple) → prefix ++ xs ≡ prefix ++ ys → xs ≡ ys
same_below [] xs ys e = e
same_below (t ∷ prefix) xs ys e = same_below prefix xs ys (let rest : prefix ++ xs ≡ prefix ++ ys = cc in rest)

-- triples of which neither is before the other
record AreApart (t u : Triple) : Type 0 where
  pub different : t ≡ u → ⊥
  pub not_before : IsTripleBefore t u → ⊥
  pub not_after : IsTripleBefore u t → ⊥

concurrent_at : (prefix xs ys : List Triple) (t u : Triple) → AreApart t u → IsConcurrent (prefix ++ t ∷ xs) (prefix ++ u ∷ ys)
concurrent_at prefix xs ys t u apart = record {
  different = λ e. apart.different (let first : t ∷ xs ≡ u ∷ ys = same_below prefix (t ∷ xs) (u ∷ ys) e in cc);
  not_before = λ before. apart.not_before (label_before_first t u xs ys apart.different (below prefix (t ∷ xs) (u ∷ ys) before));
  not_after = λ after. apart.not_after (label_before_first u t ys xs (λ e. apart.different (sym e)) (below prefix (u ∷ ys) (t ∷ xs) after));
}

pub spans_apart : (prefix xs ys : List Triple) (t u : Triple) → (t.span ≡ u.span → ⊥) → IsConcurrent (prefix ++ t ∷ xs) (prefix ++ u ∷ ys)
spans_apart prefix xs ys t u differ = concurrent_at prefix xs ys t u (record {
  different = λ e. differ (ap (λ (v : Triple). v.span) e);
  not_before = λ before. differ before.same_span;
  not_after = λ after. differ (sym after.same_span);
})

pub residue_decides : (t u : Triple) → t.barrier ≡ u.barrier → IsTripleBefore t u → t.offset % t.span ≡ u.offset % u.span
residue_decides t u same before = elim before.earlier [ inl less ↦ absurd (omega arith) | inr both ↦ both.2 ]

pub lanes_apart : (prefix xs ys : List Triple) (t u : Triple) → t.barrier ≡ u.barrier → (t.offset % t.span ≡ u.offset % u.span → ⊥) → IsConcurrent (prefix ++ t ∷ xs) (prefix ++ u ∷ ys)
lanes_apart prefix xs ys t u same differ = concurrent_at prefix xs ys t u (record {
  different = λ e. differ (ap (λ (v : Triple). v.offset % v.span) e);
  not_before = λ before. differ (residue_decides t u same before);
  not_after = λ after. differ (sym (residue_decides u t (sym same) after));
})

ordered_at : (prefix xs ys : List Triple) (t u : Triple) → (t ≡ u → ⊥) → IsTripleBefore t u → IsLabelBefore (prefix ++ t ∷ xs) (prefix ++ u ∷ ys)
ordered_at prefix xs ys t u differ before = label_before_below prefix (t ∷ xs) (u ∷ ys) (IsLabelBefore.differ t u xs ys differ before)

pub barriers_order : (prefix xs ys : List Triple) (t u : Triple) → t.span ≡ u.span → t.barrier < u.barrier → IsLabelBefore (prefix ++ t ∷ xs) (prefix ++ u ∷ ys)
barriers_order prefix xs ys t u same less = ordered_at prefix xs ys t u (λ e. let equal : t.barrier ≡ u.barrier = ap (λ (v : Triple). v.barrier) e in omega arith) (record { same_span = same; earlier = inl less })

pub offsets_order : (prefix xs ys : List Triple) (t u : Triple) → t.span ≡ u.span → t.barrier ≡ u.barrier → t.offset % t.span ≡ u.offset % u.span → t.offset < u.offset → IsLabelBefore (prefix ++ t ∷ xs) (prefix ++ u ∷ ys)
offsets_order prefix xs ys t u same barriers lanes less = ordered_at prefix xs ys t u (λ e. let equal : t.offset ≡ u.offset = ap (λ (v : Triple). v.offset) e in omega arith) (record { same_span = same; earlier = inr (barriers, less, lanes) })
