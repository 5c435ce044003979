-- Two labels are concurrent exactly where they share a group and their lanes differ there.
use Rattle.std.proofs.Common.{◌≡◌, ◌≢◌, ◌⊎◌, inl, inr, ℕ, zero, suc, ◌%◌, ◌<◌, List, [], ◌∷◌, ◌++◌, refl, sym, ap, subst, arith}
use Rattle.race_model.proofs.Labels.{label_before_first, label_before_rest}
use Rattle.pair_compare.proofs.FieldOrder.{residue_decides}
use Rattle.race_model.specs.Label.{Triple, IsConcurrent, IsLabelBefore, IsTripleBefore}
use Rattle.race_laws.proofs.LabelOrder.{not_earlier}
use Rattle.segment_groups.specs.Group.{ShareGroup, group_key, lane_at}
use Rattle.segment_groups.proofs.Lists.{three}

-- labels that share a group below their first triple share that one
pub record ShareFirst (depth : ℕ) (t u : Triple) (l m : List Triple) : Type 0 where
  pub first : t ≡ u
  pub rest : ShareGroup depth l m

pub share_first : (depth : ℕ) (t u : Triple) (l m : List Triple) → ShareGroup (suc depth) (t ∷ l) (u ∷ m) → ShareFirst depth t u l m
share_first depth t u l m share =
    let same : t.span ∷ t.barrier ∷ t.offset ∷ group_key depth l ≡ u.span ∷ u.barrier ∷ u.offset ∷ group_key depth m = share.same in
    let spans : t.span ≡ u.span = cc in
    let barriers : t.barrier ≡ u.barrier = cc in
    let offsets : t.offset ≡ u.offset = cc in
    let mine = share.mine in
    let yours = share.yours in
    record {
      first = λ i. record { offset = offsets i; span = spans i; barrier = barriers i };
      rest = record { mine = omega arith; yours = omega arith; same = cc };
    }

pub apart_concurrent : (depth : ℕ) (l m : List Triple) → ShareGroup depth l m → (lane_at depth l ≢ lane_at depth m) → IsConcurrent l m
apart_concurrent depth [] m share differ = absurd (let mine = share.mine in omega arith)
apart_concurrent depth (t ∷ l) [] share differ = absurd (let yours = share.yours in omega arith)
apart_concurrent zero (t ∷ l) (u ∷ m) share differ =
    let same : t.span ∷ t.barrier ∷ [] ≡ u.span ∷ u.barrier ∷ [] = share.same in
    let barriers : t.barrier ≡ u.barrier = cc in
    let apart : t ≢ u = λ e. differ (ap (λ (v : Triple). v.offset % v.span) e) in
    record {
      different = λ e. apart (let heads : t ∷ l ≡ u ∷ m = e in cc);
      not_before = λ before. differ (residue_decides t u barriers (label_before_first t u l m apart before));
      not_after = λ after. differ (sym (residue_decides u t (sym barriers) (label_before_first u t m l (λ e. apart (sym e)) after)));
    }
apart_concurrent (suc depth) (t ∷ l) (u ∷ m) share differ =
    let one = share_first depth t u l m share in
    let below = apart_concurrent depth l m one.rest differ in
    record {
      different = λ e. below.different (let whole : t ∷ l ≡ u ∷ m = e in cc);
      not_before = λ before. below.not_before (label_before_rest t u l m one.first before);
      not_after = λ after. below.not_after (label_before_rest u t m l (sym one.first) after);
    }

-- where the labels part, their teams are of one span
abbrev pub AgreeOnSpans : List Triple → List Triple → Type 0
AgreeOnSpans l m = (prefix : List Triple) (t u : Triple) (xs ys : List Triple) → l ≡ prefix ++ t ∷ xs → m ≡ prefix ++ u ∷ ys → t.span ≡ u.span

-- the group in which they are apart
pub record ArePartedAt (l m : List Triple) : Type 0 where
  pub depth : ℕ
  pub share : ShareGroup depth l m
  pub lanes : lane_at depth l ≢ lane_at depth m

same_or_apart : (m n : ℕ) → (m ≡ n) ⊎ (m ≢ n)
same_or_apart m n = grind arith

below_first : (t u : Triple) (l m : List Triple) → t ≡ u → ArePartedAt l m → ArePartedAt (t ∷ l) (u ∷ m)
below_first t u l m first rest =
    let mine = rest.share.mine in
    let yours = rest.share.yours in
    let tails : group_key rest.depth l ≡ group_key rest.depth m = rest.share.same in
    record {
      depth = suc rest.depth;
      share = record { mine = omega arith; yours = omega arith; same = λ i. (first i).span ∷ (first i).barrier ∷ (first i).offset ∷ tails i };
      lanes = rest.lanes;
    }

pub concurrent_parted : (l m : List Triple) → AgreeOnSpans l m → IsConcurrent l m → ArePartedAt l m
concurrent_parted [] [] agree c = absurd (c.different refl)
concurrent_parted [] (u ∷ m) agree c = absurd (c.not_before (IsLabelBefore.prefix u m))
concurrent_parted (t ∷ l) [] agree c = absurd (c.not_after (IsLabelBefore.prefix t l))
concurrent_parted (t ∷ l) (u ∷ m) agree c = by_barriers (three t.barrier u.barrier) (concurrent_parted l m)
  where
    spans : t.span ≡ u.span
    spans = agree [] t u l m refl refl

    before : IsTripleBefore t u → ⊥
    before is = c.not_before (IsLabelBefore.differ t u l m (λ e. not_earlier t u e is.earlier) is)

    after : IsTripleBefore u t → ⊥
    after is = c.not_after (IsLabelBefore.differ u t m l (λ e. not_earlier u t e is.earlier) is)

    rest : t ≡ u → IsConcurrent l m
    rest first = record {
      different = λ e. c.different (λ i. first i ∷ e i);
      not_before = λ is. c.not_before (subst (λ (v : Triple). IsLabelBefore (t ∷ l) (v ∷ m)) first (IsLabelBefore.same t l m is));
      not_after = λ is. c.not_after (subst (λ (v : Triple). IsLabelBefore (v ∷ m) (t ∷ l)) first (IsLabelBefore.same t m l is));
    }

    by_offsets : t.barrier ≡ u.barrier → t.offset % t.span ≡ u.offset % u.span → (t.offset < u.offset) ⊎ ((t.offset ≡ u.offset) ⊎ (u.offset < t.offset))
        → (AgreeOnSpans l m → IsConcurrent l m → ArePartedAt l m) → ArePartedAt (t ∷ l) (u ∷ m)
    by_offsets barriers lanes (inl less) rec = absurd (before (record { same_span = spans; earlier = inr (barriers, less, lanes) }))
    by_offsets barriers lanes (inr (inr greater)) rec = absurd (after (record { same_span = sym spans; earlier = inr (sym barriers, greater, sym lanes) }))
    by_offsets barriers lanes (inr (inl offsets)) rec =
        let first : t ≡ u = λ i. record { offset = offsets i; span = spans i; barrier = barriers i } in
        below_first t u l m first
        (rec (λ prefix v w xs ys l_is m_is. agree (t ∷ prefix) v w xs ys (ap (λ ls. t ∷ ls) l_is) (λ i. sym first i ∷ m_is i)) (rest first))

    by_lanes : t.barrier ≡ u.barrier → (t.offset % t.span ≡ u.offset % u.span) ⊎ (t.offset % t.span ≢ u.offset % u.span)
        → (AgreeOnSpans l m → IsConcurrent l m → ArePartedAt l m) → ArePartedAt (t ∷ l) (u ∷ m)
    by_lanes barriers (inl lanes) rec = by_offsets barriers lanes (three t.offset u.offset) rec
    by_lanes barriers (inr apart) rec = record {
      depth = 0;
      share = record { mine = omega arith; yours = omega arith; same = λ i. spans i ∷ barriers i ∷ [] };
      lanes = apart;
    }

    by_barriers : (t.barrier < u.barrier) ⊎ ((t.barrier ≡ u.barrier) ⊎ (u.barrier < t.barrier)) → (AgreeOnSpans l m → IsConcurrent l m → ArePartedAt l m) → ArePartedAt (t ∷ l) (u ∷ m)
    by_barriers (inl less) rec = absurd (before (record { same_span = spans; earlier = inl less }))
    by_barriers (inr (inl barriers)) rec = by_lanes barriers (same_or_apart (t.offset % t.span) (u.offset % u.span)) rec
    by_barriers (inr (inr greater)) rec = absurd (after (record { same_span = sym spans; earlier = inl greater }))
