-- The path that a label tells, and the order of paths where labels share a group.
use Rattle.std.proofs.Common.{◌≡◌, ◌⊎◌, inl, inr, ℕ, zero, suc, ◌+◌, ◌*◌, ◌/◌, ◌%◌, ◌≤◌, List, [], ◌∷◌, ◌++◌, refl, sym, ap, ◌∙◌, arith}
use Rattle.std.proofs.lemmas.List.{same_from_push}
use Rattle.std.proofs.Math.Nat.{add-mul-div_left, div-eq_of_lt}
use Rattle.sw_base.specs.declared.path.Step.{Step}
use Rattle.log_segment.specs.OneTree.{IsPathBefore, IsStepBefore}
use Rattle.race_model.specs.Label.{Triple, IsLabel, lane_triple}
use Rattle.race_model.specs.Order.{IsLane, lane_path}
use Rattle.race_model.specs.Trace.{Logs, Node, regions_before}
use Rattle.race_laws.proofs.LabelPlace.{HasLast, label_last, offset_residue, same_place, same_region, is_region}
use Rattle.race_laws.proofs.Parting.{ancestor, only_root}
use Rattle.segment_groups.specs.Group.{ShareGroup, lane_at}
use Rattle.segment_groups.proofs.LabelGroups.{AgreeOnSpans, ShareFirst, share_first}

-- the step from a task with the first triple to one with the second
abbrev step_of : Triple → Triple → Step
step_of above own = record { region = above.offset / above.span; lane = own.offset % own.span; span = own.span }

abbrev pub path_of : List Triple → List Step
path_of [] = []
path_of (t ∷ []) = []
path_of (t ∷ u ∷ label) = step_of t u ∷ path_of (u ∷ label)

path_push : (above : List Triple) (own t : Triple) → path_of ((above ++ own ∷ []) ++ t ∷ []) ≡ path_of (above ++ own ∷ []) ++ step_of own t ∷ []
path_push [] own t = refl
path_push (a ∷ []) own t = refl
path_push (a ∷ b ∷ above) own t = ap (λ (path : List Step). step_of a b ∷ path) (path_push (b ∷ above) own t)

-- the label of a record tells its path, and how many regions the task forked before
pub record IsToldBy (logs : Logs) (x : Node) (label : List Triple) : Type 0 where
  pub path : x.path ≡ path_of label
  pub regions : (above : List Triple) (own : Triple) → label ≡ above ++ own ∷ [] → own.offset / own.span ≡ regions_before logs x

lane_told : (logs : Logs) (fork x : Node) (n s : ℕ) (above : List Triple) → IsLane logs fork n s x.path → IsLabel logs fork above → IsToldBy logs fork above → IsToldBy logs x (above ++ lane_triple logs x n s ∷ [])
lane_told logs fork x n s above h up fork_told = record {
  path = h.child ∙ (steps ∙ sym (ap (λ (l : List Triple). path_of (l ++ own ∷ [])) last.parts ∙ path_push last.prefix last.last own));
  regions = λ before t is. ap (λ (u : Triple). u.offset / u.span) (sym (same_from_push above before own t is).1) ∙ quotient;
}
  where
    own : Triple
    own = lane_triple logs x n s

    last : HasLast above
    last = label_last logs fork above up

    zero_more : (k : ℕ) → 0 + k ≡ k
    zero_more k = omega arith

    quotient : (n + s * regions_before logs x) / s ≡ regions_before logs x
    quotient = add-mul-div_left n (regions_before logs x) (let lane = h.in_span in omega arith) ∙ ap (λ (k : ℕ). k + regions_before logs x) (div-eq_of_lt h.in_span) ∙ zero_more (regions_before logs x)

    steps : lane_path logs fork n s ≡ path_of (last.prefix ++ last.last ∷ []) ++ step_of last.last own ∷ []
    steps = λ i. (fork_told.path ∙ ap path_of last.parts) i ++ record { region = sym (fork_told.regions last.prefix last.last last.parts) i; lane = sym (offset_residue n s (regions_before logs x) h.in_span) i; span = s } ∷ []

pub told : (logs : Logs) (x : Node) (label : List Triple) → IsLabel logs x label → IsToldBy logs x label
told logs x _ (IsLabel.root x1 e) = record {
  path = e;
  regions = λ above own is. let same = (same_from_push [] above (record { offset = regions_before logs x; span = 1; barrier = 0 }) own is).1 in ap (λ (t : Triple). t.offset / t.span) (sym same) ∙ by_one (regions_before logs x);
}
  where
    by_one : (n : ℕ) → n / 1 ≡ n
    by_one n = omega arith
told logs x _ (IsLabel.lane fork x1 n s above h up) = lane_told logs fork x n s above h up (told logs fork above up)

same_span : (logs : Logs) (a b : Node) (l m prefix : List Triple) (t u : Triple) → IsLabel logs a l → IsLabel logs b m → l ≡ prefix ++ t ∷ [] → m ≡ prefix ++ u ∷ [] → t.span ≡ u.span
same_span logs a b _ _ prefix t u (IsLabel.root a1 e) (IsLabel.root b1 f) l_is m_is =
    ap (λ (v : Triple). v.span) (sym (same_from_push [] prefix _ t l_is).1) ∙ ap (λ (v : Triple). v.span) (same_from_push [] prefix _ u m_is).1
same_span logs a b _ _ prefix t u (IsLabel.root a1 e) (IsLabel.lane g b1 m r beside k also) l_is m_is = absurd (only_root logs g beside prefix _ t _ u also l_is m_is)
same_span logs a b _ _ prefix t u (IsLabel.lane f a1 n s above h up) (IsLabel.root b1 e) l_is m_is = absurd (only_root logs f above prefix _ u _ t up m_is l_is)
same_span logs a b _ _ prefix t u (IsLabel.lane f a1 n s above h up) (IsLabel.lane g b1 m r beside k also) l_is m_is =
    let mine = same_from_push above prefix (lane_triple logs a n s) t l_is in
    let yours = same_from_push beside prefix (lane_triple logs b m r) u m_is in
    let place = same_place logs f g above beside up also (mine.0 ∙ sym yours.0) in
    let fork : f ≡ g = same_region logs f g (is_region logs f n s a.path h) (is_region logs g m r b.path k) place.same_log place.same_regions in
    let h_found = h.found in
    let k_found = k.found in
    let h_spans = h.spans in
    let k_spans = k.spans in
    let spans : s ≡ r = cc in
    sym (ap (λ (v : Triple). v.span) mine.1) ∙ (spans ∙ ap (λ (v : Triple). v.span) yours.1)

pub spans_agree : (logs : Logs) (x y : Node) (l m : List Triple) → IsLabel logs x l → IsLabel logs y m → AgreeOnSpans l m
spans_agree logs x y l m is_l is_m prefix t u xs ys l_is m_is =
    let a = ancestor logs x l is_l prefix t xs l_is in
    let b = ancestor logs y m is_m prefix u ys m_is in
    same_span logs a.above b.above _ _ prefix t u a.is_label b.is_label refl refl

-- a path stands before another, or they are the same
abbrev pub IsPathUpTo : List Step → List Step → Type 0
IsPathUpTo p q = IsPathBefore p q ⊎ (p ≡ q)

first_step : (s t : Step) (p q : List Step) → IsPathUpTo (s ∷ p) (t ∷ q) → ((s ≡ t) × IsPathUpTo p q) ⊎ IsStepBefore s t
first_step s t p q (inr same) = inl ((let e : s ≡ t = cc in e), inr (let e : p ≡ q = cc in e))
first_step s t p q (inl before) = inverse (s ∷ p) (t ∷ q) before refl refl
  where
    inverse : (xs ys : List Step) → IsPathBefore xs ys → xs ≡ s ∷ p → ys ≡ t ∷ q → ((s ≡ t) × IsPathUpTo p q) ⊎ IsStepBefore s t
    inverse _ _ (IsPathBefore.under v vs) e f = absurd (cc)
    inverse _ _ (IsPathBefore.same v vs ws rest) e f =
        let first : s ≡ t = cc in
        let mine : vs ≡ p = cc in
        let yours : ws ≡ q = cc in
        inl (first, inl (rw (← mine, ← yours) rest))
    inverse _ _ (IsPathBefore.differ v w vs ws less) e f =
        let mine : v ≡ s = cc in
        let yours : w ≡ t = cc in
        inr (rw (← mine, ← yours) less)

not_itself : (s t : Step) → s ≡ t → IsStepBefore s t → ⊥
not_itself s t e (IsStepBefore.region less) = let same : s.region ≡ t.region = ap (λ (v : Step). v.region) e in omega arith
not_itself s t e (IsStepBefore.lane regions less) = let same : s.lane ≡ t.lane = ap (λ (v : Step). v.lane) e in omega arith

lane_first : (s t : Step) → s.region ≡ t.region → IsStepBefore s t → s.lane ≤ t.lane
lane_first s t same (IsStepBefore.region less) = absurd (omega arith)
lane_first s t same (IsStepBefore.lane regions less) = omega arith

-- in a group the lanes ascend with the paths
pub lanes_up : (depth : ℕ) (l m : List Triple) → IsPathUpTo (path_of l) (path_of m) → ShareGroup (suc depth) l m → lane_at (suc depth) l ≤ lane_at (suc depth) m
lanes_up depth [] m up share = absurd (let mine = share.mine in omega arith)
lanes_up depth (t ∷ []) m up share = absurd (let mine = share.mine in omega arith)
lanes_up depth (t ∷ u ∷ l) [] up share = absurd (let yours = share.yours in omega arith)
lanes_up depth (t ∷ u ∷ l) (v ∷ []) up share = absurd (let yours = share.yours in omega arith)
lanes_up zero (t ∷ u ∷ l) (v ∷ w ∷ m) up share = at (first_step (step_of t u) (step_of v w) (path_of (u ∷ l)) (path_of (w ∷ m)) up)
  where
    at : ((step_of t u ≡ step_of v w) × IsPathUpTo (path_of (u ∷ l)) (path_of (w ∷ m))) ⊎ IsStepBefore (step_of t u) (step_of v w) → u.offset % u.span ≤ w.offset % w.span
    at (inl same) = let lanes : u.offset % u.span ≡ w.offset % w.span = ap (λ (s : Step). s.lane) same.0 in omega arith
    at (inr less) = lane_first (step_of t u) (step_of v w) (ap (λ (a : Triple). a.offset / a.span) (share_first 0 t v (u ∷ l) (w ∷ m) share).first) less
lanes_up (suc depth) (t ∷ u ∷ l) (v ∷ w ∷ m) up share = at (first_step (step_of t u) (step_of v w) (path_of (u ∷ l)) (path_of (w ∷ m)) up) (lanes_up depth (u ∷ l) (w ∷ m))
  where
    above : ShareFirst (suc depth) t v (u ∷ l) (w ∷ m)
    above = share_first (suc depth) t v (u ∷ l) (w ∷ m) share

    steps : step_of t u ≡ step_of v w
    steps = λ i. step_of (above.first i) ((share_first depth u w l m above.rest).first i)

    at : ((step_of t u ≡ step_of v w) × IsPathUpTo (path_of (u ∷ l)) (path_of (w ∷ m))) ⊎ IsStepBefore (step_of t u) (step_of v w)
        → (IsPathUpTo (path_of (u ∷ l)) (path_of (w ∷ m)) → ShareGroup (suc depth) (u ∷ l) (w ∷ m) → lane_at (suc depth) (u ∷ l) ≤ lane_at (suc depth) (w ∷ m))
        → lane_at (suc (suc depth)) (t ∷ u ∷ l) ≤ lane_at (suc (suc depth)) (v ∷ w ∷ m)
    at (inr less) rec = absurd (not_itself (step_of t u) (step_of v w) steps less)
    at (inl same) rec = rec same.1 above.rest
