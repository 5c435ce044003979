-- Where two labels part: the records above at that level, which are in one task or in two lanes of a team.
use Rattle.std.proofs.Common.{◌≡◌, ◌⊎◌, ℕ, ◌+◌, ◌*◌, ◌<◌, List, [], ◌∷◌, ◌++◌, length, refl, sym, ap, subst, arith, ◌∙◌, inl, inr, append_assoc}
use Rattle.std.proofs.lemmas.List.{same_from_push}
use Rattle.std.proofs.Math.Nat.{lt_of_mul-lt-mul_left}
use Rattle.race_model.specs.Trace.{Logs, Node, regions_before, barriers_before}
use Rattle.race_model.specs.Order.{IsLane, lane_path}
use Rattle.race_model.specs.Label.{Triple, IsTripleBefore, IsLabel, lane_triple}
use Rattle.race_laws.proofs.LabelOrder.{Earlier}
use Rattle.race_laws.proofs.LabelPlace.{HasLast, has_last, not_both_empty, label_last, same_place, same_region, is_region, offset_residue}
use Rattle.race_laws.proofs.Chains.{IsBelow}

-- the record whose label is a prefix of x's: x itself, or the region that x stands below
pub record Ancestor (logs : Logs) (x : Node) (prefix : List Triple) (t : Triple) (rest : List Triple) : Type 0 where
  pub above : Node
  pub is_label : IsLabel logs above (prefix ++ t ∷ [])
  pub place : ((above ≡ x) × (rest ≡ [])) ⊎ IsBelow logs above x.path

itself : (logs : Logs) (x : Node) (l prefix : List Triple) (t : Triple) (rest : List Triple) → IsLabel logs x l → l ≡ prefix ++ t ∷ rest → rest ≡ [] → Ancestor logs x prefix t rest
itself logs x l prefix t rest is_l e none_left = record {
  above = x;
  is_label = subst (λ (m : List Triple). IsLabel logs x m) (e ∙ ap (λ (r : List Triple). prefix ++ t ∷ r) none_left) is_l;
  place = inl (refl, none_left);
}

below_fork : (logs : Logs) (fork x : Node) (n s : ℕ) (prefix : List Triple) (t : Triple) (shorter rest : List Triple) → IsLane logs fork n s x.path
    → Ancestor logs fork prefix t shorter → Ancestor logs x prefix t rest
below_fork logs fork x n s prefix t shorter rest lane a = record { above = a.above; is_label = a.is_label; place = inr (at a.place) }
  where
    at : ((a.above ≡ fork) × (shorter ≡ [])) ⊎ IsBelow logs a.above fork.path → IsBelow logs a.above x.path
    at (inl here) = IsBelow.child n s x.path (subst (λ (w : Node). IsLane logs w n s x.path) (sym here.0) lane)
    at (inr below) = IsBelow.deeper fork n s x.path lane below

-- without its last triple
shorter_prefix : (above prefix : List Triple) (t u v : Triple) (rest shorter : List Triple) → above ++ u ∷ [] ≡ prefix ++ t ∷ rest → rest ≡ shorter ++ v ∷ [] → above ≡ prefix ++ t ∷ shorter
shorter_prefix above prefix t u v rest shorter e f =
    (same_from_push above (prefix ++ t ∷ shorter) u v (e ∙ (ap (λ (r : List Triple). prefix ++ t ∷ r) f ∙ sym (append_assoc prefix (t ∷ shorter) (v ∷ []))))).0

length_prefix : (prefix : List Triple) (t : Triple) (rest : List Triple) → 0 < length (prefix ++ t ∷ rest)
length_prefix [] t rest = omega arith
length_prefix (u ∷ prefix) t rest = omega arith

pub ancestor : (logs : Logs) (x : Node) (l : List Triple) → IsLabel logs x l → (prefix : List Triple) (t : Triple) (rest : List Triple) → l ≡ prefix ++ t ∷ rest → Ancestor logs x prefix t rest
ancestor logs x l (IsLabel.root x1 e) prefix t rest same = at (has_last rest)
  where
    at : (rest ≡ []) ⊎ HasLast rest → Ancestor logs x prefix t rest
    at (inl none_left) = itself logs x _ prefix t rest (IsLabel.root x e) same none_left
    at (inr last) = absurd (let short = ap length (shorter_prefix [] prefix t _ last.last rest last.prefix same last.parts) in let long = length_prefix prefix t last.prefix in omega arith)
ancestor logs x l (IsLabel.lane fork x1 n s above h up) prefix t rest same = at (has_last rest) (ancestor logs fork above up)
  where
    at : (rest ≡ []) ⊎ HasLast rest → ((f : List Triple) (u : Triple) (r : List Triple) → above ≡ f ++ u ∷ r → Ancestor logs fork f u r) → Ancestor logs x prefix t rest
    at (inl none_left) rec = itself logs x _ prefix t rest (IsLabel.lane fork x n s above h up) same none_left
    at (inr last) rec = below_fork logs fork x n s prefix t last.prefix rest h (rec prefix t last.prefix (shorter_prefix above prefix t _ last.last rest last.prefix same last.parts))

-- how two records whose labels part at the last triple stand to each other
pub record InOneTask (logs : Logs) (a b : Node) : Type 0 where
  pub same_log : a.path ≡ b.path
  pub fewer_regions : regions_before logs a < regions_before logs b

pub record InOneTeam (logs : Logs) (a b : Node) : Type 0 where
  pub fork : Node
  pub my_lane : ℕ
  pub your_lane : ℕ
  pub span : ℕ
  pub mine : IsLane logs fork my_lane span a.path
  pub yours : IsLane logs fork your_lane span b.path
  pub fewer_barriers : barriers_before logs a < barriers_before logs b

root_parts : (logs : Logs) (a b : Node) (t u : Triple) → a.path ≡ [] → b.path ≡ [] → t.offset ≡ regions_before logs a → u.offset ≡ regions_before logs b → t.barrier ≡ 0 → u.barrier ≡ 0
    → Earlier t u → InOneTask logs a b ⊎ InOneTeam logs a b
root_parts logs a b t u e f t_is u_is t_none u_none (inl less) = absurd (omega arith)
root_parts logs a b t u e f t_is u_is t_none u_none (inr less) = let offsets : t.offset < u.offset = less.1 in inl (record { same_log = e ∙ sym f; fewer_regions = omega arith })

lane_parts : (logs : Logs) (a b f : Node) (n m s : ℕ) → IsLane logs f n s a.path → IsLane logs f m s b.path → Earlier (lane_triple logs a n s) (lane_triple logs b m s)
    → InOneTask logs a b ⊎ InOneTeam logs a b
lane_parts logs a b f n m s h k (inl less) = inr (record { fork = f; my_lane = n; your_lane = m; span = s; mine = h; yours = k; fewer_barriers = less })
lane_parts logs a b f n m s h k (inr less) =
    let offsets : n + s * regions_before logs a < m + s * regions_before logs b = less.1 in
    let lane : n ≡ m = sym (offset_residue n s (regions_before logs a) h.in_span) ∙ (less.2 ∙ offset_residue m s (regions_before logs b) k.in_span) in
    let products : s * regions_before logs a < s * regions_before logs b = omega arith in
    inl (record {
      same_log = h.child ∙ (ap (λ (lane : ℕ). lane_path logs f lane s) lane ∙ sym k.child);
      fewer_regions = lt_of_mul-lt-mul_left s products;
    })

pub only_root : (logs : Logs) (g : Node) (beside prefix : List Triple) (t u v w : Triple) → IsLabel logs g beside → t ∷ [] ≡ prefix ++ u ∷ [] → beside ++ v ∷ [] ≡ prefix ++ w ∷ [] → ⊥
only_root logs g beside prefix t u v w also l_is m_is =
    let last = label_last logs g beside also in
    let empty : beside ≡ [] = (same_from_push beside prefix v w m_is).0 ∙ sym (same_from_push [] prefix t u l_is).0 in
    not_both_empty beside last.prefix last.last empty last.parts

pub parting : (logs : Logs) (a b : Node) (l m prefix : List Triple) (t u : Triple) → IsLabel logs a l → IsLabel logs b m → l ≡ prefix ++ t ∷ [] → m ≡ prefix ++ u ∷ [] → IsTripleBefore t u
    → InOneTask logs a b ⊎ InOneTeam logs a b
parting logs a b _ _ prefix t u (IsLabel.root a1 e) (IsLabel.root b1 f) l_is m_is before =
    let mine = (same_from_push [] prefix (record { offset = regions_before logs a; span = 1; barrier = 0 }) t l_is).1 in
    let yours = (same_from_push [] prefix (record { offset = regions_before logs b; span = 1; barrier = 0 }) u m_is).1 in
    root_parts logs a b t u e f (sym (ap (λ (v : Triple). v.offset) mine)) (sym (ap (λ (v : Triple). v.offset) yours))
    (sym (ap (λ (v : Triple). v.barrier) mine)) (sym (ap (λ (v : Triple). v.barrier) yours)) before.earlier
parting logs a b _ _ prefix t u (IsLabel.root a1 e) (IsLabel.lane g b1 m s beside k also) l_is m_is before =
    absurd (only_root logs g beside prefix _ t _ u also l_is m_is)
parting logs a b _ _ prefix t u (IsLabel.lane f a1 n s above h up) (IsLabel.root b1 e) l_is m_is before =
    absurd (only_root logs f above prefix _ u _ t up m_is l_is)
parting logs a b _ _ prefix t u (IsLabel.lane f a1 n s above h up) (IsLabel.lane g b1 m r beside k also) l_is m_is before =
    let mine = same_from_push above prefix (lane_triple logs a n s) t l_is in
    let yours = same_from_push beside prefix (lane_triple logs b m r) u m_is in
    let place = same_place logs f g above beside up also (mine.0 ∙ sym yours.0) in
    let fork : f ≡ g = same_region logs f g (is_region logs f n s a.path h) (is_region logs g m r b.path k) place.same_log place.same_regions in
    let span : s ≡ r = ap (λ (v : Triple). v.span) mine.1 ∙ (before.same_span ∙ sym (ap (λ (v : Triple). v.span) yours.1)) in
    let lane : IsLane logs f m s b.path =
    subst (λ (w : Node). IsLane logs w m s b.path) (sym fork) (subst (λ (z : ℕ). IsLane logs g m z b.path) (sym span) k) in
    let triple : u ≡ lane_triple logs b m s = sym yours.1 ∙ ap (λ (z : ℕ). lane_triple logs b m z) (sym span) in
    lane_parts logs a b f n m s h lane
    (subst (λ (v : Triple). Earlier (lane_triple logs a n s) v) triple (subst (λ (v : Triple). Earlier v u) (sym mine.1) before.earlier))
