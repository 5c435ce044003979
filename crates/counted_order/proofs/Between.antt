-- Records of two lanes that passed as many barriers aren't counted before one another.
use Rattle.std.proofs.Common.{◌≡◌, ◌⊎◌, ◌+◌, ◌<◌, length, sym, ap, arith, ◌∙◌, inl, inr}
use Rattle.race_model.specs.Trace.{Logs, Node, barriers_before}
use Rattle.race_model.specs.Race.{IsUnordered}
use Rattle.race_laws.proofs.LabelPlace.{same_lane_from_path}
use Rattle.counted_order.specs.Counting.{IsAbove, IsEarlierInTask, StandInTeam, IsCountedBefore, AreBetweenBarriers}
use Rattle.counted_order.proofs.Above.{above_trans, HangsFrom, split, above_fork, beside, linear, deeper, above_shorter, hangs_shorter, same_level}
use Rattle.counted_order.proofs.Edges.{happens_before_counted}

-- records above two of one log, at one level, are of one log
same_path_above : (logs : Logs) (a b c d : Node) → IsAbove logs a c → IsAbove logs b d → c.path ≡ d.path → length a.path ≡ length b.path → a.path ≡ b.path
same_path_above logs a b c d a_c b_d same level = at (split logs a c a_c) (split logs b d b_d)
  where
    long : length c.path ≡ length d.path
    long = ap length same

    at : (a ≡ c) ⊎ HangsFrom logs a c → (b ≡ d) ⊎ HangsFrom logs b d → a.path ≡ b.path
    at (inl e) (inl f) = ap (λ (w : Node). w.path) e ∙ (same ∙ sym (ap (λ (w : Node). w.path) f))
    at (inl e) (inr k) = absurd (let less = hangs_shorter logs b d k in let mine : length a.path ≡ length c.path = ap (λ (w : Node). length w.path) e in omega (arith, long))
    at (inr h) (inl f) = absurd (let less = hangs_shorter logs a c h in let yours : length b.path ≡ length d.path = ap (λ (w : Node). length w.path) f in omega (arith, long))
    at (inr h) (inr k) =
        let b_fork = above_fork logs b d h.fork h.number h.span (beside logs h.fork c d h.number h.span h.lane same) k in
        ap (λ (w : Node). w.path) (same_level logs a b h.fork h.part b_fork level)

module _ (logs : Logs) (x y : Node) (t : StandInTeam logs x y) (apart : t.my_lane ≡ t.your_lane → ⊥) where
  lanes_differ : t.mine.path ≡ t.yours.path → ⊥
  lanes_differ same = apart (same_lane_from_path logs t.fork t.fork t.my_lane t.your_lane t.span t.span t.mine.path t.yours.path t.my_team t.your_team same).same_lane

  my_level : length t.mine.path ≡ length t.fork.path + 1
  my_level = deeper logs t.fork t.mine t.my_lane t.span t.my_team

  your_level : length t.yours.path ≡ length t.fork.path + 1
  your_level = deeper logs t.fork t.yours t.your_lane t.span t.your_team

  one_level : length t.mine.path ≡ length t.yours.path
  one_level = my_level ∙ sym your_level

  -- what is above x is at the lane or below it, or above the region
  my_place : (c : Node) → IsAbove logs c x → IsAbove logs t.mine c ⊎ IsAbove logs c t.fork
  my_place c up = at (linear logs t.mine c x t.my_part up)
    where
      at : IsAbove logs t.mine c ⊎ HangsFrom logs c t.mine → IsAbove logs t.mine c ⊎ IsAbove logs c t.fork
      at (inl low) = inl low
      at (inr h) = inr (above_fork logs c t.mine t.fork t.my_lane t.span t.my_team h)

  your_place : (d : Node) → IsAbove logs d y → IsAbove logs t.yours d ⊎ IsAbove logs d t.fork
  your_place d up = at (linear logs t.yours d y t.your_part up)
    where
      at : IsAbove logs t.yours d ⊎ HangsFrom logs d t.yours → IsAbove logs t.yours d ⊎ IsAbove logs d t.fork
      at (inl low) = inl low
      at (inr h) = inr (above_fork logs d t.yours t.fork t.your_lane t.span t.your_team h)

  -- at one level: both below the region, or both the same record above it
  both : (c d : Node) → IsAbove logs c x → IsAbove logs d y → length c.path ≡ length d.path → (IsAbove logs t.mine c × IsAbove logs t.yours d) ⊎ (c ≡ d)
  both c d c_x d_y level = at (my_place c c_x) (your_place d d_y)
    where
      at : IsAbove logs t.mine c ⊎ IsAbove logs c t.fork → IsAbove logs t.yours d ⊎ IsAbove logs d t.fork → (IsAbove logs t.mine c × IsAbove logs t.yours d) ⊎ (c ≡ d)
      at (inl a) (inl b) = inl (a, b)
      at (inl a) (inr g) = absurd (let low = above_shorter logs t.mine c a in let high = above_shorter logs d t.fork g in omega (arith, my_level, level))
      at (inr f) (inl b) = absurd (let low = above_shorter logs t.yours d b in let high = above_shorter logs c t.fork f in omega (arith, your_level, level))
      at (inr f) (inr g) = inr (same_level logs c d t.fork f g level)

  not_above : IsAbove logs x y → ⊥
  not_above up = lanes_differ (ap (λ (w : Node). w.path) (same_level logs t.mine t.yours y (above_trans logs t.mine x y t.my_part up) t.your_part one_level))

  not_in_task : IsEarlierInTask logs x y → ⊥
  not_in_task w = at (both w.mine w.yours w.my_part w.your_part (ap length w.same_log))
    where
      at : (IsAbove logs t.mine w.mine × IsAbove logs t.yours w.yours) ⊎ (w.mine ≡ w.yours) → ⊥
      at (inl low) = lanes_differ (same_path_above logs t.mine t.yours w.mine w.yours low.0 low.1 w.same_log one_level)
      at (inr e) = let less = w.earlier in let same : w.mine.index ≡ w.yours.index = ap (λ (v : Node). v.index) e in omega arith

  not_in_team : barriers_before logs t.mine ≡ barriers_before logs t.yours → (w : StandInTeam logs x y) → barriers_before logs w.mine < barriers_before logs w.yours → ⊥
  not_in_team as_many w fewer = at (both w.mine w.yours w.my_part w.your_part level)
    where
      level : length w.mine.path ≡ length w.yours.path
      level = deeper logs w.fork w.mine w.my_lane w.span w.my_team ∙ sym (deeper logs w.fork w.yours w.your_lane w.span w.your_team)

      low : (t.mine ≡ w.mine) ⊎ HangsFrom logs t.mine w.mine → (t.yours ≡ w.yours) ⊎ HangsFrom logs t.yours w.yours → ⊥
      low (inl e) (inl f) =
          let mine : barriers_before logs t.mine ≡ barriers_before logs w.mine = ap (barriers_before logs) e in
          let yours : barriers_before logs t.yours ≡ barriers_before logs w.yours = ap (barriers_before logs) f in
          omega arith
      low (inl e) (inr k) =
          let less = hangs_shorter logs t.yours w.yours k in
          let mine : length t.mine.path ≡ length w.mine.path = ap (λ (v : Node). length v.path) e in
          omega (arith, level, one_level)
      low (inr h) (inl f) =
          let less = hangs_shorter logs t.mine w.mine h in
          let yours : length t.yours.path ≡ length w.yours.path = ap (λ (v : Node). length v.path) f in
          omega (arith, level, one_level)
      low (inr h) (inr k) = lanes_differ (ap (λ (v : Node). v.path) (same_level logs t.mine t.yours w.fork
          (above_fork logs t.mine w.mine w.fork w.my_lane w.span w.my_team h) (above_fork logs t.yours w.yours w.fork w.your_lane w.span w.your_team k) one_level))

      at : (IsAbove logs t.mine w.mine × IsAbove logs t.yours w.yours) ⊎ (w.mine ≡ w.yours) → ⊥
      at (inl both_low) = low (split logs t.mine w.mine both_low.0) (split logs t.yours w.yours both_low.1)
      at (inr e) = let same : barriers_before logs w.mine ≡ barriers_before logs w.yours = ap (barriers_before logs) e in omega arith

  not_counted : barriers_before logs t.mine ≡ barriers_before logs t.yours → IsCountedBefore logs x y → ⊥
  not_counted as_many (IsCountedBefore.above up) = not_above up
  not_counted as_many (IsCountedBefore.in_task w) = not_in_task w
  not_counted as_many (IsCountedBefore.in_team w) = not_in_team as_many w.team w.fewer

abbrev pub turned : (logs : Logs) (x y : Node) → StandInTeam logs x y → StandInTeam logs y x
turned logs x y t = record {
  fork = t.fork;
  span = t.span;
  my_lane = t.your_lane;
  your_lane = t.my_lane;
  mine = t.yours;
  yours = t.mine;
  my_part = t.your_part;
  your_part = t.my_part;
  my_team = t.your_team;
  your_team = t.my_team;
}

pub between_unordered : (logs : Logs) (x y : Node) → AreBetweenBarriers logs x y → IsUnordered logs x y
between_unordered logs x y u = record {
  not_before = λ before. not_counted logs x y u.team u.two_lanes u.as_many (happens_before_counted logs x y before);
  not_after = λ after. not_counted logs y x (turned logs x y u.team) (λ e. u.two_lanes (sym e)) (sym u.as_many) (happens_before_counted logs y x after);
}
