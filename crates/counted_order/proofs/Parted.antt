-- Two records: one is above the other, or they part in a task or in a team.
use Rattle.std.proofs.Common.{◌≡◌, ◌⊎◌, ℕ, suc, zero, ◌+◌, ◌<◌, List, [], ◌∷◌, length, refl, sym, ap, subst, arith, ◌∙◌, inl, inr}
use Rattle.sw_base.specs.declared.path.Step.{Step}
use Rattle.log_format.specs.declared.record.Kind.TheVariants.{Region}
use Rattle.race_model.specs.Trace.{Logs, Node, IsThere, barriers_before}
use Rattle.race_model.specs.Order.{IsLane, lane_path}
use Rattle.race_model.specs.Race.{IsUnordered}
use Rattle.race_model.specs.ForkJoin.{IsForkJoin, IsTask}
use Rattle.race_laws.proofs.Counts.{there}
use Rattle.race_laws.proofs.LabelPlace.{has_last, HasLast, is_region, same_node, AreForked}
use Rattle.counted_order.specs.Counting.{IsAbove, IsEarlierInTask, StandInTeam, IsCountedBefore, AreBetweenBarriers}
use Rattle.counted_order.proofs.Above.{above_trans, under_fork, deeper}
use Rattle.counted_order.proofs.Between.{turned}
use Rattle.counted_order.proofs.Reaching.{counted_happens_before}

-- the region that forked a task
pub record Forked (logs : Logs) (x : Node) : Type 0 where
  pub fork : Node
  pub number : ℕ
  pub span : ℕ
  pub lane : IsLane logs fork number span x.path

pub forked : (logs : Logs) (x : Node) → AreForked logs → IsThere logs x → 0 < length x.path → Forked logs x
forked logs x forks here deep = at (has_last x.path)
  where
    at : (x.path ≡ []) ⊎ HasLast x.path → Forked logs x
    at (inl e) = absurd (let none_there : length x.path ≡ 0 = ap length e in omega arith)
    at (inr l) =
        let begun : IsTask logs x.path = omega arith in
        let f = forks l.prefix l.last (subst (λ (path : List Step). IsTask logs path) l.parts begun) in
        record {
          fork = f.fork;
          number = l.last.lane;
          span = l.last.span;
          lane = subst (λ (path : List Step). IsLane logs f.fork l.last.lane l.last.span path) (sym l.parts) f.lane;
        }

-- the record above at a level
pub record Level (logs : Logs) (x : Node) (d : ℕ) : Type 0 where
  pub above : Node
  pub part : IsAbove logs above x
  pub deep : length above.path ≡ d
  pub here : IsThere logs above

pub level : (logs : Logs) → AreForked logs → (k : ℕ) (x : Node) (d : ℕ) → length x.path ≡ d + k → IsThere logs x → Level logs x d
level logs forks zero x d e here = record { above = x; part = IsAbove.itself x; deep = omega arith; here = here }
level logs forks (suc k) x d e here =
    let f = forked logs x forks here (omega arith) in
    let more = deeper logs f.fork x f.number f.span f.lane in
    let up = level logs forks k f.fork d (omega arith) (there logs f.fork Region (is_region logs f.fork f.number f.span x.path f.lane)) in
    record { above = up.above; part = IsAbove.lane up.above f.fork x f.number f.span f.lane up.part; deep = up.deep; here = up.here }

-- how two records stand that don't hang at one
data Part (logs : Logs) (x y : Node) : Type 0 where
  earlier : IsEarlierInTask logs x y → Part logs x y
  later : IsEarlierInTask logs y x → Part logs x y
  team : (t : StandInTeam logs x y) → (t.my_lane ≡ t.your_lane → ⊥) → Part logs x y

-- and so what hangs at them
lower : (logs : Logs) (a b x y : Node) → IsAbove logs a x → IsAbove logs b y → Part logs a b → Part logs x y
lower logs a b x y a_x b_y (Part.earlier t) = Part.earlier (record {
  mine = t.mine;
  yours = t.yours;
  my_part = above_trans logs t.mine a x t.my_part a_x;
  your_part = above_trans logs t.yours b y t.your_part b_y;
  same_log = t.same_log;
  earlier = t.earlier;
})
lower logs a b x y a_x b_y (Part.later t) = Part.later (record {
  mine = t.mine;
  yours = t.yours;
  my_part = above_trans logs t.mine b y t.my_part b_y;
  your_part = above_trans logs t.yours a x t.your_part a_x;
  same_log = t.same_log;
  earlier = t.earlier;
})
lower logs a b x y a_x b_y (Part.team t apart) = Part.team (record {
  fork = t.fork;
  span = t.span;
  my_lane = t.my_lane;
  your_lane = t.your_lane;
  mine = t.mine;
  yours = t.yours;
  my_part = above_trans logs t.mine a x t.my_part a_x;
  your_part = above_trans logs t.yours b y t.your_part b_y;
  my_team = t.my_team;
  your_team = t.your_team;
}) apart

compare : (i j : ℕ) → (i < j) ⊎ (j < i) ⊎ (i ≡ j)
compare i j = grind arith

-- in one log
in_log : (logs : Logs) (a b : Node) → a.path ≡ b.path → (a ≡ b) ⊎ Part logs a b
in_log logs a b same = at (compare a.index b.index)
  where
    at : (a.index < b.index) ⊎ (b.index < a.index) ⊎ (a.index ≡ b.index) → (a ≡ b) ⊎ Part logs a b
    at (inl less) = inr (Part.earlier (record { mine = a; yours = b; my_part = IsAbove.itself a; your_part = IsAbove.itself b; same_log = same; earlier = less }))
    at (inr (inl more)) = inr (Part.later (record { mine = b; yours = a; my_part = IsAbove.itself b; your_part = IsAbove.itself a; same_log = sym same; earlier = more }))
    at (inr (inr e)) = inl (same_node a b same e)

-- in lanes of one region
in_lanes : (logs : Logs) (fork a b : Node) (n m s t : ℕ) → IsLane logs fork n s a.path → IsLane logs fork m t b.path → (a ≡ b) ⊎ Part logs a b
in_lanes logs fork a b n m s t h k = at (compare n m)
  where
    spans : s ≡ t
    spans =
        let h_found = h.found in
        let k_found = k.found in
        let h_spans = h.spans in
        let k_spans = k.spans in
        cc

    other : IsLane logs fork m s b.path
    other = subst (λ (w : ℕ). IsLane logs fork m w b.path) (sym spans) k

    apart : (n ≡ m → ⊥) → (a ≡ b) ⊎ Part logs a b
    apart differ = inr (Part.team (record {
      fork = fork;
      span = s;
      my_lane = n;
      your_lane = m;
      mine = a;
      yours = b;
      my_part = IsAbove.itself a;
      your_part = IsAbove.itself b;
      my_team = h;
      your_team = other;
    }) differ)

    at : (n < m) ⊎ (m < n) ⊎ (n ≡ m) → (a ≡ b) ⊎ Part logs a b
    at (inl less) = apart (λ e. omega arith)
    at (inr (inl more)) = apart (λ e. omega arith)
    at (inr (inr e)) = in_log logs a b (h.child ∙ (ap (λ (w : ℕ). lane_path logs fork w s) e ∙ sym other.child))

-- at one level
at_level : (logs : Logs) → AreForked logs → (d : ℕ) (a b : Node) → length a.path ≡ d → length b.path ≡ d → IsThere logs a → IsThere logs b → (a ≡ b) ⊎ Part logs a b
at_level logs forks zero a b e f a_there b_there = in_log logs a b (empty a.path e ∙ sym (empty b.path f))
  where
    empty : (p : List Step) → length p ≡ 0 → p ≡ []
    empty [] none_there = refl
    empty (s ∷ p) none_there = absurd (omega arith)
at_level logs forks (suc d) a b e f a_there b_there =
    let h = forked logs a forks a_there (omega arith) in
    let k = forked logs b forks b_there (omega arith) in
    let a_deep = deeper logs h.fork a h.number h.span h.lane in
    let b_deep = deeper logs k.fork b k.number k.span k.lane in
    at h k (at_level logs forks d h.fork k.fork (omega arith) (omega arith)
    (there logs h.fork Region (is_region logs h.fork h.number h.span a.path h.lane)) (there logs k.fork Region (is_region logs k.fork k.number k.span b.path k.lane)))
  where
    at : (h : Forked logs a) (k : Forked logs b) → (h.fork ≡ k.fork) ⊎ Part logs h.fork k.fork → (a ≡ b) ⊎ Part logs a b
    at h k (inl same) = in_lanes logs h.fork a b h.number k.number h.span k.span h.lane (subst (λ (w : Node). IsLane logs w k.number k.span b.path) (sym same) k.lane)
    at h k (inr p) = inr (lower logs h.fork k.fork a b (under_fork logs h.fork a h.number h.span h.lane) (under_fork logs k.fork b k.number k.span k.lane) p)

-- any two records
data Placed (logs : Logs) (x y : Node) : Type 0 where
  above : IsAbove logs x y → Placed logs x y
  under : IsAbove logs y x → Placed logs x y
  part : Part logs x y → Placed logs x y

placed : (logs : Logs) (x y : Node) → AreForked logs → IsThere logs x → IsThere logs y → Placed logs x y
placed logs x y forks x_there y_there = at (either (length x.path) (length y.path))
  where
    either : (i j : ℕ) → ((k : ℕ) × (j ≡ i + k)) ⊎ ((k : ℕ) × (i ≡ j + k))
    either zero j = inl (j, omega arith)
    either (suc i) zero = inr (suc i, omega arith)
    either (suc i) (suc j) = one (either i j)
      where
        one : ((k : ℕ) × (j ≡ i + k)) ⊎ ((k : ℕ) × (i ≡ j + k)) → ((k : ℕ) × (suc j ≡ suc i + k)) ⊎ ((k : ℕ) × (suc i ≡ suc j + k))
        one (inl w) = let e = w.1 in inl (w.0, omega arith)
        one (inr w) = let e = w.1 in inr (w.0, omega arith)

    at : ((k : ℕ) × (length y.path ≡ length x.path + k)) ⊎ ((k : ℕ) × (length x.path ≡ length y.path + k)) → Placed logs x y
    at (inl w) = by (level logs forks w.0 y (length x.path) w.1 y_there)
      where
        by : Level logs y (length x.path) → Placed logs x y
        by l = so (at_level logs forks (length x.path) x l.above refl l.deep x_there l.here)
          where
            so : (x ≡ l.above) ⊎ Part logs x l.above → Placed logs x y
            so (inl e) = Placed.above (subst (λ (v : Node). IsAbove logs v y) (sym e) l.part)
            so (inr p) = Placed.part (lower logs x l.above x y (IsAbove.itself x) l.part p)
    at (inr w) = by (level logs forks w.0 x (length y.path) w.1 x_there)
      where
        by : Level logs x (length y.path) → Placed logs x y
        by l = so (at_level logs forks (length y.path) l.above y l.deep refl l.here y_there)
          where
            so : (l.above ≡ y) ⊎ Part logs l.above y → Placed logs x y
            so (inl e) = Placed.under (subst (λ (v : Node). IsAbove logs v x) e l.part)
            so (inr p) = Placed.part (lower logs l.above y x y l.part (IsAbove.itself y) p)

-- unordered records are in two lanes, between the same barriers
pub unordered_between : (logs : Logs) (x y : Node) → IsForkJoin logs → IsThere logs x → IsThere logs y → IsUnordered logs x y → AreBetweenBarriers logs x y
unordered_between logs x y tree x_there y_there u = at (placed logs x y tree.tasks.forked x_there y_there)
  where
    before : IsCountedBefore logs x y → ⊥
    before c = u.not_before (counted_happens_before logs tree x y x_there y_there c)

    after : IsCountedBefore logs y x → ⊥
    after c = u.not_after (counted_happens_before logs tree y x y_there x_there c)

    by : (t : StandInTeam logs x y) → (t.my_lane ≡ t.your_lane → ⊥)
        → (barriers_before logs t.mine < barriers_before logs t.yours) ⊎ (barriers_before logs t.yours < barriers_before logs t.mine) ⊎ (barriers_before logs t.mine ≡ barriers_before logs t.yours)
        → AreBetweenBarriers logs x y
    by t apart (inl less) = absurd (before (IsCountedBefore.in_team (record { team = t; fewer = less })))
    by t apart (inr (inl more)) = absurd (after (IsCountedBefore.in_team (record { team = turned logs x y t; fewer = more })))
    by t apart (inr (inr same)) = record { team = t; two_lanes = apart; as_many = same }

    at : Placed logs x y → AreBetweenBarriers logs x y
    at (Placed.above up) = absurd (before (IsCountedBefore.above up))
    at (Placed.under up) = absurd (after (IsCountedBefore.above up))
    at (Placed.part (Part.earlier t)) = absurd (before (IsCountedBefore.in_task t))
    at (Placed.part (Part.later t)) = absurd (after (IsCountedBefore.in_task t))
    at (Placed.part (Part.team t apart)) = by t apart (compare (barriers_before logs t.mine) (barriers_before logs t.yours))
