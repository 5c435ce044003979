-- The records above a record: one for each level of nesting, and in one order.
use Rattle.std.proofs.Common.{◌≡◌, ◌⊎◌, ℕ, ◌+◌, ◌<◌, ◌≤◌, List, length, refl, sym, ap, subst, arith, ◌∙◌, inl, inr}
use Rattle.std.proofs.lemmas.List.{length_push}
use Rattle.sw_base.specs.declared.path.Step.{Step}
use Rattle.race_model.specs.Trace.{Logs, Node}
use Rattle.race_model.specs.Order.{IsLane}
use Rattle.race_laws.proofs.LabelPlace.{same_fork}
use Rattle.counted_order.specs.Counting.{IsAbove}

pub above_trans : (logs : Logs) (a b x : Node) → IsAbove logs a b → IsAbove logs b x → IsAbove logs a x
above_trans logs a _ _ up (IsAbove.itself b) = up
above_trans logs a _ _ up (IsAbove.lane b fork x n s lane rest) = IsAbove.lane a fork x n s lane (above_trans logs a b fork up rest)

-- above the region of this record's lane
pub record HangsFrom (logs : Logs) (above x : Node) : Type 0 where
  pub fork : Node
  pub number : ℕ
  pub span : ℕ
  pub lane : IsLane logs fork number span x.path
  pub part : IsAbove logs above fork

pub split : (logs : Logs) (a x : Node) → IsAbove logs a x → (a ≡ x) ⊎ HangsFrom logs a x
split logs _ _ (IsAbove.itself x) = inl refl
split logs _ _ (IsAbove.lane a fork x n s lane up) = inr (record { fork = fork; number = n; span = s; lane = lane; part = up })

-- what is above a record and not the record itself is above the region of its lane
pub above_fork : (logs : Logs) (a x fork : Node) (n s : ℕ) → IsLane logs fork n s x.path → HangsFrom logs a x → IsAbove logs a fork
above_fork logs a x fork n s lane h =
    subst (λ (f : Node). IsAbove logs a f) (same_fork logs h.fork fork h.number n h.span s x.path x.path h.lane lane refl) h.part

-- another record of the same lane hangs there too
pub beside : (logs : Logs) (fork x y : Node) (n s : ℕ) → IsLane logs fork n s x.path → x.path ≡ y.path → IsLane logs fork n s y.path
beside logs fork x y n s lane same = subst (λ (p : List Step). IsLane logs fork n s p) same lane

pub under_fork : (logs : Logs) (fork x : Node) (n s : ℕ) → IsLane logs fork n s x.path → IsAbove logs fork x
under_fork logs fork x n s lane = IsAbove.lane fork fork x n s lane (IsAbove.itself fork)

-- two records above one are in order
pub linear : (logs : Logs) (a c x : Node) → IsAbove logs a x → IsAbove logs c x → IsAbove logs a c ⊎ HangsFrom logs c a
linear logs _ c _ (IsAbove.itself x) up = at (split logs c x up)
  where
    at : (c ≡ x) ⊎ HangsFrom logs c x → IsAbove logs x c ⊎ HangsFrom logs c x
    at (inl e) = inl (subst (λ (z : Node). IsAbove logs x z) (sym e) (IsAbove.itself x))
    at (inr h) = inr h
linear logs a c _ (IsAbove.lane a1 fork x n s lane rest) up = at (split logs c x up) (linear logs a c fork rest)
  where
    at : (c ≡ x) ⊎ HangsFrom logs c x → (IsAbove logs c fork → IsAbove logs a c ⊎ HangsFrom logs c a) → IsAbove logs a c ⊎ HangsFrom logs c a
    at (inl e) rec = inl (subst (λ (z : Node). IsAbove logs a z) (sym e) (IsAbove.lane a fork x n s lane rest))
    at (inr h) rec = rec (above_fork logs c x fork n s lane h)

-- a lane's path is longer by a step
pub deeper : (logs : Logs) (fork x : Node) (n s : ℕ) → IsLane logs fork n s x.path → length x.path ≡ length fork.path + 1
deeper logs fork x n s lane = ap length lane.child ∙ length_push fork.path _

pub above_shorter : (logs : Logs) (a x : Node) → IsAbove logs a x → length a.path ≤ length x.path
above_shorter logs _ _ (IsAbove.itself x) = omega arith
above_shorter logs _ _ (IsAbove.lane a fork x n s lane up) =
    let less = above_shorter logs a fork up in
    let more = deeper logs fork x n s lane in
    omega arith

pub hangs_shorter : (logs : Logs) (a x : Node) → HangsFrom logs a x → length a.path < length x.path
hangs_shorter logs a x h =
    let less = above_shorter logs a h.fork h.part in
    let more = deeper logs h.fork x h.number h.span h.lane in
    omega arith

-- so there is one at each level
pub same_level : (logs : Logs) (a c x : Node) → IsAbove logs a x → IsAbove logs c x → length a.path ≡ length c.path → a ≡ c
same_level logs a c x a_x c_x e = at (linear logs a c x a_x c_x)
  where
    equal : (a ≡ c) ⊎ HangsFrom logs a c → a ≡ c
    equal (inl same) = same
    equal (inr h) = absurd (let less = hangs_shorter logs a c h in omega arith)

    at : IsAbove logs a c ⊎ HangsFrom logs c a → a ≡ c
    at (inl up) = equal (split logs a c up)
    at (inr h) = absurd (let less = hangs_shorter logs c a h in omega arith)
