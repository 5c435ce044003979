-- What happens before is counted before: by the edges, from the last to the first.
use Rattle.std.proofs.Common.{◌≡◌, ◌⊎◌, ℕ, ◌<◌, ◌≤◌, refl, sym, ap, subst, arith, ◌∙◌, inl, inr}
use Rattle.race_model.specs.Trace.{Logs, Node, barriers_before}
use Rattle.race_model.specs.Order.{IsLane, Edge, HappensBefore}
use Rattle.race_laws.proofs.Counts.{barriers_up, barriers_after}
use Rattle.race_laws.proofs.LabelPlace.{same_fork, same_lane_from_path}
use Rattle.counted_order.specs.Counting.{IsAbove, IsEarlierInTask, StandInTeam, HasFewerBarriers, IsCountedBefore}
use Rattle.counted_order.proofs.Above.{above_trans, HangsFrom, split, above_fork, beside, under_fork}

-- an edge leads into a lane from its region, on in a task from what hangs at an earlier record, or over a barrier
data IsDirect (logs : Logs) (x y : Node) : Type 0 where
  down : (number span : ℕ) → IsLane logs x number span y.path → IsDirect logs x y
  on : (above : Node) → IsAbove logs above x → above.path ≡ y.path → above.index < y.index → IsDirect logs x y
  over : (fork : Node) (lane other span : ℕ) → IsLane logs fork lane span x.path → IsLane logs fork other span y.path
      → barriers_before logs x < barriers_before logs y → IsDirect logs x y

direct : (logs : Logs) (x y : Node) → Edge logs x y → IsDirect logs x y
direct logs x y (Edge.next e) = IsDirect.on x (IsAbove.itself x) (sym e.same_log) (let next = e.after in omega arith)
direct logs x y (Edge.fork e) = IsDirect.down e.lane e.span e.forked
direct logs x y (Edge.join e) =
    let next = e.after in
    let place = next.after in
    IsDirect.on e.fork (under_fork logs e.fork x e.lane e.span e.forked) (sym next.same_log) (omega arith)
direct logs x y (Edge.barrier e) =
    let next = e.after in
    let place = next.after in
    let met = e.met in
    let passed : barriers_before logs met < barriers_before logs y = barriers_after logs met y e.meets (sym next.same_log) (omega arith) in
    let same : barriers_before logs x ≡ barriers_before logs met = e.same_number in
    IsDirect.over e.fork e.from_lane e.to_lane e.span e.from_team (beside logs e.fork met y e.to_lane e.span e.to_team (sym next.same_log)) (omega arith)

module _ (logs : Logs) (x y z : Node) where
  -- what is above y, but not y, is above x
  strictly : (c : Node) → IsDirect logs x y → HangsFrom logs c y → IsAbove logs c x
  strictly c (IsDirect.down n s lane) h = above_fork logs c y x n s lane h
  strictly c (IsDirect.on a up same less) h =
      above_trans logs c a x (IsAbove.lane c h.fork a h.number h.span (beside logs h.fork y a h.number h.span h.lane (sym same)) h.part) up
  strictly c (IsDirect.over fork n m s mine yours less) h = IsAbove.lane c fork x n s mine (above_fork logs c y fork m s yours h)

  -- y is above z
  then_above : IsDirect logs x y → IsAbove logs y z → IsCountedBefore logs x z
  then_above (IsDirect.down n s lane) up = IsCountedBefore.above (above_trans logs x y z (under_fork logs x y n s lane) up)
  then_above (IsDirect.on a a_x same less) up = IsCountedBefore.in_task (record { mine = a; yours = y; my_part = a_x; your_part = up; same_log = same; earlier = less })
  then_above (IsDirect.over fork n m s mine yours less) up = IsCountedBefore.in_team (record {
    team = record {
      fork = fork;
      span = s;
      my_lane = n;
      your_lane = m;
      mine = x;
      yours = y;
      my_part = IsAbove.itself x;
      your_part = up;
      my_team = mine;
      your_team = yours;
    };
    fewer = less;
  })

  -- y comes before d in its own task
  task_here : (d : Node) → IsAbove logs d z → y.path ≡ d.path → y.index < d.index → IsDirect logs x y → IsCountedBefore logs x z
  task_here d d_z same later (IsDirect.down n s lane) =
      IsCountedBefore.above (above_trans logs x d z (under_fork logs x d n s (beside logs x y d n s lane same)) d_z)
  task_here d d_z same later (IsDirect.on a a_x path less) =
      IsCountedBefore.in_task (record { mine = a; yours = d; my_part = a_x; your_part = d_z; same_log = path ∙ same; earlier = omega arith })
  task_here d d_z same later (IsDirect.over fork n m s mine yours less) =
      let up : barriers_before logs y ≤ barriers_before logs d = barriers_up logs y d same (omega arith) in
      IsCountedBefore.in_team (record {
        team = record {
          fork = fork;
          span = s;
          my_lane = n;
          your_lane = m;
          mine = x;
          yours = d;
          my_part = IsAbove.itself x;
          your_part = d_z;
          my_team = mine;
          your_team = beside logs fork y d m s yours same;
        };
        fewer = omega arith;
      })

  then_task : IsEarlierInTask logs y z → IsDirect logs x y → IsCountedBefore logs x z
  then_task t first = at (split logs t.mine y t.my_part)
    where
      at : (t.mine ≡ y) ⊎ HangsFrom logs t.mine y → IsCountedBefore logs x z
      at (inl e) = task_here t.yours t.your_part (sym (ap (λ (w : Node). w.path) e) ∙ t.same_log)
          (subst (λ (w : Node). w.index < t.yours.index) e t.earlier) first
      at (inr h) = IsCountedBefore.in_task (record {
        mine = t.mine;
        yours = t.yours;
        my_part = strictly t.mine first h;
        your_part = t.your_part;
        same_log = t.same_log;
        earlier = t.earlier;
      })

  -- y is in a lane of the team of d, and passed fewer barriers
  team_here : (fork d : Node) (n m s : ℕ) → IsLane logs fork n s y.path → IsLane logs fork m s d.path → IsAbove logs d z
      → barriers_before logs y < barriers_before logs d → IsDirect logs x y → IsCountedBefore logs x z
  team_here fork d n m s mine yours d_z fewer (IsDirect.down k r lane) =
      let same : x ≡ fork = same_fork logs x fork k n r s y.path y.path lane mine refl in
      IsCountedBefore.above (above_trans logs x d z (under_fork logs x d m s (subst (λ (f : Node). IsLane logs f m s d.path) (sym same) yours)) d_z)
  team_here fork d n m s mine yours d_z fewer (IsDirect.on a a_x path less) =
      let up : barriers_before logs a ≤ barriers_before logs y = barriers_up logs a y path (omega arith) in
      IsCountedBefore.in_team (record {
        team = record {
          fork = fork;
          span = s;
          my_lane = n;
          your_lane = m;
          mine = a;
          yours = d;
          my_part = a_x;
          your_part = d_z;
          my_team = beside logs fork y a n s mine (sym path);
          your_team = yours;
        };
        fewer = omega arith;
      })
  team_here fork d n m s mine yours d_z fewer (IsDirect.over f k l r from to less) =
      let same : fork ≡ f = same_fork logs fork f n l s r y.path y.path mine to refl in
      let spans : s ≡ r = (same_lane_from_path logs fork f n l s r y.path y.path mine to refl).same_span in
      let other : IsLane logs f m r d.path = subst (λ (t : ℕ). IsLane logs f m t d.path) spans (subst (λ (g : Node). IsLane logs g m s d.path) same yours) in
      IsCountedBefore.in_team (record {
        team = record {
          fork = f;
          span = r;
          my_lane = k;
          your_lane = m;
          mine = x;
          yours = d;
          my_part = IsAbove.itself x;
          your_part = d_z;
          my_team = from;
          your_team = other;
        };
        fewer = omega arith;
      })

  then_team : HasFewerBarriers logs y z → IsDirect logs x y → IsCountedBefore logs x z
  then_team t first = at t.team t.fewer
    where
      at : (w : StandInTeam logs y z) → barriers_before logs w.mine < barriers_before logs w.yours → IsCountedBefore logs x z
      at w fewer = by (split logs w.mine y w.my_part)
        where
          by : (w.mine ≡ y) ⊎ HangsFrom logs w.mine y → IsCountedBefore logs x z
          by (inl e) = team_here w.fork w.yours w.my_lane w.your_lane w.span (subst (λ (v : Node). IsLane logs w.fork w.my_lane w.span v.path) e w.my_team) w.your_team w.your_part
              (subst (λ (v : Node). barriers_before logs v < barriers_before logs w.yours) e fewer) first
          by (inr h) = IsCountedBefore.in_team (record {
            team = record {
              fork = w.fork;
              span = w.span;
              my_lane = w.my_lane;
              your_lane = w.your_lane;
              mine = w.mine;
              yours = w.yours;
              my_part = strictly w.mine first h;
              your_part = w.your_part;
              my_team = w.my_team;
              your_team = w.your_team;
            };
            fewer = fewer;
          })

  then_counted : IsDirect logs x y → IsCountedBefore logs y z → IsCountedBefore logs x z
  then_counted first (IsCountedBefore.above up) = then_above first up
  then_counted first (IsCountedBefore.in_task t) = then_task t first
  then_counted first (IsCountedBefore.in_team t) = then_team t first

pub happens_before_counted : (logs : Logs) (x y : Node) → HappensBefore logs x y → IsCountedBefore logs x y
happens_before_counted logs _ _ (HappensBefore.here x) = IsCountedBefore.above (IsAbove.itself x)
happens_before_counted logs _ _ (HappensBefore.step x y z e rest) = then_counted logs x y z (direct logs x y e.edge) (happens_before_counted logs y z rest)
