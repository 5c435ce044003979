-- Records are unordered where those that they answer to are.
use Rattle.race_model.specs.Trace.{Logs, Node, IsThere}
use Rattle.race_model.specs.Race.{IsUnordered}
use Rattle.race_model.specs.ForkJoin.{IsForkJoin}
use Rattle.counted_order.specs.Counting.{IsAbove, AreBetweenBarriers}
use Rattle.counted_order.proofs.Between.{between_unordered}
use Rattle.counted_order.proofs.Parted.{unordered_between}
use Rattle.writer_laws.specs.Carrying.{Carries}

module _ (Answers : Node → Node → Type 0) (logs others : Logs) (carries : Carries Answers logs others) where
  -- a record above one in the other run
  record HasAboveToo (v a : Node) : Type 0 where
    above : Node
    part : IsAbove others above v
    answers : Answers a above

  above_too : (a x v : Node) → IsAbove logs a x → Answers x v → HasAboveToo v a
  above_too _ _ v (IsAbove.itself x) answers = record { above = v; part = IsAbove.itself v; answers = answers }
  above_too _ _ v (IsAbove.lane a fork x n s lane up) answers =
      let l = carries.lanes x v fork n s answers lane in
      let r = above_too a fork l.region up l.answers in
      record { above = r.above; part = IsAbove.lane r.above l.region v n s l.lane r.part; answers = r.answers }

  between_too : (x y v w : Node) → Answers x v → Answers y w → AreBetweenBarriers logs x y → AreBetweenBarriers others v w
  between_too x y v w mine yours b =
      let a = above_too b.team.mine x v b.team.my_part mine in
      let c = above_too b.team.yours y w b.team.your_part yours in
      let t = carries.teams b.team.mine b.team.yours a.above c.above b.team.fork b.team.my_lane b.team.your_lane b.team.span a.answers c.answers b.team.my_team b.team.your_team b.as_many in
      record {
        team = record {
          fork = t.region;
          span = b.team.span;
          my_lane = b.team.my_lane;
          your_lane = b.team.your_lane;
          mine = a.above;
          yours = c.above;
          my_part = a.part;
          your_part = c.part;
          my_team = t.mine;
          your_team = t.yours;
        };
        two_lanes = b.two_lanes;
        as_many = t.as_many;
      }

  pub unordered_too : (x y v w : Node) → IsForkJoin logs → IsThere logs x → IsThere logs y → Answers x v → Answers y w → IsUnordered logs x y → IsUnordered others v w
  unordered_too x y v w tree x_there y_there mine yours u =
      between_unordered others v w (between_too x y v w mine yours (unordered_between logs x y tree x_there y_there u))
