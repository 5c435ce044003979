-- What is counted before happens before.
use Rattle.std.proofs.Common.{◌≡◌, ◌⊎◌, refl, sym, subst, inl, inr}
use Rattle.race_model.specs.Trace.{Logs, Node, IsThere}
use Rattle.race_model.specs.Order.{IsLane, HappensBefore}
use Rattle.race_model.specs.ForkJoin.{IsForkJoin}
use Rattle.race_laws.proofs.Chains.{tree_joined, IsBelow}
use Rattle.race_laws.proofs.Reaching.{Under, into, tree_level, task_before, team_before}
use Rattle.counted_order.specs.Counting.{IsAbove, IsCountedBefore}

pub under : (logs : Logs) (a x : Node) → IsAbove logs a x → Under logs a x
under logs _ _ (IsAbove.itself x) = inl refl
under logs _ _ (IsAbove.lane a fork x n s lane up) = inr (at (under logs a fork up))
  where
    at : (a ≡ fork) ⊎ IsBelow logs a fork.path → IsBelow logs a x.path
    at (inl e) = IsBelow.child n s x.path (subst (λ (f : Node). IsLane logs f n s x.path) (sym e) lane)
    at (inr deep) = IsBelow.deeper fork n s x.path lane deep

pub counted_happens_before : (logs : Logs) (tree : IsForkJoin logs) (x y : Node) → IsThere logs x → IsThere logs y → IsCountedBefore logs x y → HappensBefore logs x y
counted_happens_before logs tree x y x_there y_there (IsCountedBefore.above up) = into logs x y (under logs x y up) y_there
counted_happens_before logs tree x y x_there y_there (IsCountedBefore.in_task t) =
    task_before logs (tree_joined logs tree) t.mine t.yours x y (under logs t.mine x t.my_part) (under logs t.yours y t.your_part) x_there y_there t.same_log t.earlier
counted_happens_before logs tree x y x_there y_there (IsCountedBefore.in_team h) =
    let t = h.team in
    team_before logs (tree_joined logs tree) t.fork t.mine t.yours x y t.my_lane t.your_lane t.span (under logs t.mine x t.my_part) (under logs t.yours y t.your_part) t.my_team t.your_team h.fewer
    (tree_level logs tree t.fork t.yours t.my_lane t.your_lane t.span t.mine.path t.my_team t.your_team) x_there y_there
