use Rattle.std.proofs.Common.{◌≡◌, None, arith, subst, sym}
use Rattle.lane_runner.specs.Lane.{LaneValue}
use Rattle.region_runner.proofs.TeamLoop.{all_more}
use Rattle.region_runner.proofs.handing.all_go.Goals as goal

pub loop-lane-preserved : goal.loop-lane-preserved
loop-lane-preserved g c = record {
  so_far = all_more c.args.lanes.now c.loop-lane.lane-index c.lane-item.result (omega (arith, c.loop-lane-test.true)) c.lane-item.is c.loop-lane.invariant.so_far (c.goes.ensures.goes c.if-not-goes.false);
}

pub returns-then-not-goes-clause-some : goal.returns-then-not-goes-clause-some
returns-then-not-goes-clause-some g c = λ _ all. c.goes.ensures.halted c.if-not-goes.true (subst (λ (m : LaneValue). m.stopped ≡ None) (sym c.lane-item.is) (all c.loop-lane.lane-index c.lane-item.result (omega (arith, c.loop-lane-test.true))))
