use Rattle.std.proofs.Common.{map}
use Rattle.region_runner.specs.Plan.{Did, IsParted, MayDo, StandsAt, LeavesOff, plan_of, team_of_plan}
use Rattle.region_runner.proofs.going.go_through.Given as goal

abbrev pub ghosts-go_by_plan : goal.ghosts-go_by_plan
ghosts-go_by_plan g a = record {
  may = MayDo (plan_of a.plan.now.ground.now a.plan.now.depth a.plan.now.crew.now a.plan.now.phases.now a.plan.now.end);
  did = Did (plan_of a.plan.now.ground.now a.plan.now.depth a.plan.now.crew.now a.plan.now.phases.now a.plan.now.end);
  stands = StandsAt (team_of_plan (plan_of a.plan.now.ground.now a.plan.now.depth a.plan.now.crew.now a.plan.now.phases.now a.plan.now.end) a.hand (map g.M.Viewed.seen a.lanes.items));
  parted = IsParted (team_of_plan (plan_of a.plan.now.ground.now a.plan.now.depth a.plan.now.crew.now a.plan.now.phases.now a.plan.now.end) a.hand (map g.M.Viewed.seen a.lanes.items));
  stopped = LeavesOff (team_of_plan (plan_of a.plan.now.ground.now a.plan.now.depth a.plan.now.crew.now a.plan.now.phases.now a.plan.now.end) a.hand (map g.M.Viewed.seen a.lanes.items));
}
