use Rattle.std.proofs.Common.{map}
use Rattle.region_runner.specs.Plan.{plan_of, team_of_plan}
use Rattle.region_runner.proofs.Meetings.{ran_so}
use Rattle.region_runner.proofs.going.go_through.Goals as goal

pub returns-clause-ran : goal.returns-clause-ran
returns-clause-ran g c =
    ran_so g.M.Viewed.seen (team_of_plan (plan_of c.args.ground.now c.args.depth c.args.crew.now c.args.phases.now c.args.end) c.args.hand (map g.M.Viewed.seen c.args.lanes.items)) c.go_by_plan-home.result.0 c.go_by_plan-home.result.1.items c.go_by_plan-home.result.2
    c.go_by_plan-home.ensures.ran

pub go_by_plan-home-requires-clause-started : goal.go_by_plan-home-requires-clause-started
go_by_plan-home-requires-clause-started g c κs within = record { at = λ lane. record { shared = c.requires.gate_shared.shared } }

pub go_by_plan-home-requires-clause-builder : goal.go_by_plan-home-requires-clause-builder
go_by_plan-home-requires-clause-builder g c κs within = record { at = λ lane. record { shared = c.requires.gate_shared.shared } }
