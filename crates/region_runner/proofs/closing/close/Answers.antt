use Rattle.std.proofs.Common.{ap, ◌∙◌}
use Rattle.lane_runner.specs.Going.{Progress}
use Rattle.region_runner.proofs.ClosedLogs.{closed_ok, closed_err, none_refused}
use Rattle.region_runner.proofs.closing.close.Goals as goal

pub returns-in-Ok-clause-closed : goal.returns-in-Ok-clause-closed
returns-in-Ok-clause-closed g c =
    closed_ok _ c.args.lane.path c.args.lane.buffer c.into_parts-hand.result.1 (c.into_parts-hand.ensures.buffer ∙ ap (λ (p : Progress). p.buffer) c.into_parts-path.ensures.track) c.into_parts-path.ensures.path c.in-Ok.ensures.dir c.in-Ok.ensures.tells
    c.count-records.ensures.count c.in-Ok.ensures.closed (λ trouble told. none_refused c.close.result c.in-Ok.log c.in-Ok.is (c.close.ensures.again trouble told).0) c.in-Ok.ensures.no_fault

pub returns-clause-closed : goal.returns-clause-closed
returns-clause-closed g c =
    closed_err _ c.args.lane.path c.args.lane.buffer c.into_parts-hand.result.1 c.in-Err.trouble (c.into_parts-hand.ensures.buffer ∙ ap (λ (p : Progress). p.buffer) c.into_parts-path.ensures.track) c.into_parts-path.ensures.path c.in-Err.ensures.given_back
    c.in-Err.ensures.error_tells c.count-records.ensures.count c.in-Err.ensures.prefix c.in-Err.ensures.fault (λ other told. (c.in-Err.ensures.again other told).1.0)
