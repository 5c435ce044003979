use Rattle.run_cases.proofs.NestedStop.{later_ends, later_lane, stopped}
use Rattle.run_cases.proofs.nested.a_nested_lane_stops.Goals as goal

pub returns-clause-first : goal.returns-clause-first
returns-clause-first c = stopped

pub returns-clause-other : goal.returns-clause-other
returns-clause-other c = later_ends

pub returns-clause-later : goal.returns-clause-later
returns-clause-later c = later_lane
