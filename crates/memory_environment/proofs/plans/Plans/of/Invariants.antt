use Rattle.std.proofs.Common.{map, take}
use Rattle.memory_environment.specs.Plans.{FailsAsPlanned, plan_by}
use Rattle.memory_environment.proofs.plans.Plans.of.Given as goal

abbrev pub invariant-loop-plan : goal.invariant-loop-plan
invariant-loop-plan l = FailsAsPlanned (map plan_by (take l.plan-index l.plan-items)) l.path l.calls.items
