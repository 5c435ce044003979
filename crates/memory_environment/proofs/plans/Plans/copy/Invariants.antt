use Rattle.std.proofs.Common.{◌≡◌, map, take}
use Rattle.memory_environment.specs.Plans.{plan_by, plans_by}
use Rattle.memory_environment.proofs.plans.Plans.copy.Given as goal

abbrev pub invariant-loop-plan : goal.invariant-loop-plan
invariant-loop-plan l = plans_by l.copied ≡ map plan_by (take l.plan-index l.plan-items)
