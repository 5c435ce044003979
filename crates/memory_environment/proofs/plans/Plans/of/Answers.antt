use Rattle.std.proofs.Common.{◌<◌, length, rules}
use Rattle.memory_environment.proofs.Planned.{planned_next, planned_skip}
use Rattle.memory_environment.proofs.plans.Plans.of.Goals.{then-is_for+in_ok-extend_from_slice, else-is_for}
use Rattle.memory_environment.proofs.plans.Plans.of.Goals as goal

pub loop-plan-preserved : goal.loop-plan-preserved
loop-plan-preserved c =
    let within : c.loop-plan.plan-index < length c.deref-plan-items.result.now = search rules in
    elim c.if-is_for.branch [ then-is_for+in_ok-extend_from_slice w ↦ search (rules, within, planned_next) | else-is_for w ↦ search (rules, within, planned_skip) ]
