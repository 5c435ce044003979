-- Which calls are to fail on the logs that a folder in memory makes.
use Rattle.std.specs.Prelude.{ℕ, ◌↔◌, List, map, Contains}
use Rattle.memory_environment.specs.declared.plans.LogPlan.{LogPlan}
use Rattle.memory_environment.specs.declared.plans.Plans.{Plans}
use Rattle.sw_base.specs.declared.path.Step.{Step}

-- a task, and the numbers of the calls on its log that are to fail
abbrev pub Plan : Type 0
Plan = List Step × List ℕ

abbrev pub plan_by : LogPlan → Plan
plan_by plan = (plan.path, plan.calls.items)

-- the plans, in the order in which they were made
abbrev pub plans_by : Plans → List Plan
plans_by plans = map plan_by plans.plans.items

-- this call on the log of this task is to fail
pub record IsPlanned (plans : List Plan) (path : List Step) (call : ℕ) : Type 0 where
  pub calls : List ℕ
  pub planned : Contains plans (path, calls)
  pub among : Contains calls call

-- of the calls on the log of this task just those fail that are planned for it
pub record FailsAsPlanned (plans : List Plan) (path : List Step) (failing : List ℕ) : Type 0 where
  pub just : (call : ℕ) → Contains failing call ↔ IsPlanned plans path call
