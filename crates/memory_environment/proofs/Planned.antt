-- The calls that are planned to fail on a log, one plan after another.
use Rattle.std.proofs.Common.{◌≡◌, ◌≢◌, refl, ap, sym, subst, ◌∙◌, ℕ, ◌⊎◌, inl, inr, ◌<◌, ◌+◌, List, [], ◌∷◌, ◌++◌, length, map, take, get_or, arith}
use Rattle.std.specs.Prelude.{Contains}
use Rattle.std.proofs.lemmas.List.{take_more, map-append}
use Rattle.std.proofs.lemmas.List.Elements.{Contains-append_left, Contains-append_right, Contains-append_cases, Contains-push, Contains-push_cases}
use Rattle.memory_environment.specs.declared.plans.LogPlan.{LogPlan}
use Rattle.sw_base.specs.declared.path.Step.{Step}
use Rattle.memory_environment.specs.Plans.{Plan, IsPlanned, FailsAsPlanned, plan_by}

pub planned_none : (path : List Step) → FailsAsPlanned [] path []
planned_none path = record { just = λ call. (λ h. absurd (grind arith), λ p. absurd (grind arith)) }

-- without plans no call fails
pub none_planned : (path : List Step) (failing : List ℕ) → FailsAsPlanned [] path failing → failing ≡ []
none_planned path [] h = refl
none_planned path (call ∷ rest) h = absurd (grind (arith, (h.just call).0 (0, omega arith, refl)))

-- a plan for this task adds its calls
pub planned_more : (plans : List Plan) (path : List Step) (calls failing : List ℕ)
    → FailsAsPlanned plans path failing → FailsAsPlanned (plans ++ (path, calls) ∷ []) path (failing ++ calls)
planned_more plans path calls failing before = record { just = λ call. (to call, from call) } where
  added : Plan
  added = (path, calls)

  to : (call : ℕ) → Contains (failing ++ calls) call → IsPlanned (plans ++ added ∷ []) path call
  to call h = at (Contains-append_cases failing calls call h) where
    at : Contains failing call ⊎ Contains calls call → IsPlanned (plans ++ added ∷ []) path call
    at (inl f) = let p : IsPlanned plans path call = (before.just call).0 f in
        record { calls = p.calls; planned = Contains-append_left plans (added ∷ []) (path, p.calls) p.planned; among = p.among }
    at (inr c) = record { calls = calls; planned = Contains-push plans added; among = c }

  from : (call : ℕ) → IsPlanned (plans ++ added ∷ []) path call → Contains (failing ++ calls) call
  from call p = at (Contains-push_cases plans added (path, p.calls) p.planned) where
    at : Contains plans (path, p.calls) ⊎ (added ≡ (path, p.calls)) → Contains (failing ++ calls) call
    at (inl c) = Contains-append_left failing calls call ((before.just call).1 (record { calls = p.calls; planned = c; among = p.among }))
    at (inr e) = Contains-append_right failing calls call (subst (λ (cs : List ℕ). Contains cs call) (sym (ap (λ (q : Plan). q.1) e)) p.among)

-- a plan for another task changes nothing
pub planned_other : (plans : List Plan) (other path : List Step) (calls failing : List ℕ) → other ≢ path
    → FailsAsPlanned plans path failing → FailsAsPlanned (plans ++ (other, calls) ∷ []) path failing
planned_other plans other path calls failing differs before = record { just = λ call. (to call, from call) } where
  added : Plan
  added = (other, calls)

  to : (call : ℕ) → Contains failing call → IsPlanned (plans ++ added ∷ []) path call
  to call f = let p : IsPlanned plans path call = (before.just call).0 f in
      record { calls = p.calls; planned = Contains-append_left plans (added ∷ []) (path, p.calls) p.planned; among = p.among }

  from : (call : ℕ) → IsPlanned (plans ++ added ∷ []) path call → Contains failing call
  from call p = at (Contains-push_cases plans added (path, p.calls) p.planned) where
    at : Contains plans (path, p.calls) ⊎ (added ≡ (path, p.calls)) → Contains failing call
    at (inl c) = (before.just call).1 (record { calls = p.calls; planned = c; among = p.among })
    at (inr e) = absurd (differs (ap (λ (q : Plan). q.0) e))

-- the same of a list's next plan
grown : (plans : List LogPlan) (k : ℕ) (plan : LogPlan) → k < length plans → plan ≡ get_or plans k plan
    → map plan_by (take (k + 1) plans) ≡ map plan_by (take k plans) ++ plan_by plan ∷ []
grown plans k plan within is =
    ap (λ (ps : List LogPlan). map plan_by ps) (take_more plans k plan within ∙ ap (λ (p : LogPlan). take k plans ++ p ∷ []) (sym is))
    ∙ map-append plan_by (take k plans) (plan ∷ [])

pub planned_next : (plans : List LogPlan) (k : ℕ) (plan : LogPlan) (path : List Step) (failing : List ℕ) → k < length plans → plan ≡ get_or plans k plan
    → plan.path ≡ path → FailsAsPlanned (map plan_by (take k plans)) path failing
    → FailsAsPlanned (map plan_by (take (k + 1) plans)) path (failing ++ plan.calls.items)
planned_next plans k plan path failing within is same before =
    subst (λ (ps : List Plan). FailsAsPlanned ps path (failing ++ plan.calls.items)) (sym (grown plans k plan within is))
    (subst (λ (p : List Step). FailsAsPlanned (map plan_by (take k plans) ++ (p, plan.calls.items) ∷ []) path (failing ++ plan.calls.items)) (sym same)
    (planned_more (map plan_by (take k plans)) path plan.calls.items failing before))

pub planned_skip : (plans : List LogPlan) (k : ℕ) (plan : LogPlan) (path : List Step) (failing : List ℕ) → k < length plans → plan ≡ get_or plans k plan
    → plan.path ≢ path → FailsAsPlanned (map plan_by (take k plans)) path failing
    → FailsAsPlanned (map plan_by (take (k + 1) plans)) path failing
planned_skip plans k plan path failing within is differs before =
    subst (λ (ps : List Plan). FailsAsPlanned ps path failing) (sym (grown plans k plan within is))
    (planned_other (map plan_by (take k plans)) plan.path path plan.calls.items failing differs before)
