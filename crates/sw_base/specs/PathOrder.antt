-- The order of paths is a total order, and paths that it takes for equal are equal.
use Rattle.std.specs.Cmp.{IsTotalOrder, IsEquivalence, eq_by_cmp_equiv, nat_cmp_total, on_total, then_total}
use Rattle.std.specs.Cmp.Lexicographic.{lists_total}
use Rattle.std.specs.Ordering.{eq_by_cmp}
use Rattle.sw_base.specs.Names.{path_cmp, step_cmp}
use Rattle.sw_base.specs.declared.path.Step.{Step}

-- steps are in a total order
pub step_cmp_total : IsTotalOrder step_cmp
step_cmp_total = then_total (on_total (λ (s : Step). s.region) nat_cmp_total) (then_total (on_total (λ (s : Step). s.lane) nat_cmp_total) (on_total (λ (s : Step). s.span) nat_cmp_total))

-- paths are in a total order
pub path_cmp_total : IsTotalOrder path_cmp
path_cmp_total = lists_total step_cmp_total

-- to compare equal is an equivalence
pub path_eq_equivalence : IsEquivalence (eq_by_cmp path_cmp)
path_eq_equivalence = eq_by_cmp_equiv path_cmp_total
