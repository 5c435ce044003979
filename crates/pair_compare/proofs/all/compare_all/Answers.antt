use Rattle.std.proofs.Common.{List, Contains, subst}
use Rattle.pair_compare.specs.Conflict.{OneHas}
use Rattle.pair_compare.specs.Groups.{IsGroupPair}
use Rattle.pair_compare.specs.Work.{IsTaskPair}
use Rattle.pair_compare.specs.declared.group.Group.{Group}
use Rattle.pair_compare.specs.declared.task.Task.{Task}
use Rattle.pair_compare.proofs.Members.{IfOk-two}
use Rattle.pair_compare.proofs.all.compare_all.Goals as goal

pub returns : goal.returns
returns g c = IfOk-two c.search_all.result _ _ _ (λ pairs found ascending. record {
  ascending = ascending;
  each = λ pair.
      let of_groups = c.in_ok-groups.ensures pair in
      let of_tasks = subst (λ (gs : List Group). (OneHas IsTaskPair c.in_ok-tasks.tasks.items pair → OneHas IsGroupPair gs pair) × (OneHas IsGroupPair gs pair → OneHas IsTaskPair c.in_ok-tasks.tasks.items pair)) c.deref.ensures.value (c.in_ok-tasks.ensures pair) in
      let of_all = subst (λ (ts : List Task). (Contains pairs.keys pair → OneHas IsTaskPair ts pair) × (OneHas IsTaskPair ts pair → Contains pairs.keys pair)) c.deref-2.ensures.value (found pair) in
      (λ h. of_groups.0 (of_tasks.0 (of_all.0 h)), λ h. of_all.1 (of_tasks.1 (of_groups.1 h)));
}) c.search_all.ensures.found c.search_all.ensures.ascending
