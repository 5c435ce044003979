use Rattle.std.proofs.Common.{◌≡◌, ◌↔◌, ℕ, Contains, List, [], inl, inr, rules, subst, sym}
use Rattle.pair_compare.specs.Conflict.{OneHas}
use Rattle.pair_compare.specs.Groups.{IsGroupPair}
use Rattle.pair_compare.specs.Work.{IsTaskPair}
use Rattle.pair_compare.specs.declared.group.Group.{Group}
use Rattle.pair_compare.specs.declared.task.Task.{Task}
use Rattle.pair_compare.proofs.Adds.{not_in_nothing}
use Rattle.pair_compare.proofs.alone.compare_alone.Goals as goal

pub returns : goal.returns
returns c = λ pair.
    let parted = c.in_ok-parted.ensures pair in
    let same = subst (λ (gs : List Group). OneHas IsGroupPair c.in_ok-measured.measured.items pair ↔ OneHas IsGroupPair gs pair) c.deref.ensures.value (c.in_ok-measured.ensures pair) in
    let of_tasks = subst (λ (gs : List Group). OneHas IsTaskPair c.in_ok-tasks.tasks.items pair ↔ OneHas IsGroupPair gs pair) c.deref-2.ensures.value (c.in_ok-tasks.ensures pair) in
    let none : c.new-pairs.result.keys ≡ [] = search rules in
    let adds = c.in_ok-search_tasks.ensures in (
      λ h. elim (adds.only pair h) [
        | inl was ↦ absurd (not_in_nothing pair (subst (λ (keys : List (ℕ × ℕ)). Contains keys pair) none was))
        | inr p ↦ parted.0 (same.0 (of_tasks.0 (subst (λ (ts : List Task). OneHas IsTaskPair ts pair) c.deref-3.ensures.value p)))
      ],
      λ p. adds.added pair (subst (λ (ts : List Task). OneHas IsTaskPair ts pair) (sym c.deref-3.ensures.value) (of_tasks.1 (same.1 (parted.1 p)))),
    )
