use Rattle.std.proofs.Common.{◌≡◌, subst, ℤ, List, None, w64, to_z, of_z}
use Rattle.std.specs.Prelude.{MatchOption}
use Rattle.std.proofs.lemmas.Int.{to_z-of_z}
use Rattle.kernel_syntax.specs.declared.syntax.Array.{Array}
use Rattle.kernel_syntax.specs.Layout.{elements}
use Rattle.kernel_model.specs.Value.{Site, element_at}
use Rattle.task_place.specs.Placing.{IsElement}
use Rattle.task_place.proofs.place.TaskPlace.element.Goals as goal

pub element_in-requires : goal.element_in-requires
element_in-requires c = record { words = elements c.self.inside.arrays.now; placed = c.self.invariant.placed }

pub returns : goal.returns
returns c =
    let Found : List Array → ℤ → Type 0 = λ arrays z. MatchOption c.element_in.result (element_at arrays c.args.array z ≡ None) (IsElement arrays (elements arrays) (element_at arrays c.args.array z)) in
    subst (λ (z : ℤ). Found c.args.self.now.arrays z) (to_z-of_z w64 c.args.index c.ranges.index)
    (subst (λ (at : Site). Found at.arrays (to_z w64 (of_z w64 c.args.index))) c.self.view_is (c.element_in.ensures (elements c.self.inside.arrays.now) c.self.invariant.placed))
