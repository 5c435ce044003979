use Rattle.std.proofs.Common.{◌≡◌, subst, ℤ, List, Option, Some, None, w64, to_z, of_z}
use Rattle.std.specs.Prelude.{IfSome, MatchOption}
use Rattle.std.proofs.lemmas.Int.{to_z-of_z}
use Rattle.kernel_syntax.specs.declared.syntax.Array.{Array}
use Rattle.kernel_syntax.specs.Layout.{elements}
use Rattle.kernel_model.specs.Value.{Element as Meant, element_at}
use Rattle.task_place.specs.declared.place.Element.{Element}
use Rattle.task_place.specs.Placing.{IsElement, meant}
use Rattle.lane_runner.specs.World.{WorldValue, IsWorld}
use Rattle.lane_runner.specs.Placing.{StandsIn}
use Rattle.lane_runner.proofs.Elements.{stands_in}
use Rattle.lane_runner.proofs.world.World.element.Goals as goal

is_it : (arrays : List Array) (found : Option Meant) (result : Option Element) → MatchOption result (found ≡ None) (IsElement arrays (elements arrays) found)
    → MatchOption result (found ≡ None) (λ e. found ≡ Some (meant e))
is_it arrays found None none = none
is_it arrays found (Some e) element = element.is

stands : (w : WorldValue) (found : Option Meant) (result : Option Element) → IsWorld w → MatchOption result (found ≡ None) (IsElement w.arrays (elements w.arrays) found) → IfSome result (StandsIn w)
stands w found None world none = tt
stands w found (Some e) world element = stands_in w world element

pub returns-clause-is : goal.returns-clause-is
returns-clause-is c =
    let Is : WorldValue → ℤ → Type 0 = λ w z. MatchOption c.element.result (element_at w.arrays c.args.array z ≡ None) (λ e. element_at w.arrays c.args.array z ≡ Some (meant e)) in
    subst (λ (z : ℤ). Is c.args.self.now z) (to_z-of_z w64 c.args.index c.ranges.index)
    (subst (λ (w : WorldValue). Is w (to_z w64 (of_z w64 c.args.index))) c.self.view_is
    (is_it c.self.inside.place.arrays (element_at c.self.inside.place.arrays c.args.array (to_z w64 (of_z w64 c.args.index))) c.element.result c.element.ensures))

pub returns-clause-stands : goal.returns-clause-stands
returns-clause-stands c =
    subst (λ (w : WorldValue). IfSome c.element.result (StandsIn w)) c.self.view_is
    (stands _ (element_at c.self.inside.place.arrays c.args.array (to_z w64 (of_z w64 c.args.index))) c.element.result c.self.invariant c.element.ensures)
