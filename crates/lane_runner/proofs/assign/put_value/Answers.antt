use Rattle.std.proofs.Common.{◌≡◌, ap, sym, ◌∙◌, subst, ℤ, w64, to_z, of_z, FitsSigned, rules}
use Rattle.std.proofs.lemmas.Int.{to_z-of_z}
use Rattle.log_format.specs.Fitting.{fitted}
use Rattle.kernel_syntax.proofs.Fitting.{fitted-fitted}
use Rattle.kernel_model.specs.Changing.{kind_of}
use Rattle.kernel_model.specs.State.{put}
use Rattle.kernel_model.specs.Value.{element_at, access}
use Rattle.task_place.specs.Placing.{meant}
use Rattle.lane_runner.specs.Going.{Goes}
use Rattle.lane_runner.proofs.Running.{changes_none, changes_some}
use Rattle.lane_runner.proofs.assign.put_value.Goals as goal

pub returns-in_default-clause-goes : goal.returns-in_default-clause-goes
returns-in_default-clause-goes g c = λ slots.
    changes_none c.args.world.now (kind_of c.args.change) (element_at c.args.world.now.arrays c.args.array c.args.index) c.args.amount c.args.line c.args.place slots c.args.track.now c.requires.can
    (ap (λ (z : ℤ). element_at c.args.world.now.arrays c.args.array z) (sym (to_z-of_z w64 c.args.index c.ranges.index)) ∙ c.in_default.ensures.is)

pub returns-clause-goes : goal.returns-clause-goes
returns-clause-goes g c =
    let fits : FitsSigned w64 c.fit-fitted.result = search rules in
    λ slots.
    changes_some c.args.world.now (kind_of c.args.change) (element_at c.args.world.now.arrays c.args.array c.args.index) (meant c.in-Some.element) c.args.amount c.fit-fitted.result c.args.line c.args.place slots
    c.args.track.now c.change.new.self c.change.result
    (ap (λ (z : ℤ). element_at c.args.world.now.arrays c.args.array z) (sym (to_z-of_z w64 c.args.index c.ranges.index)) ∙ c.in-Some.ensures.is)
    (c.fit-fitted.ensures ∙ ap (λ (z : ℤ). fitted z c.in-Some.element.width) (to_z-of_z w64 c.args.amount c.ranges.amount))
    (subst (λ (z : ℤ). Goes c.args.world.now (put (access (kind_of c.args.change) (meant c.in-Some.element) c.args.place c.args.line z)) slots slots c.args.track.now c.change.new.self c.change.result)
    (to_z-of_z w64 c.fit-fitted.result fits) (c.change.ensures.goes slots))

pub change-requires-clause-fits : goal.change-requires-clause-fits
change-requires-clause-fits g c κs given =
    let fits : FitsSigned w64 c.fit-fitted.result = search rules in
    subst (λ (z : ℤ). fitted z c.in-Some.element.width ≡ z) (sym c.fit-fitted.ensures ∙ sym (to_z-of_z w64 c.fit-fitted.result fits))
    (fitted-fitted (to_z w64 (of_z w64 c.args.amount)) c.in-Some.element.width c.in-Some.ensures.stands.width)
