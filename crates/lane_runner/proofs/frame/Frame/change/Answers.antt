use Rattle.std.proofs.Common.{ap, ◌∙◌, subst, ℤ, w64, to_z, of_z, FitsSigned, rules}
use Rattle.std.proofs.lemmas.Result.{err_from_is_err_and}
use Rattle.std.proofs.lemmas.Int.{to_z-of_z}
use Rattle.kernel_syntax.specs.Program.{term_of}
use Rattle.kernel_model.specs.Changing.{amount, kind_of}
use Rattle.kernel_model.specs.Trace.{changed}
use Rattle.kernel_model.specs.Value.{element_at}
use Rattle.lane_runner.specs.declared.stop.Halt.TheVariants as halt
use Rattle.lane_runner.specs.Going.{Goes, site}
use Rattle.lane_runner.proofs.Running.{index_stops, value_stops, change_goes}
use Rattle.lane_runner.proofs.Values.{can_follow}
use Rattle.lane_runner.proofs.frame.Frame.change.Goals as goal

pub returns-in_err-at-clause-goes : goal.returns-in_err-at-clause-goes
returns-in_err-at-clause-goes g c =
    let p = err_from_is_err_and c.from_residual.result c.from_residual.ensures.1 in
    rw (p.1, p.2)
    (index_stops c.args.world.now c.args.change (site c.args.world.now) c.args.self.now.locals.slots.items c.args.array (term_of c.args.index.now) (term_of c.args.expr.now) c.args.line c.args.place c.args.self.now.track c.value.new.track (halt.Own c.in_err-at.field-0.0) c.in_err-at.ensures.goes)

pub returns-in_err-number-clause-goes : goal.returns-in_err-number-clause-goes
returns-in_err-number-clause-goes g c =
    let p = err_from_is_err_and c.from_residual-in_err-number.result c.from_residual-in_err-number.ensures.1 in
    rw (p.1, p.2)
    (value_stops c.args.world.now c.args.change (site c.args.world.now) c.args.self.now.locals.slots.items c.args.array (term_of c.args.index.now) (term_of c.args.expr.now) c.args.line c.args.place c.in_ok-at.at c.args.self.now.track c.value.new.track c.value-2.new.track c.in_ok-at.ensures.goes (halt.Own c.in_err-number.field-0.0) c.in_err-number.ensures.goes)

pub returns-clause-goes : goal.returns-clause-goes
returns-clause-goes g c =
    let i : FitsSigned w64 c.in_ok-at.at = search rules in
    let v : FitsSigned w64 c.in_ok-number.number = search rules in
    let a : FitsSigned w64 c.amount.result = search rules in
    let Ends : ℤ → ℤ → Type 0 = λ x z. Goes c.args.world.now (changed (kind_of c.args.change) (element_at c.args.world.now.arrays c.args.array x) z c.args.line c.args.place) c.args.self.now.locals.slots.items c.args.self.now.locals.slots.items c.value-2.new.track c.put_value.new.track c.put_value.result in
    change_goes c.args.world.now c.args.change (site c.args.world.now) c.args.self.now.locals.slots.items c.args.array (term_of c.args.index.now) (term_of c.args.expr.now) c.args.line c.args.place c.in_ok-at.at c.args.self.now.track c.value.new.track c.put_value.new.track c.in_ok-at.ensures.goes c.value-2.new.track c.in_ok-number.number c.put_value.result c.in_ok-number.ensures.goes
    (subst (λ (z : ℤ). Ends c.in_ok-at.at z) (to_z-of_z w64 c.amount.result a ∙ c.amount.ensures ∙ ap (λ (z : ℤ). amount c.args.change z) (to_z-of_z w64 c.in_ok-number.number v))
    (subst (λ (x : ℤ). Ends x (to_z w64 (of_z w64 c.amount.result))) (to_z-of_z w64 c.in_ok-at.at i)
    (c.put_value.ensures.goes c.args.self.now.locals.slots.items)))

pub value-requires-2-clause-can : goal.value-requires-2-clause-can
value-requires-2-clause-can g c κs given = can_follow _ _ _ _ _ _ _ c.requires.can c.in_ok-at.ensures.goes

pub put_value-requires-clause-can : goal.put_value-requires-clause-can
put_value-requires-clause-can g c κs given = can_follow _ _ _ _ _ _ _ (can_follow _ _ _ _ _ _ _ c.requires.can c.in_ok-at.ensures.goes) c.in_ok-number.ensures.goes
