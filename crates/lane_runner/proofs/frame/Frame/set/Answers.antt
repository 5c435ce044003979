use Rattle.std.proofs.Common.{ap, sym, ◌∙◌, subst, ℤ, List, w64, FitsSigned, rules}
use Rattle.std.specs.Prelude.{slice_set}
use Rattle.std.proofs.lemmas.Result.{err_from_is_err_and}
use Rattle.std.proofs.lemmas.Int.{to_z-of_z}
use Rattle.kernel_syntax.specs.Program.{term_of}
use Rattle.kernel_syntax.specs.Tree as tree
use Rattle.kernel_model.specs.Trace.{run}
use Rattle.kernel_model.specs.Effect.{Returned}
use Rattle.lane_runner.specs.declared.stop.Halt.TheVariants as halt
use Rattle.lane_runner.specs.Going.{Made, site}
use Rattle.lane_runner.proofs.Running.{set_stops, set_goes}
use Rattle.lane_runner.proofs.frame.Frame.set.Goals as goal

pub returns-in_err-number-clause-goes : goal.returns-in_err-number-clause-goes
returns-in_err-number-clause-goes g c =
    let p = err_from_is_err_and c.from_residual.result c.from_residual.ensures.1 in
    rw (p.1, p.2)
    (set_stops c.args.world.now (site c.args.world.now) c.args.self.now.locals.slots.items c.args.slot (term_of c.args.expr.now) c.args.self.now.track c.value.new.track (halt.Own c.in_err-number.field-0.0) c.in_err-number.ensures.goes)

pub returns-clause-goes : goal.returns-clause-goes
returns-clause-goes g c =
    let fits : FitsSigned w64 c.in_ok-number.number = search rules in
    subst (λ (slots : List ℤ). Made c.args.world.now (run (site c.args.world.now) (tree.Set c.args.slot (term_of c.args.expr.now) tree.Done)) c.args.self.now.locals.slots.items slots c.args.self.now.track c.value.new.track (Returned tt))
    (sym (c.set.ensures ∙ ap (λ (z : ℤ). slice_set c.args.self.now.locals.slots.items c.args.slot z) (to_z-of_z w64 c.in_ok-number.number fits)))
    (set_goes c.args.world.now (site c.args.world.now) c.args.self.now.locals.slots.items c.args.slot (term_of c.args.expr.now) c.args.self.now.track c.value.new.track c.in_ok-number.number c.requires.can c.in_ok-number.ensures.goes)
