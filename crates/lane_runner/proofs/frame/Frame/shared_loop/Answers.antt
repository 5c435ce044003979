use Rattle.std.proofs.Common.{ap, subst, ◌∙◌, ℕ, ℤ, w64, to_z, of_z, rules}
use Rattle.std.proofs.lemmas.Result.{err_from_is_err_and}
use Rattle.std.proofs.lemmas.Int.{to_z-of_z}
use Rattle.kernel_syntax.specs.Program.{code_of, term_of}
use Rattle.kernel_model.specs.Iterations.{total_of}
use Rattle.kernel_model.specs.Trace.{shared}
use Rattle.kernel_model.specs.Drawing.{turn_from}
use Rattle.lane_runner.specs.declared.stop.Halt.TheVariants as halt
use Rattle.lane_runner.specs.Going.{Goes, site}
use Rattle.lane_runner.proofs.Dealing.{for_first_stops, for_last_stops, for_goes}
use Rattle.lane_runner.proofs.Values.{can_follow}
use Rattle.lane_runner.proofs.Ongoing.{executes_later}
use Rattle.lane_runner.proofs.frame.Frame.shared_loop.Goals as goal

pub returns-in_err-first-clause-goes : goal.returns-in_err-first-clause-goes
returns-in_err-first-clause-goes g c =
    let p = err_from_is_err_and c.from_residual.result c.from_residual.ensures.1 in
    rw (p.1, p.2) (for_first_stops c.args.world.now (site c.args.world.now) c.args.self.now.locals.slots.items c.args.slot (term_of c.args.from.now) (term_of c.args.to.now) c.args.schedule c.args.line c.args.end (code_of c.args.body.now.stmts.items) c.args.self.now.track c.value.new.track (halt.Own c.in_err-first.field-0.0) c.in_err-first.ensures.goes)

pub returns-in_err-last-clause-goes : goal.returns-in_err-last-clause-goes
returns-in_err-last-clause-goes g c =
    let p = err_from_is_err_and c.from_residual-in_err-last.result c.from_residual-in_err-last.ensures.1 in
    rw (p.1, p.2) (for_last_stops c.args.world.now (site c.args.world.now) c.args.self.now.locals.slots.items c.args.slot (term_of c.args.from.now) (term_of c.args.to.now) c.args.schedule c.args.line c.args.end (code_of c.args.body.now.stmts.items) c.in_ok-first.first c.args.self.now.track c.value.new.track c.value-2.new.track c.in_ok-first.ensures.goes (halt.Own c.in_err-last.field-0.0) c.in_err-last.ensures.goes)

pub returns-clause-goes : goal.returns-clause-goes
returns-clause-goes g c =
    let first_is = to_z-of_z w64 c.in_ok-first.first (search rules) in
    let last_is = to_z-of_z w64 c.in_ok-last.last (search rules) in
    for_goes c.args.world.now (site c.args.world.now) c.args.self.now.locals.slots.items c.args.slot (term_of c.args.from.now) (term_of c.args.to.now) c.args.schedule c.args.line c.args.end (code_of c.args.body.now.stmts.items) c.in_ok-first.first c.args.self.now.track c.value.new.track c.share.new.self.track c.in_ok-first.ensures.goes
    c.value-2.new.track c.in_ok-last.last c.share.new.self.locals.slots.items c.share.result c.in_ok-last.ensures.goes
    (subst (λ (n : ℕ). Goes c.args.world.now (shared c.args.schedule (site c.args.world.now) c.args.line n (turn_from (site c.args.world.now) (code_of c.args.body.now.stmts.items) c.args.slot c.in_ok-first.first)) c.args.self.now.locals.slots.items c.share.new.self.locals.slots.items c.value-2.new.track c.share.new.self.track c.share.result)
    (c.total_of.ensures.count ∙ ap (λ (z : ℤ). total_of z (to_z w64 (of_z w64 c.in_ok-last.last))) first_is ∙ ap (λ (z : ℤ). total_of c.in_ok-first.first z) last_is)
    (subst (λ (z : ℤ). Goes c.args.world.now (shared c.args.schedule (site c.args.world.now) c.args.line c.total_of.result (turn_from (site c.args.world.now) (code_of c.args.body.now.stmts.items) c.args.slot z)) c.args.self.now.locals.slots.items c.share.new.self.locals.slots.items c.value-2.new.track c.share.new.self.track c.share.result) first_is
    (c.share.ensures.goes)))

pub value-requires-2-clause-can : goal.value-requires-2-clause-can
value-requires-2-clause-can g c κs given = can_follow _ _ _ _ _ _ _ c.requires.can c.in_ok-first.ensures.goes

pub share-requires-clause-executes : goal.share-requires-clause-executes
share-requires-clause-executes g c κs given =
    executes_later c.in_ok-last.ensures.goes c.in_ok-last.ensures.log
    (executes_later c.in_ok-first.ensures.goes c.in_ok-first.ensures.log (record { can = c.requires.can; bounded = c.requires.bounded.5; alone = c.requires.alone; runs = c.requires.runs }))
