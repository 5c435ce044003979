-- Each kind of expression, from what its parts made.
use Rattle.std.proofs.Common.{◌≡◌, ◌-◌, ◌/◌, ◌+◌, ◌<◌, ◌≤◌, min, suc, ℕ, ℤ, ap, sym, subst, ◌∙◌, Err, pos, Box, Global, w64, to_z, of_z, FitsSigned, rules, arith}
use Rattle.std.specs.Prelude.{slice_index_or, ok_or}
use Rattle.std.proofs.lemmas.Result.{err_from_is_err_and}
use Rattle.std.proofs.lemmas.Int.{to_z-of_z}
use Rattle.log_format.specs.Limit.{record_limit}
use Rattle.kernel_syntax.specs.declared.syntax.Expr as variant
use Rattle.kernel_syntax.specs.declared.syntax.Expr.{Expr}
use Rattle.kernel_syntax.specs.declared.syntax.Op.{Op}
use Rattle.kernel_syntax.specs.Program.{term_of}
use Rattle.kernel_syntax.specs.Arithmetic.{negated, applied}
use Rattle.kernel_syntax.specs.Tree as tree
use Rattle.kernel_syntax.specs.Tree.{Term}
use Rattle.kernel_model.specs.Value.{element_at, loaded, value}
use Rattle.kernel_model.specs.Effect.{Returned}
use Rattle.kernel_model.proofs.Effects.{makes-Number, makes-Slot, makes-Tid, makes-Span}
use Rattle.kernel_syntax.specs.Bounds.{IsBoundedTerm}
use Rattle.task_place.specs.Operands.{left_by, left_depth, size_above, term_size, with_left}
use Rattle.task_place.proofs.Operands.{bounded_left, left-within, no_operation, size_levels, size_none, size_whole, size_within, with-leaf, with-none, with-within}
use Rattle.lane_runner.specs.declared.stop.Halt.TheVariants as halt
use Rattle.lane_runner.specs.declared.stop.Stop.TheVariants.{DivZero}
use Rattle.lane_runner.specs.Going.{Goes, Made, site, lane_answer}
use Rattle.lane_runner.proofs.Bodies.{log_later}
use Rattle.lane_runner.proofs.Values.{made_still, can_follow, load_stops, load_goes, neg_stops, neg_goes, left_stops, below_stops, below_goes, number_made, operand_goes, top_stops, top_goes}
use Rattle.lane_runner.proofs.value.+valuing.Goals as goal

pub compound-returns-in_err-at-in-Load-clause-goes : goal.compound-returns-in_err-at-in-Load-clause-goes
compound-returns-in_err-at-in-Load-clause-goes g t c =
    let p = err_from_is_err_and c.from_residual.result c.from_residual.ensures.1 in
    rw (p.1, p.2)
    (subst (λ (e : Expr). Goes c.args.world.now (value (site c.args.world.now) (term_of e)) c.args.locals.now.slots.items c.args.locals.now.slots.items c.args.track.now c.valued.new.track (Err (halt.Own c.in_err-at-in-Load.field-0.0))) (sym c.in-Load.is)
    (load_stops c.args.world.now (site c.args.world.now) c.args.locals.now.slots.items c.in-Load.array (term_of c.in-Load.index.value) c.in-Load.line c.in-Load.site c.args.track.now c.valued.new.track (halt.Own c.in_err-at-in-Load.field-0.0)
    (subst (λ (x : Expr). Goes c.args.world.now (value (site c.args.world.now) (term_of x)) c.args.locals.now.slots.items c.args.locals.now.slots.items c.args.track.now c.valued.new.track (Err (halt.Own c.in_err-at-in-Load.field-0.0))) c.deref.ensures c.in_err-at-in-Load.ensures.goes)))

pub compound-returns-in_err-negated-in-Neg-clause-goes : goal.compound-returns-in_err-negated-in-Neg-clause-goes
compound-returns-in_err-negated-in-Neg-clause-goes g t c =
    let p = err_from_is_err_and c.from_residual-in_err-negated-in-Neg.result c.from_residual-in_err-negated-in-Neg.ensures.1 in
    rw (p.1, p.2)
    (subst (λ (e : Expr). Goes c.args.world.now (value (site c.args.world.now) (term_of e)) c.args.locals.now.slots.items c.args.locals.now.slots.items c.args.track.now c.valued-in-Neg.new.track (Err (halt.Own c.in_err-negated-in-Neg.field-0.0))) (sym c.in-Neg.is)
    (neg_stops c.args.world.now (site c.args.world.now) c.args.locals.now.slots.items (term_of c.in-Neg.operand.value) c.args.track.now c.valued-in-Neg.new.track (halt.Own c.in_err-negated-in-Neg.field-0.0)
    (subst (λ (x : Expr). Goes c.args.world.now (value (site c.args.world.now) (term_of x)) c.args.locals.now.slots.items c.args.locals.now.slots.items c.args.track.now c.valued-in-Neg.new.track (Err (halt.Own c.in_err-negated-in-Neg.field-0.0))) c.deref-in-Neg.ensures c.in_err-negated-in-Neg.ensures.goes)))

pub valued-returns-in-Number-clause-goes : goal.valued-returns-in-Number-clause-goes
valued-returns-in-Number-clause-goes g t c =
    let fits : FitsSigned w64 c.in-Number.number = search rules in
    subst (λ (v : ℤ). Made c.args.world.now (value (site c.args.world.now) (term_of c.args.expr.now)) c.args.locals.now.slots.items c.args.locals.now.slots.items c.args.track.now c.args.track.now (Returned v)) (sym (to_z-of_z w64 c.in-Number.number fits))
    (subst (λ (e : Expr). Made c.args.world.now (value (site c.args.world.now) (term_of e)) c.args.locals.now.slots.items c.args.locals.now.slots.items c.args.track.now c.args.track.now (Returned c.in-Number.number)) (sym c.in-Number.is)
    (made_still c.args.world.now (value (site c.args.world.now) (tree.Number c.in-Number.number)) c.args.locals.now.slots.items c.args.track.now (Returned c.in-Number.number) c.requires.can (makes-Number (site c.args.world.now) c.args.locals.now.slots.items (record_limit - c.args.track.now.buffer.count) c.in-Number.number)))

pub valued-returns-in-Slot-clause-goes : goal.valued-returns-in-Slot-clause-goes
valued-returns-in-Slot-clause-goes g t c =
    let fits : FitsSigned w64 c.get.result = search rules in
    subst (λ (v : ℤ). Made c.args.world.now (value (site c.args.world.now) (term_of c.args.expr.now)) c.args.locals.now.slots.items c.args.locals.now.slots.items c.args.track.now c.args.track.now (Returned v)) (sym (to_z-of_z w64 c.get.result fits))
    (subst (λ (e : Expr). Made c.args.world.now (value (site c.args.world.now) (term_of e)) c.args.locals.now.slots.items c.args.locals.now.slots.items c.args.track.now c.args.track.now (Returned c.get.result)) (sym c.in-Slot.is)
    (subst (λ (v : ℤ). Made c.args.world.now (value (site c.args.world.now) (tree.Slot c.in-Slot.slot)) c.args.locals.now.slots.items c.args.locals.now.slots.items c.args.track.now c.args.track.now (Returned v)) (sym c.get.ensures) (made_still c.args.world.now (value (site c.args.world.now) (tree.Slot c.in-Slot.slot)) c.args.locals.now.slots.items c.args.track.now (Returned (slice_index_or c.args.locals.now.slots.items c.in-Slot.slot (pos 0))) c.requires.can (makes-Slot (site c.args.world.now) c.args.locals.now.slots.items (record_limit - c.args.track.now.buffer.count) c.in-Slot.slot))))

pub valued-returns-in-Tid-clause-goes : goal.valued-returns-in-Tid-clause-goes
valued-returns-in-Tid-clause-goes g t c =
    let fits : FitsSigned w64 c.from.result = search rules in
    subst (λ (v : ℤ). Made c.args.world.now (value (site c.args.world.now) (term_of c.args.expr.now)) c.args.locals.now.slots.items c.args.locals.now.slots.items c.args.track.now c.args.track.now (Returned v)) (sym (to_z-of_z w64 c.from.result fits))
    (subst (λ (e : Expr). Made c.args.world.now (value (site c.args.world.now) (term_of e)) c.args.locals.now.slots.items c.args.locals.now.slots.items c.args.track.now c.args.track.now (Returned c.from.result)) (sym c.in-Tid.is)
    (subst (λ (v : ℤ). Made c.args.world.now (value (site c.args.world.now) tree.Tid) c.args.locals.now.slots.items c.args.locals.now.slots.items c.args.track.now c.args.track.now (Returned v)) (sym (c.from.ensures ∙ ap (λ (n : ℕ). pos n) c.lane.ensures)) (made_still c.args.world.now (value (site c.args.world.now) tree.Tid) c.args.locals.now.slots.items c.args.track.now (Returned (pos c.args.world.now.lane)) c.requires.can (makes-Tid (site c.args.world.now) c.args.locals.now.slots.items (record_limit - c.args.track.now.buffer.count)))))

pub valued-returns-in-Span-clause-goes : goal.valued-returns-in-Span-clause-goes
valued-returns-in-Span-clause-goes g t c =
    let fits : FitsSigned w64 c.from-in-Span.result = search rules in
    subst (λ (v : ℤ). Made c.args.world.now (value (site c.args.world.now) (term_of c.args.expr.now)) c.args.locals.now.slots.items c.args.locals.now.slots.items c.args.track.now c.args.track.now (Returned v)) (sym (to_z-of_z w64 c.from-in-Span.result fits))
    (subst (λ (e : Expr). Made c.args.world.now (value (site c.args.world.now) (term_of e)) c.args.locals.now.slots.items c.args.locals.now.slots.items c.args.track.now c.args.track.now (Returned c.from-in-Span.result)) (sym c.in-Span.is)
    (subst (λ (v : ℤ). Made c.args.world.now (value (site c.args.world.now) tree.Span) c.args.locals.now.slots.items c.args.locals.now.slots.items c.args.track.now c.args.track.now (Returned v)) (sym (c.from-in-Span.ensures ∙ ap (λ (n : ℕ). pos n) c.span.ensures.span)) (made_still c.args.world.now (value (site c.args.world.now) tree.Span) c.args.locals.now.slots.items c.args.track.now (Returned (pos c.args.world.now.span)) c.requires.can (makes-Span (site c.args.world.now) c.args.locals.now.slots.items (record_limit - c.args.track.now.buffer.count)))))

pub compound-returns-in_ok-at-in-Load-clause-goes : goal.compound-returns-in_ok-at-in-Load-clause-goes
compound-returns-in_ok-at-in-Load-clause-goes g t c =
    subst (λ (e : Expr). Goes c.args.world.now (value (site c.args.world.now) (term_of e)) c.args.locals.now.slots.items c.args.locals.now.slots.items c.args.track.now c.load.new.track (lane_answer c.load.result)) (sym c.in-Load.is)
    (load_goes c.args.world.now (site c.args.world.now) c.args.locals.now.slots.items c.in-Load.array (term_of c.in-Load.index.value) c.in-Load.line c.in-Load.site c.args.track.now c.valued.new.track c.load.new.track c.in_ok-at-in-Load.at (lane_answer c.load.result)
    (subst (λ (x : Expr). Made c.args.world.now (value (site c.args.world.now) (term_of x)) c.args.locals.now.slots.items c.args.locals.now.slots.items c.args.track.now c.valued.new.track (Returned c.in_ok-at-in-Load.at)) c.deref.ensures c.in_ok-at-in-Load.ensures.goes)
    (subst (λ (i : ℤ). Goes c.args.world.now (loaded (element_at c.args.world.now.arrays c.in-Load.array i) c.in-Load.line c.in-Load.site) c.args.locals.now.slots.items c.args.locals.now.slots.items c.valued.new.track c.load.new.track (lane_answer c.load.result))
    (let fits : FitsSigned w64 c.in_ok-at-in-Load.at = search rules in to_z-of_z w64 c.in_ok-at-in-Load.at fits) (c.load.ensures.goes c.args.locals.now.slots.items)))

pub compound-returns-in_ok-negated-in-Neg-clause-goes : goal.compound-returns-in_ok-negated-in-Neg-clause-goes
compound-returns-in_ok-negated-in-Neg-clause-goes g t c =
    let fits : FitsSigned w64 c.negate.result = search rules in
    let is : c.negate.result ≡ negated c.in_ok-negated-in-Neg.negated = c.negate.ensures ∙ ap negated (to_z-of_z w64 c.in_ok-negated-in-Neg.negated (search rules)) in
    subst (λ (v : ℤ). Made c.args.world.now (value (site c.args.world.now) (term_of c.args.expr.now)) c.args.locals.now.slots.items c.args.locals.now.slots.items c.args.track.now c.valued-in-Neg.new.track (Returned v)) (sym (to_z-of_z w64 c.negate.result fits ∙ is))
    (subst (λ (e : Expr). Made c.args.world.now (value (site c.args.world.now) (term_of e)) c.args.locals.now.slots.items c.args.locals.now.slots.items c.args.track.now c.valued-in-Neg.new.track (Returned (negated c.in_ok-negated-in-Neg.negated))) (sym c.in-Neg.is)
    (neg_goes c.args.world.now (site c.args.world.now) c.args.locals.now.slots.items (term_of c.in-Neg.operand.value) c.args.track.now c.valued-in-Neg.new.track c.in_ok-negated-in-Neg.negated c.requires.can
    (subst (λ (x : Expr). Made c.args.world.now (value (site c.args.world.now) (term_of x)) c.args.locals.now.slots.items c.args.locals.now.slots.items c.args.track.now c.valued-in-Neg.new.track (Returned c.in_ok-negated-in-Neg.negated)) c.deref-in-Neg.ensures c.in_ok-negated-in-Neg.ensures.goes)))

pub compound-load-requires-clause-can : goal.compound-load-requires-clause-can
compound-load-requires-clause-can g t c κs given = can_follow _ _ _ _ _ _ _ c.requires.can c.in_ok-at-in-Load.ensures.goes

pub compound-returns-in_err-lowest-in-Binary-clause-goes : goal.compound-returns-in_err-lowest-in-Binary-clause-goes
compound-returns-in_err-lowest-in-Binary-clause-goes g t c =
    let p = err_from_is_err_and c.from_residual-in_err-lowest-in-Binary.result c.from_residual-in_err-lowest-in-Binary.ensures.1 in
    let why = halt.Own c.in_err-lowest-in-Binary.field-0.0 in
    rw (p.1, p.2)
    (below_stops c.args.world.now (site c.args.world.now) c.args.locals.now.slots.items (term_of c.args.expr.now) c.left_depth-levels.result c.args.track.now c.valued-in-Binary.new.track why
    (subst (λ (e : Term). Goes c.args.world.now (value (site c.args.world.now) e) c.args.locals.now.slots.items c.args.locals.now.slots.items c.args.track.now c.valued-in-Binary.new.track (Err why)) c.left_by.ensures c.in_err-lowest-in-Binary.ensures.goes))

pub compound-returns-in_ok-lowest-in-Binary-clause-goes : goal.compound-returns-in_ok-lowest-in-Binary-clause-goes
compound-returns-in_ok-lowest-in-Binary-clause-goes g t c =
    let v = c.in_ok-lowest-in-Binary.lowest in
    below_goes c.args.world.now (site c.args.world.now) c.args.locals.now.slots.items (term_of c.args.expr.now) c.left_depth-levels.result c.args.track.now c.valued-in-Binary.new.track c.climb.new.track v (lane_answer c.climb.result)
    (subst (λ (e : Term). Made c.args.world.now (value (site c.args.world.now) e) c.args.locals.now.slots.items c.args.locals.now.slots.items c.args.track.now c.valued-in-Binary.new.track (Returned v)) c.left_by.ensures c.in_ok-lowest-in-Binary.ensures.goes)
    (subst (λ (z : ℤ). Goes c.args.world.now (value (site c.args.world.now) (with_left (term_of c.args.expr.now) c.left_depth-levels.result z)) c.args.locals.now.slots.items c.args.locals.now.slots.items c.valued-in-Binary.new.track c.climb.new.track (lane_answer c.climb.result))
    (let fits : FitsSigned w64 v = search rules in to_z-of_z w64 v fits) c.climb.ensures.goes)

pub compound-returns-in_err-first-in-Binary-2-clause-goes : goal.compound-returns-in_err-first-in-Binary-2-clause-goes
compound-returns-in_err-first-in-Binary-2-clause-goes g t c =
    let p = err_from_is_err_and c.from_residual-in_err-first-in-Binary-2.result c.from_residual-in_err-first-in-Binary-2.ensures.1 in
    let why = halt.Own c.in_err-first-in-Binary-2.field-0.0 in
    rw (p.1, p.2)
    (subst (λ (e : Expr). Goes c.args.world.now (value (site c.args.world.now) (term_of e)) c.args.locals.now.slots.items c.args.locals.now.slots.items c.args.track.now c.valued-in-Binary-2.new.track (Err why)) (sym c.in-Binary-2.is)
    (left_stops c.args.world.now (site c.args.world.now) c.args.locals.now.slots.items c.in-Binary-2.op c.in-Binary-2.line (term_of c.in-Binary-2.left.value) (term_of c.in-Binary-2.right.value) c.args.track.now c.valued-in-Binary-2.new.track why
    (subst (λ (x : Expr). Goes c.args.world.now (value (site c.args.world.now) (term_of x)) c.args.locals.now.slots.items c.args.locals.now.slots.items c.args.track.now c.valued-in-Binary-2.new.track (Err why)) c.deref-in-Binary-2.ensures c.in_err-first-in-Binary-2.ensures.goes)))

pub compound-returns-in_ok-first-in-Binary-2-clause-goes : goal.compound-returns-in_ok-first-in-Binary-2-clause-goes
compound-returns-in_ok-first-in-Binary-2-clause-goes g t c =
    let v = c.in_ok-first-in-Binary-2.first in
    let top = subst (λ (e : Expr). Goes c.args.world.now (value (site c.args.world.now) (with_left (term_of e) 1 v)) c.args.locals.now.slots.items c.args.locals.now.slots.items c.valued-in-Binary-2.new.track c.top.new.track (lane_answer c.top.result)) c.in-Binary-2.is
    (subst (λ (z : ℤ). Goes c.args.world.now (value (site c.args.world.now) (with_left (term_of c.args.expr.now) 1 z)) c.args.locals.now.slots.items c.args.locals.now.slots.items c.valued-in-Binary-2.new.track c.top.new.track (lane_answer c.top.result))
    (let fits : FitsSigned w64 v = search rules in to_z-of_z w64 v fits) c.top.ensures.goes) in
    subst (λ (e : Expr). Goes c.args.world.now (value (site c.args.world.now) (term_of e)) c.args.locals.now.slots.items c.args.locals.now.slots.items c.args.track.now c.top.new.track (lane_answer c.top.result)) (sym c.in-Binary-2.is)
    (operand_goes c.args.world.now (site c.args.world.now) c.args.locals.now.slots.items c.in-Binary-2.op c.in-Binary-2.line (term_of c.in-Binary-2.left.value) (term_of c.in-Binary-2.right.value) v c.args.track.now c.valued-in-Binary-2.new.track c.requires.can (lane_answer c.top.result)
    (subst (λ (x : Expr). Made c.args.world.now (value (site c.args.world.now) (term_of x)) c.args.locals.now.slots.items c.args.locals.now.slots.items c.args.track.now c.valued-in-Binary-2.new.track (Returned v)) c.deref-in-Binary-2.ensures c.in_ok-first-in-Binary-2.ensures.goes) c.top.new.track top)

pub top-returns-in_err-second-in-Binary-clause-goes : goal.top-returns-in_err-second-in-Binary-clause-goes
top-returns-in_err-second-in-Binary-clause-goes g t c =
    let p = err_from_is_err_and c.from_residual.result c.from_residual.ensures.1 in
    let why = halt.Own c.in_err-second-in-Binary.field-0.0 in
    rw (p.1, p.2)
    (subst (λ (e : Expr). Goes c.args.world.now (value (site c.args.world.now) (with_left (term_of e) 1 c.args.first)) c.args.locals.now.slots.items c.args.locals.now.slots.items c.args.track.now c.valued.new.track (Err why)) (sym c.in-Binary.is)
    (top_stops c.args.world.now (site c.args.world.now) c.args.locals.now.slots.items c.in-Binary.op c.in-Binary.line (term_of c.in-Binary.left.value) (term_of c.in-Binary.right.value) c.args.first c.args.track.now c.valued.new.track c.requires.can why
    (subst (λ (x : Expr). Goes c.args.world.now (value (site c.args.world.now) (term_of x)) c.args.locals.now.slots.items c.args.locals.now.slots.items c.args.track.now c.valued.new.track (Err why)) c.deref.ensures c.in_err-second-in-Binary.ensures.goes)))

pub top-returns-in_ok-second-in-Binary-clause-goes : goal.top-returns-in_ok-second-in-Binary-clause-goes
top-returns-in_ok-second-in-Binary-clause-goes g t c =
    let x = to_z-of_z w64 c.args.first c.ranges.first in
    let y = to_z-of_z w64 c.in_ok-second-in-Binary.second (search rules) in
    subst (λ (e : Expr). Goes c.args.world.now (value (site c.args.world.now) (with_left (term_of e) 1 c.args.first)) c.args.locals.now.slots.items c.args.locals.now.slots.items c.args.track.now c.valued.new.track (lane_answer c.operate.result)) (sym c.in-Binary.is)
    (top_goes c.args.world.now (site c.args.world.now) c.args.locals.now.slots.items c.in-Binary.op c.in-Binary.line (term_of c.in-Binary.left.value) (term_of c.in-Binary.right.value) c.args.first c.args.track.now c.valued.new.track c.requires.can c.in_ok-second-in-Binary.second c.operate.result
    (c.operate.ensures ∙ ap (λ (z : ℤ). ok_or (applied c.in-Binary.op z (to_z w64 (of_z w64 c.in_ok-second-in-Binary.second))) (DivZero c.in-Binary.line)) x
    ∙ ap (λ (z : ℤ). ok_or (applied c.in-Binary.op c.args.first z) (DivZero c.in-Binary.line)) y)
    (subst (λ (z : Expr). Made c.args.world.now (value (site c.args.world.now) (term_of z)) c.args.locals.now.slots.items c.args.locals.now.slots.items c.args.track.now c.valued.new.track (Returned c.in_ok-second-in-Binary.second)) c.deref.ensures c.in_ok-second-in-Binary.ensures.goes))

pub top-returns-in_default-clause-goes : goal.top-returns-in_default-clause-goes
top-returns-in_default-clause-goes g t c =
    let leaf = with-leaf (term_of c.args.expr.now) 1 c.args.first (no_operation c.args.expr.now c.in_default.not-Binary) in
    subst (λ (v : ℤ). Made c.args.world.now (value (site c.args.world.now) (with_left (term_of c.args.expr.now) 1 c.args.first)) c.args.locals.now.slots.items c.args.locals.now.slots.items c.args.track.now c.args.track.now (Returned v)) (sym (to_z-of_z w64 c.args.first c.ranges.first))
    (subst (λ (e : Term). Made c.args.world.now (value (site c.args.world.now) e) c.args.locals.now.slots.items c.args.locals.now.slots.items c.args.track.now c.args.track.now (Returned c.args.first)) (sym leaf) (number_made c.args.world.now (site c.args.world.now) c.args.locals.now.slots.items c.args.first c.args.track.now c.requires.can))

pub climb-returns-then-levels-eq0-clause-goes : goal.climb-returns-then-levels-eq0-clause-goes
climb-returns-then-levels-eq0-clause-goes g t c =
    let leaf = ap (λ (n : ℕ). with_left (term_of c.args.expr.now) n c.args.first) c.if-levels-eq0.true ∙ with-none (term_of c.args.expr.now) c.args.first in
    subst (λ (v : ℤ). Made c.args.world.now (value (site c.args.world.now) (with_left (term_of c.args.expr.now) c.args.levels c.args.first)) c.args.locals.now.slots.items c.args.locals.now.slots.items c.args.track.now c.args.track.now (Returned v)) (sym (to_z-of_z w64 c.args.first c.ranges.first))
    (subst (λ (e : Term). Made c.args.world.now (value (site c.args.world.now) e) c.args.locals.now.slots.items c.args.locals.now.slots.items c.args.track.now c.args.track.now (Returned c.args.first)) (sym leaf) (number_made c.args.world.now (site c.args.world.now) c.args.locals.now.slots.items c.args.first c.args.track.now c.requires.can))

pub climb-returns-in_err-middle-clause-goes : goal.climb-returns-in_err-middle-clause-goes
climb-returns-in_err-middle-clause-goes g t c =
    let p = err_from_is_err_and c.from_residual.result c.from_residual.ensures.1 in
    let why = halt.Own c.in_err-middle.field-0.0 in
    let half = c.args.levels / 2 in
    let below = ap (λ (e : Term). with_left e (c.args.levels - half) (to_z w64 (of_z w64 c.args.first))) c.left_by-below.ensures
    ∙ ap (λ (z : ℤ). with_left (left_by (term_of c.args.expr.now) half) (c.args.levels - half) z) (to_z-of_z w64 c.args.first c.ranges.first)
    ∙ sym (left-within (term_of c.args.expr.now) half c.args.levels (omega arith) c.args.first) in
    rw (p.1, p.2)
    (below_stops c.args.world.now (site c.args.world.now) c.args.locals.now.slots.items (with_left (term_of c.args.expr.now) c.args.levels c.args.first) half c.args.track.now c.climb.new.track why
    (subst (λ (e : Term). Goes c.args.world.now (value (site c.args.world.now) e) c.args.locals.now.slots.items c.args.locals.now.slots.items c.args.track.now c.climb.new.track (Err why)) below c.in_err-middle.ensures.goes))

pub climb-returns-clause-goes : goal.climb-returns-clause-goes
climb-returns-clause-goes g t c =
    let half = c.args.levels / 2 in
    let m = c.in_ok-middle.middle in
    let below = ap (λ (e : Term). with_left e (c.args.levels - half) (to_z w64 (of_z w64 c.args.first))) c.left_by-below.ensures
    ∙ ap (λ (z : ℤ). with_left (left_by (term_of c.args.expr.now) half) (c.args.levels - half) z) (to_z-of_z w64 c.args.first c.ranges.first)
    ∙ sym (left-within (term_of c.args.expr.now) half c.args.levels (omega arith) c.args.first) in
    let above = ap (λ (z : ℤ). with_left (term_of c.args.expr.now) half z) (let fits : FitsSigned w64 m = search rules in to_z-of_z w64 m fits)
    ∙ sym (with-within (term_of c.args.expr.now) half c.args.levels (omega arith) c.args.first m) in
    below_goes c.args.world.now (site c.args.world.now) c.args.locals.now.slots.items (with_left (term_of c.args.expr.now) c.args.levels c.args.first) half c.args.track.now c.climb.new.track c.climb-2.new.track m (lane_answer c.climb-2.result)
    (subst (λ (e : Term). Made c.args.world.now (value (site c.args.world.now) e) c.args.locals.now.slots.items c.args.locals.now.slots.items c.args.track.now c.climb.new.track (Returned m)) below c.in_ok-middle.ensures.goes)
    (subst (λ (e : Term). Goes c.args.world.now (value (site c.args.world.now) e) c.args.locals.now.slots.items c.args.locals.now.slots.items c.climb.new.track c.climb-2.new.track (lane_answer c.climb-2.result)) above c.climb-2.ensures.goes)

-- ---- what is left falls

-- as many levels as were counted are there
counted : (e : Term) (n : ℕ) → n ≡ min (left_depth e) 18446744073709551615 → n ≤ left_depth e
counted e n is = omega (arith, is)

-- and of an operation, one at least
deep_enough : (e : Expr) (op : Op) (line : ℕ) (left right : Box Expr Global) (n : ℕ) → e ≡ variant.Binary op line left right → n ≡ min (left_depth (term_of e)) 18446744073709551615 → 1 ≤ n
deep_enough e op line left right n is told =
    let some : left_depth (term_of e) ≡ suc (left_depth (term_of left.value)) = ap (λ (x : Expr). left_depth (term_of x)) is in
    omega (arith, some, told)

pub compound-valued-requires-in-Binary : goal.compound-valued-requires-in-Binary
compound-valued-requires-in-Binary g t c κs given =
    let n = c.left_depth-levels.result in
    let deep = deep_enough c.args.expr.now _ _ _ _ n c.in-Binary.is c.left_depth-levels.ensures in
    let whole = size_whole (term_of c.args.expr.now) n (counted (term_of c.args.expr.now) n c.left_depth-levels.ensures) in
    let above = size_levels (term_of c.args.expr.now) n in
    let less : term_size (term_of c.left_by.result.now) < term_size (term_of c.args.expr.now) = subst (λ (e : Term). term_size e < term_size (term_of c.args.expr.now)) (sym c.left_by.ensures) (omega (arith, whole, above, deep)) in
    let bounded : IsBoundedTerm (term_of c.left_by.result.now) = subst IsBoundedTerm (sym c.left_by.ensures) (bounded_left (term_of c.args.expr.now) n c.requires.bounded) in
    let falls = c.decreases in
    (omega (arith, falls, less), search (rules, given, bounded))

pub compound-climb-requires : goal.compound-climb-requires
compound-climb-requires g t c κs given =
    let n = c.left_depth-levels.result in
    let whole = size_whole (term_of c.args.expr.now) n (counted (term_of c.args.expr.now) n c.left_depth-levels.ensures) in
    let falls = c.decreases in
    (omega (arith, falls, whole), search (rules, given))

pub climb-climb-requires : goal.climb-climb-requires
climb-climb-requires g t c κs given =
    let half = c.args.levels / 2 in
    let some = c.if-levels-eq0.false in
    let more = c.if-levels-eq1.false in
    let parts = size_within (term_of c.args.expr.now) half c.args.levels (omega arith) in
    let least = size_levels (term_of c.args.expr.now) half in
    let less : size_above (term_of c.left_by-below.result.now) (c.args.levels - half) < size_above (term_of c.args.expr.now) c.args.levels =
    subst (λ (e : Term). size_above e (c.args.levels - half) < size_above (term_of c.args.expr.now) c.args.levels) (sym c.left_by-below.ensures) (omega (arith, parts, least, some, more)) in
    let bounded : IsBoundedTerm (term_of c.left_by-below.result.now) = subst IsBoundedTerm (sym c.left_by-below.ensures) (bounded_left (term_of c.args.expr.now) half c.requires.bounded) in
    let falls = c.decreases in
    (omega (arith, falls, less), search (rules, given, bounded))

pub climb-climb-requires-2 : goal.climb-climb-requires-2
climb-climb-requires-2 g t c κs given =
    let half = c.args.levels / 2 in
    let some = c.if-levels-eq0.false in
    let more = c.if-levels-eq1.false in
    let parts = size_within (term_of c.args.expr.now) half c.args.levels (omega arith) in
    let least = size_levels (left_by (term_of c.args.expr.now) half) (c.args.levels - half) in
    let less : size_above (term_of c.args.expr.now) half < size_above (term_of c.args.expr.now) c.args.levels = omega (arith, parts, least, some, more) in
    let can = can_follow _ _ _ _ _ _ _ c.requires.can c.in_ok-middle.ensures.goes in
    let falls = c.decreases in
    (omega (arith, falls, less), search (rules, given, can))

pub compound-top-requires : goal.compound-top-requires
compound-top-requires g t c κs given =
    let is = ap (λ (e : Expr). term_of e) c.in-Binary-2.is in
    let size : term_size (term_of c.args.expr.now) ≡ suc (term_size (term_of c.in-Binary-2.left.value) + term_size (term_of c.in-Binary-2.right.value)) = ap term_size is in
    let above : size_above (term_of c.args.expr.now) 1 ≡ suc (size_above (term_of c.in-Binary-2.left.value) 0 + term_size (term_of c.in-Binary-2.right.value)) = ap (λ (e : Term). size_above e 1) is in
    let none = size_none (term_of c.in-Binary-2.left.value) in
    let falls = c.decreases in
    (omega (arith, falls, size, above, none), search (rules, given))

-- ---- the log, and what the parts are within

pub compound-returns-in_ok-at-in-Load-clause-log : goal.compound-returns-in_ok-at-in-Load-clause-log
compound-returns-in_ok-at-in-Load-clause-log g t c = log_later _ _ _ c.valued.ensures.log c.load.ensures.log

pub compound-returns-in_ok-lowest-in-Binary-clause-log : goal.compound-returns-in_ok-lowest-in-Binary-clause-log
compound-returns-in_ok-lowest-in-Binary-clause-log g t c = log_later _ _ _ c.valued-in-Binary.ensures.log c.climb.ensures.log

pub compound-returns-in_ok-first-in-Binary-2-clause-log : goal.compound-returns-in_ok-first-in-Binary-2-clause-log
compound-returns-in_ok-first-in-Binary-2-clause-log g t c = log_later _ _ _ c.valued-in-Binary-2.ensures.log c.top.ensures.log

pub climb-returns-clause-log : goal.climb-returns-clause-log
climb-returns-clause-log g t c = log_later _ _ _ c.climb.ensures.log c.climb-2.ensures.log

pub climb-returns-then-levels-eq1-clause-goes : goal.climb-returns-then-levels-eq1-clause-goes
climb-returns-then-levels-eq1-clause-goes g t c =
    subst (λ (z : ℤ). Goes c.args.world.now (value (site c.args.world.now) (with_left (term_of c.args.expr.now) c.args.levels z)) c.args.locals.now.slots.items c.args.locals.now.slots.items c.args.track.now c.top.new.track (lane_answer c.top.result)) (to_z-of_z w64 c.args.first c.ranges.first)
    (subst (λ (n : ℕ). Goes c.args.world.now (value (site c.args.world.now) (with_left (term_of c.args.expr.now) n (to_z w64 (of_z w64 c.args.first)))) c.args.locals.now.slots.items c.args.locals.now.slots.items c.args.track.now c.top.new.track (lane_answer c.top.result)) (sym c.if-levels-eq1.true) c.top.ensures.goes)

pub compound-valued-requires-clause-bounded : goal.compound-valued-requires-clause-bounded
compound-valued-requires-clause-bounded g t c κs given =
    subst (λ (e : Expr). IsBoundedTerm (term_of e)) (sym c.deref.ensures) (subst (λ (e : Expr). IsBoundedTerm (term_of e)) c.in-Load.is c.requires.bounded).1

pub compound-load-requires-clause-bounded : goal.compound-load-requires-clause-bounded
compound-load-requires-clause-bounded g t c κs given = (subst (λ (e : Expr). IsBoundedTerm (term_of e)) c.in-Load.is c.requires.bounded).0

pub compound-valued-requires-in-Neg-clause-bounded : goal.compound-valued-requires-in-Neg-clause-bounded
compound-valued-requires-in-Neg-clause-bounded g t c κs given =
    subst (λ (e : Expr). IsBoundedTerm (term_of e)) (sym c.deref-in-Neg.ensures) (subst (λ (e : Expr). IsBoundedTerm (term_of e)) c.in-Neg.is c.requires.bounded)

pub compound-valued-requires-in-Binary-2-clause-bounded : goal.compound-valued-requires-in-Binary-2-clause-bounded
compound-valued-requires-in-Binary-2-clause-bounded g t c κs given =
    subst (λ (e : Expr). IsBoundedTerm (term_of e)) (sym c.deref-in-Binary-2.ensures) (subst (λ (e : Expr). IsBoundedTerm (term_of e)) c.in-Binary-2.is c.requires.bounded).1

pub top-valued-requires-clause-bounded : goal.top-valued-requires-clause-bounded
top-valued-requires-clause-bounded g t c κs given =
    subst (λ (e : Expr). IsBoundedTerm (term_of e)) (sym c.deref.ensures) (subst (λ (e : Expr). IsBoundedTerm (term_of e)) c.in-Binary.is c.requires.bounded).2

pub valued-returns-in-Load-clause-goes : goal.valued-returns-in-Load-clause-goes
valued-returns-in-Load-clause-goes g t c = c.compound.ensures.goes

pub valued-returns-in-Neg-clause-goes : goal.valued-returns-in-Neg-clause-goes
valued-returns-in-Neg-clause-goes g t c = c.compound-in-Neg.ensures.goes

pub valued-returns-in-Binary-clause-goes : goal.valued-returns-in-Binary-clause-goes
valued-returns-in-Binary-clause-goes g t c = c.compound-in-Binary.ensures.goes
