-- Each kind of expression, from what its parts made.
use Rattle.std.proofs.Common.{◌≡◌, ℕ, ℤ, ap, sym, subst, ◌∙◌, Err, pos, w64, to_z, of_z, FitsSigned, rules}
use Rattle.std.specs.Prelude.{slice_index_or, ok_or}
use Rattle.std.proofs.lemmas.Result.{err_from_is_err_and}
use Rattle.std.proofs.lemmas.Int.{to_z-of_z}
use Rattle.kernel_syntax.specs.declared.syntax.Expr.{Expr}
use Rattle.kernel_syntax.specs.Program.{term_of}
use Rattle.kernel_syntax.specs.Arithmetic.{negated, applied}
use Rattle.kernel_syntax.specs.Tree as tree
use Rattle.kernel_model.specs.Value.{element_at, loaded, value}
use Rattle.kernel_model.specs.Effect.{Returned}
use Rattle.kernel_model.proofs.Effects.{makes-Number, makes-Slot, makes-Tid, makes-Span}
use Rattle.kernel_model.specs.declared.stop.StopWhy.TheVariants as reason
use Rattle.serial_run.specs.declared.halt.Halt.TheVariants.{Stops}
use Rattle.serial_run.specs.Going.{RunsPart, RanPart, serial_progress, room_of}
use Rattle.serial_run.proofs.Following.{made_still}
use Rattle.serial_run.proofs.Values.{load_stops, load_goes, neg_stops, neg_goes, left_stops, right_stops, binary_goes}
use Rattle.serial_run.proofs.track.Track.+value.Goals as goal

pub returns-in_err-at-in-Load : goal.returns-in_err-at-in-Load
returns-in_err-at-in-Load t c =
    let p = err_from_is_err_and c.from_residual.result c.from_residual.ensures.1 in
    let at = c.args.place.now in let slots = c.args.locals.now.slots.items in
    let old = serial_progress c.args.self.now c.args.memory.now in let new = serial_progress c.value.new.self c.value.new.memory in
    λ layout tells. rw (p.1, p.2)
    (subst (λ (e : Expr). RunsPart layout (value at (term_of e)) slots slots old new (Err c.in_err-at-in-Load.field-0.0)) (sym c.in-Load.is)
    (load_stops layout at slots c.in-Load.array (term_of c.in-Load.index.value) c.in-Load.line c.in-Load.site old new c.in_err-at-in-Load.field-0.0
    (subst (λ (x : Expr). RunsPart layout (value at (term_of x)) slots slots old new (Err c.in_err-at-in-Load.field-0.0)) c.deref.ensures (c.in_err-at-in-Load.ensures layout tells))))

pub returns-in_err-negated-in-Neg : goal.returns-in_err-negated-in-Neg
returns-in_err-negated-in-Neg t c =
    let p = err_from_is_err_and c.from_residual-in_err-negated-in-Neg.result c.from_residual-in_err-negated-in-Neg.ensures.1 in
    let at = c.args.place.now in let slots = c.args.locals.now.slots.items in
    let old = serial_progress c.args.self.now c.args.memory.now in let new = serial_progress c.value-in-Neg.new.self c.value-in-Neg.new.memory in
    λ layout tells. rw (p.1, p.2)
    (subst (λ (e : Expr). RunsPart layout (value at (term_of e)) slots slots old new (Err c.in_err-negated-in-Neg.field-0.0)) (sym c.in-Neg.is)
    (neg_stops layout at slots (term_of c.in-Neg.operand.value) old new c.in_err-negated-in-Neg.field-0.0
    (subst (λ (x : Expr). RunsPart layout (value at (term_of x)) slots slots old new (Err c.in_err-negated-in-Neg.field-0.0)) c.deref-in-Neg.ensures (c.in_err-negated-in-Neg.ensures layout tells))))

pub returns-in_err-first-in-Binary : goal.returns-in_err-first-in-Binary
returns-in_err-first-in-Binary t c =
    let p = err_from_is_err_and c.from_residual-in_err-first-in-Binary.result c.from_residual-in_err-first-in-Binary.ensures.1 in
    let at = c.args.place.now in let slots = c.args.locals.now.slots.items in
    let old = serial_progress c.args.self.now c.args.memory.now in let new = serial_progress c.value-in-Binary.new.self c.value-in-Binary.new.memory in
    λ layout tells. rw (p.1, p.2)
    (subst (λ (e : Expr). RunsPart layout (value at (term_of e)) slots slots old new (Err c.in_err-first-in-Binary.field-0.0)) (sym c.in-Binary.is)
    (left_stops layout at slots c.in-Binary.op c.in-Binary.line (term_of c.in-Binary.left.value) (term_of c.in-Binary.right.value) old new c.in_err-first-in-Binary.field-0.0
    (subst (λ (x : Expr). RunsPart layout (value at (term_of x)) slots slots old new (Err c.in_err-first-in-Binary.field-0.0)) c.deref-in-Binary.ensures (c.in_err-first-in-Binary.ensures layout tells))))

pub returns-in_err-second-in-Binary : goal.returns-in_err-second-in-Binary
returns-in_err-second-in-Binary t c =
    let p = err_from_is_err_and c.from_residual-in_err-second-in-Binary.result c.from_residual-in_err-second-in-Binary.ensures.1 in
    let at = c.args.place.now in let slots = c.args.locals.now.slots.items in
    let old = serial_progress c.args.self.now c.args.memory.now in let mid = serial_progress c.value-in-Binary.new.self c.value-in-Binary.new.memory in
    let new = serial_progress c.value-in-Binary-2.new.self c.value-in-Binary-2.new.memory in
    λ layout tells. rw (p.1, p.2)
    (subst (λ (e : Expr). RunsPart layout (value at (term_of e)) slots slots old new (Err c.in_err-second-in-Binary.field-0.0)) (sym c.in-Binary.is)
    (right_stops layout at slots c.in-Binary.op c.in-Binary.line (term_of c.in-Binary.left.value) (term_of c.in-Binary.right.value) old mid new c.in_ok-first-in-Binary.first
    (subst (λ (x : Expr). RanPart layout (value at (term_of x)) slots slots old mid (Returned c.in_ok-first-in-Binary.first)) c.deref-in-Binary.ensures (c.in_ok-first-in-Binary.ensures layout tells)) c.in_err-second-in-Binary.field-0.0
    (subst (λ (x : Expr). RunsPart layout (value at (term_of x)) slots slots mid new (Err c.in_err-second-in-Binary.field-0.0)) c.deref-in-Binary-2.ensures (c.in_err-second-in-Binary.ensures layout tells))))

pub returns-in-Number : goal.returns-in-Number
returns-in-Number t c =
    let fits : FitsSigned w64 c.in-Number.number = search rules in
    let at = c.args.place.now in let slots = c.args.locals.now.slots.items in let old = serial_progress c.args.self.now c.args.memory.now in
    λ layout tells.
    subst (λ (v : ℤ). RanPart layout (value at (term_of c.args.expr.now)) slots slots old old (Returned v)) (sym (to_z-of_z w64 c.in-Number.number fits))
    (subst (λ (e : Expr). RanPart layout (value at (term_of e)) slots slots old old (Returned c.in-Number.number)) (sym c.in-Number.is)
    (made_still layout (value at (tree.Number c.in-Number.number)) slots old (Returned c.in-Number.number) (makes-Number at slots (room_of layout.bound old) c.in-Number.number)))

pub returns-in-Slot : goal.returns-in-Slot
returns-in-Slot t c =
    let fits : FitsSigned w64 c.get.result = search rules in
    let at = c.args.place.now in let slots = c.args.locals.now.slots.items in let old = serial_progress c.args.self.now c.args.memory.now in
    λ layout tells.
    subst (λ (v : ℤ). RanPart layout (value at (term_of c.args.expr.now)) slots slots old old (Returned v)) (sym (to_z-of_z w64 c.get.result fits ∙ c.get.ensures))
    (subst (λ (e : Expr). RanPart layout (value at (term_of e)) slots slots old old (Returned (slice_index_or slots c.in-Slot.slot (pos 0)))) (sym c.in-Slot.is)
    (made_still layout (value at (tree.Slot c.in-Slot.slot)) slots old (Returned (slice_index_or slots c.in-Slot.slot (pos 0))) (makes-Slot at slots (room_of layout.bound old) c.in-Slot.slot)))

pub returns-in-Tid : goal.returns-in-Tid
returns-in-Tid t c =
    let fits : FitsSigned w64 c.from.result = search rules in
    let at = c.args.place.now in let slots = c.args.locals.now.slots.items in let old = serial_progress c.args.self.now c.args.memory.now in
    λ layout tells.
    subst (λ (v : ℤ). RanPart layout (value at (term_of c.args.expr.now)) slots slots old old (Returned v)) (sym (to_z-of_z w64 c.from.result fits ∙ c.from.ensures ∙ ap (λ (n : ℕ). pos n) c.lane.ensures))
    (subst (λ (e : Expr). RanPart layout (value at (term_of e)) slots slots old old (Returned (pos at.lane))) (sym c.in-Tid.is)
    (made_still layout (value at tree.Tid) slots old (Returned (pos at.lane)) (makes-Tid at slots (room_of layout.bound old))))

pub returns-in-Span : goal.returns-in-Span
returns-in-Span t c =
    let fits : FitsSigned w64 c.from-in-Span.result = search rules in
    let at = c.args.place.now in let slots = c.args.locals.now.slots.items in let old = serial_progress c.args.self.now c.args.memory.now in
    λ layout tells.
    subst (λ (v : ℤ). RanPart layout (value at (term_of c.args.expr.now)) slots slots old old (Returned v)) (sym (to_z-of_z w64 c.from-in-Span.result fits ∙ c.from-in-Span.ensures ∙ ap (λ (n : ℕ). pos n) c.span.ensures.span))
    (subst (λ (e : Expr). RanPart layout (value at (term_of e)) slots slots old old (Returned (pos at.span))) (sym c.in-Span.is)
    (made_still layout (value at tree.Span) slots old (Returned (pos at.span)) (makes-Span at slots (room_of layout.bound old))))

pub returns-in_ok-at-in-Load : goal.returns-in_ok-at-in-Load
returns-in_ok-at-in-Load t c =
    let at = c.args.place.now in let slots = c.args.locals.now.slots.items in
    let old = serial_progress c.args.self.now c.args.memory.now in let mid = serial_progress c.value.new.self c.value.new.memory in
    let new = serial_progress c.load.new.self c.load.new.memory in
    λ layout tells.
    subst (λ (e : Expr). RunsPart layout (value at (term_of e)) slots slots old new c.load.result) (sym c.in-Load.is)
    (load_goes layout at slots c.in-Load.array (term_of c.in-Load.index.value) c.in-Load.line c.in-Load.site old mid new c.in_ok-at-in-Load.at c.load.result
    (subst (λ (x : Expr). RanPart layout (value at (term_of x)) slots slots old mid (Returned c.in_ok-at-in-Load.at)) c.deref.ensures (c.in_ok-at-in-Load.ensures layout tells))
    (subst (λ (i : ℤ). RunsPart layout (loaded (element_at at.arrays c.in-Load.array i) c.in-Load.line c.in-Load.site) slots slots mid new c.load.result)
    (let fits : FitsSigned w64 c.in_ok-at-in-Load.at = search rules in to_z-of_z w64 c.in_ok-at-in-Load.at fits) (c.load.ensures layout slots tells)))

pub returns-in_ok-negated-in-Neg : goal.returns-in_ok-negated-in-Neg
returns-in_ok-negated-in-Neg t c =
    let fits : FitsSigned w64 c.negate.result = search rules in
    let is : c.negate.result ≡ negated c.in_ok-negated-in-Neg.negated = c.negate.ensures ∙ ap negated (to_z-of_z w64 c.in_ok-negated-in-Neg.negated (search rules)) in
    let at = c.args.place.now in let slots = c.args.locals.now.slots.items in
    let old = serial_progress c.args.self.now c.args.memory.now in let new = serial_progress c.value-in-Neg.new.self c.value-in-Neg.new.memory in
    λ layout tells.
    subst (λ (v : ℤ). RanPart layout (value at (term_of c.args.expr.now)) slots slots old new (Returned v)) (sym (to_z-of_z w64 c.negate.result fits ∙ is))
    (subst (λ (e : Expr). RanPart layout (value at (term_of e)) slots slots old new (Returned (negated c.in_ok-negated-in-Neg.negated))) (sym c.in-Neg.is)
    (neg_goes layout at slots (term_of c.in-Neg.operand.value) old new c.in_ok-negated-in-Neg.negated
    (subst (λ (x : Expr). RanPart layout (value at (term_of x)) slots slots old new (Returned c.in_ok-negated-in-Neg.negated)) c.deref-in-Neg.ensures (c.in_ok-negated-in-Neg.ensures layout tells))))

pub returns-in_ok-second-in-Binary : goal.returns-in_ok-second-in-Binary
returns-in_ok-second-in-Binary t c =
    let x = to_z-of_z w64 c.in_ok-first-in-Binary.first (search rules) in
    let y = to_z-of_z w64 c.in_ok-second-in-Binary.second (search rules) in
    let at = c.args.place.now in let slots = c.args.locals.now.slots.items in
    let old = serial_progress c.args.self.now c.args.memory.now in let mid = serial_progress c.value-in-Binary.new.self c.value-in-Binary.new.memory in
    let new = serial_progress c.value-in-Binary-2.new.self c.value-in-Binary-2.new.memory in
    λ layout tells.
    subst (λ (e : Expr). RunsPart layout (value at (term_of e)) slots slots old new c.operate.result) (sym c.in-Binary.is)
    (binary_goes layout at slots c.in-Binary.op c.in-Binary.line (term_of c.in-Binary.left.value) (term_of c.in-Binary.right.value) old mid new c.in_ok-first-in-Binary.first
    (subst (λ (x : Expr). RanPart layout (value at (term_of x)) slots slots old mid (Returned c.in_ok-first-in-Binary.first)) c.deref-in-Binary.ensures (c.in_ok-first-in-Binary.ensures layout tells)) c.in_ok-second-in-Binary.second c.operate.result
    (c.operate.ensures ∙ ap (λ (z : ℤ). ok_or (applied c.in-Binary.op z (to_z w64 (of_z w64 c.in_ok-second-in-Binary.second))) (Stops reason.DivZero c.in-Binary.line)) x
    ∙ ap (λ (z : ℤ). ok_or (applied c.in-Binary.op c.in_ok-first-in-Binary.first z) (Stops reason.DivZero c.in-Binary.line)) y)
    (subst (λ (z : Expr). RanPart layout (value at (term_of z)) slots slots mid new (Returned c.in_ok-second-in-Binary.second)) c.deref-in-Binary-2.ensures (c.in_ok-second-in-Binary.ensures layout tells)))
