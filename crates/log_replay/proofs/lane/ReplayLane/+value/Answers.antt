-- Each kind of expression, from what its parts gave.
use Rattle.std.proofs.Common.{◌≡◌, ℕ, ℤ, ap, sym, subst, ◌∙◌, Ok, Err, pos, w64, to_z, of_z, FitsSigned, rules}
use Rattle.std.specs.Prelude.{slice_index_or, ok_or}
use Rattle.std.proofs.lemmas.Result.{err_from_is_err_and}
use Rattle.std.proofs.lemmas.Int.{to_z-of_z}
use Rattle.kernel_syntax.specs.declared.syntax.Expr.{Expr}
use Rattle.kernel_syntax.specs.Program.{term_of}
use Rattle.kernel_syntax.specs.Arithmetic.{negated, applied}
use Rattle.kernel_syntax.specs.Tree as tree
use Rattle.kernel_model.specs.State.{Gives}
use Rattle.kernel_model.specs.Value.{element_at, loaded, value}
use Rattle.kernel_model.proofs.Equations.{value-Number, value-Tid, value-Span}
use Rattle.log_replay.specs.Following.{FollowsPart}
use Rattle.log_replay.specs.Forks.{standing}
use Rattle.log_replay.specs.declared.stray.Stray.{Stray}
use Rattle.log_replay.specs.declared.stray.Stray.TheVariants.{Differs}
use Rattle.log_replay.proofs.Following.{follows_same, follows_nothing}
use Rattle.log_replay.proofs.Values.{next_number, slot_goes, load_stops, load_goes, neg_stops, neg_goes, left_stops, right_stops, binary_goes}
use Rattle.log_replay.proofs.lane.ReplayLane.+value.Goals as goal

pub returns-in_err-at-in-Load-clause-follows : goal.returns-in_err-at-in-Load-clause-follows
returns-in_err-at-in-Load-clause-follows g t c =
    let p = err_from_is_err_and c.from_residual.result c.from_residual.ensures.1 in
    rw (p.1, p.2)
    (subst (λ (e : Expr). FollowsPart (g.F.Folder.state c.args.folder.now) (value c.args.place.now (term_of e)) (standing c.args.self.now) (standing c.value.new.self) (Err c.in_err-at-in-Load.field-0.0)) (sym c.in-Load.is)
    (load_stops (g.F.Folder.state c.args.folder.now) c.args.place.now (standing c.args.self.now) c.in-Load.array (term_of c.in-Load.index.value) c.in-Load.line c.in-Load.site (standing c.value.new.self) c.in_err-at-in-Load.field-0.0
    (subst (λ (x : Expr). FollowsPart (g.F.Folder.state c.args.folder.now) (value c.args.place.now (term_of x)) (standing c.args.self.now) (standing c.value.new.self) (Err c.in_err-at-in-Load.field-0.0)) c.deref.ensures c.in_err-at-in-Load.ensures.follows)))

pub returns-in_err-negated-in-Neg-clause-follows : goal.returns-in_err-negated-in-Neg-clause-follows
returns-in_err-negated-in-Neg-clause-follows g t c =
    let p = err_from_is_err_and c.from_residual-in_err-negated-in-Neg.result c.from_residual-in_err-negated-in-Neg.ensures.1 in
    rw (p.1, p.2)
    (subst (λ (e : Expr). FollowsPart (g.F.Folder.state c.args.folder.now) (value c.args.place.now (term_of e)) (standing c.args.self.now) (standing c.value-in-Neg.new.self) (Err c.in_err-negated-in-Neg.field-0.0)) (sym c.in-Neg.is)
    (neg_stops (g.F.Folder.state c.args.folder.now) c.args.place.now (standing c.args.self.now) (term_of c.in-Neg.operand.value) (standing c.value-in-Neg.new.self) c.in_err-negated-in-Neg.field-0.0
    (subst (λ (x : Expr). FollowsPart (g.F.Folder.state c.args.folder.now) (value c.args.place.now (term_of x)) (standing c.args.self.now) (standing c.value-in-Neg.new.self) (Err c.in_err-negated-in-Neg.field-0.0)) c.deref-in-Neg.ensures c.in_err-negated-in-Neg.ensures.follows)))

pub returns-in_err-first-in-Binary-clause-follows : goal.returns-in_err-first-in-Binary-clause-follows
returns-in_err-first-in-Binary-clause-follows g t c =
    let p = err_from_is_err_and c.from_residual-in_err-first-in-Binary.result c.from_residual-in_err-first-in-Binary.ensures.1 in
    rw (p.1, p.2)
    (subst (λ (e : Expr). FollowsPart (g.F.Folder.state c.args.folder.now) (value c.args.place.now (term_of e)) (standing c.args.self.now) (standing c.value-in-Binary.new.self) (Err c.in_err-first-in-Binary.field-0.0)) (sym c.in-Binary.is)
    (left_stops (g.F.Folder.state c.args.folder.now) c.args.place.now (standing c.args.self.now) c.in-Binary.op c.in-Binary.line (term_of c.in-Binary.left.value) (term_of c.in-Binary.right.value) (standing c.value-in-Binary.new.self) c.in_err-first-in-Binary.field-0.0
    (subst (λ (x : Expr). FollowsPart (g.F.Folder.state c.args.folder.now) (value c.args.place.now (term_of x)) (standing c.args.self.now) (standing c.value-in-Binary.new.self) (Err c.in_err-first-in-Binary.field-0.0)) c.deref-in-Binary.ensures c.in_err-first-in-Binary.ensures.follows)))

pub returns-in_err-second-in-Binary-clause-follows : goal.returns-in_err-second-in-Binary-clause-follows
returns-in_err-second-in-Binary-clause-follows g t c =
    let p = err_from_is_err_and c.from_residual-in_err-second-in-Binary.result c.from_residual-in_err-second-in-Binary.ensures.1 in
    rw (p.1, p.2)
    (subst (λ (e : Expr). FollowsPart (g.F.Folder.state c.args.folder.now) (value c.args.place.now (term_of e)) (standing c.args.self.now) (standing c.value-in-Binary-2.new.self) (Err c.in_err-second-in-Binary.field-0.0)) (sym c.in-Binary.is)
    (right_stops (g.F.Folder.state c.args.folder.now) c.args.place.now (standing c.args.self.now) c.in-Binary.op c.in-Binary.line (term_of c.in-Binary.left.value) (term_of c.in-Binary.right.value) (g.F.Folder.state c.value-in-Binary.new.folder) c.value-in-Binary.ensures.reads.same c.in_ok-first-in-Binary.first (standing c.value-in-Binary.new.self)
    (subst (λ (x : Expr). FollowsPart (g.F.Folder.state c.args.folder.now) (value c.args.place.now (term_of x)) (standing c.args.self.now) (standing c.value-in-Binary.new.self) (Ok c.in_ok-first-in-Binary.first)) c.deref-in-Binary.ensures c.in_ok-first-in-Binary.ensures.follows)
    (standing c.value-in-Binary-2.new.self) c.in_err-second-in-Binary.field-0.0
    (subst (λ (x : Expr). FollowsPart (g.F.Folder.state c.value-in-Binary.new.folder) (value c.args.place.now (term_of x)) (standing c.value-in-Binary.new.self) (standing c.value-in-Binary-2.new.self) (Err c.in_err-second-in-Binary.field-0.0)) c.deref-in-Binary-2.ensures c.in_err-second-in-Binary.ensures.follows)))

pub returns-in-Number-clause-follows : goal.returns-in-Number-clause-follows
returns-in-Number-clause-follows g t c =
    let fits : FitsSigned w64 c.in-Number.number = search rules in
    subst (λ (v : ℤ). FollowsPart (g.F.Folder.state c.args.folder.now) (value c.args.place.now (term_of c.args.expr.now)) (standing c.args.self.now) (standing c.args.self.now) (Ok v)) (sym (to_z-of_z w64 c.in-Number.number fits))
    (subst (λ (e : Expr). FollowsPart (g.F.Folder.state c.args.folder.now) (value c.args.place.now (term_of e)) (standing c.args.self.now) (standing c.args.self.now) (Ok c.in-Number.number)) (sym c.in-Number.is)
    (follows_same (g.F.Folder.state c.args.folder.now) (λ s. Gives c.in-Number.number s) (value c.args.place.now (tree.Number c.in-Number.number)) (standing c.args.self.now) (standing c.args.self.now) (Ok c.in-Number.number) (value-Number c.args.place.now c.in-Number.number) (follows_nothing (g.F.Folder.state c.args.folder.now) c.in-Number.number (standing c.args.self.now))))

pub returns-in-Slot-clause-follows : goal.returns-in-Slot-clause-follows
returns-in-Slot-clause-follows g t c =
    let fits : FitsSigned w64 c.get.result = search rules in
    subst (λ (v : ℤ). FollowsPart (g.F.Folder.state c.args.folder.now) (value c.args.place.now (term_of c.args.expr.now)) (standing c.args.self.now) (standing c.args.self.now) (Ok v)) (sym (to_z-of_z w64 c.get.result fits ∙ c.get.ensures))
    (subst (λ (e : Expr). FollowsPart (g.F.Folder.state c.args.folder.now) (value c.args.place.now (term_of e)) (standing c.args.self.now) (standing c.args.self.now) (Ok (slice_index_or c.args.self.now.locals.slots.items c.in-Slot.slot (pos 0)))) (sym c.in-Slot.is)
    (slot_goes (g.F.Folder.state c.args.folder.now) c.args.place.now c.in-Slot.slot (standing c.args.self.now)))

pub returns-in-Tid-clause-follows : goal.returns-in-Tid-clause-follows
returns-in-Tid-clause-follows g t c =
    let fits : FitsSigned w64 c.from.result = search rules in
    subst (λ (v : ℤ). FollowsPart (g.F.Folder.state c.args.folder.now) (value c.args.place.now (term_of c.args.expr.now)) (standing c.args.self.now) (standing c.args.self.now) (Ok v)) (sym (to_z-of_z w64 c.from.result fits ∙ c.from.ensures ∙ ap (λ (n : ℕ). pos n) c.lane.ensures))
    (subst (λ (e : Expr). FollowsPart (g.F.Folder.state c.args.folder.now) (value c.args.place.now (term_of e)) (standing c.args.self.now) (standing c.args.self.now) (Ok (pos c.args.place.now.lane))) (sym c.in-Tid.is)
    (follows_same (g.F.Folder.state c.args.folder.now) (λ s. Gives (pos c.args.place.now.lane) s) (value c.args.place.now tree.Tid) (standing c.args.self.now) (standing c.args.self.now) (Ok (pos c.args.place.now.lane)) (value-Tid c.args.place.now) (follows_nothing (g.F.Folder.state c.args.folder.now) (pos c.args.place.now.lane) (standing c.args.self.now))))

pub returns-in-Span-clause-follows : goal.returns-in-Span-clause-follows
returns-in-Span-clause-follows g t c =
    let fits : FitsSigned w64 c.from-in-Span.result = search rules in
    subst (λ (v : ℤ). FollowsPart (g.F.Folder.state c.args.folder.now) (value c.args.place.now (term_of c.args.expr.now)) (standing c.args.self.now) (standing c.args.self.now) (Ok v)) (sym (to_z-of_z w64 c.from-in-Span.result fits ∙ c.from-in-Span.ensures ∙ ap (λ (n : ℕ). pos n) c.span.ensures.span))
    (subst (λ (e : Expr). FollowsPart (g.F.Folder.state c.args.folder.now) (value c.args.place.now (term_of e)) (standing c.args.self.now) (standing c.args.self.now) (Ok (pos c.args.place.now.span))) (sym c.in-Span.is)
    (follows_same (g.F.Folder.state c.args.folder.now) (λ s. Gives (pos c.args.place.now.span) s) (value c.args.place.now tree.Span) (standing c.args.self.now) (standing c.args.self.now) (Ok (pos c.args.place.now.span)) (value-Span c.args.place.now) (follows_nothing (g.F.Folder.state c.args.folder.now) (pos c.args.place.now.span) (standing c.args.self.now))))

pub returns-in_ok-at-in-Load-clause-follows : goal.returns-in_ok-at-in-Load-clause-follows
returns-in_ok-at-in-Load-clause-follows g t c =
    subst (λ (e : Expr). FollowsPart (g.F.Folder.state c.args.folder.now) (value c.args.place.now (term_of e)) (standing c.args.self.now) (standing c.load.new.self) c.load.result) (sym c.in-Load.is)
    (load_goes (g.F.Folder.state c.args.folder.now) c.args.place.now (standing c.args.self.now) c.in-Load.array (term_of c.in-Load.index.value) c.in-Load.line c.in-Load.site (g.F.Folder.state c.value.new.folder) c.value.ensures.reads.same (standing c.value.new.self) (standing c.load.new.self) c.in_ok-at-in-Load.at c.load.result
    (subst (λ (x : Expr). FollowsPart (g.F.Folder.state c.args.folder.now) (value c.args.place.now (term_of x)) (standing c.args.self.now) (standing c.value.new.self) (Ok c.in_ok-at-in-Load.at)) c.deref.ensures c.in_ok-at-in-Load.ensures.follows)
    (subst (λ (i : ℤ). FollowsPart (g.F.Folder.state c.value.new.folder) (loaded (element_at c.args.place.now.arrays c.in-Load.array i) c.in-Load.line c.in-Load.site) (standing c.value.new.self) (standing c.load.new.self) c.load.result)
    (to_z-of_z w64 c.in_ok-at-in-Load.at (search rules)) c.load.ensures.follows))

pub returns-in_ok-negated-in-Neg-clause-follows : goal.returns-in_ok-negated-in-Neg-clause-follows
returns-in_ok-negated-in-Neg-clause-follows g t c =
    let fits : FitsSigned w64 c.negate.result = search rules in
    let is : c.negate.result ≡ negated c.in_ok-negated-in-Neg.negated = c.negate.ensures ∙ ap negated (to_z-of_z w64 c.in_ok-negated-in-Neg.negated (search rules)) in
    subst (λ (v : ℤ). FollowsPart (g.F.Folder.state c.args.folder.now) (value c.args.place.now (term_of c.args.expr.now)) (standing c.args.self.now) (standing c.value-in-Neg.new.self) (Ok v)) (sym (to_z-of_z w64 c.negate.result fits ∙ is))
    (subst (λ (e : Expr). FollowsPart (g.F.Folder.state c.args.folder.now) (value c.args.place.now (term_of e)) (standing c.args.self.now) (standing c.value-in-Neg.new.self) (Ok (negated c.in_ok-negated-in-Neg.negated))) (sym c.in-Neg.is)
    (neg_goes (g.F.Folder.state c.args.folder.now) c.args.place.now (standing c.args.self.now) (term_of c.in-Neg.operand.value) (standing c.value-in-Neg.new.self) c.in_ok-negated-in-Neg.negated
    (subst (λ (x : Expr). FollowsPart (g.F.Folder.state c.args.folder.now) (value c.args.place.now (term_of x)) (standing c.args.self.now) (standing c.value-in-Neg.new.self) (Ok c.in_ok-negated-in-Neg.negated)) c.deref-in-Neg.ensures c.in_ok-negated-in-Neg.ensures.follows)))

pub returns-in_ok-second-in-Binary-clause-follows : goal.returns-in_ok-second-in-Binary-clause-follows
returns-in_ok-second-in-Binary-clause-follows g t c =
    let x = to_z-of_z w64 c.in_ok-first-in-Binary.first (search rules) in
    let y = to_z-of_z w64 c.in_ok-second-in-Binary.second (search rules) in
    subst (λ (e : Expr). FollowsPart (g.F.Folder.state c.args.folder.now) (value c.args.place.now (term_of e)) (standing c.args.self.now) (standing c.value-in-Binary-2.new.self) c.operate.result) (sym c.in-Binary.is)
    (binary_goes (g.F.Folder.state c.args.folder.now) c.args.place.now (standing c.args.self.now) c.in-Binary.op c.in-Binary.line (term_of c.in-Binary.left.value) (term_of c.in-Binary.right.value) (g.F.Folder.state c.value-in-Binary.new.folder) c.value-in-Binary.ensures.reads.same c.in_ok-first-in-Binary.first (standing c.value-in-Binary.new.self)
    (subst (λ (x : Expr). FollowsPart (g.F.Folder.state c.args.folder.now) (value c.args.place.now (term_of x)) (standing c.args.self.now) (standing c.value-in-Binary.new.self) (Ok c.in_ok-first-in-Binary.first)) c.deref-in-Binary.ensures c.in_ok-first-in-Binary.ensures.follows)
    c.in_ok-second-in-Binary.second (standing c.value-in-Binary-2.new.self) c.operate.result
    (subst (λ (x : Expr). FollowsPart (g.F.Folder.state c.value-in-Binary.new.folder) (value c.args.place.now (term_of x)) (standing c.value-in-Binary.new.self) (standing c.value-in-Binary-2.new.self) (Ok c.in_ok-second-in-Binary.second)) c.deref-in-Binary-2.ensures c.in_ok-second-in-Binary.ensures.follows)
    (c.operate.ensures ∙ ap (λ (e : Stray). ok_or (applied c.in-Binary.op (to_z w64 (of_z w64 c.in_ok-first-in-Binary.first)) (to_z w64 (of_z w64 c.in_ok-second-in-Binary.second))) e) c.stray.ensures
    ∙ ap (λ (z : ℤ). ok_or (applied c.in-Binary.op z (to_z w64 (of_z w64 c.in_ok-second-in-Binary.second))) (Differs (next_number (standing c.value-in-Binary-2.new.self)))) x
    ∙ ap (λ (z : ℤ). ok_or (applied c.in-Binary.op c.in_ok-first-in-Binary.first z) (Differs (next_number (standing c.value-in-Binary-2.new.self)))) y))
