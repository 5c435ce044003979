use Rattle.std.proofs.Common.{ap, ◌∙◌, subst, ℤ, Ok, Err, w64, to_z, of_z, FitsSigned, rules}
use Rattle.std.proofs.lemmas.Result.{err_from_is_err_and}
use Rattle.std.proofs.lemmas.Int.{to_z-of_z}
use Rattle.kernel_syntax.specs.Program.{term_of}
use Rattle.kernel_model.specs.Changing.{amount, kind_of}
use Rattle.kernel_model.specs.Trace.{changed}
use Rattle.kernel_model.specs.Value.{element_at, value}
use Rattle.log_replay.specs.Following.{FollowsPart}
use Rattle.log_replay.specs.Forks.{standing}
use Rattle.log_replay.proofs.Following.{retold}
use Rattle.log_replay.proofs.Statements.{index_stops, value_stops, change_goes}
use Rattle.log_replay.proofs.lane.ReplayLane.change.Goals as goal

pub returns-in_err-at-clause-follows : goal.returns-in_err-at-clause-follows
returns-in_err-at-clause-follows g c =
    let p = err_from_is_err_and c.from_residual.result c.from_residual.ensures.1 in
    rw (p.1, p.2)
    (index_stops (g.F.Folder.state c.args.folder.now) c.args.change c.args.place.now c.args.array (term_of c.args.index.now) (term_of c.args.expr.now) c.args.line c.args.site (standing c.args.self.now) (standing c.value.new.self) c.in_err-at.field-0.0 c.in_err-at.ensures.follows)

pub returns-in_err-number-clause-follows : goal.returns-in_err-number-clause-follows
returns-in_err-number-clause-follows g c =
    let p = err_from_is_err_and c.from_residual-in_err-number.result c.from_residual-in_err-number.ensures.1 in
    rw (p.1, p.2)
    (value_stops (g.F.Folder.state c.args.folder.now) c.args.change c.args.place.now c.args.array (term_of c.args.index.now) (term_of c.args.expr.now) c.args.line c.args.site (standing c.args.self.now) c.in_ok-at.at (standing c.value.new.self) c.in_ok-at.ensures.follows (standing c.value-2.new.self) c.in_err-number.field-0.0
    (retold (g.F.Folder.state c.args.folder.now) (g.F.Folder.state c.value.new.folder) (value c.args.place.now (term_of c.args.expr.now)) (standing c.value.new.self) (standing c.value-2.new.self) (Err c.in_err-number.field-0.0) c.value.ensures.reads.same c.in_err-number.ensures.follows))

pub returns-clause-follows : goal.returns-clause-follows
returns-clause-follows g c =
    let i : FitsSigned w64 c.in_ok-at.at = search rules in
    let v : FitsSigned w64 c.in_ok-number.number = search rules in
    let a : FitsSigned w64 c.amount-amount.result = search rules in
    let Ends : ℤ → ℤ → Type 0 = λ x z. FollowsPart (g.F.Folder.state c.args.folder.now) (changed (kind_of c.args.change) (element_at c.args.place.now.arrays c.args.array x) z c.args.line c.args.site) (standing c.value-2.new.self) (standing c.put_value.new.self) c.put_value.result in
    change_goes (g.F.Folder.state c.args.folder.now) c.args.change c.args.place.now c.args.array (term_of c.args.index.now) (term_of c.args.expr.now) c.args.line c.args.site (standing c.args.self.now) c.in_ok-at.at (standing c.value.new.self) c.in_ok-at.ensures.follows (standing c.value-2.new.self) (standing c.put_value.new.self) c.in_ok-number.number c.put_value.result
    (retold (g.F.Folder.state c.args.folder.now) (g.F.Folder.state c.value.new.folder) (value c.args.place.now (term_of c.args.expr.now)) (standing c.value.new.self) (standing c.value-2.new.self) (Ok c.in_ok-number.number) c.value.ensures.reads.same c.in_ok-number.ensures.follows)
    (subst (λ (z : ℤ). Ends c.in_ok-at.at z) (to_z-of_z w64 c.amount-amount.result a ∙ c.amount-amount.ensures ∙ ap (λ (z : ℤ). amount c.args.change z) (to_z-of_z w64 c.in_ok-number.number v))
    (subst (λ (x : ℤ). Ends x (to_z w64 (of_z w64 c.amount-amount.result))) (to_z-of_z w64 c.in_ok-at.at i)
    (retold (g.F.Folder.state c.args.folder.now) (g.F.Folder.state c.value-2.new.folder) (changed (kind_of c.args.change) (element_at c.args.place.now.arrays c.args.array (to_z w64 (of_z w64 c.in_ok-at.at))) (to_z w64 (of_z w64 c.amount-amount.result)) c.args.line c.args.site) (standing c.value-2.new.self) (standing c.put_value.new.self) c.put_value.result
    (c.value-2.ensures.reads.same ∙ c.value.ensures.reads.same) c.put_value.ensures.follows)))
