use Rattle.std.proofs.Common.{ap, sym, ◌∙◌, subst, ℤ, Ok, w64, rules}
use Rattle.std.proofs.lemmas.Result.{err_from_is_err_and}
use Rattle.std.proofs.lemmas.Int.{to_z-of_z}
use Rattle.kernel_syntax.specs.Program.{term_of}
use Rattle.kernel_syntax.specs.Tree as tree
use Rattle.kernel_model.specs.Trace.{run}
use Rattle.log_replay.specs.Following.{Standing, FollowsPart}
use Rattle.log_replay.specs.Forks.{standing}
use Rattle.log_replay.proofs.Statements.{assigned, set_stops, set_goes}
use Rattle.log_replay.proofs.lane.ReplayLane.assign.Goals as goal

pub returns-in_err-number-clause-follows : goal.returns-in_err-number-clause-follows
returns-in_err-number-clause-follows g c =
    let p = err_from_is_err_and c.from_residual.result c.from_residual.ensures.1 in
    rw (p.1, p.2)
    (set_stops (g.F.Folder.state c.args.folder.now) c.args.place.now c.args.slot (term_of c.args.expr.now) (standing c.args.self.now) (standing c.value.new.self) c.in_err-number.field-0.0 c.in_err-number.ensures.follows)

pub returns-clause-follows : goal.returns-clause-follows
returns-clause-follows g c =
    subst (λ (x : Standing). FollowsPart (g.F.Folder.state c.args.folder.now) (run c.args.place.now (tree.Set c.args.slot (term_of c.args.expr.now) tree.Done)) (standing c.args.self.now) x (Ok tt))
    (ap (λ (z : ℤ). assigned c.args.slot z (standing c.value.new.self)) (sym (to_z-of_z w64 c.in_ok-number.number (search rules))) ∙ sym c.set.ensures.set)
    (set_goes (g.F.Folder.state c.args.folder.now) c.args.place.now c.args.slot (term_of c.args.expr.now) (standing c.args.self.now) (standing c.value.new.self) c.in_ok-number.number c.in_ok-number.ensures.follows)
