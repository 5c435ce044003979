use Rattle.std.proofs.Common.{ap, sym, ◌∙◌, subst}
use Rattle.kernel_syntax.specs.declared.syntax.Stmt.{Stmt}
use Rattle.kernel_syntax.specs.Program.{stmt_code}
use Rattle.kernel_syntax.specs.Tree.{Code, Done}
use Rattle.kernel_syntax.proofs.Equations.{stmt_code-Set, stmt_code-Store, stmt_code-Update}
use Rattle.kernel_model.specs.Trace.{run}
use Rattle.log_replay.specs.Following.{FollowsPart}
use Rattle.log_replay.specs.Forks.{standing}
use Rattle.task_place.proofs.Assigning.{assignment_only}
use Rattle.log_replay.proofs.lane.ReplayLane.assignment.Goals as goal

pub returns-in-Set-clause-follows : goal.returns-in-Set-clause-follows
returns-in-Set-clause-follows g c =
    subst (λ (x : Code). FollowsPart (g.F.Folder.state c.args.folder.now) (run c.args.place.now x) (standing c.args.self.now) (standing c.assign.new.self) c.assign.result) (sym (ap (λ (s : Stmt). stmt_code s Done) c.in-Set.is ∙ stmt_code-Set c.in-Set.slot c.in-Set.value Done))
    (c.assign.ensures.follows)

pub returns-in-Store-clause-follows : goal.returns-in-Store-clause-follows
returns-in-Store-clause-follows g c =
    subst (λ (x : Code). FollowsPart (g.F.Folder.state c.args.folder.now) (run c.args.place.now x) (standing c.args.self.now) (standing c.change.new.self) c.change.result) (sym (ap (λ (s : Stmt). stmt_code s Done) c.in-Store.is ∙ stmt_code-Store c.in-Store.array c.in-Store.index c.in-Store.value c.in-Store.line c.in-Store.site Done))
    (c.change.ensures.follows)

pub returns-in-Update-clause-follows : goal.returns-in-Update-clause-follows
returns-in-Update-clause-follows g c =
    subst (λ (x : Code). FollowsPart (g.F.Folder.state c.args.folder.now) (run c.args.place.now x) (standing c.args.self.now) (standing c.change-in-Update.new.self) c.change-in-Update.result) (sym (ap (λ (s : Stmt). stmt_code s Done) c.in-Update.is ∙ stmt_code-Update c.in-Update.array c.in-Update.index c.in-Update.value c.in-Update.minus c.in-Update.line c.in-Update.site Done))
    (c.change-in-Update.ensures.follows)

pub unreachable-requires : goal.unreachable-requires
unreachable-requires g c = assignment_only c.args.stmt.now c.requires.assigns c.in_default.not-Set c.in_default.not-Store c.in_default.not-Update
