use Rattle.std.proofs.Common.{List, [], refl, ap, sym, subst, map}
use Rattle.std.proofs.lemmas.Result.{err_from_is_err_and}
use Rattle.sw_base.specs.Environment.{FolderState}
use Rattle.kernel_syntax.specs.Program.{team_of}
use Rattle.log_replay.specs.Following.{HasReadTo}
use Rattle.log_replay.specs.Forks.{fork_of, standing}
use Rattle.log_replay.specs.declared.forked.Forked.{Forked}
use Rattle.log_replay.proofs.Tasks.{body_stops, task_ends, site_of_start}
use Rattle.log_replay.proofs.lane.ReplayLane.task.Goals as goal

pub returns-in_err-statements-clause-compares : goal.returns-in_err-statements-clause-compares
returns-in_err-statements-clause-compares g c =
    let p = err_from_is_err_and c.from_residual.result c.from_residual.ensures.1 in
    rw (p.1, p.2) (λ log at forks program arrays span.
    body_stops (g.F.Folder.state c.args.folder.now) log program (record { team = team_of c.args.team.now; lane = c.args.place.now.lane; slots = c.args.self.now.locals.slots.items }) c.args.place.now (site_of_start program (team_of c.args.team.now) c.args.place.now.lane c.args.self.now.locals.slots.items c.args.place.now arrays span refl) (standing c.args.self.now) at refl (ap (λ (l : List Forked). map fork_of l) forks) (standing c.statements.new.self) c.in_err-statements.field-0.0 c.in_err-statements.ensures.follows)

pub returns-clause-compares : goal.returns-clause-compares
returns-clause-compares g c = λ log at forks program arrays span.
    let reached = c.in_ok-statements.ensures.follows log [] log at in
    task_ends (g.F.Folder.state c.args.folder.now) log program (record { team = team_of c.args.team.now; lane = c.args.place.now.lane; slots = c.args.self.now.locals.slots.items }) c.args.place.now (site_of_start program (team_of c.args.team.now) c.args.place.now.lane c.args.self.now.locals.slots.items c.args.place.now arrays span refl) (standing c.args.self.now) at refl (ap (λ (l : List Forked). map fork_of l) forks) (standing c.statements.new.self) (standing c.finish.new.self) reached c.finish.result
    (c.finish.ensures.ends log reached.done reached.rest (subst (λ (t : FolderState). HasReadTo t log reached.done reached.rest (standing c.statements.new.self)) (sym c.statements.ensures.reads.same) reached.at))
