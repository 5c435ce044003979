use Rattle.std.proofs.Common.{◌≡◌, ap, sym, ◌∙◌, subst, Ok, Err, List, [], ◌∷◌, ◌++◌, ℤ, map, rules}
use Rattle.std.proofs.lemmas.List.{map-append}
use Rattle.kernel_syntax.specs.Tree as tree
use Rattle.log_replay.specs.declared.forked.Forked.{Forked}
use Rattle.std.proofs.lemmas.Result.{err_from_is_err_and}
use Rattle.log_format.specs.declared.record.Record.{Record}
use Rattle.kernel_model.specs.State.{Fork, put}
use Rattle.kernel_syntax.specs.Program.{code_of, team_of}
use Rattle.kernel_model.specs.Trace.{run}
use Rattle.log_replay.specs.Following.{FollowsPart}
use Rattle.log_replay.specs.Forks.{fork_of, standing}
use Rattle.log_replay.proofs.Statements.{fork_stops, fork_goes}
use Rattle.log_replay.proofs.lane.ReplayLane.fork.Goals as goal

pub returns-in_err-put-clause-follows : goal.returns-in_err-put-clause-follows
returns-in_err-put-clause-follows g c =
    let p = err_from_is_err_and c.from_residual.result c.from_residual.ensures.1 in
    rw (p.1, p.2)
    (fork_stops (g.F.Folder.state c.args.folder.now) c.args.place.now (team_of c.args.team.now) (standing c.args.self.now) (standing c.put.new.self) c.in_err-put.field-0.0
    (subst (λ (r : Record). FollowsPart (g.F.Folder.state c.args.folder.now) (put r) (standing c.args.self.now) (standing c.put.new.self) (Err c.in_err-put.field-0.0)) (search rules) c.in_err-put.ensures.follows))

pub returns-clause-follows : goal.returns-clause-follows
returns-clause-follows g c =
    let slots_are : c.in_ok-slots.slots.items ≡ c.put.new.self.locals.slots.items = search rules in
    let forks_are : map fork_of c.push.new.self.items ≡ map fork_of c.put.new.self.forks.items ++ record { team = team_of c.args.team.now; slots = c.put.new.self.locals.slots.items } ∷ [] =
    ap (λ (l : List Forked). map fork_of l) c.in_ok-push.ensures.items ∙ map-append fork_of c.put.new.self.forks.items _
    ∙ ap (λ (l : List ℤ). map fork_of c.put.new.self.forks.items ++ record { team = team_of c.args.team.now; slots = l } ∷ []) slots_are in
    subst (λ (fs : List Fork). FollowsPart (g.F.Folder.state c.args.folder.now) (run c.args.place.now (tree.Parallel c.args.team.now.span c.args.team.now.line c.args.team.now.end (code_of c.args.team.now.body.stmts.items) tree.Done)) (standing c.args.self.now)
    (record { slots = c.put.new.self.locals.slots.items; forks = fs; reading = c.put.new.self.reader; count = c.put.new.self.count }) (Ok tt)) (sym forks_are)
    (fork_goes (g.F.Folder.state c.args.folder.now) c.args.place.now (team_of c.args.team.now) (standing c.args.self.now) (standing c.put.new.self)
    (subst (λ (r : Record). FollowsPart (g.F.Folder.state c.args.folder.now) (put r) (standing c.args.self.now) (standing c.put.new.self) (Ok tt)) (search rules) c.in_ok-put.ensures.follows))
