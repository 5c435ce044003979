use Rattle.std.proofs.Common.{[], get_or, arith}
use Rattle.std.proofs.lemmas.Option.{slice_get-get_or}
use Rattle.race_model.specs.Row.{Row}
use Rattle.log_walk.proofs.taking.walk_next.Goals as goal

pub take_over-requires-clause-from : goal.take_over-requires-clause-from
take_over-requires-clause-from g c =
    let read = c.in-Some.ensures.is c.args.format (g.F.Folder.state c.args.folder.now).content c.args.dir.now c.requires.ahead in
    omega (arith, read.checks.good.sum)

pub take_over-requires-clause-fits : goal.take_over-requires-clause-fits
take_over-requires-clause-fits g c =
    let none : Row = record { path = []; records = 0 } in
    (c.in-Some.ensures.agrees c.args.format c.requires.stands.0 (get_or c.args.rows.now c.args.stack.now.place none) c.requires.stands.1 (slice_get-get_or c.args.rows.now c.args.stack.now.place none c.requires.within)).limit

pub returns-in_err-take_over-in-Some-clause-left : goal.returns-in_err-take_over-in-Some-clause-left
returns-in_err-take_over-in-Some-clause-left g c = c.take.ensures.left c.args.format (g.F.Folder.state c.args.folder.now).content c.args.dir.now c.requires.ahead

pub returns-in_ok-take_over-in-Some-clause-walks : goal.returns-in_ok-take_over-in-Some-clause-walks
returns-in_ok-take_over-in-Some-clause-walks g c = λ trace row stands found.
    let told = (g.F.Folder.state c.args.folder.now).content in
    c.in_ok-take_over-in-Some.ensures.walks c.args.format told c.args.dir.now c.args.rows.now trace row c.requires.rows stands found (c.in-Some.ensures.is c.args.format told c.args.dir.now c.requires.ahead) c.in-Some.ensures.place
    (c.in-Some.ensures.agrees c.args.format trace row stands found)

pub returns-in_ok-take_over-in-Some-clause-left : goal.returns-in_ok-take_over-in-Some-clause-left
returns-in_ok-take_over-in-Some-clause-left g c = c.take.ensures.left c.args.format (g.F.Folder.state c.args.folder.now).content c.args.dir.now c.requires.ahead

pub returns-in-None-clause-left : goal.returns-in-None-clause-left
returns-in-None-clause-left g c = c.take.ensures.left c.args.format (g.F.Folder.state c.args.folder.now).content c.args.dir.now c.requires.ahead
