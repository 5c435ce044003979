use Rattle.std.proofs.Common.{◌≡◌, ◌<◌, List, Option, ℕ, length, ap, subst, arith, rules}
use Rattle.std.proofs.lemmas.Result.{err_from_is_err_and}
use Rattle.log_walk.specs.LogSoFar.{LogSoFar}
use Rattle.log_walk.specs.Rules.{log_task_of}
use Rattle.log_walk.specs.Unread.{unread}
use Rattle.log_walk.proofs.LogSoFar.{log_cut}
use Rattle.log_walk.proofs.check.next_records.Goals as goal

pub walk_ahead-requires-clause-so : goal.walk_ahead-requires-clause-so
walk_ahead-requires-clause-so g c =
    let r = c.requires.so in
    (r.0, g.T.File.rest c.fill.new.file, r.1, r.2, r.3, subst (λ (left : Option (List ℕ)). LogSoFar c.args.format r.0 (log_task_of c.args.task.now) r.1 r.2 c.args.state.now c.args.walk.now left r.3 c.args.found.now.items c.args.before) (search rules) r.4)

pub returns-in_err-after-clause-refused : goal.returns-in_err-after-clause-refused
returns-in_err-after-clause-refused g c =
    let p = err_from_is_err_and c.from_residual-in_err-after.result c.from_residual-in_err-after.ensures.1 in
    rw (p.1, p.2) (λ bytes opened label old so. c.in_err-after.ensures.refused (g.T.File.rest c.fill.new.file) bytes opened label old
    (subst (λ (left : Option (List ℕ)). LogSoFar c.args.format bytes (log_task_of c.args.task.now) opened label c.args.state.now c.args.walk.now left old c.args.found.now.items c.args.before) (search rules) so))

pub returns-then-after-before-clause-refused : goal.returns-then-after-before-clause-refused
returns-then-after-before-clause-refused g c = λ bytes opened label old so.
    let same : c.in_ok-after.after ≡ c.args.before = search rules in
    let shown : length c.ahead-ahead.result.now ≡ length c.fill.new.self = ap (λ (bs : List ℕ). length bs) c.ahead-ahead.ensures in
    let short : length c.fill.new.self < 24 = omega (arith, c.in_ok-after.ensures.all, c.requires.before, same, shown) in
    log_cut bytes (g.T.File.rest c.fill.new.file) (log_task_of c.args.task.now) opened label c.args.state.now c.args.walk.now c.fill.new.self old c.args.found.now.items c.args.before (unread c.args.window.now (g.T.File.rest c.args.file.now)) so c.in_ok-fill.ensures.unread
    c.requires.before short c.in_ok-fill.ensures.next
