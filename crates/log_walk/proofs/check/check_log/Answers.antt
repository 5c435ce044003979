use Rattle.std.proofs.Common.{rules, ◌≡◌, ◌++◌, List, ℕ, length, sym, ap, subst, ◌∙◌, arith}
use Rattle.std.specs.Option.{option_map}
use Rattle.std.proofs.lemmas.Result.{err_from_is_err_and}
use Rattle.race_model.specs.Label.{Triple}
use Rattle.log_segment.specs.declared.walking.Walk.{Walk}
use Rattle.log_segment.specs.Walking.{WalksLog}
use Rattle.log_segment.proofs.Passing.{walked_all}
use Rattle.log_walk.specs.Rules.{log_task_of}
use Rattle.log_walk.specs.Unread.{unread}
use Rattle.log_walk.proofs.Left.{good_log}
use Rattle.log_walk.proofs.LogSoFar.{log_extra, log_none, log_whole}
use Rattle.log_walk.proofs.check.check_log.Goals as goal

pub windows-init : goal.windows-init
windows-init g c =
    let left = unread c.pass_header.new.self (g.T.File.rest c.pass_header.new.file) in
    record {
      so = log_none (g.T.File.rest c.args.file.now) left (log_task_of c.args.task.now) c.args.opened c.args.label c.new-state.result c.new-walk.result c.args.found.now.items c.requires.opened c.requires.own
          c.new-state.ensures c.new-walk.ensures.label c.new-walk.ensures.first c.new-walk.ensures.summary c.new-walk.ensures.forks
          (c.in_ok-pass_header.ensures.passed (search rules) ∙ ap (λ (header : List ℕ). option_map (λ (rest : List ℕ). header ++ rest) left) c.log_header.ensures);
      within = omega arith;
      no_fault = search rules;
    }

pub next_records-requires-clause-so : goal.next_records-requires-clause-so
next_records-requires-clause-so g c κs within = (g.T.File.rest c.args.file.now, c.args.opened, c.args.label, c.args.found.now.items, c.windows.invariant.so)

pub returns-in_err-index-clause-refused : goal.returns-in_err-index-clause-refused
returns-in_err-index-clause-refused g c =
    let p = err_from_is_err_and c.from_residual-in_err-index.result c.from_residual-in_err-index.ensures.1 in
    rw (p.1, p.2) (c.in_err-index.ensures.refused (g.T.File.rest c.args.file.now) c.args.opened c.args.label c.args.found.now.items c.windows.invariant.so)

pub returns-then-not-is_empty-clause-refused : goal.returns-then-not-is_empty-clause-refused
returns-then-not-is_empty-clause-refused g c =
    log_extra (g.T.File.rest c.args.file.now) (g.T.File.rest c.fill.new.file) (log_task_of c.args.task.now) c.args.opened c.args.label c.windows.state c.windows.walk c.fill.new.self c.args.found.now.items c.windows.found.items c.windows.index
    (unread c.windows.window (g.T.File.rest c.windows.file)) c.windows.invariant.so c.in_ok-fill.ensures.unread (omega arith) (search (rules, arith))

pub returns-clause-good : goal.returns-clause-good
returns-clause-good g c =
    let task = log_task_of c.args.task.now in
    let known = c.windows.invariant.so in
    let all : c.windows.index ≡ c.args.task.now.records = omega arith in
    let none : length c.fill.new.self ≡ 0 = search (rules, arith) in
    record {
      records = known.records;
      good = good_log task c.args.opened c.windows.state known.records c.windows.index known.checks all;
      barriers = known.checks.follows.barriers;
      whole = log_whole (g.T.File.rest c.args.file.now) (g.T.File.rest c.fill.new.file) task c.args.opened c.args.label c.windows.state c.windows.walk c.fill.new.self c.args.found.now.items c.windows.found.items c.windows.index
          (unread c.windows.window (g.T.File.rest c.windows.file)) known c.in_ok-fill.ensures.unread none c.in_ok-fill.ensures.next;
      walks = subst (λ (forks : List (List Triple)). WalksLog c.args.task.now.path c.args.label known.records forks c.args.found.now.items c.close.new.found.items) (ap (λ (w : Walk). w.forks.items) (sym c.in_ok-close.ensures.same))
          (walked_all c.args.task.now.path c.args.label known.records c.windows.walk c.args.task.now.records c.args.found.now.items c.windows.found.items c.close.new.found.items known.walked (sym (known.checks.count ∙ all))
          c.in_ok-close.ensures.empty c.in_ok-close.ensures.added);
    }
