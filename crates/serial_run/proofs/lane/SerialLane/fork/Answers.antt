use Rattle.std.proofs.Common.{◌≡◌, Err, refl, ap, ◌∙◌, subst, ℕ}
use Rattle.std.proofs.lemmas.Result.{err_from_is_err_and}
use Rattle.log_format.specs.declared.record.Kind.TheVariants as kind
use Rattle.log_format.specs.declared.record.Record.{Record}
use Rattle.kernel_syntax.specs.Program.{team_of}
use Rattle.kernel_syntax.specs.Tree as tree
use Rattle.kernel_syntax.specs.Tree.{Done}
use Rattle.kernel_model.specs.State.{State, after, event}
use Rattle.kernel_model.specs.Trace.{run, forked}
use Rattle.kernel_model.proofs.Equations.{run-Parallel, put-full}
use Rattle.serial_run.specs.Going.{LogsRecord, Marks, serial_progress}
use Rattle.serial_run.specs.Stepping.{stand}
use Rattle.serial_run.proofs.Leading.{stepped_still}
use Rattle.serial_run.proofs.Statements.{fork_steps, halts_marks}
use Rattle.serial_run.proofs.lane.SerialLane.fork.Goals as goal

pub returns-in_err-put : goal.returns-in_err-put
returns-in_err-put c =
    let p = err_from_is_err_and c.from_residual.result c.from_residual.ensures.1 in
    let x = stand c.args.self.now c.args.memory.now in
    let team = team_of c.args.team.now in
    let due = event kind.Region team.line 0 team.span in
    let is : c.event.result ≡ due = c.event.ensures ∙ ap (λ (n : ℕ). event kind.Region team.line 0 n) c.from.ensures in
    λ layout. rw (p.1, p.2)
    (halts_marks layout due (run x.at (tree.Parallel team.span team.line team.end team.body Done)) x (record x { progress = serial_progress c.put.new.self c.put.new.memory }) c.in_err-put.field-0.0 refl
    (λ s room. run-Parallel x.at team.span team.line team.end team.body Done s ∙ ap (λ o. after o (λ (t : State). run x.at Done (forked team t))) (put-full due s room))
    (subst (λ (r : Record). Marks r x.progress (serial_progress c.put.new.self c.put.new.memory) (Err c.in_err-put.field-0.0)) is c.in_err-put.ensures))

pub returns : goal.returns
returns c =
    let x = stand c.args.self.now c.args.memory.now in
    let team = team_of c.args.team.now in
    let is : c.event.result ≡ event kind.Region team.line 0 team.span = c.event.ensures ∙ ap (λ (n : ℕ). event kind.Region team.line 0 n) c.from.ensures in
    λ layout. stepped_still x
    (fork_steps layout x.at x.slots team x.progress (serial_progress c.put.new.self c.put.new.memory) (c.in_ok-put.ensures.0)
    (subst (λ (r : Record). LogsRecord r x.progress (serial_progress c.put.new.self c.put.new.memory)) is c.in_ok-put.ensures.1))
