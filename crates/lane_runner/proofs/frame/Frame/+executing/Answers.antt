-- Statements, by what their parts do.
use Rattle.std.proofs.Common.{Bool, ◌≡◌, refl, ap, sym, ◌∙◌, subst, ℕ, ◌+◌, ◌<◌, List, ℤ, pos, ◌+ℤ◌, length, take, drop, get_or, Result, Ok, Err, w64, to_z, of_z, rules, arith}
use Rattle.std.specs.Prelude.{slice_set}
use Rattle.std.proofs.lemmas.Result.{err_from_is_err_and}
use Rattle.std.proofs.lemmas.Option.{slice_get_read}
use Rattle.std.proofs.lemmas.Int.{to_z-of_z}
use Rattle.kernel_syntax.specs.declared.syntax.Expr.{Expr}
use Rattle.kernel_syntax.specs.declared.syntax.Body.{Body}
use Rattle.kernel_syntax.specs.declared.syntax.Team.{Team}
use Rattle.kernel_syntax.specs.declared.syntax.Stmt.{Stmt}
use Rattle.kernel_syntax.specs.declared.syntax.Stmt.TheVariants as variant
use Rattle.kernel_syntax.specs.Bounds.{IsBoundedCode}
use Rattle.kernel_syntax.specs.Program.{code_of, stmt_code, term_of}
use Rattle.kernel_syntax.specs.Tree as tree
use Rattle.kernel_syntax.specs.Tree.{Code, Done}
use Rattle.kernel_syntax.proofs.Equations.{stmt_code-Set, stmt_code-Store, stmt_code-Update, stmt_code-If, stmt_code-Loop, stmt_code-Parallel, stmt_code-Critical}
use Rattle.kernel_model.specs.Iterations.{total_of}
use Rattle.kernel_model.specs.Trace.{run, turns}
use Rattle.kernel_model.specs.Effect.{Returned}
use Rattle.shared_words.specs.declared.view.View.{View}
use Rattle.shared_words.specs.Handles.{HandValue}
use Rattle.kernel_model.specs.Drawing.{turn_from}
use Rattle.lane_runner.specs.declared.stop.Halt.TheVariants as halt
use Rattle.lane_runner.specs.Alone.{IsAlone}
use Rattle.task_place.specs.declared.locals.Locals.{Locals}
use Rattle.lane_runner.specs.Going.{Goes, Made, site}
use Rattle.lane_runner.proofs.Running.{made_done, goes_assigned}
use Rattle.kernel_model.proofs.StmtLists.{split_at, grown}
use Rattle.lane_runner.proofs.Bodies.{log_still, log_later, test_stops, else_goes, then_goes, from_stops, to_stops, loop_goes, turns_none, turns_next, turns_stop, statements_next, statements_stop}
use Rattle.lane_runner.proofs.Ongoing.{executes_as, executes_at, executes_else, executes_later, executes_then, executes_turn}
use Rattle.lane_runner.proofs.Teams.{team_of_region, teams_later}
use Rattle.lane_runner.proofs.Parting.{alone_only}
use Rattle.log_format.specs.declared.record.Kind.TheVariants as kind
use Rattle.kernel_model.specs.State.{State, after, put, event}
use Rattle.kernel_model.proofs.Growing.{run-grows}
use Rattle.kernel_model.proofs.RunEffects.{makes-Critical_full}
use Rattle.kernel_model.proofs.Equations.{run-Critical}
use Rattle.lane_runner.specs.declared.stop.Halt.{Halt}
use Rattle.lane_runner.proofs.Stepping.{goes_unready}
use Rattle.lane_runner.proofs.Running.{after_stop, after_goes}
use Rattle.lane_runner.proofs.Sections.{section_rest, unlocking, unlocking_grows, full_at_unlock, can_taken, section_left, section_ends}
use Rattle.lane_runner.proofs.Values.{can_follow}
use Rattle.shared_words.specs.Views.{locked}
use Rattle.lane_runner.proofs.frame.Frame.+executing.Goals as goal

-- the code of a statement of each kind
is_set : {s : Stmt} {slot : ℕ} {expr : Expr} → s ≡ variant.Set slot expr → stmt_code s Done ≡ tree.Set slot (term_of expr) Done
is_set {s} {slot} {expr} is = ap (λ (t : Stmt). stmt_code t Done) is ∙ stmt_code-Set slot expr Done

is_store : {s : Stmt} {array : ℕ} {index expr : Expr} {line site : ℕ} → s ≡ variant.Store array index expr line site → stmt_code s Done ≡ tree.Store array (term_of index) (term_of expr) line site Done
is_store {s} {array} {index} {expr} {line} {site} is = ap (λ (t : Stmt). stmt_code t Done) is ∙ stmt_code-Store array index expr line site Done

is_update : {s : Stmt} {array : ℕ} {index expr : Expr} {minus : Bool} {line site : ℕ} → s ≡ variant.Update array index expr minus line site → stmt_code s Done ≡ tree.Update array (term_of index) (term_of expr) minus line site Done
is_update {s} {array} {index} {expr} {minus} {line} {site} is = ap (λ (t : Stmt). stmt_code t Done) is ∙ stmt_code-Update array index expr minus line site Done

is_if : {s : Stmt} {test : Expr} (if_true if_false : Body) → s ≡ variant.If test if_true if_false → stmt_code s Done ≡ tree.If (term_of test) (code_of if_true.stmts.items) (code_of if_false.stmts.items) Done
is_if {s} {test} if_true if_false is = ap (λ (t : Stmt). stmt_code t Done) is ∙ stmt_code-If test if_true if_false Done

is_loop : {s : Stmt} {slot : ℕ} {from to : Expr} (body : Body) → s ≡ variant.Loop slot from to body → stmt_code s Done ≡ tree.Loop slot (term_of from) (term_of to) (code_of body.stmts.items) Done
is_loop {s} {slot} {from} {to} body is = ap (λ (t : Stmt). stmt_code t Done) is ∙ stmt_code-Loop slot from to body Done

is_parallel : {s : Stmt} (team : Team) → s ≡ variant.Parallel team → stmt_code s Done ≡ tree.Parallel team.span team.line team.end (code_of team.body.stmts.items) Done
is_parallel {s} team is = ap (λ (t : Stmt). stmt_code t Done) is ∙ stmt_code-Parallel team Done

is_critical : {s : Stmt} {mutex line end : ℕ} (body : Body) → s ≡ variant.Critical mutex line end body → stmt_code s Done ≡ tree.Critical mutex line end (code_of body.stmts.items) Done
is_critical {s} {mutex} {line} {end} body is = ap (λ (t : Stmt). stmt_code t Done) is ∙ stmt_code-Critical mutex line end body Done

pub statement-set-requires-clause-bounded : goal.statement-set-requires-clause-bounded
statement-set-requires-clause-bounded g t c κs within = (subst IsBoundedCode (is_set c.in-Set.is) c.requires.executes.bounded).0

pub statement-change-requires-clause-index : goal.statement-change-requires-clause-index
statement-change-requires-clause-index g t c κs within = (subst IsBoundedCode (is_store c.in-Store.is) c.requires.executes.bounded).1

pub statement-change-requires-clause-bounded : goal.statement-change-requires-clause-bounded
statement-change-requires-clause-bounded g t c κs within = (subst IsBoundedCode (is_store c.in-Store.is) c.requires.executes.bounded).2

pub statement-change-requires-clause-place : goal.statement-change-requires-clause-place
statement-change-requires-clause-place g t c κs within = (subst IsBoundedCode (is_store c.in-Store.is) c.requires.executes.bounded).0

pub statement-change-requires-in-Update-clause-index : goal.statement-change-requires-in-Update-clause-index
statement-change-requires-in-Update-clause-index g t c κs within = (subst IsBoundedCode (is_update c.in-Update.is) c.requires.executes.bounded).1

pub statement-change-requires-in-Update-clause-bounded : goal.statement-change-requires-in-Update-clause-bounded
statement-change-requires-in-Update-clause-bounded g t c κs within = (subst IsBoundedCode (is_update c.in-Update.is) c.requires.executes.bounded).2

pub statement-change-requires-in-Update-clause-place : goal.statement-change-requires-in-Update-clause-place
statement-change-requires-in-Update-clause-place g t c κs within = (subst IsBoundedCode (is_update c.in-Update.is) c.requires.executes.bounded).0

pub statement-value-requires-clause-bounded : goal.statement-value-requires-clause-bounded
statement-value-requires-clause-bounded g t c κs within = (subst IsBoundedCode (is_if _ _ c.in-If.is) c.requires.executes.bounded).0

pub statement-value-requires-in-Loop-clause-bounded : goal.statement-value-requires-in-Loop-clause-bounded
statement-value-requires-in-Loop-clause-bounded g t c κs within = (subst IsBoundedCode (is_loop _ c.in-Loop.is) c.requires.executes.bounded).0

pub statement-value-requires-in-Loop-2-clause-bounded : goal.statement-value-requires-in-Loop-2-clause-bounded
statement-value-requires-in-Loop-2-clause-bounded g t c κs within = (subst IsBoundedCode (is_loop _ c.in-Loop.is) c.requires.executes.bounded).1

pub statement-repeat-requires-clause-executes : goal.statement-repeat-requires-clause-executes
statement-repeat-requires-clause-executes g t c κs within =
    executes_later c.in_ok-last-in-Loop.ensures.goes c.in_ok-last-in-Loop.ensures.log
    (executes_later c.in_ok-first-in-Loop.ensures.goes c.in_ok-first-in-Loop.ensures.log (executes_turn (executes_as (is_loop _ c.in-Loop.is) c.requires.executes)))

pub statement-returns-in_err-chosen-in-If-clause-goes : goal.statement-returns-in_err-chosen-in-If-clause-goes
statement-returns-in_err-chosen-in-If-clause-goes g t c =
    let p = err_from_is_err_and c.from_residual.result c.from_residual.ensures.1 in
    rw (p.1, p.2)
    (subst (λ (x : Code). Goes c.args.world.now (run (site c.args.world.now) x) c.args.self.now.locals.slots.items c.args.self.now.locals.slots.items c.args.self.now.track c.value.new.track (Err (halt.Own c.in_err-chosen-in-If.field-0.0))) (sym (is_if _ _ c.in-If.is))
    (test_stops c.args.world.now (site c.args.world.now) c.args.self.now.locals.slots.items (term_of c.in-If.test) (code_of c.in-If.yes.stmts.items) (code_of c.in-If.no.stmts.items) c.args.self.now.track c.value.new.track (halt.Own c.in_err-chosen-in-If.field-0.0) c.in_err-chosen-in-If.ensures.goes))

pub statement-returns-in_err-first-in-Loop-clause-goes : goal.statement-returns-in_err-first-in-Loop-clause-goes
statement-returns-in_err-first-in-Loop-clause-goes g t c =
    let p = err_from_is_err_and c.from_residual-in_err-first-in-Loop.result c.from_residual-in_err-first-in-Loop.ensures.1 in
    rw (p.1, p.2)
    (subst (λ (x : Code). Goes c.args.world.now (run (site c.args.world.now) x) c.args.self.now.locals.slots.items c.args.self.now.locals.slots.items c.args.self.now.track c.value-in-Loop.new.track (Err (halt.Own c.in_err-first-in-Loop.field-0.0))) (sym (is_loop _ c.in-Loop.is))
    (from_stops c.args.world.now (site c.args.world.now) c.args.self.now.locals.slots.items c.in-Loop.slot (term_of c.in-Loop.from) (term_of c.in-Loop.to) (code_of c.in-Loop.body.stmts.items) c.args.self.now.track c.value-in-Loop.new.track (halt.Own c.in_err-first-in-Loop.field-0.0) c.in_err-first-in-Loop.ensures.goes))

pub statement-returns-in_err-last-in-Loop-clause-goes : goal.statement-returns-in_err-last-in-Loop-clause-goes
statement-returns-in_err-last-in-Loop-clause-goes g t c =
    let p = err_from_is_err_and c.from_residual-in_err-last-in-Loop.result c.from_residual-in_err-last-in-Loop.ensures.1 in
    rw (p.1, p.2)
    (subst (λ (x : Code). Goes c.args.world.now (run (site c.args.world.now) x) c.args.self.now.locals.slots.items c.args.self.now.locals.slots.items c.args.self.now.track c.value-in-Loop-2.new.track (Err (halt.Own c.in_err-last-in-Loop.field-0.0))) (sym (is_loop _ c.in-Loop.is))
    (to_stops c.args.world.now (site c.args.world.now) c.args.self.now.locals.slots.items c.in-Loop.slot (term_of c.in-Loop.from) (term_of c.in-Loop.to) (code_of c.in-Loop.body.stmts.items) c.in_ok-first-in-Loop.first c.args.self.now.track c.value-in-Loop.new.track c.value-in-Loop-2.new.track c.in_ok-first-in-Loop.ensures.goes
    (halt.Own c.in_err-last-in-Loop.field-0.0) c.in_err-last-in-Loop.ensures.goes))

pub statement-returns-in-Set-clause-goes : goal.statement-returns-in-Set-clause-goes
statement-returns-in-Set-clause-goes g t c =
    subst (λ (x : Code). Goes c.args.world.now (run (site c.args.world.now) x) c.args.self.now.locals.slots.items c.set.new.self.locals.slots.items c.args.self.now.track c.set.new.self.track c.set.result) (sym (is_set c.in-Set.is)) c.set.ensures.goes

pub statement-returns-in-Store-clause-goes : goal.statement-returns-in-Store-clause-goes
statement-returns-in-Store-clause-goes g t c =
    subst (λ (x : Code). Goes c.args.world.now (run (site c.args.world.now) x) c.args.self.now.locals.slots.items c.change.new.self.locals.slots.items c.args.self.now.track c.change.new.self.track c.change.result) (sym (is_store c.in-Store.is))
    (subst (λ (l : Locals). Goes c.args.world.now (run (site c.args.world.now) (tree.Store c.in-Store.array (term_of c.in-Store.index) (term_of c.in-Store.expr) c.in-Store.line c.in-Store.site Done)) c.args.self.now.locals.slots.items l.slots.items c.args.self.now.track c.change.new.self.track c.change.result) (sym c.change.ensures.locals) c.change.ensures.goes)

pub statement-returns-in-Update-clause-goes : goal.statement-returns-in-Update-clause-goes
statement-returns-in-Update-clause-goes g t c =
    subst (λ (x : Code). Goes c.args.world.now (run (site c.args.world.now) x) c.args.self.now.locals.slots.items c.change-in-Update.new.self.locals.slots.items c.args.self.now.track c.change-in-Update.new.self.track c.change-in-Update.result) (sym (is_update c.in-Update.is))
    (subst (λ (l : Locals). Goes c.args.world.now (run (site c.args.world.now) (tree.Update c.in-Update.array (term_of c.in-Update.index) (term_of c.in-Update.expr) c.in-Update.minus c.in-Update.line c.in-Update.site Done)) c.args.self.now.locals.slots.items l.slots.items c.args.self.now.track c.change-in-Update.new.self.track c.change-in-Update.result) (sym c.change-in-Update.ensures.locals) c.change-in-Update.ensures.goes)

pub statement-returns-in_ok-last-in-Loop-clause-goes : goal.statement-returns-in_ok-last-in-Loop-clause-goes
statement-returns-in_ok-last-in-Loop-clause-goes g t c =
    let first_is = to_z-of_z w64 c.in_ok-first-in-Loop.first (search rules) in
    let last_is = to_z-of_z w64 c.in_ok-last-in-Loop.last (search rules) in
    subst (λ (x : Code). Goes c.args.world.now (run (site c.args.world.now) x) c.args.self.now.locals.slots.items c.repeat.new.self.locals.slots.items c.args.self.now.track c.repeat.new.self.track c.repeat.result) (sym (is_loop _ c.in-Loop.is))
    (loop_goes c.args.world.now (site c.args.world.now) c.args.self.now.locals.slots.items c.in-Loop.slot (term_of c.in-Loop.from) (term_of c.in-Loop.to) (code_of c.in-Loop.body.stmts.items) c.in_ok-first-in-Loop.first c.args.self.now.track c.value-in-Loop.new.track c.repeat.new.self.track c.in_ok-first-in-Loop.ensures.goes
    c.value-in-Loop-2.new.track c.in_ok-last-in-Loop.last c.repeat.new.self.locals.slots.items c.repeat.result c.in_ok-last-in-Loop.ensures.goes
    (subst (λ (n : ℕ). Goes c.args.world.now (turns n 0 (turn_from (site c.args.world.now) (code_of c.in-Loop.body.stmts.items) c.in-Loop.slot c.in_ok-first-in-Loop.first)) c.args.self.now.locals.slots.items c.repeat.new.self.locals.slots.items c.value-in-Loop-2.new.track c.repeat.new.self.track c.repeat.result)
    (c.total_of-total.ensures.count ∙ ap (λ (z : ℤ). total_of z (to_z w64 (of_z w64 c.in_ok-last-in-Loop.last))) first_is ∙ ap (λ (z : ℤ). total_of c.in_ok-first-in-Loop.first z) last_is)
    (subst (λ (z : ℤ). Goes c.args.world.now (turns c.total_of-total.result 0 (turn_from (site c.args.world.now) (code_of c.in-Loop.body.stmts.items) c.in-Loop.slot z)) c.args.self.now.locals.slots.items c.repeat.new.self.locals.slots.items c.value-in-Loop-2.new.track c.repeat.new.self.track c.repeat.result) first_is
    c.repeat.ensures.goes)))

pub statement-unreachable-requires : goal.statement-unreachable-requires
statement-unreachable-requires g t c = alone_only c.args.world.now.words.locks c.args.self.now.track.hand.view.held c.args.stmt.now c.requires.executes.alone c.in_default.not-Set c.in_default.not-Store c.in_default.not-Update c.in_default.not-If c.in_default.not-Loop c.in_default.not-Parallel c.in_default.not-Critical

pub statement-statements-requires-clause-executes : goal.statement-statements-requires-clause-executes
statement-statements-requires-clause-executes g t c κs within = executes_later c.in_ok-chosen-in-If.ensures.goes c.in_ok-chosen-in-If.ensures.log (executes_else (executes_as (is_if _ _ c.in-If.is) c.requires.executes))

pub statement-statements-requires-else-chosen-eq0-clause-executes : goal.statement-statements-requires-else-chosen-eq0-clause-executes
statement-statements-requires-else-chosen-eq0-clause-executes g t c κs within = executes_later c.in_ok-chosen-in-If.ensures.goes c.in_ok-chosen-in-If.ensures.log (executes_then (executes_as (is_if _ _ c.in-If.is) c.requires.executes))

pub statement-returns-then-chosen-eq0-clause-goes : goal.statement-returns-then-chosen-eq0-clause-goes
statement-returns-then-chosen-eq0-clause-goes g t c =
    let back = to_z-of_z w64 c.in_ok-chosen-in-If.chosen (search rules) in
    subst (λ (x : Code). Goes c.args.world.now (run (site c.args.world.now) x) c.args.self.now.locals.slots.items c.statements.new.self.locals.slots.items c.args.self.now.track c.statements.new.self.track c.statements.result) (sym (is_if _ _ c.in-If.is))
    (else_goes c.args.world.now (site c.args.world.now) c.args.self.now.locals.slots.items (term_of c.in-If.test) (code_of c.in-If.yes.stmts.items) (code_of c.in-If.no.stmts.items) c.in_ok-chosen-in-If.chosen c.statements.new.self.locals.slots.items c.args.self.now.track c.value.new.track c.statements.new.self.track c.statements.result c.in_ok-chosen-in-If.ensures.goes
    (sym back ∙ ap (λ (n : ℕ). to_z w64 n) c.if-chosen-eq0.true) c.statements.ensures.goes)

pub statement-returns-else-chosen-eq0-clause-goes : goal.statement-returns-else-chosen-eq0-clause-goes
statement-returns-else-chosen-eq0-clause-goes g t c =
    let back = to_z-of_z w64 c.in_ok-chosen-in-If.chosen (search rules) in
    subst (λ (x : Code). Goes c.args.world.now (run (site c.args.world.now) x) c.args.self.now.locals.slots.items c.statements-else-chosen-eq0.new.self.locals.slots.items c.args.self.now.track c.statements-else-chosen-eq0.new.self.track c.statements-else-chosen-eq0.result) (sym (is_if _ _ c.in-If.is))
    (then_goes c.args.world.now (site c.args.world.now) c.args.self.now.locals.slots.items (term_of c.in-If.test) (code_of c.in-If.yes.stmts.items) (code_of c.in-If.no.stmts.items) c.in_ok-chosen-in-If.chosen c.statements-else-chosen-eq0.new.self.locals.slots.items c.args.self.now.track c.value.new.track c.statements-else-chosen-eq0.new.self.track c.statements-else-chosen-eq0.result c.in_ok-chosen-in-If.ensures.goes
    (λ is. c.if-chosen-eq0.false (ap (λ (z : ℤ). of_z w64 z) is)) c.statements-else-chosen-eq0.ensures.goes)

-- ---- the turns of a loop

pub repeat-loop-i-init : goal.repeat-loop-i-init
repeat-loop-i-init g t c = record {
  made = turns_none c.args.world.now (site c.args.world.now) (code_of c.args.body.now.stmts.items) c.args.slot (to_z w64 (of_z w64 c.args.from)) c.args.first c.args.self.now.locals.slots.items c.args.self.now.track c.requires.executes.can;
  log = log_still c.args.self.now.track.buffer;
  loops = refl;
}

pub repeat-statements-requires-clause-executes : goal.repeat-statements-requires-clause-executes
repeat-statements-requires-clause-executes g t c κs given = executes_later c.loop-i.invariant.made c.loop-i.invariant.log c.requires.executes

pub repeat-returns-in_err-statements-clause-goes : goal.repeat-returns-in_err-statements-clause-goes
repeat-returns-in_err-statements-clause-goes g t c =
    let p = err_from_is_err_and c.from_residual.result c.from_residual.ensures.1 in
    let from_is = to_z-of_z w64 c.args.from c.ranges.from in
    let number_is = to_z-of_z w64 c.number_at.result (search rules) ∙ c.number_at.ensures ∙ ap (λ (z : ℤ). z +ℤ pos (c.args.first + c.loop-i.i)) from_is in
    let before = subst (λ (z : ℤ). Made c.args.world.now (turns c.loop-i.i c.args.first (turn_from (site c.args.world.now) (code_of c.args.body.now.stmts.items) c.args.slot z)) c.args.self.now.locals.slots.items c.loop-i.self.locals.slots.items c.args.self.now.track c.loop-i.self.track (Returned tt)) from_is c.loop-i.invariant.made in
    let less : c.loop-i.i < c.args.count = omega arith in
    rw (p.1, p.2)
    (turns_stop c.args.world.now (site c.args.world.now) (code_of c.args.body.now.stmts.items) c.args.slot c.args.from c.args.first c.args.self.now.locals.slots.items c.loop-i.self.locals.slots.items c.statements.new.self.locals.slots.items c.loop-i.i c.args.self.now.track c.loop-i.self.track c.statements.new.self.track before c.args.count c.in_err-statements.field-0.0 less
    (goes_assigned c.args.world.now (run (site c.args.world.now) (code_of c.args.body.now.stmts.items)) c.args.slot (c.args.from +ℤ pos (c.args.first + c.loop-i.i)) c.loop-i.self.locals.slots.items c.statements.new.self.locals.slots.items c.loop-i.self.track c.statements.new.self.track (Err c.in_err-statements.field-0.0)
    (subst (λ (l : List ℤ). Goes c.args.world.now (run (site c.args.world.now) (code_of c.args.body.now.stmts.items)) l c.statements.new.self.locals.slots.items c.loop-i.self.track c.statements.new.self.track (Err c.in_err-statements.field-0.0)) (c.set.ensures ∙ ap (λ (z : ℤ). slice_set c.loop-i.self.locals.slots.items c.args.slot z) number_is) c.in_err-statements.ensures.goes)))

pub repeat-loop-i-preserved : goal.repeat-loop-i-preserved
repeat-loop-i-preserved g t c =
    let from_is = to_z-of_z w64 c.args.from c.ranges.from in
    let number_is = to_z-of_z w64 c.number_at.result (search rules) ∙ c.number_at.ensures ∙ ap (λ (z : ℤ). z +ℤ pos (c.args.first + c.loop-i.i)) from_is in
    let before = subst (λ (z : ℤ). Made c.args.world.now (turns c.loop-i.i c.args.first (turn_from (site c.args.world.now) (code_of c.args.body.now.stmts.items) c.args.slot z)) c.args.self.now.locals.slots.items c.loop-i.self.locals.slots.items c.args.self.now.track c.loop-i.self.track (Returned tt)) from_is c.loop-i.invariant.made in
    record {
      made =
          subst (λ (z : ℤ). Made c.args.world.now (turns (c.loop-i.i + 1) c.args.first (turn_from (site c.args.world.now) (code_of c.args.body.now.stmts.items) c.args.slot z)) c.args.self.now.locals.slots.items c.statements.new.self.locals.slots.items c.args.self.now.track c.statements.new.self.track (Returned tt)) (sym from_is)
          (turns_next c.args.world.now (site c.args.world.now) (code_of c.args.body.now.stmts.items) c.args.slot c.args.from c.args.first c.args.self.now.locals.slots.items c.loop-i.self.locals.slots.items c.statements.new.self.locals.slots.items c.loop-i.i c.args.self.now.track c.loop-i.self.track c.statements.new.self.track before
          (goes_assigned c.args.world.now (run (site c.args.world.now) (code_of c.args.body.now.stmts.items)) c.args.slot (c.args.from +ℤ pos (c.args.first + c.loop-i.i)) c.loop-i.self.locals.slots.items c.statements.new.self.locals.slots.items c.loop-i.self.track c.statements.new.self.track (Ok tt)
          (subst (λ (l : List ℤ). Made c.args.world.now (run (site c.args.world.now) (code_of c.args.body.now.stmts.items)) l c.statements.new.self.locals.slots.items c.loop-i.self.track c.statements.new.self.track (Returned tt)) (c.set.ensures ∙ ap (λ (z : ℤ). slice_set c.loop-i.self.locals.slots.items c.args.slot z) number_is) c.in_ok-statements.ensures.goes)));
      log = log_later c.args.self.now.track.buffer c.loop-i.self.track.buffer c.statements.new.self.track.buffer c.loop-i.invariant.log c.in_ok-statements.ensures.log;
      loops = c.statements.ensures.loops ∙ c.loop-i.invariant.loops;
    }

pub repeat-returns-clause-goes : goal.repeat-returns-clause-goes
repeat-returns-clause-goes g t c =
    let from_is = to_z-of_z w64 c.args.from c.ranges.from in
    let all : c.loop-i.i ≡ c.args.count = omega arith in
    subst (λ (n : ℕ). Made c.args.world.now (turns n c.args.first (turn_from (site c.args.world.now) (code_of c.args.body.now.stmts.items) c.args.slot c.args.from)) c.args.self.now.locals.slots.items c.loop-i.self.locals.slots.items c.args.self.now.track c.loop-i.self.track (Returned tt)) all
    (subst (λ (z : ℤ). Made c.args.world.now (turns c.loop-i.i c.args.first (turn_from (site c.args.world.now) (code_of c.args.body.now.stmts.items) c.args.slot z)) c.args.self.now.locals.slots.items c.loop-i.self.locals.slots.items c.args.self.now.track c.loop-i.self.track (Returned tt)) from_is c.loop-i.invariant.made)

-- ---- critical sections

pub critical-returns-in_err-lock-clause-goes : goal.critical-returns-in_err-lock-clause-goes
critical-returns-in_err-lock-clause-goes g t c =
    let p = err_from_is_err_and c.from_residual.result c.from_residual.ensures.1 in
    rw (p.1, p.2)
    (goes_unready c.args.world.now (run (site c.args.world.now) (tree.Critical c.args.mutex c.args.line c.args.end (code_of c.args.body.now.stmts.items) Done)) c.args.self.now.locals.slots.items c.args.line (run-grows (site c.args.world.now) (tree.Critical c.args.mutex c.args.line c.args.end (code_of c.args.body.now.stmts.items) Done))
    (makes-Critical_full (site c.args.world.now) c.args.self.now.locals.slots.items 0 c.args.mutex c.args.line c.args.end (code_of c.args.body.now.stmts.items) Done refl)
    c.args.self.now.track c.lock.new.self c.in_err-lock.field-0.0 c.requires.executes.can c.in_err-lock.ensures.takes)

pub critical-returns-in-Err-clause-goes : goal.critical-returns-in-Err-clause-goes
critical-returns-in-Err-clause-goes g t c =
    let at = site c.args.world.now in
    let code = code_of c.args.body.now.stmts.items in
    section_left c.args.world.now (run at (tree.Critical c.args.mutex c.args.line c.args.end (code_of c.args.body.now.stmts.items) Done)) (section_rest at code c.args.mutex c.args.end) c.args.mutex c.args.line c.requires.executes.bounded.1.some c.args.self.now.locals.slots.items c.statements.new.self.locals.slots.items
    c.args.self.now.track c.lock.new.self c.statements.new.self.track c.release.new.self (run-Critical at c.args.mutex c.args.line c.args.end code Done) c.in_ok-lock.ensures.takes c.release.ensures.hand c.release.ensures.log c.release.ensures.tally c.release.ensures.done c.in-Err.halt
    (after_stop c.args.world.now (run at code) (λ (s : State). after (put (event kind.Unlock c.args.end c.args.mutex 0) s) (run at Done)) c.args.self.now.locals.slots.items c.statements.new.self.locals.slots.items c.lock.new.self c.statements.new.self.track c.in-Err.halt
    (unlocking_grows at c.args.mutex c.args.end) (subst (λ (r : Result (Unit {0}) Halt). Goes c.args.world.now (run at code) c.args.self.now.locals.slots.items c.statements.new.self.locals.slots.items c.lock.new.self c.statements.new.self.track r) c.in-Err.is c.statements.ensures.goes))

pub critical-returns-in-Err-unlock-clause-goes : goal.critical-returns-in-Err-unlock-clause-goes
critical-returns-in-Err-unlock-clause-goes g t c =
    let at = site c.args.world.now in
    let code = code_of c.args.body.now.stmts.items in
    let view = c.args.self.now.track.hand.view in
    let in_section = can_taken c.args.world.now (event kind.Lock c.args.line c.args.mutex 0) (locked view c.args.mutex) c.args.self.now.track c.lock.new.self c.requires.executes.can refl c.in_ok-lock.ensures.takes in
    let after_body = can_follow c.args.world.now (run at code) c.args.self.now.locals.slots.items c.statements.new.self.locals.slots.items c.lock.new.self c.statements.new.self.track (Returned tt) in_section c.in_default.ensures.goes in
    section_left c.args.world.now (run at (tree.Critical c.args.mutex c.args.line c.args.end code Done)) (section_rest at code c.args.mutex c.args.end) c.args.mutex c.args.line c.requires.executes.bounded.1.some c.args.self.now.locals.slots.items c.statements.new.self.locals.slots.items
    c.args.self.now.track c.lock.new.self c.unlock.new.self c.release-in-Err-unlock.new.self (run-Critical at c.args.mutex c.args.line c.args.end code Done) c.in_ok-lock.ensures.takes c.release-in-Err-unlock.ensures.hand c.release-in-Err-unlock.ensures.log c.release-in-Err-unlock.ensures.tally c.release-in-Err-unlock.ensures.done c.in-Err-unlock.halt
    (after_goes c.args.world.now (run at code) (unlocking at c.args.mutex c.args.end) c.args.self.now.locals.slots.items c.statements.new.self.locals.slots.items c.statements.new.self.locals.slots.items c.lock.new.self c.statements.new.self.track c.unlock.new.self (Err c.in-Err-unlock.halt) c.in_default.ensures.goes
    (goes_unready c.args.world.now (unlocking at c.args.mutex c.args.end) c.statements.new.self.locals.slots.items c.args.end (unlocking_grows at c.args.mutex c.args.end) (full_at_unlock at c.statements.new.self.locals.slots.items c.args.mutex c.args.end)
    c.statements.new.self.track c.unlock.new.self c.in-Err-unlock.halt after_body c.in-Err-unlock.ensures.takes))

pub critical-returns-clause-goes : goal.critical-returns-clause-goes
critical-returns-clause-goes g t c =
    section_ends c.args.world.now (site c.args.world.now) (code_of c.args.body.now.stmts.items) c.args.mutex c.args.line c.args.end c.requires.executes.bounded.1.some c.requires.executes.bounded.2.some c.args.self.now.locals.slots.items c.statements.new.self.locals.slots.items
    c.args.self.now.track c.lock.new.self c.statements.new.self.track c.unlock.new.self c.requires.executes.alone.1 c.in_ok-lock.ensures.takes c.in_default.ensures.goes c.in_default-unlock.ensures.takes

pub statement-critical-requires-clause-executes : goal.statement-critical-requires-clause-executes
statement-critical-requires-clause-executes g t c κs within = executes_as (is_critical _ c.in-Critical.is) c.requires.executes

pub statement-returns-in-Critical-clause-goes : goal.statement-returns-in-Critical-clause-goes
statement-returns-in-Critical-clause-goes g t c =
    subst (λ (x : Code). Goes c.args.world.now (run (site c.args.world.now) x) c.args.self.now.locals.slots.items c.critical.new.self.locals.slots.items c.args.self.now.track c.critical.new.self.track c.critical.result) (sym (is_critical _ c.in-Critical.is)) c.critical.ensures.goes

-- ---- lists of statements

pub statements-loop-stmt-init : goal.statements-loop-stmt-init
statements-loop-stmt-init g t c = record {
  items = c.deref-stmt-items.ensures.value;
  made = made_done c.args.world.now (site c.args.world.now) c.args.self.now.locals.slots.items c.args.self.now.track c.requires.executes.can;
  log = log_still c.args.self.now.track.buffer;
  loops = refl;
}

pub statements-statement-requires-clause-executes : goal.statements-statement-requires-clause-executes
statements-statement-requires-clause-executes g t c κs given =
    let within : c.loop-stmt.stmt-index < length c.deref-stmt-items.result.now = omega arith in
    executes_at c.args.body.now.stmts.items c.deref-stmt-items.result.now c.deref-stmt-items.ensures.value c.loop-stmt.stmt-index c.stmt-item.result (slice_get_read c.deref-stmt-items.result.now (length c.deref-stmt-items.result.now) c.loop-stmt.stmt-index c.stmt-item.result refl within c.stmt-item.is)
    (executes_later c.loop-stmt.invariant.made c.loop-stmt.invariant.log c.requires.executes)

pub statements-returns-in_err-statement-clause-goes : goal.statements-returns-in_err-statement-clause-goes
statements-returns-in_err-statement-clause-goes g t c =
    let p = err_from_is_err_and c.from_residual.result c.from_residual.ensures.1 in
    let within' : c.loop-stmt.stmt-index < length c.deref-stmt-items.result.now = omega arith in
    let within : c.loop-stmt.stmt-index < length c.args.body.now.stmts.items = subst (λ (l : List Stmt). c.loop-stmt.stmt-index < length l) c.deref-stmt-items.ensures.value within' in
    let is : c.stmt-item.result ≡ get_or c.args.body.now.stmts.items c.loop-stmt.stmt-index c.stmt-item.result = subst (λ (l : List Stmt). c.stmt-item.result ≡ get_or l c.loop-stmt.stmt-index c.stmt-item.result) c.deref-stmt-items.ensures.value c.stmt-item.is in
    rw (p.1, p.2)
    (subst (λ (ss : List Stmt). Goes c.args.world.now (run (site c.args.world.now) (code_of ss)) c.args.self.now.locals.slots.items c.statement.new.self.locals.slots.items c.args.self.now.track c.statement.new.self.track (Err c.in_err-statement.field-0.0)) (sym (split_at c.args.body.now.stmts.items c.loop-stmt.stmt-index c.stmt-item.result within is))
    (statements_stop c.args.world.now (site c.args.world.now) c.args.self.now.locals.slots.items c.loop-stmt.self.locals.slots.items c.statement.new.self.locals.slots.items (take c.loop-stmt.stmt-index c.args.body.now.stmts.items) c.stmt-item.result c.args.self.now.track c.loop-stmt.self.track c.statement.new.self.track c.loop-stmt.invariant.made (drop (c.loop-stmt.stmt-index + 1) c.args.body.now.stmts.items) c.in_err-statement.field-0.0 c.in_err-statement.ensures.goes))

pub statements-loop-stmt-preserved : goal.statements-loop-stmt-preserved
statements-loop-stmt-preserved g t c =
    let within' : c.loop-stmt.stmt-index < length c.deref-stmt-items.result.now = omega arith in
    let within : c.loop-stmt.stmt-index < length c.args.body.now.stmts.items = subst (λ (l : List Stmt). c.loop-stmt.stmt-index < length l) c.deref-stmt-items.ensures.value within' in
    let is : c.stmt-item.result ≡ get_or c.args.body.now.stmts.items c.loop-stmt.stmt-index c.stmt-item.result = subst (λ (l : List Stmt). c.stmt-item.result ≡ get_or l c.loop-stmt.stmt-index c.stmt-item.result) c.deref-stmt-items.ensures.value c.stmt-item.is in
    record {
      items = c.loop-stmt.invariant.items;
      made =
          subst (λ (ss : List Stmt). Made c.args.world.now (run (site c.args.world.now) (code_of ss)) c.args.self.now.locals.slots.items c.statement.new.self.locals.slots.items c.args.self.now.track c.statement.new.self.track (Returned tt)) (sym (grown c.args.body.now.stmts.items c.loop-stmt.stmt-index c.stmt-item.result within is))
          (statements_next c.args.world.now (site c.args.world.now) c.args.self.now.locals.slots.items c.loop-stmt.self.locals.slots.items c.statement.new.self.locals.slots.items (take c.loop-stmt.stmt-index c.args.body.now.stmts.items) c.stmt-item.result c.args.self.now.track c.loop-stmt.self.track c.statement.new.self.track c.loop-stmt.invariant.made c.in_ok-statement.ensures.goes);
      log = log_later c.args.self.now.track.buffer c.loop-stmt.self.track.buffer c.statement.new.self.track.buffer c.loop-stmt.invariant.log c.in_ok-statement.ensures.log;
      loops = c.statement.ensures.loops ∙ c.loop-stmt.invariant.loops;
    }

pub statement-value-requires-in-Loop-2-clause-can : goal.statement-value-requires-in-Loop-2-clause-can
statement-value-requires-in-Loop-2-clause-can g t c κs given = can_follow _ _ _ _ _ _ _ c.requires.executes.can c.in_ok-first-in-Loop.ensures.goes

pub critical-unlock-requires-clause-can : goal.critical-unlock-requires-clause-can
critical-unlock-requires-clause-can g t c κs given = can_follow _ _ _ _ _ _ _ (can_taken _ _ _ _ _ c.requires.executes.can refl c.in_ok-lock.ensures.takes) c.in_default.ensures.goes

-- ---- regions

pub statement-parallel-requires-clause-free : goal.statement-parallel-requires-clause-free
statement-parallel-requires-clause-free g t c κs within = (subst (IsAlone c.args.world.now.words.locks c.args.self.now.track.hand.view.held) (is_parallel _ c.in-Parallel.is) c.requires.executes.alone).0

pub statement-parallel-requires-clause-line : goal.statement-parallel-requires-clause-line
statement-parallel-requires-clause-line g t c κs within = (subst IsBoundedCode (is_parallel _ c.in-Parallel.is) c.requires.executes.bounded).1.some

pub statement-parallel-requires-clause-path : goal.statement-parallel-requires-clause-path
statement-parallel-requires-clause-path g t c κs within = (team_of_region _ _ _ _ _ (is_parallel _ c.in-Parallel.is) c.requires.executes.runs).path

pub statement-parallel-requires-clause-runs : goal.statement-parallel-requires-clause-runs
statement-parallel-requires-clause-runs g t c κs within = (team_of_region _ _ _ _ _ (is_parallel _ c.in-Parallel.is) c.requires.executes.runs).runs

pub statement-returns-in-Parallel-clause-goes : goal.statement-returns-in-Parallel-clause-goes
statement-returns-in-Parallel-clause-goes g t c =
    subst (λ (x : Code). Goes c.args.world.now (run (site c.args.world.now) x) c.args.self.now.locals.slots.items c.args.self.now.locals.slots.items c.args.self.now.track c.parallel.new.self c.parallel.result) (sym (is_parallel _ c.in-Parallel.is)) c.parallel.ensures.goes

pub critical-statements-requires-clause-executes : goal.critical-statements-requires-clause-executes
critical-statements-requires-clause-executes g t c κs within = record {
  can = c.in_ok-lock.ensures.can;
  bounded = c.requires.executes.bounded.3;
  alone = subst (λ (held : List ℕ). IsAlone c.args.world.now.words.locks held (code_of c.args.body.now.stmts.items)) (sym (ap (λ (h : HandValue View). h.view.held) c.in_ok-lock.ensures.takes.hand)) c.requires.executes.alone.2;
  runs = teams_later _ _ _ _ _ _ c.in_ok-lock.ensures.log (code_of c.args.body.now.stmts.items) c.requires.executes.runs.0;
}
