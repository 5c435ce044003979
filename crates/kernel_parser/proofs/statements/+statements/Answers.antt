use Rattle.std.proofs.Common.{◌≡◌, List, ◌∷◌, Some, Ok, length, refl, sym, ap, subst, ◌∙◌, arith, rules, w64}
use Rattle.std.proofs.lemmas.Int.{to_z-of_z}
use Rattle.std.proofs.lemmas.Result.{err_from_is_err_and}
use Rattle.std.proofs.lemmas.List.{nil_from_length}
use Rattle.kernel_text.specs.declared.token.Token.{Token}
use Rattle.kernel_text.specs.declared.token.Word.TheVariants as word
use Rattle.kernel_text.specs.Grammar.{named, reserved, Barrier}
use Rattle.kernel_parser.specs.declared.tree.Statement.TheVariants as variant
use Rattle.kernel_text.specs.declared.token.Lexeme.TheVariants.{Reserved}
use Rattle.kernel_parser.specs.Parsing.{StartsWith, IsStatementRead}
use Rattle.kernel_parser.proofs.Equations.{before_if, before_if_else, before_loop, before_for, before_barrier, before_critical, made_parallel, made_critical_of}
use Rattle.kernel_parser.proofs.Signs.{begins-with, not-true}
use Rattle.kernel_parser.proofs.Firsts.{let-parsed, assign-parsed, store-parsed, update-parsed, if-parsed, loop-parsed, parallel-parsed, for-parsed, barrier-parsed, critical-parsed}
use Rattle.kernel_parser.proofs.Rests.{only-fault, block-at, left-steps, left-fails, left-ends, never-none}
use Rattle.kernel_parser.proofs.statements.+statements.Goals as goal

pub parallel_stmt-returns-in_err-body-clause-parsed : goal.parallel_stmt-returns-in_err-body-clause-parsed
parallel_stmt-returns-in_err-body-clause-parsed t c =
    let p = err_from_is_err_and c.from_residual.result c.from_residual.ensures.1 in
    λ number_line span opened body closed ts after e is. rw (p.1, p.2) (only-fault _ _ c.in_err-body.field-0.0 (c.in_err-body.ensures.parsed opened body closed after (block-at _ ts opened body closed after ((c.skip-number_line.ensures.told _ _ e).1) is)))

pub parallel_stmt-returns-clause-parsed : goal.parallel_stmt-returns-clause-parsed
parallel_stmt-returns-clause-parsed t c =
    λ number_line span opened body closed ts after e is.
    let r = c.in_ok-body.ensures.parsed opened body closed after (block-at _ ts opened body closed after ((c.skip-number_line.ensures.told _ _ e).1) is) in
    (made_parallel c.args.line c.skip-number_line.result.0 number_line span _ c.in_ok-body.body opened body closed ((c.skip-number_line.ensures.told _ _ e).0) (to_z-of_z w64 c.number_of-span.result (search rules) ∙ c.number_of-span.ensures _ _ _ e) r.0 r.1 r.2, r.3)

pub loop_stmt-returns-in_err-body-clause-parsed : goal.loop_stmt-returns-in_err-body-clause-parsed
loop_stmt-returns-in_err-body-clause-parsed t c =
    let p = err_from_is_err_and c.from_residual-in_err-body.result c.from_residual-in_err-body.ensures.1 in
    λ name_line name in_line from dots to opened body closed ts us vs after e first second is.
    let q = c.in_ok-range.ensures.parsed name_line name in_line from dots to ts us vs e first second in
    rw (p.1, p.2) (only-fault _ _ c.in_err-body.field-0.0 (c.in_err-body.ensures.parsed opened body closed after (block-at _ vs opened body closed after q.6 is)))

pub loop_stmt-returns-clause-parsed : goal.loop_stmt-returns-clause-parsed
loop_stmt-returns-clause-parsed t c =
    λ name_line name in_line from dots to opened body closed ts us vs after e first second is.
    let q = c.in_ok-range.ensures.parsed name_line name in_line from dots to ts us vs e first second in
    let r = c.in_ok-body.ensures.parsed opened body closed after (block-at _ vs opened body closed after q.6 is) in
    let q0 = q.0 in let q1 = q.1 in let q2 = q.2 in let q3 = q.3 in let q4 = q.4 in let q5 = q.5 in
    let r0 = r.0 in let r1 = r.1 in let r2 = r.2 in
    (λ rest. let b = before_loop c.args.line c.in_ok-range.range c.in_ok-body.body rest in cc, r.3)

pub for_stmt-returns-in_err-body-clause-parsed : goal.for_stmt-returns-in_err-body-clause-parsed
for_stmt-returns-in_err-body-clause-parsed t c =
    let p = err_from_is_err_and c.from_residual-in_err-body.result c.from_residual-in_err-body.ensures.1 in
    λ name_line name in_line from dots to s nowait opened body closed ts us vs after e first second is.
    let q = c.in_ok-range.ensures.parsed name_line name in_line from dots to ts us _ e first second in
    let w = c.schedule-schedule.ensures.parsed s nowait opened vs q.6 in
    let v = c.nowait-nowait.ensures.parsed nowait opened vs w.1 in
    rw (p.1, p.2) (only-fault _ _ c.in_err-body.field-0.0 (c.in_err-body.ensures.parsed opened body closed after (block-at _ _ opened body closed after v.1 is)))

pub for_stmt-returns-clause-parsed : goal.for_stmt-returns-clause-parsed
for_stmt-returns-clause-parsed t c =
    λ name_line name in_line from dots to s nowait opened body closed ts us vs after e first second is.
    let q = c.in_ok-range.ensures.parsed name_line name in_line from dots to ts us _ e first second in
    let w = c.schedule-schedule.ensures.parsed s nowait opened vs q.6 in
    let v = c.nowait-nowait.ensures.parsed nowait opened vs w.1 in
    let r = c.in_ok-body.ensures.parsed opened body closed after (block-at _ _ opened body closed after v.1 is) in
    let q0 = q.0 in let q1 = q.1 in let q2 = q.2 in let q3 = q.3 in let q4 = q.4 in let q5 = q.5 in
    let w0 = w.0 in let v0 = v.0 in
    let r0 = r.0 in let r1 = r.1 in let r2 = r.2 in
    (λ rest. let b = before_for c.args.line c.in_ok-range.range c.schedule-schedule.result.0 c.nowait-nowait.result.0 c.in_ok-body.body rest in cc, r.3)

pub critical_stmt-returns-in_err-body-clause-plain : goal.critical_stmt-returns-in_err-body-clause-plain
critical_stmt-returns-in_err-body-clause-plain t c =
    let p = err_from_is_err_and c.from_residual.result c.from_residual.ensures.1 in
    λ opened body closed after is. rw (p.1, p.2) (only-fault _ _ c.in_err-body.field-0.0 (c.in_err-body.ensures.parsed opened body closed after is))

pub critical_stmt-returns-then-not-is_name-clause-plain : goal.critical_stmt-returns-then-not-is_name-clause-plain
critical_stmt-returns-then-not-is_name-clause-plain t c =
    λ opened body closed after is.
    let r = c.in_ok-body.ensures.parsed opened body closed after is in
    let r0 = r.0 in let r1 = r.1 in let r2 = r.2 in
    (λ rest. let b = before_critical c.args.line c.in_ok-body.body rest in cc, r.3)

pub critical_stmt-returns-in_err-body-clause-of : goal.critical_stmt-returns-in_err-body-clause-of
critical_stmt-returns-in_err-body-clause-of t c =
    λ name_line name opened body closed ts after e is. absurd (not-true (c.if-not-is_name.ensures.1 (name, begins-with (named name_line name) ts _ e)))

pub critical_stmt-returns-then-not-is_name-clause-of : goal.critical_stmt-returns-then-not-is_name-clause-of
critical_stmt-returns-then-not-is_name-clause-of t c =
    λ name_line name opened body closed ts after e is. absurd (not-true (c.if-not-is_name.ensures.1 (name, begins-with (named name_line name) ts _ e)))

pub critical_stmt-returns-in_err-body-2-clause-of : goal.critical_stmt-returns-in_err-body-2-clause-of
critical_stmt-returns-in_err-body-2-clause-of t c =
    let p = err_from_is_err_and c.from_residual-in_err-body-2.result c.from_residual-in_err-body-2.ensures.1 in
    λ name_line name opened body closed ts after e is. rw (p.1, p.2) (only-fault _ _ c.in_err-body-2.field-0.0 (c.in_err-body-2.ensures.parsed opened body closed after (block-at _ ts opened body closed after ((c.skip-name_line.ensures.told _ _ e).1) is)))

pub critical_stmt-returns-clause-of : goal.critical_stmt-returns-clause-of
critical_stmt-returns-clause-of t c =
    λ name_line name opened body closed ts after e is.
    let r = c.in_ok-body-2.ensures.parsed opened body closed after (block-at _ ts opened body closed after ((c.skip-name_line.ensures.told _ _ e).1) is) in
    (made_critical_of c.args.line c.skip-name_line.result.0 name_line name c.name_of-name.result c.in_ok-body-2.body opened body closed ((c.skip-name_line.ensures.told _ _ e).0) (c.name_of-name.ensures _ _ _ e) r.0 r.1 r.2, r.3)

pub if_stmt-returns-in_err-yes-clause-alone : goal.if_stmt-returns-in_err-yes-clause-alone
if_stmt-returns-in_err-yes-clause-alone t c =
    let p = err_from_is_err_and c.from_residual-in_err-yes.result c.from_residual-in_err-yes.ensures.1 in
    λ test opened body closed ts after first is no_else.
    let q = c.in_ok-test.ensures.read test ts first in
    rw (p.1, p.2) (only-fault _ _ c.in_err-yes.field-0.0 (c.in_err-yes.ensures.parsed opened body closed after (block-at _ ts opened body closed after q.1 is)))

pub if_stmt-returns-in_err-yes-clause-both : goal.if_stmt-returns-in_err-yes-clause-both
if_stmt-returns-in_err-yes-clause-both t c =
    let p = err_from_is_err_and c.from_residual-in_err-yes.result c.from_residual-in_err-yes.ensures.1 in
    λ test opened body closed else_line else_opened other else_closed ts us after first is also.
    let q = c.in_ok-test.ensures.read test ts first in
    rw (p.1, p.2) (only-fault _ _ c.in_err-yes.field-0.0 (c.in_err-yes.ensures.parsed opened body closed _ (block-at _ ts opened body closed _ q.1 is)))

pub if_stmt-returns-then-not-is_else-clause-alone : goal.if_stmt-returns-then-not-is_else-clause-alone
if_stmt-returns-then-not-is_else-clause-alone t c =
    λ test opened body closed ts after first is no_else.
    let q = c.in_ok-test.ensures.read test ts first in
    let r = c.in_ok-yes.ensures.parsed opened body closed after (block-at _ ts opened body closed after q.1 is) in
    let q0 = q.0 in let r0 = r.0 in let r1 = r.1 in let r2 = r.2 in
    (λ rest. let b = before_if c.args.line c.in_ok-test.test c.in_ok-yes.yes rest in cc, r.3)

pub if_stmt-returns-then-not-is_else-clause-both : goal.if_stmt-returns-then-not-is_else-clause-both
if_stmt-returns-then-not-is_else-clause-both t c =
    λ test opened body closed else_line else_opened other else_closed ts us after first is also.
    let q = c.in_ok-test.ensures.read test ts first in
    let r = c.in_ok-yes.ensures.parsed opened body closed (reserved else_line word.Else ∷ us) (block-at _ ts opened body closed _ q.1 is) in
    absurd (not-true (c.if-not-is_else.ensures.1 (begins-with (reserved else_line word.Else) us _ r.3)))

pub if_stmt-returns-in_err-no-clause-alone : goal.if_stmt-returns-in_err-no-clause-alone
if_stmt-returns-in_err-no-clause-alone t c =
    λ test opened body closed ts after first is no_else.
    let q = c.in_ok-test.ensures.read test ts first in
    let r = c.in_ok-yes.ensures.parsed opened body closed after (block-at _ ts opened body closed after q.1 is) in
    absurd (no_else (subst (λ (us : List Token). StartsWith (Reserved word.Else) us) r.3 (c.if-not-is_else.ensures.0 refl)))

pub if_stmt-returns-in_err-no-clause-both : goal.if_stmt-returns-in_err-no-clause-both
if_stmt-returns-in_err-no-clause-both t c =
    let p = err_from_is_err_and c.from_residual-in_err-no.result c.from_residual-in_err-no.ensures.1 in
    λ test opened body closed else_line else_opened other else_closed ts us after first is also.
    let q = c.in_ok-test.ensures.read test ts first in
    let r = c.in_ok-yes.ensures.parsed opened body closed (reserved else_line word.Else ∷ us) (block-at _ ts opened body closed _ q.1 is) in
    rw (p.1, p.2) (only-fault _ _ c.in_err-no.field-0.0 (c.in_err-no.ensures.parsed else_opened other else_closed after (block-at _ us else_opened other else_closed after ((c.skip-else_line.ensures.told _ _ r.3).1) also)))

pub if_stmt-returns-clause-alone : goal.if_stmt-returns-clause-alone
if_stmt-returns-clause-alone t c =
    λ test opened body closed ts after first is no_else.
    let q = c.in_ok-test.ensures.read test ts first in
    let r = c.in_ok-yes.ensures.parsed opened body closed after (block-at _ ts opened body closed after q.1 is) in
    absurd (no_else (subst (λ (us : List Token). StartsWith (Reserved word.Else) us) r.3 (c.if-not-is_else.ensures.0 refl)))

pub if_stmt-returns-clause-both : goal.if_stmt-returns-clause-both
if_stmt-returns-clause-both t c =
    λ test opened body closed else_line else_opened other else_closed ts us after first is also.
    let q = c.in_ok-test.ensures.read test ts first in
    let r = c.in_ok-yes.ensures.parsed opened body closed (reserved else_line word.Else ∷ us) (block-at _ ts opened body closed _ q.1 is) in
    let n = c.in_ok-no.ensures.parsed else_opened other else_closed after (block-at _ us else_opened other else_closed after ((c.skip-else_line.ensures.told _ _ r.3).1) also) in
    let l : c.skip-else_line.result.0 ≡ else_line = (c.skip-else_line.ensures.told _ _ r.3).0 in
    let q0 = q.0 in let r0 = r.0 in let r1 = r.1 in let r2 = r.2 in
    let n0 = n.0 in let n1 = n.1 in let n2 = n.2 in
    (λ rest. let b = before_if_else c.args.line c.in_ok-test.test c.in_ok-yes.yes c.skip-else_line.result.0 c.in_ok-no.no rest in cc, n.3)

pub stmt-returns-in-Let-clause-parsed : goal.stmt-returns-in-Let-clause-parsed
stmt-returns-in-Let-clause-parsed t c =
    λ b end tail n e d s. let-parsed c.args.token.now c.args.rest.now c.let_stmt.result c.let_stmt.ensures.parsed (λ b end tail e. ap Some (sym c.in-Let.is) ∙ c.requires b end tail e) b end tail n e d s

pub stmt-returns-in-Assign-clause-parsed : goal.stmt-returns-in-Assign-clause-parsed
stmt-returns-in-Assign-clause-parsed t c =
    λ b end tail n e d s. assign-parsed c.args.token.now c.args.rest.now c.name_at.result c.assign_stmt.result c.name_at.ensures c.assign_stmt.ensures.parsed (λ b end tail e. ap Some (sym c.in-Assign.is) ∙ c.requires b end tail e) b end tail n e d s

pub stmt-returns-in-Store-clause-parsed : goal.stmt-returns-in-Store-clause-parsed
stmt-returns-in-Store-clause-parsed t c =
    λ b end tail n e d s. store-parsed c.args.token.now c.args.rest.now c.name_at-in-Store.result c.store_stmt.result c.name_at-in-Store.ensures c.store_stmt.ensures.parsed (λ b end tail e. ap Some (sym c.in-Store.is) ∙ c.requires b end tail e) b end tail n e d s

pub stmt-returns-in-Update-clause-parsed : goal.stmt-returns-in-Update-clause-parsed
stmt-returns-in-Update-clause-parsed t c =
    λ b end tail n e d s. update-parsed c.args.token.now c.args.rest.now c.update_stmt.result c.update_stmt.ensures.parsed (λ b end tail e. ap Some (sym c.in-Update.is) ∙ c.requires b end tail e) b end tail n e d s

pub stmt-returns-in-If-clause-parsed : goal.stmt-returns-in-If-clause-parsed
stmt-returns-in-If-clause-parsed t c =
    λ b end tail n e d s. if-parsed c.args.token.now c.args.rest.now c.if_stmt.result c.if_stmt.ensures.alone c.if_stmt.ensures.both (λ b end tail e. ap Some (sym c.in-If.is) ∙ c.requires b end tail e) b end tail n e d s

pub stmt-returns-in-Loop-clause-parsed : goal.stmt-returns-in-Loop-clause-parsed
stmt-returns-in-Loop-clause-parsed t c =
    λ b end tail n e d s. loop-parsed c.args.token.now c.args.rest.now c.loop_stmt.result c.loop_stmt.ensures.parsed (λ b end tail e. ap Some (sym c.in-Loop.is) ∙ c.requires b end tail e) b end tail n e d s

pub stmt-returns-in-Parallel-clause-parsed : goal.stmt-returns-in-Parallel-clause-parsed
stmt-returns-in-Parallel-clause-parsed t c =
    λ b end tail n e d s. parallel-parsed c.args.token.now c.args.rest.now c.parallel_stmt.result c.parallel_stmt.ensures.parsed (λ b end tail e. ap Some (sym c.in-Parallel.is) ∙ c.requires b end tail e) b end tail n e d s

pub stmt-returns-in-For-clause-parsed : goal.stmt-returns-in-For-clause-parsed
stmt-returns-in-For-clause-parsed t c =
    λ b end tail n e d s. for-parsed c.args.token.now c.args.rest.now c.for_stmt.result c.for_stmt.ensures.parsed (λ b end tail e. ap Some (sym c.in-For.is) ∙ c.requires b end tail e) b end tail n e d s

pub stmt-returns-in-Critical-clause-parsed : goal.stmt-returns-in-Critical-clause-parsed
stmt-returns-in-Critical-clause-parsed t c =
    λ b end tail n e d s. critical-parsed c.args.token.now c.args.rest.now c.critical_stmt.result c.critical_stmt.ensures.plain c.critical_stmt.ensures.of (λ b end tail e. ap Some (sym c.in-Critical.is) ∙ c.requires b end tail e) b end tail n e d s

pub stmt-returns-in-Barrier-clause-parsed : goal.stmt-returns-in-Barrier-clause-parsed
stmt-returns-in-Barrier-clause-parsed t c =
    let read : IsStatementRead (Barrier c.args.token.now.line) c.args.rest.now (variant.Barrier c.args.token.now.line) c.args.rest.now = (λ rest. before_barrier c.args.token.now.line rest, refl) in
    λ b end tail n e d s. barrier-parsed c.args.token.now c.args.rest.now (Ok (variant.Barrier c.args.token.now.line, c.args.rest)) read (λ b end tail e. ap Some (sym c.in-Barrier.is) ∙ c.requires b end tail e) b end tail n e d s

pub block-returns-in_default-lead_of-clause-parsed : goal.block-returns-in_default-lead_of-clause-parsed
block-returns-in_default-lead_of-clause-parsed t c =
    let split : c.stmts.rest.now ≡ c.in-Some.token.now ∷ c.in-Some.after.now = c.in-Some.ensures.cases.0 in
    left-ends c.args.tokens.now c.skip-opened.result.0 c.stmts.stmts.items c.stmts.rest.now c.in-Some.after.now c.in-Some.token.now c.stmts.invariant.left split c.in_default-lead_of.ensures

pub block-returns-in_err-added : goal.block-returns-in_err-added
block-returns-in_err-added t c =
    let split : c.stmts.rest.now ≡ c.in-Some.token.now ∷ c.in-Some.after.now = c.in-Some.ensures.cases.0 in
    let p = err_from_is_err_and c.from_residual.result c.from_residual.ensures.1 in
    record {
      parsed = λ opened body closed after is. rw (p.1, p.2) (left-fails _ c.args.tokens.now c.skip-opened.result.0 c.stmts.stmts.items c.stmts.rest.now c.in-Some.after.now c.in-Some.token.now c.in_err-added.field-0.0 c.stmts.invariant.left split c.in_err-added.ensures.parsed opened body closed after is);
      shorter = rw p.1 tt;
    }

pub block-stmts-preserved : goal.block-stmts-preserved
block-stmts-preserved t c =
    let split : c.stmts.rest.now ≡ c.in-Some.token.now ∷ c.in-Some.after.now = c.in-Some.ensures.cases.0 in
    let ls = ap (λ (us : List Token). length us) split in
    let so_far = c.stmts.invariant.shorter in
    let less = c.in_ok-added.ensures.shorter in
    record {
      left = left-steps c.args.tokens.now c.skip-opened.result.0 c.stmts.stmts.items c.push.new.self.items c.stmts.rest.now c.in-Some.after.now c.in-Some.token.now (c.in_ok-added.added, c.in_ok-added.left) c.stmts.invariant.left split c.in_ok-added.ensures.parsed c.in_ok-push.ensures.items;
      shorter = omega (arith, ls, so_far, less);
    }

pub block-returns-clause-parsed : goal.block-returns-clause-parsed
block-returns-clause-parsed t c =
    λ opened body closed after is. never-none c.args.tokens.now c.skip-opened.result.0 c.stmts.stmts.items c.stmts.rest.now c.stmts.invariant.left (nil_from_length _ c.in_default.ensures.cases) opened body closed after is
