use Rattle.std.proofs.Common.{◌≡◌, false, true, ap, ◌∙◌, sym, arith}
use Rattle.std.proofs.lemmas.List.{nil_from_length}
use Rattle.kernel_text.specs.Tokens.{is_white, or_token}
use Rattle.kernel_text.proofs.Scans.{on_line_feed, on_white, on_comment, on_fault, on_token, on_end}
use Rattle.kernel_text.proofs.lexing.tokens_from.Goals as goal

pub text-preserved-then-first-eq10 : goal.text-preserved-then-first-eq10
text-preserved-then-first-eq10 c = (
  on_line_feed _ c.text.line c.in-Some.first.now c.in-Some.after.now c.text.rest.now _ c.in-Some.ensures.cases.0 c.if-first-eq10.true c.text.invariant.0,
  omega (arith, c.in-Some.ensures.cases.1),
)

pub text-preserved-then-is_white : goal.text-preserved-then-is_white
text-preserved-then-is_white c =
    let white : is_white c.in-Some.first.now ≡ true = sym c.is_white.ensures ∙ c.if-is_white.true in (
      on_white _ c.text.line c.in-Some.first.now c.in-Some.after.now c.text.rest.now _ c.in-Some.ensures.cases.0 c.if-first-eq10.false white c.text.invariant.0,
      omega (arith, c.in-Some.ensures.cases.1),
    )

pub text-preserved-then-first-eq35 : goal.text-preserved-then-first-eq35
text-preserved-then-first-eq35 c =
    let white : is_white c.in-Some.first.now ≡ false = sym c.is_white.ensures ∙ c.if-is_white.false in (
      on_comment _ c.text.line c.in-Some.first.now c.in-Some.after.now c.text.rest.now c.split_at.result.1.now _ c.in-Some.ensures.cases.0 c.if-first-eq10.false white c.if-first-eq35.true (rw (← c.line_len.ensures.len) c.split_at.ensures.back) c.text.invariant.0,
      omega (arith, c.in-Some.ensures.cases.1, c.split_at.ensures.back_len),
    )

pub returns-in_default-lexeme_at-clause-fault : goal.returns-in_default-lexeme_at-clause-fault
returns-in_default-lexeme_at-clause-fault c =
    let white : is_white c.in-Some.first.now ≡ false = sym c.is_white.ensures ∙ c.if-is_white.false in
    ap or_token (on_fault _ c.text.line c.in-Some.first.now c.in-Some.after.now c.text.rest.now _ c.in-Some.ensures.cases.0 c.if-first-eq10.false white c.if-first-eq35.false (sym c.in_default-lexeme_at.ensures.longest) c.text.invariant.0)

pub text-preserved : goal.text-preserved
text-preserved c =
    let white : is_white c.in-Some.first.now ≡ false = sym c.is_white.ensures ∙ c.if-is_white.false in
    let step = on_token c.text.found.items c.text.line c.in-Some.first.now c.in-Some.after.now c.text.rest.now c.split_at-in-Some.result.1.now c.in-Some-lexeme_at.lexeme c.in-Some-lexeme_at.len _ c.in-Some.ensures.cases.0 c.if-first-eq10.false white c.if-first-eq35.false (sym c.in-Some-lexeme_at.ensures.longest) c.in-Some-lexeme_at.ensures.within.0 c.split_at-in-Some.ensures.back c.text.invariant.0 in (
      rw c.in_ok-push.ensures.items step,
      omega (arith, c.in-Some.ensures.cases.1, c.split_at-in-Some.ensures.back_len),
    )

pub returns-clause-found : goal.returns-clause-found
returns-clause-found c = on_end c.text.found.items c.text.line c.text.rest.now _ (nil_from_length c.text.rest.now c.in_default.ensures.cases) c.text.invariant.0
