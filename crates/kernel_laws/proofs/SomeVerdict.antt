-- Each list of tokens has a verdict.
use Rattle.std.proofs.Common.{◌≡◌, ℕ, ◌≤◌, ◌<◌, Bool, true, false, List, [], ◌∷◌, ◌⊎◌, inl, inr, Option, Some, None, refl, sym, ap, subst, ◌∙◌, arith}
use Rattle.std.specs.Prelude.{nat_lt}
use Rattle.std.proofs.lemmas.Bool.{ltb-true, ltb-false}
use Rattle.kernel_syntax.specs.declared.syntax.Op.{Op}
use Rattle.kernel_text.specs.declared.token.Word.TheVariants as word
use Rattle.kernel_text.specs.declared.token.Sign.TheVariants as sign
use Rattle.kernel_text.specs.declared.token.Lexeme.{Lexeme}
use Rattle.kernel_text.specs.declared.token.Lexeme.TheVariants.{Named, Number, Reserved, Mark}
use Rattle.kernel_text.specs.declared.token.Token.{Token}
use Rattle.kernel_text.specs.declared.judging.Want.{Want}
use Rattle.kernel_text.specs.declared.judging.Want.TheVariants as want
use Rattle.kernel_text.specs.declared.judging.Judgement.{Judgement}
use Rattle.kernel_text.specs.declared.judging.Judgement.TheVariants as verdict
use Rattle.kernel_text.specs.Grammar.{op_of, sign_of, is_comparison}
use Rattle.kernel_text.specs.Faults.{IsVerdict}
use Rattle.kernel_text.specs.Wanting.{Plain, At, Fill, fill_tokens, AreDelimited, token, Refuses, LeadsTo, Skips}
use Rattle.kernel_text.proofs.Operators.{of-op}
use Rattle.kernel_text.proofs.Unfolding.{lexeme-of, name-takes, number-takes, in-takes, assign-takes, update_sign-takes, update_sign-refuses, open_bracket-takes, close_bracket-takes, close_paren-takes, close_brace-takes, dots-takes, chunk-takes, chunk-skips, nowait-takes, nowait-skips, section_name-takes, section_name-skips, else-skips, index-skips, schedule-skips}
use Rattle.kernel_text.proofs.UnfoldingExprs.{block-takes, target-assign, target-index, else-takes, static-takes, dynamic-takes, index-takes, number-operand, named-operand, tid-operand, span-operand, minus-operand, group-operand, operand-refuses, operand-some}
use Rattle.kernel_text.proofs.UnfoldingOperators.{plain-takes, comparison-takes, comparison-skips, operators-skip, expr-apart, expr-takes, expr-refuses}
use Rattle.kernel_text.proofs.UnfoldingStmts.{array-takes, mutex-takes, main-takes, kernel-refuses, let-takes, update-takes, if-takes, loop-takes, parallel-takes, for-takes, barrier-takes, critical-takes, stmts-skip}
use Rattle.kernel_text.proofs.UnfoldingStmts as stmts
use Rattle.kernel_text.proofs.Moving.{Reaches, reaches-all, reaches-more, reaches-refuses, reaches-none, reaches-takes}
use Rattle.kernel_text.proofs.JudgingTokens.{start, Judged, judged-none, judged-more, is-kernel, is-syntax, is-deep, is-early}

-- what comes of a lexeme where a want is next
data Answer (w : Want) (x : Lexeme) (s : List Want) : Type 0 where
  Refused : Refuses (w ∷ s) x → Answer w x s
  LeftOut : Skips w s x → Answer w x s
  Taken : (level : ℕ) (after : List Want) → LeadsTo (w ∷ s) x level after → Answer w x s

abbrev Answers : Want → Type 0
Answers w = (x : Lexeme) (s : List Want) → AreDelimited (w ∷ s) → Answer w x s

kernel-answer : Answers want.Kernel
kernel-answer (Reserved word.Array) s a = Taken _ _ (array-takes s a)
kernel-answer (Reserved word.Mutex) s a = Taken _ _ (mutex-takes s a)
kernel-answer (Reserved word.Main) s a = Taken _ _ (main-takes s a)
kernel-answer _ s a = Refused (kernel-refuses _ s refl)

name-answer : Answers want.Name
name-answer (Named name) s a = Taken _ _ (name-takes name s a)
name-answer _ s a = Refused (λ line ts ls r. let same = lexeme-of _ _ _ _ r.tokens in absurd cc)

number-answer : Answers want.Number
number-answer (Number value) s a = Taken _ _ (number-takes value s a)
number-answer _ s a = Refused (λ line ts ls r. let same = lexeme-of _ _ _ _ r.tokens in absurd cc)

in-answer : Answers want.In
in-answer (Reserved word.In) s a = Taken _ _ (in-takes s a)
in-answer _ s a = Refused (λ line ts ls r. let same = lexeme-of _ _ _ _ r.tokens in absurd cc)

assign-answer : Answers want.Assign
assign-answer (Mark sign.Assign) s a = Taken _ _ (assign-takes s a)
assign-answer _ s a = Refused (λ line ts ls r. let same = lexeme-of _ _ _ _ r.tokens in absurd cc)

update_sign-answer : Answers want.UpdateSign
update_sign-answer (Mark sign.PlusAssign) s a = Taken _ _ (update_sign-takes (Mark sign.PlusAssign) s refl a)
update_sign-answer (Mark sign.MinusAssign) s a = Taken _ _ (update_sign-takes (Mark sign.MinusAssign) s refl a)
update_sign-answer _ s a = Refused (update_sign-refuses _ refl s)

open_bracket-answer : Answers want.OpenBracket
open_bracket-answer (Mark sign.OpenBracket) s a = Taken _ _ (open_bracket-takes s a)
open_bracket-answer _ s a = Refused (λ line ts ls r. let same = lexeme-of _ _ _ _ r.tokens in absurd cc)

close_bracket-answer : Answers want.CloseBracket
close_bracket-answer (Mark sign.CloseBracket) s a = Taken _ _ (close_bracket-takes s a)
close_bracket-answer _ s a = Refused (λ line ts ls r. let same = lexeme-of _ _ _ _ r.tokens in absurd cc)

close_paren-answer : Answers want.CloseParen
close_paren-answer (Mark sign.CloseParen) s a = Taken _ _ (close_paren-takes s a)
close_paren-answer _ s a = Refused (λ line ts ls r. let same = lexeme-of _ _ _ _ r.tokens in absurd cc)

close_brace-answer : Answers want.CloseBrace
close_brace-answer (Mark sign.CloseBrace) s a = Taken _ _ (close_brace-takes s a)
close_brace-answer _ s a = Refused (λ line ts ls r. let same = lexeme-of _ _ _ _ r.tokens in absurd cc)

dots-answer : Answers want.Dots
dots-answer (Mark sign.Dots) s a = Taken _ _ (dots-takes s a)
dots-answer _ s a = Refused (λ line ts ls r. let same = lexeme-of _ _ _ _ r.tokens in absurd cc)

abbrev is_target : Lexeme → Bool
is_target (Mark sign.Assign) = true
is_target (Mark sign.OpenBracket) = true
is_target _ = false

target-refuses : (x : Lexeme) (s : List Want) → is_target x ≡ false → Refuses (want.Target ∷ s) x
target-refuses x s is line ts ls r = starts r.fill r.tokens
  where
    starts : (f : Fill (want.Target ∷ s)) → fill_tokens (want.Target ∷ s) f ≡ token x line ∷ ts → ⊥
    starts (Plain at, g) e = let same = ap is_target (lexeme-of _ _ _ _ e) ∙ is in absurd cc
    starts (At v at, g) e = let same = ap is_target (lexeme-of _ _ _ _ e) ∙ is in absurd cc

target-answer : Answers want.Target
target-answer (Mark sign.Assign) s a = Taken _ _ (target-assign s a)
target-answer (Mark sign.OpenBracket) s a = Taken _ _ (target-index s a)
target-answer _ s a = Refused (target-refuses _ s refl)

schedule-answer : Answers want.Schedule
schedule-answer (Reserved word.Static) s a = Taken _ _ (static-takes s a)
schedule-answer (Reserved word.Dynamic) s a = Taken _ _ (dynamic-takes s a)
schedule-answer _ s a = LeftOut (schedule-skips _ s refl)

chunk-answer : Answers want.Chunk
chunk-answer (Number value) s a = Taken _ _ (chunk-takes value s a)
chunk-answer _ s a = LeftOut (chunk-skips _ s refl)

nowait-answer : Answers want.Nowait
nowait-answer (Reserved word.Nowait) s a = Taken _ _ (nowait-takes s a)
nowait-answer _ s a = LeftOut (nowait-skips _ s refl)

section_name-answer : Answers want.SectionName
section_name-answer (Named name) s a = Taken _ _ (section_name-takes name s a)
section_name-answer _ s a = LeftOut (section_name-skips _ s refl)

block-answer : (n : ℕ) → Answers (want.Block n)
block-answer n (Mark sign.OpenBrace) s a = Taken _ _ (block-takes n s a)
block-answer n _ s a = Refused (λ line ts ls r. let same = lexeme-of _ _ _ _ r.tokens in absurd cc)

else-answer : (n : ℕ) → Answers (want.Else n)
else-answer n (Reserved word.Else) s a = Taken _ _ (else-takes n s a)
else-answer n _ s a = LeftOut (else-skips _ n s refl)

index-answer : (n : ℕ) → Answers (want.Index n)
index-answer n (Mark sign.OpenBracket) s a = Taken _ _ (index-takes n s a)
index-answer n _ s a = LeftOut (index-skips _ n s refl)

stmts-answer : (n : ℕ) → Answers (want.Stmts n)
stmts-answer n (Named name) s a = Taken _ _ (stmts.assign-takes name n s a)
stmts-answer n (Reserved word.Let) s a = Taken _ _ (let-takes n s a)
stmts-answer n (Reserved word.Atomic) s a = Taken _ _ (update-takes n s a)
stmts-answer n (Reserved word.If) s a = Taken _ _ (if-takes n s a)
stmts-answer n (Reserved word.Loop) s a = Taken _ _ (loop-takes n s a)
stmts-answer n (Reserved word.Parallel) s a = Taken _ _ (parallel-takes n s a)
stmts-answer n (Reserved word.For) s a = Taken _ _ (for-takes n s a)
stmts-answer n (Reserved word.Barrier) s a = Taken _ _ (barrier-takes n s a)
stmts-answer n (Reserved word.Critical) s a = Taken _ _ (critical-takes n s a)
stmts-answer n _ s a = LeftOut (stmts-skip _ n s refl)

operand-answer : (n : ℕ) → Answers (want.Operand n)
operand-answer n (Number value) s a = Taken _ _ (number-operand value n s a)
operand-answer n (Named name) s a = Taken _ _ (named-operand name n s a)
operand-answer n (Reserved word.Tid) s a = Taken _ _ (tid-operand n s a)
operand-answer n (Reserved word.Span) s a = Taken _ _ (span-operand n s a)
operand-answer n (Mark sign.Minus) s a = Taken _ _ (minus-operand n s a)
operand-answer n (Mark sign.OpenParen) s a = Taken _ _ (group-operand n s a)
operand-answer n _ s a = Refused (operand-refuses _ n s refl)

expr-answer : (n : ℕ) → Answers (want.Expr n)
expr-answer n x s a = elim (operand-answer n x (want.Operators n true ∷ s) (expr-apart n s a)) [
  | Refused h ↦ Refused (expr-refuses n s x h)
  | LeftOut k ↦ absurd (operand-some n (want.Operators n true ∷ s) x k)
  | Taken level after t ↦ Taken level after (expr-takes n s x level after t)
]

operator-answer : (n : ℕ) (c b : Bool) (o : Op) → is_comparison o ≡ b → (s : List Want) → AreDelimited (want.Operators n c ∷ s) → Answer (want.Operators n c) (Mark (sign_of o)) s
operator-answer n c false o e s a = Taken _ _ (plain-takes o n c s e a)
operator-answer n true true o e s a = Taken _ _ (comparison-takes o n true s refl e a)
operator-answer n false true o e s a = LeftOut (comparison-skips o n false s refl e)

operators-answer : (n : ℕ) (c : Bool) → Answers (want.Operators n c)
operators-answer n c x s a = found (op_of x) refl
  where
    found : (o : Option Op) → op_of x ≡ o → Answer (want.Operators n c) x s
    found None e = LeftOut (operators-skip x n c s e)
    found (Some o) e = subst (λ (x : Lexeme). Answer (want.Operators n c) x s) (sym (of-op x o e)) (operator-answer n c (is_comparison o) o refl s a)

answer : (w : Want) → Answers w
answer want.Kernel = kernel-answer
answer want.Name = name-answer
answer want.Number = number-answer
answer want.In = in-answer
answer want.Assign = assign-answer
answer want.UpdateSign = update_sign-answer
answer want.OpenBracket = open_bracket-answer
answer want.CloseBracket = close_bracket-answer
answer want.CloseParen = close_paren-answer
answer want.CloseBrace = close_brace-answer
answer want.Dots = dots-answer
answer want.Target = target-answer
answer want.Schedule = schedule-answer
answer want.Chunk = chunk-answer
answer want.Nowait = nowait-answer
answer want.SectionName = section_name-answer
answer (want.Block n) = block-answer n
answer (want.Stmts n) = stmts-answer n
answer (want.Else n) = else-answer n
answer (want.Expr n) = expr-answer n
answer (want.Operand n) = operand-answer n
answer (want.Index n) = index-answer n
answer (want.Operators n c) = operators-answer n c

-- what comes of a lexeme where all of these are wanted in turn
abbrev Stepped : List Want → Lexeme → Type 0
Stepped s x = Refuses s x ⊎ ((level : ℕ) × (after : List Want) × LeadsTo s x level after)

stepped : (x : Lexeme) (before s : List Want) → Reaches x before s → Stepped before x
stepped x before [] r = inl (reaches-none x before [] refl r)
stepped x before (w ∷ s) r = elim (answer w x s r.apart) [
  | Refused h ↦ inl (reaches-refuses x before (w ∷ s) r h)
  | LeftOut k ↦ stepped x before s (reaches-more x before w s r k)
  | Taken level after t ↦ inr (level, after, reaches-takes x before (w ∷ s) level after r t)
]

abbrev HasVerdict : List Token → Type 0
HasVerdict ts = (v : Judgement) × IsVerdict ts v

at-level : (ts rest : List Token) (t : Token) (s : List Want) → Judged ts (t ∷ rest) s → (level : ℕ) (deep : Bool) → nat_lt 32 level ≡ deep → (after : List Want) → LeadsTo s t.lexeme level after
    → ((after : List Want) → Judged ts rest after → HasVerdict ts) → HasVerdict ts
at-level ts rest t s j level true e after k next = (verdict.Deep t.line, is-deep ts (t ∷ rest) rest t s after level j refl (ltb-true 32 level e) k)
at-level ts rest t s j level false e after k next = next after (judged-more ts (t ∷ rest) rest t s after level j refl (ltb-false 32 level e) k)

judged : (ts rest : List Token) (s : List Want) → Judged ts rest s → HasVerdict ts
judged ts [] [] j = (verdict.Kernel, is-kernel ts [] [] j refl refl)
judged ts [] (w ∷ s) j = (verdict.Early, is-early ts [] w s (w ∷ s) j refl refl)
judged ts (t ∷ rest) s j = elim (stepped t.lexeme s s (reaches-all t.lexeme s j.apart)) [
  | inl h ↦ (verdict.Syntax t.line, is-syntax ts (t ∷ rest) rest t s j refl h)
  | inr k ↦ at-level ts rest t s j k.0 (nat_lt 32 k.0) refl k.1 k.2 (λ after next. judged ts rest after next)
]

pub some-verdict : (ts : List Token) → HasVerdict ts
some-verdict ts = judged ts ts start (judged-none ts start refl)
