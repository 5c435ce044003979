use Rattle.std.proofs.Common.{◌≡◌, ◌∙◌, ap, refl}
use Rattle.std.specs.Str.Lossy.{utf8_valid_len}
use Rattle.std.proofs.lemmas.Result.{IfOk-weaker}
use Rattle.kernel_text.specs.Tokens.{or_token, line_at}
use Rattle.kernel_text.proofs.Scans.{tokens_of-text, tokens_of-other}
use Rattle.kernel_text.proofs.lexing.tokens.Goals as goal

pub returns-in-Ok-clause-found : goal.returns-in-Ok-clause-found
returns-in-Ok-clause-found c = let e = tokens_of-text c.args.text.now c.if-text-gt-MOST_BYTES.false c.in-Ok.ensures.cases.1 in IfOk-weaker c.tokens_from.result _ _ (λ found was. e ∙ ap or_token was) c.tokens_from.ensures.found

pub returns-in-Ok-clause-fault : goal.returns-in-Ok-clause-fault
returns-in-Ok-clause-fault c = let e = tokens_of-text c.args.text.now c.if-text-gt-MOST_BYTES.false c.in-Ok.ensures.cases.1 in rw e c.tokens_from.ensures.fault

pub returns-in-Err-clause-fault : goal.returns-in-Err-clause-fault
returns-in-Err-clause-fault c = let e = tokens_of-other c.args.text.now c.if-text-gt-MOST_BYTES.false c.in-Err.ensures.cases.0 in let k : c.valid_up_to.result ≡ utf8_valid_len c.args.text.now = c.valid_up_to.ensures ∙ c.in-Err.ensures.valid_len in let l : c.line_at.result ≡ line_at c.args.text.now (utf8_valid_len c.args.text.now) = c.line_at.ensures ∙ ap (line_at c.args.text.now) k in rw (e, l) refl
