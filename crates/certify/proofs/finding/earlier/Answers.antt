use Rattle.std.proofs.Common.{sym, ◌∙◌}
use Rattle.certify.proofs.FirstLines.{first_left, first_right}
use Rattle.certify.proofs.finding.earlier.Goals as goal

pub returns-in-Some : goal.returns-in-Some
returns-in-Some c = λ xs ys first other. sym (first_left xs ys c.in-Some.line (sym first ∙ c.in-Some.is))

pub returns-in-None : goal.returns-in-None
returns-in-None c = λ xs ys first other. other ∙ sym (first_right xs ys (sym first ∙ c.in-None.is))
