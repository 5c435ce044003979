use Rattle.certify_laws.proofs.OneAnswer.{one_answer}
use Rattle.certify_laws.proofs.laws.certify_has_one_answer.Goals as goal

pub returns : goal.returns
returns c = one_answer
