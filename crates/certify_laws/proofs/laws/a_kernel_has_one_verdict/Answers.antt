use Rattle.certify_laws.proofs.OneVerdict.{one_verdict}
use Rattle.certify_laws.proofs.laws.a_kernel_has_one_verdict.Goals as goal

pub returns : goal.returns
returns c = λ program v w lawful a b. one_verdict program lawful v w a b
