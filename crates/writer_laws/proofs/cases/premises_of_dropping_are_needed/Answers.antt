use Rattle.writer_laws.proofs.DroppingCases.{loses_without}
use Rattle.writer_laws.proofs.cases.premises_of_dropping_are_needed.Goals as goal

pub returns : goal.returns
returns c = λ p. loses_without p
