use Rattle.run_cases.proofs.PieceCases.{drawn_twice}
use Rattle.run_cases.proofs.pieces.each_chunk_is_drawn_once.Goals as goal

pub returns : goal.returns
returns c = λ program address words execution. drawn_twice program address words execution
