use Rattle.run_cases.proofs.PieceCases.{drawn, drawn_more, drawn_fewer}
use Rattle.run_cases.proofs.pieces.draws_close_with_their_count.Goals as goal

pub returns-clause-drawn : goal.returns-clause-drawn
returns-clause-drawn c = drawn

pub returns-clause-more : goal.returns-clause-more
returns-clause-more c = drawn_more

pub returns-clause-fewer : goal.returns-clause-fewer
returns-clause-fewer c = drawn_fewer
