use Rattle.run_cases.proofs.PieceCases.{two_blocks, one_more}
use Rattle.run_cases.proofs.pieces.torn_logs_lack_two_blocks.Goals as goal

pub returns-clause-two_blocks : goal.returns-clause-two_blocks
returns-clause-two_blocks c = two_blocks

pub returns-clause-one_more : goal.returns-clause-one_more
returns-clause-one_more c = one_more
