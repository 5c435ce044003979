use Rattle.std.proofs.Common.{arith}
use Rattle.certify_laws.proofs.Opening.{none, not_another, opens}
use Rattle.certify_laws.proofs.cases.the_first_interval_too_many_is_told.Goals as goal

pub returns-clause-opens : goal.returns-clause-opens
returns-clause-opens c = opens

pub returns-clause-barrier : goal.returns-clause-barrier
returns-clause-barrier c = λ n more first. let three = not_another n 2 more first in absurd (omega (arith, three))

pub returns-clause-earlier : goal.returns-clause-earlier
returns-clause-earlier c = λ n more first. let three = not_another n 1 more first in absurd (omega (arith, three))

pub returns-clause-none : goal.returns-clause-none
returns-clause-none c = none
