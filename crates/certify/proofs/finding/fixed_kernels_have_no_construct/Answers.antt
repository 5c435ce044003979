use Rattle.certify.proofs.Fixed.{are_fixed, have_none}
use Rattle.certify.proofs.finding.fixed_kernels_have_no_construct.Goals as goal

pub returns-clause-fixed : goal.returns-clause-fixed
returns-clause-fixed c = are_fixed

pub returns-clause-none : goal.returns-clause-none
returns-clause-none c = have_none
