use Rattle.log_index.proofs.Spelled.{four_fit}
use Rattle.log_index.proofs.fields.steps_of.Goals as goal

pub returns-clause-fits : goal.returns-clause-fits
returns-clause-fits c = four_fit _ _ _ _ c.step_of.ensures.fits c.step_of-2.ensures.fits c.step_of-3.ensures.fits c.step_of-4.ensures.fits
