use Rattle.execution_laws.proofs.TaskListing.{are_listed, are_within}
use Rattle.execution_laws.proofs.listing.tasks_of_works_are_listed.Goals as goal

pub returns-clause-listed : goal.returns-clause-listed
returns-clause-listed c = are_listed

pub returns-clause-within : goal.returns-clause-within
returns-clause-within c = are_within
