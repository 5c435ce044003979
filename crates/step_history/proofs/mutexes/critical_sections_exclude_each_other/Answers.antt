use Rattle.step_history.proofs.Exclusion.{exclusion}
use Rattle.step_history.proofs.mutexes.critical_sections_exclude_each_other.Goals as goal

pub returns : goal.returns
returns c = exclusion
