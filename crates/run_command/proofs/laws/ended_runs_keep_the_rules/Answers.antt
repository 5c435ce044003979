use Rattle.run_command.proofs.WholeRuns.{ended_rules, ended_well_formed}
use Rattle.run_command.proofs.laws.ended_runs_keep_the_rules.Goals as goal

pub returns-clause-rules : goal.returns-clause-rules
returns-clause-rules c = λ kernel dir size old new program count records words ended. ended_rules kernel dir size old new program count records words ended

pub returns-clause-well_formed : goal.returns-clause-well_formed
returns-clause-well_formed c = λ kernel dir size old new program count records words ended place bad. ended_well_formed kernel dir size old new program count records words ended place bad
