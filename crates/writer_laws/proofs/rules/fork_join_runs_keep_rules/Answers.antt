use Rattle.writer_laws.proofs.KeptRules.{rules_kept}
use Rattle.writer_laws.proofs.rules.fork_join_runs_keep_rules.Goals as goal

pub returns : goal.returns
returns c = λ format trace. rules_kept format trace
