use Rattle.race_laws.proofs.FolderForkJoin.{fork_join}
use Rattle.race_laws.proofs.FolderKeepsRules.{keeps_rules}
use Rattle.race_laws.proofs.folders.well_formed_folder_is_fork_join.Goals as goal

pub returns : goal.returns
returns c = record {
  keeps = λ format files dir trace good holds. keeps_rules files dir trace holds good;
  fork_join = λ format trace good. fork_join trace good;
}
