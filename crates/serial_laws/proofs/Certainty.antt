-- A serial run of a fixed kernel without races is the certain run.
use Rattle.std.proofs.Common.{sym, subst, ℕ, List}
use Rattle.race_model.specs.Listing.{IsListing}
use Rattle.race_model.specs.Race.{IsRacePair}
use Rattle.race_model.specs.Trace.{Trace, logs_of}
use Rattle.race_model.specs.KeepsRules.{KeepsRules}
use Rattle.kernel_rules.proofs.LawfulFolder.{folder_keeps}
use Rattle.kernel_model.specs.Lawful.{IsLawful}
use Rattle.log_format.specs.declared.format.TheConstants.{FORMAT}
use Rattle.serial_team.specs.Members.{WholeLog}
use Rattle.kernel_syntax.specs.Program.{Program}
use Rattle.kernel_model.specs.Folder.{paths_of}
use Rattle.history_model.specs.Sound.{WordLayout}
use Rattle.certainty_model.specs.Certain.{IsCertain, IsFixed, IsRun}
use Rattle.serial_model.specs.Order.{HasSerialHistory}
use Rattle.serial_model.proofs.SerialRuns.{serial_run, serial_listing, serial_end}
use Rattle.serial_laws.specs.SerialRuns.{IsSerialRun, LogsSerialRun}

module _ (program : Program) (layout : WordLayout) (tasks : Trace) (words : List ℕ) (s : IsSerialRun program layout tasks words) where
  pub is_run : IsRun program tasks
  is_run = subst (λ (t : Trace). IsRun program t) (sym s.tasks_are) (serial_run program layout 4 s.root words words s.runs)

  pub is_listed : IsListing (paths_of tasks)
  is_listed = subst (λ (t : Trace). IsListing (paths_of t)) (sym s.tasks_are) (serial_listing program layout 4 s.root words words s.runs)

  pub is_ended : HasSerialHistory (logs_of tasks) layout.address words
  is_ended = subst (λ (t : Trace). HasSerialHistory (logs_of t) layout.address words) (sym s.tasks_are) (serial_end program layout 4 s.root words words s.runs)

pub is_certain : (program : Program) (layout : WordLayout) (tasks : Trace) (words : List ℕ) → IsFixed program.main.body → IsSerialRun program layout tasks words
    → ((pair : ℕ × ℕ) → IsRacePair (logs_of tasks) pair → ⊥) → IsCertain program tasks
is_certain program layout tasks words fixed s no_race = record { fixed = fixed; run = is_run program layout tasks words s; no_race = no_race }

pub keeps_rules : (program : Program) (layout : WordLayout) (limit : ℕ) (logs : List WholeLog) (words : List ℕ) → IsLawful program → (l : LogsSerialRun program layout limit logs words) → KeepsRules FORMAT l.tasks
keeps_rules program layout limit logs words lawful l =
    folder_keeps program lawful l.tasks (is_run program layout l.tasks words l.run).traced (is_listed program layout l.tasks words l.run) l.few
