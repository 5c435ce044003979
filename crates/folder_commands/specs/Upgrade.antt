-- What `upgrade` answers: that the new folder has an index, the first bad place of the old one by the first format, or how many logs were
-- brought over.
use Rattle.std.specs.Prelude.{◌≡◌, ℕ, List, length, None, IsSome}
use Rattle.sw_base.specs.Environment.{Content, Files}
use Rattle.sw_base.specs.Names.{index_name}
use Rattle.log_format.specs.declared.format.Format.TheVariants.{First}
use Rattle.race_model.specs.Trace.{Trace}
use Rattle.log_upgrade.specs.Upgrade.{CanUpgrade, Upgraded}
use Rattle.command_answer.specs.Texts.{index_exists_text}
use Rattle.command_answer.specs.declared.status.TheConstants.{DONE, INDEX_THERE}
use Rattle.folder_commands.specs.Check.{IsRefusedFolder}
use Rattle.folder_commands.specs.Texts.{upgraded_text}

-- the new folder has an index; or the old one is refused at its first bad place by the first format; or its run is brought over
pub data UpgradeDue (files : Files) (dir new : List ℕ) (status : ℕ) (text : List ℕ) : Type 0 where
  index_there : IsSome (files (index_name new)) → status ≡ INDEX_THERE → text ≡ index_exists_text → UpgradeDue files dir new status text
  refused_old : files (index_name new) ≡ None → IsRefusedFolder First files dir status text → UpgradeDue files dir new status text
  brought : (trace : Trace) → CanUpgrade files dir new trace → status ≡ DONE → text ≡ upgraded_text (length trace) → UpgradeDue files dir new status text

-- no run can be brought over
abbrev pub CanNotUpgrade : Files → List ℕ → List ℕ → Type 0
CanNotUpgrade files dir new = (trace : Trace) → CanUpgrade files dir new trace → ⊥

-- the run was brought over, whatever it is
abbrev pub IsUpgraded : List ℕ → List ℕ → Content → Content → Type 0
IsUpgraded dir new old now = (count : ℕ) × Upgraded dir new old now count
