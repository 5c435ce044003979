-- When a command that writes can begin, and what is answered where the arguments ask for nothing.
use Rattle.std.specs.Prelude.{◌≡◌, ◌⊎◌, ℕ, List, codes}
use Rattle.sw_base.specs.Environment.{Files}
use Rattle.command_answer.specs.declared.status.TheConstants.{USAGE}
use Rattle.kernel_syntax.specs.Program.{Program}
use Rattle.race_model.specs.Trace.{Trace}
use Rattle.log_upgrade.specs.Upgrade.{CanUpgrade}
use Rattle.run_command.specs.Run.{CanRun}
use Rattle.command_line.specs.Arguments.{SaysRun, SaysUpgrade}

-- the arguments ask for a run, and it can begin
pub record StartsRun (arguments : List (List ℕ)) (files : Files) : Type 0 where
  pub kernel : List ℕ
  pub dir : List ℕ
  pub size : ℕ
  pub says : SaysRun arguments kernel dir size
  pub program : Program
  pub can : CanRun files kernel dir program

-- the arguments ask to bring a folder over, and it can be
pub record BeginsUpgrade (arguments : List (List ℕ)) (files : Files) : Type 0 where
  pub dir : List ℕ
  pub new : List ℕ
  pub says : SaysUpgrade arguments dir new
  pub trace : Trace
  pub can : CanUpgrade files dir new trace

-- the arguments ask for a command that writes, and it can begin
abbrev pub BeginsToWrite : List (List ℕ) → Files → Type 0
BeginsToWrite arguments files = StartsRun arguments files ⊎ BeginsUpgrade arguments files

abbrev pub usage_text : List ℕ
usage_text = codes "usage: sword check DIR W | run KERNEL DIR SIZE | replay KERNEL DIR | show DIR | gen N W | upgrade DIR NEW | certify KERNEL | explain DIR L M | confirm DIR A I B J | live KERNEL DIR SIZE\n"

-- the one answer to arguments that ask for nothing
abbrev pub UsageDue : ℕ → List ℕ → Type 0
UsageDue status text = (status ≡ USAGE) × (text ≡ usage_text)
