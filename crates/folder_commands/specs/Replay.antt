-- What `replay` answers: why there is no kernel, the first bad place of the folder, that each log is the trace of its task under what it
-- read and drew, or the first record that isn't the trace's.
use Rattle.std.specs.Prelude.{◌≡◌, ℕ, List}
use Rattle.sw_base.specs.declared.path.Step.{Step}
use Rattle.sw_base.specs.Environment.{Files}
use Rattle.race_model.specs.Trace.{Trace}
use Rattle.kernel_syntax.specs.Program.{Program}
use Rattle.kernel_model.specs.Folder.{IsTracedFolder}
use Rattle.kernel_file.specs.Due.{KernelDue}
use Rattle.log_replay.specs.Replaying.{DiffersFirst}
use Rattle.command_answer.specs.declared.status.TheConstants.{DIFFERS, DONE}
use Rattle.folder_commands.specs.Check.{FolderDue}
use Rattle.folder_commands.specs.Texts.{differs_text, same_text}

-- each task has its trace under what it read and drew, or this is the first record that isn't its trace's
pub data HasReplay (program : Program) (tasks : Trace) (status : ℕ) (text : List ℕ) : Type 0 where
  same : IsTracedFolder program tasks → status ≡ DONE → text ≡ same_text → HasReplay program tasks status text
  differs : (path : List Step) (number : ℕ) → DiffersFirst program tasks path number → status ≡ DIFFERS → text ≡ differs_text path number → HasReplay program tasks status text

-- there is no kernel, or it is compared with the folder
abbrev pub ReplayDue : Files → List ℕ → List ℕ → ℕ → List ℕ → Type 0
ReplayDue files kernel dir = KernelDue (λ (program : Program). FolderDue (HasReplay program) files dir) files kernel
