use Rattle.generated_run.proofs.Held.{generated_held}
use Rattle.generated_run.proofs.folder.generated_folder_holds_its_run.Goals as goal

pub returns : goal.returns
returns c = generated_held
