use Rattle.race_laws.proofs.FolderTrace.{trace_once}
use Rattle.race_laws.proofs.folders.folder_tells_its_trace.Goals as goal

pub returns : goal.returns
returns c = λ format. trace_once
