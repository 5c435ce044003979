use Rattle.region_runner.proofs.Numbers.{drew_some}
use Rattle.region_runner.proofs.drawn.hands_tell_each_chunk_once.Goals as goal

pub returns : goal.returns
returns c counts logs drawn drew once loop = drew_some counts loop logs drawn drew (once loop)
