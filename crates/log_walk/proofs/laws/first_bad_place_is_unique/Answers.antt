use Rattle.log_walk.proofs.FirstOnce.{first_bad_once}
use Rattle.log_walk.proofs.laws.first_bad_place_is_unique.Goals as goal

pub returns : goal.returns
returns c = λ format. first_bad_once
