use Rattle.race_laws.proofs.IndexPlaces.{first_once}
use Rattle.race_laws.proofs.index.first_bad_index_place_is_unique.Goals as goal

pub returns : goal.returns
returns c = λ format. first_once
