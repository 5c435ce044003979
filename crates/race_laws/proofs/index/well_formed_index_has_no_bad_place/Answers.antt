use Rattle.race_laws.proofs.IndexPlaces.{index_good}
use Rattle.race_laws.proofs.index.well_formed_index_has_no_bad_place.Goals as goal

pub returns : goal.returns
returns c = λ format. index_good
