use Rattle.writer_laws.specs.Places.{IsAtPlace}
use Rattle.writer_laws.proofs.Replaced.{no_pair_lost}
use Rattle.writer_laws.proofs.writing.stand_ins_lose_no_pair.Goals as goal

pub returns : goal.returns
returns c = λ logs others pair tree replaced. no_pair_lost (IsAtPlace logs others) logs others tree replaced pair
