use Rattle.writer_laws.specs.Places.{IsAtPlace}
use Rattle.writer_laws.proofs.Carried.{unordered_too}
use Rattle.writer_laws.proofs.Unordered.{alike_back, place_back, places_carry}
use Rattle.writer_laws.proofs.writing.unordered_by_places.Goals as goal

pub returns : goal.returns
returns c = λ logs others x y v w tree other_tree alike x_there y_there v_there w_there place other. (
  unordered_too (IsAtPlace logs others) logs others (places_carry logs others alike) x y v w tree x_there y_there place other,
  unordered_too (IsAtPlace others logs) others logs (places_carry others logs (alike_back logs others alike)) v w x y other_tree v_there w_there
      (place_back logs others x v place) (place_back logs others y w other),
)
