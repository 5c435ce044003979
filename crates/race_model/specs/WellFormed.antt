-- The folder of logs that is bad at no place.
use Rattle.std.specs.Prelude.{ℕ, List}
use Rattle.sw_base.specs.Environment.{Files}
use Rattle.log_format.specs.declared.format.Format.{Format}
use Rattle.race_model.specs.BadPlace.{BadPlace}
use Rattle.race_model.specs.FirstBad.{IsBad}

abbrev pub IsWellFormed : Format → Files → List ℕ → Type 0
IsWellFormed format files dir = (place : BadPlace) → IsBad format files dir place → ⊥
