-- The race pairs of the run that a folder holds.
use Rattle.std.specs.Prelude.{ℕ, List, Option}
use Rattle.log_format.specs.declared.format.TheConstants.{FORMAT}
use Rattle.sw_base.specs.Environment.{Content, WhereTold}
use Rattle.race_model.specs.FirstBad.{HoldsTrace}
use Rattle.race_model.specs.Race.{IsRacePair, Lists}
use Rattle.race_model.specs.Trace.{Trace, logs_of}
use Rattle.race_model.specs.WellFormed.{IsWellFormed}

-- the pairs are the race pairs of the run that the folder holds, where it tells what it holds
pub record AreFolderPairs (told : Option Content) (dir : List ℕ) (pairs : List (ℕ × ℕ)) : Type 0 where
  pub trace : Trace
  pub holds : WhereTold told (λ c. HoldsTrace FORMAT c.held dir trace)
  pub well_formed : WhereTold told (λ c. IsWellFormed FORMAT c.held dir)
  pub races : Lists (IsRacePair (logs_of trace)) pairs
