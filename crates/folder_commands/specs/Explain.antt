-- What `explain` answers: the least race of two lines, or that there is none.
use Rattle.std.specs.Prelude.{◌≡◌, ℕ, ◌-◌, List, Some, slice_get}
use Rattle.race_model.specs.Race.{IsRacePair}
use Rattle.race_model.specs.Trace.{TaskLog, Trace, logs_of}
use Rattle.command_answer.specs.declared.status.TheConstants.{DONE, RACES}
use Rattle.explain.specs.Least.{IsLeastWitness}
use Rattle.explain.specs.Witness.{IsConfirmed}
use Rattle.explain.specs.declared.explaining.RacePair.{RacePair}
use Rattle.folder_commands.specs.Texts.{no_race_pair_text, race_text}

-- The two records are the least race of these lines, with the logs of their rows, and `confirm` answers that byte; or the lines are no
-- race pair.
pub data HasExplanation (low high : ℕ) (trace : Trace) (status : ℕ) (text : List ℕ) : Type 0 where
  race : (found : RacePair) (one other : TaskLog) → IsLeastWitness trace (low, high) found → IsConfirmed trace found.first_row found.first found.second_row found.second found.byte
      → slice_get trace (found.first_row - 1) ≡ Some one → slice_get trace (found.second_row - 1) ≡ Some other → status ≡ RACES → text ≡ race_text found one.path other.path → HasExplanation low high trace status text
  no_race : (IsRacePair (logs_of trace) (low, high) → ⊥) → status ≡ DONE → text ≡ no_race_pair_text low high → HasExplanation low high trace status text
