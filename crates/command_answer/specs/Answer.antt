-- What it means that a command gives the answer that is due.
use Rattle.std.specs.Prelude.{◌≡◌, ◌⊎◌, ℕ, List, Option}
use Rattle.sw_base.specs.Environment.{gained, GainsPrefix}
use Rattle.command_answer.specs.declared.status.TheConstants.{READ_FAULT, WRITE_FAULT, NO_MEMORY}

-- the status of a command that could not give its answer
abbrev pub IsFailure : ℕ → Type 0
IsFailure status = (status ≡ READ_FAULT) ⊎ (status ≡ WRITE_FAULT) ⊎ (status ≡ NO_MEMORY)

-- A due text was printed with its status; or the environment failed or no memory was found, after a prefix of each text that
-- was due.
pub data Answers (due : ℕ → List ℕ → Type 0) (old new : Option (List ℕ)) (status : ℕ) : Type 0 where
  given : (text : List ℕ) → due status text → new ≡ gained old text → Answers due old new status
  failed : IsFailure status → ((due_status : ℕ) (text : List ℕ) → due due_status text → GainsPrefix old new text) → Answers due old new status

-- a due text was printed, or a prefix of it, or nothing
pub data Tries (due : ℕ → List ℕ → Type 0) (old new : Option (List ℕ)) (status : ℕ) : Type 0 where
  done : (text : List ℕ) → due status text → new ≡ gained old text → Tries due old new status
  broken_off : IsFailure status → (due_status : ℕ) (text : List ℕ) → due due_status text → GainsPrefix old new text → Tries due old new status
  silent : IsFailure status → new ≡ old → Tries due old new status

-- this text was printed, or a prefix of it and the printing failed
pub data Prints (status : ℕ) (text : List ℕ) (old new : Option (List ℕ)) (result : ℕ) : Type 0 where
  whole : result ≡ status → new ≡ gained old text → Prints status text old new result
  part : IsFailure result → GainsPrefix old new text → Prints status text old new result
