-- The new logs that the lanes of a region get.
use Rattle.std.specs.Prelude.{◌≡◌, ℕ, ◌<◌, List, [], ◌∷◌, ◌++◌, length, is_some, slice_index_or}
use Rattle.sw_base.specs.declared.environment.Log.{Ghosts}
use Rattle.sw_base.specs.Environment.{WhereTold, empty_text}
use Rattle.event_buffer.specs.Buffered.{Buffered}

-- an empty log of the same folder as the task's, for this lane of its region of this number and span
pub record IsNewLog {T : Type 0} (seen : Ghosts T) (task : Buffered) (number span lane : ℕ) (log : T) : Type 0 where
  pub dir : seen.dir log ≡ task.dir
  pub path : seen.path log ≡ task.path ++ record { region = number; lane = lane; span = span } ∷ []
  pub tells : is_some (seen.text log) ≡ is_some task.text
  pub empty : WhereTold (seen.text log) (λ text. text ≡ empty_text)
  pub no_faults : seen.faults log ≡ 0

abbrev pub EachIsNew : {T : Type 0} → Ghosts T → Buffered → ℕ → ℕ → List T → Type 0
EachIsNew {T} seen task number span logs = (k : ℕ) (d : T) → k < length logs → IsNewLog seen task number span k (slice_index_or logs k d)

-- one for each lane
pub record AreNewLogs {T : Type 0} (seen : Ghosts T) (task : Buffered) (number span : ℕ) (logs : List T) : Type 0 where
  pub count : length logs ≡ span
  pub each : EachIsNew seen task number span logs
