-- What `show` answers: every record of the run that the folder holds.
use Rattle.std.specs.Prelude.{◌≡◌, ℕ, List}
use Rattle.race_model.specs.Trace.{Trace}
use Rattle.log_listing.specs.Listing.{show_text}
use Rattle.command_answer.specs.declared.status.TheConstants.{DONE}

-- the records of a run
pub record ShowsRecords (trace : Trace) (status : ℕ) (text : List ℕ) : Type 0 where
  pub text_is : text ≡ show_text trace
  pub status_is : status ≡ DONE
