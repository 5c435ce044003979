-- What `show` answers by its listing.
use Rattle.std.proofs.Common.{◌≡◌, ℕ, List, Option, refl}
use Rattle.std.specs.Prelude.{Result, Ok, Err, IfErr, OnOk, OnErr}
use Rattle.sw_base.specs.Environment.{GainsPrefix, gained}
use Rattle.race_model.specs.Trace.{Trace}
use Rattle.command_answer.specs.Answer.{IsFailure, Tries, done, broken_off}
use Rattle.command_answer.specs.declared.status.TheConstants.{DONE}
use Rattle.log_listing.specs.Listing.{show_text}
use Rattle.folder_commands.specs.Show.{ShowsRecords}

pub listed_tries : {T E : Type 0} (result : Result T E) (status : ℕ) (trace : Trace) (old new : Option (List ℕ)) → OnOk result (new ≡ gained old (show_text trace)) → OnErr result (GainsPrefix old new (show_text trace))
    → OnOk result (status ≡ DONE) → IfErr result (λ _. IsFailure status) → Tries (ShowsRecords trace) old new status
listed_tries (Ok x) status trace old new all part is failed = done (show_text trace) (record { text_is = refl; status_is = is }) all
listed_tries (Err e) status trace old new all part is failed = broken_off failed DONE (show_text trace) (record { text_is = refl; status_is = refl }) part
