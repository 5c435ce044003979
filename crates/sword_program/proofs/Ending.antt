-- The status of arguments that ask for nothing.
use Rattle.std.proofs.Common.{◌≡◌, ◌⊎◌, inl, inr, ℕ, List, Option}
use Rattle.command_answer.specs.Answer.{Answers, IsFailure, given, failed}
use Rattle.command_answer.specs.declared.status.TheConstants.{USAGE}
use Rattle.top_call.specs.Requests.{UsageDue}

pub usage_status : (old new : Option (List ℕ)) (status : ℕ) → Answers UsageDue old new status → (status ≡ USAGE) ⊎ IsFailure status
usage_status old new status (given text due is) = inl due.0
usage_status old new status (failed failure part) = inr failure
