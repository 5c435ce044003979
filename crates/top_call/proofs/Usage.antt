-- What is printed where the arguments ask for nothing.
use Rattle.std.proofs.Common.{◌≡◌, ◌∙◌, sym, ℕ, List}
use Rattle.top_call.specs.Requests.{UsageDue}

-- there is one answer
pub usage_once : (s r : ℕ) (t u : List ℕ) → UsageDue s t → UsageDue r u → t ≡ u
usage_once s r t u a b = a.1 ∙ sym b.1
