-- Printing a due text gives the answer.
use Rattle.std.proofs.Common.{◌≡◌, ◌∙◌, ℕ, List, ◌++◌, Option, ap, inr, sym, subst}
use Rattle.std.specs.Prelude.{Result, Ok, Err, IfOk, OnErr, String, string_bytes}
use Rattle.std.specs.declared.alloc.Global.{Global}
use Rattle.sw_base.specs.Environment.{GainsPrefix, gained}
use Rattle.sw_base.proofs.Gains.{GainsPrefix-after, GainsPrefix-append, GainsPrefix-same, gained-gained}
use Rattle.command_answer.specs.declared.status.TheConstants.{NO_MEMORY}
use Rattle.command_answer.specs.Answer.{Answers, given, failed, IsFailure, Tries, done, broken_off, silent, Prints, whole, part}

pub Tries-from_prints : (due : ℕ → List ℕ → Type 0) (status : ℕ) (text : List ℕ) (old new : Option (List ℕ)) (result : ℕ) → due status text → Prints status text old new result
    → Tries due old new result
Tries-from_prints due status text old new result is_due (whole same all) = done text (subst (λ (s : ℕ). due s text) (sym same) is_due) all
Tries-from_prints due status text old new result is_due (part failure prefix) = broken_off failure status text is_due prefix

-- and so does printing it where memory was found for it
pub Tries-from_made : {E : Type 0} (due : ℕ → List ℕ → Type 0) (made : Result (String Global) E) (status : ℕ) (text : List ℕ) (old new : Option (List ℕ)) (result : ℕ) → due status text
    → IfOk made (λ t. string_bytes t ≡ text) → IfOk made (λ t. Prints status (string_bytes t) old new result) → OnErr made ((result ≡ NO_MEMORY) × (new ≡ old)) → Tries due old new result
Tries-from_made due (Ok t) status text old new result is_due is prints none =
    Tries-from_prints due status text old new result is_due (subst (λ (bytes : List ℕ). Prints status bytes old new result) is prints)
Tries-from_made due (Err e) status text old new result is_due is prints none = silent (inr (inr none.0)) none.1

-- an answer for one thing that is due is an answer for all that are
pub Tries-weaker : (due more : ℕ → List ℕ → Type 0) (old new : Option (List ℕ)) (result : ℕ) → ((status : ℕ) (text : List ℕ) → due status text → more status text)
    → Tries due old new result → Tries more old new result
Tries-weaker due more old new result also (done text is_due all) = done text (also result text is_due) all
Tries-weaker due more old new result also (broken_off failure status text is_due prefix) = broken_off failure status text (also status text is_due) prefix
Tries-weaker due more old new result also (silent failure same) = silent failure same

-- where one text is due, a prefix of it is a prefix of each
pub Answers-of : (due : ℕ → List ℕ → Type 0) → ((s r : ℕ) (t u : List ℕ) → due s t → due r u → t ≡ u) → (old new : Option (List ℕ)) (result : ℕ) → Tries due old new result → Answers due old new result
Answers-of due once old new result (done text is_due all) = given text is_due all
Answers-of due once old new result (broken_off failure status text is_due prefix) =
    failed failure (λ other_status other is. subst (λ (t : List ℕ). GainsPrefix old new t) (once status other_status text other is_due is) prefix)
Answers-of due once old new result (silent failure same) = failed failure (λ other_status other is. GainsPrefix-same old new other same)

-- a text after one that was printed whole
pub Prints-after : (status : ℕ) (first text : List ℕ) (old between new : Option (List ℕ)) (result : ℕ) → between ≡ gained old first → Prints status text between new result
    → Prints status (first ++ text) old new result
Prints-after status first text old between new result is (whole same all) = whole same (all ∙ ap (λ (w : Option (List ℕ)). gained w text) is ∙ gained-gained old first text)
Prints-after status first text old between new result is (part failure prefix) = part failure (GainsPrefix-after old between new first text is prefix)

-- a first text that wasn't
pub Prints-broken : (status : ℕ) (first text : List ℕ) (old new : Option (List ℕ)) (result : ℕ) → IsFailure result → GainsPrefix old new first → Prints status (first ++ text) old new result
Prints-broken status first text old new result failure prefix = part failure (GainsPrefix-append old new first text prefix)
