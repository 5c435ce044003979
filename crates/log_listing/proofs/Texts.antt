-- A text to which three parts were added.
use Rattle.std.proofs.Common.{◌≡◌, ℕ, List, ◌++◌, ap, ◌∙◌, append_assoc}

pub parts : (old a b c : List ℕ) → ((old ++ a) ++ b) ++ c ≡ old ++ (a ++ (b ++ c))
parts old a b c = append_assoc (old ++ a) b c ∙ append_assoc old a (b ++ c)
