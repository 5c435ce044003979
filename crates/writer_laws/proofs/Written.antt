-- All laws, one after another.
use Rattle.std.proofs.Common.{◌⊎◌, ◌↔◌, ℕ, List, [], ◌∷◌, ◌++◌, inl, inr}
use Rattle.std.specs.Prelude.{All}
use Rattle.std.proofs.lemmas.List.Elements.{All-cons, All-nil, All-append}
use Rattle.race_model.specs.Trace.{Logs}
use Rattle.race_model.specs.Race.{IsRacePair}
use Rattle.race_model.specs.ForkJoin.{IsForkJoin}
use Rattle.writer_laws.specs.Writing.{IsWritten, IsPairOfParts}
use Rattle.writer_laws.proofs.Cut.{other_tree, cut_keeps_pairs}
use Rattle.writer_laws.proofs.Dropped.{drops_keep_pairs, root_drops}
use Rattle.writer_laws.proofs.Guarding.{locks_keep_run, locks_keep_pairs}
use Rattle.writer_laws.proofs.KeptRun.{kept_run}
use Rattle.writer_laws.proofs.Split.{first_run, second_run, split_pairs}
use Rattle.writer_laws.proofs.Valued.{values_keep_run, values_keep_pairs}

pub written_runs : (logs : Logs) (parts : List Logs) → IsForkJoin logs → IsWritten logs parts → All IsForkJoin parts
written_runs _ _ tree (IsWritten.whole logs) = All-cons IsForkJoin logs [] tree (All-nil IsForkJoin)
written_runs _ _ tree (IsWritten.dropped keep logs others parts drops next) = written_runs others parts (kept_run keep logs others tree drops) next
written_runs _ _ tree (IsWritten.root_dropped keep logs others parts drops next) = written_runs others parts (kept_run keep logs others tree (root_drops keep logs others tree drops)) next
written_runs _ _ tree (IsWritten.moved logs others parts same next) = written_runs others parts (locks_keep_run logs others tree same) next
written_runs _ _ tree (IsWritten.changed logs others parts same next) = written_runs others parts (values_keep_run logs others tree same) next
written_runs _ _ tree (IsWritten.cut k c span logs others parts is next) = written_runs others parts (other_tree k c span logs others is tree) next
written_runs _ _ tree (IsWritten.split logs one two parts more is first second) =
    All-append IsForkJoin parts more (written_runs one parts (first_run logs one two tree is) first) (written_runs two more (second_run logs one two tree is) second)

through : {P Q R : Type 0} → P ↔ Q → Q ↔ R → P ↔ R
through one two = (λ p. two.0 (one.0 p), λ r. one.1 (two.1 r))

one_pair : (logs : Logs) (pair : ℕ × ℕ) → IsRacePair logs pair ↔ IsPairOfParts (logs ∷ []) pair
one_pair logs pair = (inl, back)
  where
    back : IsPairOfParts (logs ∷ []) pair → IsRacePair logs pair
    back (inl p) = p
    back (inr none) = absurd none

in_first : (parts more : List Logs) (pair : ℕ × ℕ) → IsPairOfParts parts pair → IsPairOfParts (parts ++ more) pair
in_first [] more pair p = absurd p
in_first (logs ∷ parts) more pair (inl p) = inl p
in_first (logs ∷ parts) more pair (inr p) = inr (in_first parts more pair p)

in_more : (parts more : List Logs) (pair : ℕ × ℕ) → IsPairOfParts more pair → IsPairOfParts (parts ++ more) pair
in_more [] more pair p = p
in_more (logs ∷ parts) more pair p = inr (in_more parts more pair p)

in_either : (parts more : List Logs) (pair : ℕ × ℕ) → IsPairOfParts (parts ++ more) pair → IsPairOfParts parts pair ⊎ IsPairOfParts more pair
in_either [] more pair p = inr p
in_either (logs ∷ parts) more pair (inl p) = inl (inl p)
in_either (logs ∷ parts) more pair (inr p) = at (in_either parts more pair p)
  where
    at : IsPairOfParts parts pair ⊎ IsPairOfParts more pair → IsPairOfParts (logs ∷ parts) pair ⊎ IsPairOfParts more pair
    at (inl q) = inl (inr q)
    at (inr q) = inr q

both : (one two : Logs) (parts more : List Logs) (pair : ℕ × ℕ) → IsRacePair one pair ↔ IsPairOfParts parts pair → IsRacePair two pair ↔ IsPairOfParts more pair
    → (IsRacePair one pair ⊎ IsRacePair two pair) ↔ IsPairOfParts (parts ++ more) pair
both one two parts more pair mine yours = (there, λ p. back (in_either parts more pair p))
  where
    there : IsRacePair one pair ⊎ IsRacePair two pair → IsPairOfParts (parts ++ more) pair
    there (inl p) = in_first parts more pair (mine.0 p)
    there (inr p) = in_more parts more pair (yours.0 p)

    back : IsPairOfParts parts pair ⊎ IsPairOfParts more pair → IsRacePair one pair ⊎ IsRacePair two pair
    back (inl p) = inl (mine.1 p)
    back (inr p) = inr (yours.1 p)

pub written_pairs : (pair : ℕ × ℕ) (logs : Logs) (parts : List Logs) → IsForkJoin logs → IsWritten logs parts → IsRacePair logs pair ↔ IsPairOfParts parts pair
written_pairs pair _ _ tree (IsWritten.whole logs) = one_pair logs pair
written_pairs pair _ _ tree (IsWritten.dropped keep logs others parts drops next) =
    let run = kept_run keep logs others tree drops in
    through (drops_keep_pairs keep logs others drops tree run pair) (written_pairs pair others parts run next)
written_pairs pair _ _ tree (IsWritten.root_dropped keep logs others parts at_root next) =
    let drops = root_drops keep logs others tree at_root in
    let run = kept_run keep logs others tree drops in
    through (drops_keep_pairs keep logs others drops tree run pair) (written_pairs pair others parts run next)
written_pairs pair _ _ tree (IsWritten.moved logs others parts same next) =
    through (locks_keep_pairs logs others tree same pair) (written_pairs pair others parts (locks_keep_run logs others tree same) next)
written_pairs pair _ _ tree (IsWritten.changed logs others parts same next) =
    through (values_keep_pairs logs others tree same pair) (written_pairs pair others parts (values_keep_run logs others tree same) next)
written_pairs pair _ _ tree (IsWritten.cut k c span logs others parts is next) =
    through (cut_keeps_pairs k c span logs others is tree pair) (written_pairs pair others parts (other_tree k c span logs others is tree) next)
written_pairs pair _ _ tree (IsWritten.split logs one two parts more is first second) =
    through (split_pairs logs one two tree is pair)
    (both one two parts more pair (written_pairs pair one parts (first_run logs one two tree is) first) (written_pairs pair two more (second_run logs one two tree is) second))
