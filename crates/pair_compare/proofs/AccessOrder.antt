-- The labels of two different segments order their accesses.
use Rattle.std.proofs.Common.{◌≡◌, ◌↔◌, ◌⊎◌, ◌≤◌, inl, inr}
use Rattle.std.proofs.lemmas.Option.{slice_get_within}
use Rattle.log_segment.specs.declared.segment.Segment.{Segment}
use Rattle.race_model.specs.ForkJoin.{IsForkJoin}
use Rattle.race_model.specs.Label.{IsLabelBefore, IsConcurrent}
use Rattle.race_model.specs.Order.{HappensBefore}
use Rattle.race_model.specs.Race.{IsUnordered}
use Rattle.race_model.specs.Trace.{Logs, Node, IsThere}
use Rattle.race_laws.proofs.LabelLaw.{happens_before_by_labels, concurrent_unordered, unordered_concurrent}
use Rattle.pair_compare.specs.Accesses.{AreDifferent, IsAccessOf}
use Rattle.pair_compare.proofs.SegmentPlace.{different_labels}

access_there : (logs : Logs) (a : Segment) (x : Node) → IsAccessOf logs a x → IsThere logs x
access_there logs a x h = slice_get_within (logs x.path) x.index h.r h.has.at_node.found

pub accesses_ordered : (logs : Logs) (a b : Segment) (x y : Node) → IsForkJoin logs → AreDifferent a b → IsAccessOf logs a x → IsAccessOf logs b y → IsLabelBefore a.label b.label ↔ HappensBefore logs x y
accesses_ordered logs a b x y tree different mine yours = ((λ before. by_labels.1 (inl before)), (λ before. at (by_labels.0 before)))
  where
    by_labels : HappensBefore logs x y ↔ (IsLabelBefore a.label b.label ⊎ ((a.label ≡ b.label) × (x.index ≤ y.index)))
    by_labels = happens_before_by_labels logs x y a.label b.label tree (access_there logs a x mine) (access_there logs b y yours) mine.has.label yours.has.label

    at : IsLabelBefore a.label b.label ⊎ ((a.label ≡ b.label) × (x.index ≤ y.index)) → IsLabelBefore a.label b.label
    at (inl before) = before
    at (inr same) = absurd (different_labels logs a b tree mine.of_run yours.of_run different same.0)

pub accesses_unordered : (logs : Logs) (a b : Segment) (x y : Node) → IsForkJoin logs → IsAccessOf logs a x → IsAccessOf logs b y → IsConcurrent a.label b.label ↔ IsUnordered logs x y
accesses_unordered logs a b x y tree mine yours = (
  concurrent_unordered logs x y a.label b.label tree (access_there logs a x mine) (access_there logs b y yours) mine.has.label yours.has.label,
  unordered_concurrent logs x y a.label b.label tree (access_there logs a x mine) (access_there logs b y yours) mine.has.label yours.has.label,
)
