-- The partners of a segment, and handing them over.
use Rattle.std.specs.Prelude.{◌≡◌, ◌↔◌, ℕ, ◌+◌, ◌<◌, List, length, Contains}
use Rattle.std.specs.List.Sorted.{IsStrictlyIncreasing}
use Rattle.interval_tree.specs.Visits.{TakesEach}
use Rattle.race_model.specs.Label.{IsConcurrent}
use Rattle.log_segment.specs.declared.segment.Segment.{Segment}
use Rattle.segment_groups.specs.Group.{label_at}

-- a segment stands later in the list, and the labels of both are concurrent
pub record IsPartner (segments : List Segment) (at other : ℕ) : Type 0 where
  pub later : at < other
  pub within : other < length segments
  pub concurrent : IsConcurrent (label_at segments at) (label_at segments other)

-- the numbers with a property, each once and in ascending order
pub record AreAll (P : ℕ → Type 0) (found : List ℕ) : Type 0 where
  pub ascending : IsStrictlyIncreasing found
  pub each : (n : ℕ) → Contains found n ↔ P n

-- all positions with the property were taken in turn, with a step for each
pub record HandsOver {S : Type 0} (took : S → ℕ → S → Type 0) (P : ℕ → Type 0) (before after : S) (old new : ℕ) : Type 0 where
  pub found : List ℕ
  pub all : AreAll P found
  pub takes : TakesEach took before found after
  pub steps : new ≡ old + length found

-- those before one of them were taken in turn, and this one was refused
pub record RefusesAt {S : Type 0} (took refused : S → ℕ → S → Type 0) (P : ℕ → Type 0) (before after : S) (old new : ℕ) : Type 0 where
  pub next : ℕ
  pub is_one : P next
  pub found : List ℕ
  pub all : AreAll (λ n. P n × (n < next)) found
  pub between : S
  pub takes : TakesEach took before found between
  pub refuses : refused between next after
  pub steps : new ≡ old + length found + 1
