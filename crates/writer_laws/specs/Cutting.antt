-- A region of the root that is cut at a barrier into two regions of the root with the same lanes.
use Rattle.std.specs.Prelude.{◌≡◌, ℕ, zero, suc, ◌+◌, ◌<◌, ◌==◌, if◌then◌else◌, List, [], ◌∷◌, ◌++◌}
use Rattle.sw_base.specs.declared.path.Step.{Step}
use Rattle.log_format.specs.declared.record.Record.{Record}
use Rattle.log_format.specs.declared.record.Kind.TheVariants.{Barrier, Region, End}
use Rattle.race_model.specs.Listing.{lane_of}
use Rattle.race_model.specs.Race.{held_after}
use Rattle.race_model.specs.Order.{IsLane}
use Rattle.race_model.specs.Trace.{Logs, Node, region_count, barrier_count}
use Rattle.writer_laws.specs.Renumbering.{IsFrom, AreForked}

-- the number of a region of the root before the k-th was doubled
abbrev pub undouble : ℕ → ℕ → ℕ
undouble zero zero = zero
undouble zero (suc r) = r
undouble (suc k) zero = zero
undouble (suc k) (suc r) = suc (undouble k r)

-- the number that a region had before the cut: in a lane of the second part those of the first part come before it
abbrev pub cut_number : ℕ → Logs → List Step → ℕ → ℕ
cut_number k others [] r = undouble k r
cut_number k others (step ∷ []) r = if step.region == suc k then r + region_count (others (lane_of [] k step.lane step.span)) else r
cut_number k others (step ∷ next ∷ below) r = r

-- how many barriers of its task come before the part: in a lane of the second part, those up to the cut
abbrev pub cut_offset : ℕ → ℕ → List Step → ℕ
cut_offset k barriers [] = 0
cut_offset k barriers (step ∷ []) = if step.region == suc k then suc barriers else 0
cut_offset k barriers (step ∷ next ∷ below) = 0

-- a lane's log, cut at the barrier of this number, where no mutex is held
pub record IsLaneCut (barriers : ℕ) (whole early late : List Record) : Type 0 where
  pub first : List Record
  pub barrier : Record
  pub ended : Record
  pub whole_is : whole ≡ first ++ barrier ∷ late
  pub early_is : early ≡ first ++ ended ∷ []
  pub at_barrier : barrier.kind ≡ Barrier
  pub at_end : ended.kind ≡ End
  pub passed : barrier_count first ≡ barriers
  pub unlocked : held_after [] first ≡ []

-- no lane of the two regions
pub record IsElsewhere (k span : ℕ) (other : List Step) : Type 0 where
  pub not_early : (n : ℕ) → n < span → other ≡ lane_of [] k n span → ⊥
  pub not_late : (n : ℕ) → n < span → other ≡ lane_of [] (suc k) n span → ⊥

-- the k-th region of the root, from 0, is cut at the barrier of this number, from 0
pub record IsCut (k barriers span : ℕ) (logs others : Logs) : Type 0 where
  pub before : List Record
  pub region : Record
  pub again : Record
  pub after : List Record
  pub root : logs [] ≡ before ++ region ∷ after
  pub new_root : others [] ≡ before ++ region ∷ again ∷ after
  pub number_is : region_count before ≡ k
  pub forks : region.kind ≡ Region
  pub spans : region.value ≡ span
  pub forks_again : again.kind ≡ Region
  pub spans_again : again.value ≡ span
  pub only : AreForked others
  pub lanes : (n : ℕ) → n < span → IsLaneCut barriers (logs (lane_of [] k n span)) (others (lane_of [] k n span)) (others (lane_of [] (suc k) n span))
  pub rest : (path other : List Step) (fork : Node) (n s : ℕ) → IsFrom (cut_number k others) path other → IsLane others fork n s other → IsElsewhere k span other → others other ≡ logs path
