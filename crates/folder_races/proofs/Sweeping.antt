-- The race pairs of the regions that a sweep has given.
use Rattle.std.proofs.Common.{ℕ, ◌<◌, ◌≤◌, List, [], ◌++◌, Contains, Option, inl, inr, sym, subst, ◌∙◌, append_assoc, arith}
use Rattle.std.specs.Prelude.{◌↔◌}
use Rattle.std.specs.List.Sorted.{IsStrictlySortedBy}
use Rattle.std.proofs.lemmas.Option.{get_or_from_slice_get, slice_get_within}
use Rattle.log_format.specs.declared.format.TheConstants.{FORMAT}
use Rattle.sw_base.specs.declared.path.Step.{Step}
use Rattle.sw_base.specs.Environment.{Content}
use Rattle.race_model.specs.ForkJoin.{IsForkJoin, IsTask}
use Rattle.race_model.specs.Race.{Lists, pair_cmp}
use Rattle.race_model.specs.Trace.{Trace, logs_of}
use Rattle.race_laws.proofs.FolderForkJoin.{fork_join}
use Rattle.race_model.proofs.TraceLogs.{find_task}
use Rattle.log_segment.specs.Intervals.{AreSegments}
use Rattle.log_segment.specs.Regions.{IsUnderRegion}
use Rattle.log_segment.specs.declared.segment.Segment.{Segment}
use Rattle.log_walk.specs.Sweep.{BeginsSweep, Completes, GivesRegion, HasSwept, HasSweptAll, regions_given}
use Rattle.log_walk.specs.declared.sweep.Sweep.{Sweep}
use Rattle.pair_compare.specs.Compare.{IsSegmentPair}
use Rattle.pair_compare.specs.Conflict.{AddsPairs}
use Rattle.pair_compare.specs.Regions.{IsRacePairBelow, IsUnderRegions}
use Rattle.pair_compare.proofs.FirstRegion.{all_regions, more_segments, next_regions, no_region, no_segments}
use Rattle.folder_races.specs.Pairs.{AreFolderPairs}

-- whatever the other logs are, the pairs are those of the races under the first regions that were given, and the segments
-- of the others wait
pub record SweptPairs (told : Option Content) (dir : List ℕ) (sweep : Sweep) (pairs : List (ℕ × ℕ)) (waiting : List Segment) : Type 0 where
  pub trace : Trace
  pub swept : HasSwept FORMAT told dir sweep trace
  pub compared : ℕ
  pub given : compared ≤ regions_given sweep
  pub are : (whole : Trace) → Completes sweep trace whole → IsForkJoin (logs_of whole) → (pair : ℕ × ℕ)
      → Contains pairs pair ↔ IsRacePairBelow (logs_of whole) compared pair
  pub wait : (whole : Trace) → Completes sweep trace whole → AreSegments (logs_of whole) (IsUnderRegions compared (regions_given sweep)) waiting

-- no region was given
pub SweptPairs-start : (told : Option Content) (dir : List ℕ) (sweep : Sweep) (found : List Segment) → BeginsSweep FORMAT told dir sweep found → SweptPairs told dir sweep [] []
SweptPairs-start told dir sweep found begins = record {
  trace = _;
  swept = begins.swept;
  compared = regions_given sweep;
  given = omega arith;
  are = λ whole completes tree pair. (
    λ none'. absurd (omega (arith, none'.1)),
    λ below. absurd (no_region (logs_of whole) pair (subst (λ (n : ℕ). IsRacePairBelow (logs_of whole) n pair) begins.none_given below)),
  );
  wait = λ whole completes. no_segments (logs_of whole) (regions_given sweep);
}

-- the segments of one region more wait
pub SweptPairs-next : (told : Option Content) (dir : List ℕ) (old new : Sweep) (pairs : List (ℕ × ℕ)) (waiting found : List Segment) (swept : SweptPairs told dir old pairs waiting)
    → GivesRegion FORMAT told dir old new swept.trace found → SweptPairs told dir new pairs (waiting ++ found)
SweptPairs-next told dir old new pairs waiting found swept gives = record {
  trace = swept.trace ++ gives.more;
  swept = gives.swept;
  compared = swept.compared;
  given = omega (arith, swept.given, gives.next);
  are = λ whole completes. swept.are whole (earlier whole completes);
  wait = λ whole completes. subst (λ (n : ℕ). AreSegments (logs_of whole) (IsUnderRegions swept.compared n) (waiting ++ found)) (sym gives.next)
      (more_segments (logs_of whole) swept.compared (regions_given old) waiting found swept.given (swept.wait whole (earlier whole completes)) (gives.gives.are whole completes));
}
  where
    earlier : (whole : Trace) → Completes new (swept.trace ++ gives.more) whole → Completes old swept.trace whole
    earlier whole completes = record {
      rows_are = completes.rows_are ∙ gives.rows;
      rest = gives.more ++ completes.rest;
      parts = completes.parts ∙ append_assoc swept.trace gives.more completes.rest;
    }

-- those that waited were compared
pub SweptPairs-compared : (told : Option Content) (dir : List ℕ) (sweep : Sweep) (pairs more_pairs : List (ℕ × ℕ)) (waiting : List Segment) (swept : SweptPairs told dir sweep pairs waiting)
    → AddsPairs pairs more_pairs (IsSegmentPair waiting) → SweptPairs told dir sweep more_pairs []
SweptPairs-compared told dir sweep pairs more_pairs waiting swept adds = record {
  trace = swept.trace;
  swept = swept.swept;
  compared = regions_given sweep;
  given = omega arith;
  are = λ whole completes tree.
      next_regions (logs_of whole) swept.compared (regions_given sweep) waiting pairs more_pairs tree swept.given (swept.wait whole completes) (swept.are whole completes tree) adds;
  wait = λ whole completes. no_segments (logs_of whole) (regions_given sweep);
}

-- the pairs that were found are those of the segments
pub AddsPairs-listed : (pairs more_pairs more : List (ℕ × ℕ)) (segments : List Segment) → Lists (IsSegmentPair segments) more → AddsPairs pairs more_pairs (Contains more) → AddsPairs pairs more_pairs (IsSegmentPair segments)
AddsPairs-listed pairs more_pairs more segments lists adds = record {
  kept = adds.kept;
  added = λ pair is. adds.added pair ((lists.each pair).1 is);
  only = λ pair h. elim (adds.only pair h) [ inl was ↦ inl was | inr is ↦ inr ((lists.each pair).0 is) ];
}

-- all regions were given, and the last segments were compared
pub SweptPairs-all : (told : Option Content) (dir : List ℕ) (sweep : Sweep) (pairs more_pairs : List (ℕ × ℕ)) (waiting : List Segment) (swept : SweptPairs told dir sweep pairs waiting)
    → HasSweptAll FORMAT told dir sweep swept.trace → AddsPairs pairs more_pairs (IsSegmentPair waiting) → IsStrictlySortedBy pair_cmp more_pairs → AreFolderPairs told dir more_pairs
SweptPairs-all told dir sweep pairs more_pairs waiting swept all adds ascending = record {
  trace = swept.trace;
  holds = all.holds;
  well_formed = all.well_formed;
  races = record {
    ascending = ascending;
    each = λ pair.
        let below = next_regions (logs_of swept.trace) swept.compared (regions_given sweep) waiting pairs more_pairs tree swept.given (swept.wait swept.trace all.completes) (swept.are swept.trace all.completes tree) adds pair in
        let whole = all_regions (logs_of swept.trace) (regions_given sweep) pair tree few in
        (λ h. whole.0 (below.0 h), λ h. below.1 (whole.1 h));
  };
}
  where
    tree : IsForkJoin (logs_of swept.trace)
    tree = fork_join swept.trace all.keeps

    few : (path : List Step) (region : ℕ) → IsTask (logs_of swept.trace) path → IsUnderRegion region path → region < regions_given sweep
    few path region is under =
        let found = find_task swept.trace path is in
        all.under found.task region (found.index, slice_get_within swept.trace found.index found.task found.found, get_or_from_slice_get swept.trace found.index found.task found.task found.found) (subst (λ (p : List Step). IsUnderRegion region p) (sym found.path_is) under)
