-- The segments of all regions together.
use Rattle.std.proofs.Common.{ℕ, List, [], ◌++◌, length, Option, sym, ap, subst, ◌∙◌, arith, append_assoc}
use Rattle.std.specs.List.{AllZip}
use Rattle.std.proofs.lemmas.Grind.{flat_map-append}
use Rattle.std.proofs.lemmas.Option.{slice_get_within}
use Rattle.std.proofs.lemmas.List.{length-map}
use Rattle.log_format.specs.declared.format.Format.{Format}
use Rattle.race_model.specs.FirstBad.{row_of}
use Rattle.sw_base.specs.Environment.{Content}
use Rattle.race_model.specs.Row.{Row}
use Rattle.race_model.specs.Segment.{Segment as Interval, segments_of, task_segments}
use Rattle.race_model.specs.Trace.{Trace, logs_of}
use Rattle.log_segment.specs.declared.segment.Segment.{Segment}
use Rattle.log_segment.specs.Intervals.{IsSegmentOf}
use Rattle.log_segment.proofs.Passing.{zip_append}
use Rattle.log_walk.specs.Segments.{AreOfFolder, IsAnyTask}
use Rattle.log_walk.specs.Sweep.{Completes, GivesRegion, HasSwept, HasSweptAll}
use Rattle.log_walk.specs.declared.sweep.Sweep.{Sweep}
use Rattle.log_walk.proofs.Giving.{one_tree, segments_are}
use Rattle.log_walk.proofs.SweepMoves.{root_listed_first}

-- the segments so far are those of the tasks so far
pub record WalkedTo (format : Format) (told : Option Content) (dir : List ℕ) (sweep : Sweep) (found : List Segment) : Type 0 where
  pub trace : Trace
  pub swept : HasSwept format told dir sweep trace
  pub in_order : (whole : Trace) → Completes sweep trace whole → AllZip (IsSegmentOf (logs_of whole)) (segments_of trace) found

pub walked_more : {format : Format} (told : Option Content) (dir : List ℕ) (old new : Sweep) (found region : List Segment) → (w : WalkedTo format told dir old found) → GivesRegion format told dir old new w.trace region → WalkedTo format told dir new (found ++ region)
walked_more told dir old new found region w g = record {
  trace = w.trace ++ g.more;
  swept = g.swept;
  in_order = λ whole c. subst (λ (is : List Interval). AllZip (IsSegmentOf (logs_of whole)) is (found ++ region)) (sym (flat_map-append task_segments w.trace g.more))
      (zip_append (logs_of whole) (segments_of w.trace) (segments_of g.more) found region
      (w.in_order whole (record { rows_are = c.rows_are ∙ g.rows; rest = g.more ++ c.rest; parts = c.parts ∙ append_assoc w.trace g.more c.rest })) (g.gives.in_order whole c));
}

pub of_folder : {format : Format} (told : Option Content) (dir : List ℕ) (sweep : Sweep) (found : List Segment) → (w : WalkedTo format told dir sweep found) → HasSweptAll format told dir sweep w.trace → AreOfFolder format told dir found
of_folder told dir sweep found w all = record {
  trace = w.trace;
  keeps = all.keeps;
  holds = all.holds;
  in_order = zip;
  all = segments_are sweep.rows [] w.trace all.completes.rest w.trace IsAnyTask found w.swept.rows w.swept.good all.completes.rows_are all.completes.parts
      (λ k row at low high. tt) (λ k row at one. (omega arith, omega (arith, slice_get_within sweep.rows k row at, ap (λ (rs : List Row). length rs) all.completes.rows_are, length-map w.trace row_of))) zip;
  tree = one_tree sweep.rows [] w.trace w.swept.rows w.swept.good found w.swept.regions.begun (root_listed_first sweep.rows w.swept.rows) zip;
} where
  zip : AllZip (IsSegmentOf (logs_of w.trace)) (segments_of w.trace) found
  zip = w.in_order w.trace all.completes
