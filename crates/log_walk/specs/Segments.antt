-- What the segments of a walk are.
use Rattle.std.specs.Prelude.{ℕ, List, Option}
use Rattle.std.specs.List.{AllZip}
use Rattle.sw_base.specs.Environment.{Content, WhereTold}
use Rattle.sw_base.specs.declared.path.Step.{Step}
use Rattle.log_format.specs.declared.format.Format.{Format}
use Rattle.race_model.specs.FirstBad.{HoldsTrace}
use Rattle.race_model.specs.KeepsRules.{KeepsRules}
use Rattle.race_model.specs.Segment.{segments_of}
use Rattle.race_model.specs.Trace.{Trace, logs_of}
use Rattle.log_segment.specs.Intervals.{AreSegments, IsSegmentOf}
use Rattle.log_segment.specs.OneTree.{StandInOneTree}
use Rattle.log_segment.specs.declared.segment.Segment.{Segment}

abbrev pub IsAnyTask : List Step → Type 0
IsAnyTask path = Unit {0}

-- they are those of the folder's trace, in order, and have all its accesses; where the folder tells nothing, of some
-- trace that keeps the rules
pub record AreOfFolder (format : Format) (told : Option Content) (dir : List ℕ) (found : List Segment) : Type 0 where
  pub trace : Trace
  pub keeps : KeepsRules format trace
  pub holds : WhereTold told (λ c. HoldsTrace format c.held dir trace)
  pub in_order : AllZip (IsSegmentOf (logs_of trace)) (segments_of trace) found
  pub all : AreSegments (logs_of trace) IsAnyTask found
  pub tree : StandInOneTree found
