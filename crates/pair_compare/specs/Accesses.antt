-- Accesses of the segments of a run.
use Rattle.std.specs.Prelude.{◌≡◌, ℕ}
use Rattle.log_format.specs.declared.record.Record.{Record}
use Rattle.log_segment.specs.Intervals.{HasAccess}
use Rattle.log_segment.specs.OneTree.{IsSegmentIn}
use Rattle.log_segment.specs.declared.segment.Segment.{Segment}
use Rattle.race_model.specs.Trace.{Logs, Node}
use Rattle.stride_summary.specs.declared.key.Key.{Key}

-- the segments aren't the same barrier interval
abbrev pub AreDifferent : Segment → Segment → Type 0
AreDifferent a b = a.path ≡ b.path → a.first ≡ b.first → ⊥

-- the segment is one of the run, and the record at the node is one of its accesses
pub record IsAccessOf (logs : Logs) (segment : Segment) (x : Node) : Type 0 where
  pub of_run : IsSegmentIn logs segment
  pub r : Record
  pub key : Key
  pub address : ℕ
  pub has : HasAccess logs segment x r key address
