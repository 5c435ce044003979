use Rattle.std.proofs.Common.{◌≡◌, arith, refl}
use Rattle.race_model.specs.Segment.{segment_count}
use Rattle.generated_run.specs.Generated.{root_records}
use Rattle.generated_run.proofs.Opening.{lane_segments}
use Rattle.generated_run.proofs.counts.segments.Goals as goal

pub returns : goal.returns
returns c =
    let n = c.args.rounds in
    let some = c.requires in
    let root : segment_count root_records ≡ 0 = refl in
    omega (arith, root, lane_segments n 0 some, lane_segments n 1 some, lane_segments n 2 some, lane_segments n 3 some, lane_segments n 4 some, lane_segments n 5 some, lane_segments n 6 some, lane_segments n 7 some)
