use Rattle.kernel_laws.proofs.Meeting.{same-barriers, no-more-barriers}
use Rattle.kernel_laws.proofs.laws.lanes_of_regions_meet_the_same_barriers.Goals as goal

pub returns : goal.returns
returns c = record {
  ended = λ program logs above a b one other reads chunks reads_beside chunks_beside lawful region first second ended both.
      same-barriers program lawful logs above a b one other region first second reads chunks reads_beside chunks_beside ended both;
  stopped = λ program logs above a b one other reads chunks reads_beside chunks_beside lawful region first second ended.
      no-more-barriers program lawful logs above a b one other region first second reads chunks reads_beside chunks_beside ended;
}
