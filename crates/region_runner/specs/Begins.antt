-- A lane of a team before its first phase.
use Rattle.std.specs.Prelude.{◌≡◌, List, [], ℤ, None}
use Rattle.sw_base.specs.declared.path.Step.{Step}
use Rattle.log_format.specs.declared.format.TheConstants.{FORMAT}
use Rattle.log_format.specs.Format.{log_header}
use Rattle.event_buffer.specs.Logged.{HoldsRecords}
use Rattle.shared_words.specs.declared.share.Share.{Share}
use Rattle.shared_words.specs.Handles.{HandValue}
use Rattle.lane_runner.specs.Handed.{LogPlace, log_place}
use Rattle.lane_runner.specs.Lane.{LaneValue}

-- The lane at this path has these locals and this hand on the counters. Its log, which is of this place, has no record, and it has
-- forked no region.
pub record LaneBegins (place : LogPlace) (path : List Step) (slots : List ℤ) (draws : HandValue Share) (m : LaneValue) : Type 0 where
  pub path_is : m.path ≡ path
  pub locals_are : m.locals ≡ slots
  pub going : m.stopped ≡ None
  pub own : m.buffer.path ≡ path
  pub place_is : log_place m.buffer ≡ place
  pub none_put : m.buffer.count ≡ 0
  pub unrefused : m.buffer.refused ≡ None
  pub holds : HoldsRecords (log_header FORMAT) m.buffer []
  pub tally : m.tally ≡ record { draws = draws; next_loop = 0; forked = 0 }
  pub none_handed : m.done ≡ []
