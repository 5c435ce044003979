use Rattle.std.proofs.Common.{refl}
use Rattle.log_replay.proofs.lane.ReplayLane.begin.Goals as goal

pub returns-clause-begun : goal.returns-clause-begun
returns-clause-begun g c = λ content told log whole counted ahead fits. record {
  content = content;
  is_told = told;
  stands = c.in_ok-open.ensures.stands content told log whole.there whole.tabled counted;
  parts = refl;
  count = refl;
  ahead = ahead;
  fits = fits;
}
