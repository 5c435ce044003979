use Rattle.std.proofs.Common.{rules}
use Rattle.log_segment.proofs.Gaining.{none_same, is_none}
use Rattle.log_segment.proofs.walking.Walk.begin.Goals as goal

pub returns-in_ok-start-clause-sums : goal.returns-in_ok-start-clause-sums
returns-in_ok-start-clause-sums c = none_same c.args.self.now.summary c.start.new.self.summary (is_none c.args.self.now.summary (search rules)) c.in_ok-start.ensures.none
