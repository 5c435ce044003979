use Rattle.std.proofs.Common.{ap, ◌∙◌}
use Rattle.explain.proofs.finding.find_in_log.Goals as goal

pub returns-clause-finds : goal.returns-clause-finds
returns-clause-finds g c = λ x told events whole counted nested.
    c.find_ahead.ensures.finds x (ap (λ s. s.content) c.in_ok-reader.ensures.reads.same ∙ told) events (c.in_ok-reader.ensures.stands x told events whole counted) nested
