use Rattle.std.proofs.Common.{ap, ◌∙◌}
use Rattle.log_upgrade.proofs.logs.spell_log.Goals as goal

pub returns-clause-spelled : goal.returns-clause-spelled
returns-clause-spelled g c = λ x told events whole counted.
    c.spell_records.ensures.spelled x (ap (λ s. s.content) c.in_ok-open.ensures.reads.same ∙ told) events (c.in_ok-open.ensures.stands x told events whole.there whole.tabled counted)
