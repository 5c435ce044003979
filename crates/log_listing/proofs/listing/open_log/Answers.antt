use Rattle.log_listing.proofs.listing.open_log.Goals as goal

pub returns-in-Ok-clause-stands : goal.returns-in-Ok-clause-stands
returns-in-Ok-clause-stands g c = λ x told events whole counted. c.in-Ok.ensures.stands x told events whole.there whole.tabled counted
