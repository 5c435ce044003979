use Rattle.std.proofs.Common.{ap}
use Rattle.team_live.proofs.serving.serve.Goals as goal

pub give_back-requires-clause-follows : goal.give_back-requires-clause-follows
give_back-requires-clause-follows g c κs within = (c.in-Some-take.parcel, ap (λ place. place.took) c.in-Some-take.ensures.some, c.done.ensures)
