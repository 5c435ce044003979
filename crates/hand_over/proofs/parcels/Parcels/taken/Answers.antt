use Rattle.std.proofs.Common.{Some, ap, rules}
use Rattle.hand_over.proofs.Calls.{first_slot}
use Rattle.hand_over.proofs.PlaceSteps.{takes_allowed}
use Rattle.hand_over.proofs.parcels.Parcels.taken.Goals as goal

pub load-found-requires : goal.load-found-requires
load-found-requires g c = (search rules, search rules, takes_allowed g.P.Parcel.fits g.P.Parcel.follows c.self.inside.table.shared.key _ _ c.args.lane (search rules) _ (search rules) (search rules) (search rules))

pub exchange-requires : goal.exchange-requires
exchange-requires g c =
    let found = c.load-found.ensures.2.there (search rules) in
    (search rules, (Some found.0, first_slot _ _ _ (ap (λ m. m.1) found.1)))
