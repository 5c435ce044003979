use Rattle.std.proofs.Common.{rules}
use Rattle.hand_over.proofs.Beginning.{adds_allowed}
use Rattle.hand_over.proofs.parcels.Parcels.place.Goals as goal

pub split_seat-token-requires : goal.split_seat-token-requires
split_seat-token-requires g c = (search rules, search rules, adds_allowed g.P.Parcel.fits g.P.Parcel.follows c.self.inside.table.shared.key _ _ c.requires.desk)
