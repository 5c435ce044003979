use Rattle.std.proofs.Common.{◌≡◌, [], ◌∷◌, Some, None, refl, ap, ◌∙◌, rules}
use Rattle.hand_over.specs.Handles.{carried}
use Rattle.hand_over.proofs.Calls.{refilled}
use Rattle.hand_over.proofs.PlaceSteps.{returns_allowed}
use Rattle.hand_over.proofs.parcels.Parcels.give_back.Goals as goal

pub store-requires : goal.store-requires
store-requires g c =
    let v = c.place.inside.token.me.0 in
    let lane = c.place.inside.lane in
    let took : v.took ≡ Some c.requires.follows.0 = search rules in
    let holds : c.place.inside.token.me.1 ≡ (lane, None) ∷ [] = c.place.invariant.4 ∙ ap (carried lane) took in (
      search rules,
      search rules,
      returns_allowed g.P.Parcel.fits g.P.Parcel.follows c.self.inside.table.shared.key _ _ lane (search rules) v _ c.requires.follows.0 c.args.parcel c.place.invariant.0 c.place.invariant.1 took (search rules)
          (refilled v lane c.args.parcel _ _ refl holds c.exchange.ensures.3),
    )
