use Rattle.std.proofs.Common.{◌≡◌, ◌<◌, length, rules}
use Rattle.hand_over.specs.declared.view.Turn.TheVariants.{Idle}
use Rattle.hand_over.specs.Views.{turn_at}
use Rattle.hand_over.proofs.Calls.{slot_inside, word_inside}
use Rattle.hand_over.proofs.DeskSteps.{ends_allowed, idle_made}
use Rattle.hand_over.proofs.parcels.Parcels.close.Goals as goal

pub store-requires : goal.store-requires
store-requires g c =
    let v = c.desk.inside.token.me.0 in
    let same : c.desk.inside.token.table_id ≡ c.self.inside.table.shared.table_id = search rules in
    let idle : turn_at v.turns c.args.lane ≡ Idle = search rules in
    let made : c.args.lane < length v.turns = idle_made v.turns c.args.lane idle in
    let word = word_inside _ _ _ c.args.lane same c.desk.invariant.3 made in
    let slot = slot_inside _ _ _ c.args.lane same c.desk.invariant.3 c.desk.invariant.4 made in
    (same, word, ends_allowed g.P.Parcel.fits g.P.Parcel.follows c.self.inside.table.shared.key _ _ c.args.lane slot _ c.desk.invariant.0 c.desk.invariant.1 idle)
