use Rattle.std.proofs.Common.{◌≡◌, ◌<◌, length, rules}
use Rattle.hand_over.specs.declared.view.Turn.TheVariants.{Idle, Out}
use Rattle.hand_over.specs.Views.{turn_at}
use Rattle.hand_over.proofs.Calls.{filled, sent_off, slot_inside, stands, word_inside}
use Rattle.hand_over.proofs.DeskSteps.{idle_made, opens_allowed, sends_allowed}
use Rattle.hand_over.proofs.parcels.Parcels.send.Goals as goal

pub load-requires : goal.load-requires
load-requires g c =
    let v = c.desk.inside.token.me.0 in
    let same : c.desk.inside.token.table_id ≡ c.self.inside.table.shared.table_id = search rules in
    let idle : turn_at v.turns c.args.lane ≡ Idle = search rules in
    let made : c.args.lane < length v.turns = idle_made v.turns c.args.lane idle in
    let word = word_inside _ _ _ c.args.lane same c.desk.invariant.3 made in
    let slot = slot_inside _ _ _ c.args.lane same c.desk.invariant.3 c.desk.invariant.4 made in
    (same, word, opens_allowed g.P.Parcel.fits g.P.Parcel.follows c.self.inside.table.shared.key _ _ c.args.lane slot _ c.desk.invariant.0 c.desk.invariant.1 idle)

pub store-requires : goal.store-requires
store-requires g c =
    let v = c.desk.inside.token.me.0 in
    let same : c.desk.inside.token.table_id ≡ c.self.inside.table.shared.table_id = search rules in
    let idle : turn_at v.turns c.args.lane ≡ Idle = search rules in
    let made : c.args.lane < length v.turns = idle_made v.turns c.args.lane idle in
    let word = word_inside _ _ _ c.args.lane same c.desk.invariant.3 made in
    let slot = slot_inside _ _ _ c.args.lane same c.desk.invariant.3 c.desk.invariant.4 made in (
      search rules,
      word,
      sends_allowed g.P.Parcel.fits g.P.Parcel.follows c.self.inside.table.shared.key _ _ c.args.lane slot v _ c.args.parcel c.desk.invariant.0 idle (search rules)
          (filled v _ c.args.lane c.args.parcel _ _ c.desk.invariant.2 c.load.ensures.2 c.exchange.ensures.3),
    )

pub invariant_of-desk : goal.invariant_of-desk
invariant_of-desk g c =
    let v = c.desk.inside.token.me.0 in
    stands v c.args.lane (Out c.args.parcel) c.store.new.seat.me c.desk.inside.token.table_id c.store.new.seat.table_id
    (sent_off v c.args.lane c.self.inside.table.shared.table_id.slots c.args.parcel _ _ (filled v _ c.args.lane c.args.parcel _ _ c.desk.invariant.2 c.load.ensures.2 c.exchange.ensures.3) c.store.ensures.2)
    (search rules) c.desk.invariant.0 c.desk.invariant.3 c.desk.invariant.4
