use Rattle.std.proofs.Common.{◌≡◌, ◌<◌, length, rules}
use Rattle.hand_over.specs.declared.view.Turn.TheVariants.{Out}
use Rattle.hand_over.specs.Views.{turn_at}
use Rattle.hand_over.proofs.Calls.{slot_inside, word_inside}
use Rattle.hand_over.proofs.DeskSteps.{frees_allowed, out_made}
use Rattle.hand_over.proofs.parcels.Parcels.collect.Goals as goal

pub collected-parcel-requires-clause-inside : goal.collected-parcel-requires-clause-inside
collected-parcel-requires-clause-inside g c lifetimes bounds =
    let v = c.desk.inside.token.me.0 in
    let same : c.desk.inside.token.table_id ≡ c.args.self.now = search rules in
    let out : turn_at v.turns c.args.lane ≡ Out c.requires.out.0 = search rules in
    let made : c.args.lane < length v.turns = out_made v.turns c.args.lane c.requires.out.0 out in
    let word = word_inside _ _ _ c.args.lane same c.desk.invariant.3 made in
    word

pub load-requires : goal.load-requires
load-requires g c =
    let v = c.desk.inside.token.me.0 in
    let same : c.desk.inside.token.table_id ≡ c.self.inside.table.shared.table_id = search rules in
    let out : turn_at v.turns c.args.lane ≡ Out c.requires.out.0 = search rules in
    let made : c.args.lane < length v.turns = out_made v.turns c.args.lane c.requires.out.0 out in
    let word = word_inside _ _ _ c.args.lane same c.desk.invariant.3 made in
    let slot = slot_inside _ _ _ c.args.lane same c.desk.invariant.3 c.desk.invariant.4 made in
    (search rules, word, frees_allowed g.P.Parcel.fits g.P.Parcel.follows c.self.inside.table.shared.key _ _ c.args.lane slot v _ c.desk.invariant.0 made c.collected-parcel.ensures.desk)
