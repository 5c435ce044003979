use Rattle.std.proofs.Common.{rules, ◌≡◌, ◌++◌, ◌∷◌, [], sym, ap, subst, ℕ, ◌<◌, length}
use Rattle.team_live.specs.Phases.{EachDid}
use Rattle.team_live.proofs.Lanes.{back_did, did_all}
use Rattle.team_live.proofs.Turning.{still_out}
use Rattle.team_live.proofs.first.+run_lanes.Goals as goal

pub collect-back-requires-clause-out : goal.collect-back-requires-clause-out
collect-back-requires-clause-out g t c κs within =
    let at : c.len-index.result < length c.args.lanes.now.items = search rules in (
      c.new-parcel.result,
      still_out c.args.desk.now.turns c.send.new.desk.turns c.run_lanes.new.desk.turns c.len-index.result c.new-parcel.result (ap (λ d. d.turns) c.send.ensures) (c.requires.desk.idle c.len-index.result at) c.run_lanes.ensures.desk.home,
    )

pub returns-then-index-threads-clause-did : goal.returns-then-index-threads-clause-did
returns-then-index-threads-clause-did g t c =
    let at : c.len-index.result < length c.args.lanes.now.items = search rules in
    let index : c.len-index.result ≡ length c.pop.new.self.items = search rules in
    let parts : c.args.lanes.now.items ≡ c.pop.new.self.items ++ c.in-Some.lane ∷ [] = search rules in
    let out = still_out c.args.desk.now.turns c.send.new.desk.turns c.run_lanes.new.desk.turns c.len-index.result c.new-parcel.result (ap (λ d. d.turns) c.send.ensures) (c.requires.desk.idle c.len-index.result at) c.run_lanes.ensures.desk.home in
    let own = back_did g.K.LaneKey.did c.args.number c.len-index.result _ _ _ _ c.in-Some.lane _ _ c.into_lane.result c.new-parcel.ensures.number c.new-parcel.ensures.index c.new-parcel.ensures.lane
    (c.collect-back.ensures.follows c.new-parcel.result out) c.into_lane.ensures in
    subst (λ xs. EachDid g.K.LaneKey.did c.args.number c.args.lanes.now.items xs) (sym c.push_reserved.ensures.items)
    (did_all g.K.LaneKey.did c.args.number c.args.lanes.now.items c.pop.new.self.items c.run_lanes.new.lanes.items c.in-Some.lane c.into_lane.result parts c.run_lanes.ensures.did
    (subst (λ (k : ℕ). g.K.LaneKey.did c.args.number k c.in-Some.lane c.into_lane.result) index own))

pub returns-else-index-gt0-clause-did : goal.returns-else-index-gt0-clause-did
returns-else-index-gt0-clause-did g t c =
    let index : c.len-index.result ≡ length c.pop.new.self.items = search rules in
    let parts : c.args.lanes.now.items ≡ c.pop.new.self.items ++ c.in-Some.lane ∷ [] = search rules in
    let own = back_did g.K.LaneKey.did c.args.number c.len-index.result _ _ _ _ c.in-Some.lane _ _ c.into_lane-else-index-gt0.result c.new-parcel.ensures.number c.new-parcel.ensures.index c.new-parcel.ensures.lane
    c.done.ensures c.into_lane-else-index-gt0.ensures in
    subst (λ xs. EachDid g.K.LaneKey.did c.args.number c.args.lanes.now.items xs) (sym c.push_reserved-else-index-gt0.ensures.items)
    (did_all g.K.LaneKey.did c.args.number c.args.lanes.now.items c.pop.new.self.items c.run_lanes-else-index-gt0.new.lanes.items c.in-Some.lane c.into_lane-else-index-gt0.result parts c.run_lanes-else-index-gt0.ensures.did
    (subst (λ (k : ℕ). g.K.LaneKey.did c.args.number k c.in-Some.lane c.into_lane-else-index-gt0.result) index own))
