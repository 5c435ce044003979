use Rattle.std.proofs.Common.{◌≡◌, [], ap, ◌∙◌, length, rules, sym}
use Rattle.hand_over.specs.Handles.{new_place}
use Rattle.hand_over.specs.Views.{with_lane}
use Rattle.hand_over.proofs.Beginning.{more_places, one_more}
use Rattle.hand_over.proofs.parcels.Parcels.places.Goals as goal

pub loop-lane-preserved : goal.loop-lane-preserved
loop-lane-preserved g c =
    let before = c.loop-lane.invariant in
    let about = c.args.token.now.me.0.about in
    let lane = c.loop-lane.lane in
    let count : length c.loop-lane.places.items ≡ lane = search rules in (
      search rules,
      c.place.ensures.desk ∙ (ap (λ m. (with_lane m.0, m.1)) before.1 ∙ ap (λ v. (v, [])) (one_more about lane)),
      search rules,
      more_places lane c.loop-lane.places.items c.push.new.self.items c.place.result (new_place c.args.token.now.table_id about) count c.in_ok-push.ensures.items
          (c.place.ensures.place ∙ (λ i. new_place (sym c.requires.table i) (ap (λ m. m.0.about) before.1 i) lane)) before.3,
    )
