use Rattle.std.proofs.Common.{rules, ◌≡◌, ◌<◌, length, slice_index_or, ◌+◌, ap, sym, ◌∙◌, subst, arith, drop, map, ◌∷◌}
use Rattle.std.proofs.lemmas.List.{get_or_default}
use Rattle.shared_words.specs.declared.view.View.{View}
use Rattle.step_history.specs.History.{Name}
use Rattle.shared_words.specs.Handles.{HandValue, Belongs, IsHome, with_view}
use Rattle.shared_words.specs.Views.{after_meeting, split_number}
use Rattle.lane_runner.specs.Lane.{LaneValue, IsWithoutHand, hand_view, with_hand}
use Rattle.region_runner.proofs.Pointwise.{set_below, set_above}
use Rattle.region_runner.proofs.SplitHands.{HasJoined, join_more, drop_next}
use Rattle.region_runner.proofs.handing.join_hands.Goals as goal

pub join-requires-clause-other : goal.join-requires-clause-other
join-requires-clause-other g c =
    let n = c.loop-lane.lane-index in
    let inside : n < length c.args.lanes.now = omega (arith, c.loop-lane-test.true, c.loop-lane.invariant.count) in
    let own = c.trade-own.ensures.given ∙ ap (λ (m : LaneValue). m.hand) (c.loop-lane.invariant.left n c.lane-item.result (omega arith)) in
    subst (λ (h : HandValue View). Belongs h c.args.words.now.table) (sym own) (c.requires.home n c.lane-item.result inside).belongs

pub join-requires-clause-home : goal.join-requires-clause-home
join-requires-clause-home g c =
    let n = c.loop-lane.lane-index in
    let inside : n < length c.args.lanes.now = omega (arith, c.loop-lane-test.true, c.loop-lane.invariant.count) in
    let own = c.trade-own.ensures.given ∙ ap (λ (m : LaneValue). m.hand) (c.loop-lane.invariant.left n c.lane-item.result (omega arith)) in
    let home = c.requires.home n c.lane-item.result inside in
    subst (λ (h : HandValue View). IsHome c.loop-lane.hand h) (sym own)
    (record {
      split = home.split ∙ ap (λ (name : Name). split_number (slice_index_or c.args.lanes.now n c.lane-item.result).hand.view.name ∷ name) (sym c.loop-lane.invariant.hand.name);
      holds_none = home.holds_none;
      none_out = home.none_out;
    })

pub loop-lane-preserved : goal.loop-lane-preserved
loop-lane-preserved g c =
    let inv = c.loop-lane.invariant in
    let n = c.loop-lane.lane-index in
    let within : n < length c.loop-lane.lanes = omega (arith, c.loop-lane-test.true, inv.count) in
    let inside : n < length c.args.lanes.now = omega (arith, within, inv.count) in
    let old = slice_index_or c.args.lanes.now n c.lane-item.result in
    let was = inv.left n c.lane-item.result (omega arith) in
    let own = c.trade-own.ensures.given ∙ ap (λ (m : LaneValue). m.hand) was in
    record {
      count = search rules;
      hand =
          subst (λ h. HasJoined (drop (n + 1) (map hand_view c.args.lanes.now)) (map hand_view c.args.lanes.now) c.args.hand.now h) (sym (c.join.ensures ∙ ap (λ (h : HandValue View). with_view c.loop-lane.hand (after_meeting c.loop-lane.hand.view h.view)) own))
          (join_more (hand_view old) (drop (n + 1) (map hand_view c.args.lanes.now)) (map hand_view c.args.lanes.now) c.args.hand.now c.loop-lane.hand
          (subst (λ l. HasJoined l (map hand_view c.args.lanes.now) c.args.hand.now c.loop-lane.hand) (drop_next hand_view c.args.lanes.now n c.lane-item.result inside) inv.hand));
      done =
          set_below c.loop-lane.lanes n c.trade-own.new.self within (λ i d x. IsWithoutHand (slice_index_or c.args.lanes.now i d) x) inv.done
          (λ d.
          c.trade-own.ensures.goes_on
          ∙ ap (λ h. with_hand (slice_index_or c.loop-lane.lanes n c.lane-item.result) h) (sym (ap (λ (m : LaneValue). m.hand) c.trade-own.ensures.goes_on))
          ∙ ap (λ m. with_hand m c.trade-own.new.self.hand) (get_or_default c.loop-lane.lanes n c.lane-item.result d within ∙ inv.left n d (omega arith)));
      left = set_above c.loop-lane.lanes n c.trade-own.new.self within (λ i d x. x ≡ slice_index_or c.args.lanes.now i d) inv.left;
    }

pub returns-clause-count : goal.returns-clause-count
returns-clause-count g c = c.loop-lane.invariant.count
