use Rattle.std.proofs.Common.{◌≡◌, ◌∙◌, ap, sym, subst, ℕ, ◌<◌, List, ◌++◌, length, take, drop, slice_index_or, arith}
use Rattle.std.proofs.Math.Seq.{take-append_seam}
use Rattle.lane_runner.specs.Lane.{LaneValue}
use Rattle.region_runner.specs.Hands.{IsLaneHand}
use Rattle.region_runner.specs.Meeting.{MeetsSo}
use Rattle.region_runner.specs.Stands.{AllGo}
use Rattle.region_runner.proofs.handing.meet_lanes.Goals as goal

pub join_hands-requires-clause-home : goal.join_hands-requires-clause-home
join_hands-requires-clause-home g c κs within =
    subst (λ (ms : List LaneValue). (i : ℕ) (d : LaneValue) → i < length ms → IsLaneHand c.args.words.now.table c.args.hand.now.view.name (slice_index_or ms i d).hand) (sym c.deref_mut.ensures.value) c.requires.home

pub returns : goal.returns
returns g c =
    let same = ap (λ (ms : List LaneValue). length ms) c.deref_mut.ensures.value in
    let count : length c.join_hands.new.lanes ≡ c.args.lanes.now.len = let n = c.join_hands.ensures.count in omega (arith, n, same) in
    let whole : take c.args.lanes.now.len (c.join_hands.new.lanes ++ drop (length c.join_hands.new.lanes) c.args.lanes.now.items) ≡ c.join_hands.new.lanes =
    ap (λ (n : ℕ). take n (c.join_hands.new.lanes ++ drop (length c.join_hands.new.lanes) c.args.lanes.now.items)) (sym count) ∙ take-append_seam c.join_hands.new.lanes (drop (length c.join_hands.new.lanes) c.args.lanes.now.items) in
    let seen : c.deref.result.now ≡ c.join_hands.new.lanes = c.deref.ensures.value ∙ whole in
    record {
      meets =
          subst (λ (ms : List LaneValue). MeetsSo c.all_go.result c.args.hand.now c.join_hands.new.hand c.args.lanes.now.items ms) (sym whole)
          (subst (λ (ms : List LaneValue). MeetsSo c.all_go.result c.args.hand.now c.join_hands.new.hand ms c.join_hands.new.lanes) c.deref_mut.ensures.value
          (record {
            joins = record { hand = c.join_hands.ensures.hand; count = c.join_hands.ensures.count; same = c.join_hands.ensures.same };
            all = λ goes. subst (λ (ms : List LaneValue). AllGo ms) seen (c.all_go.ensures.all goes);
            some = λ stops all. c.all_go.ensures.some stops (subst (λ (ms : List LaneValue). AllGo ms) (sym seen) all);
          }));
    }
