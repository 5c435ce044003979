use Rattle.std.proofs.Common.{◌≡◌, ◌∙◌, ap, sym, subst, ℕ, List, ◌++◌, length, take, drop, arith}
use Rattle.std.proofs.Math.Seq.{take-append_seam}
use Rattle.lane_runner.specs.Lane.{LaneValue}
use Rattle.region_runner.specs.Meeting.{PartsHands}
use Rattle.region_runner.proofs.handing.part_lanes.Goals as goal

pub returns : goal.returns
returns g c =
    let count : length c.split_hands.new.lanes ≡ c.args.lanes.now.len = let n = c.split_hands.ensures.count in let s = c.requires.count in omega (arith, n, s) in
    let whole : take c.args.lanes.now.len (c.split_hands.new.lanes ++ drop (length c.split_hands.new.lanes) c.args.lanes.now.items) ≡ c.split_hands.new.lanes =
    ap (λ (n : ℕ). take n (c.split_hands.new.lanes ++ drop (length c.split_hands.new.lanes) c.args.lanes.now.items)) (sym count) ∙ take-append_seam c.split_hands.new.lanes (drop (length c.split_hands.new.lanes) c.args.lanes.now.items) in
    record {
      parts =
          subst (λ (ms : List LaneValue). PartsHands c.args.span c.args.hand.now c.split_hands.new.hand c.args.lanes.now.items ms) (sym whole)
          (subst (λ (ms : List LaneValue). PartsHands c.args.span c.args.hand.now c.split_hands.new.hand ms c.split_hands.new.lanes) c.deref_mut.ensures.value
          (record { hand = c.split_hands.ensures.hand; rests = c.split_hands.ensures.rests; count = c.split_hands.ensures.count; given = c.split_hands.ensures.given }));
    }
