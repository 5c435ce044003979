use Rattle.std.proofs.Common.{rules, ◌≡◌, ◌<◌, ℕ, length, slice_index_or, ◌+◌, ap, sym, ◌∙◌, subst, refl, arith}
use Rattle.std.proofs.lemmas.List.{get_or_default}
use Rattle.lane_runner.specs.Lane.{with_hand}
use Rattle.region_runner.specs.Hands.{lane_hand}
use Rattle.region_runner.proofs.Pointwise.{set_below, set_above}
use Rattle.region_runner.proofs.SplitHands.{HasSplit, split_none, split_more, split_next, split_all}
use Rattle.region_runner.proofs.handing.split_hands.Goals as goal

pub loop-lane-init : goal.loop-lane-init
loop-lane-init g c = record {
  index = refl;
  count = c.requires.count;
  hand = split_none c.args.span c.args.hand.now c.requires.belongs.there;
  done = λ i d less. absurd (omega arith);
  left = λ i d less. refl;
}

pub split-own-requires : goal.split-own-requires
split-own-requires g c = record { here = c.loop-lane.invariant.hand.table ∙ c.requires.belongs.here; there = c.loop-lane.invariant.hand.there }

pub returns-clause-hand : goal.returns-clause-hand
returns-clause-hand g c =
    let all : c.loop-lane.index ≡ c.args.span = omega (arith, c.loop-lane.invariant.index, c.loop-lane-test.false, c.loop-lane.auto.lane-index-end, c.requires.count) in
    split_all c.args.span c.args.hand.now c.loop-lane.hand (subst (λ (n : ℕ). HasSplit c.args.span c.args.hand.now c.loop-lane.hand n) all c.loop-lane.invariant.hand)

pub returns-clause-count : goal.returns-clause-count
returns-clause-count g c = c.loop-lane.invariant.count

pub returns-clause-rests : goal.returns-clause-rests
returns-clause-rests g c = λ some. c.loop-lane.invariant.hand.rests (omega (arith, c.loop-lane.invariant.index, c.loop-lane-test.false, c.requires.count))

pub returns-clause-given : goal.returns-clause-given
returns-clause-given g c = λ i d less. c.loop-lane.invariant.done i d (omega (arith, c.loop-lane-test.false, c.requires.count))

pub loop-lane-preserved : goal.loop-lane-preserved
loop-lane-preserved g c =
    let inv = c.loop-lane.invariant in
    let n = c.loop-lane.lane-index in
    let within : n < length c.loop-lane.lanes = omega (arith, c.loop-lane-test.true, inv.count, c.requires.count) in
    let lane_less : c.loop-lane.index < c.args.span = omega (arith, inv.index, inv.count) in
    let own : c.split-own.result ≡ lane_hand c.args.hand.now n =
    c.split-own.ensures.given ∙ split_next c.args.span c.args.hand.now c.loop-lane.hand c.loop-lane.index inv.hand ∙ ap (λ (k : ℕ). lane_hand c.args.hand.now k) inv.index in
    record {
      index = ap (λ (k : ℕ). k + 1) inv.index;
      count = search rules;
      hand =
          subst (λ h. HasSplit c.args.span c.args.hand.now h (c.loop-lane.index + 1)) (sym c.split-own.ensures.kept)
          (split_more c.args.span c.args.hand.now c.loop-lane.hand c.loop-lane.index lane_less inv.hand c.split-own.ensures.rests);
      done =
          set_below c.loop-lane.lanes n c.trade.new.self within (λ i d x. x ≡ with_hand (slice_index_or c.args.lanes.now i d) (lane_hand c.args.hand.now i)) inv.done
          (λ d.
          c.trade.ensures.goes_on
          ∙ ap (λ h. with_hand (slice_index_or c.loop-lane.lanes n c.lane-item.result) h) own
          ∙ ap (λ m. with_hand m (lane_hand c.args.hand.now n)) (get_or_default c.loop-lane.lanes n c.lane-item.result d within ∙ inv.left n d (omega arith)));
      left = set_above c.loop-lane.lanes n c.trade.new.self within (λ i d x. x ≡ slice_index_or c.args.lanes.now i d) inv.left;
    }
