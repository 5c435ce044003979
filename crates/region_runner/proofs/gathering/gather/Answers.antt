use Rattle.std.proofs.Common.{rules, refl, ap, sym, ◌∙◌, subst, ℕ, length, map, slice_index_or, List, arith}
use Rattle.std.proofs.lemmas.List.{map-id}
use Rattle.std.proofs.lemmas.Iterator.Adapters.{YieldsList-from_vec}
use Rattle.std.proofs.lemmas.Iterator.Consumers.{YieldsList-turn, YieldsList-end}
use Rattle.shared_words.specs.declared.share.Share.{Share}
use Rattle.lane_runner.specs.Handed.{entries_of}
use Rattle.shared_words.specs.Handles.{Belongs, HandValue, with_view}
use Rattle.region_runner.specs.Drawing.{regained_all}
use Rattle.region_runner.specs.Gathering.{ClosedValue, Gathered, answer_for, draws_view}
use Rattle.region_runner.proofs.GatheredLanes.{none_gathered, all_gathered, next_first, next_after}
use Rattle.region_runner.proofs.JoinedDraws.{regained_first, regained_more, regained_none}
use Rattle.region_runner.proofs.gathering.gather.Goals as goal

pub loop-lane-init : goal.loop-lane-init
loop-lane-init g c = record {
  gathered = λ d. none_gathered (λ k. slice_index_or c.args.lanes.items k d) _;
  share = regained_none c.args.share.now c.requires.share.there;
  all = λ some. absurd (omega arith);
}

pub take_in-verdict-requires-clause-share : goal.take_in-verdict-requires-clause-share
take_in-verdict-requires-clause-share g c κs within =
    subst (λ (h : HandValue Share). Belongs h c.args.chunks.now.table) (sym c.loop-lane.invariant.share) (record { here = c.requires.share.here; there = refl })

pub take_in-verdict-requires-clause-first : goal.take_in-verdict-requires-clause-first
take_in-verdict-requires-clause-first g c κs within =
    ap (λ (h : HandValue Share). h.view.first) c.loop-lane.invariant.share ∙ regained_first (map draws_view c.loop-lane.yielded) c.args.share.now.view ∙ c.requires.first

pub take_in-verdict-requires-clause-own : goal.take_in-verdict-requires-clause-own
take_in-verdict-requires-clause-own g c κs within =
    let turn = YieldsList-turn (YieldsList-from_vec {s = c.into_iter-lane-iterator.result} c.args.lanes.items (search rules) (search rules)) c.loop-lane.yielded c.loop-lane.lane-iterator c.loop-lane.yielded_by c.next.result c.next.new.self c.in-Some.lane c.in-Some.is c.next.ensures.steps in
    subst (λ (m : ClosedValue). Belongs m.draws c.args.chunks.now.table) (sym turn.1) (c.requires.own (length c.loop-lane.yielded) c.in-Some.lane turn.0)

pub take_in-verdict-requires-clause-split : goal.take_in-verdict-requires-clause-split
take_in-verdict-requires-clause-split g c κs within =
    let turn = YieldsList-turn (YieldsList-from_vec {s = c.into_iter-lane-iterator.result} c.args.lanes.items (search rules) (search rules)) c.loop-lane.yielded c.loop-lane.lane-iterator c.loop-lane.yielded_by c.next.result c.next.new.self c.in-Some.lane c.in-Some.is c.next.ensures.steps in
    ap (λ (m : ClosedValue). m.draws.view.first) turn.1 ∙ c.requires.split (length c.loop-lane.yielded) c.in-Some.lane turn.0

pub loop-lane-preserved-then-urgency : goal.loop-lane-preserved-then-urgency
loop-lane-preserved-then-urgency g c =
    let entries = entries_of g.L.Log in
    let turn = YieldsList-turn (YieldsList-from_vec {s = c.into_iter-lane-iterator.result} c.args.lanes.items (search rules) (search rules)) c.loop-lane.yielded c.loop-lane.lane-iterator c.loop-lane.yielded_by c.next.result c.next.new.self c.in-Some.lane c.in-Some.is c.next.ensures.steps in
    record {
      gathered = λ d.
          next_first c.args.lanes.items c.loop-lane.yielded c.in-Some.lane d (entries c.args.done.now.items) (entries c.loop-lane.done.items) (entries c.take_in-verdict.new.done.items) c.loop-lane.worst c.take_in-verdict.result turn.0 turn.1
          (c.loop-lane.invariant.gathered d) c.take_in-verdict.ensures.taken (let v = c.urgency.ensures in let w = c.urgency-in-loop-lane.ensures in let test = c.if-urgency.true in omega arith);
      share = regained_more c.loop-lane.yielded c.in-Some.lane c.args.share.now c.loop-lane.share c.take_in-verdict.new.share c.loop-lane.invariant.share c.take_in-verdict.ensures.share;
      all = λ some alone. c.take_in-verdict.ensures.all alone;
    }

pub loop-lane-preserved : goal.loop-lane-preserved
loop-lane-preserved g c =
    let entries = entries_of g.L.Log in
    let turn = YieldsList-turn (YieldsList-from_vec {s = c.into_iter-lane-iterator.result} c.args.lanes.items (search rules) (search rules)) c.loop-lane.yielded c.loop-lane.lane-iterator c.loop-lane.yielded_by c.next.result c.next.new.self c.in-Some.lane c.in-Some.is c.next.ensures.steps in
    record {
      gathered = λ d.
          next_after c.args.lanes.items c.loop-lane.yielded c.in-Some.lane d (entries c.args.done.now.items) (entries c.loop-lane.done.items) (entries c.take_in-verdict.new.done.items) c.loop-lane.worst c.take_in-verdict.result turn.0 turn.1
          (c.loop-lane.invariant.gathered d) c.take_in-verdict.ensures.taken (let v = c.urgency.ensures in let w = c.urgency-in-loop-lane.ensures in let test = c.if-urgency.false in omega arith);
      share = regained_more c.loop-lane.yielded c.in-Some.lane c.args.share.now c.loop-lane.share c.take_in-verdict.new.share c.loop-lane.invariant.share c.take_in-verdict.ensures.share;
      all = λ some alone. c.take_in-verdict.ensures.all alone;
    }

pub returns-clause-gathered : goal.returns-clause-gathered
returns-clause-gathered g c = λ d.
    let entries = entries_of g.L.Log in
    let end = YieldsList-end (YieldsList-from_vec {s = c.into_iter-lane-iterator.result} c.args.lanes.items (search rules) (search rules)) c.loop-lane.yielded _ c.loop-lane.yielded_by _ c.next.new.self c.in-None.is c.next.ensures.steps in
    subst (λ r. Gathered (length c.args.lanes.items) (λ k. slice_index_or c.args.lanes.items k d) (entries c.args.done.now.items) (entries c.loop-lane.done.items) r) (sym c.answer.ensures)
    (subst (λ (n : ℕ). Gathered n (λ k. slice_index_or c.args.lanes.items k d) (entries c.args.done.now.items) (entries c.loop-lane.done.items) (answer_for c.loop-lane.worst)) end.1
    (all_gathered (length c.loop-lane.yielded) (λ k. slice_index_or c.args.lanes.items k d) (entries c.args.done.now.items) (entries c.loop-lane.done.items) c.loop-lane.worst (c.loop-lane.invariant.gathered d)))

pub returns-clause-share : goal.returns-clause-share
returns-clause-share g c =
    let end = YieldsList-end (YieldsList-from_vec {s = c.into_iter-lane-iterator.result} c.args.lanes.items (search rules) (search rules)) c.loop-lane.yielded _ c.loop-lane.yielded_by _ c.next.new.self c.in-None.is c.next.ensures.steps in
    c.loop-lane.invariant.share ∙ ap (λ (cs : List ClosedValue). with_view c.args.share.now (regained_all (map draws_view cs) c.args.share.now.view)) (sym (map-id _) ∙ end.0)

pub returns-clause-all : goal.returns-clause-all
returns-clause-all g c = λ some alone.
    let end = YieldsList-end (YieldsList-from_vec {s = c.into_iter-lane-iterator.result} c.args.lanes.items (search rules) (search rules)) c.loop-lane.yielded _ c.loop-lane.yielded_by _ c.next.new.self c.in-None.is c.next.ensures.steps in
    c.loop-lane.invariant.all (let count = end.1 in omega arith) alone
