use Rattle.std.proofs.Common.{rules, ◌≡◌, ◌∙◌, refl, ap, sym, arith, List, [], ◌∷◌, ◌++◌, length, Ok, Err, Result}
use Rattle.std.specs.Prelude.{IsOk}
use Rattle.std.proofs.lemmas.List.{length_push, map-id}
use Rattle.std.proofs.lemmas.Iterator.Adapters.{YieldsList-from_vec}
use Rattle.std.proofs.lemmas.Iterator.Consumers.{YieldsList-turn, YieldsList-end}
use Rattle.region_runner.specs.Gathering.{ClosedValue}
use Rattle.lane_runner.specs.Lane.{LaneValue}
use Rattle.region_runner.specs.Opening.{ClosesAs}
use Rattle.region_runner.proofs.Pointwise.{push_both}
use Rattle.region_runner.proofs.closing.close_all.Goals as goal

not_ok : {E : Type 0} (r : Result (Unit {0}) E) → IsOk r → ((x : Unit {0}) → r ≡ Ok x → ⊥) → ⊥
not_ok (Ok x) is none = none x refl
not_ok (Err e) is none = absurd cc

pub loop-lane-init : goal.loop-lane-init
loop-lane-init g c = record {
  len = c.requires.none;
  room = c.requires.room;
  count = ap (λ (xs : List ClosedValue). length xs) c.requires.empty;
  each = λ k d e less. absurd (omega (arith, less));
}

pub unreachable-requires : goal.unreachable-requires
unreachable-requires g c =
    let turn = YieldsList-turn (YieldsList-from_vec {s = c.into_iter-lane-iterator.result} c.args.lanes.items (search rules) (search rules)) c.loop-lane.yielded c.loop-lane.lane-iterator c.loop-lane.yielded_by c.next.result c.next.new.self c.in-Some.lane c.in-Some.is c.next.ensures.steps in
    let len = c.loop-lane.invariant.len in
    let room = c.loop-lane.invariant.room in
    let inside = turn.0 in
    not_ok c.push.result (c.push.ensures.succeeds (omega (arith, len, room, inside))) c.in_default.not-Ok

pub loop-lane-preserved : goal.loop-lane-preserved
loop-lane-preserved g c =
    let pushed : c.push.new.self.items ≡ c.loop-lane.closed.items ++ c.close.result ∷ [] = search rules in
    let e = c.close.ensures in
    record {
      len = search (length_push c.loop-lane.yielded c.in-Some.lane, c.loop-lane.invariant.len, rules);
      room = let wide = c.push.ensures.capacity in let room = c.loop-lane.invariant.room in omega (arith, wide, room);
      count = omega (arith, c.loop-lane.invariant.count, length_push c.loop-lane.yielded c.in-Some.lane, ap (λ (xs : List ClosedValue). length xs) pushed, length_push c.loop-lane.closed.items c.close.result);
      each = rw (pushed)
          (push_both (λ (m : LaneValue) (lane : ClosedValue). ClosesAs (Ok m) lane) c.loop-lane.yielded c.loop-lane.closed.items c.in-Some.lane c.close.result c.loop-lane.invariant.count c.loop-lane.invariant.each
          (e.path, e.closed, e.below, e.draws, e.halt));
    }

pub returns : goal.returns
returns g c =
    let end = YieldsList-end (YieldsList-from_vec {s = c.into_iter-lane-iterator.result} c.args.lanes.items (search rules) (search rules)) c.loop-lane.yielded _ c.loop-lane.yielded_by _ c.next.new.self c.in-None.is c.next.ensures.steps in
    let whole : c.loop-lane.yielded ≡ c.args.lanes.items = sym (map-id _) ∙ end.0 in
    rw (← whole) (record { count = c.loop-lane.invariant.count; each = c.loop-lane.invariant.each })
