use Rattle.std.proofs.Common.{rules, ◌≡◌, ◌∙◌, ap, sym, subst, arith, List, [], ◌∷◌, ◌++◌, length, Ok}
use Rattle.std.proofs.lemmas.List.{length_push, map-id}
use Rattle.std.proofs.lemmas.Iterator.Adapters.{YieldsList-from_vec}
use Rattle.std.proofs.lemmas.Iterator.Consumers.{YieldsList-end}
use Rattle.region_runner.specs.Gathering.{ClosedValue}
use Rattle.region_runner.specs.Opening.{ClosesAs}
use Rattle.region_runner.proofs.Pointwise.{push_both}
use Rattle.region_runner.proofs.opening.closed_of.Goals as goal
use Rattle.region_runner.proofs.opening.closed_of.Goals.{in-Ok, in-Err}

pub loop-lane-init : goal.loop-lane-init
loop-lane-init g c = record {
  count = ap (λ (xs : List ClosedValue). length xs) c.new-lanes.ensures.items;
  each = λ k d e less. absurd (omega (arith, less));
}

pub loop-lane-preserved : goal.loop-lane-preserved
loop-lane-preserved g c =
    let pushed : c.push.new.self.items ≡ c.loop-lane.lanes.items ++ c.match-lane.lane ∷ [] = search rules in
    let closes : ClosesAs c.in-Some.lane c.match-lane.lane = elim c.match-lane.branch [
      | in-Ok w ↦ let e = w.close-lane.ensures in subst (λ lane. ClosesAs lane c.match-lane.lane) (sym w.in-Ok.is) (subst (λ lane. ClosesAs (Ok w.in-Ok.begun) lane) (sym w.lane-is) (e.path, e.closed, e.below, e.draws, e.halt))
      | in-Err w ↦ subst (λ lane. ClosesAs lane c.match-lane.lane) (sym w.in-Err.is) w.lane-is
    ] in
    record {
      count = omega (arith, c.loop-lane.invariant.count, length_push c.loop-lane.yielded c.in-Some.lane, ap length pushed, length_push c.loop-lane.lanes.items c.match-lane.lane);
      each = rw (pushed) (push_both ClosesAs c.loop-lane.yielded c.loop-lane.lanes.items c.in-Some.lane c.match-lane.lane c.loop-lane.invariant.count c.loop-lane.invariant.each closes);
    }

pub returns : goal.returns
returns g c =
    let end = YieldsList-end (YieldsList-from_vec {s = c.into_iter-lane-iterator.result} c.args.opened.items (search rules) (search rules)) c.loop-lane.yielded _ c.loop-lane.yielded_by _ c.next.new.self c.in-None.is c.next.ensures.steps in
    let whole : c.loop-lane.yielded ≡ c.args.opened.items = sym (map-id _) ∙ end.0 in
    rw (← whole) (c.loop-lane.invariant.count, c.loop-lane.invariant.each)
