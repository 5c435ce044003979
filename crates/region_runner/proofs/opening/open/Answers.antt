use Rattle.std.proofs.Common.{rules, ◌≡◌, subst}
use Rattle.lane_runner.specs.Handed.{log_place}
use Rattle.region_runner.specs.Opening.{AllOpen, OneTorn}
use Rattle.region_runner.proofs.OpenedLogs.{all_begin, one_torn}
use Rattle.region_runner.proofs.opening.open.Goals as goal

pub returns-in-Some-lanes_of : goal.returns-in-Some-lanes_of
returns-in-Some-lanes_of g c = record {
  opens = λ task path size new. (
    all_begin (log_place task) c.args.at.now c.args.number c.args.span c.args.locals.now.slots.items c.args.share.now c.in-Some.opened.items c.in-Some.ensures.count (c.in-Some.ensures.opens task path size new) c.in-Some-lanes_of.lanes.items
        c.in-Some-lanes_of.ensures,
    c.in-Some.ensures.share,
  );
}

pub returns-in-Some-closed_of : goal.returns-in-Some-closed_of
returns-in-Some-closed_of g c =
    let seen : c.deref.result.now ≡ c.in-Some.opened.items = search rules in
    let torn = subst (λ opened. OneTorn opened) seen (c.all_open.ensures.some c.if-all_open.false) in
    record {
      opens = λ task path size new. (
        one_torn (log_place task) c.args.at.now c.args.number c.args.span c.args.locals.now.slots.items c.args.share.now c.in-Some.opened.items c.in-Some.ensures.count (c.in-Some.ensures.opens task path size new)
            c.in-Some-closed_of.lanes.items c.in-Some-closed_of.ensures.0 c.in-Some-closed_of.ensures.1 torn,
        c.in-Some.ensures.share,
      );
    }

pub lanes_of-requires-after_bounds : goal.lanes_of-requires-after_bounds
lanes_of-requires-after_bounds g c κs within =
    let seen : c.deref.result.now ≡ c.in-Some.opened.items = search rules in
    subst (λ opened. AllOpen opened) seen (c.all_open.ensures.all c.if-all_open.true)
