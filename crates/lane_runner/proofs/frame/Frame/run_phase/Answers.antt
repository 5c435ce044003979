use Rattle.std.proofs.Common.{◌∙◌, subst, ◌<◌, ◌≤◌, length, List, Ok, arith}
use Rattle.std.proofs.lemmas.List.{take_all}
use Rattle.std.proofs.lemmas.Result.{err_from_is_err_and}
use Rattle.std.specs.Prelude.{map}
use Rattle.kernel_model.specs.declared.phase.Item.{Item}
use Rattle.kernel_model.specs.Parts.{bar_count, run_parts}
use Rattle.kernel_model.specs.Phases.{part_of}
use Rattle.kernel_model.specs.Effect.{Returned}
use Rattle.lane_runner.specs.Going.{MadePast, site}
use Rattle.lane_runner.proofs.Bodies.{log_still, log_later}
use Rattle.lane_runner.proofs.Values.{can_past}
use Rattle.lane_runner.proofs.Phases.{item_at, item_is, drawn_more, drawn_within, phase_begins, can_before, phase_next, phase_stop, held_stays}
use Rattle.lane_runner.proofs.Teams.{teams_of_item_at}
use Rattle.lane_runner.proofs.frame.Frame.run_phase.Goals as goal

pub loop-item-init : goal.loop-item-init
loop-item-init g c = record {
  items = c.items-item-items.ensures;
  made = phase_begins c.args.world.now (site c.args.world.now) c.args.self.now.locals.slots.items c.args.self.now.track c.requires.can;
  log = log_still c.args.self.now.track.buffer;
  loops = omega arith;
}

pub step-requires-clause-can : goal.step-requires-clause-can
step-requires-clause-can g c κs given =
    let inside : c.loop-item.item-index < length c.items-item-items.result.now = omega arith in
    let this = item_at c.items-item-items.result.now c.args.phase.now c.loop-item.item-index c.item-item.result c.loop-item.invariant.items inside c.item-item.is in
    can_before c.args.phase.now c.loop-item.item-index c.item-item.result this c.args.world.now (site c.args.world.now) c.args.self.now.locals.slots.items c.loop-item.self.locals.slots.items c.args.self.now.track c.loop-item.self.track
    c.requires.phase c.loop-item.invariant.made c.requires.can

pub step-requires-clause-free : goal.step-requires-clause-free
step-requires-clause-free g c κs given =
    held_stays _ c.args.world.now _ c.args.self.now.locals.slots.items c.loop-item.self.locals.slots.items c.args.self.now.track c.loop-item.self.track (Ok tt) c.loop-item.invariant.made ∙ c.requires.free

pub step-requires-clause-item : goal.step-requires-clause-item
step-requires-clause-item g c κs given =
    let inside : c.loop-item.item-index < length c.items-item-items.result.now = omega arith in
    let this = item_at c.items-item-items.result.now c.args.phase.now c.loop-item.item-index c.item-item.result c.loop-item.invariant.items inside c.item-item.is in
    item_is c.args.phase.now c.loop-item.item-index c.item-item.result this c.args.world.now.words.locks c.requires.phase

pub step-requires-clause-counters : goal.step-requires-clause-counters
step-requires-clause-counters g c κs given =
    let inside : c.loop-item.item-index < length c.items-item-items.result.now = omega arith in
    let this = item_at c.items-item-items.result.now c.args.phase.now c.loop-item.item-index c.item-item.result c.loop-item.invariant.items inside c.item-item.is in
    let so_far = c.loop-item.invariant.loops in
    let all = c.requires.counters in
    let more = drawn_within c.args.phase.now c.loop-item.item-index c.item-item.result this in
    omega (arith, so_far, all, more)

pub step-requires-clause-number : goal.step-requires-clause-number
step-requires-clause-number g c κs given =
    let inside : c.loop-item.item-index < length c.items-item-items.result.now = omega arith in
    let this = item_at c.items-item-items.result.now c.args.phase.now c.loop-item.item-index c.item-item.result c.loop-item.invariant.items inside c.item-item.is in
    let so_far = c.loop-item.invariant.loops in
    let all = c.requires.counters in
    let limit = c.requires.number in
    let more = drawn_within c.args.phase.now c.loop-item.item-index c.item-item.result this in
    omega (arith, so_far, all, limit, more)

pub step-requires-clause-runs : goal.step-requires-clause-runs
step-requires-clause-runs g c κs given =
    let inside : c.loop-item.item-index < length c.items-item-items.result.now = omega arith in
    let this = item_at c.items-item-items.result.now c.args.phase.now c.loop-item.item-index c.item-item.result c.loop-item.invariant.items inside c.item-item.is in
    teams_of_item_at c.args.world.now _ _ _ c.args.self.now.track.buffer c.loop-item.self.track.buffer c.loop-item.invariant.log c.args.phase.now c.loop-item.item-index c.item-item.result this c.requires.runs

pub returns-in_err-step-clause-goes : goal.returns-in_err-step-clause-goes
returns-in_err-step-clause-goes g c =
    let p = err_from_is_err_and c.from_residual.result c.from_residual.ensures.1 in
    let inside : c.loop-item.item-index < length c.items-item-items.result.now = omega arith in
    let this = item_at c.items-item-items.result.now c.args.phase.now c.loop-item.item-index c.item-item.result c.loop-item.invariant.items inside c.item-item.is in
    rw (p.1, p.2)
    (phase_stop c.args.phase.now c.loop-item.item-index c.item-item.result this c.args.world.now (site c.args.world.now) c.args.self.now.locals.slots.items c.loop-item.self.locals.slots.items c.args.self.now.track c.loop-item.self.track
    c.requires.phase c.loop-item.invariant.made c.step.new.self.locals.slots.items c.step.new.self.track c.in_err-step.field-0.0 c.in_err-step.ensures.goes)

pub loop-item-preserved : goal.loop-item-preserved
loop-item-preserved g c =
    let inside : c.loop-item.item-index < length c.items-item-items.result.now = omega arith in
    let this = item_at c.items-item-items.result.now c.args.phase.now c.loop-item.item-index c.item-item.result c.loop-item.invariant.items inside c.item-item.is in
    let so_far = c.loop-item.invariant.loops in
    let step = c.in_ok-step.ensures.loops in
    let more = drawn_more c.args.phase.now c.loop-item.item-index c.item-item.result this in
    record {
      items = c.loop-item.invariant.items;
      made = phase_next c.args.phase.now c.loop-item.item-index c.item-item.result this c.args.world.now (site c.args.world.now) c.args.self.now.locals.slots.items c.loop-item.self.locals.slots.items c.args.self.now.track c.loop-item.self.track
          c.requires.phase c.loop-item.invariant.made c.step.new.self.locals.slots.items c.step.new.self.track c.in_ok-step.ensures.goes;
      log = log_later c.args.self.now.track.buffer c.loop-item.self.track.buffer c.step.new.self.track.buffer c.loop-item.invariant.log c.in_ok-step.ensures.log;
      loops = omega (arith, so_far, step, more);
    }

pub returns-clause-goes : goal.returns-clause-goes
returns-clause-goes g c =
    let past : length c.items-item-items.result.now ≤ c.loop-item.item-index = omega arith in
    let past' : length c.args.phase.now ≤ c.loop-item.item-index = subst (λ (xs : List Item). length xs ≤ c.loop-item.item-index) c.loop-item.invariant.items past in
    subst (λ (xs : List Item). MadePast (bar_count (map part_of xs)) c.args.world.now (run_parts (site c.args.world.now) (map part_of xs)) c.args.self.now.locals.slots.items c.loop-item.self.locals.slots.items c.args.self.now.track c.loop-item.self.track (Returned tt))
    (take_all c.loop-item.item-index c.args.phase.now past') c.loop-item.invariant.made

pub returns-clause-can : goal.returns-clause-can
returns-clause-can g c =
    can_past _ c.args.world.now _ c.args.self.now.locals.slots.items c.loop-item.self.locals.slots.items c.args.self.now.track c.loop-item.self.track (Returned tt) c.requires.can c.loop-item.invariant.made
