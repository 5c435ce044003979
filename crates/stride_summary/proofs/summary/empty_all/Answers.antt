use Rattle.std.proofs.Common.{◌≡◌, ◌<◌, List, length, get_or, rules, sym, ◌∙◌, ap, subst, arith}
use Rattle.std.proofs.lemmas.List.{get_or_default}
use Rattle.std.proofs.lemmas.List.Sums.{sum_by-drop_more}
use Rattle.stride_summary.specs.declared.stretch.Stretch.{Stretch}
use Rattle.stride_summary.specs.Stretches.{KeysDiffer, needed_of}
use Rattle.stride_summary.proofs.Emptying.{EmptiedUpTo-next, EmptiedUpTo-start}
use Rattle.stride_summary.proofs.Finishing.{HaveRuns-next, HaveRuns-none}
use Rattle.stride_summary.proofs.summary.empty_all.Goals as goal

pub loop-stretch-init : goal.loop-stretch-init
loop-stretch-init c = record {
  emptied = EmptiedUpTo-start c.deref_mut-stretch-items.result.now;
  have = HaveRuns-none c.args.runs.now.items (search rules);
  room = omega (arith, c.requires.none);
  capacity = omega arith;
}

pub loop-stretch-preserved : goal.loop-stretch-preserved
loop-stretch-preserved c =
    let xs = c.deref_mut-stretch-items.result.now in
    let now = c.loop-stretch.stretch-items in
    let n = c.loop-stretch.stretch-index in
    let inv = c.loop-stretch.invariant in
    let was = get_or now n c.stretch-item.result in
    let within : n < length xs = c.loop-stretch-test.true in
    let is : get_or xs n was ≡ was = get_or_default xs n was c.stretch-item.result within ∙ sym (inv.emptied.left n c.stretch-item.result (omega arith)) in
    let shown : get_or now n was ≡ was = get_or_default now n was c.stretch-item.result (omega (arith, within, inv.emptied.count)) in
    record {
      emptied = EmptiedUpTo-next n xs now was c.empty_into.new.self within shown c.empty_into.ensures.key (c.empty_into.ensures.none, c.empty_into.ensures.limit) inv.emptied;
      have = HaveRuns-next xs n was c.loop-stretch.runs.items c.empty_into.new.runs.items within is (subst (λ (ss : List Stretch). KeysDiffer ss) (sym c.deref_mut-stretch-items.ensures.value) c.requires.differ) inv.have c.empty_into.ensures.cuts;
      room = omega (arith, inv.room, c.empty_into.ensures.room, sum_by-drop_more needed_of xs n was within, ap needed_of is, was.within);
      capacity = omega (arith, inv.capacity, c.empty_into.ensures.capacity);
    }
