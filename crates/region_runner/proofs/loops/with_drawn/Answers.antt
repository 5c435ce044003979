use Rattle.std.proofs.Common.{◌∙◌, ℕ, ◌+◌, ◌<◌, Option, sym, subst, arith}
use Rattle.std.specs.Option.{SomeIff}
use Rattle.region_runner.proofs.DrawnLoops.{items_so_far}
use Rattle.region_runner.proofs.loops.with_drawn.Goals as goal

pub returns-in_err-count-clause-none : goal.returns-in_err-count-clause-none
returns-in_err-count-clause-none c = λ none.
    let past : c.loop-item.count + 1 < 4294967296 → ⊥ =
    subst (λ (r : Option ℕ). SomeIff r (c.loop-item.count + 1 < 4294967296) (c.loop-item.count + 1)) c.in_err-count.was c.checked_add.ensures in
    let so_far = c.loop-item.invariant.count in
    let more = items_so_far c.args.items.now c.loop-item.item-index c.item-item.result c.loop-item-test.true c.item-item.is (sym c.is_drawn.ensures ∙ c.if-is_drawn.true) in
    omega (arith, past, so_far, more)
