use Rattle.std.proofs.Common.{ap, refl, arith, List}
use Rattle.kernel_model.specs.declared.phase.Item.{Item}
use Rattle.kernel_model.specs.Parts.{drawn_count}
use Rattle.kernel_model.specs.Phases.{part_of}
use Rattle.std.specs.Prelude.{map}
use Rattle.region_runner.proofs.DrawnLoops.{phases_so_far}
use Rattle.region_runner.proofs.loops.drawn_in.Goals as goal

pub returns-in_err-count-clause-none : goal.returns-in_err-count-clause-none
returns-in_err-count-clause-none c = λ none.
    let past = c.in_err-count.ensures.none refl in
    let here = ap (λ (items : List Item). drawn_count (map part_of items)) c.items.ensures in
    let so_far = c.loop-phase.invariant.count in
    let more = phases_so_far c.args.phases.now c.loop-phase.phase-index c.phase-item.result c.loop-phase-test.true c.phase-item.is in
    omega (arith, past, here, so_far, more)
