use Rattle.std.proofs.Common.{ap, sym, ◌∙◌, ℤ, w64}
use Rattle.std.proofs.lemmas.Int.{to_z-of_z}
use Rattle.kernel_model.specs.Value.{element_at}
use Rattle.task_place.specs.Placing.{meant}
use Rattle.lane_runner.specs.Going.{lane_answer}
use Rattle.lane_runner.proofs.Values.{loads_none, loads_some}
use Rattle.lane_runner.proofs.value.load.Goals as goal

pub returns-in_default-clause-goes : goal.returns-in_default-clause-goes
returns-in_default-clause-goes g c = λ slots.
    loads_none c.args.world.now (element_at c.args.world.now.arrays c.args.array c.args.index) c.args.line c.args.place slots c.args.track.now c.requires.can
    (ap (λ (z : ℤ). element_at c.args.world.now.arrays c.args.array z) (sym (to_z-of_z w64 c.args.index c.ranges.index)) ∙ c.in_default.ensures.is)

pub returns-clause-goes : goal.returns-clause-goes
returns-clause-goes g c = λ slots.
    loads_some c.args.world.now (element_at c.args.world.now.arrays c.args.array c.args.index) (meant c.in-Some.element) c.args.line c.args.place slots c.args.track.now c.read.new.self (lane_answer c.read.result)
    (ap (λ (z : ℤ). element_at c.args.world.now.arrays c.args.array z) (sym (to_z-of_z w64 c.args.index c.ranges.index)) ∙ c.in-Some.ensures.is) (c.read.ensures.goes slots)
