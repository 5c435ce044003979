use Rattle.std.proofs.Common.{ap, sym, ◌∙◌, ℤ, w64}
use Rattle.std.proofs.lemmas.Int.{to_z-of_z}
use Rattle.kernel_model.specs.Value.{element_at}
use Rattle.serial_run.specs.Going.{serial_progress}
use Rattle.task_place.specs.Placing.{meant}
use Rattle.serial_run.proofs.Elements.{stands_at}
use Rattle.serial_run.proofs.Values.{loads_none, loads_some}
use Rattle.serial_run.proofs.track.Track.load.Goals as goal

pub returns-in_default : goal.returns-in_default
returns-in_default c = λ layout slots tells.
    loads_none layout c.args.place.now slots (element_at c.args.place.now.arrays c.args.array c.args.index) c.args.line c.args.site (serial_progress c.args.self.now c.args.memory.now)
    (ap (λ (z : ℤ). element_at c.args.place.now.arrays c.args.array z) (sym (to_z-of_z w64 c.args.index c.ranges.index)) ∙ c.in_default.ensures)

pub returns : goal.returns
returns c = λ layout slots tells.
    loads_some layout c.args.place.now slots (element_at c.args.place.now.arrays c.args.array c.args.index) (meant c.in-Some.element) c.args.line c.args.site (serial_progress c.args.self.now c.args.memory.now) (serial_progress c.read.new.self c.read.new.memory) c.read.result
    (ap (λ (z : ℤ). element_at c.args.place.now.arrays c.args.array z) (sym (to_z-of_z w64 c.args.index c.ranges.index)) ∙ c.in-Some.ensures.is)
    (c.read.ensures layout slots (stands_at c.in-Some.ensures layout tells))
