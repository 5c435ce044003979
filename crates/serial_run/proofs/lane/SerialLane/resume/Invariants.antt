use Rattle.std.proofs.Common.{ℕ, []}
use Rattle.serial_run.specs.Placing.{ElementLayout, TellsWords}
use Rattle.serial_run.specs.Stepping.{Advances, stand}
use Rattle.serial_run.proofs.lane.SerialLane.resume.Given as goal

abbrev pub invariant-steps : goal.invariant-steps
invariant-steps l = record {
  advances : (layout : ElementLayout) → TellsWords l.initial.self.place.arrays layout → Advances layout (stand l.initial.self l.initial.memory) (stand l.self l.memory) [] [];
}
