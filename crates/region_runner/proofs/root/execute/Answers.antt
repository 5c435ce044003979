use Rattle.std.proofs.Common.{◌≡◌, ap, arith}
use Rattle.region_runner.specs.Crew.{CrewValue}
use Rattle.region_runner.proofs.root.execute.Goals as goal

pub run_task-requires-clause-number : goal.run_task-requires-clause-number
run_task-requires-clause-number g c κs within = let same = ap (λ (v : CrewValue). v.chunks.loops) c.crew-crew.ensures in let none = c.requires.number in omega (arith, same, none)
