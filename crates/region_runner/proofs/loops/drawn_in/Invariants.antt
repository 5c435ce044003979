use Rattle.std.proofs.Common.{◌≡◌, take}
use Rattle.kernel_model.specs.Parts.{drawn_count}
use Rattle.kernel_model.specs.Phases.{parts_in}
use Rattle.region_runner.proofs.loops.drawn_in.Given as goal

abbrev pub invariant-loop-phase : goal.invariant-loop-phase
invariant-loop-phase l = record { count : l.count ≡ drawn_count (parts_in (take l.phase-index l.phases)) }
