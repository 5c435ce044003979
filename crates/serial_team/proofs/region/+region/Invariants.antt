use Rattle.std.proofs.Common.{◌≡◌, ◌+◌, ◌*◌, ◌≤◌, ℕ, length, take, drop, slice_index_or}
use Rattle.std.specs.Prelude.{IfOk}
use Rattle.serial_run.specs.Placing.{ElementLayout, TellsWords}
use Rattle.serial_team.specs.Members.{all_idle, pool, seen}
use Rattle.serial_team.specs.Running.{GoesFrom, HaveArrays}
use Rattle.serial_team.proofs.Phases.{PhaseFrom, PhasesFrom}
use Rattle.serial_team.specs.Stopping.{StopsFrom}
use Rattle.serial_team.proofs.Stopped.{TeamCame, PhasesStopFrom}
use Rattle.serial_team.proofs.region.+region.Given as goal

abbrev pub decreases-fork : goal.decreases-fork
decreases-fork l = 8 * l.depth

abbrev pub decreases-advance : goal.decreases-advance
decreases-advance l = 8 * l.depth + 1

abbrev pub decreases-go : goal.decreases-go
decreases-go l = 8 * l.depth + 2

abbrev pub decreases-run_phase : goal.decreases-run_phase
decreases-run_phase l = 8 * l.depth + 3

abbrev pub decreases-run_phases : goal.decreases-run_phases
decreases-run_phases l = 8 * l.depth + 4

abbrev pub decreases-region : goal.decreases-region
decreases-region l = 8 * l.depth + 5

abbrev pub invariant-go-steps : goal.invariant-go-steps
invariant-go-steps l = record {
  goes : (layout : ElementLayout) → TellsWords l.fn.arrays layout → l.fn.member.lane.place.arrays ≡ l.fn.arrays → GoesFrom layout l.fn.path (seen l.fn.memory l.fn.member) (seen l.memory l.member);
  stops : (layout : ElementLayout) → TellsWords l.fn.arrays layout → l.fn.member.lane.place.arrays ≡ l.fn.arrays → StopsFrom layout l.fn.path (seen l.fn.memory l.fn.member) (seen l.memory l.member);
}

abbrev pub invariant-run_phase-loop-member : goal.invariant-run_phase-loop-member
invariant-run_phase-loop-member l = record {
  long : length l.members ≡ length l.fn.members;
  rest : (k : ℕ) (d : _) → l.member-index ≤ k → slice_index_or l.members k d ≡ slice_index_or l.fn.members k d;
  ran : (layout : ElementLayout) → TellsWords l.fn.arrays layout → HaveArrays l.fn.arrays (all_idle l.fn.members)
      → IfOk l.first (λ _. PhaseFrom layout l.fn.at l.fn.number (all_idle l.fn.members) (all_idle (drop l.member-index l.fn.members)) (pool l.fn.memory) (all_idle (take l.member-index l.members)) (pool l.memory));
  came : (layout : ElementLayout) → TellsWords l.fn.arrays layout → HaveArrays l.fn.arrays (all_idle l.fn.members)
      → TeamCame layout l.fn.at l.fn.number (all_idle l.fn.members) (all_idle (drop l.member-index l.fn.members)) (pool l.fn.memory) (pool l.memory) l.first;
}

abbrev pub invariant-run_phases-phases : goal.invariant-run_phases-phases
invariant-run_phases-phases l = record {
  ran : (layout : ElementLayout) → TellsWords l.fn.arrays layout → HaveArrays l.fn.arrays (all_idle l.fn.members)
      → PhasesFrom layout l.fn.arrays l.fn.at l.fn.number (all_idle l.fn.members) (pool l.fn.memory) (all_idle l.members) (pool l.memory);
  stops : (layout : ElementLayout) → TellsWords l.fn.arrays layout → HaveArrays l.fn.arrays (all_idle l.fn.members)
      → PhasesStopFrom layout l.fn.at l.fn.number (all_idle l.fn.members) (pool l.fn.memory) (all_idle l.members) (pool l.memory);
}
