use Rattle.std.proofs.Common.{◌≡◌, ◌≤◌, All, false, take}
use Rattle.stride_summary.specs.Run.{last_byte}
use Rattle.pair_compare.proofs.member.measured.Given as goal

abbrev pub invariant-loop-run : goal.invariant-loop-run
invariant-loop-run l = All (λ run. (l.low ≤ run.base) × (last_byte run ≤ l.high)) (take l.run-index l.runs) × (l.writes ≡ false → All (λ run. run.write ≡ false) (take l.run-index l.runs))
