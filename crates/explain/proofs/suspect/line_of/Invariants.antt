use Rattle.std.proofs.Common.{◌≡◌, All, take}
use Rattle.explain.proofs.suspect.line_of.Given as goal

abbrev pub invariant-loop-run : goal.invariant-loop-run
invariant-loop-run l = All (λ run. run.line ≡ l.line) (take l.run-index l.runs)
