use Rattle.std.proofs.Common.{◌≡◌, ◌++◌, map}
use Rattle.generated_run.specs.Generated.{read_of, rounds_of}
use Rattle.generated_run.proofs.records.push_reads.Given as goal

abbrev pub invariant-loop-round : goal.invariant-loop-round
invariant-loop-round l = l.records.items ≡ l.initial.records.items ++ map (read_of l.lane) (rounds_of l.round)
