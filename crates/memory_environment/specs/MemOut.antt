-- What is seen of an `Out` in memory.
use Rattle.std.specs.Prelude.{ℕ, List, Option, Some}
use Rattle.memory_environment.specs.InMemory.{Counted}
use Rattle.memory_environment.specs.declared.out.MemOut.{MemOut}

-- the bytes that were written
abbrev pub bytes_of : MemOut → List ℕ
bytes_of out = out.written.items

-- it tells them
abbrev pub written_of : MemOut → Option (List ℕ)
written_of out = Some (bytes_of out)

-- how often a write failed
abbrev pub faults_of : MemOut → ℕ
faults_of out = out.faults

-- how many calls there were
abbrev pub calls_of : MemOut → ℕ
calls_of out = out.calls.made

-- the numbers of the calls that are to fail
abbrev pub failing_of : MemOut → List ℕ
failing_of out = out.calls.failing.items

-- its calls
abbrev pub counted_of : MemOut → Counted
counted_of out = record { calls = calls_of out; failing = failing_of out; faults = faults_of out }
