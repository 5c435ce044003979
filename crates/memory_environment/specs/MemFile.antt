-- What is seen of an opened file in memory.
use Rattle.std.specs.Prelude.{ℕ, List, drop, Option, Some}
use Rattle.memory_environment.specs.InMemory.{Counted}
use Rattle.memory_environment.specs.declared.file.MemFile.{MemFile}

-- the bytes that are still to be read
abbrev pub bytes_left : MemFile → List ℕ
bytes_left file = drop file.place file.bytes.items

-- it tells them
abbrev pub told_rest : MemFile → Option (List ℕ)
told_rest file = Some (bytes_left file)

-- how often a read failed
abbrev pub faults_of : MemFile → ℕ
faults_of file = file.faults

-- how many reads there were
abbrev pub calls_of : MemFile → ℕ
calls_of file = file.calls.made

-- the numbers of the reads that are to fail
abbrev pub failing_of : MemFile → List ℕ
failing_of file = file.calls.failing.items

-- its reads
abbrev pub counted_of : MemFile → Counted
counted_of file = record { calls = calls_of file; failing = failing_of file; faults = faults_of file }
