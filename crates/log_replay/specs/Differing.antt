-- Where a log differs first from a trace.
use Rattle.std.specs.Prelude.{◌≡◌, ℕ, ◌+◌, List, ◌∷◌, ◌++◌, length}
use Rattle.log_format.specs.declared.record.Record.{Record}

-- both begin with the same records, and the log's next one, which has this number from 1, isn't the trace's next one
pub record DiffersAt (trace log : List Record) (number : ℕ) : Type 0 where
  pub before : List Record
  pub others : List Record
  pub theirs : Record
  pub rest : List Record
  pub trace_is : trace ≡ before ++ others
  pub log_is : log ≡ before ++ theirs ∷ rest
  pub apart : (more : List Record) → others ≡ theirs ∷ more → ⊥
  pub number_is : number ≡ length before + 1
