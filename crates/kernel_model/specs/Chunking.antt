-- How many chunks a team's loops have, as the records of its lanes tell it.
use Rattle.std.specs.Prelude.{◌≡◌, ℕ, ◌<◌, List, [], ◌∷◌, ℤ, None}
use Rattle.log_format.specs.declared.record.Record.{Record}
use Rattle.log_format.specs.declared.record.Kind.TheVariants.{Chunk}
use Rattle.kernel_syntax.specs.Program.{Program}
use Rattle.kernel_syntax.specs.Tree.{TeamTree}
use Rattle.kernel_model.specs.State.{number_drawn}
use Rattle.kernel_model.specs.Trace.{trace}

-- Each Chunk tells how many chunks the loop has that is open: the first of these counts. Where it tells that number as the one drawn,
-- it closes the loop. So many counts are left after the records.
pub data TellCounts : List ℕ → List Record → List ℕ → Type 0 where
  no_record : (counts : List ℕ) → TellCounts counts [] counts
  other : (counts left : List ℕ) (r : Record) (records : List Record) → number_drawn r.kind r.addr ≡ None → TellCounts counts records left → TellCounts counts (r ∷ records) left
  draw : (n : ℕ) (counts left : List ℕ) (r : Record) (records : List Record) → r.kind ≡ Chunk → r.value ≡ n → r.addr < n
      → TellCounts (n ∷ counts) records left → TellCounts (n ∷ counts) (r ∷ records) left
  closing : (n : ℕ) (counts left : List ℕ) (r : Record) (records : List Record) → r.kind ≡ Chunk → r.value ≡ n → r.addr ≡ n
      → TellCounts counts records left → TellCounts (n ∷ counts) (r ∷ records) left

-- the records tell the first of these counts
pub record TellFirst (counts : List ℕ) (records : List Record) : Type 0 where
  pub left : List ℕ
  pub tells : TellCounts counts records left

-- the loops of a team that starts with these locals have so many chunks, whichever lane executes them and whatever it reads and draws
pub record HasCounts (team : TeamTree) (slots : List ℤ) : Type 0 where
  pub counts : List ℕ
  pub told : (program : Program) (lane : ℕ) (reads : List ℤ) (chunks : List ℕ) → TellFirst counts (trace program (record { team = team; lane = lane; slots = slots }) reads chunks).records
