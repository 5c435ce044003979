-- A certain run of a kernel as a command may leave it.
use Rattle.std.specs.Prelude.{◌≡◌, ℕ, List, length}
use Rattle.race_model.specs.History.{HasLegalHistory}
use Rattle.race_model.specs.Listing.{IsListing}
use Rattle.race_model.specs.Trace.{Trace, logs_of}
use Rattle.kernel_syntax.specs.Layout.{elements}
use Rattle.kernel_syntax.specs.Program.{Program}
use Rattle.kernel_model.specs.Folder.{paths_of}
use Rattle.execution_model.specs.Elements.{element_address}
use Rattle.certainty_model.specs.Certain.{IsCertain}

-- a certain run of the kernel, in the order of an index, a legal history of which ends in these words, one for each element
pub record IsCertainRun (program : Program) (run : Trace) (words : List ℕ) : Type 0 where
  pub certain : IsCertain program run
  pub listed : IsListing (paths_of run)
  pub ends : HasLegalHistory (logs_of run) (element_address program.arrays) words
  pub all : length words ≡ elements program.arrays
