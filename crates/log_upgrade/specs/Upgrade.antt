-- What it does to bring a folder of the first format over to another folder.
use Rattle.std.specs.Prelude.{◌≡◌, ◌≢◌, ◌⊎◌, ℕ, ◌≤◌, List, length, Option, Some, None, is_some, Result, IsErrOf, OnOk}
use Rattle.sw_base.specs.Environment.{Content, Files, FolderState, Rose}
use Rattle.sw_base.specs.Names.{index_name}
use Rattle.log_format.specs.declared.format.Format.TheVariants.{First}
use Rattle.log_format.specs.declared.format.TheConstants.{FORMAT}
use Rattle.race_model.specs.FirstBad.{HoldsLogs, HoldsTrace, rows_of}
use Rattle.race_model.specs.IndexFault.{AreRows}
use Rattle.race_model.specs.Row.{Row}
use Rattle.race_model.specs.Trace.{Trace}
use Rattle.race_model.specs.WellFormed.{IsWellFormed}
use Rattle.log_index.specs.Puts.{PutsLogs, PutsPart, with_run}
use Rattle.log_walk.specs.declared.fault.WalkFault.{WalkFault}
use Rattle.log_walk.specs.declared.fault.WalkFault.TheVariants.{ReadFault}
use Rattle.log_upgrade.specs.declared.fault.UpgradeFault.{UpgradeFault}
use Rattle.log_upgrade.specs.declared.fault.UpgradeFault.TheVariants.{Walk, WriteFault}

-- the folder is one of the first format, bad nowhere, that holds this run, and the other one has no index
pub record CanUpgrade (files : Files) (dir new : List ℕ) (trace : Trace) : Type 0 where
  pub well_formed : IsWellFormed First files dir
  pub holds : HoldsTrace First files dir trace
  pub fresh : files (index_name new) ≡ None

-- The run was brought over: its logs, so many, and its index are in the other folder, which is bad nowhere and holds the run in the
-- format that the program reads. Nothing else changed.
pub record Upgraded (dir new : List ℕ) (old now : Content) (count : ℕ) : Type 0 where
  pub trace : Trace
  pub can : CanUpgrade old.held dir new trace
  pub count_is : count ≡ length trace
  pub leaves : now ≡ with_run new trace old
  pub well_formed : IsWellFormed FORMAT now.held new
  pub holds : HoldsTrace FORMAT now.held new trace

-- What is left where it wasn't: the folder as it was; or of a run that could be brought over the first logs, and perhaps a prefix of the
-- next one; or all of them, and perhaps a prefix of the index.
pub data LeavesUpgrade (dir new : List ℕ) (old now : Content) : Type 0 where
  nothing : now ≡ old → LeavesUpgrade dir new old now
  part : (trace : Trace) → CanUpgrade old.held dir new trace → PutsPart new trace (Some old) (Some now) → LeavesUpgrade dir new old now

-- the logs of these rows can be read in the one folder while they are put into the other
pub record CanBring (files : Files) (dir new : List ℕ) (rows : List Row) (trace : Trace) : Type 0 where
  pub rows_are : rows_of trace ≡ rows
  pub good : AreRows rows
  pub logs : HoldsLogs First files dir trace
  pub apart : dir ≢ new

-- the folder is as it was, or the first of the logs were put
abbrev pub BringsPart : List ℕ → Trace → Content → Option Content → Type 0
BringsPart new trace old now = (now ≡ Some old) ⊎ PutsLogs new trace (Some old) now

-- what it costs to bring logs over: a read or a write that failed is counted, and is the cause of an answer that says so
pub record CountsBringing {T : Type 0} (reads reads' : ℕ) (before after : FolderState) (result : Result T UpgradeFault) : Type 0 where
  pub later : reads ≤ reads'
  pub only_reads : (w : WalkFault) → IsErrOf result (Walk w) → (w ≡ ReadFault) × Rose reads reads'
  pub no_read_fault : (IsErrOf result (Walk ReadFault) → ⊥) → reads' ≡ reads
  pub write_later : before.write_faults ≤ after.write_faults
  pub write_cause : IsErrOf result WriteFault → Rose before.write_faults after.write_faults
  pub no_fault : OnOk result (after.write_faults ≡ before.write_faults)
  pub same_roots : after.roots ≡ before.roots
  pub tells : is_some after.content ≡ is_some before.content
