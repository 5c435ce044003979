-- What a call that only reads does to a folder.
use Rattle.std.specs.Prelude.{◌≡◌, ◌≤◌}
use Rattle.sw_base.specs.Environment.{Rose}
use Rattle.sw_base.specs.declared.environment.Folder.{Ghosts}

-- The folder's state stays, and its count of read faults never falls: it rose where the answer is that a read failed, and stays at
-- every other answer.
pub record OnlyReads {F L O : Type 0} (g : Ghosts F L O) (old new : F) (failed : Type 0) : Type 0 where
  pub same : g.state new ≡ g.state old
  pub later : g.read_faults old ≤ g.read_faults new
  pub cause : failed → Rose (g.read_faults old) (g.read_faults new)
  pub no_fault : (failed → ⊥) → g.read_faults new ≡ g.read_faults old
