-- What is seen of a sweep: the format and the folder by which it goes, the rows of the index, which of the root's regions comes
-- next, what is kept of the logs that were gone over, and what was refused.
use Rattle.std.specs.Prelude.{ℕ, List, Option}
use Rattle.log_format.specs.declared.format.Format.{Format}
use Rattle.race_model.specs.Row.{Row}
use Rattle.log_walk.specs.declared.fault.WalkFault.{WalkFault}
use Rattle.log_walk.specs.declared.stack.Stack.{Stack}

pub record SweepValue : Type 0 where
  pub format : Format
  pub dir : List ℕ
  pub rows : List Row
  pub region : ℕ
  pub stack : Stack
  pub refused : Option WalkFault
