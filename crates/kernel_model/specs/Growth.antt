-- What a task does to its state as it runs.
use Rattle.std.specs.Prelude.{◌≡◌, ◌+◌, List, ◌++◌, length}
use Rattle.log_format.specs.declared.record.Record.{Record}
use Rattle.race_model.specs.Trace.{region_count}
use Rattle.kernel_model.specs.State.{State, Fork}

-- Records are only added, each takes room, and each Region record among them has its fork.
pub record Grows (old new : State) : Type 0 where
  pub added : List Record
  pub records_are : new.records ≡ old.records ++ added
  pub room_is : length added + new.room ≡ old.room
  pub regions : List Fork
  pub forks_are : new.forks ≡ old.forks ++ regions
  pub fork_count : length regions ≡ region_count added
