-- What is seen of a lane that follows its log.
use Rattle.std.specs.Prelude.{map}
use Rattle.kernel_syntax.specs.Program.{team_of}
use Rattle.kernel_model.specs.State.{Fork}
use Rattle.log_replay.specs.Following.{Standing}
use Rattle.log_replay.specs.declared.forked.Forked.{Forked}
use Rattle.log_replay.specs.declared.lane.ReplayLane.{ReplayLane}

-- the region that was forked, as the meaning of kernels has it
abbrev pub fork_of : Forked → Fork
fork_of f = record { team = team_of f.team.now; slots = f.slots.items }

-- where the task stands
abbrev pub standing : ReplayLane → Standing
standing l = record { slots = l.locals.slots.items; forks = map fork_of l.forks.items; reading = l.reader; count = l.count }
