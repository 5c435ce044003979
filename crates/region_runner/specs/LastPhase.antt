-- What a lane does in a phase of its team: the items of the phase, and its End after the last one.
use Rattle.std.specs.Prelude.{◌≡◌, ℕ, ◌+◌, ◌≤◌, List, map, ℤ, Option, Some, None}
use Rattle.log_format.specs.declared.record.Kind.TheVariants as kind
use Rattle.kernel_model.specs.declared.phase.Item.{Item}
use Rattle.kernel_model.specs.Effect.{Returned}
use Rattle.kernel_model.specs.Parts.{bar_count, drawn_count, run_parts}
use Rattle.kernel_model.specs.Phases.{part_of}
use Rattle.kernel_model.specs.State.{State, Outcome, after, event, put}
use Rattle.kernel_model.specs.Value.{Site}
use Rattle.history_model.specs.Joined.{LastIsEnd}
use Rattle.history_model.specs.Work.{work_records}
use Rattle.lane_runner.specs.Forking.{IsReady}
use Rattle.lane_runner.specs.Going.{Progress, CanGo, MadePast, GoesPast, IsSameLog, site}
use Rattle.lane_runner.specs.Lane.{LaneValue, answer_due, halt_in, progress}
use Rattle.lane_runner.specs.World.{WorldValue}

-- the last phase has no barrier, and the End has this line
pub record IsLast (items : List Item) (line : ℕ) : Type 0 where
  pub some : 1 ≤ line
  pub none : bar_count (map part_of items) ≡ 0

-- the items of a phase, and then the End, if it is the last one
abbrev pub phase_part : List Item → Option ℕ → Site → State → Outcome (Unit {0})
phase_part items None at s = run_parts at (map part_of items) s
phase_part items (Some line) at s = after (run_parts at (map part_of items) s) (put (event kind.End line 0 0))

-- The lane executed the items, and then put its End of this line.
pub record HasPutEnd (w : WorldValue) (items : List Item) (line : ℕ) (slots slots' : List ℤ) (old new : Progress) : Type 0 where
  pub made : MadePast 0 w (phase_part items (Some line) (site w)) slots slots' old new (Returned tt)
  pub last : LastIsEnd (work_records made.work)

-- The lane executed the items of a phase, and put its End, if it is the last one.
pub record WentOn (w : WorldValue) (items : List Item) (end : Option ℕ) (old new : LaneValue) : Type 0 where
  pub path : new.path ≡ old.path
  pub goes : GoesPast (bar_count (map part_of items)) w (phase_part items end (site w)) old.locals new.locals (progress old) (progress new) (answer_due (halt_in new))
  pub ended : (line : ℕ) → end ≡ Some line → new.stopped ≡ None → HasPutEnd w items line old.locals new.locals (progress old) (progress new)
  pub log : IsSameLog old.buffer new.buffer
  pub loops : new.stopped ≡ None → new.tally.next_loop ≡ old.tally.next_loop + drawn_count (map part_of items)
  pub ready : IsReady new.hand w.words
  pub can : new.stopped ≡ None → CanGo w (progress new)
