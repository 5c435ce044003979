-- A log that is closed.
use Rattle.std.specs.Prelude.{◌≡◌, ◌<◌, ℕ, List, Option, Some, None, is_some}
use Rattle.sw_base.specs.declared.path.Step.{Step}
use Rattle.sw_base.specs.declared.trouble.Trouble.{Trouble}
use Rattle.sw_base.specs.declared.trouble.Trouble.TheVariants.{Failed}
use Rattle.sw_base.specs.Environment.{Text, WhereTold}
use Rattle.log_format.specs.declared.record.Record.{Record}
use Rattle.event_buffer.specs.Buffered.{Buffered}
use Rattle.event_buffer.specs.Logged.{HoldsRecords, HasAll, KeepsPrefix}
use Rattle.lane_runner.specs.Handed.{HandedEntry}

-- what a log that is closed has of what was put
abbrev pub HasTaken : Option Trouble → List ℕ → List Record → ℕ → Text → Type 0
HasTaken None header records size text = HasAll header records size text
HasTaken (Some trouble) header records size text = KeepsPrefix header records size text

-- The log of the task of this path was closed, and refused so, if it did, what waited in this buffer before it, or a call before.
pub record IsClosedAs (e : HandedEntry) (refused : Option Trouble) (path : List Step) (b : Buffered) : Type 0 where
  pub task : e.task ≡ path
  pub dir : e.dir ≡ b.dir
  pub own : e.path ≡ b.path
  pub tells : is_some e.text ≡ is_some b.text
  pub count : e.count ≡ b.count
  pub taken : (header : List ℕ) (records : List Record) → HoldsRecords header b records → WhereTold e.text (HasTaken refused header records b.size)
  pub failed : refused ≡ Some Failed → 0 < e.faults
  pub faultless : refused ≡ None → e.faults ≡ 0
  pub again : (trouble : Trouble) → b.refused ≡ Some trouble → refused ≡ Some trouble
