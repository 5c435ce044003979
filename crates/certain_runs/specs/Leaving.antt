-- What `run` leaves and prints of a kernel that has a certain run.
use Rattle.std.specs.Prelude.{◌≡◌, ℕ, List, ◌++◌, codes, length, map, sum_by}
use Rattle.log_format.specs.declared.format.TheConstants.{FORMAT}
use Rattle.sw_base.specs.Environment.{Content, with_put}
use Rattle.sw_base.specs.HandedLog.{with_sealed}
use Rattle.sw_base.specs.Names.{index_name}
use Rattle.race_model.specs.FirstBad.{rows_of}
use Rattle.race_model.specs.Row.{index_bytes}
use Rattle.race_model.specs.Trace.{TaskLog, Trace}
use Rattle.kernel_syntax.specs.Program.{Program}
use Rattle.kernel_file.specs.Holding.{HoldsKernel}
use Rattle.run_command.specs.Run.{told_log}
use Rattle.command_answer.specs.RunTexts.{run_text}
use Rattle.certify.specs.Verdicts.{RunsTo}

-- The run's logs, each from a buffer of this size, and their index are there, and nothing else changed; and the text tells how many tasks
-- and records the run has, and the sums of its words.
pub record LeavesRun (dir : List ℕ) (size : ℕ) (old new : Content) (text : List ℕ) (program : Program) (run : Trace) (words : List ℕ) : Type 0 where
  pub leaves : new ≡ with_put (index_name dir) (index_bytes FORMAT (rows_of run)) (with_sealed (map (told_log dir size) run) old)
  pub tells : text ≡ run_text (length run) (sum_by (λ (task : TaskLog). length task.records) run) program.arrays words

-- The kernel of the file has a serial run whose logs and index are there, each log from a buffer of this size, and nothing else changed; and the
-- verdict is `certain` before that text.
pub record RunsAsCertified (kernel dir : List ℕ) (size : ℕ) (old new : Content) (verdict text : List ℕ) : Type 0 where
  pub program : Program
  pub holds : HoldsKernel old.held kernel program
  pub tasks : Trace
  pub words : List ℕ
  pub runs : RunsTo program tasks words
  pub leaves : LeavesRun dir size old new text program tasks words
  pub verdict_is : verdict ≡ codes "certain\n" ++ text
