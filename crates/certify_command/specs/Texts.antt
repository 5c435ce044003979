-- The texts of verdicts, each line ended by a line feed.
use Rattle.std.specs.Prelude.{ℕ, List, ◌++◌, codes, decimal}
use Rattle.sw_base.specs.declared.path.Step.{Step}
use Rattle.sw_base.specs.Names.{bare_log_name}
use Rattle.kernel_syntax.specs.declared.syntax.Array.{Array}
use Rattle.kernel_model.specs.declared.stop.StopWhy.{StopWhy}
use Rattle.kernel_model.specs.Stopping.{stop_name}
use Rattle.race_report.specs.Report.{report_text}
use Rattle.command_answer.specs.RunTexts.{run_text, stop_line}
use Rattle.certify.specs.declared.verdict.Verdict.{Verdict}
use Rattle.certify.specs.declared.verdict.Verdict.TheVariants as verdict

abbrev pub construct_text : ℕ → List ℕ
construct_text line = codes "uncertain: construct line " ++ decimal line ++ codes "\n"

abbrev pub long_text : List Step → ℕ → List ℕ
long_text path number = codes "uncertain: long at " ++ bare_log_name path ++ codes " record " ++ decimal number ++ codes "\n"

abbrev pub uncertain_stop_text : List Step → ℕ → StopWhy → List ℕ
uncertain_stop_text path line why = codes "uncertain: " ++ stop_line path line (stop_name why)

abbrev pub segments_text : List Step → ℕ → List ℕ
segments_text path number = codes "uncertain: segments at " ++ bare_log_name path ++ codes " record " ++ decimal number ++ codes "\n"

-- the report, and a line more
abbrev pub races_text : List (ℕ × ℕ) → List ℕ
races_text pairs = report_text pairs ++ codes "uncertain: races\n"

abbrev pub certain_text : ℕ → ℕ → List Array → List ℕ → List ℕ
certain_text tasks records arrays words = codes "certain\n" ++ run_text tasks records arrays words

-- what is printed of a verdict on a kernel of these arrays
abbrev pub verdict_text : List Array → Verdict → List ℕ
verdict_text arrays (verdict.Construct line) = construct_text line
verdict_text arrays (verdict.Long path number) = long_text path number
verdict_text arrays (verdict.Stopped path line why) = uncertain_stop_text path line why
verdict_text arrays (verdict.Segments path number) = segments_text path number
verdict_text arrays (verdict.Racy pairs) = races_text pairs.keys
verdict_text arrays (verdict.Certain tasks records words) = certain_text tasks records arrays words.items
