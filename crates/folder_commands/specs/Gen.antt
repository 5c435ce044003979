-- What `gen` answers: the report of the race pairs of a generated run, after how many accesses and barrier intervals it has.
use Rattle.std.specs.Prelude.{◌≡◌, ℕ, List, ◌++◌, codes, decimal, Option, Some}
use Rattle.sw_base.specs.Environment.{Content}
use Rattle.log_format.specs.declared.format.TheConstants.{FORMAT}
use Rattle.race_model.specs.FirstBad.{HoldsTrace, segments_in}
use Rattle.race_model.specs.Race.{IsRacePair, Lists}
use Rattle.race_model.specs.Trace.{logs_of}
use Rattle.race_report.specs.Report.{report_text}
use Rattle.generated_run.specs.Generated.{accesses_in, generated}
use Rattle.folder_commands.specs.Check.{report_status}

-- the two lines before the report
abbrev pub counts_text : ℕ → ℕ → List ℕ
counts_text accesses segments = codes "accesses " ++ decimal accesses ++ codes "\nsegments " ++ decimal segments ++ codes "\n"

abbrev pub summary_text : ℕ → List (ℕ × ℕ) → List ℕ
summary_text rounds pairs = counts_text (accesses_in (generated rounds)) (segments_in (generated rounds)) ++ report_text pairs

-- the race pairs of the run of so many rounds
abbrev pub AreGeneratedPairs : ℕ → List (ℕ × ℕ) → Type 0
AreGeneratedPairs rounds pairs = Lists (IsRacePair (logs_of (generated rounds))) pairs

-- its counts and their report
pub record GenDue (rounds status : ℕ) (text : List ℕ) : Type 0 where
  pub pairs : List (ℕ × ℕ)
  pub races : AreGeneratedPairs rounds pairs
  pub text_is : text ≡ summary_text rounds pairs
  pub status_is : status ≡ report_status pairs

-- the folder tells what it holds: the run of so many rounds
pub record HoldsRun (dir : List ℕ) (rounds : ℕ) (told : Option Content) : Type 0 where
  pub content : Content
  pub is : told ≡ Some content
  pub holds : HoldsTrace FORMAT content.held dir (generated rounds)
