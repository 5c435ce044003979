-- The folder of a generated run has one run, and its report is one.
use Rattle.std.proofs.Common.{◌≡◌, sym, ap, subst, ◌∙◌, ℕ, ◌≤◌, List, ◌++◌, Option, Some}
use Rattle.std.specs.Option.{option_map}
use Rattle.sw_base.specs.Environment.{Content}
use Rattle.race_model.specs.Race.{IsRacePair, Lists}
use Rattle.race_model.specs.Trace.{Trace, logs_of}
use Rattle.race_laws.proofs.FolderTrace.{trace_once}
use Rattle.race_report.specs.Report.{report_text}
use Rattle.command_answer.specs.Answer.{Prints}
use Rattle.race_model.specs.FirstBad.{segments_in}
use Rattle.generated_run.specs.Generated.{accesses_in, generated}
use Rattle.log_index.specs.Puts.{with_run}
use Rattle.generated_run.proofs.Held.{generated_held}
use Rattle.folder_races.specs.Pairs.{AreFolderPairs}
use Rattle.folder_commands.specs.Gen.{AreGeneratedPairs, GenDue, HoldsRun, counts_text, summary_text}
use Rattle.folder_commands.proofs.OneAnswer.{one_list}

-- a folder into which the run was put holds it
pub holds_run : (dir : List ℕ) (rounds : ℕ) (told : Option Content) (content : Content) → 1 ≤ rounds → rounds ≤ 100000
    → told ≡ option_map (with_run dir (generated rounds)) (Some content) → HoldsRun dir rounds told
holds_run dir rounds told content some few is = record {
  content = with_run dir (generated rounds) content;
  is = is;
  holds = generated_held rounds dir content some few;
}

-- and its race pairs are those of the run
pub run_pairs : (dir : List ℕ) (rounds : ℕ) (told : Option Content) (pairs : List (ℕ × ℕ)) → HoldsRun dir rounds told → AreFolderPairs told dir pairs → AreGeneratedPairs rounds pairs
run_pairs dir rounds told pairs run found =
    subst (λ (trace : Trace). Lists (IsRacePair (logs_of trace)) pairs)
    (trace_once run.content.held dir found.trace (generated rounds) (found.holds run.content run.is) run.holds) found.races

pub one_summary : (rounds s r : ℕ) (t u : List ℕ) → GenDue rounds s t → GenDue rounds r u → t ≡ u
one_summary rounds s r t u a b = a.text_is ∙ ap (summary_text rounds) (one_list (IsRacePair (logs_of (generated rounds))) a.pairs b.pairs a.races b.races) ∙ sym b.text_is

-- the numbers are those of the run
pub Prints-counted : (rounds status accesses segments : ℕ) (pairs : List (ℕ × ℕ)) (old new : Option (List ℕ)) (result : ℕ) → accesses ≡ accesses_in (generated rounds) → segments ≡ segments_in (generated rounds)
    → Prints status (counts_text accesses segments ++ report_text pairs) old new result → Prints status (summary_text rounds pairs) old new result
Prints-counted rounds status accesses segments pairs old new result accesses_are segments_are prints =
    subst (λ (n : ℕ). Prints status (counts_text n (segments_in (generated rounds)) ++ report_text pairs) old new result) accesses_are
    (subst (λ (n : ℕ). Prints status (counts_text accesses n ++ report_text pairs) old new result) segments_are prints)
