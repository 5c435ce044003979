-- A run of a kernel that `certify` calls certain.
use Rattle.std.proofs.Common.{◌≡◌, ap, ap₂, sym, ◌∙◌, ℕ, List, ◌++◌, codes}
use Rattle.sw_base.specs.Environment.{Content}
use Rattle.kernel_syntax.specs.Program.{Program}
use Rattle.kernel_file.specs.Due.{no_kernel, of_kernel, refused_kernel}
use Rattle.kernel_file.specs.Holding.{HoldsKernel}
use Rattle.command_answer.specs.declared.status.TheConstants.{DONE}
use Rattle.run_command.specs.Run.{RunDue}
use Rattle.command_answer.specs.RunTexts.{run_text}
use Rattle.certain_runs.specs.CertainRun.{IsCertainRun}
use Rattle.certify.specs.Verdicts.{HasCertainRun, Tells}
use Rattle.certify.specs.declared.verdict.Verdict.{Verdict}
use Rattle.certify.specs.declared.verdict.Verdict.TheVariants as verdict
use Rattle.certify_command.specs.Certify.{CertifyDue, IsVerdictText}
use Rattle.certain_runs.specs.Leaving.{RunsAsCertified}
use Rattle.certain_runs.proofs.CertainCommand.{leaves_certain_run}

module _ (rose : Type 0) (kernel dir : List ℕ) (size : ℕ) (old new : Content) (told status : ℕ) (answer text : List ℕ) (done : told ≡ DONE) (due : RunDue rose kernel dir size old new status text) (ended : status ≡ DONE) where
  of_certain : (program : Program) (count records : ℕ) (words : List ℕ) → HoldsKernel old.held kernel program → HasCertainRun program count records words
      → answer ≡ codes "certain\n" ++ run_text count records program.arrays words → RunsAsCertified kernel dir size old new answer text
  of_certain program count records words holds has printed =
      let c : IsCertainRun program has.tasks words =
      record { certain = has.certain; listed = has.runs.listed; ends = has.runs.history.legal; all = has.runs.all } in
      let left = leaves_certain_run rose kernel dir size old new text program holds has.tasks words c status due ended in
      record {
        program = program;
        holds = holds;
        tasks = has.tasks;
        words = words;
        runs = has.runs;
        leaves = left;
        verdict_is =
            printed
            ∙ ap₂ (λ (n m : ℕ). codes "certain\n" ++ run_text n m program.arrays words) has.count_is has.records_are
            ∙ ap (λ (t : List ℕ). codes "certain\n" ++ t) (sym left.tells);
      }

  by_verdict : (program : Program) (v : Verdict) → HoldsKernel old.held kernel program → Tells program v → IsVerdictText program.arrays v told answer → RunsAsCertified kernel dir size old new answer text
  by_verdict program (verdict.Certain tasks records words) holds tells is = of_certain program tasks records words.items holds tells is.text_is
  by_verdict program (verdict.Construct line) holds tells is = let status_is = sym is.status_is ∙ done in absurd cc
  by_verdict program (verdict.Long path number) holds tells is = let status_is = sym is.status_is ∙ done in absurd cc
  by_verdict program (verdict.Stopped path line why) holds tells is = let status_is = sym is.status_is ∙ done in absurd cc
  by_verdict program (verdict.Segments path number) holds tells is = let status_is = sym is.status_is ∙ done in absurd cc
  by_verdict program (verdict.Racy pairs) holds tells is = let status_is = sym is.status_is ∙ done in absurd cc

  pub as_certified : CertifyDue old.held kernel told answer → RunsAsCertified kernel dir size old new answer text
  as_certified (no_kernel none status_is text_is) = let is = sym status_is ∙ done in absurd cc
  as_certified (refused_kernel line why has status_is text_is) = let is = sym status_is ∙ done in absurd cc
  as_certified (of_kernel program holds has) = by_verdict program has.verdict holds has.tells has.due
