-- What `certify` answers: why there is no kernel, or what its serial run tells of all runs.
use Rattle.std.specs.Prelude.{◌≡◌, ℕ, List}
use Rattle.sw_base.specs.Environment.{Files}
use Rattle.kernel_syntax.specs.Program.{Program}
use Rattle.kernel_syntax.specs.declared.syntax.Array.{Array}
use Rattle.kernel_file.specs.Due.{KernelDue}
use Rattle.certify.specs.Verdicts.{Tells}
use Rattle.certify.specs.declared.verdict.Verdict.{Verdict}
use Rattle.certify.specs.declared.verdict.Verdict.TheVariants as verdict
use Rattle.command_answer.specs.declared.status.TheConstants.{DONE, UNCERTAIN}
use Rattle.certify_command.specs.Texts.{verdict_text}

abbrev pub verdict_status : Verdict → ℕ
verdict_status (verdict.Certain tasks records words) = DONE
verdict_status _ = UNCERTAIN

-- the status and the text of a verdict on a kernel of these arrays
pub record IsVerdictText (arrays : List Array) (verdict : Verdict) (status : ℕ) (text : List ℕ) : Type 0 where
  pub status_is : status ≡ verdict_status verdict
  pub text_is : text ≡ verdict_text arrays verdict

-- a verdict whose cause is there
pub record HasVerdict (program : Program) (status : ℕ) (text : List ℕ) : Type 0 where
  pub verdict : Verdict
  pub tells : Tells program verdict
  pub due : IsVerdictText program.arrays verdict status text

-- there is no kernel, or a verdict on it
abbrev pub CertifyDue : Files → List ℕ → ℕ → List ℕ → Type 0
CertifyDue = KernelDue HasVerdict
