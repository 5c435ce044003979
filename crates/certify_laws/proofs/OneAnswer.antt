-- `certify` has one answer.
use Rattle.std.proofs.Common.{◌≡◌, refl, ap, ap₂, sym, ◌∙◌, subst, ℕ, List}
use Rattle.sw_base.specs.Environment.{Files}
use Rattle.kernel_syntax.specs.Program.{Program}
use Rattle.kernel_syntax.specs.declared.syntax.Array.{Array}
use Rattle.kernel_file.specs.Due.{no_kernel, of_kernel, refused_kernel}
use Rattle.kernel_file.specs.Holding.{HoldsKernel}
use Rattle.kernel_laws.proofs.Lawfulness.{kernels_are_lawful}
use Rattle.folder_commands.proofs.OneFile.{kernel_once, nothing_held, refusal_once, refused_or_kernel}
use Rattle.certify.specs.declared.verdict.Verdict.{Verdict}
use Rattle.certify.specs.declared.verdict.Verdict.TheVariants as verdict
use Rattle.certify_command.specs.Certify.{CertifyDue, HasVerdict, verdict_status}
use Rattle.certify_command.specs.Texts.{certain_text, construct_text, long_text, races_text, segments_text, uncertain_stop_text, verdict_text}
use Rattle.certify_laws.specs.Same.{SayTheSame}
use Rattle.certify_laws.proofs.OneVerdict.{one_verdict}

-- verdicts that say the same are printed alike
printed_alike : (arrays : List Array) (v w : Verdict) → SayTheSame v w → (verdict_status w ≡ verdict_status v) × (verdict_text arrays w ≡ verdict_text arrays v)
printed_alike arrays (verdict.Construct line) (verdict.Construct other) same = (refl, ap construct_text same)
printed_alike arrays (verdict.Long path n) (verdict.Long other m) same = (refl, ap₂ long_text same.0 same.1)
printed_alike arrays (verdict.Stopped path line why) (verdict.Stopped other k also) same = (refl, λ i. uncertain_stop_text (same.0 i) (same.1 i) (same.2 i))
printed_alike arrays (verdict.Segments path n) (verdict.Segments other m) same = (refl, ap₂ segments_text same.0 same.1)
printed_alike arrays (verdict.Racy pairs) (verdict.Racy others) same = (refl, ap races_text same)
printed_alike arrays (verdict.Certain n m words) (verdict.Certain k l final) same = (refl, λ i. certain_text (same.0 i) (same.1 i) arrays (same.2 i))
printed_alike arrays _ _ same = absurd same

module _ (files : Files) (kernel : List ℕ) where
  verdict_once : (program : Program) (status told : ℕ) (text answer : List ℕ) → HoldsKernel files kernel program → HasVerdict program status text → HasVerdict program told answer
      → (told ≡ status) × (answer ≡ text)
  verdict_once program status told text answer holds a b =
      let same = printed_alike program.arrays a.verdict b.verdict (one_verdict program (kernels_are_lawful holds.text program holds.kernel) a.verdict b.verdict a.tells b.tells) in
      (b.due.status_is ∙ (same.0 ∙ sym a.due.status_is), b.due.text_is ∙ (same.1 ∙ sym a.due.text_is))

  pub one_answer : (status told : ℕ) (text answer : List ℕ) → CertifyDue files kernel status text → CertifyDue files kernel told answer → (told ≡ status) × (answer ≡ text)
  one_answer status told text answer (no_kernel none s t) (no_kernel also u v) = (u ∙ sym s, v ∙ sym t)
  one_answer status told text answer (no_kernel none s t) (refused_kernel line why holds u v) = absurd (nothing_held files kernel holds.text none holds.held)
  one_answer status told text answer (no_kernel none s t) (of_kernel program holds has) = absurd (nothing_held files kernel holds.text none holds.held)
  one_answer status told text answer (refused_kernel line why holds s t) (no_kernel none u v) = absurd (nothing_held files kernel holds.text none holds.held)
  one_answer status told text answer (refused_kernel line why holds s t) (refused_kernel k also other u v) = (u ∙ sym s, v ∙ (refusal_once files kernel line k why also holds other ∙ sym t))
  one_answer status told text answer (refused_kernel line why holds s t) (of_kernel program other has) = absurd (refused_or_kernel files kernel line why program holds other)
  one_answer status told text answer (of_kernel program holds has) (no_kernel none u v) = absurd (nothing_held files kernel holds.text none holds.held)
  one_answer status told text answer (of_kernel program holds has) (refused_kernel line why other u v) = absurd (refused_or_kernel files kernel line why program other holds)
  one_answer status told text answer (of_kernel program holds has) (of_kernel also other had) =
      verdict_once program status told text answer holds has (subst (λ (p : Program). HasVerdict p told answer) (kernel_once files kernel program also holds other) had)
