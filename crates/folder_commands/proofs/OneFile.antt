-- A kernel's file holds one kernel, or is refused in one way.
use Rattle.std.proofs.Common.{◌≡◌, ap, sym, ◌∙◌, subst, ℕ, List, Some, None}
use Rattle.std.proofs.lemmas.Option.{same_Some}
use Rattle.sw_base.specs.Environment.{Files}
use Rattle.kernel_syntax.specs.Program.{Program}
use Rattle.kernel_text.specs.declared.fault.KernelWhy.{KernelWhy}
use Rattle.kernel_text.specs.Tokens.{Refusal}
use Rattle.kernel_reader.specs.KernelOf.{IsKernelOf, IsRefused}
use Rattle.kernel_reader.specs.declared.fault.ReadKernelFault.TheVariants as read
use Rattle.kernel_file.specs.Holding.{HoldsFault, HoldsKernel}
use Rattle.kernel_file.specs.Refusing.{refused_text}
use Rattle.kernel_laws.proofs.OneAnswer.{kernel-or-refusal, one-kernel, one-refusal}

module _ (files : Files) (kernel : List ℕ) where
  -- the file has one text
  text_once : (text other : List ℕ) → files kernel ≡ Some text → files kernel ≡ Some other → other ≡ text
  text_once text other one two = same_Some other text (sym two ∙ one)

  pub nothing_held : (text : List ℕ) → files kernel ≡ None → files kernel ≡ Some text → ⊥
  nothing_held text one two = absurd (let e : None ≡ Some text = sym one ∙ two in cc)

  abbrev refusal : ℕ → KernelWhy → Refusal
  refusal line why = record { line = line; why = why }

  pub refusal_once : (line k : ℕ) (why also : KernelWhy) → HoldsFault files kernel (read.Refused line why) → HoldsFault files kernel (read.Refused k also) → refused_text k also ≡ refused_text line why
  refusal_once line k why also a b =
      let same : refusal k also ≡ refusal line why =
      one-refusal a.text (refusal k also) (refusal line why) (subst (λ (text : List ℕ). IsRefused text (refusal k also)) (text_once a.text b.text a.held b.held) b.fault_is) a.fault_is in
      ap (λ (r : Refusal). refused_text r.line r.why) same

  pub refused_or_kernel : (line : ℕ) (why : KernelWhy) (program : Program) → HoldsFault files kernel (read.Refused line why) → HoldsKernel files kernel program → ⊥
  refused_or_kernel line why program a b = kernel-or-refusal a.text program (refusal line why) (subst (λ (text : List ℕ). IsKernelOf text program) (text_once a.text b.text a.held b.held) b.kernel) a.fault_is

  pub kernel_once : (program other : Program) → HoldsKernel files kernel program → HoldsKernel files kernel other → other ≡ program
  kernel_once program other a b = one-kernel a.text other program (subst (λ (text : List ℕ). IsKernelOf text other) (text_once a.text b.text a.held b.held) b.kernel) a.kernel
