-- The kernel of tokens that are one by the grammar is that of the text, or the first rule that it breaks is told.
use Rattle.std.proofs.Common.{◌≡◌, ℕ, List, [], ◌∷◌, Some, None, Result, Ok, Err, sym, ap, ◌∙◌}
use Rattle.std.specs.Prelude.{IfOk, IfErr}
use Rattle.kernel_syntax.specs.declared.syntax.Kernel.{Kernel}
use Rattle.kernel_syntax.specs.Program.{Program, program_of}
use Rattle.kernel_syntax.specs.Bounds.{IsBounded}
use Rattle.kernel_text.specs.declared.token.Token.{Token}
use Rattle.kernel_text.specs.declared.judging.Judgement.TheVariants as verdict
use Rattle.kernel_text.specs.Tokens.{Refusal, tokens_of}
use Rattle.kernel_text.specs.Grammar.{KernelTree, kernel_tokens, IsKernel}
use Rattle.kernel_text.specs.Faults.{IsVerdict, IsShallow}
use Rattle.kernel_reader.specs.Rules.{kernel_faults}
use Rattle.kernel_reader.specs.Resolve.{program}
use Rattle.kernel_reader.specs.Settled.{first, Settles}
use Rattle.kernel_reader.specs.KernelOf.{IsKernelOf, AtRule, IsFaultOf, HasNoKernel}
use Rattle.kernel_reader.specs.declared.fault.ReadKernelFault.{ReadKernelFault}
use Rattle.kernel_reader.specs.declared.fault.ReadKernelFault.TheVariants as read
use Rattle.kernel_reader.proofs.Refusing.{tree-tokens}
use Rattle.kernel_reader.proofs.Bounded.{kernels_are_bounded}

-- for every tree with these tokens
abbrev pub IsRead : List Token → Result Kernel ReadKernelFault → Type 0
IsRead ts r = (k : KernelTree) → ts ≡ kernel_tokens k → IsKernel k → IsShallow k → Settles r (kernel_faults k) (λ x. program_of x ≡ program k)

abbrev told : List Token → Result (List Token) Refusal
told ts = Ok ts

first-is : (faults : List Refusal) (r : Refusal) → first faults ≡ Some r → (later : List Refusal) × (faults ≡ r ∷ later)
first-is [] r e = absurd cc
first-is (x ∷ later) r e = let same : x ≡ r = cc in (later, ap (λ (y : Refusal). y ∷ later) same)

is-kernel : (text : List ℕ) (ts : List Token) (k : Kernel) → tokens_of text ≡ Ok ts → IsVerdict ts verdict.Kernel → IsRead ts (Ok k) → IsKernelOf text (program_of k)
is-kernel text ts k e v reads =
    let s = reads v.0 (sym v.3) v.1 v.2 in record { tree = v.0; tokens = e ∙ ap told (sym v.3); derives = v.1; shallow = v.2; lawful = s.0; resolved = s.1 }

pub gives-kernel : (text : List ℕ) (ts : List Token) (r : Result Kernel ReadKernelFault) → tokens_of text ≡ Ok ts → IsVerdict ts verdict.Kernel → IsRead ts r → IfOk r (λ k. IsKernelOf text (program_of k))
gives-kernel text ts (Ok k) e v reads = is-kernel text ts k e v reads
gives-kernel text ts (Err f) e v reads = tt

pub gives-bounded : (text : List ℕ) (ts : List Token) (r : Result Kernel ReadKernelFault) → tokens_of text ≡ Ok ts → IsVerdict ts verdict.Kernel → IsRead ts r → IfOk r (λ k. IsBounded (program_of k))
gives-bounded text ts (Ok k) e v reads = kernels_are_bounded text (program_of k) (is-kernel text ts k e v reads)
gives-bounded text ts (Err f) e v reads = tt

pub gives-only : (text : List ℕ) (ts : List Token) (r : Result Kernel ReadKernelFault) → tokens_of text ≡ Ok ts → IsRead ts r → (p : Program) → IsKernelOf text p → IfOk r (λ k. program_of k ≡ p)
gives-only text ts (Ok k) e reads p is = (reads is.tree (sym (tree-tokens text ts p is e)) is.derives is.shallow).1 ∙ sym is.resolved
gives-only text ts (Err f) e reads p is = tt

pub gives-fault : (text : List ℕ) (ts : List Token) (r : Result Kernel ReadKernelFault) → tokens_of text ≡ Ok ts → IsVerdict ts verdict.Kernel → IsRead ts r → IfErr r (λ f. IsFaultOf text f)
gives-fault text ts (Ok k) e v reads = tt
gives-fault text ts (Err (read.Refused line why)) e v reads =
    let s = first-is (kernel_faults v.0) (record { line = line; why = why }) (reads v.0 (sym v.3) v.1 v.2) in
    AtRule v.0 s.0 (e ∙ ap told (sym v.3)) v.1 v.2 s.1
gives-fault text ts (Err read.Memory) e v reads = tt

pub gives-none : (text : List ℕ) (ts : List Token) (r : Result Kernel ReadKernelFault) → tokens_of text ≡ Ok ts → IsRead ts r → IfErr r (λ f. HasNoKernel text f)
gives-none text ts (Ok k) e reads = tt
gives-none text ts (Err (read.Refused line why)) e reads = λ p is.
    let s : first (kernel_faults is.tree) ≡ Some (record { line = line; why = why }) = reads is.tree (sym (tree-tokens text ts p is e)) is.derives is.shallow in
    let none : first (kernel_faults is.tree) ≡ None = ap first is.lawful in absurd cc
gives-none text ts (Err read.Memory) e reads = tt
