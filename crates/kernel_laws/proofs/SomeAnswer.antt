-- A text has a kernel or a refusal.
use Rattle.std.proofs.Common.{◌≡◌, ◌⊎◌, inl, inr, refl, sym, ap, ◌∙◌, ℕ, List, [], ◌∷◌, Result, Ok, Err}
use Rattle.kernel_syntax.specs.Program.{Program}
use Rattle.kernel_text.specs.declared.token.Token.{Token}
use Rattle.kernel_text.specs.declared.judging.Judgement.{Judgement}
use Rattle.kernel_text.specs.declared.judging.Judgement.TheVariants as verdict
use Rattle.kernel_text.specs.Tokens.{Refusal, tokens_of}
use Rattle.kernel_text.specs.Grammar.{KernelTree, kernel_tokens, IsKernel}
use Rattle.kernel_text.specs.Faults.{IsVerdict, IsShallow}
use Rattle.kernel_reader.specs.Rules.{kernel_faults}
use Rattle.kernel_reader.specs.Resolve.{program}
use Rattle.kernel_reader.specs.KernelOf.{IsKernelOf, IsRefused, AtTokens, AtRule}
use Rattle.kernel_laws.proofs.SomeVerdict.{some-verdict}
use Rattle.kernel_reader.proofs.Refusing.{refused_syntax, refused_deep, refused_early}

abbrev HasAnswer : List ℕ → Type 0
HasAnswer text = ((p : Program) × IsKernelOf text p) ⊎ ((r : Refusal) × IsRefused text r)

by-rules : (text : List ℕ) (k : KernelTree) → tokens_of text ≡ Ok (kernel_tokens k) → IsKernel k → IsShallow k → (faults : List Refusal) → kernel_faults k ≡ faults → HasAnswer text
by-rules text k e d s [] none = inl (program k, record { tree = k; tokens = e; derives = d; shallow = s; lawful = none; resolved = refl })
by-rules text k e d s (r ∷ later) broken = inr (r, AtRule k later e d s broken)

abbrev told : List Token → Result (List Token) Refusal
told ts = Ok ts

by-grammar : (text : List ℕ) (ts : List Token) → tokens_of text ≡ Ok ts → (v : Judgement) → IsVerdict ts v → HasAnswer text
by-grammar text ts e verdict.Kernel v = by-rules text v.0 (e ∙ ap told (sym v.3)) v.1 v.2 (kernel_faults v.0) refl
by-grammar text ts e (verdict.Syntax line) v = inr (_, refused_syntax text ts line e v)
by-grammar text ts e (verdict.Deep line) v = inr (_, refused_deep text ts line e v)
by-grammar text ts e verdict.Early v = inr (_, refused_early text ts _ refl e v)

by-tokens : (text : List ℕ) (found : Result (List Token) Refusal) → tokens_of text ≡ found → HasAnswer text
by-tokens text (Err r) e = inr (r, AtTokens e)
by-tokens text (Ok ts) e = let v = some-verdict ts in by-grammar text ts e v.0 v.1

pub some-answer : (text : List ℕ) → ((p : Program) × IsKernelOf text p) ⊎ ((r : Refusal) × IsRefused text r)
some-answer text = by-tokens text (tokens_of text) refl
