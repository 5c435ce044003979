-- A text has one kernel or one refusal.
use Rattle.std.proofs.Common.{◌≡◌, ℕ, ◌≤◌, List, [], ◌∷◌, length, Result, Ok, Err, refl, sym, ap, subst, ◌∙◌, append-nil}
use Rattle.std.proofs.lemmas.List.Elements.{All-from_recursion, recursion_from_All}
use Rattle.kernel_syntax.specs.Program.{Program}
use Rattle.kernel_text.specs.declared.token.Token.{Token}
use Rattle.kernel_text.specs.declared.fault.KernelWhy.TheVariants as why
use Rattle.kernel_text.specs.Tokens.{Refusal, tokens_of, line_at}
use Rattle.kernel_text.specs.Grammar.{KernelTree, kernel_tokens, IsKernel}
use Rattle.kernel_text.specs.Faults.{kernel_levels, BeginsShallow, IsSyntaxFault, IsTooDeep, EndsEarly, IsShallow}
use Rattle.kernel_reader.specs.Rules.{kernel_faults}
use Rattle.kernel_reader.specs.Resolve.{program}
use Rattle.kernel_reader.specs.KernelOf.{IsKernelOf, IsRefused, AtTokens, AtSyntax, AtDepth, AtEnd, AtRule}
use Rattle.kernel_reader.proofs.Refusing.{take-low, no_syntax_fault, not_too_deep, not_early, no_tokens}
use Rattle.kernel_laws.proofs.Stages.{one-syntax-fault, one-deep-token, syntax-or-deep, syntax-or-more, deep-or-more}
use Rattle.kernel_laws.proofs.Trees.{one-tree}

-- a kernel begins with its tokens
whole-begins : (ts : List Token) (k : KernelTree) → kernel_tokens k ≡ ts → IsKernel k → IsShallow k → BeginsShallow ts
whole-begins ts k e d s =
    (k, [], d, e ∙ sym (append-nil ts), All-from_recursion (λ n. n ≤ 32) _ (take-low (length ts) (kernel_levels k) (recursion_from_All (λ n. n ≤ 32) _ s)))

abbrev syntax_at : Token → Refusal
syntax_at t = record { line = t.line; why = why.Syntax }

abbrev deep_at : Token → Refusal
deep_at t = record { line = t.line; why = why.Deep }

-- the stage at which tokens are refused
data Stage (text : List ℕ) (ts : List Token) (r : Refusal) : Type 0 where
  Wrong : (bad : Token) → IsSyntaxFault ts bad → r ≡ syntax_at bad → Stage text ts r
  Deep : (bad : Token) → IsTooDeep ts bad → r ≡ deep_at bad → Stage text ts r
  Early : EndsEarly ts → r ≡ record { line = line_at text (length text); why = why.Syntax } → Stage text ts r
  Broken : (k : KernelTree) → (later : List Refusal) → kernel_tokens k ≡ ts → IsKernel k → IsShallow k → kernel_faults k ≡ r ∷ later → Stage text ts r

same-tokens : (ts us : List Token) (found : Result (List Token) Refusal) → found ≡ Ok ts → found ≡ Ok us → ts ≡ us
same-tokens ts us found e f = cc

same-refusal : (r s : Refusal) (found : Result (List Token) Refusal) → found ≡ Err r → found ≡ Err s → r ≡ s
same-refusal r s found e f = cc

not-both : (ts : List Token) (r : Refusal) (found : Result (List Token) Refusal) → found ≡ Ok ts → found ≡ Err r → ⊥
not-both ts r found e f = absurd cc

stage : (text : List ℕ) (ts : List Token) (r : Refusal) → tokens_of text ≡ Ok ts → IsRefused text r → Stage text ts r
stage text ts r e (AtTokens f) = absurd (not-both ts r (tokens_of text) e f)
stage text ts r e (AtSyntax us bad f fault is) = Wrong bad (subst (λ (ts : List Token). IsSyntaxFault ts bad) (same-tokens us ts (tokens_of text) f e) fault) is
stage text ts r e (AtDepth us bad f fault is) = Deep bad (subst (λ (ts : List Token). IsTooDeep ts bad) (same-tokens us ts (tokens_of text) f e) fault) is
stage text ts r e (AtEnd us f fault is) = Early (subst (λ (ts : List Token). EndsEarly ts) (same-tokens us ts (tokens_of text) f e) fault) is
stage text ts r e (AtRule k later f d s faults) = Broken k later (same-tokens (kernel_tokens k) ts (tokens_of text) f e) d s faults

first-same : (r s : Refusal) (xs ys : List Refusal) → r ∷ xs ≡ s ∷ ys → r ≡ s
first-same r s xs ys e = cc

stages-same : (text : List ℕ) (ts : List Token) (r s : Refusal) → Stage text ts r → Stage text ts s → r ≡ s
stages-same text ts r s (Wrong x a is) (Wrong y b other) = is ∙ ap syntax_at (one-syntax-fault ts x y a b) ∙ sym other
stages-same text ts r s (Wrong x a is) (Deep y b other) = absurd (syntax-or-deep ts x y a b)
stages-same text ts r s (Wrong x a is) (Early b other) = absurd (syntax-or-more ts x a b.begins)
stages-same text ts r s (Wrong x a is) (Broken k later e d low faults) = absurd (syntax-or-more ts x a (whole-begins ts k e d low))
stages-same text ts r s (Deep x a is) (Wrong y b other) = absurd (syntax-or-deep ts y x b a)
stages-same text ts r s (Deep x a is) (Deep y b other) = is ∙ ap deep_at (one-deep-token ts x y a b) ∙ sym other
stages-same text ts r s (Deep x a is) (Early b other) = absurd (deep-or-more ts x a b.begins)
stages-same text ts r s (Deep x a is) (Broken k later e d low faults) = absurd (deep-or-more ts x a (whole-begins ts k e d low))
stages-same text ts r s (Early a is) (Wrong y b other) = absurd (syntax-or-more ts y b a.begins)
stages-same text ts r s (Early a is) (Deep y b other) = absurd (deep-or-more ts y b a.begins)
stages-same text ts r s (Early a is) (Early b other) = is ∙ sym other
stages-same text ts r s (Early a is) (Broken k later e d low faults) = absurd (a.unfinished k d e)
stages-same text ts r s (Broken k later e d low faults) (Wrong y b other) = absurd (syntax-or-more ts y b (whole-begins ts k e d low))
stages-same text ts r s (Broken k later e d low faults) (Deep y b other) = absurd (deep-or-more ts y b (whole-begins ts k e d low))
stages-same text ts r s (Broken k later e d low faults) (Early b other) = absurd (b.unfinished k d e)
stages-same text ts r s (Broken k later e d low faults) (Broken l more f g flat others) =
    first-same r s later more (sym faults ∙ ap kernel_faults (one-tree k l (e ∙ sym f) d g low flat) ∙ others)

from-tokens : (text : List ℕ) (r s : Refusal) (found : Result (List Token) Refusal) → tokens_of text ≡ found → IsRefused text r → IsRefused text s → r ≡ s
from-tokens text r s (Ok ts) e one other = stages-same text ts r s (stage text ts r e one) (stage text ts s e other)
from-tokens text r s (Err t) e one other = sym (at-tokens r one) ∙ at-tokens s other
  where
    at-tokens : (r : Refusal) → IsRefused text r → t ≡ r
    at-tokens r (AtTokens f) = same-refusal t r (tokens_of text) e f
    at-tokens r (AtSyntax us bad f fault is) = absurd (not-both us t (tokens_of text) f e)
    at-tokens r (AtDepth us bad f fault is) = absurd (not-both us t (tokens_of text) f e)
    at-tokens r (AtEnd us f fault is) = absurd (not-both us t (tokens_of text) f e)
    at-tokens r (AtRule k later f d s faults) = absurd (not-both (kernel_tokens k) t (tokens_of text) f e)

pub one-refusal : (text : List ℕ) (r s : Refusal) → IsRefused text r → IsRefused text s → r ≡ s
one-refusal text r s one other = from-tokens text r s (tokens_of text) refl one other

pub one-kernel : (text : List ℕ) (p q : Program) → IsKernelOf text p → IsKernelOf text q → p ≡ q
one-kernel text p q a b =
    a.resolved ∙ ap program (one-tree a.tree b.tree (same-tokens (kernel_tokens a.tree) (kernel_tokens b.tree) (tokens_of text) a.tokens b.tokens) a.derives b.derives a.shallow b.shallow) ∙ sym b.resolved

filled : (r : Refusal) (xs ys : List Refusal) → xs ≡ [] → xs ≡ r ∷ ys → ⊥
filled r xs ys e f = absurd cc

pub kernel-or-refusal : (text : List ℕ) (p : Program) (r : Refusal) → IsKernelOf text p → IsRefused text r → ⊥
kernel-or-refusal text p r a (AtTokens f) = no_tokens text r f p a
kernel-or-refusal text p r a (AtSyntax us bad f fault is) = no_syntax_fault text us bad f fault p a
kernel-or-refusal text p r a (AtDepth us bad f fault is) = not_too_deep text us bad f fault p a
kernel-or-refusal text p r a (AtEnd us f fault is) = not_early text us f fault p a
kernel-or-refusal text p r a (AtRule k later f d s faults) =
    let same = one-tree k a.tree (same-tokens (kernel_tokens k) (kernel_tokens a.tree) (tokens_of text) f a.tokens) d a.derives s a.shallow in
    filled r (kernel_faults k) later (ap kernel_faults same ∙ a.lawful) faults
