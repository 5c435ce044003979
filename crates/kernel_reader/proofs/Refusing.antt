-- A text that its tokens or the grammar refuse has no kernel.
use Rattle.std.proofs.Common.{◌≡◌, ℕ, ◌≤◌, zero, suc, List, [], ◌∷◌, ◌++◌, length, take, Result, Ok, Err, sym, ap, ◌∙◌, append_assoc}
use Rattle.std.specs.List.{AllByRecursion}
use Rattle.std.proofs.lemmas.List.Elements.{All-from_recursion, recursion_from_All}
use Rattle.kernel_syntax.specs.Program.{Program}
use Rattle.kernel_text.specs.declared.token.Token.{Token}
use Rattle.kernel_text.specs.declared.fault.KernelWhy.TheVariants as why
use Rattle.kernel_text.specs.declared.judging.Judgement.TheVariants as verdict
use Rattle.kernel_text.specs.Tokens.{Refusal, tokens_of, line_at}
use Rattle.kernel_text.specs.Grammar.{kernel_tokens}
use Rattle.kernel_text.specs.Faults.{kernel_levels, IsSyntaxFault, IsTooDeep, EndsEarly, IsVerdict}
use Rattle.kernel_reader.specs.KernelOf.{IsKernelOf, IsRefused, AtSyntax, AtDepth, AtEnd}

abbrev told : List Token → Result (List Token) Refusal
told ts = Ok ts

told-is : (xs ys : List Token) → told xs ≡ told ys → xs ≡ ys
told-is xs ys e = cc

pub tree-tokens : (text : List ℕ) (ts : List Token) (p : Program) (k : IsKernelOf text p) → tokens_of text ≡ Ok ts → kernel_tokens k.tree ≡ ts
tree-tokens text ts p k e = told-is (kernel_tokens k.tree) ts (sym k.tokens ∙ e)

abbrev pub AreLow : List ℕ → Type 0
AreLow ns = AllByRecursion (λ n. n ≤ 32) ns

pub take-low : (n : ℕ) (ls : List ℕ) → AreLow ls → AreLow (take n ls)
take-low zero ls low = tt
take-low (suc n) [] low = tt
take-low (suc n) (l ∷ ls) low = (low.0, take-low n ls low.1)

parts-as : (tokens ts good rest : List Token) (bad : Token) → tokens ≡ ts → ts ≡ good ++ bad ∷ rest → tokens ≡ (good ++ bad ∷ []) ++ rest
parts-as tokens ts good rest bad e parts = e ∙ parts ∙ sym (append_assoc good (bad ∷ []) rest)

-- a kernel's tokens have none of these faults
pub no_syntax_fault : (text : List ℕ) (ts : List Token) (bad : Token) → tokens_of text ≡ Ok ts → IsSyntaxFault ts bad → (p : Program) → IsKernelOf text p → ⊥
no_syntax_fault text ts bad e f p k = f.stops (k.tree, f.rest, k.derives, parts-as (kernel_tokens k.tree) ts f.good f.rest bad (tree-tokens text ts p k e) f.parts)

pub not_too_deep : (text : List ℕ) (ts : List Token) (bad : Token) → tokens_of text ≡ Ok ts → IsTooDeep ts bad → (p : Program) → IsKernelOf text p → ⊥
not_too_deep text ts bad e f p k =
    f.deep (
      k.tree,
      f.rest,
      k.derives,
      parts-as (kernel_tokens k.tree) ts f.good f.rest bad (tree-tokens text ts p k e) f.parts,
      All-from_recursion (λ n. n ≤ 32) _ (take-low (length (f.good ++ bad ∷ [])) (kernel_levels k.tree) (recursion_from_All (λ n. n ≤ 32) _ k.shallow)),
    )

pub not_early : (text : List ℕ) (ts : List Token) → tokens_of text ≡ Ok ts → EndsEarly ts → (p : Program) → IsKernelOf text p → ⊥
not_early text ts e f p k = f.unfinished k.tree k.derives (tree-tokens text ts p k e)

pub no_tokens : (text : List ℕ) (r : Refusal) → tokens_of text ≡ Err r → (p : Program) → IsKernelOf text p → ⊥
no_tokens text r e p k = let both = sym e ∙ k.tokens in absurd cc

-- what a verdict on the tokens says of the text
pub refused_syntax : (text : List ℕ) (ts : List Token) (line : ℕ) → tokens_of text ≡ Ok ts → IsVerdict ts (verdict.Syntax line) → IsRefused text (record { line = line; why = why.Syntax })
refused_syntax text ts line e v = AtSyntax ts v.0 e v.1 (ap (λ (n : ℕ). record { line = n; why = why.Syntax }) v.2)

pub refused_deep : (text : List ℕ) (ts : List Token) (line : ℕ) → tokens_of text ≡ Ok ts → IsVerdict ts (verdict.Deep line) → IsRefused text (record { line = line; why = why.Deep })
refused_deep text ts line e v = AtDepth ts v.0 e v.1 (ap (λ (n : ℕ). record { line = n; why = why.Deep }) v.2)

pub refused_early : (text : List ℕ) (ts : List Token) (line : ℕ) → line ≡ line_at text (length text) → tokens_of text ≡ Ok ts → IsVerdict ts verdict.Early → IsRefused text (record { line = line; why = why.Syntax })
refused_early text ts line is e v = AtEnd ts e v (ap (λ (n : ℕ). record { line = n; why = why.Syntax }) is)
