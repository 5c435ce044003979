-- The tokens of an expression are those of one tree by the grammar.
use Rattle.std.proofs.Common.{◌≡◌, ℕ, zero, suc, ◌+◌, ◌-◌, ◌≤◌, List, [], ◌∷◌, length, refl, sym, ap, ◌∙◌, arith}
use Rattle.std.proofs.lemmas.List.{length-append}
use Rattle.kernel_text.specs.declared.token.Word.TheVariants as word
use Rattle.kernel_text.specs.declared.token.Sign.TheVariants as sign
use Rattle.kernel_text.specs.declared.token.Lexeme.{Lexeme}
use Rattle.kernel_text.specs.declared.token.Token.{Token}
use Rattle.kernel_text.specs.Grammar.{Tree, NameAt, Element, Group, Minus, Binary, tree_tokens, right_rank, unary, expr, mark}
use Rattle.kernel_parser.specs.Parsing.{IsPart, IsExpression, Stops}
use Rattle.kernel_parser.proofs.Signs.{heads-is, begins-with, no-bracket-behind, stops-less}
use Rattle.kernel_parser.proofs.Parts.{Starts, IsNumber, IsName, IsTid, IsSpan, IsElement, IsGroup, IsMinus, starts, part-at, never-none, number-is, tid-is, span-is, minus-of, group-of, element-of, Grows, Whole, More, begun, grown, grows-by}

-- of so many tokens, at most
abbrev OnlyPart : ℕ → Type 0
OnlyPart k = (rank l m : ℕ) (ts : List Token) (t u : Tree) (after behind : List Token) → length ts ≤ k → IsPart rank l ts t after → IsPart rank m ts u behind → (t ≡ u) × (after ≡ behind)

module _ (k : ℕ) (only : OnlyPart k) where
  same-operand : (line : ℕ) (x : Lexeme) (xs : List Token) (l m : ℕ) (t u : Tree) (after behind : List Token) → length xs ≤ k → Starts x t → Starts x u → IsPart unary l (record { lexeme = x; line = line } ∷ xs) t after → IsPart unary m (record { lexeme = x; line = line } ∷ xs) u behind
      → (t ≡ u) × (after ≡ behind)
  same-operand line _ xs l m _ _ after behind low (IsNumber _ value) (IsNumber _ _) is other =
      let a = number-is l line value xs _ after is in let b = number-is m line value xs _ behind other in (sym a.0 ∙ b.0, sym a.1 ∙ b.1)
  same-operand line _ xs l m _ _ after behind low (IsTid _) (IsTid _) is other =
      let a = tid-is l line word.Tid xs _ after refl is in let b = tid-is m line word.Tid xs _ behind refl other in (sym a.0 ∙ b.0, sym a.1 ∙ b.1)
  same-operand line _ xs l m _ _ after behind low (IsSpan _) (IsSpan _) is other =
      let a = span-is l line word.Span xs _ after refl is in let b = span-is m line word.Span xs _ behind refl other in (sym a.0 ∙ b.0, sym a.1 ∙ b.1)
  same-operand line _ xs l m _ _ after behind low (IsName line1 name) (IsName line2 _) is other =
      let a = heads-is _ _ _ _ is.parts in
      let b = heads-is _ _ _ _ other.parts in
      let same : line1 ≡ line2 = sym a.0 ∙ b.0 in (ap (λ (n : ℕ). NameAt n name) same, sym a.2 ∙ b.2)
  same-operand line _ xs l m _ _ after behind low (IsName line1 name) (IsElement line2 _ opened index closed) is other =
      let a = heads-is _ _ _ _ is.parts in
      let b = heads-is _ _ _ _ other.parts in absurd (no-bracket-behind unary xs after (begins-with (mark opened sign.OpenBracket) _ xs b.2) a.2 is.ends)
  same-operand line _ xs l m _ _ after behind low (IsElement line1 name opened index closed) (IsName line2 _) is other =
      let a = heads-is _ _ _ _ is.parts in
      let b = heads-is _ _ _ _ other.parts in absurd (no-bracket-behind unary xs behind (begins-with (mark opened sign.OpenBracket) _ xs a.2) b.2 other.ends)
  same-operand line _ xs l m _ _ after behind low (IsElement line1 name opened index closed) (IsElement line2 _ opened2 index2 closed2) is other =
      let a = heads-is _ _ _ _ is.parts in
      let e = element-of l line name xs _ after (begins-with (mark opened sign.OpenBracket) _ xs a.2) is in
      let f = element-of m line name xs _ behind (begins-with (mark opened sign.OpenBracket) _ xs a.2) other in
      let b = heads-is _ _ _ _ (sym e.parts ∙ f.parts) in
      let shorter : length xs ≡ length e.inner + 1 = omega (arith, ap (λ (us : List Token). length us) e.parts) in
      let p = only expr (l - 1) (m - 1) e.inner e.index f.index _ _ (omega (arith, shorter, low)) e.is (part-at expr (m - 1) f.inner e.inner f.index _ b.2 f.is) in
      let c = heads-is _ _ _ _ p.1 in
      (sym e.whole ∙ element-is line name e.opened f.opened e.index f.index e.closed f.closed b.0 p.0 c.0 ∙ f.whole, c.2)
    where
      element-is : (line : ℕ) (name : List ℕ) (o o2 : ℕ) (i i2 : Tree) (c c2 : ℕ) → o ≡ o2 → i ≡ i2 → c ≡ c2 → Element line name o i c ≡ Element line name o2 i2 c2
      element-is line name o o2 i i2 c c2 a b d = rw (a, b, d) refl
  same-operand line _ xs l m _ _ after behind low (IsGroup opened inside closed) (IsGroup opened2 inside2 closed2) is other =
      let g = group-of l line xs _ after is in
      let h = group-of m line xs _ behind other in
      let p = only expr (l - 1) (m - 1) xs g.inside h.inside _ _ low g.is h.is in
      let c = heads-is _ _ _ _ p.1 in
      (sym g.whole ∙ ap (λ (x : Tree). Group line x g.closed) p.0 ∙ ap (Group line h.inside) c.0 ∙ h.whole, c.2)
  same-operand line _ xs l m _ _ after behind low (IsMinus line1 operand) (IsMinus line2 operand2) is other =
      let a = minus-of l line xs _ after is in
      let b = minus-of m line xs _ behind other in
      let p = only unary (l - 1) (m - 1) xs a.operand b.operand after behind low a.is b.is in (sym a.whole ∙ ap (Minus line) p.0 ∙ b.whole, p.1)

  same-grown : (rank l m : ℕ) (t u : Tree) (after behind : List Token) (a c : Tree) (us vs : List Token) → length us ≤ suc k → Grows rank l t after a us → Grows rank m u behind c vs → c ≡ a → vs ≡ us → Stops rank after → Stops rank behind
      → (t ≡ u) × (after ≡ behind)
  same-grown rank l m t u after behind _ c _ vs low Whole other c_is vs_is stops ends =
      let g = grown rank m u behind c vs other (λ o line ts e. stops-less rank o line ts after stops (sym vs_is ∙ e)) in (sym c_is ∙ g.0, sym vs_is ∙ g.1)
  same-grown rank l m t u after behind _ c _ vs low (More a o line right ts us le is grows) other c_is vs_is stops ends =
      let g = grows-by rank m u behind c vs o line ts other vs_is le ends (right_rank o) refl in
      let shorter : length ts ≤ k = omega (arith, low) in
      let p = only (right_rank o) l m ts right g.right us g.left shorter is g.is in
      let fewer : length us ≤ suc k = omega (arith, shorter, ap (λ (ws : List Token). length ws) is.parts, length-append (tree_tokens right) us) in
      same-grown rank l m t u after behind (Binary a o line right) (Binary c o line g.right) us g.left fewer grows g.grows (ap (λ (x : Tree). Binary x o line g.right) c_is ∙ ap (λ (x : Tree). Binary a o line x) (sym p.0)) (sym p.1) stops ends

  one-operand : (l m : ℕ) (ts : List Token) (t u : Tree) (after behind : List Token) → length ts ≤ suc k → IsPart unary l ts t after → IsPart unary m ts u behind → (t ≡ u) × (after ≡ behind)
  one-operand l m [] t u after behind low is other = absurd (never-none t l [] after refl is)
  one-operand l m (x ∷ xs) t u after behind low is other =
      same-operand x.line x.lexeme xs l m t u after behind (omega (arith, low)) (starts t x xs after is.parts is.derives) (starts u x xs behind other.parts other.derives) is other

only-part : (k : ℕ) → OnlyPart k
only-part zero rank l m [] t u after behind low is other = let b = begun rank l [] t after is in absurd (never-none b.operand l [] b.left refl b.is)
only-part zero rank l m (x ∷ xs) t u after behind low is other = absurd (omega (arith, low))
only-part (suc k) rank l m ts t u after behind low is other =
    let b = begun rank l ts t after is in
    let c = begun rank m ts u behind other in
    let o = one-operand k (only-part k) l m ts b.operand c.operand b.left c.left low b.is c.is in
    let fewer : length b.left ≤ suc k = omega (arith, low, ap (λ (ws : List Token). length ws) b.is.parts, length-append (tree_tokens b.operand) b.left) in
    same-grown k (only-part k) rank l m t u after behind b.operand c.operand b.left c.left fewer b.grows c.grows (sym o.0) (sym o.1) is.ends other.ends

-- one expression stands at the beginning of tokens
pub one-expression : (ts us : List Token) (t u : Tree) (after behind : List Token) → ts ≡ us → IsExpression ts t after → IsExpression us u behind → (t ≡ u) × (after ≡ behind)
one-expression ts us t u after behind e first second = only-part (length ts) expr 32 32 ts t u after behind (omega arith) first (part-at expr 32 us ts u behind e second)
