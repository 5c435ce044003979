-- The signs of operations, and what stops an expression.
use Rattle.std.proofs.Common.{◌≡◌, ℕ, ◌<◌, ◌≤◌, Bool, true, false, List, [], ◌∷◌, Some, None, refl, sym, ap, subst, ◌∙◌, arith}
use Rattle.std.specs.Prelude.{IsTrue, ◌↔◌}
use Rattle.kernel_text.proofs.UnfoldingOperators.{same-op}
use Rattle.kernel_syntax.specs.declared.syntax.Op.{Op}
use Rattle.kernel_syntax.specs.declared.syntax.Op.TheVariants as op
use Rattle.kernel_text.specs.declared.token.Sign.TheVariants as sign
use Rattle.kernel_text.specs.declared.token.Lexeme.{Lexeme}
use Rattle.kernel_text.specs.declared.token.Lexeme.TheVariants.{Mark}
use Rattle.kernel_text.specs.declared.token.Token.{Token}
use Rattle.kernel_text.specs.Grammar.{op_of, sign_of, rank_of, update_sign, mark}
use Rattle.kernel_text.proofs.Operators.{op_of-sign}
use Rattle.kernel_parser.specs.Parsing.{Stops, StartsWith}

line-is : (t u : Token) → t ≡ u → t.line ≡ u.line
line-is t u e = ap (λ (t : Token). t.line) e

lexeme-is : (t u : Token) → t ≡ u → t.lexeme ≡ u.lexeme
lexeme-is t u e = ap (λ (t : Token). t.lexeme) e

pub heads-is : (t u : Token) (ts us : List Token) → t ∷ ts ≡ u ∷ us → (t.line ≡ u.line) × (t.lexeme ≡ u.lexeme) × (ts ≡ us)
heads-is t u ts us e = let one : t ≡ u = cc in (line-is t u one, lexeme-is t u one, cc)

-- the first of the tokens is this one
pub begins-with : (t : Token) (ts us : List Token) → us ≡ t ∷ ts → StartsWith t.lexeme us
begins-with t ts us e = subst (λ (vs : List Token). StartsWith t.lexeme vs) (sym e) refl

pub not-true : IsTrue false → ⊥
not-true same = absurd cc

-- which of its signs an update has
pub minus_is : (r minus : Bool) (line : ℕ) (ts us : List Token) → IsTrue r ↔ StartsWith (Mark sign.MinusAssign) us → us ≡ mark line (update_sign minus) ∷ ts → r ≡ minus
minus_is true true line ts us is e = refl
minus_is false false line ts us is e = refl
minus_is false true line ts us is e = absurd (not-true (is.1 (begins-with (mark line sign.MinusAssign) ts us e)))
minus_is true false line ts us is e = let plus : Mark sign.PlusAssign ≡ Mark sign.MinusAssign = subst (λ (vs : List Token). StartsWith (Mark sign.MinusAssign) vs) e (is.0 refl) in absurd cc

pub no-operation : (x : Lexeme) → op_of x ≡ None → (o : Op) → x ≡ Mark (sign_of o) → ⊥
no-operation x none o e = let some : Some o ≡ None = sym (op_of-sign o) ∙ sym (ap op_of e) ∙ none in absurd cc

abbrev is_bracket : Lexeme → Bool
is_bracket (Mark sign.OpenBracket) = true
is_bracket _ = false

no-bracket : (x : Lexeme) → is_bracket x ≡ false → x ≡ Mark sign.OpenBracket → ⊥
no-bracket x other e = let same : false ≡ true = sym other ∙ ap is_bracket e in absurd cc

bracket-free : (o : Op) → is_bracket (Mark (sign_of o)) ≡ false
bracket-free op.Add = refl
bracket-free op.Sub = refl
bracket-free op.Mul = refl
bracket-free op.Div = refl
bracket-free op.Rem = refl
bracket-free op.Eq = refl
bracket-free op.Ne = refl
bracket-free op.Lt = refl
bracket-free op.Le = refl
bracket-free op.Gt = refl
bracket-free op.Ge = refl

-- no bracket and no operator comes first
abbrev EndsThere : List Token → Type 0
EndsThere [] = Unit {0}
EndsThere (t ∷ ts) = (op_of t.lexeme ≡ None) × (is_bracket t.lexeme ≡ false)

-- such tokens stop each part
pub stops-at : (rank : ℕ) (ts : List Token) → EndsThere ts → Stops rank ts
unfolding Stops
stops-at rank [] ends = tt
stops-at rank (t ∷ ts) ends = (no-bracket t.lexeme ends.1, λ o e. absurd (no-operation t.lexeme ends.0 o e))

-- an operator stops what binds more tightly
pub stops-operator : (rank : ℕ) (o : Op) (line : ℕ) (ts : List Token) → rank < rank_of o → Stops rank (mark line (sign_of o) ∷ ts)
unfolding Stops
stops-operator rank o line ts less = (no-bracket (Mark (sign_of o)) (bracket-free o), λ p e. rw (← same-op o p e) less)

pub stops-below : (p q : ℕ) (ts : List Token) → q ≤ p → Stops p ts → Stops q ts
unfolding Stops
stops-below p q [] le stops = tt
stops-below p q (t ∷ ts) le stops = (stops.0, λ o e. let more = stops.1 o e in omega (arith, le, more))

-- and an operator that stops a part binds less tightly
pub stops-less : (rank : ℕ) (o : Op) (line : ℕ) (ts us : List Token) → Stops rank us → us ≡ mark line (sign_of o) ∷ ts → rank < rank_of o
unfolding Stops
stops-less rank o line ts us stops e = let s : Stops rank (mark line (sign_of o) ∷ ts) = subst (λ (vs : List Token). Stops rank vs) e stops in s.1 o refl

pub no-bracket-behind : (rank : ℕ) (ts us : List Token) → StartsWith (Mark sign.OpenBracket) ts → ts ≡ us → Stops rank us → ⊥
unfolding Stops
no-bracket-behind rank [] us some e stops = some
no-bracket-behind rank (t ∷ ts) us some e stops = let s : Stops rank (t ∷ ts) = subst (λ (vs : List Token). Stops rank vs) (sym e) stops in s.0 some
