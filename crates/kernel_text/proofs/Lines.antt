-- The tokens of a text have lines from 1 on, which fit 32 bits.
use Rattle.std.proofs.Common.{◌≡◌, ℕ, zero, suc, ◌+◌, ◌-◌, ◌^◌, ◌<◌, ◌≤◌, eqb, List, [], ◌∷◌, ◌++◌, length, Option, Some, None, Result, Ok, Err, refl, subst, arith}
use Rattle.std.specs.List.{AllByRecursion}
use Rattle.kernel_syntax.specs.Bounds.{IsLine}
use Rattle.kernel_text.specs.declared.token.Lexeme.{Lexeme}
use Rattle.kernel_text.specs.declared.token.Token.{Token}
use Rattle.kernel_text.specs.Tokens.{is_line_feed, is_white, lexeme_at, with_token, tokens_from, tokens_of}
use Rattle.kernel_text.proofs.Few.{read, read-is, chosen, tokens_of-is}

abbrev pub AreLined : List Token → Type 0
AreLined ts = AllByRecursion (λ (t : Token). IsLine t.line) ts

-- ---- the tokens of a text

-- one more token first
with_token-lined : (t : Token) (r : Result (List Token) ℕ) (ts : List Token) → IsLine t.line → ((us : List Token) → r ≡ Ok us → AreLined us) → with_token t r ≡ Ok ts → AreLined ts
with_token-lined t (Ok us) ts here later e = subst AreLined (read-is (t ∷ us) ts e) (here, later us refl)
with_token-lined t (Err line) ts here later e = absurd cc

-- what stands at the start
prefix-lined : (o : Option (Lexeme × ℕ)) (line : ℕ) (bs : List ℕ) (ts : List Token) → IsLine line → ((k : ℕ) (us : List Token) → tokens_from line k bs ≡ Ok us → AreLined us)
    → elim o [ None ↦ Err line | Some found ↦ with_token (record { lexeme = found.0; line = line }) (tokens_from line (found.1 - 1) bs) ] ≡ read ts → AreLined ts
prefix-lined None line bs ts here later e = absurd cc
prefix-lined (Some found) line bs ts here later e = with_token-lined (record { lexeme = found.0; line = line }) (tokens_from line (found.1 - 1) bs) ts here (later (found.1 - 1)) e

-- each byte ends one line at most
tokens_from-lined : (bs : List ℕ) (line passed : ℕ) (ts : List Token) → 1 ≤ line → line + length bs < 2 ^ 32 → tokens_from line passed bs ≡ Ok ts → AreLined ts
unfolding tokens_from
tokens_from-lined [] line passed ts some fits e = subst AreLined (read-is [] ts e) tt
tokens_from-lined (b ∷ bs) line (suc passed) ts some fits e = tokens_from-lined bs line passed ts some (omega arith) e
tokens_from-lined (b ∷ bs) line zero ts some fits e =
    let here : IsLine line = record { some = some; fits = omega arith } in
    let same : line + length bs < 2 ^ 32 = omega arith in
    let next : line + 1 + length bs < 2 ^ 32 = omega arith in
    chosen (is_line_feed b) (is_white b) (eqb b 35) _ _ _ _ (read ts)
    (λ f. tokens_from-lined bs (line + 1) 0 ts (omega arith) next f)
    (λ f. tokens_from-lined bs line 0 ts some same f)
    (λ f. tokens_from-lined bs line _ ts some same f)
    (λ f. prefix-lined (lexeme_at (b ∷ bs)) line bs ts here (λ k us g. tokens_from-lined bs line k us some same g) f)
    e

-- the tokens of a whole text
pub tokens_of-lined : (bs : List ℕ) (ts : List Token) → tokens_of bs ≡ Ok ts → AreLined ts
tokens_of-lined bs ts e =
    let is = tokens_of-is bs ts e in
    let few = is.0 in
    tokens_from-lined bs 1 0 ts (omega arith) (omega arith) is.1

-- ---- parts of a list

-- the lines of two parts of a list
pub lined-split : (xs ys : List Token) → AreLined (xs ++ ys) → AreLined xs × AreLined ys
lined-split [] ys all = (tt, all)
lined-split (x ∷ xs) ys all = let rest = lined-split xs ys all.1 in ((all.0, rest.0), rest.1)
