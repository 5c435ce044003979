-- A text has no more tokens than bytes.
use Rattle.std.proofs.Common.{◌≡◌, ℕ, zero, suc, ◌+◌, ◌-◌, ◌≤◌, Bool, true, false, cond, eqb, ltb, List, [], ◌∷◌, length, Option, Some, None, Result, Ok, Err, refl, ap, arith}
use Rattle.std.specs.Str.{is_utf8}
use Rattle.std.proofs.lemmas.Bool.{ltb-false}
use Rattle.kernel_text.specs.declared.token.Lexeme.{Lexeme}
use Rattle.kernel_text.specs.declared.token.Token.{Token}
use Rattle.kernel_text.specs.Tokens.{Refusal, is_line_feed, is_white, lexeme_at, with_token, tokens_from, or_token, tokens_of}

abbrev pub read : List Token → Result (List Token) ℕ
read ts = Ok ts

pub read-is : (xs ys : List Token) → read xs ≡ read ys → xs ≡ ys
read-is xs ys e = cc

-- one more token first
with_token-few : (t : Token) (r : Result (List Token) ℕ) (n : ℕ) (ts : List Token) → ((us : List Token) → r ≡ Ok us → length us ≤ n) → with_token t r ≡ Ok ts → length ts ≤ suc n
with_token-few t (Ok us) n ts few e = let same = ap (λ (l : List Token). length l) (read-is (t ∷ us) ts e) in omega (arith, few us refl, same)
with_token-few t (Err line) n ts few e = absurd cc

-- what stands at the start
prefix-few : (o : Option (Lexeme × ℕ)) (line n : ℕ) (bs : List ℕ) (ts : List Token) → ((k : ℕ) (us : List Token) → tokens_from line k bs ≡ Ok us → length us ≤ n)
    → elim o [ None ↦ Err line | Some found ↦ with_token (record { lexeme = found.0; line = line }) (tokens_from line (found.1 - 1) bs) ] ≡ read ts → length ts ≤ suc n
prefix-few None line n bs ts few e = absurd cc
prefix-few (Some found) line n bs ts few e = with_token-few (record { lexeme = found.0; line = line }) (tokens_from line (found.1 - 1) bs) n ts (few (found.1 - 1)) e

-- what holds of each of four results holds of the one that is chosen
pub chosen : {G : Type 0} (a b c : Bool) (x y z u r : Result (List Token) ℕ) → (x ≡ r → G) → (y ≡ r → G) → (z ≡ r → G) → (u ≡ r → G) → cond a x (cond b y (cond c z u)) ≡ r → G
chosen true b c x y z u r f g h i e = f e
chosen false true c x y z u r f g h i e = g e
chosen false false true x y z u r f g h i e = h e
chosen false false false x y z u r f g h i e = i e

more : (m n : ℕ) → m ≤ n → m ≤ suc n
more m n le = omega arith

-- each token takes a byte at least
tokens_from-few : (bs : List ℕ) (line passed : ℕ) (ts : List Token) → tokens_from line passed bs ≡ Ok ts → length ts ≤ length bs
unfolding tokens_from
tokens_from-few [] line passed ts e = let same = ap (λ (l : List Token). length l) (read-is [] ts e) in omega (arith, same)
tokens_from-few (b ∷ bs) line (suc passed) ts e = more (length ts) (length bs) (tokens_from-few bs line passed ts e)
tokens_from-few (b ∷ bs) line zero ts e =
    chosen (is_line_feed b) (is_white b) (eqb b 35) _ _ _ _ (read ts)
    (λ f. more (length ts) (length bs) (tokens_from-few bs (line + 1) 0 ts f))
    (λ f. more (length ts) (length bs) (tokens_from-few bs line 0 ts f))
    (λ f. more (length ts) (length bs) (tokens_from-few bs line _ ts f))
    (λ f. prefix-few (lexeme_at (b ∷ bs)) line (length bs) bs ts (λ k us g. tokens_from-few bs line k us g) f)
    e

abbrev told : List Token → Result (List Token) Refusal
told ts = Ok ts

told-is : (xs ys : List Token) → told xs ≡ told ys → xs ≡ ys
told-is xs ys e = cc

-- tokens that are told were read
or_token-is : (r : Result (List Token) ℕ) (ts : List Token) → or_token r ≡ Ok ts → r ≡ Ok ts
or_token-is (Ok us) ts e = ap read (told-is us ts e)
or_token-is (Err line) ts e = absurd cc

-- a text that is neither too large nor no UTF-8
text-is : (large text : Bool) (bs : List ℕ) (x y : Refusal) (ts : List Token) → ltb 65536 (length bs) ≡ large → cond large (Err x) (cond text (or_token (tokens_from 1 0 bs)) (Err y)) ≡ Ok ts
    → (length bs ≤ 65536) × (tokens_from 1 0 bs ≡ Ok ts)
text-is true text bs x y ts l e = absurd cc
text-is false false bs x y ts l e = absurd cc
text-is false true bs x y ts l e = (ltb-false 65536 (length bs) l, or_token-is (tokens_from 1 0 bs) ts e)

-- a text with tokens has at most 65,536 bytes
pub tokens_of-is : (bs : List ℕ) (ts : List Token) → tokens_of bs ≡ Ok ts → (length bs ≤ 65536) × (tokens_from 1 0 bs ≡ Ok ts)
unfolding tokens_of
tokens_of-is bs ts e = text-is (ltb 65536 (length bs)) (is_utf8 bs) bs _ _ ts refl e

-- so it has at most 65,536 tokens
pub tokens_of-few : (bs : List ℕ) (ts : List Token) → tokens_of bs ≡ Ok ts → length ts ≤ 65536
tokens_of-few bs ts e = let is = tokens_of-is bs ts e in omega (arith, is.0, tokens_from-few bs 1 0 ts is.1)
