-- The tokens of a text, as a loop finds them.
use Rattle.std.proofs.Common.{◌≡◌, ℕ, zero, suc, ◌+◌, ◌-◌, ◌<◌, ◌≤◌, ◌≢◌, Bool, true, false, cond, eqb, ltb, List, [], ◌∷◌, ◌++◌, length, drop, Option, Some, None, Result, Ok, Err, refl, sym, ap, ◌∙◌, append_assoc, arith, eq-eqb}
use Rattle.std.specs.List.{prefix_len}
use Rattle.std.proofs.lemmas.List.{append-nil}
use Rattle.kernel_text.specs.declared.token.Lexeme.{Lexeme}
use Rattle.kernel_text.specs.declared.token.Token.{Token}
use Rattle.kernel_text.specs.declared.fault.KernelWhy.TheVariants.{NotUtf8}
use Rattle.kernel_text.specs.Tokens.{is_line_feed, not_line_feed, is_white, lexeme_at, with_token, tokens_from, or_token, line_at, tokens_of}
use Rattle.std.specs.Prelude.{IsUtf8}
use Rattle.std.specs.Str.{is_utf8}
use Rattle.std.specs.Str.Lossy.{utf8_valid_len}
use Rattle.std.proofs.lemmas.Bool.{le-ltb, ne_eqb}
use Rattle.std.proofs.lemmas.Str.{IsUtf8-from_is_utf8, is_utf8-from_IsUtf8}

-- the tokens found before, and those found from here on
abbrev pub with_tokens : List Token → Result (List Token) ℕ → Result (List Token) ℕ
with_tokens prefix (Ok ts) = Ok (prefix ++ ts)
with_tokens prefix (Err line) = Err line

pub with_tokens-push : (prefix : List Token) (t : Token) (r : Result (List Token) ℕ) → with_tokens prefix (with_token t r) ≡ with_tokens (prefix ++ t ∷ []) r
with_tokens-push prefix t (Ok ts) = ap (λ (ts : List Token). Ok ts) (simp append_assoc)
with_tokens-push prefix t (Err line) = refl

-- bytes that are passed over
pub tokens_from-drop : (line k : ℕ) (bs : List ℕ) → tokens_from line k bs ≡ tokens_from line 0 (drop k bs)
unfolding tokens_from
tokens_from-drop line zero [] = refl
tokens_from-drop line zero (b ∷ bs) = refl
tokens_from-drop line (suc k) [] = refl
tokens_from-drop line (suc k) (b ∷ bs) = tokens_from-drop line k bs

two : {A : Type 0} (a b : Bool) (x y z : A) → a ≡ false → b ≡ true → cond a x (cond b y z) ≡ y
two a b x y z h w = rw (h, w) refl

three : {A : Type 0} (a b c : Bool) (x y z u : A) → a ≡ false → b ≡ false → c ≡ true → cond a x (cond b y (cond c z u)) ≡ z
three a b c x y z u h w n = rw (h, w, n) refl

four : {A : Type 0} (a b c : Bool) (x y z u : A) → a ≡ false → b ≡ false → c ≡ false → cond a x (cond b y (cond c z u)) ≡ u
four a b c x y z u h w n = rw (h, w, n) refl

pub at_line_feed : (line b : ℕ) (bs : List ℕ) → is_line_feed b ≡ true → tokens_from line 0 (b ∷ bs) ≡ tokens_from (line + 1) 0 bs
unfolding tokens_from
at_line_feed line b bs h = rw h refl

pub at_white : (line b : ℕ) (bs : List ℕ) → is_line_feed b ≡ false → is_white b ≡ true → tokens_from line 0 (b ∷ bs) ≡ tokens_from line 0 bs
unfolding tokens_from
at_white line b bs h w = two (is_line_feed b) (is_white b) _ _ _ h w

pub at_comment : (line b : ℕ) (bs : List ℕ) → is_line_feed b ≡ false → is_white b ≡ false → eqb b 35 ≡ true → tokens_from line 0 (b ∷ bs) ≡ tokens_from line 0 (drop (prefix_len not_line_feed bs) bs)
unfolding tokens_from
at_comment line b bs h w n = three (is_line_feed b) (is_white b) (eqb b 35) _ _ _ _ h w n ∙ tokens_from-drop line (prefix_len not_line_feed bs) bs

-- what stands at the start, where it is neither white space nor a comment
at_prefix : ℕ → List ℕ → Option (Lexeme × ℕ) → Result (List Token) ℕ
at_prefix line bs found = elim found [
  | None ↦ Err line
  | Some found ↦ with_token (record { lexeme = found.0; line = line }) (tokens_from line (found.1 - 1) bs)
]

at_other : (line b : ℕ) (bs : List ℕ) → is_line_feed b ≡ false → is_white b ≡ false → eqb b 35 ≡ false → tokens_from line 0 (b ∷ bs) ≡ at_prefix line bs (lexeme_at (b ∷ bs))
unfolding tokens_from at_prefix
at_other line b bs h w n = four (is_line_feed b) (is_white b) (eqb b 35) _ _ _ _ h w n

pub at_fault : (line b : ℕ) (bs : List ℕ) → is_line_feed b ≡ false → is_white b ≡ false → eqb b 35 ≡ false → lexeme_at (b ∷ bs) ≡ None → tokens_from line 0 (b ∷ bs) ≡ Err line
unfolding at_prefix
at_fault line b bs h w n e = at_other line b bs h w n ∙ ap (at_prefix line bs) e

passed_one_less : (line n : ℕ) (b : ℕ) (bs : List ℕ) → 0 < n → tokens_from line (n - 1) bs ≡ tokens_from line 0 (drop n (b ∷ bs))
passed_one_less line zero b bs pos = absurd (omega arith)
passed_one_less line (suc k) b bs pos = let same : suc k - 1 ≡ k = omega arith in rw same (tokens_from-drop line k bs)

pub at_token : (line b : ℕ) (bs : List ℕ) (lexeme : Lexeme) (len : ℕ) → is_line_feed b ≡ false → is_white b ≡ false → eqb b 35 ≡ false → lexeme_at (b ∷ bs) ≡ Some (lexeme, len) → 0 < len
    → tokens_from line 0 (b ∷ bs) ≡ with_token (record { lexeme = lexeme; line = line }) (tokens_from line 0 (drop len (b ∷ bs)))
unfolding at_prefix
at_token line b bs lexeme len h w n e pos = at_other line b bs h w n ∙ ap (at_prefix line bs) e ∙ ap (with_token (record { lexeme = lexeme; line = line })) (passed_one_less line len b bs pos)

pub at_end : (line : ℕ) (prefix : List Token) → with_tokens prefix (tokens_from line 0 []) ≡ Ok prefix
unfolding tokens_from
at_end line prefix = ap (λ (ts : List Token). Ok ts) (append-nil prefix)

-- a text that is neither too large nor other than UTF-8
pub tokens_of-text : (bs : List ℕ) → length bs ≤ 65536 → IsUtf8 bs → tokens_of bs ≡ or_token (tokens_from 1 0 bs)
unfolding tokens_of
tokens_of-text bs short text = two (ltb 65536 (length bs)) (is_utf8 bs) _ _ _ (le-ltb _ _ short) (is_utf8-from_IsUtf8 bs text)

not_utf8 : (bs : List ℕ) (b : Bool) → is_utf8 bs ≡ b → ¬ IsUtf8 bs → b ≡ false
not_utf8 bs true e other = absurd (other (IsUtf8-from_is_utf8 bs e))
not_utf8 bs false e other = refl

neither : {A : Type 0} (a b : Bool) (x y z : A) → a ≡ false → b ≡ false → cond a x (cond b y z) ≡ z
neither a b x y z h w = rw (h, w) refl

pub tokens_of-other : (bs : List ℕ) → length bs ≤ 65536 → ¬ IsUtf8 bs → tokens_of bs ≡ Err (record { line = line_at bs (utf8_valid_len bs); why = NotUtf8 })
unfolding tokens_of
tokens_of-other bs short other = neither (ltb 65536 (length bs)) (is_utf8 bs) _ _ _ (le-ltb _ _ short) (not_utf8 bs (is_utf8 bs) refl other)

-- the steps of the loop: what was found and what is still found are the tokens of the whole text
pub on_line_feed : (prefix : List Token) (line b : ℕ) (bs rest : List ℕ) (total : Result (List Token) ℕ) → rest ≡ b ∷ bs → b ≡ 10
    → with_tokens prefix (tokens_from line 0 rest) ≡ total → with_tokens prefix (tokens_from (line + 1) 0 bs) ≡ total
on_line_feed prefix line b bs rest total e feed so_far =
    ap (with_tokens prefix) (sym (ap (tokens_from line 0) e ∙ at_line_feed line b bs (eq-eqb b 10 feed))) ∙ so_far

pub on_white : (prefix : List Token) (line b : ℕ) (bs rest : List ℕ) (total : Result (List Token) ℕ) → rest ≡ b ∷ bs → b ≢ 10 → is_white b ≡ true
    → with_tokens prefix (tokens_from line 0 rest) ≡ total → with_tokens prefix (tokens_from line 0 bs) ≡ total
on_white prefix line b bs rest total e feed white so_far =
    ap (with_tokens prefix) (sym (ap (tokens_from line 0) e ∙ at_white line b bs (ne_eqb b 10 feed) white)) ∙ so_far

pub on_comment : (prefix : List Token) (line b : ℕ) (bs rest after : List ℕ) (total : Result (List Token) ℕ) → rest ≡ b ∷ bs → b ≢ 10 → is_white b ≡ false → b ≡ 35
    → after ≡ drop (prefix_len not_line_feed bs) bs
    → with_tokens prefix (tokens_from line 0 rest) ≡ total → with_tokens prefix (tokens_from line 0 after) ≡ total
on_comment prefix line b bs rest after total e feed white hash skipped so_far =
    ap (with_tokens prefix) (ap (tokens_from line 0) skipped ∙ sym (ap (tokens_from line 0) e ∙ at_comment line b bs (ne_eqb b 10 feed) white (eq-eqb b 35 hash))) ∙ so_far

pub on_fault : (prefix : List Token) (line b : ℕ) (bs rest : List ℕ) (total : Result (List Token) ℕ) → rest ≡ b ∷ bs → b ≢ 10 → is_white b ≡ false → b ≢ 35
    → lexeme_at rest ≡ None → with_tokens prefix (tokens_from line 0 rest) ≡ total → total ≡ Err line
on_fault prefix line b bs rest total e feed white hash none so_far =
    sym so_far ∙ ap (with_tokens prefix) (ap (tokens_from line 0) e ∙ at_fault line b bs (ne_eqb b 10 feed) white (ne_eqb b 35 hash) (sym (ap lexeme_at e) ∙ none))

pub on_token : (prefix : List Token) (line b : ℕ) (bs rest after : List ℕ) (lexeme : Lexeme) (len : ℕ) (total : Result (List Token) ℕ) → rest ≡ b ∷ bs → b ≢ 10 → is_white b ≡ false → b ≢ 35
    → lexeme_at rest ≡ Some (lexeme, len) → 0 < len → after ≡ drop len rest
    → with_tokens prefix (tokens_from line 0 rest) ≡ total → with_tokens (prefix ++ record { lexeme = lexeme; line = line } ∷ []) (tokens_from line 0 after) ≡ total
on_token prefix line b bs rest after lexeme len total e feed white hash found positive skipped so_far =
    let t : Token = record { lexeme = lexeme; line = line } in
    let step : tokens_from line 0 rest ≡ with_token t (tokens_from line 0 after) =
    ap (tokens_from line 0) e ∙ at_token line b bs lexeme len (ne_eqb b 10 feed) white (ne_eqb b 35 hash) (sym (ap lexeme_at e) ∙ found) positive
    ∙ ap (λ (r : List ℕ). with_token t (tokens_from line 0 r)) (sym (skipped ∙ ap (drop len) e)) in
    sym (with_tokens-push prefix t (tokens_from line 0 after)) ∙ ap (with_tokens prefix) (sym step) ∙ so_far

pub on_end : (prefix : List Token) (line : ℕ) (rest : List ℕ) (total : Result (List Token) ℕ) → rest ≡ [] → with_tokens prefix (tokens_from line 0 rest) ≡ total → total ≡ Ok prefix
on_end prefix line rest total e so_far = sym so_far ∙ ap (λ (r : List ℕ). with_tokens prefix (tokens_from line 0 r)) e ∙ at_end line prefix
