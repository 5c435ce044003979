-- The numbers of a text fit 63 bits.
use Rattle.std.proofs.Common.{◌≡◌, refl, subst, ℕ, zero, suc, ◌+◌, ◌-◌, ◌^◌, ◌<◌, Bool, true, false, cond, eqb, ltb, List, [], ◌∷◌, ◌++◌, length, Option, Some, None, Result, Ok, Err, ℤ, pos, negsuc, arith}
use Rattle.std.specs.Prelude.{option_map, slice_index, take_while}
use Rattle.std.specs.Char.{is_ascii_digit}
use Rattle.std.specs.List.{AllByRecursion}
use Rattle.std.proofs.lemmas.Bool.{ltb-false}
use Rattle.kernel_text.specs.declared.token.Word.{Word}
use Rattle.kernel_text.specs.declared.token.Word.TheVariants as word
use Rattle.kernel_text.specs.declared.token.Sign.{Sign}
use Rattle.kernel_text.specs.declared.token.Sign.TheVariants as sign
use Rattle.kernel_text.specs.declared.token.Lexeme.{Lexeme}
use Rattle.kernel_text.specs.declared.token.Lexeme.TheVariants.{Named, Number, Reserved, Mark}
use Rattle.kernel_text.specs.declared.token.Token.{Token}
use Rattle.kernel_text.specs.Tokens.{Found, is_line_feed, is_white, begins_name, is_in_name, word_of, two_byte_sign, one_byte_sign, value_of, name_lexeme, number_lexeme, sign_lexeme, lexeme_at, with_token, tokens_from, tokens_of}
use Rattle.kernel_text.specs.Grammar.{Tree, NumberAt, NameAt, TidAt, SpanAt, Element, Group, Minus, Binary, tree_tokens, update_sign, reserved, mark, block, range, schedule_tokens, nowait_tokens, Stmts, NoMore, Let, Assign, Store, Update, If, IfElse, Loop, Parallel, For, Barrier, Critical, CriticalOf, stmts_tokens}
use Rattle.kernel_text.proofs.Few.{read, read-is, chosen, tokens_of-is}

abbrev pub IsSmall : ℤ → Type 0
IsSmall (pos n) = n < 2 ^ 63
IsSmall (negsuc n) = ⊥

abbrev IsSmallLexeme : Lexeme → Type 0
IsSmallLexeme (Number value) = IsSmall value
IsSmallLexeme _ = Unit {0}

abbrev pub AreSmall : List Token → Type 0
AreSmall ts = AllByRecursion (λ (t : Token). IsSmallLexeme t.lexeme) ts

-- ---- the lexeme at the start of bytes

abbrev IsSmallFound : Option Found → Type 0
IsSmallFound None = Unit {0}
IsSmallFound (Some found) = IsSmallLexeme found.0

small-either : (b : Bool) (x y : Option Found) → IsSmallFound x → IsSmallFound y → IsSmallFound (cond b x y)
small-either true x y one other = one
small-either false x y one other = other

small-word : (o : Option Word) (t : List ℕ) → IsSmallLexeme (elim o [ None ↦ Named t | Some w ↦ Reserved w ])
small-word None t = tt
small-word (Some w) t = tt

small-name : (t : List ℕ) → IsSmallFound (name_lexeme t)
small-name t = small-either (ltb 32 (length t)) None _ tt (small-word (word_of t) t)

small-number : (digits : List ℕ) → IsSmallFound (number_lexeme digits)
small-number digits = by (ltb 9223372036854775807 (value_of digits)) refl
  where
    by : (b : Bool) → ltb 9223372036854775807 (value_of digits) ≡ b
        → IsSmallFound (option_map (λ (n : ℤ). (Number n, length digits)) (cond b None (Some (pos (value_of digits)))))
    by true large = tt
    by false large = let le = ltb-false 9223372036854775807 (value_of digits) large in omega (arith, le)

small-sign : (b c : ℕ) → IsSmallFound (sign_lexeme b c)
small-sign b c = by (two_byte_sign b c) (one_byte_sign b)
  where
    by : (two one : Option Sign) → IsSmallFound (elim two [ Some s ↦ Some (Mark s, 2) | None ↦ option_map (λ (s : Sign). (Mark s, 1)) one ])
    by None None = tt
    by None (Some s) = tt
    by (Some s) one = tt

small-lexeme : (bs : List ℕ) → IsSmallFound (lexeme_at bs)
unfolding lexeme_at
small-lexeme bs =
    small-either (begins_name (slice_index bs 0)) (name_lexeme (take_while is_in_name bs)) _ (small-name (take_while is_in_name bs))
    (small-either (is_ascii_digit (slice_index bs 0)) (number_lexeme (take_while is_ascii_digit bs)) _ (small-number (take_while is_ascii_digit bs))
    (small-sign (slice_index bs 0) (slice_index bs 1)))

-- ---- the tokens of a text

with_token-small : (t : Token) (r : Result (List Token) ℕ) (ts : List Token) → IsSmallLexeme t.lexeme → ((us : List Token) → r ≡ Ok us → AreSmall us) → with_token t r ≡ Ok ts → AreSmall ts
with_token-small t (Ok us) ts here later e = subst AreSmall (read-is (t ∷ us) ts e) (here, later us refl)
with_token-small t (Err line) ts here later e = absurd cc

prefix-small : (o : Option Found) (line : ℕ) (bs : List ℕ) (ts : List Token) → IsSmallFound o → ((k : ℕ) (us : List Token) → tokens_from line k bs ≡ Ok us → AreSmall us)
    → elim o [ None ↦ Err line | Some found ↦ with_token (record { lexeme = found.0; line = line }) (tokens_from line (found.1 - 1) bs) ] ≡ read ts → AreSmall ts
prefix-small None line bs ts here later e = absurd cc
prefix-small (Some found) line bs ts here later e = with_token-small (record { lexeme = found.0; line = line }) (tokens_from line (found.1 - 1) bs) ts here (later (found.1 - 1)) e

tokens_from-small : (bs : List ℕ) (line passed : ℕ) (ts : List Token) → tokens_from line passed bs ≡ Ok ts → AreSmall ts
unfolding tokens_from
tokens_from-small [] line passed ts e = subst AreSmall (read-is [] ts e) tt
tokens_from-small (b ∷ bs) line (suc passed) ts e = tokens_from-small bs line passed ts e
tokens_from-small (b ∷ bs) line zero ts e =
    chosen (is_line_feed b) (is_white b) (eqb b 35) _ _ _ _ (read ts)
    (λ f. tokens_from-small bs (line + 1) 0 ts f)
    (λ f. tokens_from-small bs line 0 ts f)
    (λ f. tokens_from-small bs line _ ts f)
    (λ f. prefix-small (lexeme_at (b ∷ bs)) line bs ts (small-lexeme (b ∷ bs)) (λ k us g. tokens_from-small bs line k us g) f)
    e

-- the tokens of a whole text
pub tokens_of-small : (bs : List ℕ) (ts : List Token) → tokens_of bs ≡ Ok ts → AreSmall ts
tokens_of-small bs ts e = tokens_from-small bs 1 0 ts (tokens_of-is bs ts e).1

-- ---- parts of the tokens

pub small-split : (xs ys : List Token) → AreSmall (xs ++ ys) → AreSmall xs × AreSmall ys
small-split [] ys all = (tt, all)
small-split (x ∷ xs) ys all = let rest = small-split xs ys all.1 in ((all.0, rest.0), rest.1)

pub block-small : (opened : ℕ) (body : List Token) (closed : ℕ) (after : List Token) → AreSmall (block opened body closed ++ after) → AreSmall body × AreSmall after
block-small opened body closed after small =
    let whole = small-split (block opened body closed) after small in
    ((small-split body (mark closed sign.CloseBrace ∷ []) whole.0.1).0, whole.1)

pub range-small : (name_line : ℕ) (name : List ℕ) (in_line : ℕ) (from : Tree) (dots : ℕ) (to : Tree) (after : List Token)
    → AreSmall (range name_line name in_line from dots to ++ after) → AreSmall (tree_tokens from) × AreSmall (tree_tokens to) × AreSmall after
range-small name_line name in_line from dots to after small =
    let whole = small-split (range name_line name in_line from dots to) after small in
    let inside = small-split (tree_tokens from) (mark dots sign.Dots ∷ tree_tokens to) whole.0.1.1 in
    (inside.0, inside.1.1, whole.1)

-- ---- the bounds of loops

-- a number in brackets or behind signs is small
abbrev pub IsSmallTree : Tree → Type 0
IsSmallTree (NumberAt line value) = IsSmall value
IsSmallTree (Group opened inside closed) = IsSmallTree inside
IsSmallTree (Minus line operand) = IsSmallTree operand
IsSmallTree _ = Unit {0}

small-tree : (t : Tree) → AreSmall (tree_tokens t) → IsSmallTree t
small-tree (NumberAt line value) small = small.0
small-tree (NameAt line name) small = tt
small-tree (TidAt line) small = tt
small-tree (SpanAt line) small = tt
small-tree (Element line name opened index closed) small = tt
small-tree (Group opened inside closed) small = small-tree inside (small-split (tree_tokens inside) (mark closed sign.CloseParen ∷ []) small.1).0
small-tree (Minus line operand) small = small-tree operand small.1
small-tree (Binary left op line right) small = tt

-- the bounds of each loop in the statements are
abbrev pub HaveSmallBounds : Stmts → Type 0
HaveSmallBounds NoMore = Unit {0}
HaveSmallBounds (Let line name_line name sign_line value rest) = HaveSmallBounds rest
HaveSmallBounds (Assign line name sign_line value rest) = HaveSmallBounds rest
HaveSmallBounds (Store line name opened index closed sign_line value rest) = HaveSmallBounds rest
HaveSmallBounds (Update line name_line name opened index closed minus sign_line value rest) = HaveSmallBounds rest
HaveSmallBounds (If line test opened if_true closed rest) = HaveSmallBounds if_true × HaveSmallBounds rest
HaveSmallBounds (IfElse line test opened if_true closed else_line else_opened if_false else_closed rest) =
    HaveSmallBounds if_true × HaveSmallBounds if_false × HaveSmallBounds rest
HaveSmallBounds (Loop line name_line name in_line from dots to opened body closed rest) =
    IsSmallTree from × IsSmallTree to × HaveSmallBounds body × HaveSmallBounds rest
HaveSmallBounds (Parallel line number_line span opened body closed rest) = HaveSmallBounds body × HaveSmallBounds rest
HaveSmallBounds (For line name_line name in_line from dots to schedule nowait opened body closed rest) = HaveSmallBounds body × HaveSmallBounds rest
HaveSmallBounds (Barrier line rest) = HaveSmallBounds rest
HaveSmallBounds (Critical line opened body closed rest) = HaveSmallBounds body × HaveSmallBounds rest
HaveSmallBounds (CriticalOf line name_line name opened body closed rest) = HaveSmallBounds body × HaveSmallBounds rest

pub small-bounds : (s : Stmts) → AreSmall (stmts_tokens s) → HaveSmallBounds s
small-bounds NoMore small = tt
small-bounds (Let line name_line name sign_line value rest) small = small-bounds rest (small-split (tree_tokens value) (stmts_tokens rest) small.1.1.1).1
small-bounds (Assign line name sign_line value rest) small = small-bounds rest (small-split (tree_tokens value) (stmts_tokens rest) small.1.1).1
small-bounds (Store line name opened index closed sign_line value rest) small =
    let behind = mark closed sign.CloseBracket ∷ mark sign_line sign.Assign ∷ tree_tokens value ++ stmts_tokens rest in
    let first = small-split (tree_tokens index) behind small.1.1 in
    small-bounds rest (small-split (tree_tokens value) (stmts_tokens rest) first.1.1.1).1
small-bounds (Update line name_line name opened index closed minus sign_line value rest) small =
    let behind = mark closed sign.CloseBracket ∷ mark sign_line (update_sign minus) ∷ tree_tokens value ++ stmts_tokens rest in
    let first = small-split (tree_tokens index) behind small.1.1.1 in
    small-bounds rest (small-split (tree_tokens value) (stmts_tokens rest) first.1.1.1).1
small-bounds (If line test opened if_true closed rest) small =
    let first = small-split (tree_tokens test) (block opened (stmts_tokens if_true) closed ++ stmts_tokens rest) small.1 in
    let parts = block-small opened (stmts_tokens if_true) closed (stmts_tokens rest) first.1 in
    (small-bounds if_true parts.0, small-bounds rest parts.1)
small-bounds (IfElse line test opened if_true closed else_line else_opened if_false else_closed rest) small =
    let behind = reserved else_line word.Else ∷ block else_opened (stmts_tokens if_false) else_closed ++ stmts_tokens rest in
    let first = small-split (tree_tokens test) (block opened (stmts_tokens if_true) closed ++ behind) small.1 in
    let parts = block-small opened (stmts_tokens if_true) closed behind first.1 in
    let others = block-small else_opened (stmts_tokens if_false) else_closed (stmts_tokens rest) parts.1.1 in
    (small-bounds if_true parts.0, small-bounds if_false others.0, small-bounds rest others.1)
small-bounds (Loop line name_line name in_line from dots to opened body closed rest) small =
    let head = range-small name_line name in_line from dots to (block opened (stmts_tokens body) closed ++ stmts_tokens rest) small.1 in
    let parts = block-small opened (stmts_tokens body) closed (stmts_tokens rest) head.2 in
    (small-tree from head.0, small-tree to head.1, small-bounds body parts.0, small-bounds rest parts.1)
small-bounds (Parallel line number_line span opened body closed rest) small =
    let parts = block-small opened (stmts_tokens body) closed (stmts_tokens rest) small.1.1 in
    (small-bounds body parts.0, small-bounds rest parts.1)
small-bounds (For line name_line name in_line from dots to schedule nowait opened body closed rest) small =
    let tail = block opened (stmts_tokens body) closed ++ stmts_tokens rest in
    let head = range-small name_line name in_line from dots to (schedule_tokens schedule ++ (nowait_tokens nowait ++ tail)) small.1 in
    let waits = small-split (schedule_tokens schedule) (nowait_tokens nowait ++ tail) head.2 in
    let parts = block-small opened (stmts_tokens body) closed (stmts_tokens rest) (small-split (nowait_tokens nowait) tail waits.1).1 in
    (small-bounds body parts.0, small-bounds rest parts.1)
small-bounds (Barrier line rest) small = small-bounds rest small.1
small-bounds (Critical line opened body closed rest) small =
    let parts = block-small opened (stmts_tokens body) closed (stmts_tokens rest) small.1 in
    (small-bounds body parts.0, small-bounds rest parts.1)
small-bounds (CriticalOf line name_line name opened body closed rest) small =
    let parts = block-small opened (stmts_tokens body) closed (stmts_tokens rest) small.1.1 in
    (small-bounds body parts.0, small-bounds rest parts.1)
