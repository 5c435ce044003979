-- Whole texts that are refused before any rule is asked: for a token, by the grammar, for their depth, at their end.
use Rattle.std.proofs.Common.{◌≡◌, refl, ap, ◌∙◌, subst, append_assoc, arith, rules, ℕ, zero, suc, ◌+◌, ◌≤◌, true, List, [], ◌∷◌, ◌++◌, length, take, replicate}
use Rattle.std.specs.Prelude.{pos, codes, nat_le, ℤ, map, All}
use Rattle.std.specs.List.{list_all}
use Rattle.std.specs.Str.{is_utf8, chars}
use Rattle.std.specs.Str.Lossy.{utf8_valid_len}
use lib.Utf8.{encode}
use Rattle.kernel_text.specs.declared.fault.KernelWhy.TheVariants as why
use Rattle.kernel_text.specs.declared.token.Word.TheVariants as word
use Rattle.kernel_text.specs.declared.token.Sign.TheVariants as sign
use Rattle.kernel_text.specs.declared.token.Lexeme.{Lexeme}
use Rattle.kernel_text.specs.declared.token.Lexeme.TheVariants.{Reserved, Number}
use Rattle.kernel_text.specs.declared.token.Token.{Token}
use Rattle.kernel_text.specs.Tokens.{lexeme_at, tokens_from, tokens_of}
use Rattle.kernel_text.specs.Grammar.{Tree, NumberAt, NameAt, TidAt, SpanAt, Element, Group, Minus, Binary, named, number, reserved, mark, sign_of, tree_tokens, Stmts, NoMore, Let, Assign, Store, Update, If, IfElse, Loop, Parallel, For, Barrier, Critical, CriticalOf, stmts_tokens, Declaration, ArrayOf, MutexOf, declarations_tokens, KernelTree, kernel_tokens, IsKernel}
use Rattle.kernel_text.specs.Faults.{tree_levels, stmts_levels, flat, block_levels, kernel_levels, BeginsShallow, IsShallow}
use Rattle.kernel_text.proofs.Levels.{shallow_is_low}
use Rattle.kernel_reader.specs.KernelOf.{IsRefused, AtTokens, AtSyntax, AtDepth, AtEnd}
use Rattle.kernel_reader.proofs.Texts.{ascii_tokens, ascii_fault, lines, low}

-- ---- for a token

-- no token begins with a dollar
pub stray_refused : IsRefused (lines (codes "main {" ∷ codes "$" ∷ [])) (record { line = 2; why = why.Token })
unfolding tokens_from lexeme_at
stray_refused = AtTokens (ascii_fault _ 2 refl refl refl)

-- no character of UTF-8 has the byte 255
pub not_utf8_refused : IsRefused (lines (codes "main {" ∷ (255 ∷ []) ∷ [])) (record { line = 2; why = why.NotUtf8 })
unfolding tokens_of is_utf8 chars encode utf8_valid_len
not_utf8_refused = AtTokens refl

-- ---- by the grammar

-- the first tokens of a kernel that is written out
begins : (ts : List Token) (k : KernelTree) (rest : List Token) → IsKernel k → kernel_tokens k ≡ ts ++ rest → list_all (λ n. nat_le n 32) (take (length ts) (kernel_levels k)) ≡ true → BeginsShallow ts
begins ts k rest derives e all = (k, rest, derives, e, low (take (length ts) (kernel_levels k)) all)

-- tokens without their lines
abbrev lexemes : List Token → List Lexeme
lexemes ts = map (λ (t : Token). t.lexeme) ts

-- where a kernel begins with `main`, it has no declarations
no_declarations : (ds : List Declaration) (l o line opened : ℕ) (body ts : List Token)
    → declarations_tokens ds ++ reserved l word.Main ∷ mark o sign.OpenBrace ∷ body ≡ reserved line word.Main ∷ mark opened sign.OpenBrace ∷ ts → (ds ≡ []) × (body ≡ ts)
no_declarations [] l o line opened body ts e = (refl, cc)
no_declarations (ArrayOf _ _ _ _ _ _ _ ∷ ds) l o line opened body ts e = let l = ap lexemes e in absurd cc
no_declarations (MutexOf _ _ _ ∷ ds) l o line opened body ts e = let l = ap lexemes e in absurd cc

-- the statements of a kernel, and the brace behind them
abbrev body_tokens : KernelTree → List Token
body_tokens k = stmts_tokens k.body ++ mark k.closed sign.CloseBrace ∷ []

-- `main`, a brace, and more in the first line
abbrev in_main : List Token → List Token
in_main ts = reserved 1 word.Main ∷ mark 1 sign.OpenBrace ∷ ts

-- a kernel without declarations, from the first line on
abbrev main_of : Stmts → ℕ → KernelTree
main_of body closed = record { declarations = []; line = 1; opened = 1; body = body; closed = closed }

main_levels : (k : KernelTree) (ls : List ℕ) → k.declarations ≡ [] → stmts_levels 1 k.body ++ 0 ∷ [] ≡ ls → kernel_levels k ≡ 0 ∷ 1 ∷ ls
main_levels k ls bare e = ap (λ (ds : List Declaration). flat (declarations_tokens ds) ++ 0 ∷ block_levels 0 (stmts_levels 1 k.body)) bare ∙ ap (λ (ls : List ℕ). 0 ∷ 1 ∷ ls) e

-- no number stands behind `let`
let_number : (body : Stmts) (closed : ℕ) (value : ℤ) (rest : List Lexeme) → lexemes (stmts_tokens body ++ mark closed sign.CloseBrace ∷ []) ≡ Reserved word.Let ∷ Number value ∷ rest → ⊥
let_number NoMore closed value rest e = absurd cc
let_number (Let _ _ _ _ _ _) closed value rest e = absurd cc
let_number (Assign _ _ _ _ _) closed value rest e = absurd cc
let_number (Store _ _ _ _ _ _ _ _) closed value rest e = absurd cc
let_number (Update _ _ _ _ _ _ _ _ _ _) closed value rest e = absurd cc
let_number (If _ _ _ _ _ _) closed value rest e = absurd cc
let_number (IfElse _ _ _ _ _ _ _ _ _ _) closed value rest e = absurd cc
let_number (Loop _ _ _ _ _ _ _ _ _ _ _) closed value rest e = absurd cc
let_number (Parallel _ _ _ _ _ _ _) closed value rest e = absurd cc
let_number (For _ _ _ _ _ _ _ _ _ _ _ _ _) closed value rest e = absurd cc
let_number (Barrier _ _) closed value rest e = absurd cc
let_number (Critical _ _ _ _ _) closed value rest e = absurd cc
let_number (CriticalOf _ _ _ _ _ _ _) closed value rest e = absurd cc

-- the number in the second line is the first token with which no kernel begins
pub number_refused : IsRefused (lines (codes "main {" ∷ codes "let 1 = 2" ∷ codes "}" ∷ [])) (record { line = 2; why = why.Syntax })
unfolding tokens_from lexeme_at
number_refused = AtSyntax _ (number 2 (pos 1)) (ascii_tokens _ _ refl refl refl)
    (record {
      good = in_main (reserved 2 word.Let ∷ []);
      rest = mark 2 sign.Assign ∷ number 2 (pos 2) ∷ mark 3 sign.CloseBrace ∷ [];
      parts = refl;
      begins = begins (in_main (reserved 2 word.Let ∷ [])) (main_of (Let 2 2 (codes "k") 2 (NumberAt 2 (pos 0)) NoMore) 3) _ (tt, tt) refl refl;
      stops = λ b. let_number b.0.body b.0.closed (pos 1) (lexemes b.1) (ap lexemes (no_declarations b.0.declarations b.0.line b.0.opened 1 1 (body_tokens b.0) _ b.3).1);
    })
    refl

-- no other reserved name stands behind `let`
let_atomic : (body : Stmts) (closed : ℕ) (rest : List Lexeme) → lexemes (stmts_tokens body ++ mark closed sign.CloseBrace ∷ []) ≡ Reserved word.Let ∷ Reserved word.Atomic ∷ rest → ⊥
let_atomic NoMore closed rest e = absurd cc
let_atomic (Let _ _ _ _ _ _) closed rest e = absurd cc
let_atomic (Assign _ _ _ _ _) closed rest e = absurd cc
let_atomic (Store _ _ _ _ _ _ _ _) closed rest e = absurd cc
let_atomic (_) closed rest e = absurd cc

-- the reserved name in the second line is no name of a variable
pub atomic_refused : IsRefused (lines (codes "main {" ∷ codes "let atomic = 2" ∷ codes "}" ∷ [])) (record { line = 2; why = why.Syntax })
unfolding tokens_from lexeme_at
atomic_refused = AtSyntax _ (reserved 2 word.Atomic) (ascii_tokens _ _ refl refl refl)
    (record {
      good = in_main (reserved 2 word.Let ∷ []);
      rest = mark 2 sign.Assign ∷ number 2 (pos 2) ∷ mark 3 sign.CloseBrace ∷ [];
      parts = refl;
      begins = begins (in_main (reserved 2 word.Let ∷ [])) (main_of (Let 2 2 (codes "k") 2 (NumberAt 2 (pos 0)) NoMore) 3) _ (tt, tt) refl refl;
      stops = λ b. let_atomic b.0.body b.0.closed (lexemes b.1) (ap lexemes (no_declarations b.0.declarations b.0.line b.0.opened 1 1 (body_tokens b.0) _ b.3).1);
    })
    refl

-- ---- at the end

no_brace : (xs : List Token) (x : Token) → xs ++ x ∷ [] ≡ [] → ⊥
no_brace [] x e = absurd cc
no_brace (y ∷ xs) x e = absurd cc

-- the brace isn't closed, as is seen at the end of the text
pub open_refused : IsRefused (lines (codes "main {" ∷ [])) (record { line = 2; why = why.Syntax })
unfolding tokens_from lexeme_at
open_refused = AtEnd (in_main []) (ascii_tokens _ _ refl refl refl)
    (record {
      begins = begins (in_main []) (main_of NoMore 2) _ tt refl refl;
      unfinished = λ k derives e. no_brace (stmts_tokens k.body) (mark k.closed sign.CloseBrace) (no_declarations k.declarations k.line k.opened 1 1 (body_tokens k) [] e).1;
    })
    refl

-- ---- for the depth of an expression

-- so many opening brackets
abbrev brackets : ℕ → List Token
brackets n = replicate n (mark 2 sign.OpenParen)

-- the levels from above m on, so many
abbrev rising : ℕ → ℕ → List ℕ
rising m zero = []
rising m (suc n) = (m + 1) ∷ rising (m + 1) n

-- brackets at the start of an expression open one level after another
pub brackets_rise : (n m : ℕ) (t : Tree) (more rest : List Token) (tail : List ℕ) → tree_tokens t ++ more ≡ brackets n ++ rest → (after : List ℕ) × (tree_levels m t ++ tail ≡ rising m n ++ after)
brackets_rise zero m t more rest tail e = (_, refl)
brackets_rise (suc n) m (NumberAt line value) more rest tail e = let l = ap lexemes e in absurd cc
brackets_rise (suc n) m (NameAt line name) more rest tail e = let l = ap lexemes e in absurd cc
brackets_rise (suc n) m (TidAt line) more rest tail e = let l = ap lexemes e in absurd cc
brackets_rise (suc n) m (SpanAt line) more rest tail e = let l = ap lexemes e in absurd cc
brackets_rise (suc n) m (Element line name opened index closed) more rest tail e = let l = ap lexemes e in absurd cc
brackets_rise (suc n) m (Minus line operand) more rest tail e = let l = ap lexemes e in absurd cc
brackets_rise (suc n) m (Group opened inside closed) more rest tail e =
    let inner = brackets_rise n (m + 1) inside (mark closed sign.CloseParen ∷ more) rest (0 ∷ tail) (rw (← append_assoc (tree_tokens inside) (mark closed sign.CloseParen ∷ []) more) cc) in
    (inner.0, ap (λ (ls : List ℕ). (m + 1) ∷ ls) (append_assoc (tree_levels (m + 1) inside) (0 ∷ []) tail ∙ inner.1))
brackets_rise (suc n) m (Binary left op line right) more rest tail e =
    let inner = brackets_rise (suc n) m left (mark line (sign_of op) ∷ tree_tokens right ++ more) rest (0 ∷ tree_levels m right ++ tail) (rw (← append_assoc (tree_tokens left) (mark line (sign_of op) ∷ tree_tokens right) more) e) in
    (inner.0, append_assoc (tree_levels m left) (0 ∷ tree_levels m right) tail ∙ inner.1)

-- in the second line, an assignment that begins with so many brackets
abbrev open_tokens : ℕ → List Token
open_tokens n = in_main (named 2 (codes "a") ∷ mark 2 sign.Assign ∷ brackets n)

abbrev bracketed : ℕ → Tree
bracketed zero = NumberAt 2 (pos 0)
bracketed (suc n) = Group 2 (bracketed n) 2

abbrev assigned : ℕ → KernelTree
assigned n = main_of (Assign 2 (codes "a") 2 (bracketed n) NoMore) 3

-- 32 brackets begin a kernel that isn't too deep
pub brackets_32 : BeginsShallow (open_tokens 32)
brackets_32 = begins (open_tokens 32) (assigned 32) _ (tt, tt) refl refl

-- the levels of an expression that is assigned first
assigned_levels : (n : ℕ) (body : Stmts) (closed : ℕ) (rest : List Token) → stmts_tokens body ++ mark closed sign.CloseBrace ∷ [] ≡ named 2 (codes "a") ∷ mark 2 sign.Assign ∷ brackets n ++ rest
    → (after : List ℕ) × (stmts_levels 1 body ++ 0 ∷ [] ≡ 0 ∷ 0 ∷ rising 0 n ++ after)
assigned_levels n NoMore closed rest e = let l = ap lexemes e in absurd cc
assigned_levels n (Let _ _ _ _ _ _) closed rest e = let l = ap lexemes e in absurd cc
assigned_levels n (Assign line name sign_line value more) closed rest e =
    let behind = stmts_tokens more ++ mark closed sign.CloseBrace ∷ [] in
    let r = brackets_rise n 0 value behind rest (stmts_levels 1 more ++ 0 ∷ []) (rw (← append_assoc (tree_tokens value) (stmts_tokens more) (mark closed sign.CloseBrace ∷ [])) cc) in
    (r.0, ap (λ (ls : List ℕ). 0 ∷ 0 ∷ ls) (append_assoc (tree_levels 0 value) (stmts_levels 1 more) (0 ∷ []) ∙ r.1))
assigned_levels n (Store _ _ _ _ _ _ _ _) closed rest e = let l = ap lexemes e in absurd cc
assigned_levels n (Update _ _ _ _ _ _ _ _ _ _) closed rest e = let l = ap lexemes e in absurd cc
assigned_levels n (If _ _ _ _ _ _) closed rest e = let l = ap lexemes e in absurd cc
assigned_levels n (IfElse _ _ _ _ _ _ _ _ _ _) closed rest e = let l = ap lexemes e in absurd cc
assigned_levels n (Loop _ _ _ _ _ _ _ _ _ _ _) closed rest e = let l = ap lexemes e in absurd cc
assigned_levels n (Parallel _ _ _ _ _ _ _) closed rest e = let l = ap lexemes e in absurd cc
assigned_levels n (For _ _ _ _ _ _ _ _ _ _ _ _ _) closed rest e = let l = ap lexemes e in absurd cc
assigned_levels n (Barrier _ _) closed rest e = let l = ap lexemes e in absurd cc
assigned_levels n (Critical _ _ _ _ _) closed rest e = let l = ap lexemes e in absurd cc
assigned_levels n (CriticalOf _ _ _ _ _ _ _) closed rest e = let l = ap lexemes e in absurd cc

-- and 33 begin none
pub brackets_33 : BeginsShallow (open_tokens 33) → ⊥
brackets_33 b =
    let k = b.0 in
    let is = no_declarations k.declarations k.line k.opened 1 1 (body_tokens k) (named 2 (codes "a") ∷ mark 2 sign.Assign ∷ brackets 33 ++ b.1) b.3 in
    let r = assigned_levels 33 k.body k.closed b.1 is.1 in
    let same = main_levels k (0 ∷ 0 ∷ rising 0 33 ++ r.0) is.0 r.1 in
    let over : 33 ≤ 32 = subst (λ (ls : List ℕ). All (λ n. n ≤ 32) (take (length (open_tokens 33)) ls)) same b.4 36 0 (omega arith) in
    absurd (omega (arith, over))

-- the 33rd bracket is the first token that opens a level above 32
pub brackets_refused : IsRefused (lines (codes "main {" ∷ (codes "a = " ++ replicate 33 40) ∷ [])) (record { line = 2; why = why.Deep })
unfolding tokens_from lexeme_at
brackets_refused = AtDepth (open_tokens 33) (mark 2 sign.OpenParen) (ascii_tokens _ _ refl refl refl)
    (record {
      good = open_tokens 32;
      rest = [];
      parts = refl;
      begins = brackets_32;
      goes_on = (assigned 33, _, (tt, tt), refl);
      deep = brackets_33;
    })
    refl

-- of two whole kernels that differ in one pair of brackets, one is too deep
pub brackets_shallow : IsShallow (assigned 32) × (IsShallow (assigned 33) → ⊥)
brackets_shallow = ((shallow_is_low (assigned 32)).0 (omega arith, tt), λ s. let low = (shallow_is_low (assigned 33)).1 s in absurd (omega (arith, low.0)))

-- ---- for the depth of blocks

-- so many critical sections, one inside another, each from a line of its own
abbrev sections : ℕ → ℕ → List Token
sections line zero = []
sections line (suc n) = reserved line word.Critical ∷ mark line sign.OpenBrace ∷ sections (line + 1) n

abbrev section_levels : ℕ → ℕ → List ℕ
section_levels m zero = []
section_levels m (suc n) = 0 ∷ (m + 1) ∷ section_levels (m + 1) n

in_block : {X : Type 0} (body : List X) (brace : X) (rest more : List X) → ((body ++ brace ∷ []) ++ rest) ++ more ≡ body ++ (brace ∷ (rest ++ more))
in_block body brace rest more = append_assoc (body ++ brace ∷ []) rest more ∙ append_assoc body (brace ∷ []) (rest ++ more)

-- sections at the start of statements open one level after another
pub sections_rise : (n line m closed : ℕ) (body : Stmts) (more rest : List Token) (tail : List ℕ) → stmts_tokens body ++ mark closed sign.CloseBrace ∷ more ≡ sections line n ++ rest
    → (after : List ℕ) × (stmts_levels m body ++ tail ≡ section_levels m n ++ after)
sections_rise zero line m closed body more rest tail e = (_, refl)
sections_rise (suc n) line m closed NoMore more rest tail e = let l = ap lexemes e in absurd cc
sections_rise (suc n) line m closed (Let _ _ _ _ _ _) more rest tail e = let l = ap lexemes e in absurd cc
sections_rise (suc n) line m closed (Assign _ _ _ _ _) more rest tail e = let l = ap lexemes e in absurd cc
sections_rise (suc n) line m closed (Store _ _ _ _ _ _ _ _) more rest tail e = let l = ap lexemes e in absurd cc
sections_rise (suc n) line m closed (Update _ _ _ _ _ _ _ _ _ _) more rest tail e = let l = ap lexemes e in absurd cc
sections_rise (suc n) line m closed (If _ _ _ _ _ _) more rest tail e = let l = ap lexemes e in absurd cc
sections_rise (suc n) line m closed (IfElse _ _ _ _ _ _ _ _ _ _) more rest tail e = let l = ap lexemes e in absurd cc
sections_rise (suc n) line m closed (Loop _ _ _ _ _ _ _ _ _ _ _) more rest tail e = let l = ap lexemes e in absurd cc
sections_rise (suc n) line m closed (Parallel _ _ _ _ _ _ _) more rest tail e = let l = ap lexemes e in absurd cc
sections_rise (suc n) line m closed (For _ _ _ _ _ _ _ _ _ _ _ _ _) more rest tail e = let l = ap lexemes e in absurd cc
sections_rise (suc n) line m closed (Barrier _ _) more rest tail e = let l = ap lexemes e in absurd cc
sections_rise (suc n) line m closed (Critical first opened body last next) more rest tail e =
    let behind = mark closed sign.CloseBrace ∷ more in
    let inner = sections_rise n (line + 1) (m + 1) last body (stmts_tokens next ++ behind) rest (0 ∷ stmts_levels m next ++ tail) (rw (← in_block (stmts_tokens body) (mark last sign.CloseBrace) (stmts_tokens next) behind) cc) in
    (inner.0, ap (λ (ls : List ℕ). 0 ∷ (m + 1) ∷ ls) (in_block (stmts_levels (m + 1) body) 0 (stmts_levels m next) tail ∙ inner.1))
sections_rise (suc n) line m closed (CriticalOf _ _ _ _ _ _ _) more rest tail e = let l = ap lexemes e in absurd cc

abbrev nested : ℕ → ℕ → Stmts
nested line zero = NoMore
nested line (suc n) = Critical line line (nested (line + 1) n) 34 NoMore

-- the block of `main` and 32 sections begin no kernel that isn't too deep
sections_32 : BeginsShallow (in_main (sections 2 32)) → ⊥
sections_32 b =
    let k = b.0 in
    let is = no_declarations k.declarations k.line k.opened 1 1 (body_tokens k) (sections 2 32 ++ b.1) b.3 in
    let r = sections_rise 32 2 1 k.closed k.body [] b.1 (0 ∷ []) is.1 in
    let same = main_levels k (section_levels 1 32 ++ r.0) is.0 r.1 in
    let over : 33 ≤ 32 = subst (λ (ls : List ℕ). All (λ n. n ≤ 32) (take (length (in_main (sections 2 32))) ls)) same b.4 65 0 (omega arith) in
    absurd (omega (arith, over))

-- the 33rd brace is the first token that opens a level above 32, though `critical` before it can't but be followed by one
pub blocks_refused : IsRefused (lines (codes "main {" ∷ replicate 32 (codes "critical {"))) (record { line = 33; why = why.Deep })
unfolding tokens_from lexeme_at
blocks_refused = AtDepth (in_main (sections 2 32)) (mark 33 sign.OpenBrace) (ascii_tokens _ _ refl refl refl)
    (record {
      good = in_main (sections 2 31 ++ reserved 33 word.Critical ∷ []);
      rest = [];
      parts = refl;
      begins = begins (in_main (sections 2 31 ++ reserved 33 word.Critical ∷ [])) (main_of (nested 2 32) 34) _ (search rules) refl refl;
      goes_on = (main_of (nested 2 32) 34, _, search rules, refl);
      deep = sections_32;
    })
    refl
