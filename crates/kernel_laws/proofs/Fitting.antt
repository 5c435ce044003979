-- The numbers of a resolved program fit 64 bits where those of its text do.
use Rattle.std.proofs.Common.{ℕ, ◌+◌, true, false, [], ◌∷◌, ◌++◌, ℤ, pos, negsuc, FitsSigned, w64}
use Rattle.std.proofs.lemmas.Int.{fits_signed_from_abs}
use Rattle.kernel_text.specs.declared.token.Word.TheVariants as word
use Rattle.kernel_text.specs.declared.token.Sign.TheVariants as sign
use Rattle.kernel_text.specs.Grammar.{Tree, NumberAt, NameAt, TidAt, SpanAt, Element, Group, Minus, Binary, tree_tokens, sign_of, update_sign, reserved, mark, block, schedule_tokens, nowait_tokens, Stmts, NoMore, Let, Assign, Store, Update, If, IfElse, Loop, Parallel, For, Barrier, Critical, CriticalOf, stmts_tokens}
use Rattle.kernel_reader.specs.Scope.{Names, Place, with_local, slots, past}
use Rattle.kernel_reader.specs.Resolve.{sites, stmts_sites, term, code}
use Rattle.kernel_model.specs.Lawful.{TermFits, CodeFits}
use Rattle.kernel_laws.proofs.Numbers.{IsSmall, AreSmall, small-split, block-small, range-small}

number-fits : (value : ℤ) → IsSmall value → FitsSigned w64 value
number-fits (pos n) small = fits_signed_from_abs w64 (pos n) small
number-fits (negsuc n) small = absurd small

term-fits : (n : Names) (site : ℕ) (t : Tree) → AreSmall (tree_tokens t) → TermFits (term n site t)
term-fits n site (NumberAt line value) small = number-fits value small.0
term-fits n site (NameAt line name) small = tt
term-fits n site (TidAt line) small = tt
term-fits n site (SpanAt line) small = tt
term-fits n site (Element line name opened index closed) small =
    term-fits n (site + 1) index (small-split (tree_tokens index) (mark closed sign.CloseBracket ∷ []) small.1.1).0
term-fits n site (Group opened inside closed) small =
    term-fits n site inside (small-split (tree_tokens inside) (mark closed sign.CloseParen ∷ []) small.1).0
term-fits n site (Minus line operand) small = term-fits n site operand small.1
term-fits n site (Binary left op line right) small =
    let sides = small-split (tree_tokens left) (mark line (sign_of op) ∷ tree_tokens right) small in
    (term-fits n site left sides.0, term-fits n (site + sites left) right sides.1.1)

pub code-fits : (p : Place) (site : ℕ) (s : Stmts) → AreSmall (stmts_tokens s) → CodeFits (code p site s)
code-fits p site NoMore small = tt
code-fits p site (Let line name_line name sign_line value rest) small =
    let parts = small-split (tree_tokens value) (stmts_tokens rest) small.1.1.1 in
    (term-fits p.names site value parts.0, code-fits (with_local p name true) (site + sites value) rest parts.1)
code-fits p site (Assign line name sign_line value rest) small =
    let parts = small-split (tree_tokens value) (stmts_tokens rest) small.1.1 in
    (term-fits p.names site value parts.0, code-fits p (site + sites value) rest parts.1)
code-fits p site (Store line name opened index closed sign_line value rest) small =
    let behind = mark closed sign.CloseBracket ∷ mark sign_line sign.Assign ∷ tree_tokens value ++ stmts_tokens rest in
    let first = small-split (tree_tokens index) behind small.1.1 in
    let parts = small-split (tree_tokens value) (stmts_tokens rest) first.1.1.1 in (
      term-fits p.names (site + 1) index first.0,
      term-fits p.names (site + 1 + sites index) value parts.0,
      code-fits p (site + 1 + sites index + sites value) rest parts.1,
    )
code-fits p site (Update line name_line name opened index closed minus sign_line value rest) small =
    let behind = mark closed sign.CloseBracket ∷ mark sign_line (update_sign minus) ∷ tree_tokens value ++ stmts_tokens rest in
    let first = small-split (tree_tokens index) behind small.1.1.1 in
    let parts = small-split (tree_tokens value) (stmts_tokens rest) first.1.1.1 in (
      term-fits p.names (site + 1) index first.0,
      term-fits p.names (site + 1 + sites index) value parts.0,
      code-fits p (site + 1 + sites index + sites value) rest parts.1,
    )
code-fits p site (If line test opened if_true closed rest) small =
    let first = small-split (tree_tokens test) (block opened (stmts_tokens if_true) closed ++ stmts_tokens rest) small.1 in
    let parts = block-small opened (stmts_tokens if_true) closed (stmts_tokens rest) first.1 in
    let inside = site + sites test in (
      term-fits p.names site test first.0,
      code-fits p inside if_true parts.0,
      tt,
      code-fits (past p (slots if_true)) (inside + stmts_sites if_true) rest parts.1,
    )
code-fits p site (IfElse line test opened if_true closed else_line else_opened if_false else_closed rest) small =
    let behind = reserved else_line word.Else ∷ block else_opened (stmts_tokens if_false) else_closed ++ stmts_tokens rest in
    let first = small-split (tree_tokens test) (block opened (stmts_tokens if_true) closed ++ behind) small.1 in
    let parts = block-small opened (stmts_tokens if_true) closed behind first.1 in
    let others = block-small else_opened (stmts_tokens if_false) else_closed (stmts_tokens rest) parts.1.1 in
    let inside = site + sites test in
    let other = inside + stmts_sites if_true in (
      term-fits p.names site test first.0,
      code-fits p inside if_true parts.0,
      code-fits (past p (slots if_true)) other if_false others.0,
      code-fits (past p (slots if_true + slots if_false)) (other + stmts_sites if_false) rest others.1,
    )
code-fits p site (Loop line name_line name in_line from dots to opened body closed rest) small =
    let head = range-small name_line name in_line from dots to (block opened (stmts_tokens body) closed ++ stmts_tokens rest) small.1 in
    let parts = block-small opened (stmts_tokens body) closed (stmts_tokens rest) head.2 in
    let inside = site + sites from + sites to in (
      term-fits p.names site from head.0,
      term-fits p.names (site + sites from) to head.1,
      code-fits (with_local p name false) inside body parts.0,
      code-fits (past p (1 + slots body)) (inside + stmts_sites body) rest parts.1,
    )
code-fits p site (Parallel line number_line span opened body closed rest) small =
    let parts = block-small opened (stmts_tokens body) closed (stmts_tokens rest) small.1.1 in
    (code-fits p site body parts.0, code-fits (past p (slots body)) (site + stmts_sites body) rest parts.1)
code-fits p site (For line name_line name in_line from dots to schedule nowait opened body closed rest) small =
    let tail = block opened (stmts_tokens body) closed ++ stmts_tokens rest in
    let head = range-small name_line name in_line from dots to (schedule_tokens schedule ++ (nowait_tokens nowait ++ tail)) small.1 in
    let waits = small-split (schedule_tokens schedule) (nowait_tokens nowait ++ tail) head.2 in
    let parts = block-small opened (stmts_tokens body) closed (stmts_tokens rest) (small-split (nowait_tokens nowait) tail waits.1).1 in
    let inside = site + sites from + sites to in (
      term-fits p.names site from head.0,
      term-fits p.names (site + sites from) to head.1,
      code-fits (with_local p name false) inside body parts.0,
      code-fits (past p (1 + slots body)) (inside + stmts_sites body) rest parts.1,
    )
code-fits p site (Barrier line rest) small = code-fits p site rest small.1
code-fits p site (Critical line opened body closed rest) small =
    let parts = block-small opened (stmts_tokens body) closed (stmts_tokens rest) small.1 in
    (code-fits p site body parts.0, code-fits (past p (slots body)) (site + stmts_sites body) rest parts.1)
code-fits p site (CriticalOf line name_line name opened body closed rest) small =
    let parts = block-small opened (stmts_tokens body) closed (stmts_tokens rest) small.1.1 in
    (code-fits p site body parts.0, code-fits (past p (slots body)) (site + stmts_sites body) rest parts.1)
