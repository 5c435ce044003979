-- How many sites and slots there are: in an expression at most one in three of its tokens, in statements at most one a token.
use Rattle.std.proofs.Common.{◌≡◌, ℕ, ◌+◌, ◌*◌, ◌<◌, ◌≤◌, List, [], ◌∷◌, ◌++◌, length, arith, length-append}
use Rattle.kernel_text.specs.declared.token.Word.TheVariants as word
use Rattle.kernel_text.specs.declared.token.Sign.TheVariants as sign
use Rattle.kernel_text.specs.declared.token.Token.{Token}
use Rattle.kernel_text.specs.Grammar.{Tree, NumberAt, NameAt, TidAt, SpanAt, Element, Group, Minus, Binary, tree_tokens, reserved, mark, sign_of, update_sign, block, range, schedule_tokens, nowait_tokens, Stmts, NoMore, Let, Assign, Store, Update, If, IfElse, Loop, Parallel, For, Barrier, Critical, CriticalOf, stmts_tokens, declarations_tokens, KernelTree, kernel_tokens}
use Rattle.kernel_reader.specs.Scope.{slots}
use Rattle.kernel_reader.specs.Resolve.{sites, stmts_sites}

-- each site of an expression has a name and two brackets
tree_sites-bound : (t : Tree) → 3 * sites t + 1 ≤ length (tree_tokens t)
tree_sites-bound (NumberAt line value) = omega arith
tree_sites-bound (NameAt line name) = omega arith
tree_sites-bound (TidAt line) = omega arith
tree_sites-bound (SpanAt line) = omega arith
tree_sites-bound (Element line name opened index closed) = omega (arith, tree_sites-bound index, length-append (tree_tokens index) (mark closed sign.CloseBracket ∷ []))
tree_sites-bound (Group opened inside closed) = omega (arith, tree_sites-bound inside, length-append (tree_tokens inside) (mark closed sign.CloseParen ∷ []))
tree_sites-bound (Minus line operand) = omega (arith, tree_sites-bound operand)
tree_sites-bound (Binary left op line right) =
    omega (arith, tree_sites-bound left, tree_sites-bound right, length-append (tree_tokens left) (mark line (sign_of op) ∷ tree_tokens right))

-- a block's tokens are its statements' and its braces
block-length : (opened : ℕ) (body : List Token) (closed : ℕ) (after : List Token) → length (block opened body closed ++ after) ≡ 2 + length body + length after
block-length opened body closed after =
    omega (arith, length-append (block opened body closed) after, length-append body (mark closed sign.CloseBrace ∷ []))

-- a range has at most as many sites as its bounds have tokens, and three tokens more
range-bound : (name_line : ℕ) (name : List ℕ) (in_line : ℕ) (from : Tree) (dots : ℕ) (to : Tree) (after : List Token)
    → 3 + sites from + sites to + length after ≤ length (range name_line name in_line from dots to ++ after)
range-bound name_line name in_line from dots to after =
    omega (
      arith,
      tree_sites-bound from,
      tree_sites-bound to,
      length-append (range name_line name in_line from dots to) after,
      length-append (tree_tokens from) (mark dots sign.Dots ∷ tree_tokens to),
    )

-- statements have at most one site or slot a token
stmts-bound : (s : Stmts) → stmts_sites s + slots s ≤ length (stmts_tokens s)
stmts-bound NoMore = omega arith
stmts-bound (Let line name_line name sign_line value rest) =
    omega (arith, stmts-bound rest, tree_sites-bound value, length-append (tree_tokens value) (stmts_tokens rest))
stmts-bound (Assign line name sign_line value rest) =
    omega (arith, stmts-bound rest, tree_sites-bound value, length-append (tree_tokens value) (stmts_tokens rest))
stmts-bound (Store line name opened index closed sign_line value rest) =
    let behind = mark closed sign.CloseBracket ∷ mark sign_line sign.Assign ∷ tree_tokens value ++ stmts_tokens rest in
    omega (arith, stmts-bound rest, tree_sites-bound index, tree_sites-bound value, length-append (tree_tokens index) behind, length-append (tree_tokens value) (stmts_tokens rest))
stmts-bound (Update line name_line name opened index closed minus sign_line value rest) =
    let behind = mark closed sign.CloseBracket ∷ mark sign_line (update_sign minus) ∷ tree_tokens value ++ stmts_tokens rest in
    omega (arith, stmts-bound rest, tree_sites-bound index, tree_sites-bound value, length-append (tree_tokens index) behind, length-append (tree_tokens value) (stmts_tokens rest))
stmts-bound (If line test opened if_true closed rest) =
    let behind = block opened (stmts_tokens if_true) closed ++ stmts_tokens rest in
    omega (arith, stmts-bound if_true, stmts-bound rest, tree_sites-bound test, length-append (tree_tokens test) behind, block-length opened (stmts_tokens if_true) closed (stmts_tokens rest))
stmts-bound (IfElse line test opened if_true closed else_line else_opened if_false else_closed rest) =
    let other = reserved else_line word.Else ∷ block else_opened (stmts_tokens if_false) else_closed ++ stmts_tokens rest in
    let behind = block opened (stmts_tokens if_true) closed ++ other in
    omega (
      arith,
      stmts-bound if_true,
      stmts-bound if_false,
      stmts-bound rest,
      tree_sites-bound test,
      length-append (tree_tokens test) behind,
      block-length opened (stmts_tokens if_true) closed other,
      block-length else_opened (stmts_tokens if_false) else_closed (stmts_tokens rest),
    )
stmts-bound (Loop line name_line name in_line from dots to opened body closed rest) =
    let behind = block opened (stmts_tokens body) closed ++ stmts_tokens rest in
    omega (
      arith,
      stmts-bound body,
      stmts-bound rest,
      range-bound name_line name in_line from dots to behind,
      block-length opened (stmts_tokens body) closed (stmts_tokens rest),
    )
stmts-bound (Parallel line number_line span opened body closed rest) =
    omega (arith, stmts-bound body, stmts-bound rest, block-length opened (stmts_tokens body) closed (stmts_tokens rest))
stmts-bound (For line name_line name in_line from dots to schedule nowait opened body closed rest) =
    let inside = block opened (stmts_tokens body) closed ++ stmts_tokens rest in
    let behind = schedule_tokens schedule ++ (nowait_tokens nowait ++ inside) in
    omega (
      arith,
      stmts-bound body,
      stmts-bound rest,
      range-bound name_line name in_line from dots to behind,
      length-append (schedule_tokens schedule) (nowait_tokens nowait ++ inside),
      length-append (nowait_tokens nowait) inside,
      block-length opened (stmts_tokens body) closed (stmts_tokens rest),
    )
stmts-bound (Barrier line rest) = omega (arith, stmts-bound rest)
stmts-bound (Critical line opened body closed rest) =
    omega (arith, stmts-bound body, stmts-bound rest, block-length opened (stmts_tokens body) closed (stmts_tokens rest))
stmts-bound (CriticalOf line name_line name opened body closed rest) =
    omega (arith, stmts-bound body, stmts-bound rest, block-length opened (stmts_tokens body) closed (stmts_tokens rest))

-- a kernel of so few tokens has fewer sites and slots
pub kernel-room : (k : KernelTree) → length (kernel_tokens k) ≤ 65536 → stmts_sites k.body + slots k.body < 65536
kernel-room k few =
    omega (arith, few, stmts-bound k.body, length-append (declarations_tokens k.declarations) (reserved k.line word.Main ∷ block k.opened (stmts_tokens k.body) k.closed), length-append (stmts_tokens k.body) (mark k.closed sign.CloseBrace ∷ []))
