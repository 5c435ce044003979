-- The grammar of a kernel: its parse trees, in which each token has its line, and the tokens of each.
use Rattle.std.specs.Prelude.{◌≡◌, ℕ, ◌+◌, ◌-◌, ◌≤◌, ℤ, max, min, Bool, true, false, List, [], ◌∷◌, ◌++◌, Option, Some, None}
use Rattle.kernel_syntax.specs.declared.syntax.Op.{Op}
use Rattle.kernel_syntax.specs.declared.syntax.Op.TheVariants.{Add, Sub, Mul, Div, Rem, Eq, Ne, Lt, Le, Gt, Ge}
use Rattle.kernel_text.specs.declared.token.Word.{Word}
use Rattle.kernel_text.specs.declared.token.Word.TheVariants as word
use Rattle.kernel_text.specs.declared.token.Sign.{Sign}
use Rattle.kernel_text.specs.declared.token.Sign.TheVariants as sign
use Rattle.kernel_text.specs.declared.token.Lexeme.{Lexeme}
use Rattle.kernel_text.specs.declared.token.Lexeme.TheVariants.{Named, Number, Reserved, Mark}
use Rattle.kernel_text.specs.declared.token.Token.{Token}

-- a token of each sort, at its line
abbrev pub named : ℕ → List ℕ → Token
named line name = record { lexeme = Named name; line = line }

abbrev pub number : ℕ → ℤ → Token
number line value = record { lexeme = Number value; line = line }

abbrev pub reserved : ℕ → Word → Token
reserved line w = record { lexeme = Reserved w; line = line }

abbrev pub mark : ℕ → Sign → Token
mark line s = record { lexeme = Mark s; line = line }

-- ---- expressions

-- the sign of an operation
abbrev pub sign_of : Op → Sign
sign_of Add = sign.Plus
sign_of Sub = sign.Minus
sign_of Mul = sign.Star
sign_of Div = sign.Slash
sign_of Rem = sign.Percent
sign_of Eq = sign.Equal
sign_of Ne = sign.NotEqual
sign_of Lt = sign.Less
sign_of Le = sign.LessEqual
sign_of Gt = sign.Greater
sign_of Ge = sign.GreaterEqual

-- the operation of a sign
abbrev pub op_of : Lexeme → Option Op
op_of (Mark sign.Plus) = Some Add
op_of (Mark sign.Minus) = Some Sub
op_of (Mark sign.Star) = Some Mul
op_of (Mark sign.Slash) = Some Div
op_of (Mark sign.Percent) = Some Rem
op_of (Mark sign.Equal) = Some Eq
op_of (Mark sign.NotEqual) = Some Ne
op_of (Mark sign.Less) = Some Lt
op_of (Mark sign.LessEqual) = Some Le
op_of (Mark sign.Greater) = Some Gt
op_of (Mark sign.GreaterEqual) = Some Ge
op_of _ = None

-- whether it compares
abbrev pub is_comparison : Op → Bool
is_comparison Add = false
is_comparison Sub = false
is_comparison Mul = false
is_comparison Div = false
is_comparison Rem = false
is_comparison _ = true

-- the operation of a lexeme, if it is the sign of one
abbrev pub IsOperation : Lexeme → Option Op → Type 0
IsOperation x (Some o) = x ≡ Mark (sign_of o)
IsOperation x None = (o : Op) → x ≡ Mark (sign_of o) → ⊥

-- an expression, with the line of each of its tokens
pub data Tree : Type 0 where
  NumberAt : (line : ℕ) → (value : ℤ) → Tree
  NameAt : (line : ℕ) → (name : List ℕ) → Tree
  TidAt : (line : ℕ) → Tree
  SpanAt : (line : ℕ) → Tree
  Element : (line : ℕ) → (name : List ℕ) → (opened : ℕ) → (index : Tree) → (closed : ℕ) → Tree
  Group : (opened : ℕ) → (inside : Tree) → (closed : ℕ) → Tree
  Minus : (line : ℕ) → (operand : Tree) → Tree
  Binary : (left : Tree) → (op : Op) → (line : ℕ) → (right : Tree) → Tree

abbrev pub tree_tokens : Tree → List Token
tree_tokens (NumberAt line value) = number line value ∷ []
tree_tokens (NameAt line name) = named line name ∷ []
tree_tokens (TidAt line) = reserved line word.Tid ∷ []
tree_tokens (SpanAt line) = reserved line word.Span ∷ []
tree_tokens (Element line name opened index closed) =
    named line name ∷ mark opened sign.OpenBracket ∷ tree_tokens index ++ mark closed sign.CloseBracket ∷ []
tree_tokens (Group opened inside closed) = mark opened sign.OpenParen ∷ tree_tokens inside ++ mark closed sign.CloseParen ∷ []
tree_tokens (Minus line operand) = mark line sign.Minus ∷ tree_tokens operand
tree_tokens (Binary left op line right) = tree_tokens left ++ mark line (sign_of op) ∷ tree_tokens right

-- the parts of an expression by how tightly they bind, as ranks
abbrev pub unary : ℕ
unary = 0

abbrev pub product : ℕ
product = 1

abbrev pub sum : ℕ
sum = 2

abbrev pub expr : ℕ
expr = 3

-- what an operation makes
abbrev pub rank_of : Op → ℕ
rank_of Add = sum
rank_of Sub = sum
rank_of Mul = product
rank_of Div = product
rank_of Rem = product
rank_of _ = expr

-- what may stand to its left: products and sums group from the left, and a comparison stands between sums
abbrev pub left_rank : Op → ℕ
left_rank op = min sum (rank_of op)

-- and to its right: what binds tighter
abbrev pub right_rank : Op → ℕ
right_rank op = rank_of op - 1

-- the productions of expressions, by rank:
--   expr    := sum [ ("==" | "!=" | "<" | "<=" | ">" | ">=") sum ]
--   sum     := product { ("+" | "-") product }
--   product := unary { ("*" | "/" | "%") unary }
--   unary   := "-" unary | NUMBER | NAME | NAME "[" expr "]" | "tid" | "span" | "(" expr ")"
abbrev pub Derives : ℕ → Tree → Type 0
Derives rank (NumberAt line value) = Unit {0}
Derives rank (NameAt line name) = Unit {0}
Derives rank (TidAt line) = Unit {0}
Derives rank (SpanAt line) = Unit {0}
Derives rank (Element line name opened index closed) = Derives expr index
Derives rank (Group opened inside closed) = Derives expr inside
Derives rank (Minus line operand) = Derives unary operand
Derives rank (Binary left op line right) = (rank_of op ≤ rank) × Derives (left_rank op) left × Derives (right_rank op) right

-- how many brackets and prefix signs are open at the same place of an expression, at most
abbrev pub depth : Tree → ℕ
depth (NumberAt line value) = 0
depth (NameAt line name) = 0
depth (TidAt line) = 0
depth (SpanAt line) = 0
depth (Element line name opened index closed) = 1 + depth index
depth (Group opened inside closed) = 1 + depth inside
depth (Minus line operand) = 1 + depth operand
depth (Binary left op line right) = max (depth left) (depth right)

-- ---- statements

-- schedule := "static" [ NUMBER ] | "dynamic" [ NUMBER ]
pub data ScheduleTree : Type 0 where
  Unsaid : ScheduleTree
  Static : (line : ℕ) → ScheduleTree
  StaticBy : (line number_line : ℕ) → (chunk : ℤ) → ScheduleTree
  Dynamic : (line : ℕ) → ScheduleTree
  DynamicBy : (line number_line : ℕ) → (chunk : ℤ) → ScheduleTree

abbrev pub schedule_tokens : ScheduleTree → List Token
schedule_tokens Unsaid = []
schedule_tokens (Static line) = reserved line word.Static ∷ []
schedule_tokens (StaticBy line number_line chunk) = reserved line word.Static ∷ number number_line chunk ∷ []
schedule_tokens (Dynamic line) = reserved line word.Dynamic ∷ []
schedule_tokens (DynamicBy line number_line chunk) = reserved line word.Dynamic ∷ number number_line chunk ∷ []

-- [ "nowait" ], by its line
abbrev pub nowait_tokens : Option ℕ → List Token
nowait_tokens None = []
nowait_tokens (Some line) = reserved line word.Nowait ∷ []

-- the sign of an atomic update, that adds or takes away
abbrev pub update_sign : Bool → Sign
update_sign false = sign.PlusAssign
update_sign true = sign.MinusAssign

-- { stmt }: a statement with the statements after it. A block is the lines of its braces and its statements
pub data Stmts : Type 0 where
  NoMore : Stmts
  -- "let" NAME "=" expr
  Let : (line name_line : ℕ) → (name : List ℕ) → (sign_line : ℕ) → (value : Tree) → (rest : Stmts) → Stmts
  -- NAME "=" expr
  Assign : (line : ℕ) → (name : List ℕ) → (sign_line : ℕ) → (value : Tree) → (rest : Stmts) → Stmts
  -- NAME "[" expr "]" "=" expr
  Store : (line : ℕ) → (name : List ℕ) → (opened : ℕ) → (index : Tree) → (closed sign_line : ℕ) → (value : Tree) → (rest : Stmts) → Stmts
  -- "atomic" NAME "[" expr "]" ("+=" | "-=") expr
  Update : (line name_line : ℕ) → (name : List ℕ) → (opened : ℕ) → (index : Tree) → (closed : ℕ) → (minus : Bool) → (sign_line : ℕ) → (value : Tree) → (rest : Stmts) → Stmts
  -- "if" expr block
  If : (line : ℕ) → (test : Tree) → (opened : ℕ) → (if_true : Stmts) → (closed : ℕ) → (rest : Stmts) → Stmts
  -- "if" expr block "else" block
  IfElse : (line : ℕ) → (test : Tree) → (opened : ℕ) → (if_true : Stmts) → (closed else_line else_opened : ℕ) → (if_false : Stmts) → (else_closed : ℕ) → (rest : Stmts) → Stmts
  -- "loop" NAME "in" expr ".." expr block
  Loop : (line name_line : ℕ) → (name : List ℕ) → (in_line : ℕ) → (from : Tree) → (dots : ℕ) → (to : Tree) → (opened : ℕ) → (body : Stmts) → (closed : ℕ) → (rest : Stmts) → Stmts
  -- "parallel" NUMBER block
  Parallel : (line number_line : ℕ) → (span : ℤ) → (opened : ℕ) → (body : Stmts) → (closed : ℕ) → (rest : Stmts) → Stmts
  -- "for" NAME "in" expr ".." expr [ schedule ] [ "nowait" ] block
  For : (line name_line : ℕ) → (name : List ℕ) → (in_line : ℕ) → (from : Tree) → (dots : ℕ) → (to : Tree) → (schedule : ScheduleTree) → (nowait : Option ℕ) → (opened : ℕ) → (body : Stmts) → (closed : ℕ) → (rest : Stmts) → Stmts
  -- "barrier"
  Barrier : (line : ℕ) → (rest : Stmts) → Stmts
  -- "critical" block
  Critical : (line : ℕ) → (opened : ℕ) → (body : Stmts) → (closed : ℕ) → (rest : Stmts) → Stmts
  -- "critical" NAME block
  CriticalOf : (line name_line : ℕ) → (name : List ℕ) → (opened : ℕ) → (body : Stmts) → (closed : ℕ) → (rest : Stmts) → Stmts

-- block := "{" { stmt } "}"
abbrev pub block : ℕ → List Token → ℕ → List Token
block opened body closed = mark opened sign.OpenBrace ∷ body ++ mark closed sign.CloseBrace ∷ []

-- NAME "in" expr ".." expr
abbrev pub range : ℕ → List ℕ → ℕ → Tree → ℕ → Tree → List Token
range name_line name in_line from dots to =
    named name_line name ∷ reserved in_line word.In ∷ tree_tokens from ++ mark dots sign.Dots ∷ tree_tokens to

abbrev pub stmts_tokens : Stmts → List Token
stmts_tokens NoMore = []
stmts_tokens (Let line name_line name sign_line value rest) =
    reserved line word.Let ∷ named name_line name ∷ mark sign_line sign.Assign ∷ tree_tokens value ++ stmts_tokens rest
stmts_tokens (Assign line name sign_line value rest) = named line name ∷ mark sign_line sign.Assign ∷ tree_tokens value ++ stmts_tokens rest
stmts_tokens (Store line name opened index closed sign_line value rest) =
    named line name ∷ mark opened sign.OpenBracket ∷ tree_tokens index ++
    (mark closed sign.CloseBracket ∷ mark sign_line sign.Assign ∷ tree_tokens value ++ stmts_tokens rest)
stmts_tokens (Update line name_line name opened index closed minus sign_line value rest) =
    reserved line word.Atomic ∷ named name_line name ∷ mark opened sign.OpenBracket ∷ tree_tokens index ++
    (mark closed sign.CloseBracket ∷ mark sign_line (update_sign minus) ∷ tree_tokens value ++ stmts_tokens rest)
stmts_tokens (If line test opened if_true closed rest) = reserved line word.If ∷ tree_tokens test ++ (block opened (stmts_tokens if_true) closed ++ stmts_tokens rest)
stmts_tokens (IfElse line test opened if_true closed else_line else_opened if_false else_closed rest) =
    reserved line word.If ∷ tree_tokens test ++
    (block opened (stmts_tokens if_true) closed ++ (reserved else_line word.Else ∷ block else_opened (stmts_tokens if_false) else_closed ++ stmts_tokens rest))
stmts_tokens (Loop line name_line name in_line from dots to opened body closed rest) =
    reserved line word.Loop ∷ range name_line name in_line from dots to ++ (block opened (stmts_tokens body) closed ++ stmts_tokens rest)
stmts_tokens (Parallel line number_line span opened body closed rest) =
    reserved line word.Parallel ∷ number number_line span ∷ block opened (stmts_tokens body) closed ++ stmts_tokens rest
stmts_tokens (For line name_line name in_line from dots to schedule nowait opened body closed rest) =
    reserved line word.For ∷ range name_line name in_line from dots to ++
    (schedule_tokens schedule ++ (nowait_tokens nowait ++ (block opened (stmts_tokens body) closed ++ stmts_tokens rest)))
stmts_tokens (Barrier line rest) = reserved line word.Barrier ∷ stmts_tokens rest
stmts_tokens (Critical line opened body closed rest) = reserved line word.Critical ∷ block opened (stmts_tokens body) closed ++ stmts_tokens rest
stmts_tokens (CriticalOf line name_line name opened body closed rest) =
    reserved line word.Critical ∷ named name_line name ∷ block opened (stmts_tokens body) closed ++ stmts_tokens rest

-- each expression in the statements is one by the productions
abbrev pub StmtsDerive : Stmts → Type 0
StmtsDerive NoMore = Unit {0}
StmtsDerive (Let line name_line name sign_line value rest) = Derives expr value × StmtsDerive rest
StmtsDerive (Assign line name sign_line value rest) = Derives expr value × StmtsDerive rest
StmtsDerive (Store line name opened index closed sign_line value rest) = Derives expr index × Derives expr value × StmtsDerive rest
StmtsDerive (Update line name_line name opened index closed minus sign_line value rest) = Derives expr index × Derives expr value × StmtsDerive rest
StmtsDerive (If line test opened if_true closed rest) = Derives expr test × StmtsDerive if_true × StmtsDerive rest
StmtsDerive (IfElse line test opened if_true closed else_line else_opened if_false else_closed rest) =
    Derives expr test × StmtsDerive if_true × StmtsDerive if_false × StmtsDerive rest
StmtsDerive (Loop line name_line name in_line from dots to opened body closed rest) =
    Derives expr from × Derives expr to × StmtsDerive body × StmtsDerive rest
StmtsDerive (Parallel line number_line span opened body closed rest) = StmtsDerive body × StmtsDerive rest
StmtsDerive (For line name_line name in_line from dots to schedule nowait opened body closed rest) =
    Derives expr from × Derives expr to × StmtsDerive body × StmtsDerive rest
StmtsDerive (Barrier line rest) = StmtsDerive rest
StmtsDerive (Critical line opened body closed rest) = StmtsDerive body × StmtsDerive rest
StmtsDerive (CriticalOf line name_line name opened body closed rest) = StmtsDerive body × StmtsDerive rest

-- an expression has at most 32 levels
abbrev pub IsFlat : Tree → Type 0
IsFlat t = depth t ≤ 32

-- at most n levels of blocks stand in the statements, and no expression is too deep
abbrev pub AreShallow : ℕ → Stmts → Type 0
AreShallow n NoMore = Unit {0}
AreShallow n (Let line name_line name sign_line value rest) = IsFlat value × AreShallow n rest
AreShallow n (Assign line name sign_line value rest) = IsFlat value × AreShallow n rest
AreShallow n (Store line name opened index closed sign_line value rest) = IsFlat index × IsFlat value × AreShallow n rest
AreShallow n (Update line name_line name opened index closed minus sign_line value rest) = IsFlat index × IsFlat value × AreShallow n rest
AreShallow n (If line test opened if_true closed rest) = IsFlat test × (1 ≤ n) × AreShallow (n - 1) if_true × AreShallow n rest
AreShallow n (IfElse line test opened if_true closed else_line else_opened if_false else_closed rest) =
    IsFlat test × (1 ≤ n) × AreShallow (n - 1) if_true × AreShallow (n - 1) if_false × AreShallow n rest
AreShallow n (Loop line name_line name in_line from dots to opened body closed rest) =
    IsFlat from × IsFlat to × (1 ≤ n) × AreShallow (n - 1) body × AreShallow n rest
AreShallow n (Parallel line number_line span opened body closed rest) = (1 ≤ n) × AreShallow (n - 1) body × AreShallow n rest
AreShallow n (For line name_line name in_line from dots to schedule nowait opened body closed rest) =
    IsFlat from × IsFlat to × (1 ≤ n) × AreShallow (n - 1) body × AreShallow n rest
AreShallow n (Barrier line rest) = AreShallow n rest
AreShallow n (Critical line opened body closed rest) = (1 ≤ n) × AreShallow (n - 1) body × AreShallow n rest
AreShallow n (CriticalOf line name_line name opened body closed rest) = (1 ≤ n) × AreShallow (n - 1) body × AreShallow n rest

-- ---- kernels

-- array := "array" NAME NAME NUMBER
-- mutex := "mutex" NAME
pub data Declaration : Type 0 where
  ArrayOf : (line name_line : ℕ) → (name : List ℕ) → (width_line : ℕ) → (width : List ℕ) → (count_line : ℕ) → (count : ℤ) → Declaration
  MutexOf : (line name_line : ℕ) → (name : List ℕ) → Declaration

abbrev pub declaration_tokens : Declaration → List Token
declaration_tokens (ArrayOf line name_line name width_line width count_line count) =
    reserved line word.Array ∷ named name_line name ∷ named width_line width ∷ number count_line count ∷ []
declaration_tokens (MutexOf line name_line name) = reserved line word.Mutex ∷ named name_line name ∷ []

abbrev pub declarations_tokens : List Declaration → List Token
declarations_tokens [] = []
declarations_tokens (d ∷ ds) = declaration_tokens d ++ declarations_tokens ds

-- kernel := { array | mutex } "main" block
pub record KernelTree : Type 0 where
  pub declarations : List Declaration
  pub line : ℕ
  pub opened : ℕ
  pub body : Stmts
  pub closed : ℕ

abbrev pub kernel_tokens : KernelTree → List Token
kernel_tokens k = declarations_tokens k.declarations ++ reserved k.line word.Main ∷ block k.opened (stmts_tokens k.body) k.closed

-- a tree by the productions
abbrev pub IsKernel : KernelTree → Type 0
IsKernel k = StmtsDerive k.body
