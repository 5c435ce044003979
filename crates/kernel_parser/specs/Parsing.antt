-- What stands at the beginning of tokens, and what the code reads of them.
use Rattle.std.specs.Prelude.{◌≡◌, ◌<◌, ◌≤◌, ℕ, ◌++◌, List, [], ◌∷◌, Option, Some, None, Result, Ok, Err}
use Rattle.std.specs.Borrow.{Bor}
use Rattle.kernel_syntax.specs.declared.syntax.Op.{Op}
use Rattle.kernel_text.specs.declared.token.Sign.TheVariants as sign
use Rattle.kernel_text.specs.declared.token.Word.TheVariants as word
use Rattle.kernel_text.specs.declared.token.Lexeme.{Lexeme}
use Rattle.kernel_text.specs.declared.token.Lexeme.TheVariants.{Mark}
use Rattle.kernel_text.specs.declared.token.Token.{Token}
use Rattle.kernel_text.specs.Grammar.{Tree, tree_tokens, Derives, depth, expr, sign_of, rank_of, mark, named, reserved, ScheduleTree, schedule_tokens, nowait_tokens, Stmts, NoMore, Let, Assign, Store, Update, If, IfElse, Loop, Parallel, For, Barrier, Critical, CriticalOf, stmts_tokens, StmtsDerive, AreShallow, Declaration}
use Rattle.kernel_parser.specs.declared.fault.ParseFault.{ParseFault}
use Rattle.kernel_parser.specs.declared.fault.ParseFault.TheVariants as fault
use Rattle.kernel_parser.specs.declared.lookahead.Lead.{Lead}
use Rattle.kernel_parser.specs.declared.lookahead.Lead.TheVariants as lead
use Rattle.kernel_parser.specs.declared.tree.Statement.{Statement}
use Rattle.kernel_parser.specs.declared.tree.Declaration as code
use Rattle.kernel_parser.specs.Trees.{stmt_before, declaration_of}

-- the first of the tokens doesn't go on with a part of this rank
unfoldable pub Stops : ℕ → List Token → Type 0
Stops rank [] = Unit {0}
Stops rank (t ∷ ts) = (t.lexeme ≡ Mark sign.OpenBracket → ⊥) × ((o : Op) → t.lexeme ≡ Mark (sign_of o) → rank < rank_of o)

-- the tokens are those of a part of an expression, and others that don't go on with it
pub record IsPart (rank levels : ℕ) (ts : List Token) (t : Tree) (after : List Token) : Type 0 where
  pub parts : ts ≡ tree_tokens t ++ after
  pub derives : Derives rank t
  pub flat : depth t ≤ levels
  pub ends : Stops rank after

-- the same of a whole expression
abbrev pub IsExpression : List Token → Tree → List Token → Type 0
IsExpression = IsPart expr 32

-- an operator of at most this rank comes first, if it is told
abbrev pub IsOperator : List Token → ℕ → Option (Op × ℕ × Bor (List Token)) → Type 0
IsOperator ts rank (Some x) = (ts ≡ mark x.1 (sign_of x.0) ∷ x.2.now) × (rank_of x.0 ≤ rank)
IsOperator ts rank None = (o : Op) (line : ℕ) (us : List Token) → ts ≡ mark line (sign_of o) ∷ us → rank < rank_of o

-- this lexeme comes first
abbrev pub StartsWith : Lexeme → List Token → Type 0
StartsWith x [] = ⊥
StartsWith x (t ∷ ts) = t.lexeme ≡ x

-- ---- which statement it is

-- the first of the statements, if there is one
abbrev pub lead_of_stmts : Stmts → Option Lead
lead_of_stmts NoMore = None
lead_of_stmts (Let line name_line name sign_line value rest) = Some lead.Let
lead_of_stmts (Assign line name sign_line value rest) = Some lead.Assign
lead_of_stmts (Store line name opened index closed sign_line value rest) = Some lead.Store
lead_of_stmts (Update line name_line name opened index closed minus sign_line value rest) = Some lead.Update
lead_of_stmts (If line test opened if_true closed rest) = Some lead.If
lead_of_stmts (IfElse line test opened if_true closed else_line else_opened if_false else_closed rest) = Some lead.If
lead_of_stmts (Loop line name_line name in_line from dots to opened body closed rest) = Some lead.Loop
lead_of_stmts (Parallel line number_line span opened body closed rest) = Some lead.Parallel
lead_of_stmts (For line name_line name in_line from dots to schedule nowait opened body closed rest) = Some lead.For
lead_of_stmts (Barrier line rest) = Some lead.Barrier
lead_of_stmts (Critical line opened body closed rest) = Some lead.Critical
lead_of_stmts (CriticalOf line name_line name opened body closed rest) = Some lead.Critical

-- ---- what the code reads

-- the tokens of statements, the brace behind them, and the tokens behind it
abbrev pub inside : Stmts → ℕ → List Token → List Token
inside body closed after = stmts_tokens body ++ mark closed sign.CloseBrace ∷ after

-- the tokens are a block's, and others
pub record IsBlockRead (ts : List Token) (opened : ℕ) (body : Stmts) (closed : ℕ) (after : List Token) : Type 0 where
  pub levels : ℕ
  pub parts : ts ≡ mark opened sign.OpenBrace ∷ inside body closed after
  pub derives : StmtsDerive body
  pub shallow : AreShallow levels body

-- only memory can be wanting
abbrev pub ReadsTo : {X : Type 0} → Result X ParseFault → (X → Type 0) → Type 0
ReadsTo (Ok x) IsDue = IsDue x
ReadsTo (Err fault.NoKernel) IsDue = ⊥
ReadsTo (Err fault.Memory) IsDue = Unit {0}

-- a statement was read, which is so before any rest, and these tokens are left
abbrev pub IsStatementRead : (Stmts → Stmts) → List Token → Statement → List Token → Type 0
IsStatementRead view after x left = ((rest : Stmts) → stmt_before x rest ≡ view rest) × (left ≡ after)

-- behind `for`, a range, a schedule and a block are read as such a loop
abbrev pub ReadsFor : ℕ → List Token → Result (Statement × Bor (List Token)) ParseFault → Type 0
ReadsFor line tokens result =
    (name_line : ℕ) (name : List ℕ) (in_line : ℕ) (from : Tree) (dots : ℕ) (to : Tree) (s : ScheduleTree) (nowait : Option ℕ) (opened : ℕ) (body : Stmts) (closed : ℕ)
    (ts us vs after : List Token) → tokens ≡ named name_line name ∷ reserved in_line word.In ∷ ts → IsExpression ts from (mark dots sign.Dots ∷ us)
    → IsExpression us to (schedule_tokens s ++ (nowait_tokens nowait ++ mark opened sign.OpenBrace ∷ vs)) → IsBlockRead (mark opened sign.OpenBrace ∷ vs) opened body closed after
    → ReadsTo result (λ x. IsStatementRead (For line name_line name in_line from dots to s nowait opened body closed) after x.0 x.1.now)

-- the first of the statements was read, and the others are left
pub record IsFirst (levels : ℕ) (b : Stmts) (end : ℕ) (tail : List Token) (x : Statement) (left : List Token) : Type 0 where
  pub rest : Stmts
  pub whole : stmt_before x rest ≡ b
  pub parts : left ≡ inside rest end tail
  pub derives : StmtsDerive rest
  pub shallow : AreShallow levels rest

-- a declaration was read
abbrev pub IsDeclared : Declaration → List Token → Option (code.Declaration × Bor (List Token)) → Type 0
IsDeclared d after None = ⊥
IsDeclared d after (Some x) = (declaration_of x.0 ≡ d) × (x.1.now ≡ after)
