-- What statements begin with, and what follows their parts.
use Rattle.std.proofs.Common.{◌≡◌, ℕ, Bool, List, [], ◌∷◌, ◌++◌, Option, Some, None, refl, sym, ap, subst, ◌∙◌, append_assoc}
use Rattle.std.specs.Prelude.{ℤ}
use Rattle.kernel_text.specs.declared.token.Word.TheVariants as word
use Rattle.kernel_text.specs.declared.token.Sign.TheVariants as sign
use Rattle.kernel_text.specs.declared.token.Lexeme.TheVariants.{Reserved}
use Rattle.kernel_text.specs.declared.token.Token.{Token}
use Rattle.kernel_text.specs.Grammar.{Tree, tree_tokens, Derives, expr, IsFlat, mark, block, ScheduleTree, Unsaid, Static, StaticBy, Dynamic, DynamicBy, schedule_tokens, nowait_tokens, Stmts, NoMore, Let, Assign, Store, Update, If, IfElse, Loop, Parallel, For, Barrier, Critical, CriticalOf, stmts_tokens}
use Rattle.kernel_parser.specs.declared.lookahead.Lead.{Lead}
use Rattle.kernel_parser.specs.declared.lookahead.Lead.TheVariants as lead
use Rattle.kernel_parser.proofs.Signs.{stops-at}
use Rattle.kernel_parser.specs.Parsing.{IsExpression, Stops, StartsWith, lead_of_stmts, inside}

-- statements and the brace behind them don't go on with an expression
pub follows-inside : (b : Stmts) (end : ℕ) (tail : List Token) → Stops expr (inside b end tail)
follows-inside NoMore end tail = stops-at expr _ (refl, refl)
follows-inside (Let line name_line name sign_line value rest) end tail = stops-at expr _ (refl, refl)
follows-inside (Assign line name sign_line value rest) end tail = stops-at expr _ (refl, refl)
follows-inside (Store line name opened index closed sign_line value rest) end tail = stops-at expr _ (refl, refl)
follows-inside (Update line name_line name opened index closed minus sign_line value rest) end tail = stops-at expr _ (refl, refl)
follows-inside (If line test opened if_true closed rest) end tail = stops-at expr _ (refl, refl)
follows-inside (IfElse line test opened if_true closed else_line else_opened if_false else_closed rest) end tail = stops-at expr _ (refl, refl)
follows-inside (Loop line name_line name in_line from dots to opened body closed rest) end tail = stops-at expr _ (refl, refl)
follows-inside (Parallel line number_line span opened body closed rest) end tail = stops-at expr _ (refl, refl)
follows-inside (For line name_line name in_line from dots to schedule nowait opened body closed rest) end tail = stops-at expr _ (refl, refl)
follows-inside (Barrier line rest) end tail = stops-at expr _ (refl, refl)
follows-inside (Critical line opened body closed rest) end tail = stops-at expr _ (refl, refl)
follows-inside (CriticalOf line name_line name opened body closed rest) end tail = stops-at expr _ (refl, refl)

pub before-stmts : (v : Tree) (b : Stmts) (end : ℕ) (tail : List Token) → Derives expr v → IsFlat v
    → IsExpression ((tree_tokens v ++ stmts_tokens b) ++ mark end sign.CloseBrace ∷ tail) v (inside b end tail)
before-stmts v b end tail d f = record { parts = append_assoc (tree_tokens v) (stmts_tokens b) _; derives = d; flat = f; ends = follows-inside b end tail }

-- a block, and what is behind it
pub block-opens : (opened : ℕ) (body : Stmts) (closed : ℕ) (after : List Token) → block opened (stmts_tokens body) closed ++ after ≡ mark opened sign.OpenBrace ∷ inside body closed after
block-opens opened body closed after = ap (λ (ts : List Token). mark opened sign.OpenBrace ∷ ts) (append_assoc (stmts_tokens body) (mark closed sign.CloseBrace ∷ []) after)

-- a block, and statements behind it
pub body-opens : (opened : ℕ) (body : Stmts) (closed : ℕ) (b : Stmts) (end : ℕ) (tail : List Token)
    → (block opened (stmts_tokens body) closed ++ stmts_tokens b) ++ mark end sign.CloseBrace ∷ tail ≡ mark opened sign.OpenBrace ∷ inside body closed (inside b end tail)
body-opens opened body closed b end tail = append_assoc (block opened (stmts_tokens body) closed) (stmts_tokens b) _ ∙ block-opens opened body closed (inside b end tail)

-- a schedule doesn't go on with an expression
pub follows-schedule : (schedule : ScheduleTree) (nowait : Option ℕ) (opened : ℕ) (after : List Token) → Stops expr (schedule_tokens schedule ++ (nowait_tokens nowait ++ mark opened sign.OpenBrace ∷ after))
follows-schedule Unsaid None opened after = stops-at expr _ (refl, refl)
follows-schedule Unsaid (Some line) opened after = stops-at expr _ (refl, refl)
follows-schedule (Static line) nowait opened after = stops-at expr _ (refl, refl)
follows-schedule (StaticBy line number_line chunk) nowait opened after = stops-at expr _ (refl, refl)
follows-schedule (Dynamic line) nowait opened after = stops-at expr _ (refl, refl)
follows-schedule (DynamicBy line number_line chunk) nowait opened after = stops-at expr _ (refl, refl)

-- no `else` follows
pub no-else : (b : Stmts) (end : ℕ) (tail : List Token) → StartsWith (Reserved word.Else) (inside b end tail) → ⊥
no-else NoMore end tail e = absurd cc
no-else (Let line name_line name sign_line value rest) end tail e = absurd cc
no-else (Assign line name sign_line value rest) end tail e = absurd cc
no-else (Store line name opened index closed sign_line value rest) end tail e = absurd cc
no-else (Update line name_line name opened index closed minus sign_line value rest) end tail e = absurd cc
no-else (If line test opened if_true closed rest) end tail e = absurd cc
no-else (IfElse line test opened if_true closed else_line else_opened if_false else_closed rest) end tail e = absurd cc
no-else (Loop line name_line name in_line from dots to opened body closed rest) end tail e = absurd cc
no-else (Parallel line number_line span opened body closed rest) end tail e = absurd cc
no-else (For line name_line name in_line from dots to schedule nowait opened body closed rest) end tail e = absurd cc
no-else (Barrier line rest) end tail e = absurd cc
no-else (Critical line opened body closed rest) end tail e = absurd cc
no-else (CriticalOf line name_line name opened body closed rest) end tail e = absurd cc

-- statements of which the lead is known
pub data View : Option Lead → Stmts → Type 0 where
  IsEnd : View None NoMore
  IsLet : (line name_line : ℕ) → (name : List ℕ) → (sign_line : ℕ) → (value : Tree) → (rest : Stmts) → View (Some lead.Let) (Let line name_line name sign_line value rest)
  IsAssign : (line : ℕ) → (name : List ℕ) → (sign_line : ℕ) → (value : Tree) → (rest : Stmts) → View (Some lead.Assign) (Assign line name sign_line value rest)
  IsStore : (line : ℕ) → (name : List ℕ) → (opened : ℕ) → (index : Tree) → (closed sign_line : ℕ) → (value : Tree) → (rest : Stmts) → View (Some lead.Store) (Store line name opened index closed sign_line value rest)
  IsUpdate : (line name_line : ℕ) → (name : List ℕ) → (opened : ℕ) → (index : Tree) → (closed : ℕ) → (minus : Bool) → (sign_line : ℕ) → (value : Tree) → (rest : Stmts)
      → View (Some lead.Update) (Update line name_line name opened index closed minus sign_line value rest)
  IsIf : (line : ℕ) → (test : Tree) → (opened : ℕ) → (if_true : Stmts) → (closed : ℕ) → (rest : Stmts) → View (Some lead.If) (If line test opened if_true closed rest)
  IsIfElse : (line : ℕ) → (test : Tree) → (opened : ℕ) → (if_true : Stmts) → (closed else_line else_opened : ℕ) → (if_false : Stmts) → (else_closed : ℕ) → (rest : Stmts)
      → View (Some lead.If) (IfElse line test opened if_true closed else_line else_opened if_false else_closed rest)
  IsLoop : (line name_line : ℕ) → (name : List ℕ) → (in_line : ℕ) → (from : Tree) → (dots : ℕ) → (to : Tree) → (opened : ℕ) → (body : Stmts) → (closed : ℕ) → (rest : Stmts)
      → View (Some lead.Loop) (Loop line name_line name in_line from dots to opened body closed rest)
  IsParallel : (line number_line : ℕ) → (span : ℤ) → (opened : ℕ) → (body : Stmts) → (closed : ℕ) → (rest : Stmts) → View (Some lead.Parallel) (Parallel line number_line span opened body closed rest)
  IsFor : (line name_line : ℕ) → (name : List ℕ) → (in_line : ℕ) → (from : Tree) → (dots : ℕ) → (to : Tree) → (schedule : ScheduleTree) → (nowait : Option ℕ) → (opened : ℕ) → (body : Stmts) → (closed : ℕ) → (rest : Stmts)
      → View (Some lead.For) (For line name_line name in_line from dots to schedule nowait opened body closed rest)
  IsBarrier : (line : ℕ) → (rest : Stmts) → View (Some lead.Barrier) (Barrier line rest)
  IsCritical : (line opened : ℕ) → (body : Stmts) → (closed : ℕ) → (rest : Stmts) → View (Some lead.Critical) (Critical line opened body closed rest)
  IsCriticalOf : (line name_line : ℕ) → (name : List ℕ) → (opened : ℕ) → (body : Stmts) → (closed : ℕ) → (rest : Stmts) → View (Some lead.Critical) (CriticalOf line name_line name opened body closed rest)

view : (b : Stmts) → View (lead_of_stmts b) b
view NoMore = IsEnd
view (Let line name_line name sign_line value rest) = IsLet line name_line name sign_line value rest
view (Assign line name sign_line value rest) = IsAssign line name sign_line value rest
view (Store line name opened index closed sign_line value rest) = IsStore line name opened index closed sign_line value rest
view (Update line name_line name opened index closed minus sign_line value rest) = IsUpdate line name_line name opened index closed minus sign_line value rest
view (If line test opened if_true closed rest) = IsIf line test opened if_true closed rest
view (IfElse line test opened if_true closed else_line else_opened if_false else_closed rest) = IsIfElse line test opened if_true closed else_line else_opened if_false else_closed rest
view (Loop line name_line name in_line from dots to opened body closed rest) = IsLoop line name_line name in_line from dots to opened body closed rest
view (Parallel line number_line span opened body closed rest) = IsParallel line number_line span opened body closed rest
view (For line name_line name in_line from dots to schedule nowait opened body closed rest) = IsFor line name_line name in_line from dots to schedule nowait opened body closed rest
view (Barrier line rest) = IsBarrier line rest
view (Critical line opened body closed rest) = IsCritical line opened body closed rest
view (CriticalOf line name_line name opened body closed rest) = IsCriticalOf line name_line name opened body closed rest

-- statements by their lead
pub seen : (l : Option Lead) (b : Stmts) → l ≡ lead_of_stmts b → View l b
seen l b is = subst (λ (l : Option Lead). View l b) (sym is) (view b)
