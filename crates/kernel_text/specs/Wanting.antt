-- What fulfils each part of a kernel that may be wanted, by the grammar: its tokens, with the level that each opens. Only the
-- contracts of private functions name what is here.
use Rattle.std.specs.Prelude.{◌≡◌, ℕ, ◌+◌, ◌≤◌, ◌<◌, ℤ, Bool, true, false, List, [], ◌∷◌, ◌++◌, Option, Some, None, Result, Ok, Err, ◌⊎◌, fold}
use Rattle.kernel_syntax.specs.declared.syntax.Op.{Op}
use Rattle.kernel_text.specs.declared.token.Word.TheVariants as word
use Rattle.kernel_text.specs.declared.token.Sign.TheVariants as sign
use Rattle.kernel_text.specs.declared.token.Lexeme.{Lexeme}
use Rattle.kernel_text.specs.declared.token.Lexeme.TheVariants.{Named, Number, Reserved, Mark}
use Rattle.kernel_text.specs.declared.token.Token.{Token}
use Rattle.kernel_text.specs.declared.judging.Want.{Want}
use Rattle.kernel_text.specs.declared.judging.Want.TheVariants as want
use Rattle.kernel_text.specs.declared.judging.Moved.{Moved}
use Rattle.kernel_text.specs.declared.judging.Moved.TheVariants as moved
use Rattle.kernel_text.specs.Grammar.{Tree, Derives, tree_tokens, unary, expr, sign_of, update_sign, named, number, reserved, mark, is_comparison, ScheduleTree, schedule_tokens, nowait_tokens, Stmts, StmtsDerive, block, stmts_tokens, KernelTree, kernel_tokens, IsKernel}
use Rattle.kernel_text.specs.Faults.{tree_levels, flat, block_levels, stmts_levels, kernel_levels}

-- operators with their right operands
pub data Chain : Type 0 where
  Last : Chain
  Then : (op : Op) → (line : ℕ) → (operand : Tree) → (rest : Chain) → Chain

abbrev pub chain_tokens : Chain → List Token
chain_tokens Last = []
chain_tokens (Then o line u rest) = mark line (sign_of o) ∷ tree_tokens u ++ chain_tokens rest

abbrev pub chain_levels : ℕ → Chain → List ℕ
chain_levels n Last = []
chain_levels n (Then o line u rest) = 0 ∷ tree_levels n u ++ chain_levels n rest

-- what an operator leaves, where a comparison may come, or may not
abbrev pub Allows : Bool → Bool → Type 0 → Type 0 → Type 0
Allows c false A B = A
Allows true true A B = B
Allows false true A B = ⊥

-- operands that bind tightest, and a comparison at most once, where one may come
abbrev pub FitsChain : Bool → Chain → Type 0
FitsChain c Last = Unit {0}
FitsChain c (Then o line u rest) = Derives unary u × Allows c (is_comparison o) (FitsChain c rest) (FitsChain false rest)

pub record Braced : Type 0 where
  pub opened : ℕ
  pub body : Stmts
  pub closed : ℕ
  pub derives : StmtsDerive body

pub record Indexed : Type 0 where
  pub opened : ℕ
  pub index : Tree
  pub closed : ℕ
  pub derives : Derives expr index

-- what stands between a name at the start of a statement and the value
pub data TargetTree : Type 0 where
  Plain : (sign_line : ℕ) → TargetTree
  At : (index : Indexed) → (sign_line : ℕ) → TargetTree

abbrev pub Value : Want → Type 0
Value want.Kernel = (k : KernelTree) × IsKernel k
Value want.Name = ℕ × List ℕ
Value want.Number = ℕ × ℤ
Value want.In = ℕ
Value want.Assign = ℕ
Value want.OpenBracket = ℕ
Value want.CloseBracket = ℕ
Value want.UpdateSign = Bool × ℕ
Value want.CloseParen = ℕ
Value want.CloseBrace = ℕ
Value want.Dots = ℕ
Value (want.Block n) = Braced
Value (want.Stmts n) = (b : Stmts) × StmtsDerive b
Value want.Target = TargetTree
Value (want.Else n) = Option (ℕ × Braced)
Value want.Schedule = ScheduleTree
Value want.Chunk = Option (ℕ × ℤ)
Value want.Nowait = Option ℕ
Value want.SectionName = Option (ℕ × List ℕ)
Value (want.Expr n) = (t : Tree) × Derives expr t
Value (want.Operand n) = (t : Tree) × Derives unary t
Value (want.Index n) = Option Indexed
Value (want.Operators n c) = (ch : Chain) × FitsChain c ch

abbrev pub braced_tokens : Braced → List Token
braced_tokens v = block v.opened (stmts_tokens v.body) v.closed

abbrev pub braced_levels : ℕ → Braced → List ℕ
braced_levels n v = block_levels n (stmts_levels (n + 1) v.body)

abbrev pub indexed_tokens : Indexed → List Token
indexed_tokens v = mark v.opened sign.OpenBracket ∷ tree_tokens v.index ++ mark v.closed sign.CloseBracket ∷ []

abbrev pub target_tokens : TargetTree → List Token
target_tokens (Plain sign_line) = mark sign_line sign.Assign ∷ []
target_tokens (At v sign_line) = mark v.opened sign.OpenBracket ∷ tree_tokens v.index ++ mark v.closed sign.CloseBracket ∷ mark sign_line sign.Assign ∷ []

abbrev pub target_levels : TargetTree → List ℕ
target_levels (Plain sign_line) = 0 ∷ []
target_levels (At v sign_line) = 0 ∷ tree_levels 0 v.index ++ 0 ∷ 0 ∷ []

abbrev pub else_tokens : Option (ℕ × Braced) → List Token
else_tokens None = []
else_tokens (Some v) = reserved v.0 word.Else ∷ braced_tokens v.1

abbrev pub else_levels : ℕ → Option (ℕ × Braced) → List ℕ
else_levels n None = []
else_levels n (Some v) = 0 ∷ braced_levels n v.1

abbrev pub chunk_tokens : Option (ℕ × ℤ) → List Token
chunk_tokens None = []
chunk_tokens (Some v) = number v.0 v.1 ∷ []

abbrev pub section_tokens : Option (ℕ × List ℕ) → List Token
section_tokens None = []
section_tokens (Some v) = named v.0 v.1 ∷ []

abbrev pub index_tokens : Option Indexed → List Token
index_tokens None = []
index_tokens (Some v) = indexed_tokens v

abbrev pub index_levels : ℕ → Option Indexed → List ℕ
index_levels n None = []
index_levels n (Some v) = (n + 1) ∷ tree_levels (n + 1) v.index ++ 0 ∷ []

abbrev pub value_tokens : (w : Want) → Value w → List Token
value_tokens want.Kernel v = kernel_tokens v.0
value_tokens want.Name v = named v.0 v.1 ∷ []
value_tokens want.Number v = number v.0 v.1 ∷ []
value_tokens want.In line = reserved line word.In ∷ []
value_tokens want.Assign line = mark line sign.Assign ∷ []
value_tokens want.OpenBracket line = mark line sign.OpenBracket ∷ []
value_tokens want.UpdateSign v = mark v.1 (update_sign v.0) ∷ []
value_tokens want.CloseBracket line = mark line sign.CloseBracket ∷ []
value_tokens want.CloseParen line = mark line sign.CloseParen ∷ []
value_tokens want.CloseBrace line = mark line sign.CloseBrace ∷ []
value_tokens want.Dots line = mark line sign.Dots ∷ []
value_tokens (want.Block n) v = braced_tokens v
value_tokens (want.Stmts n) v = stmts_tokens v.0
value_tokens want.Target v = target_tokens v
value_tokens (want.Else n) v = else_tokens v
value_tokens want.Schedule v = schedule_tokens v
value_tokens want.Chunk v = chunk_tokens v
value_tokens want.Nowait v = nowait_tokens v
value_tokens want.SectionName v = section_tokens v
value_tokens (want.Expr n) v = tree_tokens v.0
value_tokens (want.Operand n) v = tree_tokens v.0
value_tokens (want.Index n) v = index_tokens v
value_tokens (want.Operators n c) v = chain_tokens v.0

abbrev pub value_levels : (w : Want) → Value w → List ℕ
value_levels want.Kernel v = kernel_levels v.0
value_levels want.Name v = 0 ∷ []
value_levels want.Number v = 0 ∷ []
value_levels want.In line = 0 ∷ []
value_levels want.Assign line = 0 ∷ []
value_levels want.OpenBracket line = 0 ∷ []
value_levels want.UpdateSign v = 0 ∷ []
value_levels want.CloseBracket line = 0 ∷ []
value_levels want.CloseParen line = 0 ∷ []
value_levels want.CloseBrace line = 0 ∷ []
value_levels want.Dots line = 0 ∷ []
value_levels (want.Block n) v = braced_levels n v
value_levels (want.Stmts n) v = stmts_levels n v.0
value_levels want.Target v = target_levels v
value_levels (want.Else n) v = else_levels n v
value_levels want.Schedule v = flat (schedule_tokens v)
value_levels want.Chunk v = flat (chunk_tokens v)
value_levels want.Nowait v = flat (nowait_tokens v)
value_levels want.SectionName v = flat (section_tokens v)
value_levels (want.Expr n) v = tree_levels n v.0
value_levels (want.Operand n) v = tree_levels n v.0
value_levels (want.Index n) v = index_levels n v
value_levels (want.Operators n c) v = chain_levels n v.0

-- ---- what can stand where all of these are wanted in turn

abbrev pub Fill : List Want → Type 0
Fill [] = Unit {0}
Fill (w ∷ s) = Value w × Fill s

abbrev pub fill_tokens : (s : List Want) → Fill s → List Token
fill_tokens [] f = []
fill_tokens (w ∷ s) f = value_tokens w f.0 ++ fill_tokens s f.1

abbrev pub fill_levels : (s : List Want) → Fill s → List ℕ
fill_levels [] f = []
fill_levels (w ∷ s) f = value_levels w f.0 ++ fill_levels s f.1

-- what can stand where these are wanted in turn, with these tokens and levels
pub record Fulfils (s : List Want) (ts : List Token) (ls : List ℕ) : Type 0 where
  pub fill : Fill s
  pub tokens : fill_tokens s fill ≡ ts
  pub levels : fill_levels s fill ≡ ls

-- ---- what may stand behind what

abbrev pub IsOpSign : Lexeme → Type 0
IsOpSign x = (o : Op) × (x ≡ Mark (sign_of o))

-- what fulfils the want may go on with the lexeme, or begin with it where it may be empty
abbrev pub GoesOnWith : Want → Lexeme → Type 0
GoesOnWith (want.Stmts n) x = x ≡ Mark sign.CloseBrace → ⊥
GoesOnWith (want.Else n) x = x ≡ Reserved word.Else
GoesOnWith want.Schedule x = (x ≡ Reserved word.Static) ⊎ ((x ≡ Reserved word.Dynamic) ⊎ ((value : ℤ) × (x ≡ Number value)))
GoesOnWith want.Chunk x = (value : ℤ) × (x ≡ Number value)
GoesOnWith want.Nowait x = x ≡ Reserved word.Nowait
GoesOnWith want.SectionName x = (name : List ℕ) × (x ≡ Named name)
GoesOnWith (want.Expr n) x = (x ≡ Mark sign.OpenBracket) ⊎ IsOpSign x
GoesOnWith (want.Operand n) x = x ≡ Mark sign.OpenBracket
GoesOnWith (want.Index n) x = x ≡ Mark sign.OpenBracket
GoesOnWith (want.Operators n c) x = (x ≡ Mark sign.OpenBracket) ⊎ IsOpSign x
GoesOnWith _ x = ⊥

-- the tokens tell where the want ends: they don't go on with it, and are some
abbrev pub EndsAt : Want → List Token → Type 0
EndsAt w [] = (x : Lexeme) → GoesOnWith w x → ⊥
EndsAt w (t ∷ ts) = GoesOnWith w t.lexeme → ⊥

-- whatever stands behind a want tells where it ends
abbrev pub AreDelimited : List Want → Type 0
AreDelimited [] = Unit {0}
AreDelimited (w ∷ s) = ((f : Fill s) → EndsAt w (fill_tokens s f)) × AreDelimited s

-- ---- what a function of the code gives

-- the last of the code's wants is the next
abbrev pub stack_of : List Want → List Want
stack_of ws = fold (λ (s : List Want) (w : Want). w ∷ s) [] ws

abbrev pub token : Lexeme → ℕ → Token
token x line = record { lexeme = x; line = line }

-- nothing that stands there begins with the lexeme
abbrev pub Refuses : List Want → Lexeme → Type 0
Refuses s x = (line : ℕ) (ts : List Token) (ls : List ℕ) → Fulfils s (token x line ∷ ts) ls → ⊥

-- the lexeme opens this level, and behind it stands what the others want
pub record LeadsTo (before : List Want) (x : Lexeme) (level : ℕ) (after : List Want) : Type 0 where
  pub apart : AreDelimited after
  pub puts : (line : ℕ) (ts : List Token) (ls : List ℕ) → Fulfils after ts ls → Fulfils before (token x line ∷ ts) (level ∷ ls)
  pub leaves : (line : ℕ) (ts : List Token) (ls : List ℕ) → Fulfils before (token x line ∷ ts) ls → (more : List ℕ) × (ls ≡ level ∷ more) × Fulfils after ts more

-- before the lexeme the want is left out
pub record Skips (w : Want) (s : List Want) (x : Lexeme) : Type 0 where
  pub empty : Fulfils (w ∷ []) [] []
  pub leaves : (line : ℕ) (ts : List Token) (ls : List ℕ) → Fulfils (w ∷ s) (token x line ∷ ts) ls → Fulfils s (token x line ∷ ts) ls

abbrev pub StepsTo : {E : Type 0} → Result Moved E → Lexeme → List Want → List Want → Type 0
StepsTo (Ok moved.Fails) x before after = Refuses before x
StepsTo (Ok moved.Skips) x before after = ⊥
StepsTo (Ok moved.Takes) x before after = (level : ℕ) × (level ≤ 32) × LeadsTo before x level after
StepsTo (Ok moved.Deep) x before after = (level : ℕ) × (deeper : List Want) × (32 < level) × LeadsTo before x level deeper
StepsTo (Err e) x before after = Unit {0}

-- a want before these, and what is wanted after the token
abbrev pub MovesTo : Moved → Want → Lexeme → List Want → List Want → Type 0
MovesTo moved.Fails w x s after = Refuses (w ∷ s) x
MovesTo moved.Skips w x s after = Skips w s x × (after ≡ s)
MovesTo moved.Takes w x s after = (level : ℕ) × (level ≤ 32) × LeadsTo (w ∷ s) x level after
MovesTo moved.Deep w x s after = (level : ℕ) × (deeper : List Want) × (32 < level) × LeadsTo (w ∷ s) x level deeper

abbrev pub Moves : {E : Type 0} → Result Moved E → Want → Lexeme → List Want → List Want → Type 0
Moves (Ok m) w x s after = MovesTo m w x s after
Moves (Err e) w x s after = Unit {0}

-- a token that opens the level, or is too deep
abbrev pub Opens : {E : Type 0} → Result Moved E → ℕ → List Want → List Want → Type 0
Opens (Ok moved.Fails) level after wants = ⊥
Opens (Ok moved.Skips) level after wants = ⊥
Opens (Ok moved.Takes) level after wants = (level ≤ 32) × (after ≡ wants)
Opens (Ok moved.Deep) level after wants = 32 < level
Opens (Err e) level after wants = Unit {0}

-- a want of one token, whatever is wanted behind it
abbrev pub Alone : Moved → Want → Lexeme → Type 0
Alone moved.Fails w x = (s : List Want) → Refuses (w ∷ s) x
Alone moved.Skips w x = (s : List Want) → Skips w s x
Alone moved.Takes w x = (s : List Want) → AreDelimited (w ∷ s) → LeadsTo (w ∷ s) x 0 s
Alone moved.Deep w x = ⊥
