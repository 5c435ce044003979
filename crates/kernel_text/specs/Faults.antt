-- Where the tokens of a text are no kernel, and where they nest too deep.
use Rattle.std.specs.Prelude.{◌≡◌, ℕ, ◌+◌, ◌≤◌, List, [], ◌∷◌, ◌++◌, length, take, map, All}
use Rattle.kernel_text.specs.declared.token.Token.{Token}
use Rattle.kernel_text.specs.declared.judging.Judgement.{Judgement}
use Rattle.kernel_text.specs.declared.judging.Judgement.TheVariants as verdict
use Rattle.kernel_text.specs.Grammar.{Tree, NumberAt, NameAt, TidAt, SpanAt, Element, Group, Minus, Binary, schedule_tokens, nowait_tokens, Stmts, NoMore, Let, Assign, Store, Update, If, IfElse, Loop, Parallel, For, Barrier, Critical, CriticalOf, declarations_tokens, KernelTree, kernel_tokens, IsKernel}

-- for each token of an expression the level that it opens, or 0; so many levels are open around
abbrev pub tree_levels : ℕ → Tree → List ℕ
tree_levels n (NumberAt line value) = 0 ∷ []
tree_levels n (NameAt line name) = 0 ∷ []
tree_levels n (TidAt line) = 0 ∷ []
tree_levels n (SpanAt line) = 0 ∷ []
tree_levels n (Element line name opened index closed) = 0 ∷ (n + 1) ∷ tree_levels (n + 1) index ++ 0 ∷ []
tree_levels n (Group opened inside closed) = (n + 1) ∷ tree_levels (n + 1) inside ++ 0 ∷ []
tree_levels n (Minus line operand) = (n + 1) ∷ tree_levels (n + 1) operand
tree_levels n (Binary left op line right) = tree_levels n left ++ 0 ∷ tree_levels n right

-- tokens that open no level
abbrev pub flat : List Token → List ℕ
flat ts = map (λ _. 0) ts

abbrev pub block_levels : ℕ → List ℕ → List ℕ
block_levels n body = (n + 1) ∷ body ++ 0 ∷ []

abbrev pub range_levels : Tree → Tree → List ℕ
range_levels from to = 0 ∷ 0 ∷ tree_levels 0 from ++ 0 ∷ tree_levels 0 to

-- the same for each token of statements: a block opens a level of blocks, and each expression begins anew
abbrev pub stmts_levels : ℕ → Stmts → List ℕ
stmts_levels n NoMore = []
stmts_levels n (Let line name_line name sign_line value rest) = 0 ∷ 0 ∷ 0 ∷ tree_levels 0 value ++ stmts_levels n rest
stmts_levels n (Assign line name sign_line value rest) = 0 ∷ 0 ∷ tree_levels 0 value ++ stmts_levels n rest
stmts_levels n (Store line name opened index closed sign_line value rest) =
    0 ∷ 0 ∷ tree_levels 0 index ++ (0 ∷ 0 ∷ tree_levels 0 value ++ stmts_levels n rest)
stmts_levels n (Update line name_line name opened index closed minus sign_line value rest) =
    0 ∷ 0 ∷ 0 ∷ tree_levels 0 index ++ (0 ∷ 0 ∷ tree_levels 0 value ++ stmts_levels n rest)
stmts_levels n (If line test opened if_true closed rest) = 0 ∷ tree_levels 0 test ++ (block_levels n (stmts_levels (n + 1) if_true) ++ stmts_levels n rest)
stmts_levels n (IfElse line test opened if_true closed else_line else_opened if_false else_closed rest) =
    0 ∷ tree_levels 0 test ++ (block_levels n (stmts_levels (n + 1) if_true) ++ (0 ∷ block_levels n (stmts_levels (n + 1) if_false) ++ stmts_levels n rest))
stmts_levels n (Loop line name_line name in_line from dots to opened body closed rest) =
    0 ∷ range_levels from to ++ (block_levels n (stmts_levels (n + 1) body) ++ stmts_levels n rest)
stmts_levels n (Parallel line number_line span opened body closed rest) = 0 ∷ 0 ∷ block_levels n (stmts_levels (n + 1) body) ++ stmts_levels n rest
stmts_levels n (For line name_line name in_line from dots to schedule nowait opened body closed rest) =
    0 ∷ range_levels from to ++ (flat (schedule_tokens schedule) ++ (flat (nowait_tokens nowait) ++
    (block_levels n (stmts_levels (n + 1) body) ++ stmts_levels n rest)))
stmts_levels n (Barrier line rest) = 0 ∷ stmts_levels n rest
stmts_levels n (Critical line opened body closed rest) = 0 ∷ block_levels n (stmts_levels (n + 1) body) ++ stmts_levels n rest
stmts_levels n (CriticalOf line name_line name opened body closed rest) = 0 ∷ 0 ∷ block_levels n (stmts_levels (n + 1) body) ++ stmts_levels n rest

abbrev pub kernel_levels : KernelTree → List ℕ
kernel_levels k = flat (declarations_tokens k.declarations) ++ 0 ∷ block_levels 0 (stmts_levels 1 k.body)

-- no token opens a level above 32
abbrev pub IsShallow : KernelTree → Type 0
IsShallow k = All (λ n. n ≤ 32) (kernel_levels k)

-- the tokens are the first of some kernel
abbrev pub Begins : List Token → Type 0
Begins ts = (k : KernelTree) × (rest : List Token) × IsKernel k × (kernel_tokens k ≡ ts ++ rest)

-- and no token among them opens a level above 32
abbrev pub BeginsShallow : List Token → Type 0
BeginsShallow ts = (k : KernelTree) × (rest : List Token) × IsKernel k × (kernel_tokens k ≡ ts ++ rest) × All (λ n. n ≤ 32) (take (length ts) (kernel_levels k))

-- the first token with which the tokens begin no kernel
pub record IsSyntaxFault (ts : List Token) (bad : Token) : Type 0 where
  pub good : List Token
  pub rest : List Token
  pub parts : ts ≡ good ++ bad ∷ rest
  pub begins : BeginsShallow good
  pub stops : Begins (good ++ bad ∷ []) → ⊥

-- the first token that opens a level above 32
pub record IsTooDeep (ts : List Token) (bad : Token) : Type 0 where
  pub good : List Token
  pub rest : List Token
  pub parts : ts ≡ good ++ bad ∷ rest
  pub begins : BeginsShallow good
  pub goes_on : Begins (good ++ bad ∷ [])
  pub deep : BeginsShallow (good ++ bad ∷ []) → ⊥

-- the tokens end before a kernel does
pub record EndsEarly (ts : List Token) : Type 0 where
  pub begins : BeginsShallow ts
  pub unfinished : (k : KernelTree) → IsKernel k → kernel_tokens k ≡ ts → ⊥

-- what a verdict on tokens says
abbrev pub IsVerdict : List Token → Judgement → Type 0
IsVerdict ts verdict.Kernel = (k : KernelTree) × IsKernel k × IsShallow k × (kernel_tokens k ≡ ts)
IsVerdict ts (verdict.Syntax line) = (bad : Token) × IsSyntaxFault ts bad × (line ≡ bad.line)
IsVerdict ts (verdict.Deep line) = (bad : Token) × IsTooDeep ts bad × (line ≡ bad.line)
IsVerdict ts verdict.Early = EndsEarly ts
