-- The first of some statements, by what it begins with.
use Rattle.std.proofs.Common.{◌≡◌, ℕ, ◌-◌, Bool, List, [], ◌∷◌, ◌++◌, Option, Some, Ok, Err, Result, Bor, refl, ap, ◌∙◌, append_assoc}
use Rattle.std.specs.Prelude.{ℤ}
use Rattle.kernel_text.specs.declared.token.Word.TheVariants as word
use Rattle.kernel_text.specs.declared.token.Sign.TheVariants as sign
use Rattle.kernel_text.specs.declared.token.Lexeme.TheVariants.{Named, Reserved}
use Rattle.kernel_text.specs.declared.token.Token.{Token}
use Rattle.kernel_text.specs.Grammar.{Tree, tree_tokens, expr, named, mark, reserved, number, block, ScheduleTree, schedule_tokens, nowait_tokens, update_sign, Stmts, Let, Assign, Store, Update, If, IfElse, Loop, Parallel, For, Barrier, Critical, CriticalOf, stmts_tokens, StmtsDerive, AreShallow}
use Rattle.kernel_parser.specs.declared.fault.ParseFault.{ParseFault}
use Rattle.kernel_parser.specs.declared.fault.ParseFault.TheVariants as fault
use Rattle.kernel_parser.specs.declared.lookahead.Lead.{Lead}
use Rattle.kernel_parser.specs.declared.lookahead.Lead.TheVariants as lead
use Rattle.kernel_parser.specs.declared.tree.Statement.{Statement}
use Rattle.kernel_parser.specs.Parsing.{IsExpression, IsBlockRead, IsStatementRead, IsFirst, ReadsTo, StartsWith, inside, lead_of_stmts}
use Rattle.kernel_parser.proofs.Signs.{heads-is, stops-at}
use Rattle.kernel_parser.proofs.Heading.{View, IsLet, IsAssign, IsStore, IsUpdate, IsIf, IsIfElse, IsLoop, IsParallel, IsFor, IsBarrier, IsCritical, IsCriticalOf, seen, before-stmts, body-opens, follows-schedule, no-else}

abbrev Parsed : Type 0
Parsed = Result (Statement × Bor (List Token)) ParseFault

-- what is so before any rest is the first of the statements
first-is : (view : Stmts → Stmts) (b : Stmts) (end : ℕ) (tail : List Token) (r : Parsed) (n : ℕ) (rest : Stmts) → view rest ≡ b → StmtsDerive rest → AreShallow n rest → ReadsTo r (λ x. IsStatementRead view (inside rest end tail) x.0 x.1.now) → ReadsTo r (λ x. IsFirst n b end tail x.0 x.1.now)
first-is view b end tail (Ok x) n rest is d s read = record { rest = rest; whole = read.0 rest ∙ is; parts = read.1; derives = d; shallow = s }
first-is view b end tail (Err fault.NoKernel) n rest is d s read = read
first-is view b end tail (Err fault.Memory) n rest is d s read = tt

-- the statements that begin with a token have this lead
abbrev pub Leads : Lead → Token → List Token → Type 0
Leads l t ts = (b : Stmts) (end : ℕ) (tail : List Token) → t ∷ ts ≡ inside b end tail → Some l ≡ lead_of_stmts b

-- a statement with this lead is parsed, where these are the tokens
abbrev pub IsParsed : Lead → Token → List Token → Parsed → Type 0
IsParsed l t ts r = Leads l t ts → (b : Stmts) (end : ℕ) (tail : List Token) (n : ℕ) → t ∷ ts ≡ inside b end tail → StmtsDerive b → AreShallow n b → ReadsTo r (λ x. IsFirst n b end tail x.0 x.1.now)

pub let-parsed : (t : Token) (ts : List Token) (r : Parsed)
    → ((name_line : ℕ) (name : List ℕ) (sign_line : ℕ) (value : Tree) (us after : List Token) → ts ≡ named name_line name ∷ mark sign_line sign.Assign ∷ us → IsExpression us value after → ReadsTo r (λ x. IsStatementRead (Let t.line name_line name sign_line value) after x.0 x.1.now))
    → IsParsed lead.Let t ts r
let-parsed t ts r f is b end tail n e d s = same b (seen (Some lead.Let) b (is b end tail e)) e d s
  where
    same : (b : Stmts) → View (Some lead.Let) b → t ∷ ts ≡ inside b end tail → StmtsDerive b → AreShallow n b → ReadsTo r (λ x. IsFirst n b end tail x.0 x.1.now)
    same _ (IsLet line name_line name sign_line value rest) e d s =
        let a = heads-is _ _ _ _ e in
        first-is (Let t.line name_line name sign_line value) (Let line name_line name sign_line value rest) end tail r n rest (ap (λ (l : ℕ). Let l name_line name sign_line value rest) a.0) d.1 s.1
        (f name_line name sign_line value _ _ a.2 (before-stmts value rest end tail d.0 s.0))

pub assign-parsed : (t : Token) (ts : List Token) (x : List ℕ) (r : Parsed) → ((name : List ℕ) → t.lexeme ≡ Named name → x ≡ name)
    → ((sign_line : ℕ) (value : Tree) (us after : List Token) → ts ≡ mark sign_line sign.Assign ∷ us → IsExpression us value after → ReadsTo r (λ y. IsStatementRead (Assign t.line x sign_line value) after y.0 y.1.now))
    → IsParsed lead.Assign t ts r
assign-parsed t ts x r name_is f is b end tail n e d s = same b (seen (Some lead.Assign) b (is b end tail e)) e d s
  where
    same : (b : Stmts) → View (Some lead.Assign) b → t ∷ ts ≡ inside b end tail → StmtsDerive b → AreShallow n b → ReadsTo r (λ x. IsFirst n b end tail x.0 x.1.now)
    same _ (IsAssign line name sign_line value rest) e d s =
        let a = heads-is _ _ _ _ e in
        let m : x ≡ name = name_is name a.1 in
        first-is (Assign t.line x sign_line value) (Assign line name sign_line value rest) end tail r n rest (ap (λ (l : ℕ). Assign l x sign_line value rest) a.0 ∙ ap (λ (y : List ℕ). Assign line y sign_line value rest) m) d.1 s.1
        (f sign_line value _ _ a.2 (before-stmts value rest end tail d.0 s.0))

pub store-parsed : (t : Token) (ts : List Token) (x : List ℕ) (r : Parsed) → ((name : List ℕ) → t.lexeme ≡ Named name → x ≡ name)
    → ((opened : ℕ) (index : Tree) (closed sign_line : ℕ) (value : Tree) (us vs after : List Token) → ts ≡ mark opened sign.OpenBracket ∷ us → IsExpression us index (mark closed sign.CloseBracket ∷ mark sign_line sign.Assign ∷ vs) → IsExpression vs value after → ReadsTo r (λ y. IsStatementRead (Store t.line x opened index closed sign_line value) after y.0 y.1.now))
    → IsParsed lead.Store t ts r
store-parsed t ts x r name_is f is b end tail n e d s = same b (seen (Some lead.Store) b (is b end tail e)) e d s
  where
    same : (b : Stmts) → View (Some lead.Store) b → t ∷ ts ≡ inside b end tail → StmtsDerive b → AreShallow n b → ReadsTo r (λ x. IsFirst n b end tail x.0 x.1.now)
    same _ (IsStore line name opened index closed sign_line value rest) e d s =
        let a = heads-is _ _ _ _ e in
        let m : x ≡ name = name_is name a.1 in
        let behind : List Token = mark closed sign.CloseBracket ∷ mark sign_line sign.Assign ∷ tree_tokens value ++ stmts_tokens rest in
        first-is (Store t.line x opened index closed sign_line value) (Store line name opened index closed sign_line value rest) end tail r n rest
        (ap (λ (l : ℕ). Store l x opened index closed sign_line value rest) a.0 ∙ ap (λ (y : List ℕ). Store line y opened index closed sign_line value rest) m) d.2 s.2
        (f opened index closed sign_line value _ _ _ a.2 (record { parts = append_assoc (tree_tokens index) behind _; derives = d.0; flat = s.0; ends = stops-at expr _ (refl, refl) }) (before-stmts value rest end tail d.1 s.1))

pub update-parsed : (t : Token) (ts : List Token) (r : Parsed)
    → ((name_line : ℕ) (name : List ℕ) (opened : ℕ) (index : Tree) (closed : ℕ) (minus : Bool) (sign_line : ℕ) (value : Tree) (us vs after : List Token) → ts ≡ named name_line name ∷ mark opened sign.OpenBracket ∷ us
    → IsExpression us index (mark closed sign.CloseBracket ∷ mark sign_line (update_sign minus) ∷ vs) → IsExpression vs value after → ReadsTo r (λ x. IsStatementRead (Update t.line name_line name opened index closed minus sign_line value) after x.0 x.1.now))
    → IsParsed lead.Update t ts r
update-parsed t ts r f is b end tail n e d s = same b (seen (Some lead.Update) b (is b end tail e)) e d s
  where
    same : (b : Stmts) → View (Some lead.Update) b → t ∷ ts ≡ inside b end tail → StmtsDerive b → AreShallow n b → ReadsTo r (λ x. IsFirst n b end tail x.0 x.1.now)
    same _ (IsUpdate line name_line name opened index closed minus sign_line value rest) e d s =
        let a = heads-is _ _ _ _ e in
        let behind : List Token = mark closed sign.CloseBracket ∷ mark sign_line (update_sign minus) ∷ tree_tokens value ++ stmts_tokens rest in
        first-is (Update t.line name_line name opened index closed minus sign_line value) (Update line name_line name opened index closed minus sign_line value rest) end tail r n rest
        (ap (λ (l : ℕ). Update l name_line name opened index closed minus sign_line value rest) a.0) d.2 s.2
        (f name_line name opened index closed minus sign_line value _ _ _ a.2 (record { parts = append_assoc (tree_tokens index) behind _; derives = d.0; flat = s.0; ends = stops-at expr _ (refl, refl) }) (before-stmts value rest end tail d.1 s.1))

-- a block before statements
block-before : (n opened : ℕ) (body : Stmts) (closed : ℕ) (b : Stmts) (end : ℕ) (tail : List Token) → StmtsDerive body → AreShallow n body
    → IsBlockRead ((block opened (stmts_tokens body) closed ++ stmts_tokens b) ++ mark end sign.CloseBrace ∷ tail) opened body closed (inside b end tail)
block-before n opened body closed b end tail d s = record { levels = n; parts = body-opens opened body closed b end tail; derives = d; shallow = s }

-- a block before other tokens
block-more : (opened : ℕ) (body : Stmts) (closed : ℕ) (us vs : List Token) → (block opened (stmts_tokens body) closed ++ us) ++ vs ≡ mark opened sign.OpenBrace ∷ inside body closed (us ++ vs)
block-more opened body closed us vs =
    append_assoc (block opened (stmts_tokens body) closed) us vs ∙ ap (λ (ts : List Token). mark opened sign.OpenBrace ∷ ts) (append_assoc (stmts_tokens body) (mark closed sign.CloseBrace ∷ []) (us ++ vs))

pub if-parsed : (t : Token) (ts : List Token) (r : Parsed)
    → ((test : Tree) (opened : ℕ) (body : Stmts) (closed : ℕ) (us after : List Token) → IsExpression ts test us → IsBlockRead us opened body closed after → (StartsWith (Reserved word.Else) after → ⊥) → ReadsTo r (λ x. IsStatementRead (If t.line test opened body closed) after x.0 x.1.now))
    → ((test : Tree) (opened : ℕ) (body : Stmts) (closed else_line else_opened : ℕ) (other : Stmts) (else_closed : ℕ) (us vs after : List Token) → IsExpression ts test us → IsBlockRead us opened body closed (reserved else_line word.Else ∷ vs) → IsBlockRead vs else_opened other else_closed after
    → ReadsTo r (λ x. IsStatementRead (IfElse t.line test opened body closed else_line else_opened other else_closed) after x.0 x.1.now))
    → IsParsed lead.If t ts r
if-parsed t ts r f g is b end tail n e d s = same b (seen (Some lead.If) b (is b end tail e)) e d s
  where
    same : (b : Stmts) → View (Some lead.If) b → t ∷ ts ≡ inside b end tail → StmtsDerive b → AreShallow n b → ReadsTo r (λ x. IsFirst n b end tail x.0 x.1.now)
    same _ (IsIf line test opened body closed rest) e d s =
        let a = heads-is _ _ _ _ e in
        let behind : List Token = block opened (stmts_tokens body) closed ++ stmts_tokens rest in
        first-is (If t.line test opened body closed) (If line test opened body closed rest) end tail r n rest (ap (λ (l : ℕ). If l test opened body closed rest) a.0) d.2 s.3
        (f test opened body closed _ _ (record { parts = a.2 ∙ append_assoc (tree_tokens test) behind _; derives = d.0; flat = s.0; ends = stops-at expr _ (refl, refl) }) (block-before (n - 1) opened body closed rest end tail d.1 s.2) (no-else rest end tail))
    same _ (IsIfElse line test opened body closed else_line else_opened other else_closed rest) e d s =
        let a = heads-is _ _ _ _ e in
        let second : List Token = reserved else_line word.Else ∷ block else_opened (stmts_tokens other) else_closed ++ stmts_tokens rest in
        let behind : List Token = block opened (stmts_tokens body) closed ++ second in
        first-is (IfElse t.line test opened body closed else_line else_opened other else_closed) (IfElse line test opened body closed else_line else_opened other else_closed rest) end tail r n rest
        (ap (λ (l : ℕ). IfElse l test opened body closed else_line else_opened other else_closed rest) a.0) d.3 s.4
        (g test opened body closed else_line else_opened other else_closed _ _ _ (record { parts = a.2 ∙ append_assoc (tree_tokens test) behind _; derives = d.0; flat = s.0; ends = stops-at expr _ (refl, refl) })
        (record { levels = n - 1; parts = block-more opened body closed second _; derives = d.1; shallow = s.2 }) (block-before (n - 1) else_opened other else_closed rest end tail d.2 s.3))

-- the bounds of a loop before a block
from-before : (from : Tree) (dots : ℕ) (to : Tree) (behind last : List Token)
    → ((tree_tokens from ++ mark dots sign.Dots ∷ tree_tokens to) ++ behind) ++ last ≡ tree_tokens from ++ mark dots sign.Dots ∷ ((tree_tokens to ++ behind) ++ last)
from-before from dots to behind last =
    ap (λ (us : List Token). us ++ last) (append_assoc (tree_tokens from) (mark dots sign.Dots ∷ tree_tokens to) behind) ∙ append_assoc (tree_tokens from) (mark dots sign.Dots ∷ tree_tokens to ++ behind) last

pub loop-parsed : (t : Token) (ts : List Token) (r : Parsed)
    → ((name_line : ℕ) (name : List ℕ) (in_line : ℕ) (from : Tree) (dots : ℕ) (to : Tree) (opened : ℕ) (body : Stmts) (closed : ℕ) (us vs ws after : List Token) → ts ≡ named name_line name ∷ reserved in_line word.In ∷ us → IsExpression us from (mark dots sign.Dots ∷ vs) → IsExpression vs to ws → IsBlockRead ws opened body closed after
    → ReadsTo r (λ x. IsStatementRead (Loop t.line name_line name in_line from dots to opened body closed) after x.0 x.1.now))
    → IsParsed lead.Loop t ts r
loop-parsed t ts r f is b end tail n e d s = same b (seen (Some lead.Loop) b (is b end tail e)) e d s
  where
    same : (b : Stmts) → View (Some lead.Loop) b → t ∷ ts ≡ inside b end tail → StmtsDerive b → AreShallow n b → ReadsTo r (λ x. IsFirst n b end tail x.0 x.1.now)
    same _ (IsLoop line name_line name in_line from dots to opened body closed rest) e d s =
        let a = heads-is _ _ _ _ e in
        let behind : List Token = block opened (stmts_tokens body) closed ++ stmts_tokens rest in
        first-is (Loop t.line name_line name in_line from dots to opened body closed) (Loop line name_line name in_line from dots to opened body closed rest) end tail r n rest
        (ap (λ (l : ℕ). Loop l name_line name in_line from dots to opened body closed rest) a.0) d.3 s.4
        (f name_line name in_line from dots to opened body closed _ _ _ _ a.2 (record { parts = from-before from dots to behind _; derives = d.0; flat = s.0; ends = stops-at expr _ (refl, refl) })
        (record { parts = append_assoc (tree_tokens to) behind _; derives = d.1; flat = s.1; ends = stops-at expr _ (refl, refl) }) (block-before (n - 1) opened body closed rest end tail d.2 s.3))

pub parallel-parsed : (t : Token) (ts : List Token) (r : Parsed)
    → ((number_line : ℕ) (span : ℤ) (opened : ℕ) (body : Stmts) (closed : ℕ) (us after : List Token) → ts ≡ number number_line span ∷ us → IsBlockRead us opened body closed after → ReadsTo r (λ x. IsStatementRead (Parallel t.line number_line span opened body closed) after x.0 x.1.now))
    → IsParsed lead.Parallel t ts r
parallel-parsed t ts r f is b end tail n e d s = same b (seen (Some lead.Parallel) b (is b end tail e)) e d s
  where
    same : (b : Stmts) → View (Some lead.Parallel) b → t ∷ ts ≡ inside b end tail → StmtsDerive b → AreShallow n b → ReadsTo r (λ x. IsFirst n b end tail x.0 x.1.now)
    same _ (IsParallel line number_line span opened body closed rest) e d s =
        let a = heads-is _ _ _ _ e in
        first-is (Parallel t.line number_line span opened body closed) (Parallel line number_line span opened body closed rest) end tail r n rest (ap (λ (l : ℕ). Parallel l number_line span opened body closed rest) a.0) d.1 s.2
        (f number_line span opened body closed _ _ a.2 (block-before (n - 1) opened body closed rest end tail d.0 s.1))

pub for-parsed : (t : Token) (ts : List Token) (r : Parsed)
    → ((name_line : ℕ) (name : List ℕ) (in_line : ℕ) (from : Tree) (dots : ℕ) (to : Tree) (schedule : ScheduleTree) (nowait : Option ℕ) (opened : ℕ) (body : Stmts) (closed : ℕ) (us vs ws after : List Token) → ts ≡ named name_line name ∷ reserved in_line word.In ∷ us → IsExpression us from (mark dots sign.Dots ∷ vs)
    → IsExpression vs to (schedule_tokens schedule ++ (nowait_tokens nowait ++ mark opened sign.OpenBrace ∷ ws)) → IsBlockRead (mark opened sign.OpenBrace ∷ ws) opened body closed after
    → ReadsTo r (λ x. IsStatementRead (For t.line name_line name in_line from dots to schedule nowait opened body closed) after x.0 x.1.now))
    → IsParsed lead.For t ts r
for-parsed t ts r f is b end tail n e d s = same b (seen (Some lead.For) b (is b end tail e)) e d s
  where
    same : (b : Stmts) → View (Some lead.For) b → t ∷ ts ≡ inside b end tail → StmtsDerive b → AreShallow n b → ReadsTo r (λ x. IsFirst n b end tail x.0 x.1.now)
    same _ (IsFor line name_line name in_line from dots to schedule nowait opened body closed rest) e d s =
        let a = heads-is _ _ _ _ e in
        let block_on : List Token = block opened (stmts_tokens body) closed ++ stmts_tokens rest in
        let wait_on : List Token = nowait_tokens nowait ++ block_on in
        let behind : List Token = schedule_tokens schedule ++ wait_on in
        let inner : List Token = inside body closed (inside rest end tail) in
        let opens : behind ++ mark end sign.CloseBrace ∷ tail ≡ schedule_tokens schedule ++ (nowait_tokens nowait ++ mark opened sign.OpenBrace ∷ inner) =
        append_assoc (schedule_tokens schedule) wait_on _ ∙ ap (λ (us : List Token). schedule_tokens schedule ++ us) (append_assoc (nowait_tokens nowait) block_on _
        ∙ ap (λ (us : List Token). nowait_tokens nowait ++ us) (body-opens opened body closed rest end tail)) in
        first-is (For t.line name_line name in_line from dots to schedule nowait opened body closed) (For line name_line name in_line from dots to schedule nowait opened body closed rest) end tail r n rest
        (ap (λ (l : ℕ). For l name_line name in_line from dots to schedule nowait opened body closed rest) a.0) d.3 s.4
        (f name_line name in_line from dots to schedule nowait opened body closed _ _ inner _ a.2 (record { parts = from-before from dots to behind _; derives = d.0; flat = s.0; ends = stops-at expr _ (refl, refl) })
        (record { parts = append_assoc (tree_tokens to) behind _ ∙ ap (λ (us : List Token). tree_tokens to ++ us) opens; derives = d.1; flat = s.1; ends = follows-schedule schedule nowait opened inner })
        (record { levels = n - 1; parts = refl; derives = d.2; shallow = s.3 }))

pub barrier-parsed : (t : Token) (ts : List Token) (r : Parsed) → ReadsTo r (λ x. IsStatementRead (Barrier t.line) ts x.0 x.1.now) → IsParsed lead.Barrier t ts r
barrier-parsed t ts r f is b end tail n e d s = same b (seen (Some lead.Barrier) b (is b end tail e)) e d s
  where
    same : (b : Stmts) → View (Some lead.Barrier) b → t ∷ ts ≡ inside b end tail → StmtsDerive b → AreShallow n b → ReadsTo r (λ x. IsFirst n b end tail x.0 x.1.now)
    same _ (IsBarrier line rest) e d s = let a = heads-is _ _ _ _ e in first-is (Barrier t.line) (Barrier line rest) end tail r n rest (ap (λ (l : ℕ). Barrier l rest) a.0) d s (rw (← a.2) f)

pub critical-parsed : (t : Token) (ts : List Token) (r : Parsed)
    → ((opened : ℕ) (body : Stmts) (closed : ℕ) (after : List Token) → IsBlockRead ts opened body closed after → ReadsTo r (λ x. IsStatementRead (Critical t.line opened body closed) after x.0 x.1.now))
    → ((name_line : ℕ) (name : List ℕ) (opened : ℕ) (body : Stmts) (closed : ℕ) (us after : List Token) → ts ≡ named name_line name ∷ us → IsBlockRead us opened body closed after → ReadsTo r (λ x. IsStatementRead (CriticalOf t.line name_line name opened body closed) after x.0 x.1.now))
    → IsParsed lead.Critical t ts r
critical-parsed t ts r f g is b end tail n e d s = same b (seen (Some lead.Critical) b (is b end tail e)) e d s
  where
    same : (b : Stmts) → View (Some lead.Critical) b → t ∷ ts ≡ inside b end tail → StmtsDerive b → AreShallow n b → ReadsTo r (λ x. IsFirst n b end tail x.0 x.1.now)
    same _ (IsCritical line opened body closed rest) e d s =
        let a = heads-is _ _ _ _ e in
        first-is (Critical t.line opened body closed) (Critical line opened body closed rest) end tail r n rest (ap (λ (l : ℕ). Critical l opened body closed rest) a.0) d.1 s.2
        (f opened body closed _ (record { levels = n - 1; parts = a.2 ∙ body-opens opened body closed rest end tail; derives = d.0; shallow = s.1 }))
    same _ (IsCriticalOf line name_line name opened body closed rest) e d s =
        let a = heads-is _ _ _ _ e in
        first-is (CriticalOf t.line name_line name opened body closed) (CriticalOf line name_line name opened body closed rest) end tail r n rest (ap (λ (l : ℕ). CriticalOf l name_line name opened body closed rest) a.0) d.1 s.2
        (g name_line name opened body closed _ _ a.2 (block-before (n - 1) opened body closed rest end tail d.0 s.1))
