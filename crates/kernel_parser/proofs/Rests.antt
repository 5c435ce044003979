-- Statements and declarations one after the other, as a loop reads them.
use Rattle.std.proofs.Common.{◌≡◌, ℕ, List, [], ◌∷◌, ◌++◌, None, Ok, Err, Result, Bor, sym, ap, ◌∙◌}
use Rattle.kernel_text.specs.declared.token.Token.{Token}
use Rattle.kernel_text.specs.Grammar.{Stmts, NoMore, Let, Assign, Store, Update, If, IfElse, Loop, Parallel, For, Barrier, Critical, CriticalOf, StmtsDerive, AreShallow}
use Rattle.kernel_parser.specs.declared.fault.ParseFault.{ParseFault}
use Rattle.kernel_parser.specs.declared.fault.ParseFault.TheVariants as fault
use Rattle.kernel_parser.specs.declared.tree.Statement.{Statement}
use Rattle.kernel_parser.specs.Trees.{stmts_before, stmts_of}
use Rattle.kernel_parser.specs.Parsing.{IsBlockRead, IsFirst, ReadsTo, inside, lead_of_stmts}
use Rattle.kernel_parser.proofs.Equations.{before_push}
use Rattle.kernel_parser.proofs.Signs.{heads-is}
use Rattle.kernel_parser.proofs.Heading.{View, IsEnd, seen}

-- a fault is the same for all that may be due
pub only-fault : {X Y : Type 0} (IsDue : X → Type 0) (IsOther : Y → Type 0) (f : ParseFault) → ReadsTo (Err f) IsDue → ReadsTo (Err f) IsOther
only-fault IsDue IsOther fault.NoKernel reads = reads
only-fault IsDue IsOther fault.Memory reads = tt

pub block-at : (us ts : List Token) (opened : ℕ) (body : Stmts) (closed : ℕ) (after : List Token) → us ≡ ts → IsBlockRead ts opened body closed after → IsBlockRead us opened body closed after
block-at us ts opened body closed after e is = rw e is

-- these statements of a body are left, behind the ones that were read
pub record IsLeft (opened line : ℕ) (body : Stmts) (closed : ℕ) (after : List Token) (made : List Statement) (ts : List Token) : Type 0 where
  pub rest : Stmts
  pub levels : ℕ
  pub opens : line ≡ opened
  pub whole : stmts_before made rest ≡ body
  pub parts : ts ≡ inside rest closed after
  pub derives : StmtsDerive rest
  pub shallow : AreShallow levels rest

abbrev pub Leaves : List Token → ℕ → List Statement → List Token → Type 0
Leaves ts line made left = (opened : ℕ) (body : Stmts) (closed : ℕ) (after : List Token) → IsBlockRead ts opened body closed after → IsLeft opened line body closed after made left

-- what the first of the statements is read as
abbrev FirstReads : Token → List Token → Result (Statement × Bor (List Token)) ParseFault → Type 0
FirstReads t ts r = (b : Stmts) (end : ℕ) (tail : List Token) (n : ℕ) → t ∷ ts ≡ inside b end tail → StmtsDerive b → AreShallow n b → ReadsTo r (λ x. IsFirst n b end tail x.0 x.1.now)

-- the next of them is read, too
pub left-steps : (all : List Token) (line : ℕ) (made more : List Statement) (ts us : List Token) (t : Token) (x : Statement × Bor (List Token)) → Leaves all line made ts → ts ≡ t ∷ us
    → FirstReads t us (Ok x) → more ≡ made ++ x.0 ∷ [] → Leaves all line more x.1.now
left-steps all line made more ts us t x leaves split reads more_is opened body closed after is =
    let l = leaves opened body closed after is in
    let e : t ∷ us ≡ inside l.rest closed after = sym split ∙ l.parts in
    let r = reads l.rest closed after l.levels e l.derives l.shallow in
    record {
      rest = r.rest;
      levels = l.levels;
      opens = l.opens;
      whole = ap (λ (xs : List Statement). stmts_before xs r.rest) more_is ∙ before_push made x.0 r.rest ∙ ap (stmts_before made) r.whole ∙ l.whole;
      parts = r.parts;
      derives = r.derives;
      shallow = r.shallow;
    }

-- no first is refused
pub left-fails : {X : Type 0} (IsDue : X → Type 0) (all : List Token) (line : ℕ) (made : List Statement) (ts us : List Token) (t : Token) (f : ParseFault) → Leaves all line made ts → ts ≡ t ∷ us
    → FirstReads t us (Err f) → (opened : ℕ) (body : Stmts) (closed : ℕ) (after : List Token) → IsBlockRead all opened body closed after → ReadsTo (Err f) IsDue
left-fails IsDue all line made ts us t fault.NoKernel leaves split reads opened body closed after is =
    let l = leaves opened body closed after is in
    let e : t ∷ us ≡ inside l.rest closed after = sym split ∙ l.parts in
    reads l.rest closed after l.levels e l.derives l.shallow
left-fails IsDue all line made ts us t fault.Memory leaves split reads opened body closed after is = tt

-- at the brace, all statements were read
pub left-ends : (all : List Token) (line : ℕ) (made : List Statement) (ts us : List Token) (t : Token) → Leaves all line made ts → ts ≡ t ∷ us → ((b : Stmts) (end : ℕ) (tail : List Token) → t ∷ us ≡ inside b end tail → None ≡ lead_of_stmts b)
    → (opened : ℕ) (body : Stmts) (closed : ℕ) (after : List Token) → IsBlockRead all opened body closed after → (line ≡ opened) × (stmts_of made ≡ body) × (t.line ≡ closed) × (us ≡ after)
left-ends all line made ts us t leaves split ended opened body closed after is =
    let l = leaves opened body closed after is in
    let e : t ∷ us ≡ inside l.rest closed after = sym split ∙ l.parts in
    let r = ends l.rest (seen None l.rest (ended l.rest closed after e)) e l.whole in (l.opens, r.0, r.1, r.2)
  where
    ends : (rest : Stmts) → View None rest → t ∷ us ≡ inside rest closed after → stmts_before made rest ≡ body → (stmts_of made ≡ body) × (t.line ≡ closed) × (us ≡ after)
    ends _ IsEnd e whole = let a = heads-is _ _ _ _ e in (whole, a.0, a.2)

-- tokens of statements aren't none
pub never-none : (all : List Token) (line : ℕ) (made : List Statement) (ts : List Token) → Leaves all line made ts → ts ≡ [] → (opened : ℕ) (body : Stmts) (closed : ℕ) (after : List Token) → IsBlockRead all opened body closed after → ⊥
never-none all line made ts leaves none opened body closed after is =
    let l = leaves opened body closed after is in some-tokens l.rest closed after (sym none ∙ l.parts)
  where
    some-tokens : (b : Stmts) (end : ℕ) (tail : List Token) → [] ≡ inside b end tail → ⊥
    some-tokens NoMore end tail e = absurd cc
    some-tokens (Let line name_line name sign_line value rest) end tail e = absurd cc
    some-tokens (Assign line name sign_line value rest) end tail e = absurd cc
    some-tokens (Store line name opened index closed sign_line value rest) end tail e = absurd cc
    some-tokens (Update line name_line name opened index closed minus sign_line value rest) end tail e = absurd cc
    some-tokens (If line test opened if_true closed rest) end tail e = absurd cc
    some-tokens (IfElse line test opened if_true closed else_line else_opened if_false else_closed rest) end tail e = absurd cc
    some-tokens (Loop line name_line name in_line from dots to opened body closed rest) end tail e = absurd cc
    some-tokens (Parallel line number_line span opened body closed rest) end tail e = absurd cc
    some-tokens (For line name_line name in_line from dots to schedule nowait opened body closed rest) end tail e = absurd cc
    some-tokens (Barrier line rest) end tail e = absurd cc
    some-tokens (Critical line opened body closed rest) end tail e = absurd cc
    some-tokens (CriticalOf line name_line name opened body closed rest) end tail e = absurd cc
