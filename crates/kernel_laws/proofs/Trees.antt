-- The tokens of a kernel are those of one tree by the grammar.
use Rattle.std.proofs.Common.{◌≡◌, ℕ, Bool, true, false, List, [], ◌∷◌, ◌++◌, drop, Option, Some, None, refl, sym, ap, ◌∙◌, append_assoc}
use Rattle.std.specs.Prelude.{ℤ, ◌-◌}
use Rattle.kernel_text.specs.declared.token.Word.TheVariants as word
use Rattle.kernel_text.specs.declared.token.Sign.{Sign}
use Rattle.kernel_text.specs.declared.token.Sign.TheVariants as sign
use Rattle.kernel_text.specs.declared.token.Lexeme.TheVariants.{Named, Number, Mark}
use Rattle.kernel_text.specs.declared.token.Token.{Token}
use Rattle.kernel_text.specs.Grammar.{Tree, tree_tokens, Derives, expr, IsFlat, mark, reserved, block, ScheduleTree, Unsaid, Static, StaticBy, Dynamic, DynamicBy, schedule_tokens, nowait_tokens, update_sign, Stmts, NoMore, Let, Assign, Store, Update, If, IfElse, Loop, Parallel, For, Barrier, Critical, CriticalOf, stmts_tokens, StmtsDerive, AreShallow, Declaration, ArrayOf, MutexOf, declarations_tokens, KernelTree, kernel_tokens, IsKernel}
use Rattle.kernel_text.specs.Faults.{IsShallow}
use Rattle.kernel_text.proofs.Levels.{shallow_is_low}
use Rattle.kernel_parser.specs.declared.lookahead.Lead.TheVariants as lead
use Rattle.kernel_parser.specs.Parsing.{IsExpression, inside}
use Rattle.kernel_parser.proofs.Signs.{heads-is, begins-with, stops-at}
use Rattle.kernel_laws.proofs.Lookaheads.{line_of, number_of, is_number, is_static, is_dynamic, is_nowait, lead-same}
use Rattle.kernel_laws.proofs.OneExpression.{one-expression}
use Rattle.kernel_parser.proofs.Heading.{follows-schedule, no-else, before-stmts, block-opens, body-opens, View, IsEnd, IsLet, IsAssign, IsStore, IsUpdate, IsIf, IsIfElse, IsLoop, IsParallel, IsFor, IsBarrier, IsCritical, IsCriticalOf, seen}

-- statements with these tokens, the brace behind them, and the tokens behind it
abbrev AreOnly : Stmts → Type 0
AreOnly b = (c : Stmts) (n m end last : ℕ) (tail after : List Token) → inside b end tail ≡ inside c last after → StmtsDerive b → StmtsDerive c → AreShallow n b → AreShallow m c → (b ≡ c) × (end ≡ last) × (tail ≡ after)

only-let : (line name_line : ℕ) (name : List ℕ) (sign_line : ℕ) (value : Tree) (rest : Stmts) → AreOnly rest → AreOnly (Let line name_line name sign_line value rest)
only-let line name_line name sign_line value rest more c n m end last tail after e d g s h = same c (seen (Some lead.Let) c (lead-same (Let line name_line name sign_line value rest) c end last tail after e)) e g h
  where
    same : (c : Stmts) → View (Some lead.Let) c → inside (Let line name_line name sign_line value rest) end tail ≡ inside c last after → StmtsDerive c → AreShallow m c
        → (Let line name_line name sign_line value rest ≡ c) × (end ≡ last) × (tail ≡ after)
    same _ (IsLet line2 name_line2 name2 sign_line2 value2 rest2) e g h =
        let a = heads-is _ _ _ _ e in
        let b = heads-is _ _ _ _ a.2 in
        let c = heads-is _ _ _ _ b.2 in
        let v = one-expression _ _ value value2 _ _ c.2 (before-stmts value rest end tail d.0 s.0) (before-stmts value2 rest2 last after g.0 h.0) in
        let r = more rest2 n m end last tail after v.1 d.1 g.1 s.1 h.1 in (cc, r.1, r.2)

only-end : AreOnly NoMore
only-end c n m end last tail after e d g s h = same c (seen None c (lead-same NoMore c end last tail after e)) e
  where
    same : (c : Stmts) → View None c → inside NoMore end tail ≡ inside c last after → (NoMore ≡ c) × (end ≡ last) × (tail ≡ after)
    same _ IsEnd e = let a = heads-is _ _ _ _ e in (refl, a.0, a.2)

only-assign : (line : ℕ) (name : List ℕ) (sign_line : ℕ) (value : Tree) (rest : Stmts) → AreOnly rest → AreOnly (Assign line name sign_line value rest)
only-assign line name sign_line value rest more c n m end last tail after e d g s h = same c (seen (Some lead.Assign) c (lead-same (Assign line name sign_line value rest) c end last tail after e)) e g h
  where
    same : (c : Stmts) → View (Some lead.Assign) c → inside (Assign line name sign_line value rest) end tail ≡ inside c last after → StmtsDerive c → AreShallow m c
        → (Assign line name sign_line value rest ≡ c) × (end ≡ last) × (tail ≡ after)
    same _ (IsAssign line2 name2 sign_line2 value2 rest2) e g h =
        let a = heads-is _ _ _ _ e in
        let b = heads-is _ _ _ _ a.2 in
        let v = one-expression _ _ value value2 _ _ b.2 (before-stmts value rest end tail d.0 s.0) (before-stmts value2 rest2 last after g.0 h.0) in
        let r = more rest2 n m end last tail after v.1 d.1 g.1 s.1 h.1 in (cc, r.1, r.2)

only-barrier : (line : ℕ) (rest : Stmts) → AreOnly rest → AreOnly (Barrier line rest)
only-barrier line rest more c n m end last tail after e d g s h = same c (seen (Some lead.Barrier) c (lead-same (Barrier line rest) c end last tail after e)) e g h
  where
    same : (c : Stmts) → View (Some lead.Barrier) c → inside (Barrier line rest) end tail ≡ inside c last after → StmtsDerive c → AreShallow m c → (Barrier line rest ≡ c) × (end ≡ last) × (tail ≡ after)
    same _ (IsBarrier line2 rest2) e g h =
        let a = heads-is _ _ _ _ e in
        let r = more rest2 n m end last tail after a.2 d g s h in (cc, r.1, r.2)

-- a block and the statements behind it
one-block : (opened opened2 : ℕ) (body body2 : Stmts) (closed closed2 : ℕ) (behind behind2 : List Token) (n m : ℕ) → AreOnly body
    → mark opened sign.OpenBrace ∷ inside body closed behind ≡ mark opened2 sign.OpenBrace ∷ inside body2 closed2 behind2 → StmtsDerive body → StmtsDerive body2 → AreShallow n body → AreShallow m body2
    → (opened ≡ opened2) × (body ≡ body2) × (closed ≡ closed2) × (behind ≡ behind2)
one-block opened opened2 body body2 closed closed2 behind behind2 n m only e d g s h =
    let a = heads-is _ _ _ _ e in let r = only body2 n m closed closed2 behind behind2 a.2 d g s h in (a.0, r.0, r.1, r.2)

only-parallel : (line number_line : ℕ) (span : ℤ) (opened : ℕ) (body : Stmts) (closed : ℕ) (rest : Stmts) → AreOnly body → AreOnly rest → AreOnly (Parallel line number_line span opened body closed rest)
only-parallel line number_line span opened body closed rest only more c n m end last tail after e d g s h = same c (seen (Some lead.Parallel) c (lead-same (Parallel line number_line span opened body closed rest) c end last tail after e)) e g h
  where
    same : (c : Stmts) → View (Some lead.Parallel) c → inside (Parallel line number_line span opened body closed rest) end tail ≡ inside c last after → StmtsDerive c → AreShallow m c
        → (Parallel line number_line span opened body closed rest ≡ c) × (end ≡ last) × (tail ≡ after)
    same _ (IsParallel line2 number_line2 span2 opened2 body2 closed2 rest2) e g h =
        let a = heads-is _ _ _ _ e in
        let b = heads-is _ _ _ _ a.2 in
        let k = one-block opened opened2 body body2 closed closed2 _ _ (n - 1) (m - 1) only (sym (body-opens opened body closed rest end tail) ∙ b.2 ∙ body-opens opened2 body2 closed2 rest2 last after) d.0 g.0 s.1 h.1 in
        let r = more rest2 n m end last tail after k.3 d.1 g.1 s.2 h.2 in (cc, r.1, r.2)

only-critical : (line opened : ℕ) (body : Stmts) (closed : ℕ) (rest : Stmts) → AreOnly body → AreOnly rest → AreOnly (Critical line opened body closed rest)
only-critical line opened body closed rest only more c n m end last tail after e d g s h = same c (seen (Some lead.Critical) c (lead-same (Critical line opened body closed rest) c end last tail after e)) e g h
  where
    same : (c : Stmts) → View (Some lead.Critical) c → inside (Critical line opened body closed rest) end tail ≡ inside c last after → StmtsDerive c → AreShallow m c
        → (Critical line opened body closed rest ≡ c) × (end ≡ last) × (tail ≡ after)
    same _ (IsCritical line2 opened2 body2 closed2 rest2) e g h =
        let a = heads-is _ _ _ _ e in
        let k = one-block opened opened2 body body2 closed closed2 _ _ (n - 1) (m - 1) only (sym (body-opens opened body closed rest end tail) ∙ a.2 ∙ body-opens opened2 body2 closed2 rest2 last after) d.0 g.0 s.1 h.1 in
        let r = more rest2 n m end last tail after k.3 d.1 g.1 s.2 h.2 in (cc, r.1, r.2)
    same _ (IsCriticalOf line2 name_line2 name2 opened2 body2 closed2 rest2) e g h =
        let a = heads-is _ _ _ _ e in
        let b = heads-is _ _ _ _ a.2 in
        let l = b.1 in absurd cc

only-critical-of : (line name_line : ℕ) (name : List ℕ) (opened : ℕ) (body : Stmts) (closed : ℕ) (rest : Stmts) → AreOnly body → AreOnly rest → AreOnly (CriticalOf line name_line name opened body closed rest)
only-critical-of line name_line name opened body closed rest only more c n m end last tail after e d g s h = same c (seen (Some lead.Critical) c (lead-same (CriticalOf line name_line name opened body closed rest) c end last tail after e)) e g h
  where
    same : (c : Stmts) → View (Some lead.Critical) c → inside (CriticalOf line name_line name opened body closed rest) end tail ≡ inside c last after → StmtsDerive c → AreShallow m c
        → (CriticalOf line name_line name opened body closed rest ≡ c) × (end ≡ last) × (tail ≡ after)
    same _ (IsCritical line2 opened2 body2 closed2 rest2) e g h =
        let a = heads-is _ _ _ _ e in
        let b = heads-is _ _ _ _ a.2 in
        let l = b.1 in absurd cc
    same _ (IsCriticalOf line2 name_line2 name2 opened2 body2 closed2 rest2) e g h =
        let a = heads-is _ _ _ _ e in
        let b = heads-is _ _ _ _ a.2 in
        let l = b.1 in
        let k = one-block opened opened2 body body2 closed closed2 _ _ (n - 1) (m - 1) only (sym (body-opens opened body closed rest end tail) ∙ b.2 ∙ body-opens opened2 body2 closed2 rest2 last after) d.0 g.0 s.1 h.1 in
        let r = more rest2 n m end last tail after k.3 d.1 g.1 s.2 h.2 in (cc, r.1, r.2)

-- an index and a value
index-first : (index : Tree) (closed : ℕ) (sign_is : Sign) (sign_line : ℕ) (value : Tree) (b : Stmts) (end : ℕ) (tail : List Token) → Derives expr index → IsFlat index
    → IsExpression ((tree_tokens index ++ (mark closed sign.CloseBracket ∷ mark sign_line sign_is ∷ tree_tokens value ++ stmts_tokens b)) ++ mark end sign.CloseBrace ∷ tail) index
    (mark closed sign.CloseBracket ∷ mark sign_line sign_is ∷ (tree_tokens value ++ stmts_tokens b) ++ mark end sign.CloseBrace ∷ tail)
index-first index closed sign_is sign_line value b end tail d f = record { parts = append_assoc (tree_tokens index) _ _; derives = d; flat = f; ends = stops-at expr _ (refl, refl) }

only-store : (line : ℕ) (name : List ℕ) (opened : ℕ) (index : Tree) (closed sign_line : ℕ) (value : Tree) (rest : Stmts) → AreOnly rest → AreOnly (Store line name opened index closed sign_line value rest)
only-store line name opened index closed sign_line value rest more c n m end last tail after e d g s h = same c (seen (Some lead.Store) c (lead-same (Store line name opened index closed sign_line value rest) c end last tail after e)) e g h
  where
    same : (c : Stmts) → View (Some lead.Store) c → inside (Store line name opened index closed sign_line value rest) end tail ≡ inside c last after → StmtsDerive c → AreShallow m c
        → (Store line name opened index closed sign_line value rest ≡ c) × (end ≡ last) × (tail ≡ after)
    same _ (IsStore line2 name2 opened2 index2 closed2 sign_line2 value2 rest2) e g h =
        let a = heads-is _ _ _ _ e in
        let b = heads-is _ _ _ _ a.2 in
        let i = one-expression _ _ index index2 _ _ b.2 (index-first index closed sign.Assign sign_line value rest end tail d.0 s.0) (index-first index2 closed2 sign.Assign sign_line2 value2 rest2 last after g.0 h.0) in
        let k = heads-is _ _ _ _ i.1 in
        let l = heads-is _ _ _ _ k.2 in
        let v = one-expression _ _ value value2 _ _ l.2 (before-stmts value rest end tail d.1 s.1) (before-stmts value2 rest2 last after g.1 h.1) in
        let r = more rest2 n m end last tail after v.1 d.2 g.2 s.2 h.2 in (cc, r.1, r.2)

-- an update adds or takes away by its sign
one-sign : (minus minus2 : Bool) → Mark (update_sign minus) ≡ Mark (update_sign minus2) → minus ≡ minus2
one-sign true true e = refl
one-sign false false e = refl
one-sign true false e = absurd cc
one-sign false true e = absurd cc

only-update : (line name_line : ℕ) (name : List ℕ) (opened : ℕ) (index : Tree) (closed : ℕ) (minus : Bool) (sign_line : ℕ) (value : Tree) (rest : Stmts) → AreOnly rest → AreOnly (Update line name_line name opened index closed minus sign_line value rest)
only-update line name_line name opened index closed minus sign_line value rest more c n m end last tail after e d g s h =
    same c (seen (Some lead.Update) c (lead-same (Update line name_line name opened index closed minus sign_line value rest) c end last tail after e)) e g h
  where
    same : (c : Stmts) → View (Some lead.Update) c → inside (Update line name_line name opened index closed minus sign_line value rest) end tail ≡ inside c last after → StmtsDerive c → AreShallow m c
        → (Update line name_line name opened index closed minus sign_line value rest ≡ c) × (end ≡ last) × (tail ≡ after)
    same _ (IsUpdate line2 name_line2 name2 opened2 index2 closed2 minus2 sign_line2 value2 rest2) e g h =
        let a = heads-is _ _ _ _ e in
        let m = heads-is _ _ _ _ a.2 in
        let b = heads-is _ _ _ _ m.2 in
        let i = one-expression _ _ index index2 _ _ b.2 (index-first index closed (update_sign minus) sign_line value rest end tail d.0 s.0) (index-first index2 closed2 (update_sign minus2) sign_line2 value2 rest2 last after g.0 h.0) in
        let k = heads-is _ _ _ _ i.1 in
        let l = heads-is _ _ _ _ k.2 in
        let same_sign = one-sign minus minus2 l.1 in
        let v = one-expression _ _ value value2 _ _ l.2 (before-stmts value rest end tail d.1 s.1) (before-stmts value2 rest2 last after g.1 h.1) in
        let r = more rest2 n _ end last tail after v.1 d.2 g.2 s.2 h.2 in (cc, r.1, r.2)

-- a test and what is behind it
before-block : (test : Tree) (opened : ℕ) (body : Stmts) (closed : ℕ) (b : Stmts) (end : ℕ) (tail : List Token) → Derives expr test → IsFlat test
    → IsExpression ((tree_tokens test ++ (block opened (stmts_tokens body) closed ++ stmts_tokens b)) ++ mark end sign.CloseBrace ∷ tail) test (mark opened sign.OpenBrace ∷ inside body closed (inside b end tail))
before-block test opened body closed b end tail d f =
    record { parts = append_assoc (tree_tokens test) (block opened (stmts_tokens body) closed ++ stmts_tokens b) _ ∙ ap (λ (us : List Token). tree_tokens test ++ us) (body-opens opened body closed b end tail); derives = d; flat = f; ends = stops-at expr _ (refl, refl) }

else-opens : (opened : ℕ) (if_true : Stmts) (closed else_line else_opened : ℕ) (if_false : Stmts) (else_closed : ℕ) (b : Stmts) (end : ℕ) (tail : List Token)
    → (block opened (stmts_tokens if_true) closed ++ (reserved else_line word.Else ∷ block else_opened (stmts_tokens if_false) else_closed ++ stmts_tokens b)) ++ mark end sign.CloseBrace ∷ tail
    ≡ mark opened sign.OpenBrace ∷ inside if_true closed (reserved else_line word.Else ∷ mark else_opened sign.OpenBrace ∷ inside if_false else_closed (inside b end tail))
else-opens opened if_true closed else_line else_opened if_false else_closed b end tail =
    append_assoc (block opened (stmts_tokens if_true) closed) (reserved else_line word.Else ∷ block else_opened (stmts_tokens if_false) else_closed ++ stmts_tokens b) _
    ∙ ap (λ (us : List Token). block opened (stmts_tokens if_true) closed ++ reserved else_line word.Else ∷ us) (body-opens else_opened if_false else_closed b end tail)
    ∙ block-opens opened if_true closed _

before-else : (test : Tree) (opened : ℕ) (if_true : Stmts) (closed else_line else_opened : ℕ) (if_false : Stmts) (else_closed : ℕ) (b : Stmts) (end : ℕ) (tail : List Token) → Derives expr test → IsFlat test
    → IsExpression ((tree_tokens test ++ (block opened (stmts_tokens if_true) closed ++ (reserved else_line word.Else ∷ block else_opened (stmts_tokens if_false) else_closed ++ stmts_tokens b))) ++ mark end sign.CloseBrace ∷ tail) test
    (mark opened sign.OpenBrace ∷ inside if_true closed (reserved else_line word.Else ∷ mark else_opened sign.OpenBrace ∷ inside if_false else_closed (inside b end tail)))
before-else test opened if_true closed else_line else_opened if_false else_closed b end tail d f =
    record { parts = append_assoc (tree_tokens test) _ _ ∙ ap (λ (us : List Token). tree_tokens test ++ us) (else-opens opened if_true closed else_line else_opened if_false else_closed b end tail); derives = d; flat = f; ends = stops-at expr _ (refl, refl) }

no-else-here : (b : Stmts) (end : ℕ) (tail : List Token) (line : ℕ) (ts : List Token) → inside b end tail ≡ reserved line word.Else ∷ ts → ⊥
no-else-here b end tail line ts e = no-else b end tail (begins-with (reserved line word.Else) ts _ e)

only-if : (line : ℕ) (test : Tree) (opened : ℕ) (if_true : Stmts) (closed : ℕ) (rest : Stmts) → AreOnly if_true → AreOnly rest → AreOnly (If line test opened if_true closed rest)
only-if line test opened if_true closed rest only more c n m end last tail after e d g s h = same c (seen (Some lead.If) c (lead-same (If line test opened if_true closed rest) c end last tail after e)) e g h
  where
    same : (c : Stmts) → View (Some lead.If) c → inside (If line test opened if_true closed rest) end tail ≡ inside c last after → StmtsDerive c → AreShallow m c
        → (If line test opened if_true closed rest ≡ c) × (end ≡ last) × (tail ≡ after)
    same _ (IsIf line2 test2 opened2 if_true2 closed2 rest2) e g h =
        let a = heads-is _ _ _ _ e in
        let v = one-expression _ _ test test2 _ _ a.2 (before-block test opened if_true closed rest end tail d.0 s.0) (before-block test2 opened2 if_true2 closed2 rest2 last after g.0 h.0) in
        let k = one-block opened opened2 if_true if_true2 closed closed2 _ _ (n - 1) (m - 1) only v.1 d.1 g.1 s.2 h.2 in
        let r = more rest2 n m end last tail after k.3 d.2 g.2 s.3 h.3 in (cc, r.1, r.2)
    same _ (IsIfElse line2 test2 opened2 if_true2 closed2 else_line2 else_opened2 if_false2 else_closed2 rest2) e g h =
        let a = heads-is _ _ _ _ e in
        let v = one-expression _ _ test test2 _ _ a.2 (before-block test opened if_true closed rest end tail d.0 s.0)
        (before-else test2 opened2 if_true2 closed2 else_line2 else_opened2 if_false2 else_closed2 rest2 last after g.0 h.0) in
        let k = one-block opened opened2 if_true if_true2 closed closed2 _ _ (n - 1) (m - 1) only v.1 d.1 g.1 s.2 h.2 in
        absurd (no-else-here rest end tail else_line2 _ k.3)

only-if-else : (line : ℕ) (test : Tree) (opened : ℕ) (if_true : Stmts) (closed else_line else_opened : ℕ) (if_false : Stmts) (else_closed : ℕ) (rest : Stmts) → AreOnly if_true → AreOnly if_false → AreOnly rest
    → AreOnly (IfElse line test opened if_true closed else_line else_opened if_false else_closed rest)
only-if-else line test opened if_true closed else_line else_opened if_false else_closed rest only other more c n m end last tail after e d g s h = same c (seen (Some lead.If) c (lead-same (IfElse line test opened if_true closed else_line else_opened if_false else_closed rest) c end last tail after e)) e g h
  where
    same : (c : Stmts) → View (Some lead.If) c → inside (IfElse line test opened if_true closed else_line else_opened if_false else_closed rest) end tail ≡ inside c last after → StmtsDerive c → AreShallow m c
        → (IfElse line test opened if_true closed else_line else_opened if_false else_closed rest ≡ c) × (end ≡ last) × (tail ≡ after)
    same _ (IsIf line2 test2 opened2 if_true2 closed2 rest2) e g h =
        let a = heads-is _ _ _ _ e in
        let v = one-expression _ _ test test2 _ _ a.2 (before-else test opened if_true closed else_line else_opened if_false else_closed rest end tail d.0 s.0)
        (before-block test2 opened2 if_true2 closed2 rest2 last after g.0 h.0) in
        let k = one-block opened opened2 if_true if_true2 closed closed2 _ _ (n - 1) (m - 1) only v.1 d.1 g.1 s.2 h.2 in
        absurd (no-else-here rest2 last after else_line _ (sym k.3))
    same _ (IsIfElse line2 test2 opened2 if_true2 closed2 else_line2 else_opened2 if_false2 else_closed2 rest2) e g h =
        let a = heads-is _ _ _ _ e in
        let v = one-expression _ _ test test2 _ _ a.2 (before-else test opened if_true closed else_line else_opened if_false else_closed rest end tail d.0 s.0)
        (before-else test2 opened2 if_true2 closed2 else_line2 else_opened2 if_false2 else_closed2 rest2 last after g.0 h.0) in
        let k = one-block opened opened2 if_true if_true2 closed closed2 _ _ (n - 1) (m - 1) only v.1 d.1 g.1 s.2 h.2 in
        let b = heads-is _ _ _ _ k.3 in
        let l = one-block else_opened else_opened2 if_false if_false2 else_closed else_closed2 _ _ (n - 1) (m - 1) other b.2 d.2 g.2 s.3 h.3 in
        let r = more rest2 n m end last tail after l.3 d.3 g.3 s.4 h.4 in (cc, r.1, r.2)

-- a range and what is behind it
range-first : (from : Tree) (dots : ℕ) (to : Tree) (behind more : List Token) → Derives expr from → IsFlat from
    → IsExpression (((tree_tokens from ++ mark dots sign.Dots ∷ tree_tokens to) ++ behind) ++ more) from (mark dots sign.Dots ∷ (tree_tokens to ++ behind) ++ more)
range-first from dots to behind more d f =
    record { parts = ap (λ (us : List Token). us ++ more) (append_assoc (tree_tokens from) (mark dots sign.Dots ∷ tree_tokens to) behind) ∙ append_assoc (tree_tokens from) (mark dots sign.Dots ∷ tree_tokens to ++ behind) more; derives = d; flat = f; ends = stops-at expr _ (refl, refl) }

only-loop : (line name_line : ℕ) (name : List ℕ) (in_line : ℕ) (from : Tree) (dots : ℕ) (to : Tree) (opened : ℕ) (body : Stmts) (closed : ℕ) (rest : Stmts) → AreOnly body → AreOnly rest
    → AreOnly (Loop line name_line name in_line from dots to opened body closed rest)
only-loop line name_line name in_line from dots to opened body closed rest only more c n m end last tail after e d g s h = same c (seen (Some lead.Loop) c (lead-same (Loop line name_line name in_line from dots to opened body closed rest) c end last tail after e)) e g h
  where
    same : (c : Stmts) → View (Some lead.Loop) c → inside (Loop line name_line name in_line from dots to opened body closed rest) end tail ≡ inside c last after → StmtsDerive c → AreShallow m c
        → (Loop line name_line name in_line from dots to opened body closed rest ≡ c) × (end ≡ last) × (tail ≡ after)
    same _ (IsLoop line2 name_line2 name2 in_line2 from2 dots2 to2 opened2 body2 closed2 rest2) e g h =
        let a = heads-is _ _ _ _ e in
        let b = heads-is _ _ _ _ a.2 in
        let i = heads-is _ _ _ _ b.2 in
        let u = one-expression _ _ from from2 _ _ i.2 (range-first from dots to (block opened (stmts_tokens body) closed ++ stmts_tokens rest) _ d.0 s.0)
        (range-first from2 dots2 to2 (block opened2 (stmts_tokens body2) closed2 ++ stmts_tokens rest2) _ g.0 h.0) in
        let p = heads-is _ _ _ _ u.1 in
        let v = one-expression _ _ to to2 _ _ p.2 (before-block to opened body closed rest end tail d.1 s.1) (before-block to2 opened2 body2 closed2 rest2 last after g.1 h.1) in
        let k = one-block opened opened2 body body2 closed closed2 _ _ (n - 1) (m - 1) only v.1 d.2 g.2 s.3 h.3 in
        let r = more rest2 n m end last tail after k.3 d.3 g.3 s.4 h.4 in (cc, r.1, r.2)

-- ---- worksharing loops

-- the schedule at the beginning of tokens, and the tokens behind it
static_at : Bool → List Token → ScheduleTree × List Token
static_at true ts = (StaticBy (line_of ts) (line_of (drop 1 ts)) (number_of (drop 1 ts)), drop 1 (drop 1 ts))
static_at false ts = (Static (line_of ts), drop 1 ts)

dynamic_at : Bool → List Token → ScheduleTree × List Token
dynamic_at true ts = (DynamicBy (line_of ts) (line_of (drop 1 ts)) (number_of (drop 1 ts)), drop 1 (drop 1 ts))
dynamic_at false ts = (Dynamic (line_of ts), drop 1 ts)

schedule_at : Bool → Bool → List Token → ScheduleTree × List Token
schedule_at true b ts = static_at (is_number (drop 1 ts)) ts
schedule_at false true ts = dynamic_at (is_number (drop 1 ts)) ts
schedule_at false false ts = (Unsaid, ts)

schedule_in : List Token → ScheduleTree × List Token
schedule_in ts = schedule_at (is_static ts) (is_dynamic ts) ts

schedule-in : (s : ScheduleTree) (w : Option ℕ) (opened : ℕ) (ts : List Token)
    → schedule_in (schedule_tokens s ++ (nowait_tokens w ++ mark opened sign.OpenBrace ∷ ts)) ≡ (s, nowait_tokens w ++ mark opened sign.OpenBrace ∷ ts)
unfolding static_at dynamic_at schedule_at schedule_in
schedule-in Unsaid None opened ts = refl
schedule-in Unsaid (Some line) opened ts = refl
schedule-in (Static line) None opened ts = refl
schedule-in (Static line) (Some nowait) opened ts = refl
schedule-in (StaticBy line number_line chunk) w opened ts = refl
schedule-in (Dynamic line) None opened ts = refl
schedule-in (Dynamic line) (Some nowait) opened ts = refl
schedule-in (DynamicBy line number_line chunk) w opened ts = refl

nowait_at : Bool → List Token → Option ℕ × List Token
nowait_at true ts = (Some (line_of ts), drop 1 ts)
nowait_at false ts = (None, ts)

nowait_in : List Token → Option ℕ × List Token
nowait_in ts = nowait_at (is_nowait ts) ts

nowait-in : (w : Option ℕ) (opened : ℕ) (ts : List Token) → nowait_in (nowait_tokens w ++ mark opened sign.OpenBrace ∷ ts) ≡ (w, mark opened sign.OpenBrace ∷ ts)
unfolding nowait_at nowait_in
nowait-in None opened ts = refl
nowait-in (Some line) opened ts = refl

one-sharing : (s t : ScheduleTree) (w v : Option ℕ) (opened opened2 : ℕ) (ts us : List Token)
    → schedule_tokens s ++ (nowait_tokens w ++ mark opened sign.OpenBrace ∷ ts) ≡ schedule_tokens t ++ (nowait_tokens v ++ mark opened2 sign.OpenBrace ∷ us)
    → (s ≡ t) × (w ≡ v) × (mark opened sign.OpenBrace ∷ ts ≡ mark opened2 sign.OpenBrace ∷ us)
one-sharing s t w v opened opened2 ts us e =
    let first = sym (schedule-in s w opened ts) ∙ ap schedule_in e ∙ schedule-in t v opened2 us in
    let second = sym (nowait-in w opened ts) ∙ ap (λ (x : ScheduleTree × List Token). nowait_in x.1) first ∙ nowait-in v opened2 us in
    (ap (λ (x : ScheduleTree × List Token). x.0) first, ap (λ (x : Option ℕ × List Token). x.0) second, ap (λ (x : Option ℕ × List Token). x.1) second)

before-schedule : (to : Tree) (schedule : ScheduleTree) (nowait : Option ℕ) (opened : ℕ) (body : Stmts) (closed : ℕ) (b : Stmts) (end : ℕ) (tail : List Token) → Derives expr to → IsFlat to
    → IsExpression ((tree_tokens to ++ (schedule_tokens schedule ++ (nowait_tokens nowait ++ (block opened (stmts_tokens body) closed ++ stmts_tokens b)))) ++ mark end sign.CloseBrace ∷ tail) to
    (schedule_tokens schedule ++ (nowait_tokens nowait ++ mark opened sign.OpenBrace ∷ inside body closed (inside b end tail)))
before-schedule to schedule nowait opened body closed b end tail d f =
    record {
      parts = append_assoc (tree_tokens to) (schedule_tokens schedule ++ (nowait_tokens nowait ++ (block opened (stmts_tokens body) closed ++ stmts_tokens b))) _
          ∙ ap (λ (us : List Token). tree_tokens to ++ us) (append_assoc (schedule_tokens schedule) (nowait_tokens nowait ++ (block opened (stmts_tokens body) closed ++ stmts_tokens b)) _
          ∙ ap (λ (us : List Token). schedule_tokens schedule ++ us) (append_assoc (nowait_tokens nowait) (block opened (stmts_tokens body) closed ++ stmts_tokens b) _
          ∙ ap (λ (us : List Token). nowait_tokens nowait ++ us) (body-opens opened body closed b end tail)));
      derives = d;
      flat = f;
      ends = follows-schedule schedule nowait opened _;
    }

only-for : (line name_line : ℕ) (name : List ℕ) (in_line : ℕ) (from : Tree) (dots : ℕ) (to : Tree) (schedule : ScheduleTree) (nowait : Option ℕ) (opened : ℕ) (body : Stmts) (closed : ℕ) (rest : Stmts) → AreOnly body → AreOnly rest
    → AreOnly (For line name_line name in_line from dots to schedule nowait opened body closed rest)
only-for line name_line name in_line from dots to schedule nowait opened body closed rest only more c n m end last tail after e d g s h = same c (seen (Some lead.For) c (lead-same (For line name_line name in_line from dots to schedule nowait opened body closed rest) c end last tail after e)) e g h
  where
    same : (c : Stmts) → View (Some lead.For) c → inside (For line name_line name in_line from dots to schedule nowait opened body closed rest) end tail ≡ inside c last after → StmtsDerive c → AreShallow m c
        → (For line name_line name in_line from dots to schedule nowait opened body closed rest ≡ c) × (end ≡ last) × (tail ≡ after)
    same _ (IsFor line2 name_line2 name2 in_line2 from2 dots2 to2 schedule2 nowait2 opened2 body2 closed2 rest2) e g h =
        let a = heads-is _ _ _ _ e in
        let b = heads-is _ _ _ _ a.2 in
        let i = heads-is _ _ _ _ b.2 in
        let u = one-expression _ _ from from2 _ _ i.2 (range-first from dots to (schedule_tokens schedule ++ (nowait_tokens nowait ++ (block opened (stmts_tokens body) closed ++ stmts_tokens rest))) _ d.0 s.0)
        (range-first from2 dots2 to2 (schedule_tokens schedule2 ++ (nowait_tokens nowait2 ++ (block opened2 (stmts_tokens body2) closed2 ++ stmts_tokens rest2))) _ g.0 h.0) in
        let p = heads-is _ _ _ _ u.1 in
        let v = one-expression _ _ to to2 _ _ p.2 (before-schedule to schedule nowait opened body closed rest end tail d.1 s.1) (before-schedule to2 schedule2 nowait2 opened2 body2 closed2 rest2 last after g.1 h.1) in
        let w = one-sharing schedule schedule2 nowait nowait2 opened opened2 _ _ v.1 in
        let k = one-block opened opened2 body body2 closed closed2 _ _ (n - 1) (m - 1) only w.2 d.2 g.2 s.3 h.3 in
        let r = more rest2 n m end last tail after k.3 d.3 g.3 s.4 h.4 in (cc, r.1, r.2)

-- ---- kernels

only : (b : Stmts) → AreOnly b
only NoMore = only-end
only (Let line name_line name sign_line value rest) = only-let line name_line name sign_line value rest (only rest)
only (Assign line name sign_line value rest) = only-assign line name sign_line value rest (only rest)
only (Store line name opened index closed sign_line value rest) = only-store line name opened index closed sign_line value rest (only rest)
only (Update line name_line name opened index closed minus sign_line value rest) =
    only-update line name_line name opened index closed minus sign_line value rest (only rest)
only (If line test opened if_true closed rest) = only-if line test opened if_true closed rest (only if_true) (only rest)
only (IfElse line test opened if_true closed else_line else_opened if_false else_closed rest) =
    only-if-else line test opened if_true closed else_line else_opened if_false else_closed rest (only if_true) (only if_false) (only rest)
only (Loop line name_line name in_line from dots to opened body closed rest) = only-loop line name_line name in_line from dots to opened body closed rest (only body) (only rest)
only (Parallel line number_line span opened body closed rest) = only-parallel line number_line span opened body closed rest (only body) (only rest)
only (For line name_line name in_line from dots to schedule nowait opened body closed rest) =
    only-for line name_line name in_line from dots to schedule nowait opened body closed rest (only body) (only rest)
only (Barrier line rest) = only-barrier line rest (only rest)
only (Critical line opened body closed rest) = only-critical line opened body closed rest (only body) (only rest)
only (CriticalOf line name_line name opened body closed rest) = only-critical-of line name_line name opened body closed rest (only body) (only rest)

named-is : (one other : List ℕ) → Named one ≡ Named other → one ≡ other
named-is one other e = cc

number-is : (one other : ℤ) → Number one ≡ Number other → one ≡ other
number-is one other e = cc

-- declarations before `main`
one-declared : (ds es : List Declaration) (l o : ℕ) (ts us : List Token) → declarations_tokens ds ++ reserved l word.Main ∷ ts ≡ declarations_tokens es ++ reserved o word.Main ∷ us → (ds ≡ es) × (l ≡ o) × (ts ≡ us)
one-declared [] [] l o ts us e = let a = heads-is _ _ _ _ e in (refl, a.0, a.2)
one-declared [] (ArrayOf _ _ _ _ _ _ _ ∷ es) l o ts us e = let a = heads-is _ _ _ _ e in let x = a.1 in absurd cc
one-declared [] (MutexOf _ _ _ ∷ es) l o ts us e = let a = heads-is _ _ _ _ e in let x = a.1 in absurd cc
one-declared (ArrayOf _ _ _ _ _ _ _ ∷ ds) [] l o ts us e = let a = heads-is _ _ _ _ e in let x = a.1 in absurd cc
one-declared (MutexOf _ _ _ ∷ ds) [] l o ts us e = let a = heads-is _ _ _ _ e in let x = a.1 in absurd cc
one-declared (ArrayOf _ _ _ _ _ _ _ ∷ ds) (MutexOf _ _ _ ∷ es) l o ts us e = let a = heads-is _ _ _ _ e in let x = a.1 in absurd cc
one-declared (MutexOf _ _ _ ∷ ds) (ArrayOf _ _ _ _ _ _ _ ∷ es) l o ts us e = let a = heads-is _ _ _ _ e in let x = a.1 in absurd cc
one-declared (ArrayOf line name_line name width_line width count_line count ∷ ds) (ArrayOf line2 name_line2 name2 width_line2 width2 count_line2 count2 ∷ es) l o ts us e =
    let a = heads-is _ _ _ _ e in
    let b = heads-is _ _ _ _ a.2 in
    let c = heads-is _ _ _ _ b.2 in
    let d = heads-is _ _ _ _ c.2 in
    let r = one-declared ds es l o ts us d.2 in
    let x = named-is name name2 b.1 in let y = named-is width width2 c.1 in let z = number-is count count2 d.1 in
    (cc, r.1, r.2)
one-declared (MutexOf line name_line name ∷ ds) (MutexOf line2 name_line2 name2 ∷ es) l o ts us e =
    let a = heads-is _ _ _ _ e in
    let b = heads-is _ _ _ _ a.2 in
    let r = one-declared ds es l o ts us b.2 in
    let x = named-is name name2 b.1 in (cc, r.1, r.2)

abbrev tree : List Declaration → ℕ → ℕ → Stmts → ℕ → KernelTree
tree ds line opened body closed = record { declarations = ds; line = line; opened = opened; body = body; closed = closed }

trees-same : (ds es : List Declaration) (line line2 opened opened2 : ℕ) (body body2 : Stmts) (closed closed2 : ℕ) → ds ≡ es → line ≡ line2 → opened ≡ opened2 → body ≡ body2 → closed ≡ closed2
    → tree ds line opened body closed ≡ tree es line2 opened2 body2 closed2
trees-same ds es line line2 opened opened2 body body2 closed closed2 a b c d e = cc

pub one-tree : (k l : KernelTree) → kernel_tokens k ≡ kernel_tokens l → IsKernel k → IsKernel l → IsShallow k → IsShallow l → k ≡ l
one-tree k l e d g s h =
    let a = one-declared k.declarations l.declarations k.line l.line _ _ e in
    let b = heads-is _ _ _ _ a.2 in
    let r = only k.body l.body 31 31 k.closed l.closed [] [] b.2 d g ((shallow_is_low k).1 s) ((shallow_is_low l).1 h) in
    trees-same k.declarations l.declarations k.line l.line k.opened l.opened k.body l.body k.closed l.closed a.0 a.1 b.0 r.0 r.1
