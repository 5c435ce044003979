-- The same of expressions and of the parts around them.
use Rattle.std.proofs.Common.{◌≡◌, ℕ, ℤ, ◌+◌, ◌≤◌, Bool, true, false, List, [], ◌∷◌, inl, inr, Some, None, refl, ap, ◌∙◌, append_assoc, arith}
use Rattle.kernel_syntax.specs.declared.syntax.Op.{Op}
use Rattle.kernel_text.specs.declared.token.Word.TheVariants as word
use Rattle.kernel_text.specs.declared.token.Sign.TheVariants as sign
use Rattle.kernel_text.specs.declared.token.Lexeme.{Lexeme}
use Rattle.kernel_text.specs.declared.token.Lexeme.TheVariants.{Named, Number, Reserved, Mark}
use Rattle.kernel_text.specs.declared.token.Token.{Token}
use Rattle.kernel_text.specs.declared.judging.Want.{Want}
use Rattle.kernel_text.specs.declared.judging.Want.TheVariants as want
use Rattle.kernel_text.specs.Grammar.{Tree, NumberAt, NameAt, TidAt, SpanAt, Element, Group, Minus, Binary, Derives, tree_tokens, op_of, rank_of, unary, named, number, reserved, mark, stmts_tokens, Unsaid, Static, StaticBy, Dynamic, DynamicBy}
use Rattle.kernel_text.specs.Faults.{tree_levels, stmts_levels}
use Rattle.kernel_text.specs.Wanting.{Plain, At, Fill, fill_tokens, fill_levels, Fulfils, GoesOnWith, AreDelimited, token, LeadsTo, Skips, Refuses}
use Rattle.kernel_text.proofs.Operators.{ranks}
use Rattle.kernel_text.proofs.Unfolding.{lexeme-of, Leaves, puts-by, leaves-by, takes, weaker, closed, never-on, not-op, is_schedule}

-- ---- braces, brackets and signs

behind-expr : (x : Lexeme) → op_of x ≡ None → (x ≡ Mark sign.OpenBracket → ⊥) → GoesOnWith (want.Expr 0) x → ⊥
behind-expr x none apart (inl e) = apart e
behind-expr x none apart (inr is) = not-op x none is

pub block-takes : (n : ℕ) (s : List Want) → AreDelimited (want.Block n ∷ s) → LeadsTo (want.Block n ∷ s) (Mark sign.OpenBrace) (n + 1) (want.Stmts (n + 1) ∷ want.CloseBrace ∷ s)
block-takes n s a =
    takes (want.Block n ∷ s) (Mark sign.OpenBrace) (n + 1) (want.Stmts (n + 1) ∷ want.CloseBrace ∷ s) ((λ f never. never refl), ((λ f. closed want.CloseBrace (λ x g. g) (fill_tokens s f)), a.1))
    (λ line g. puts-by (want.Block n ∷ s) (record { opened = line; body = g.0.0; closed = g.1.0; derives = g.0.1 }, g.1.1) (ap (λ (r : List Token). mark line sign.OpenBrace ∷ r) (append_assoc (stmts_tokens g.0.0) (mark g.1.0 sign.CloseBrace ∷ []) (fill_tokens s g.1.1)))
    (ap (λ (r : List ℕ). (n + 1) ∷ r) (append_assoc (stmts_levels (n + 1) g.0.0) (0 ∷ []) (fill_levels s g.1.1))))
    (λ f line ts e. let b = f.0 in leaves-by (want.Block n ∷ s) f (mark b.opened sign.OpenBrace) (want.Stmts (n + 1) ∷ want.CloseBrace ∷ s) ((b.body, b.derives), (b.closed, f.1)) (ap (λ (r : List Token). mark b.opened sign.OpenBrace ∷ r) (append_assoc (stmts_tokens b.body) (mark b.closed sign.CloseBrace ∷ []) (fill_tokens s f.1)))
    (ap (λ (r : List ℕ). (n + 1) ∷ r) (append_assoc (stmts_levels (n + 1) b.body) (0 ∷ []) (fill_levels s f.1))) e)

pub target-assign : (s : List Want) → AreDelimited (want.Target ∷ s) → LeadsTo (want.Target ∷ s) (Mark sign.Assign) 0 s
target-assign s a =
    takes (want.Target ∷ s) (Mark sign.Assign) 0 s a.1 (λ line g. puts-by (want.Target ∷ s) (Plain line, g) refl refl) left
  where
    left : (f : Fill (want.Target ∷ s)) (line : ℕ) (ts : List Token) → fill_tokens (want.Target ∷ s) f ≡ token (Mark sign.Assign) line ∷ ts → Leaves s 0 ts (fill_levels (want.Target ∷ s) f)
    left (Plain at, g) line ts e = leaves-by (want.Target ∷ s) (Plain at, g) (mark at sign.Assign) s g refl refl e
    left (At v at, g) line ts e = let same = lexeme-of _ _ _ _ e in absurd cc

abbrev stored : List Want → List Want
stored s = want.Expr 0 ∷ want.CloseBracket ∷ want.Assign ∷ s

pub target-index : (s : List Want) → AreDelimited (want.Target ∷ s) → LeadsTo (want.Target ∷ s) (Mark sign.OpenBracket) 0 (stored s)
target-index s a =
    takes (want.Target ∷ s) (Mark sign.OpenBracket) 0 (stored s)
    ((λ f. behind-expr (Mark sign.CloseBracket) refl (λ e. absurd cc)), ((λ f. closed want.CloseBracket (λ x g. g) (mark f.0 sign.Assign ∷ fill_tokens s f.1)), ((λ f. closed want.Assign (λ x g. g) (fill_tokens s f)), a.1)))
    (λ line g. puts-by (want.Target ∷ s) (At (record { opened = line; index = g.0.0; closed = g.1.0; derives = g.0.1 }) g.1.1.0, g.1.1.1) (ap (λ (r : List Token). mark line sign.OpenBracket ∷ r) (append_assoc (tree_tokens g.0.0) (mark g.1.0 sign.CloseBracket ∷ mark g.1.1.0 sign.Assign ∷ []) (fill_tokens s g.1.1.1)))
    (ap (λ (r : List ℕ). 0 ∷ r) (append_assoc (tree_levels 0 g.0.0) (0 ∷ 0 ∷ []) (fill_levels s g.1.1.1)))) left
  where
    left : (f : Fill (want.Target ∷ s)) (line : ℕ) (ts : List Token) → fill_tokens (want.Target ∷ s) f ≡ token (Mark sign.OpenBracket) line ∷ ts → Leaves (stored s) 0 ts (fill_levels (want.Target ∷ s) f)
    left (Plain at, g) line ts e = let same = lexeme-of _ _ _ _ e in absurd cc
    left (At v at, g) line ts e =
        leaves-by (want.Target ∷ s) (At v at, g) (mark v.opened sign.OpenBracket) (stored s) ((v.index, v.derives), (v.closed, (at, g))) (ap (λ (r : List Token). mark v.opened sign.OpenBracket ∷ r) (append_assoc (tree_tokens v.index) (mark v.closed sign.CloseBracket ∷ mark at sign.Assign ∷ []) (fill_tokens s g)))
        (ap (λ (r : List ℕ). 0 ∷ r) (append_assoc (tree_levels 0 v.index) (0 ∷ 0 ∷ []) (fill_levels s g))) e

pub else-takes : (n : ℕ) (s : List Want) → AreDelimited (want.Else n ∷ s) → LeadsTo (want.Else n ∷ s) (Reserved word.Else) 0 (want.Block n ∷ s)
else-takes n s a =
    takes (want.Else n ∷ s) (Reserved word.Else) 0 (want.Block n ∷ s) ((λ f. closed (want.Block n) (λ x g. g) (fill_tokens s f)), a.1)
    (λ line g. puts-by (want.Else n ∷ s) (Some (line, g.0), g.1) refl refl) left
  where
    left : (f : Fill (want.Else n ∷ s)) (line : ℕ) (ts : List Token) → fill_tokens (want.Else n ∷ s) f ≡ token (Reserved word.Else) line ∷ ts → Leaves (want.Block n ∷ s) 0 ts (fill_levels (want.Else n ∷ s) f)
    left (None, g) line ts e = absurd (never-on (want.Else n) s (reserved line word.Else) ts a g e refl)
    left (Some v, g) line ts e = leaves-by (want.Else n ∷ s) (Some v, g) (reserved v.0 word.Else) (want.Block n ∷ s) (v.1, g) refl refl e

chunk-apart : (s : List Want) → AreDelimited (want.Schedule ∷ s) → AreDelimited (want.Chunk ∷ s)
chunk-apart s a = ((λ f. weaker want.Schedule want.Chunk (fill_tokens s f) (λ x g. inr (inr g)) (a.0 f)), a.1)

pub static-takes : (s : List Want) → AreDelimited (want.Schedule ∷ s) → LeadsTo (want.Schedule ∷ s) (Reserved word.Static) 0 (want.Chunk ∷ s)
static-takes s a = takes (want.Schedule ∷ s) (Reserved word.Static) 0 (want.Chunk ∷ s) (chunk-apart s a) put left
  where
    put : (line : ℕ) (g : Fill (want.Chunk ∷ s)) → Fulfils (want.Schedule ∷ s) (token (Reserved word.Static) line ∷ fill_tokens (want.Chunk ∷ s) g) (0 ∷ fill_levels (want.Chunk ∷ s) g)
    put line (None, g) = puts-by (want.Schedule ∷ s) (Static line, g) refl refl
    put line (Some v, g) = puts-by (want.Schedule ∷ s) (StaticBy line v.0 v.1, g) refl refl

    left : (f : Fill (want.Schedule ∷ s)) (line : ℕ) (ts : List Token) → fill_tokens (want.Schedule ∷ s) f ≡ token (Reserved word.Static) line ∷ ts → Leaves (want.Chunk ∷ s) 0 ts (fill_levels (want.Schedule ∷ s) f)
    left (Unsaid, g) line ts e = absurd (never-on want.Schedule s (reserved line word.Static) ts a g e (inl refl))
    left (Static at, g) line ts e = leaves-by (want.Schedule ∷ s) (Static at, g) (reserved at word.Static) (want.Chunk ∷ s) (None, g) refl refl e
    left (StaticBy at m c, g) line ts e = leaves-by (want.Schedule ∷ s) (StaticBy at m c, g) (reserved at word.Static) (want.Chunk ∷ s) (Some (m, c), g) refl refl e
    left (Dynamic at, g) line ts e = let same = lexeme-of _ _ _ _ e in absurd cc
    left (DynamicBy at m c, g) line ts e = let same = lexeme-of _ _ _ _ e in absurd cc

pub dynamic-takes : (s : List Want) → AreDelimited (want.Schedule ∷ s) → LeadsTo (want.Schedule ∷ s) (Reserved word.Dynamic) 0 (want.Chunk ∷ s)
dynamic-takes s a = takes (want.Schedule ∷ s) (Reserved word.Dynamic) 0 (want.Chunk ∷ s) (chunk-apart s a) put left
  where
    put : (line : ℕ) (g : Fill (want.Chunk ∷ s)) → Fulfils (want.Schedule ∷ s) (token (Reserved word.Dynamic) line ∷ fill_tokens (want.Chunk ∷ s) g) (0 ∷ fill_levels (want.Chunk ∷ s) g)
    put line (None, g) = puts-by (want.Schedule ∷ s) (Dynamic line, g) refl refl
    put line (Some v, g) = puts-by (want.Schedule ∷ s) (DynamicBy line v.0 v.1, g) refl refl

    left : (f : Fill (want.Schedule ∷ s)) (line : ℕ) (ts : List Token) → fill_tokens (want.Schedule ∷ s) f ≡ token (Reserved word.Dynamic) line ∷ ts → Leaves (want.Chunk ∷ s) 0 ts (fill_levels (want.Schedule ∷ s) f)
    left (Unsaid, g) line ts e = absurd (never-on want.Schedule s (reserved line word.Dynamic) ts a g e (inr (inl refl)))
    left (Dynamic at, g) line ts e = leaves-by (want.Schedule ∷ s) (Dynamic at, g) (reserved at word.Dynamic) (want.Chunk ∷ s) (None, g) refl refl e
    left (DynamicBy at m c, g) line ts e = leaves-by (want.Schedule ∷ s) (DynamicBy at m c, g) (reserved at word.Dynamic) (want.Chunk ∷ s) (Some (m, c), g) refl refl e
    left (Static at, g) line ts e = let same = lexeme-of _ _ _ _ e in absurd cc
    left (StaticBy at m c, g) line ts e = let same = lexeme-of _ _ _ _ e in absurd cc

-- ---- operands

pub index-takes : (n : ℕ) (s : List Want) → AreDelimited (want.Index n ∷ s) → LeadsTo (want.Index n ∷ s) (Mark sign.OpenBracket) (n + 1) (want.Expr (n + 1) ∷ want.CloseBracket ∷ s)
index-takes n s a =
    takes (want.Index n ∷ s) (Mark sign.OpenBracket) (n + 1) (want.Expr (n + 1) ∷ want.CloseBracket ∷ s)
    ((λ f. behind-expr (Mark sign.CloseBracket) refl (λ e. absurd cc)), ((λ f. closed want.CloseBracket (λ x g. g) (fill_tokens s f)), a.1))
    (λ line g. puts-by (want.Index n ∷ s) (Some (record { opened = line; index = g.0.0; closed = g.1.0; derives = g.0.1 }), g.1.1) (ap (λ (r : List Token). mark line sign.OpenBracket ∷ r) (append_assoc (tree_tokens g.0.0) (mark g.1.0 sign.CloseBracket ∷ []) (fill_tokens s g.1.1)))
    (ap (λ (r : List ℕ). (n + 1) ∷ r) (append_assoc (tree_levels (n + 1) g.0.0) (0 ∷ []) (fill_levels s g.1.1)))) left
  where
    left : (f : Fill (want.Index n ∷ s)) (line : ℕ) (ts : List Token) → fill_tokens (want.Index n ∷ s) f ≡ token (Mark sign.OpenBracket) line ∷ ts
        → Leaves (want.Expr (n + 1) ∷ want.CloseBracket ∷ s) (n + 1) ts (fill_levels (want.Index n ∷ s) f)
    left (None, g) line ts e = absurd (never-on (want.Index n) s (mark line sign.OpenBracket) ts a g e refl)
    left (Some v, g) line ts e =
        leaves-by (want.Index n ∷ s) (Some v, g) (mark v.opened sign.OpenBracket) (want.Expr (n + 1) ∷ want.CloseBracket ∷ s) ((v.index, v.derives), (v.closed, g)) (ap (λ (r : List Token). mark v.opened sign.OpenBracket ∷ r) (append_assoc (tree_tokens v.index) (mark v.closed sign.CloseBracket ∷ []) (fill_tokens s g)))
        (ap (λ (r : List ℕ). (n + 1) ∷ r) (append_assoc (tree_levels (n + 1) v.index) (0 ∷ []) (fill_levels s g))) e

not-binary : (l r : Tree) (o : Op) (line : ℕ) → Derives unary (Binary l o line r) → ⊥
not-binary l r o line d = let k = some o in absurd (omega (arith, d.0, k))
  where
    some : (o : Op) → 1 ≤ rank_of o
    some o = let k = ranks o in k.some

abbrev LeavesOperand : Lexeme → ℕ → ℕ → List Want → List Want → Type 0
LeavesOperand x n level after s = (f : Fill (want.Operand n ∷ s)) (line : ℕ) (ts : List Token) → fill_tokens (want.Operand n ∷ s) f ≡ token x line ∷ ts → Leaves after level ts (fill_levels (want.Operand n ∷ s) f)

pub number-operand : (value : ℤ) (n : ℕ) (s : List Want) → AreDelimited (want.Operand n ∷ s) → LeadsTo (want.Operand n ∷ s) (Number value) 0 s
number-operand value n s a = takes (want.Operand n ∷ s) (Number value) 0 s a.1 (λ line g. puts-by (want.Operand n ∷ s) ((NumberAt line value, tt), g) refl refl) left
  where
    left : LeavesOperand (Number value) n 0 s s
    left ((NumberAt at v, d), g) line ts e = leaves-by (want.Operand n ∷ s) ((NumberAt at v, d), g) (number at v) s g refl refl e
    left ((Binary l o at r, d), g) line ts e = absurd (not-binary l r o at d)
    left ((_, d), g) line ts e = let same = lexeme-of _ _ _ _ e in absurd cc

pub tid-operand : (n : ℕ) (s : List Want) → AreDelimited (want.Operand n ∷ s) → LeadsTo (want.Operand n ∷ s) (Reserved word.Tid) 0 s
tid-operand n s a = takes (want.Operand n ∷ s) (Reserved word.Tid) 0 s a.1 (λ line g. puts-by (want.Operand n ∷ s) ((TidAt line, tt), g) refl refl) left
  where
    left : LeavesOperand (Reserved word.Tid) n 0 s s
    left ((TidAt at, d), g) line ts e = leaves-by (want.Operand n ∷ s) ((TidAt at, d), g) (reserved at word.Tid) s g refl refl e
    left ((Binary l o at r, d), g) line ts e = absurd (not-binary l r o at d)
    left ((_, d), g) line ts e = let same = lexeme-of _ _ _ _ e in absurd cc

pub span-operand : (n : ℕ) (s : List Want) → AreDelimited (want.Operand n ∷ s) → LeadsTo (want.Operand n ∷ s) (Reserved word.Span) 0 s
span-operand n s a = takes (want.Operand n ∷ s) (Reserved word.Span) 0 s a.1 (λ line g. puts-by (want.Operand n ∷ s) ((SpanAt line, tt), g) refl refl) left
  where
    left : LeavesOperand (Reserved word.Span) n 0 s s
    left ((SpanAt at, d), g) line ts e = leaves-by (want.Operand n ∷ s) ((SpanAt at, d), g) (reserved at word.Span) s g refl refl e
    left ((Binary l o at r, d), g) line ts e = absurd (not-binary l r o at d)
    left ((_, d), g) line ts e = let same = lexeme-of _ _ _ _ e in absurd cc

pub named-operand : (name : List ℕ) (n : ℕ) (s : List Want) → AreDelimited (want.Operand n ∷ s) → LeadsTo (want.Operand n ∷ s) (Named name) 0 (want.Index n ∷ s)
named-operand name n s a =
    takes (want.Operand n ∷ s) (Named name) 0 (want.Index n ∷ s) ((λ f. weaker (want.Operand n) (want.Index n) (fill_tokens s f) (λ x g. g) (a.0 f)), a.1) put left
  where
    put : (line : ℕ) (g : Fill (want.Index n ∷ s)) → Fulfils (want.Operand n ∷ s) (token (Named name) line ∷ fill_tokens (want.Index n ∷ s) g) (0 ∷ fill_levels (want.Index n ∷ s) g)
    put line (None, g) = puts-by (want.Operand n ∷ s) ((NameAt line name, tt), g) refl refl
    put line (Some v, g) = puts-by (want.Operand n ∷ s) ((Element line name v.opened v.index v.closed, v.derives), g) refl refl

    left : LeavesOperand (Named name) n 0 (want.Index n ∷ s) s
    left ((NameAt at v, d), g) line ts e = leaves-by (want.Operand n ∷ s) ((NameAt at v, d), g) (named at v) (want.Index n ∷ s) (None, g) refl refl e
    left ((Element at v opened index closed, d), g) line ts e =
        leaves-by (want.Operand n ∷ s) ((Element at v opened index closed, d), g) (named at v) (want.Index n ∷ s) (Some (record { opened = opened; index = index; closed = closed; derives = d }), g) refl refl e
    left ((Binary l o at r, d), g) line ts e = absurd (not-binary l r o at d)
    left ((_, d), g) line ts e = let same = lexeme-of _ _ _ _ e in absurd cc

pub minus-operand : (n : ℕ) (s : List Want) → AreDelimited (want.Operand n ∷ s) → LeadsTo (want.Operand n ∷ s) (Mark sign.Minus) (n + 1) (want.Operand (n + 1) ∷ s)
minus-operand n s a =
    takes (want.Operand n ∷ s) (Mark sign.Minus) (n + 1) (want.Operand (n + 1) ∷ s) ((λ f. weaker (want.Operand n) (want.Operand (n + 1)) (fill_tokens s f) (λ x g. g) (a.0 f)), a.1)
    (λ line g. puts-by (want.Operand n ∷ s) ((Minus line g.0.0, g.0.1), g.1) refl refl) left
  where
    left : LeavesOperand (Mark sign.Minus) n (n + 1) (want.Operand (n + 1) ∷ s) s
    left ((Minus at t, d), g) line ts e = leaves-by (want.Operand n ∷ s) ((Minus at t, d), g) (mark at sign.Minus) (want.Operand (n + 1) ∷ s) ((t, d), g) refl refl e
    left ((Binary l o at r, d), g) line ts e = absurd (not-binary l r o at d)
    left ((_, d), g) line ts e = let same = lexeme-of _ _ _ _ e in absurd cc

pub group-operand : (n : ℕ) (s : List Want) → AreDelimited (want.Operand n ∷ s) → LeadsTo (want.Operand n ∷ s) (Mark sign.OpenParen) (n + 1) (want.Expr (n + 1) ∷ want.CloseParen ∷ s)
group-operand n s a =
    takes (want.Operand n ∷ s) (Mark sign.OpenParen) (n + 1) (want.Expr (n + 1) ∷ want.CloseParen ∷ s)
    ((λ f. behind-expr (Mark sign.CloseParen) refl (λ e. absurd cc)), ((λ f. closed want.CloseParen (λ x g. g) (fill_tokens s f)), a.1))
    (λ line g. puts-by (want.Operand n ∷ s) ((Group line g.0.0 g.1.0, g.0.1), g.1.1) (ap (λ (r : List Token). mark line sign.OpenParen ∷ r) (append_assoc (tree_tokens g.0.0) (mark g.1.0 sign.CloseParen ∷ []) (fill_tokens s g.1.1)))
    (ap (λ (r : List ℕ). (n + 1) ∷ r) (append_assoc (tree_levels (n + 1) g.0.0) (0 ∷ []) (fill_levels s g.1.1)))) left
  where
    left : LeavesOperand (Mark sign.OpenParen) n (n + 1) (want.Expr (n + 1) ∷ want.CloseParen ∷ s) s
    left ((Group at t c, d), g) line ts e =
        leaves-by (want.Operand n ∷ s) ((Group at t c, d), g) (mark at sign.OpenParen) (want.Expr (n + 1) ∷ want.CloseParen ∷ s) ((t, d), (c, g)) (ap (λ (r : List Token). mark at sign.OpenParen ∷ r) (append_assoc (tree_tokens t) (mark c sign.CloseParen ∷ []) (fill_tokens s g)))
        (ap (λ (r : List ℕ). (n + 1) ∷ r) (append_assoc (tree_levels (n + 1) t) (0 ∷ []) (fill_levels s g))) e
    left ((Binary l o at r, d), g) line ts e = absurd (not-binary l r o at d)
    left ((_, d), g) line ts e = let same = lexeme-of _ _ _ _ e in absurd cc

abbrev pub is_leaf : Lexeme → Bool
is_leaf (Number _) = true
is_leaf (Reserved word.Tid) = true
is_leaf (Reserved word.Span) = true
is_leaf _ = false

pub leaf-operand : (x : Lexeme) (n : ℕ) (s : List Want) → is_leaf x ≡ true → AreDelimited (want.Operand n ∷ s) → LeadsTo (want.Operand n ∷ s) x 0 s
leaf-operand (Number value) n s is a = number-operand value n s a
leaf-operand (Reserved word.Tid) n s is a = tid-operand n s a
leaf-operand (Reserved word.Span) n s is a = span-operand n s a
leaf-operand (Reserved _) n s is a = absurd cc
leaf-operand (Named _) n s is a = absurd cc
leaf-operand (Mark _) n s is a = absurd cc

pub schedule-takes : (x : Lexeme) (s : List Want) → is_schedule x ≡ true → AreDelimited (want.Schedule ∷ s) → LeadsTo (want.Schedule ∷ s) x 0 (want.Chunk ∷ s)
schedule-takes (Reserved word.Static) s is a = static-takes s a
schedule-takes (Reserved word.Dynamic) s is a = dynamic-takes s a
schedule-takes (Reserved _) s is a = absurd cc
schedule-takes (Number _) s is a = absurd cc
schedule-takes (Named _) s is a = absurd cc
schedule-takes (Mark _) s is a = absurd cc

abbrev pub is_operand : Lexeme → Bool
is_operand (Named _) = true
is_operand (Number _) = true
is_operand (Reserved word.Tid) = true
is_operand (Reserved word.Span) = true
is_operand (Mark sign.Minus) = true
is_operand (Mark sign.OpenParen) = true
is_operand _ = false

pub operand-refuses : (x : Lexeme) (n : ℕ) (s : List Want) → is_operand x ≡ false → Refuses (want.Operand n ∷ s) x
operand-refuses x n s is line ts ls r = starts r.fill r.tokens
  where
    starts : (f : Fill (want.Operand n ∷ s)) → fill_tokens (want.Operand n ∷ s) f ≡ token x line ∷ ts → ⊥
    starts ((Binary l o at r, d), g) e = not-binary l r o at d
    starts ((_, d), g) e = let same = ap is_operand (lexeme-of _ _ _ _ e) ∙ is in absurd cc

pub operand-some : (n : ℕ) (s : List Want) (x : Lexeme) → Skips (want.Operand n) s x → ⊥
operand-some n s x k = let v = k.empty in starts v.fill v.tokens
  where
    starts : (f : Fill (want.Operand n ∷ [])) → fill_tokens (want.Operand n ∷ []) f ≡ [] → ⊥
    starts ((Binary l o at r, d), g) e = not-binary l r o at d
    starts ((_, d), g) e = absurd cc
