-- The same of kernels and statements.
use Rattle.std.proofs.Common.{◌≡◌, ℕ, ℤ, Bool, true, false, List, [], ◌∷◌, ◌++◌, inl, inr, Some, None, refl, sym, ap, subst, ◌∙◌, append_assoc}
use Rattle.kernel_text.specs.declared.token.Word.{Word}
use Rattle.kernel_text.specs.declared.token.Word.TheVariants as word
use Rattle.kernel_text.specs.declared.token.Sign.TheVariants as sign
use Rattle.kernel_text.specs.declared.token.Lexeme.{Lexeme}
use Rattle.kernel_text.specs.declared.token.Lexeme.TheVariants.{Named, Number, Reserved, Mark}
use Rattle.kernel_text.specs.declared.token.Token.{Token}
use Rattle.kernel_text.specs.declared.judging.Want.{Want}
use Rattle.kernel_text.specs.declared.judging.Want.TheVariants as want
use Rattle.kernel_text.specs.Grammar.{op_of, tree_tokens, update_sign, named, number, reserved, mark, Unsaid, Static, StaticBy, Dynamic, DynamicBy, schedule_tokens, nowait_tokens, Stmts, NoMore, Let, Assign, Store, Update, If, IfElse, Loop, Parallel, For, Barrier, Critical, CriticalOf, stmts_tokens, StmtsDerive, Declaration, ArrayOf, MutexOf, KernelTree, IsKernel}
use Rattle.kernel_text.specs.Faults.{tree_levels, flat, stmts_levels}
use Rattle.kernel_text.specs.Wanting.{Braced, Plain, At, Value, braced_tokens, braced_levels, Fill, fill_tokens, fill_levels, Fulfils, GoesOnWith, EndsAt, AreDelimited, token, LeadsTo, Skips, Refuses}
use Rattle.kernel_text.proofs.Unfolding.{lexeme-of, Leaves, puts-by, leaves-by, takes, closed, never-on, not-op, skips}

-- ---- lists that are joined in another order

a3 : {A : Type 0} (x y z t : List A) → (x ++ (y ++ z)) ++ t ≡ x ++ (y ++ (z ++ t))
a3 x y z t = append_assoc x (y ++ z) t ∙ ap (λ r. x ++ r) (append_assoc y z t)

a4 : {A : Type 0} (x y z u t : List A) → (x ++ (y ++ (z ++ u))) ++ t ≡ x ++ (y ++ (z ++ (u ++ t)))
a4 x y z u t = append_assoc x (y ++ (z ++ u)) t ∙ ap (λ r. x ++ r) (a3 y z u t)

-- two expressions with dots between them, and a block behind them
looped : {A : Type 0} (x : List A) (d : A) (y z u t : List A) → ((x ++ d ∷ y) ++ (z ++ u)) ++ t ≡ x ++ (d ∷ (y ++ (z ++ (u ++ t))))
looped x d y z u t = append_assoc (x ++ d ∷ y) (z ++ u) t ∙ append_assoc x (d ∷ y) ((z ++ u) ++ t) ∙ ap (λ r. x ++ (d ∷ (y ++ r))) (append_assoc z u t)

-- and two parts before it
shared : {A : Type 0} (x : List A) (d : A) (y v w z u t : List A) → ((x ++ d ∷ y) ++ (v ++ (w ++ (z ++ u)))) ++ t ≡ x ++ (d ∷ (y ++ (v ++ (w ++ (z ++ (u ++ t))))))
shared x d y v w z u t = append_assoc (x ++ d ∷ y) (v ++ (w ++ (z ++ u))) t ∙ append_assoc x (d ∷ y) ((v ++ (w ++ (z ++ u))) ++ t) ∙ ap (λ r. x ++ (d ∷ (y ++ r))) (a4 v w z u t)

-- an index and a value
stored : {A : Type 0} (x : List A) (c d : A) (y z t : List A) → (x ++ (c ∷ d ∷ (y ++ z))) ++ t ≡ (x ++ (c ∷ d ∷ [])) ++ (y ++ (z ++ t))
stored x c d y z t = append_assoc x (c ∷ d ∷ (y ++ z)) t ∙ ap (λ r. x ++ (c ∷ d ∷ r)) (append_assoc y z t) ∙ sym (append_assoc x (c ∷ d ∷ []) (y ++ (z ++ t)))

-- an index and an amount
updated : {A : Type 0} (x : List A) (c d : A) (y z t : List A) → (x ++ (c ∷ d ∷ (y ++ z))) ++ t ≡ x ++ (c ∷ d ∷ (y ++ (z ++ t)))
updated x c d y z t = append_assoc x (c ∷ d ∷ (y ++ z)) t ∙ ap (λ r. x ++ (c ∷ d ∷ r)) (append_assoc y z t)

-- ---- kernels

abbrev with_array : List Want → List Want
with_array s = want.Name ∷ want.Name ∷ want.Number ∷ want.Kernel ∷ s

pub array-takes : (s : List Want) → AreDelimited (want.Kernel ∷ s) → LeadsTo (want.Kernel ∷ s) (Reserved word.Array) 0 (with_array s)
array-takes s a =
    takes (want.Kernel ∷ s) (Reserved word.Array) 0 (with_array s) ((λ f never. never), ((λ f never. never), ((λ f. closed want.Number (λ x g. g) (fill_tokens (want.Kernel ∷ s) f)), a)))
    (λ line g.
    let k = g.1.1.1.0.0 in
    puts-by (want.Kernel ∷ s) ((record k { declarations = ArrayOf line g.0.0 g.0.1 g.1.0.0 g.1.0.1 g.1.1.0.0 g.1.1.0.1 ∷ k.declarations }, g.1.1.1.0.1), g.1.1.1.1) refl refl) (λ f line ts e. left f.0.0 f.0.0.declarations refl f.0.1 f.1 line ts e)
  where
    left : (k : KernelTree) (ds : List Declaration) → k.declarations ≡ ds → (d : IsKernel k) (g : Fill s) (line : ℕ) (ts : List Token) → fill_tokens (want.Kernel ∷ s) ((k, d), g) ≡ token (Reserved word.Array) line ∷ ts
        → Leaves (with_array s) 0 ts (fill_levels (want.Kernel ∷ s) ((k, d), g))
    left k [] is d g line ts e = let same = lexeme-of _ _ _ _ (sym (ap (λ (ds : List Declaration). fill_tokens (want.Kernel ∷ s) ((record k { declarations = ds }, d), g)) is) ∙ e) in absurd cc
    left k (ArrayOf at nl name wl width cl count ∷ ds) is d g line ts e =
        leaves-by (want.Kernel ∷ s) ((k, d), g) (reserved at word.Array) (with_array s) ((nl, name), ((wl, width), ((cl, count), ((record k { declarations = ds }, d), g))))
        (ap (λ (ds : List Declaration). fill_tokens (want.Kernel ∷ s) ((record k { declarations = ds }, d), g)) is) (ap (λ (ds : List Declaration). fill_levels (want.Kernel ∷ s) ((record k { declarations = ds }, d), g)) is) e
    left k (MutexOf _ _ _ ∷ ds) is d g line ts e = let same = lexeme-of _ _ _ _ (sym (ap (λ (ds : List Declaration). fill_tokens (want.Kernel ∷ s) ((record k { declarations = ds }, d), g)) is) ∙ e) in absurd cc

pub mutex-takes : (s : List Want) → AreDelimited (want.Kernel ∷ s) → LeadsTo (want.Kernel ∷ s) (Reserved word.Mutex) 0 (want.Name ∷ want.Kernel ∷ s)
mutex-takes s a =
    takes (want.Kernel ∷ s) (Reserved word.Mutex) 0 (want.Name ∷ want.Kernel ∷ s) ((λ f. closed want.Name (λ x g. g) (fill_tokens (want.Kernel ∷ s) f)), a)
    (λ line g. let k = g.1.0.0 in puts-by (want.Kernel ∷ s) ((record k { declarations = MutexOf line g.0.0 g.0.1 ∷ k.declarations }, g.1.0.1), g.1.1) refl refl) (λ f line ts e. left f.0.0 f.0.0.declarations refl f.0.1 f.1 line ts e)
  where
    left : (k : KernelTree) (ds : List Declaration) → k.declarations ≡ ds → (d : IsKernel k) (g : Fill s) (line : ℕ) (ts : List Token) → fill_tokens (want.Kernel ∷ s) ((k, d), g) ≡ token (Reserved word.Mutex) line ∷ ts
        → Leaves (want.Name ∷ want.Kernel ∷ s) 0 ts (fill_levels (want.Kernel ∷ s) ((k, d), g))
    left k [] is d g line ts e = let same = lexeme-of _ _ _ _ (sym (ap (λ (ds : List Declaration). fill_tokens (want.Kernel ∷ s) ((record k { declarations = ds }, d), g)) is) ∙ e) in absurd cc
    left k (MutexOf at nl name ∷ ds) is d g line ts e =
        leaves-by (want.Kernel ∷ s) ((k, d), g) (reserved at word.Mutex) (want.Name ∷ want.Kernel ∷ s) ((nl, name), ((record k { declarations = ds }, d), g))
        (ap (λ (ds : List Declaration). fill_tokens (want.Kernel ∷ s) ((record k { declarations = ds }, d), g)) is) (ap (λ (ds : List Declaration). fill_levels (want.Kernel ∷ s) ((record k { declarations = ds }, d), g)) is) e
    left k (ArrayOf _ _ _ _ _ _ _ ∷ ds) is d g line ts e = let same = lexeme-of _ _ _ _ (sym (ap (λ (ds : List Declaration). fill_tokens (want.Kernel ∷ s) ((record k { declarations = ds }, d), g)) is) ∙ e) in absurd cc

pub main-takes : (s : List Want) → AreDelimited (want.Kernel ∷ s) → LeadsTo (want.Kernel ∷ s) (Reserved word.Main) 0 (want.Block 0 ∷ s)
main-takes s a =
    takes (want.Kernel ∷ s) (Reserved word.Main) 0 (want.Block 0 ∷ s) ((λ f. closed (want.Block 0) (λ x g. g) (fill_tokens s f)), a.1)
    (λ line g. let b = g.0 in puts-by (want.Kernel ∷ s) ((record { declarations = []; line = line; opened = b.opened; body = b.body; closed = b.closed }, b.derives), g.1) refl refl) (λ f line ts e. left f.0.0 f.0.0.declarations refl f.0.1 f.1 line ts e)
  where
    left : (k : KernelTree) (ds : List Declaration) → k.declarations ≡ ds → (d : IsKernel k) (g : Fill s) (line : ℕ) (ts : List Token) → fill_tokens (want.Kernel ∷ s) ((k, d), g) ≡ token (Reserved word.Main) line ∷ ts
        → Leaves (want.Block 0 ∷ s) 0 ts (fill_levels (want.Kernel ∷ s) ((k, d), g))
    left k [] is d g line ts e =
        leaves-by (want.Kernel ∷ s) ((k, d), g) (reserved k.line word.Main) (want.Block 0 ∷ s) (record { opened = k.opened; body = k.body; closed = k.closed; derives = d }, g)
        (ap (λ (ds : List Declaration). fill_tokens (want.Kernel ∷ s) ((record k { declarations = ds }, d), g)) is) (ap (λ (ds : List Declaration). fill_levels (want.Kernel ∷ s) ((record k { declarations = ds }, d), g)) is) e
    left k (ArrayOf _ _ _ _ _ _ _ ∷ ds) is d g line ts e = let same = lexeme-of _ _ _ _ (sym (ap (λ (ds : List Declaration). fill_tokens (want.Kernel ∷ s) ((record k { declarations = ds }, d), g)) is) ∙ e) in absurd cc
    left k (MutexOf _ _ _ ∷ ds) is d g line ts e = let same = lexeme-of _ _ _ _ (sym (ap (λ (ds : List Declaration). fill_tokens (want.Kernel ∷ s) ((record k { declarations = ds }, d), g)) is) ∙ e) in absurd cc

-- ---- statements

-- what a statement or the brace behind the last begins with
abbrev starts : Lexeme → Bool
starts (Mark sign.CloseBrace) = true
starts (Mark _) = false
starts (Reserved word.Else) = false
starts _ = true

behind-stmts : (w : Want) (n : ℕ) (s : List Want) → ((x : Lexeme) → starts x ≡ true → GoesOnWith w x → ⊥) → AreDelimited (want.Stmts n ∷ s) → (f : Fill (want.Stmts n ∷ s)) → EndsAt w (fill_tokens (want.Stmts n ∷ s) f)
behind-stmts w n s h a ((NoMore, d), g) = ends (fill_tokens s g) (a.0 g)
  where
    ends : (ts : List Token) → EndsAt (want.Stmts n) ts → EndsAt w ts
    ends [] e = absurd (e (Reserved word.Let) (λ same. absurd cc))
    ends (t ∷ ts) e = λ on. e (λ same. h (Mark sign.CloseBrace) refl (subst (λ (x : Lexeme). GoesOnWith w x) same on))
behind-stmts w n s h a ((Assign _ _ _ _ _, d), g) = h _ refl
behind-stmts w n s h a ((Store _ _ _ _ _ _ _ _, d), g) = h _ refl
behind-stmts w n s h a ((_, d), g) = h _ refl

starts-op : (x : Lexeme) → starts x ≡ true → op_of x ≡ None
starts-op (Mark sign.CloseBrace) e = refl
starts-op (Mark _) e = absurd cc
starts-op (Reserved _) e = refl
starts-op (Named _) e = refl
starts-op (Number _) e = refl

starts-bracket : (x : Lexeme) → starts x ≡ true → x ≡ Mark sign.OpenBracket → ⊥
starts-bracket x s e = let none : starts x ≡ false = ap starts e in absurd cc

starts-expr : (x : Lexeme) → starts x ≡ true → GoesOnWith (want.Expr 0) x → ⊥
starts-expr x s (inl e) = starts-bracket x s e
starts-expr x s (inr is) = not-op x (starts-op x s) is

starts-else : (x : Lexeme) → starts x ≡ true → x ≡ Reserved word.Else → ⊥
starts-else x s e = let none : starts x ≡ false = ap starts e in absurd cc

open-brace : (n : ℕ) (s : List Want) (f : Fill (want.Block n ∷ s)) → EndsAt (want.Expr 0) (fill_tokens (want.Block n ∷ s) f)
open-brace n s f (inl e) = absurd cc
open-brace n s f (inr is) = not-op (Mark sign.OpenBrace) refl is

abbrev LeavesStmts : Lexeme → ℕ → List Want → List Want → Type 0
LeavesStmts x n after s = (f : Fill (want.Stmts n ∷ s)) (line : ℕ) (ts : List Token) → fill_tokens (want.Stmts n ∷ s) f ≡ token x line ∷ ts → Leaves after 0 ts (fill_levels (want.Stmts n ∷ s) f)

abbrev value_then : ℕ → List Want → List Want
value_then n s = want.Expr 0 ∷ want.Stmts n ∷ s

value-apart : (n : ℕ) (s : List Want) → AreDelimited (want.Stmts n ∷ s) → AreDelimited (value_then n s)
value-apart n s a = (behind-stmts (want.Expr 0) n s starts-expr a, a)

abbrev let_then : ℕ → List Want → List Want
let_then n s = want.Name ∷ want.Assign ∷ value_then n s

pub let-takes : (n : ℕ) (s : List Want) → AreDelimited (want.Stmts n ∷ s) → LeadsTo (want.Stmts n ∷ s) (Reserved word.Let) 0 (let_then n s)
let-takes n s a =
    takes (want.Stmts n ∷ s) (Reserved word.Let) 0 (let_then n s) ((λ f never. never), ((λ f. closed want.Assign (λ x g. g) (fill_tokens (value_then n s) f)), value-apart n s a))
    (λ line g.
    let v = g.1.1.0 in
    let r = g.1.1.1.0 in
    puts-by (want.Stmts n ∷ s) ((Let line g.0.0 g.0.1 g.1.0 v.0 r.0, (v.1, r.1)), g.1.1.1.1)
    (ap (λ (x : List Token). reserved line word.Let ∷ named g.0.0 g.0.1 ∷ mark g.1.0 sign.Assign ∷ x) (append_assoc (tree_tokens v.0) (stmts_tokens r.0) (fill_tokens s g.1.1.1.1)))
    (ap (λ (x : List ℕ). 0 ∷ 0 ∷ 0 ∷ x) (append_assoc (tree_levels 0 v.0) (stmts_levels n r.0) (fill_levels s g.1.1.1.1)))) left
  where
    left : LeavesStmts (Reserved word.Let) n (let_then n s) s
    left ((NoMore, d), g) line ts e = absurd (never-on (want.Stmts n) s (reserved line word.Let) ts a g e (λ same. absurd cc))
    left ((Let at nl name sl v r, d), g) line ts e =
        leaves-by (want.Stmts n ∷ s) ((Let at nl name sl v r, d), g) (reserved at word.Let) (let_then n s) ((nl, name), (sl, ((v, d.0), ((r, d.1), g))))
        (ap (λ (x : List Token). reserved at word.Let ∷ named nl name ∷ mark sl sign.Assign ∷ x) (append_assoc (tree_tokens v) (stmts_tokens r) (fill_tokens s g)))
        (ap (λ (x : List ℕ). 0 ∷ 0 ∷ 0 ∷ x) (append_assoc (tree_levels 0 v) (stmts_levels n r) (fill_levels s g))) e
    left ((_, d), g) line ts e = let same = lexeme-of _ _ _ _ e in absurd cc

abbrev assign_then : ℕ → List Want → List Want
assign_then n s = want.Target ∷ value_then n s

pub assign-takes : (name : List ℕ) (n : ℕ) (s : List Want) → AreDelimited (want.Stmts n ∷ s) → LeadsTo (want.Stmts n ∷ s) (Named name) 0 (assign_then n s)
assign-takes name n s a =
    takes (want.Stmts n ∷ s) (Named name) 0 (assign_then n s) ((λ f. closed want.Target (λ x g. g) (fill_tokens (value_then n s) f)), value-apart n s a) put left
  where
    put : (line : ℕ) (g : Fill (assign_then n s)) → Fulfils (want.Stmts n ∷ s) (token (Named name) line ∷ fill_tokens (assign_then n s) g) (0 ∷ fill_levels (assign_then n s) g)
    put line (Plain sl, (v, (r, g))) =
        puts-by (want.Stmts n ∷ s) ((Assign line name sl v.0 r.0, (v.1, r.1)), g)
        (ap (λ (x : List Token). named line name ∷ mark sl sign.Assign ∷ x) (append_assoc (tree_tokens v.0) (stmts_tokens r.0) (fill_tokens s g)))
        (ap (λ (x : List ℕ). 0 ∷ 0 ∷ x) (append_assoc (tree_levels 0 v.0) (stmts_levels n r.0) (fill_levels s g)))
    put line (At i sl, (v, (r, g))) =
        puts-by (want.Stmts n ∷ s) ((Store line name i.opened i.index i.closed sl v.0 r.0, (i.derives, v.1, r.1)), g)
        (ap (λ (x : List Token). named line name ∷ mark i.opened sign.OpenBracket ∷ x)
        (stored (tree_tokens i.index) (mark i.closed sign.CloseBracket) (mark sl sign.Assign) (tree_tokens v.0) (stmts_tokens r.0) (fill_tokens s g)))
        (ap (λ (x : List ℕ). 0 ∷ 0 ∷ x) (stored (tree_levels 0 i.index) 0 0 (tree_levels 0 v.0) (stmts_levels n r.0) (fill_levels s g)))

    left : LeavesStmts (Named name) n (assign_then n s) s
    left ((NoMore, d), g) line ts e = absurd (never-on (want.Stmts n) s (named line name) ts a g e (λ same. absurd cc))
    left ((Assign at m sl v r, d), g) line ts e =
        leaves-by (want.Stmts n ∷ s) ((Assign at m sl v r, d), g) (named at m) (assign_then n s) (Plain sl, ((v, d.0), ((r, d.1), g)))
        (ap (λ (x : List Token). named at m ∷ mark sl sign.Assign ∷ x) (append_assoc (tree_tokens v) (stmts_tokens r) (fill_tokens s g)))
        (ap (λ (x : List ℕ). 0 ∷ 0 ∷ x) (append_assoc (tree_levels 0 v) (stmts_levels n r) (fill_levels s g))) e
    left ((Store at m o i c sl v r, d), g) line ts e =
        leaves-by (want.Stmts n ∷ s) ((Store at m o i c sl v r, d), g) (named at m) (assign_then n s) (At (record { opened = o; index = i; closed = c; derives = d.0 }) sl, ((v, d.1), ((r, d.2), g)))
        (ap (λ (x : List Token). named at m ∷ mark o sign.OpenBracket ∷ x) (stored (tree_tokens i) (mark c sign.CloseBracket) (mark sl sign.Assign) (tree_tokens v) (stmts_tokens r) (fill_tokens s g)))
        (ap (λ (x : List ℕ). 0 ∷ 0 ∷ x) (stored (tree_levels 0 i) 0 0 (tree_levels 0 v) (stmts_levels n r) (fill_levels s g))) e
    left ((_, d), g) line ts e = let same = lexeme-of _ _ _ _ e in absurd cc

abbrev update_then : ℕ → List Want → List Want
update_then n s = want.Name ∷ want.OpenBracket ∷ want.Expr 0 ∷ want.CloseBracket ∷ want.UpdateSign ∷ value_then n s

closing : (s : List Want) (f : Fill (want.CloseBracket ∷ s)) → EndsAt (want.Expr 0) (fill_tokens (want.CloseBracket ∷ s) f)
closing s f (inl e) = absurd cc
closing s f (inr is) = not-op (Mark sign.CloseBracket) refl is

update-apart : (n : ℕ) (s : List Want) → AreDelimited (want.Stmts n ∷ s) → AreDelimited (update_then n s)
update-apart n s a =
    let signed = want.UpdateSign ∷ value_then n s in (
      (λ f never. never),
      (
        (λ f. closed want.OpenBracket (λ x g. g) (fill_tokens (want.Expr 0 ∷ want.CloseBracket ∷ signed) f)),
        (
          closing signed,
          (
            (λ f. closed want.CloseBracket (λ x g. g) (fill_tokens signed f)),
            ((λ f. closed want.UpdateSign (λ x g. g) (fill_tokens (value_then n s) f)), value-apart n s a),
          ),
        ),
      ),
    )

pub update-takes : (n : ℕ) (s : List Want) → AreDelimited (want.Stmts n ∷ s) → LeadsTo (want.Stmts n ∷ s) (Reserved word.Atomic) 0 (update_then n s)
update-takes n s a = takes (want.Stmts n ∷ s) (Reserved word.Atomic) 0 (update_then n s) (update-apart n s a) put left
  where
    put : (line : ℕ) (g : Fill (update_then n s)) → Fulfils (want.Stmts n ∷ s) (token (Reserved word.Atomic) line ∷ fill_tokens (update_then n s) g) (0 ∷ fill_levels (update_then n s) g)
    put line (m, (o, (i, (c, (sg, (v, (r, g))))))) =
        puts-by (want.Stmts n ∷ s) ((Update line m.0 m.1 o i.0 c sg.0 sg.1 v.0 r.0, (i.1, v.1, r.1)), g)
        (ap (λ (x : List Token). reserved line word.Atomic ∷ named m.0 m.1 ∷ mark o sign.OpenBracket ∷ x)
        (updated (tree_tokens i.0) (mark c sign.CloseBracket) (mark sg.1 (update_sign sg.0)) (tree_tokens v.0) (stmts_tokens r.0) (fill_tokens s g)))
        (ap (λ (x : List ℕ). 0 ∷ 0 ∷ 0 ∷ x) (updated (tree_levels 0 i.0) 0 0 (tree_levels 0 v.0) (stmts_levels n r.0) (fill_levels s g)))

    left : LeavesStmts (Reserved word.Atomic) n (update_then n s) s
    left ((NoMore, d), g) line ts e = absurd (never-on (want.Stmts n) s (reserved line word.Atomic) ts a g e (λ same. absurd cc))
    left ((Update at nl name o i c minus sl v r, d), g) line ts e =
        leaves-by (want.Stmts n ∷ s) ((Update at nl name o i c minus sl v r, d), g) (reserved at word.Atomic) (update_then n s) ((nl, name), (o, ((i, d.0), (c, ((minus, sl), ((v, d.1), ((r, d.2), g)))))))
        (ap (λ (x : List Token). reserved at word.Atomic ∷ named nl name ∷ mark o sign.OpenBracket ∷ x)
        (updated (tree_tokens i) (mark c sign.CloseBracket) (mark sl (update_sign minus)) (tree_tokens v) (stmts_tokens r) (fill_tokens s g)))
        (ap (λ (x : List ℕ). 0 ∷ 0 ∷ 0 ∷ x) (updated (tree_levels 0 i) 0 0 (tree_levels 0 v) (stmts_levels n r) (fill_levels s g))) e
    left ((_, d), g) line ts e = let same = lexeme-of _ _ _ _ e in absurd cc

abbrev braced : ℕ → (b : Stmts) → ℕ → StmtsDerive b → Braced
braced o b c d = record { opened = o; body = b; closed = c; derives = d }

block-apart : (n : ℕ) (s : List Want) → AreDelimited s → AreDelimited (want.Block n ∷ s)
block-apart n s a = ((λ f. closed (want.Block n) (λ x g. g) (fill_tokens s f)), a)

abbrev if_then : ℕ → List Want → List Want
if_then n s = want.Expr 0 ∷ want.Block n ∷ want.Else n ∷ want.Stmts n ∷ s

pub if-takes : (n : ℕ) (s : List Want) → AreDelimited (want.Stmts n ∷ s) → LeadsTo (want.Stmts n ∷ s) (Reserved word.If) 0 (if_then n s)
if-takes n s a =
    takes (want.Stmts n ∷ s) (Reserved word.If) 0 (if_then n s) (open-brace n (want.Else n ∷ want.Stmts n ∷ s), block-apart n (want.Else n ∷ want.Stmts n ∷ s) (behind-stmts (want.Else n) n s starts-else a, a)) put left
  where
    put : (line : ℕ) (g : Fill (if_then n s)) → Fulfils (want.Stmts n ∷ s) (token (Reserved word.If) line ∷ fill_tokens (if_then n s) g) (0 ∷ fill_levels (if_then n s) g)
    put line (t, (b, (None, (r, g)))) =
        puts-by (want.Stmts n ∷ s) ((If line t.0 b.opened b.body b.closed r.0, (t.1, b.derives, r.1)), g)
        (ap (λ (x : List Token). reserved line word.If ∷ x) (a3 (tree_tokens t.0) (braced_tokens b) (stmts_tokens r.0) (fill_tokens s g)))
        (ap (λ (x : List ℕ). 0 ∷ x) (a3 (tree_levels 0 t.0) (braced_levels n b) (stmts_levels n r.0) (fill_levels s g)))
    put line (t, (b, (Some e, (r, g)))) =
        let o = e.1 in
        puts-by (want.Stmts n ∷ s) ((IfElse line t.0 b.opened b.body b.closed e.0 o.opened o.body o.closed r.0, (t.1, b.derives, o.derives, r.1)), g)
        (ap (λ (x : List Token). reserved line word.If ∷ x) (a4 (tree_tokens t.0) (braced_tokens b) (reserved e.0 word.Else ∷ braced_tokens o) (stmts_tokens r.0) (fill_tokens s g)))
        (ap (λ (x : List ℕ). 0 ∷ x) (a4 (tree_levels 0 t.0) (braced_levels n b) (0 ∷ braced_levels n o) (stmts_levels n r.0) (fill_levels s g)))

    left : LeavesStmts (Reserved word.If) n (if_then n s) s
    left ((NoMore, d), g) line ts e = absurd (never-on (want.Stmts n) s (reserved line word.If) ts a g e (λ same. absurd cc))
    left ((If at t o b c r, d), g) line ts e =
        let k = braced o b c d.1 in
        leaves-by (want.Stmts n ∷ s) ((If at t o b c r, d), g) (reserved at word.If) (if_then n s) ((t, d.0), (k, (None, ((r, d.2), g))))
        (ap (λ (x : List Token). reserved at word.If ∷ x) (a3 (tree_tokens t) (braced_tokens k) (stmts_tokens r) (fill_tokens s g)))
        (ap (λ (x : List ℕ). 0 ∷ x) (a3 (tree_levels 0 t) (braced_levels n k) (stmts_levels n r) (fill_levels s g))) e
    left ((IfElse at t o b c el eo eb ec r, d), g) line ts e =
        let k = braced o b c d.1 in
        let other = braced eo eb ec d.2 in
        leaves-by (want.Stmts n ∷ s) ((IfElse at t o b c el eo eb ec r, d), g) (reserved at word.If) (if_then n s) ((t, d.0), (k, (Some (el, other), ((r, d.3), g))))
        (ap (λ (x : List Token). reserved at word.If ∷ x) (a4 (tree_tokens t) (braced_tokens k) (reserved el word.Else ∷ braced_tokens other) (stmts_tokens r) (fill_tokens s g)))
        (ap (λ (x : List ℕ). 0 ∷ x) (a4 (tree_levels 0 t) (braced_levels n k) (0 ∷ braced_levels n other) (stmts_levels n r) (fill_levels s g))) e
    left ((_, d), g) line ts e = let same = lexeme-of _ _ _ _ e in absurd cc

-- NAME in expr .. and what is behind
abbrev range_then : List Want → List Want
range_then s = want.Name ∷ want.In ∷ want.Expr 0 ∷ want.Dots ∷ want.Expr 0 ∷ s

dots : (s : List Want) (f : Fill (want.Dots ∷ s)) → EndsAt (want.Expr 0) (fill_tokens (want.Dots ∷ s) f)
dots s f (inl e) = absurd cc
dots s f (inr is) = not-op (Mark sign.Dots) refl is

range-apart : (s : List Want) → ((f : Fill s) → EndsAt (want.Expr 0) (fill_tokens s f)) → AreDelimited s → AreDelimited (range_then s)
range-apart s h a =
    ((λ f never. never), ((λ f. closed want.In (λ x g. g) (fill_tokens (want.Expr 0 ∷ want.Dots ∷ want.Expr 0 ∷ s) f)), (dots (want.Expr 0 ∷ s), ((λ f. closed want.Dots (λ x g. g) (fill_tokens (want.Expr 0 ∷ s) f)), (h, a)))))

abbrev block_then : ℕ → List Want → List Want
block_then n s = want.Block n ∷ want.Stmts n ∷ s

pub loop-takes : (n : ℕ) (s : List Want) → AreDelimited (want.Stmts n ∷ s) → LeadsTo (want.Stmts n ∷ s) (Reserved word.Loop) 0 (range_then (block_then n s))
loop-takes n s a =
    takes (want.Stmts n ∷ s) (Reserved word.Loop) 0 (range_then (block_then n s)) (range-apart (block_then n s) (open-brace n (want.Stmts n ∷ s)) (block-apart n (want.Stmts n ∷ s) a))
    (λ line g.
    let name = g.0 in
    let from = g.1.1.0 in
    let to = g.1.1.1.1.0 in
    let b = g.1.1.1.1.1.0 in
    let r = g.1.1.1.1.1.1.0 in
    let more = g.1.1.1.1.1.1.1 in
    puts-by (want.Stmts n ∷ s) ((Loop line name.0 name.1 g.1.0 from.0 g.1.1.1.0 to.0 b.opened b.body b.closed r.0, (from.1, to.1, b.derives, r.1)), more)
    (ap (λ (x : List Token). reserved line word.Loop ∷ named name.0 name.1 ∷ reserved g.1.0 word.In ∷ x) (looped (tree_tokens from.0) (mark g.1.1.1.0 sign.Dots) (tree_tokens to.0) (braced_tokens b) (stmts_tokens r.0) (fill_tokens s more)))
    (ap (λ (x : List ℕ). 0 ∷ 0 ∷ 0 ∷ x) (looped (tree_levels 0 from.0) 0 (tree_levels 0 to.0) (braced_levels n b) (stmts_levels n r.0) (fill_levels s more)))) left
  where
    left : LeavesStmts (Reserved word.Loop) n (range_then (block_then n s)) s
    left ((NoMore, d), g) line ts e = absurd (never-on (want.Stmts n) s (reserved line word.Loop) ts a g e (λ same. absurd cc))
    left ((Loop at nl name il from dl to o b c r, d), g) line ts e =
        let k = braced o b c d.2 in
        leaves-by (want.Stmts n ∷ s) ((Loop at nl name il from dl to o b c r, d), g) (reserved at word.Loop) (range_then (block_then n s)) ((nl, name), (il, ((from, d.0), (dl, ((to, d.1), (k, ((r, d.3), g)))))))
        (ap (λ (x : List Token). reserved at word.Loop ∷ named nl name ∷ reserved il word.In ∷ x) (looped (tree_tokens from) (mark dl sign.Dots) (tree_tokens to) (braced_tokens k) (stmts_tokens r) (fill_tokens s g)))
        (ap (λ (x : List ℕ). 0 ∷ 0 ∷ 0 ∷ x) (looped (tree_levels 0 from) 0 (tree_levels 0 to) (braced_levels n k) (stmts_levels n r) (fill_levels s g))) e
    left ((_, d), g) line ts e = let same = lexeme-of _ _ _ _ e in absurd cc

abbrev parallel_then : ℕ → List Want → List Want
parallel_then n s = want.Number ∷ block_then n s

pub parallel-takes : (n : ℕ) (s : List Want) → AreDelimited (want.Stmts n ∷ s) → LeadsTo (want.Stmts n ∷ s) (Reserved word.Parallel) 0 (parallel_then n s)
parallel-takes n s a =
    takes (want.Stmts n ∷ s) (Reserved word.Parallel) 0 (parallel_then n s) ((λ f never. never), block-apart n (want.Stmts n ∷ s) a)
    (λ line g.
    let b = g.1.0 in
    let r = g.1.1.0 in
    puts-by (want.Stmts n ∷ s) ((Parallel line g.0.0 g.0.1 b.opened b.body b.closed r.0, (b.derives, r.1)), g.1.1.1)
    (ap (λ (x : List Token). reserved line word.Parallel ∷ number g.0.0 g.0.1 ∷ x) (append_assoc (braced_tokens b) (stmts_tokens r.0) (fill_tokens s g.1.1.1)))
    (ap (λ (x : List ℕ). 0 ∷ 0 ∷ x) (append_assoc (braced_levels n b) (stmts_levels n r.0) (fill_levels s g.1.1.1)))) left
  where
    left : LeavesStmts (Reserved word.Parallel) n (parallel_then n s) s
    left ((NoMore, d), g) line ts e = absurd (never-on (want.Stmts n) s (reserved line word.Parallel) ts a g e (λ same. absurd cc))
    left ((Parallel at nl v o b c r, d), g) line ts e =
        let k = braced o b c d.0 in
        leaves-by (want.Stmts n ∷ s) ((Parallel at nl v o b c r, d), g) (reserved at word.Parallel) (parallel_then n s) ((nl, v), (k, ((r, d.1), g)))
        (ap (λ (x : List Token). reserved at word.Parallel ∷ number nl v ∷ x) (append_assoc (braced_tokens k) (stmts_tokens r) (fill_tokens s g)))
        (ap (λ (x : List ℕ). 0 ∷ 0 ∷ x) (append_assoc (braced_levels n k) (stmts_levels n r) (fill_levels s g))) e
    left ((_, d), g) line ts e = let same = lexeme-of _ _ _ _ e in absurd cc

abbrev shared_then : ℕ → List Want → List Want
shared_then n s = want.Schedule ∷ want.Nowait ∷ block_then n s

no-schedule : (x : Lexeme) → (x ≡ Reserved word.Static → ⊥) → (x ≡ Reserved word.Dynamic → ⊥) → ((value : ℤ) → x ≡ Number value → ⊥) → GoesOnWith want.Schedule x → ⊥
no-schedule x a b c (inl e) = a e
no-schedule x a b c (inr (inl e)) = b e
no-schedule x a b c (inr (inr e)) = c e.0 e.1

nowait-first : (n : ℕ) (s : List Want) (f : Fill (want.Nowait ∷ block_then n s)) → EndsAt want.Schedule (fill_tokens (want.Nowait ∷ block_then n s) f)
nowait-first n s (None, f) = no-schedule (Mark sign.OpenBrace) (λ e. absurd cc) (λ e. absurd cc) (λ v e. absurd cc)
nowait-first n s (Some at, f) = no-schedule (Reserved word.Nowait) (λ e. absurd cc) (λ e. absurd cc) (λ v e. absurd cc)

word-expr : (w : Word) → GoesOnWith (want.Expr 0) (Reserved w) → ⊥
word-expr w (inl e) = absurd cc
word-expr w (inr is) = not-op (Reserved w) refl is

schedule-first : (n : ℕ) (s : List Want) (f : Fill (shared_then n s)) → EndsAt (want.Expr 0) (fill_tokens (shared_then n s) f)
schedule-first n s (Unsaid, (None, f)) = open-brace n (want.Stmts n ∷ s) f
schedule-first n s (Unsaid, (Some at, f)) = word-expr word.Nowait
schedule-first n s (Static _, f) = word-expr word.Static
schedule-first n s (StaticBy _ _ _, f) = word-expr word.Static
schedule-first n s (Dynamic _, f) = word-expr word.Dynamic
schedule-first n s (DynamicBy _ _ _, f) = word-expr word.Dynamic

pub for-takes : (n : ℕ) (s : List Want) → AreDelimited (want.Stmts n ∷ s) → LeadsTo (want.Stmts n ∷ s) (Reserved word.For) 0 (range_then (shared_then n s))
for-takes n s a =
    takes (want.Stmts n ∷ s) (Reserved word.For) 0 (range_then (shared_then n s)) (range-apart (shared_then n s) (schedule-first n s) (nowait-first n s, ((λ f e. absurd cc), block-apart n (want.Stmts n ∷ s) a)))
    (λ line g.
    let name = g.0 in
    let from = g.1.1.0 in
    let to = g.1.1.1.1.0 in
    let said = g.1.1.1.1.1.0 in
    let nowait = g.1.1.1.1.1.1.0 in
    let b = g.1.1.1.1.1.1.1.0 in
    let r = g.1.1.1.1.1.1.1.1.0 in
    let more = g.1.1.1.1.1.1.1.1.1 in
    puts-by (want.Stmts n ∷ s) ((For line name.0 name.1 g.1.0 from.0 g.1.1.1.0 to.0 said nowait b.opened b.body b.closed r.0, (from.1, to.1, b.derives, r.1)), more)
    (ap (λ (x : List Token). reserved line word.For ∷ named name.0 name.1 ∷ reserved g.1.0 word.In ∷ x)
    (shared (tree_tokens from.0) (mark g.1.1.1.0 sign.Dots) (tree_tokens to.0) (schedule_tokens said) (nowait_tokens nowait) (braced_tokens b) (stmts_tokens r.0) (fill_tokens s more)))
    (ap (λ (x : List ℕ). 0 ∷ 0 ∷ 0 ∷ x) (shared (tree_levels 0 from.0) 0 (tree_levels 0 to.0) (flat (schedule_tokens said)) (flat (nowait_tokens nowait)) (braced_levels n b) (stmts_levels n r.0) (fill_levels s more)))) left
  where
    left : LeavesStmts (Reserved word.For) n (range_then (shared_then n s)) s
    left ((NoMore, d), g) line ts e = absurd (never-on (want.Stmts n) s (reserved line word.For) ts a g e (λ same. absurd cc))
    left ((For at nl name il from dl to said nowait o b c r, d), g) line ts e =
        let k = braced o b c d.2 in
        leaves-by (want.Stmts n ∷ s) ((For at nl name il from dl to said nowait o b c r, d), g) (reserved at word.For) (range_then (shared_then n s)) ((nl, name), (il, ((from, d.0), (dl, ((to, d.1), (said, (nowait, (k, ((r, d.3), g)))))))))
        (ap (λ (x : List Token). reserved at word.For ∷ named nl name ∷ reserved il word.In ∷ x)
        (shared (tree_tokens from) (mark dl sign.Dots) (tree_tokens to) (schedule_tokens said) (nowait_tokens nowait) (braced_tokens k) (stmts_tokens r) (fill_tokens s g)))
        (ap (λ (x : List ℕ). 0 ∷ 0 ∷ 0 ∷ x) (shared (tree_levels 0 from) 0 (tree_levels 0 to) (flat (schedule_tokens said)) (flat (nowait_tokens nowait)) (braced_levels n k) (stmts_levels n r) (fill_levels s g))) e
    left ((_, d), g) line ts e = let same = lexeme-of _ _ _ _ e in absurd cc

pub barrier-takes : (n : ℕ) (s : List Want) → AreDelimited (want.Stmts n ∷ s) → LeadsTo (want.Stmts n ∷ s) (Reserved word.Barrier) 0 (want.Stmts n ∷ s)
barrier-takes n s a = takes (want.Stmts n ∷ s) (Reserved word.Barrier) 0 (want.Stmts n ∷ s) a (λ line g. puts-by (want.Stmts n ∷ s) ((Barrier line g.0.0, g.0.1), g.1) refl refl) left
  where
    left : LeavesStmts (Reserved word.Barrier) n (want.Stmts n ∷ s) s
    left ((NoMore, d), g) line ts e = absurd (never-on (want.Stmts n) s (reserved line word.Barrier) ts a g e (λ same. absurd cc))
    left ((Barrier at r, d), g) line ts e = leaves-by (want.Stmts n ∷ s) ((Barrier at r, d), g) (reserved at word.Barrier) (want.Stmts n ∷ s) ((r, d), g) refl refl e
    left ((_, d), g) line ts e = let same = lexeme-of _ _ _ _ e in absurd cc

abbrev critical_then : ℕ → List Want → List Want
critical_then n s = want.SectionName ∷ block_then n s

no-name : (n : ℕ) (s : List Want) (f : Fill (block_then n s)) → EndsAt want.SectionName (fill_tokens (block_then n s) f)
no-name n s f is = let same = is.1 in absurd cc

pub critical-takes : (n : ℕ) (s : List Want) → AreDelimited (want.Stmts n ∷ s) → LeadsTo (want.Stmts n ∷ s) (Reserved word.Critical) 0 (critical_then n s)
critical-takes n s a = takes (want.Stmts n ∷ s) (Reserved word.Critical) 0 (critical_then n s) (no-name n s, block-apart n (want.Stmts n ∷ s) a) put left
  where
    put : (line : ℕ) (g : Fill (critical_then n s)) → Fulfils (want.Stmts n ∷ s) (token (Reserved word.Critical) line ∷ fill_tokens (critical_then n s) g) (0 ∷ fill_levels (critical_then n s) g)
    put line (None, (b, (r, g))) =
        puts-by (want.Stmts n ∷ s) ((Critical line b.opened b.body b.closed r.0, (b.derives, r.1)), g)
        (ap (λ (x : List Token). reserved line word.Critical ∷ x) (append_assoc (braced_tokens b) (stmts_tokens r.0) (fill_tokens s g)))
        (ap (λ (x : List ℕ). 0 ∷ x) (append_assoc (braced_levels n b) (stmts_levels n r.0) (fill_levels s g)))
    put line (Some v, (b, (r, g))) =
        puts-by (want.Stmts n ∷ s) ((CriticalOf line v.0 v.1 b.opened b.body b.closed r.0, (b.derives, r.1)), g)
        (ap (λ (x : List Token). reserved line word.Critical ∷ named v.0 v.1 ∷ x) (append_assoc (braced_tokens b) (stmts_tokens r.0) (fill_tokens s g)))
        (ap (λ (x : List ℕ). 0 ∷ 0 ∷ x) (append_assoc (braced_levels n b) (stmts_levels n r.0) (fill_levels s g)))

    left : LeavesStmts (Reserved word.Critical) n (critical_then n s) s
    left ((NoMore, d), g) line ts e = absurd (never-on (want.Stmts n) s (reserved line word.Critical) ts a g e (λ same. absurd cc))
    left ((Critical at o b c r, d), g) line ts e =
        let k = braced o b c d.0 in
        leaves-by (want.Stmts n ∷ s) ((Critical at o b c r, d), g) (reserved at word.Critical) (critical_then n s) (None, (k, ((r, d.1), g)))
        (ap (λ (x : List Token). reserved at word.Critical ∷ x) (append_assoc (braced_tokens k) (stmts_tokens r) (fill_tokens s g)))
        (ap (λ (x : List ℕ). 0 ∷ x) (append_assoc (braced_levels n k) (stmts_levels n r) (fill_levels s g))) e
    left ((CriticalOf at nl name o b c r, d), g) line ts e =
        let k = braced o b c d.0 in
        leaves-by (want.Stmts n ∷ s) ((CriticalOf at nl name o b c r, d), g) (reserved at word.Critical) (critical_then n s) (Some (nl, name), (k, ((r, d.1), g)))
        (ap (λ (x : List Token). reserved at word.Critical ∷ named nl name ∷ x) (append_assoc (braced_tokens k) (stmts_tokens r) (fill_tokens s g)))
        (ap (λ (x : List ℕ). 0 ∷ 0 ∷ x) (append_assoc (braced_levels n k) (stmts_levels n r) (fill_levels s g))) e
    left ((_, d), g) line ts e = let same = lexeme-of _ _ _ _ e in absurd cc

-- what a statement begins with
abbrev pub is_stmt : Lexeme → Bool
is_stmt (Named _) = true
is_stmt (Reserved word.Let) = true
is_stmt (Reserved word.If) = true
is_stmt (Reserved word.Loop) = true
is_stmt (Reserved word.Parallel) = true
is_stmt (Reserved word.For) = true
is_stmt (Reserved word.Barrier) = true
is_stmt (Reserved word.Critical) = true
is_stmt (Reserved word.Atomic) = true
is_stmt _ = false

pub stmts-skip : (x : Lexeme) (n : ℕ) (s : List Want) → is_stmt x ≡ false → Skips (want.Stmts n) s x
stmts-skip x n s is = skips (want.Stmts n) x (NoMore, tt) refl refl rest s
  where
    rest : (v : Value (want.Stmts n)) (line : ℕ) (ts more : List Token) → stmts_tokens v.0 ++ more ≡ token x line ∷ ts → (stmts_tokens v.0 ≡ []) × (stmts_levels n v.0 ≡ [])
    rest (NoMore, d) line ts more e = (refl, refl)
    rest (_, d) line ts more e = let same = ap is_stmt (lexeme-of _ _ _ _ e) ∙ is in absurd cc

abbrev pub is_kernel : Lexeme → Bool
is_kernel (Reserved word.Array) = true
is_kernel (Reserved word.Mutex) = true
is_kernel (Reserved word.Main) = true
is_kernel _ = false

pub kernel-refuses : (x : Lexeme) (s : List Want) → is_kernel x ≡ false → Refuses (want.Kernel ∷ s) x
kernel-refuses x s is line ts ls r = starts r.fill.0.0 r.fill.0.0.declarations refl r.fill.0.1 r.fill.1 r.tokens
  where
    starts : (k : KernelTree) (ds : List Declaration) → k.declarations ≡ ds → (d : IsKernel k) (g : Fill s) → fill_tokens (want.Kernel ∷ s) ((k, d), g) ≡ token x line ∷ ts → ⊥
    starts k [] e d g f = let same = ap is_kernel (lexeme-of _ _ _ _ (sym (ap (λ (ds : List Declaration). fill_tokens (want.Kernel ∷ s) ((record k { declarations = ds }, d), g)) e) ∙ f)) ∙ is in absurd cc
    starts k (ArrayOf _ _ _ _ _ _ _ ∷ ds) e d g f = let same = ap is_kernel (lexeme-of _ _ _ _ (sym (ap (λ (ds : List Declaration). fill_tokens (want.Kernel ∷ s) ((record k { declarations = ds }, d), g)) e) ∙ f)) ∙ is in absurd cc
    starts k (MutexOf _ _ _ ∷ ds) e d g f = let same = ap is_kernel (lexeme-of _ _ _ _ (sym (ap (λ (ds : List Declaration). fill_tokens (want.Kernel ∷ s) ((record k { declarations = ds }, d), g)) e) ∙ f)) ∙ is in absurd cc
