-- The same of operators, and a whole expression as its first operand and the operators behind it.
use Rattle.std.proofs.Common.{◌≡◌, ℕ, ◌≤◌, Bool, true, false, List, [], ◌∷◌, ◌++◌, inl, inr, Some, None, refl, sym, ap, subst, ◌∙◌, append_assoc, append-nil, arith}
use Rattle.kernel_syntax.specs.declared.syntax.Op.{Op}
use Rattle.kernel_syntax.specs.declared.syntax.Op.TheVariants.{Add, Sub, Mul, Div, Rem}
use Rattle.kernel_text.specs.declared.token.Sign.TheVariants as sign
use Rattle.kernel_text.specs.declared.token.Lexeme.{Lexeme}
use Rattle.kernel_text.specs.declared.token.Lexeme.TheVariants.{Mark}
use Rattle.kernel_text.specs.declared.token.Token.{Token}
use Rattle.kernel_text.specs.declared.judging.Want.{Want}
use Rattle.kernel_text.specs.declared.judging.Want.TheVariants as want
use Rattle.kernel_text.specs.Grammar.{Tree, NumberAt, NameAt, TidAt, SpanAt, Element, Group, Minus, Binary, Derives, tree_tokens, op_of, sign_of, is_comparison, rank_of, left_rank, right_rank, unary, expr, mark}
use Rattle.kernel_text.specs.Faults.{tree_levels}
use Rattle.kernel_text.specs.Wanting.{Chain, Last, Then, chain_tokens, chain_levels, Allows, FitsChain, Value, Fill, fill_tokens, fill_levels, Fulfils, EndsAt, AreDelimited, token, LeadsTo, Skips, Refuses}
use Rattle.kernel_text.proofs.Operators.{op_of-sign}
use Rattle.kernel_text.proofs.Grouping.{whole_of, allowed}
use Rattle.kernel_text.proofs.Unfolding.{lexeme-of, Leaves, puts-by, leaves-by, takes, weaker, never-on, not-op, skips}

pub same-op : (o p : Op) → Mark (sign_of o) ≡ Mark (sign_of p) → o ≡ p
same-op o p e = let some : Some o ≡ Some p = sym (op_of-sign o) ∙ ap op_of e ∙ op_of-sign p in cc

-- ---- operators

no-bracket : (o : Op) → Mark (sign_of o) ≡ Mark sign.OpenBracket → ⊥
no-bracket o e = let some : Some o ≡ None = sym (op_of-sign o) ∙ ap op_of e in absurd cc

operand-ends : (n : ℕ) (c : Bool) (s : List Want) → AreDelimited (want.Operators n c ∷ s) → (f : Fill (want.Operators n c ∷ s)) → EndsAt (want.Operand n) (fill_tokens (want.Operators n c ∷ s) f)
operand-ends n c s a ((Last, d), g) = weaker (want.Operators n c) (want.Operand n) (fill_tokens s g) (λ x e. inl e) (a.0 g)
operand-ends n c s a ((Then o line u rest, d), g) = no-bracket o

terms-apart : (n : ℕ) (c after : Bool) (s : List Want) → AreDelimited (want.Operators n c ∷ s) → AreDelimited (want.Operand n ∷ want.Operators n after ∷ s)
terms-apart n c after s a =
    let b : AreDelimited (want.Operators n after ∷ s) = ((λ f. weaker (want.Operators n c) (want.Operators n after) (fill_tokens s f) (λ x g. g) (a.0 f)), a.1) in (operand-ends n after s b, b)

pub operator-takes : (o : Op) (n : ℕ) (c after : Bool) (s : List Want) → ((ch : Chain) → FitsChain after ch → Allows c (is_comparison o) (FitsChain c ch) (FitsChain false ch))
    → ((ch : Chain) → Allows c (is_comparison o) (FitsChain c ch) (FitsChain false ch) → FitsChain after ch) → AreDelimited (want.Operators n c ∷ s)
    → LeadsTo (want.Operators n c ∷ s) (Mark (sign_of o)) 0 (want.Operand n ∷ want.Operators n after ∷ s)
operator-takes o n c after s allow allowed a =
    takes (want.Operators n c ∷ s) (Mark (sign_of o)) 0 (want.Operand n ∷ want.Operators n after ∷ s) (terms-apart n c after s a)
    (λ line g. puts-by (want.Operators n c ∷ s) ((Then o line g.0.0 g.1.0.0, (g.0.1, allow g.1.0.0 g.1.0.1)), g.1.1)
    (ap (λ (r : List Token). mark line (sign_of o) ∷ r) (append_assoc (tree_tokens g.0.0) (chain_tokens g.1.0.0) (fill_tokens s g.1.1)))
    (ap (λ (r : List ℕ). 0 ∷ r) (append_assoc (tree_levels n g.0.0) (chain_levels n g.1.0.0) (fill_levels s g.1.1)))) left
  where
    left : (f : Fill (want.Operators n c ∷ s)) (line : ℕ) (ts : List Token) → fill_tokens (want.Operators n c ∷ s) f ≡ token (Mark (sign_of o)) line ∷ ts
        → Leaves (want.Operand n ∷ want.Operators n after ∷ s) 0 ts (fill_levels (want.Operators n c ∷ s) f)
    left ((Last, d), g) line ts e = absurd (never-on (want.Operators n c) s (mark line (sign_of o)) ts a g e (inr (o, refl)))
    left ((Then p at u rest, d), g) line ts e =
        let same = same-op p o (lexeme-of _ _ _ _ e) in
        let fits = allowed rest (subst (λ (p : Op). Allows c (is_comparison p) (FitsChain c rest) (FitsChain false rest)) same d.1) in
        leaves-by (want.Operators n c ∷ s) ((Then p at u rest, d), g) (mark at (sign_of p)) (want.Operand n ∷ want.Operators n after ∷ s) ((u, d.0), ((rest, fits), g))
        (ap (λ (r : List Token). mark at (sign_of p) ∷ r) (append_assoc (tree_tokens u) (chain_tokens rest) (fill_tokens s g)))
        (ap (λ (r : List ℕ). 0 ∷ r) (append_assoc (tree_levels n u) (chain_levels n rest) (fill_levels s g))) e

plain-allows : (c b : Bool) (A B : Type 0) → b ≡ false → A → Allows c b A B
plain-allows c false A B e a = a
plain-allows c true A B e a = absurd cc

pub plain-takes : (o : Op) (n : ℕ) (c : Bool) (s : List Want) → is_comparison o ≡ false → AreDelimited (want.Operators n c ∷ s) → LeadsTo (want.Operators n c ∷ s) (Mark (sign_of o)) 0 (want.Operand n ∷ want.Operators n c ∷ s)
plain-takes o n c s e a =
    operator-takes o n c c s (λ ch d. plain-allows c (is_comparison o) (FitsChain c ch) (FitsChain false ch) e d) (λ ch d. allowed c (is_comparison o) (FitsChain c ch) (FitsChain false ch) e d) a

pub comparison-takes : (o : Op) (n : ℕ) (c : Bool) (s : List Want) → c ≡ true → is_comparison o ≡ true → AreDelimited (want.Operators n c ∷ s)
    → LeadsTo (want.Operators n c ∷ s) (Mark (sign_of o)) 0 (want.Operand n ∷ want.Operators n false ∷ s)
comparison-takes o n false s may e a = absurd cc
comparison-takes o n true s may e a =
    operator-takes o n true false s (λ ch d. subst (λ (b : Bool). Allows true b (FitsChain true ch) (FitsChain false ch)) (sym e) d) (λ ch d. subst (λ (b : Bool). Allows true b (FitsChain true ch) (FitsChain false ch)) e d) a

pub operators-skip : (x : Lexeme) (n : ℕ) (c : Bool) (s : List Want) → op_of x ≡ None → Skips (want.Operators n c) s x
operators-skip x n c s none = skips (want.Operators n c) x (Last, tt) refl refl rest s
  where
    rest : (v : Value (want.Operators n c)) (line : ℕ) (ts more : List Token) → chain_tokens v.0 ++ more ≡ token x line ∷ ts → (chain_tokens v.0 ≡ []) × (chain_levels n v.0 ≡ [])
    rest (Last, d) line ts more e = (refl, refl)
    rest (Then o at u ch, d) line ts more e = absurd (not-op x none (o, sym (lexeme-of _ _ _ _ e)))

pub comparison-skips : (o : Op) (n : ℕ) (c : Bool) (s : List Want) → c ≡ false → is_comparison o ≡ true → Skips (want.Operators n c) s (Mark (sign_of o))
comparison-skips o n true s never is = absurd cc
comparison-skips o n false s never is = skips (want.Operators n false) (Mark (sign_of o)) (Last, tt) refl refl rest s
  where
    rest : (v : Value (want.Operators n false)) (line : ℕ) (ts more : List Token) → chain_tokens v.0 ++ more ≡ token (Mark (sign_of o)) line ∷ ts → (chain_tokens v.0 ≡ []) × (chain_levels n v.0 ≡ [])
    rest (Last, d) line ts more e = (refl, refl)
    rest (Then p at u ch, d) line ts more e =
        let same = ap is_comparison (same-op p o (lexeme-of _ _ _ _ e)) ∙ is in absurd (subst (λ (b : Bool). Allows false b (FitsChain false ch) (FitsChain false ch)) same d.1)

-- ---- whole expressions

record Split (n : ℕ) (c : Bool) (t : Tree) : Type 0 where
  first : Tree
  chain : Chain
  is : Derives unary first
  fits : FitsChain c chain
  tokens : tree_tokens first ++ chain_tokens chain ≡ tree_tokens t
  levels : tree_levels n first ++ chain_levels n chain ≡ tree_levels n t

abbrev join : Chain → Chain → Chain
join Last b = b
join (Then o line u a) b = Then o line u (join a b)

join-tokens : (a b : Chain) → chain_tokens (join a b) ≡ chain_tokens a ++ chain_tokens b
join-tokens Last b = refl
join-tokens (Then o line u a) b = ap (λ (r : List Token). mark line (sign_of o) ∷ tree_tokens u ++ r) (join-tokens a b) ∙ ap (λ (r : List Token). mark line (sign_of o) ∷ r) (sym (append_assoc (tree_tokens u) (chain_tokens a) (chain_tokens b)))

join-levels : (n : ℕ) (a b : Chain) → chain_levels n (join a b) ≡ chain_levels n a ++ chain_levels n b
join-levels n Last b = refl
join-levels n (Then o line u a) b = ap (λ (r : List ℕ). 0 ∷ tree_levels n u ++ r) (join-levels n a b) ∙ ap (λ (r : List ℕ). 0 ∷ r) (sym (append_assoc (tree_levels n u) (chain_levels n a) (chain_levels n b)))

allows-more : (c b : Bool) (A B C D : Type 0) → (A → C) → Allows false b A B → Allows c b C D
allows-more c false A B C D h a = h a
allows-more c true A B C D h a = absurd a

join-fits : (c : Bool) (a b : Chain) → FitsChain false a → FitsChain c b → FitsChain c (join a b)
join-fits c Last b d e = e
join-fits c (Then o line u a) b d e = (d.0, allows-more c (is_comparison o) (FitsChain false a) (FitsChain false a) (FitsChain c (join a b)) (FitsChain false (join a b)) (λ f. join-fits c a b f e) d.1)

fits-more : (a : Chain) → FitsChain false a → FitsChain true a
fits-more Last d = tt
fits-more (Then o line u a) d = (d.0, allows-more true (is_comparison o) (FitsChain false a) (FitsChain false a) (FitsChain true a) (FitsChain false a) (fits-more a) d.1)

split-alone : (n : ℕ) (c : Bool) (t : Tree) → Derives unary t → Split n c t
split-alone n c t d = record { first = t; chain = Last; is = d; fits = tt; tokens = append-nil (tree_tokens t); levels = append-nil (tree_levels n t) }

joined : {A : Type 0} (x y z w l r : List A) (m : A) (j : List A) → j ≡ y ++ (m ∷ (z ++ w)) → x ++ y ≡ l → z ++ w ≡ r → x ++ j ≡ l ++ (m ∷ r)
joined x y z w l r m j e f g = ap (λ k. x ++ k) e ∙ sym (append_assoc x y (m ∷ (z ++ w))) ∙ ap (λ k. k ++ (m ∷ (z ++ w))) f ∙ ap (λ k. l ++ (m ∷ k)) g

split-both : (n : ℕ) (c : Bool) (l : Tree) (o : Op) (line : ℕ) (r : Tree) → Split n false l → (b : Split n false r) → Allows c (is_comparison o) (FitsChain c b.chain) (FitsChain false b.chain) → Split n c (Binary l o line r)
split-both n c l o line r a b allow = record {
  first = a.first;
  chain = join a.chain (Then o line b.first b.chain);
  is = a.is;
  fits = join-fits c a.chain (Then o line b.first b.chain) a.fits (b.is, allow);
  tokens = joined (tree_tokens a.first) (chain_tokens a.chain) (tree_tokens b.first) (chain_tokens b.chain) (tree_tokens l) (tree_tokens r) (mark line (sign_of o)) _ (join-tokens a.chain (Then o line b.first b.chain)) a.tokens b.tokens;
  levels = joined (tree_levels n a.first) (chain_levels n a.chain) (tree_levels n b.first) (chain_levels n b.chain) (tree_levels n l) (tree_levels n r) 0 _ (join-levels n a.chain (Then o line b.first b.chain)) a.levels b.levels;
}

low-left : (o : Op) → left_rank o ≤ 2
low-left Add = omega arith
low-left Sub = omega arith
low-left Mul = omega arith
low-left Div = omega arith
low-left Rem = omega arith
low-left _ = omega arith

low-right : (o : Op) → right_rank o ≤ 2
low-right Add = omega arith
low-right Sub = omega arith
low-right Mul = omega arith
low-right Div = omega arith
low-right Rem = omega arith
low-right _ = omega arith

low-plain : (o : Op) → rank_of o ≤ 2 → is_comparison o ≡ false
low-plain Add le = refl
low-plain Sub le = refl
low-plain Mul le = refl
low-plain Div le = refl
low-plain Rem le = refl
low-plain _ le = absurd (omega (arith, le))

split-low : (n : ℕ) (t : Tree) (p : ℕ) → p ≤ 2 → Derives p t → Split n false t
split-low n (NumberAt line value) p le d = split-alone n false (NumberAt line value) tt
split-low n (NameAt line name) p le d = split-alone n false (NameAt line name) tt
split-low n (TidAt line) p le d = split-alone n false (TidAt line) tt
split-low n (SpanAt line) p le d = split-alone n false (SpanAt line) tt
split-low n (Element line name opened index closed) p le d = split-alone n false (Element line name opened index closed) d
split-low n (Group opened inside closed) p le d = split-alone n false (Group opened inside closed) d
split-low n (Minus line operand) p le d = split-alone n false (Minus line operand) d
split-low n (Binary l o line r) p le d =
    let b = split-low n r (right_rank o) (low-right o) d.2 in
    split-both n false l o line r (split-low n l (left_rank o) (low-left o) d.1) b (plain-allows false (is_comparison o) (FitsChain false b.chain) (FitsChain false b.chain) (low-plain o (omega (arith, d.0, le))) b.fits)

any-allows : (b : Bool) (ch : Chain) → FitsChain false ch → Allows true b (FitsChain true ch) (FitsChain false ch)
any-allows false ch d = fits-more ch d
any-allows true ch d = d

split-whole : (n : ℕ) (t : Tree) → Derives expr t → Split n true t
split-whole n (NumberAt line value) d = split-alone n true (NumberAt line value) tt
split-whole n (NameAt line name) d = split-alone n true (NameAt line name) tt
split-whole n (TidAt line) d = split-alone n true (TidAt line) tt
split-whole n (SpanAt line) d = split-alone n true (SpanAt line) tt
split-whole n (Element line name opened index closed) d = split-alone n true (Element line name opened index closed) d
split-whole n (Group opened inside closed) d = split-alone n true (Group opened inside closed) d
split-whole n (Minus line operand) d = split-alone n true (Minus line operand) d
split-whole n (Binary l o line r) d =
    let b = split-low n r (right_rank o) (low-right o) d.2 in split-both n true l o line r (split-low n l (left_rank o) (low-left o) d.1) b (any-allows (is_comparison o) b.chain b.fits)

abbrev pub terms : ℕ → List Want → List Want
terms n s = want.Operand n ∷ want.Operators n true ∷ s

pub expr-apart : (n : ℕ) (s : List Want) → AreDelimited (want.Expr n ∷ s) → AreDelimited (terms n s)
expr-apart n s a = terms-apart n true true s ((λ f. weaker (want.Expr n) (want.Operators n true) (fill_tokens s f) (λ x g. g) (a.0 f)), a.1)

pub expr-terms : (n : ℕ) (s : List Want) (ts : List Token) (ls : List ℕ) → Fulfils (want.Expr n ∷ s) ts ls → Fulfils (terms n s) ts ls
expr-terms n s ts ls r =
    let f = r.fill in
    let w = split-whole n f.0.0 f.0.1 in
    puts-by (terms n s) ((w.first, w.is), ((w.chain, w.fits), f.1))
    (sym (append_assoc (tree_tokens w.first) (chain_tokens w.chain) (fill_tokens s f.1)) ∙ ap (λ (r : List Token). r ++ fill_tokens s f.1) w.tokens ∙ r.tokens)
    (sym (append_assoc (tree_levels n w.first) (chain_levels n w.chain) (fill_levels s f.1)) ∙ ap (λ (r : List ℕ). r ++ fill_levels s f.1) w.levels ∙ r.levels)

pub terms-expr : (n : ℕ) (s : List Want) (ts : List Token) (ls : List ℕ) → Fulfils (terms n s) ts ls → Fulfils (want.Expr n ∷ s) ts ls
terms-expr n s ts ls r =
    let f = r.fill in
    let w = whole_of n f.0.0 f.1.0.0 f.0.1 f.1.0.1 in
    puts-by (want.Expr n ∷ s) ((w.tree, w.derives), f.1.1)
    (ap (λ (r : List Token). r ++ fill_tokens s f.1.1) w.tokens ∙ append_assoc (tree_tokens f.0.0) (chain_tokens f.1.0.0) (fill_tokens s f.1.1) ∙ r.tokens)
    (ap (λ (r : List ℕ). r ++ fill_levels s f.1.1) w.levels ∙ append_assoc (tree_levels n f.0.0) (chain_levels n f.1.0.0) (fill_levels s f.1.1) ∙ r.levels)

pub expr-takes : (n : ℕ) (s : List Want) (x : Lexeme) (level : ℕ) (after : List Want) → LeadsTo (terms n s) x level after → LeadsTo (want.Expr n ∷ s) x level after
expr-takes n s x level after t = record {
  apart = t.apart;
  puts = λ line ts ls r. terms-expr n s (token x line ∷ ts) (level ∷ ls) (t.puts line ts ls r);
  leaves = λ line ts ls r. t.leaves line ts ls (expr-terms n s (token x line ∷ ts) ls r);
}

pub expr-refuses : (n : ℕ) (s : List Want) (x : Lexeme) → Refuses (terms n s) x → Refuses (want.Expr n ∷ s) x
expr-refuses n s x no-fill line ts ls r = no-fill line ts ls (expr-terms n s (token x line ∷ ts) ls r)
