-- Operands with operators between them are an expression, by how tightly the operators bind.
use Rattle.std.proofs.Common.{◌≡◌, ℕ, ◌≤◌, Bool, true, false, List, [], ◌∷◌, ◌++◌, refl, sym, ap, subst, ◌∙◌, append_assoc, append-nil, arith}
use Rattle.kernel_syntax.specs.declared.syntax.Op.{Op}
use Rattle.kernel_syntax.specs.declared.syntax.Op.TheVariants.{Add, Sub, Mul, Div, Rem, Eq, Ne, Lt, Le, Gt, Ge}
use Rattle.kernel_text.specs.declared.token.Token.{Token}
use Rattle.kernel_text.specs.Grammar.{Tree, Binary, Derives, tree_tokens, rank_of, left_rank, right_rank, sign_of, is_comparison, unary, expr, mark}
use Rattle.kernel_text.specs.Faults.{tree_levels}
use Rattle.kernel_text.specs.Wanting.{Chain, Last, Then, chain_tokens, chain_levels, Allows, FitsChain}
use Rattle.kernel_text.proofs.Operators.{Derives-weaker}

-- an expression with these tokens and levels
pub record Whole (n : ℕ) (ts : List Token) (ls : List ℕ) : Type 0 where
  pub tree : Tree
  pub derives : Derives expr tree
  pub tokens : tree_tokens tree ≡ ts
  pub levels : tree_levels n tree ≡ ls

whole-as : (n : ℕ) (ts us : List Token) (ls ms : List ℕ) → ts ≡ us → ls ≡ ms → Whole n ts ls → Whole n us ms
whole-as n ts us ls ms e f w = record { tree = w.tree; derives = w.derives; tokens = w.tokens ∙ e; levels = w.levels ∙ f }

-- a left operand and its operator, or none
data Pending : Type 0 where
  Free : Pending
  After : (left : Tree) → (op : Op) → (line : ℕ) → Pending

abbrev pending_tokens : Pending → List Token
pending_tokens Free = []
pending_tokens (After l o line) = tree_tokens l ++ mark line (sign_of o) ∷ []

abbrev pending_levels : ℕ → Pending → List ℕ
pending_levels n Free = []
pending_levels n (After l o line) = tree_levels n l ++ 0 ∷ []

abbrev with_right : Pending → Tree → Tree
with_right Free t = t
with_right (After l o line) t = Binary l o line t

-- with a right operand of rank q it is of rank p
abbrev IsPending : ℕ → ℕ → Pending → Type 0
IsPending p q Free = q ≤ p
IsPending p q (After l o line) = (rank_of o ≤ p) × Derives (left_rank o) l × (q ≤ right_rank o)

with_right-tokens : (a : Pending) (t : Tree) → tree_tokens (with_right a t) ≡ pending_tokens a ++ tree_tokens t
with_right-tokens Free t = refl
with_right-tokens (After l o line) t = sym (append_assoc (tree_tokens l) (mark line (sign_of o) ∷ []) (tree_tokens t))

with_right-levels : (n : ℕ) (a : Pending) (t : Tree) → tree_levels n (with_right a t) ≡ pending_levels n a ++ tree_levels n t
with_right-levels n Free t = refl
with_right-levels n (After l o line) t = sym (append_assoc (tree_levels n l) (0 ∷ []) (tree_levels n t))

with_right-derives : (p q : ℕ) (a : Pending) (t : Tree) → IsPending p q a → Derives q t → Derives p (with_right a t)
with_right-derives p q Free t is d = Derives-weaker q p t is d
with_right-derives p q (After l o line) t is d = (is.0, is.1, Derives-weaker q (right_rank o) t is.2 d)

-- what an operator's rank allows
data SortOf (o : Op) : Type 0 where
  Product : is_comparison o ≡ false → rank_of o ≤ 1 → 1 ≤ left_rank o → SortOf o
  Sum : is_comparison o ≡ false → rank_of o ≤ 2 → 2 ≤ left_rank o → 1 ≤ right_rank o → SortOf o
  Comparison : is_comparison o ≡ true → rank_of o ≤ 3 → 2 ≤ left_rank o → 2 ≤ right_rank o → SortOf o

sort_of : (o : Op) → SortOf o
sort_of Add = Sum refl (omega arith) (omega arith) (omega arith)
sort_of Sub = Sum refl (omega arith) (omega arith) (omega arith)
sort_of Mul = Product refl (omega arith) (omega arith)
sort_of Div = Product refl (omega arith) (omega arith)
sort_of Rem = Product refl (omega arith) (omega arith)
sort_of Eq = Comparison refl (omega arith) (omega arith) (omega arith)
sort_of Ne = Comparison refl (omega arith) (omega arith) (omega arith)
sort_of Lt = Comparison refl (omega arith) (omega arith) (omega arith)
sort_of Le = Comparison refl (omega arith) (omega arith) (omega arith)
sort_of Gt = Comparison refl (omega arith) (omega arith) (omega arith)
sort_of Ge = Comparison refl (omega arith) (omega arith) (omega arith)

regroup : {A : Type 0} (x s p y : List A) (m : A) → x ≡ s ++ p → (x ++ m ∷ []) ++ y ≡ s ++ (p ++ m ∷ y)
regroup x s p y m e = append_assoc x (m ∷ []) y ∙ ap (λ r. r ++ m ∷ y) e ∙ append_assoc s p (m ∷ y)

-- a comparison that waits for its right operand, a sum that does, and a product, with the operators behind it
abbrev all_tokens : Pending → Pending → Tree → Chain → List Token
all_tokens a b p ch = pending_tokens a ++ (pending_tokens b ++ (tree_tokens p ++ chain_tokens ch))

abbrev all_levels : ℕ → Pending → Pending → Tree → Chain → List ℕ
all_levels n a b p ch = pending_levels n a ++ (pending_levels n b ++ (tree_levels n p ++ chain_levels n ch))

abbrev Groups : Chain → Type 0
Groups ch = (n : ℕ) (c : Bool) (a b : Pending) (p : Tree) → (c ≡ true → a ≡ Free) → IsPending 3 2 a → IsPending 2 1 b → Derives 1 p → FitsChain c ch → Whole n (all_tokens a b p ch) (all_levels n a b p ch)

pub allowed : (c b : Bool) (A B : Type 0) → b ≡ false → Allows c b A B → A
allowed c b A B e d = subst (λ (x : Bool). Allows c x A B) e d

then-compare : (o : Op) (line : ℕ) (u : Tree) (rest : Chain) → Groups rest → is_comparison o ≡ true → rank_of o ≤ 3 → 2 ≤ left_rank o → 2 ≤ right_rank o
    → (n : ℕ) (c : Bool) (a b : Pending) (p : Tree) → (c ≡ true → a ≡ Free) → IsPending 2 1 b → Derives 1 p → Derives unary u → Allows c true (FitsChain c rest) (FitsChain false rest)
    → Whole n (all_tokens a b p (Then o line u rest)) (all_levels n a b p (Then o line u rest))
then-compare o line u rest next e le l r n false a b p free is d du fits = absurd fits
then-compare o line u rest next e le l r n true a b p free is d du fits =
    let left = with_right b p in
    let s = Derives-weaker 2 (left_rank o) left l (with_right-derives 2 1 b p is d) in
    whole-as n _ _ _ _
    (regroup (tree_tokens left) (pending_tokens b) (tree_tokens p) (tree_tokens u ++ chain_tokens rest) (mark line (sign_of o)) (with_right-tokens b p)
    ∙ ap (λ (a : Pending). all_tokens a b p (Then o line u rest)) (sym (free refl)))
    (regroup (tree_levels n left) (pending_levels n b) (tree_levels n p) (tree_levels n u ++ chain_levels n rest) 0 (with_right-levels n b p)
    ∙ ap (λ (a : Pending). all_levels n a b p (Then o line u rest)) (sym (free refl)))
    (next n false (After left o line) Free u (λ e. absurd cc) (le, s, r) (omega arith) (Derives-weaker 0 1 u (omega arith) du) fits)

then-group : (o : Op) (line : ℕ) (u : Tree) (rest : Chain) → SortOf o → Groups rest → Groups (Then o line u rest)
then-group o line u rest (Product e le l) next n c a b p free ia ib d fits =
    whole-as n _ _ _ _
    (ap (λ (r : List Token). pending_tokens a ++ (pending_tokens b ++ r)) (append_assoc (tree_tokens p) (mark line (sign_of o) ∷ tree_tokens u) (chain_tokens rest)))
    (ap (λ (r : List ℕ). pending_levels n a ++ (pending_levels n b ++ r)) (append_assoc (tree_levels n p) (0 ∷ tree_levels n u) (chain_levels n rest)))
    (next n c a b (Binary p o line u) free ia ib (le, Derives-weaker 1 (left_rank o) p l d, Derives-weaker 0 (right_rank o) u (omega arith) fits.0)
    (allowed c (is_comparison o) (FitsChain c rest) (FitsChain false rest) e fits.1))
then-group o line u rest (Sum e le l r) next n c a b p free ia ib d fits =
    let left = with_right b p in
    let s = Derives-weaker 2 (left_rank o) left l (with_right-derives 2 1 b p ib d) in
    whole-as n _ _ _ _
    (ap (λ (r : List Token). pending_tokens a ++ r) (regroup (tree_tokens left) (pending_tokens b) (tree_tokens p) (tree_tokens u ++ chain_tokens rest) (mark line (sign_of o)) (with_right-tokens b p)))
    (ap (λ (r : List ℕ). pending_levels n a ++ r) (regroup (tree_levels n left) (pending_levels n b) (tree_levels n p) (tree_levels n u ++ chain_levels n rest) 0 (with_right-levels n b p)))
    (next n c a (After left o line) u free ia (le, s, r) (Derives-weaker 0 1 u (omega arith) fits.0) (allowed c (is_comparison o) (FitsChain c rest) (FitsChain false rest) e fits.1))
then-group o line u rest (Comparison e le l r) next n c a b p free ia ib d fits =
    then-compare o line u rest next e le l r n c a b p free ib d fits.0 (subst (λ (x : Bool). Allows c x (FitsChain c rest) (FitsChain false rest)) e fits.1)

grouped : (ch : Chain) → Groups ch
grouped Last n c a b p free ia ib d fits =
    let inner = with_right b p in
    record {
      tree = with_right a inner;
      derives = with_right-derives 3 2 a inner ia (with_right-derives 2 1 b p ib d);
      tokens = with_right-tokens a inner ∙ ap (λ (r : List Token). pending_tokens a ++ r) (with_right-tokens b p ∙ ap (λ (r : List Token). pending_tokens b ++ r) (sym (append-nil (tree_tokens p))));
      levels = with_right-levels n a inner ∙ ap (λ (r : List ℕ). pending_levels n a ++ r) (with_right-levels n b p ∙ ap (λ (r : List ℕ). pending_levels n b ++ r) (sym (append-nil (tree_levels n p))));
    }
grouped (Then o line u rest) n c a b p free ia ib d fits = then-group o line u rest (sort_of o) (grouped rest) n c a b p free ia ib d fits

-- an operand and the operators behind it are an expression
pub whole_of : (n : ℕ) (u : Tree) (ch : Chain) → Derives unary u → FitsChain true ch → Whole n (tree_tokens u ++ chain_tokens ch) (tree_levels n u ++ chain_levels n ch)
whole_of n u ch d fits = grouped ch n true Free Free u (λ e. refl) (omega arith) (omega arith) (Derives-weaker 0 1 u (omega arith) d) fits
