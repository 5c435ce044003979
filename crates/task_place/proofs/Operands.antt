-- Laws of left operands: a term's value comes from that of each of them, and what stands above and below one makes the term's size.
use Rattle.std.proofs.Common.{◌≡◌, refl, sym, ap, ◌∙◌, subst, ℕ, zero, suc, ◌+◌, ◌-◌, ◌≤◌, ℤ, Box, Global, arith}
use Rattle.kernel_syntax.specs.declared.syntax.Expr as variant
use Rattle.kernel_syntax.specs.declared.syntax.Expr.{Expr}
use Rattle.kernel_syntax.specs.declared.syntax.Expr.TheVariants as variants
use Rattle.kernel_syntax.specs.declared.syntax.Op.{Op}
use Rattle.kernel_syntax.specs.Program.{term_of}
use Rattle.kernel_syntax.specs.Arithmetic.{applied}
use Rattle.kernel_syntax.specs.Bounds.{IsBoundedTerm}
use Rattle.kernel_syntax.specs.Tree.{Term, Number, Slot, Tid, Span, Load, Neg, Binary}
use Rattle.kernel_model.specs.State.{State, Outcome, Gives, Stops, Wants, and_then}
use Rattle.kernel_model.specs.Value.{Site, operated, value}
use Rattle.kernel_model.proofs.Equations.{value-Number, value-Binary}
use Rattle.kernel_model.proofs.Joining.{and_then-same}
use Rattle.task_place.specs.Operands.{left_by, left_depth, with_left, term_size, size_above}

and_then-joined : {A B C : Type 0} (m : Outcome A) (f : A → State → Outcome B) (g : B → State → Outcome C) → and_then (and_then m f) g ≡ and_then m (λ a s. and_then (f a s) g)
and_then-joined (Gives a s) f g = refl
and_then-joined (Stops why line s) f g = refl
and_then-joined (Wants s) f g = refl

module _ (at : Site) where
  -- a number adds nothing
  as_number : (m : Outcome ℤ) → m ≡ and_then m (λ v t. value at (Number v) t)
  as_number (Gives v s) = sym (value-Number at v s)
  as_number (Stops why line s) = refl
  as_number (Wants s) = refl

  -- a term's value comes from that of a left operand
  pub value-left : (e : Term) (n : ℕ) (s : State) → value at e s ≡ and_then (value at (left_by e n) s) (λ v t. value at (with_left e n v) t)
  value-left (Number k) n s = as_number (value at (Number k) s)
  value-left (Slot k) n s = as_number (value at (Slot k) s)
  value-left Tid n s = as_number (value at Tid s)
  value-left Span n s = as_number (value at Span s)
  value-left (Load array index line site) n s = as_number (value at (Load array index line site) s)
  value-left (Neg operand) n s = as_number (value at (Neg operand) s)
  value-left (Binary op line left right) zero s = as_number (value at (Binary op line left right) s)
  value-left (Binary op line left right) (suc n) s =
      let after_left : ℤ → State → Outcome ℤ = λ x t. and_then (value at right t) (λ y u. operated (applied op x y) line u) in
      value-Binary at op line left right s
      ∙ ap (λ (m : Outcome ℤ). and_then m after_left) (value-left left n s)
      ∙ and_then-joined (value at (left_by left n) s) (λ v t. value at (with_left left n v) t) after_left
      ∙ and_then-same (value at (left_by left n) s) _ _ (λ v t. sym (value-Binary at op line (with_left left n v) right t))

-- the operand that is no level below is the term itself
pub left-none : (e : Term) → left_by e 0 ≡ e
left-none (Number x) = refl
left-none (Slot x) = refl
left-none Tid = refl
left-none Span = refl
left-none (Load array index line site) = refl
left-none (Neg operand) = refl
left-none (Binary op line left right) = refl

-- the operands of a term of which one has its value already
pub left-with : (e : Term) (h k : ℕ) (v : ℤ) → left_by (with_left e (h + k) v) h ≡ with_left (left_by e h) k v
left-with (Number x) h k v = refl
left-with (Slot x) h k v = refl
left-with Tid h k v = refl
left-with Span h k v = refl
left-with (Load array index line site) h k v = refl
left-with (Neg operand) h k v = refl
left-with (Binary op line left right) zero k v =
    subst (λ (n : ℕ). left_by (with_left (Binary op line left right) n v) 0 ≡ with_left (Binary op line left right) k v) (let e : k ≡ 0 + k = omega arith in e) (at_top k) where
      at_top : (n : ℕ) → left_by (with_left (Binary op line left right) n v) 0 ≡ with_left (Binary op line left right) n v
      at_top zero = refl
      at_top (suc n) = refl
left-with (Binary op line left right) (suc h) k v =
    subst (λ (n : ℕ). left_by (with_left (Binary op line left right) n v) (suc h) ≡ with_left (left_by left h) k v) (let e : suc (h + k) ≡ suc h + k = omega arith in e) (left-with left h k v)

pub with-none : (e : Term) (v : ℤ) → with_left e 0 v ≡ Number v
with-none (Number x) v = refl
with-none (Slot x) v = refl
with-none Tid v = refl
with-none Span v = refl
with-none (Load array index line site) v = refl
with-none (Neg operand) v = refl
with-none (Binary op line left right) v = refl

pub with-with : (e : Term) (h k : ℕ) (v w : ℤ) → with_left (with_left e (h + k) v) h w ≡ with_left e h w
with-with (Number x) h k v w = refl
with-with (Slot x) h k v w = refl
with-with Tid h k v w = refl
with-with Span h k v w = refl
with-with (Load array index line site) h k v w = refl
with-with (Neg operand) h k v w = refl
with-with (Binary op line left right) zero k v w = at_top (0 + k) where
  at_top : (n : ℕ) → with_left (with_left (Binary op line left right) n v) 0 w ≡ Number w
  at_top zero = refl
  at_top (suc n) = refl
with-with (Binary op line left right) (suc h) k v w =
    subst (λ (n : ℕ). with_left (with_left (Binary op line left right) n v) (suc h) w ≡ with_left (Binary op line left right) (suc h) w) (let e : suc (h + k) ≡ suc h + k = omega arith in e)
    (ap (λ (e : Term). Binary op line e right) (with-with left h k v w))

pub bounded_left : (e : Term) (n : ℕ) → IsBoundedTerm e → IsBoundedTerm (left_by e n)
bounded_left (Number x) n b = b
bounded_left (Slot x) n b = b
bounded_left Tid n b = b
bounded_left Span n b = b
bounded_left (Load array index line site) n b = b
bounded_left (Neg operand) n b = b
bounded_left (Binary op line left right) zero b = b
bounded_left (Binary op line left right) (suc n) b = bounded_left left n b.1

-- ---- sizes

-- each level has some of it
pub size_levels : (e : Term) (n : ℕ) → n ≤ size_above e n
size_levels (Number x) n = omega arith
size_levels (Slot x) n = omega arith
size_levels Tid n = omega arith
size_levels Span n = omega arith
size_levels (Load array index line site) n = omega arith
size_levels (Neg operand) n = omega arith
size_levels (Binary op line left right) zero = omega arith
size_levels (Binary op line left right) (suc n) = let below = size_levels left n in omega (arith, below)

-- two parts make what stands above both
pub size_parts : (e : Term) (h k : ℕ) → size_above e (h + k) ≡ size_above e h + size_above (left_by e h) k
size_parts (Number x) h k = refl
size_parts (Slot x) h k = refl
size_parts Tid h k = refl
size_parts Span h k = refl
size_parts (Load array index line site) h k = refl
size_parts (Neg operand) h k = refl
size_parts (Binary op line left right) zero k = let e : 0 + k ≡ k = omega arith in ap (λ (n : ℕ). size_above (Binary op line left right) n) e ∙ (let f : size_above (Binary op line left right) k ≡ 0 + size_above (Binary op line left right) k = omega arith in f)
size_parts (Binary op line left right) (suc h) k =
    subst (λ (n : ℕ). size_above (Binary op line left right) n ≡ suc (size_above left h + term_size right) + size_above (left_by left h) k) (let e : suc (h + k) ≡ suc h + k = omega arith in e)
    (let below = size_parts left h k in omega (arith, below))

-- with what stands below, it is the whole
pub size_whole : (e : Term) (n : ℕ) → n ≤ left_depth e → size_above e n + term_size (left_by e n) ≡ term_size e
size_whole (Number x) n within = omega (arith, within)
size_whole (Slot x) n within = omega (arith, within)
size_whole Tid n within = omega (arith, within)
size_whole Span n within = omega (arith, within)
size_whole (Load array index line site) n within = omega (arith, within)
size_whole (Neg operand) n within = omega (arith, within)
size_whole (Binary op line left right) zero within = omega arith
size_whole (Binary op line left right) (suc n) within = let below = size_whole left n (omega (arith, within)) in omega (arith, below)

pub size_none : (e : Term) → size_above e 0 ≡ 0
size_none (Number x) = refl
size_none (Slot x) = refl
size_none Tid = refl
size_none Span = refl
size_none (Load array index line site) = refl
size_none (Neg operand) = refl
size_none (Binary op line left right) = refl

-- ---- so many levels of more

module _ (e : Term) (h n : ℕ) (within : h ≤ n) where
  levels_are : h + (n - h) ≡ n
  levels_are = omega (arith, within)

  pub left-within : (v : ℤ) → left_by (with_left e n v) h ≡ with_left (left_by e h) (n - h) v
  left-within v = subst (λ (m : ℕ). left_by (with_left e m v) h ≡ with_left (left_by e h) (n - h) v) levels_are (left-with e h (n - h) v)

  pub with-within : (v w : ℤ) → with_left (with_left e n v) h w ≡ with_left e h w
  with-within v w = subst (λ (m : ℕ). with_left (with_left e m v) h w ≡ with_left e h w) levels_are (with-with e h (n - h) v w)

  pub size_within : size_above e n ≡ size_above e h + size_above (left_by e h) (n - h)
  size_within = subst (λ (m : ℕ). size_above e m ≡ size_above e h + size_above (left_by e h) (n - h)) levels_are (size_parts e h (n - h))

-- ---- what is no operation

pub no_operation : (e : Expr) → ((op : Op) (line : ℕ) (left right : Box Expr Global) → e ≡ variant.Binary op line left right → ⊥) → left_depth (term_of e) ≡ 0
no_operation (variants.Number n) other = refl
no_operation (variants.Slot k) other = refl
no_operation variants.Tid other = refl
no_operation variants.Span other = refl
no_operation (variants.Load' array p index line site) other = refl
no_operation (variants.Neg' p e) other = refl
no_operation (variants.Binary' op line p left q right) other = absurd (other op line _ _ refl)

pub with-leaf : (e : Term) (n : ℕ) (v : ℤ) → left_depth e ≡ 0 → with_left e n v ≡ Number v
with-leaf (Number x) n v leaf = refl
with-leaf (Slot x) n v leaf = refl
with-leaf Tid n v leaf = refl
with-leaf Span n v leaf = refl
with-leaf (Load array index line site) n v leaf = refl
with-leaf (Neg operand) n v leaf = refl
with-leaf (Binary op line left right) n v leaf = absurd (omega (arith, leaf))
