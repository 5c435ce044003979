-- The left operands of a term, one below the other.
use Rattle.std.specs.Prelude.{ℕ, zero, suc, ◌+◌, ℤ}
use Rattle.kernel_syntax.specs.Tree.{Term, Number, Slot, Tid, Span, Load, Neg, Binary}

-- how many operations stand so, from the term itself on
abbrev pub left_depth : Term → ℕ
left_depth (Binary op line left right) = suc (left_depth left)
left_depth _ = 0

-- the left operand so many levels below; where there are fewer, the last one
abbrev pub left_by : Term → ℕ → Term
left_by (Binary op line left right) zero = Binary op line left right
left_by (Binary op line left right) (suc n) = left_by left n
left_by e n = e

-- the term with this value in place of that operand
abbrev pub with_left : Term → ℕ → ℤ → Term
with_left (Binary op line left right) zero v = Number v
with_left (Binary op line left right) (suc n) v = Binary op line (with_left left n v) right
with_left e n v = Number v

-- how many numbers, locals, loads and operations a term has
abbrev pub term_size : Term → ℕ
term_size (Load array index line site) = suc (term_size index)
term_size (Neg operand) = suc (term_size operand)
term_size (Binary op line left right) = suc (term_size left + term_size right)
term_size _ = 1

-- and how many of them stand above that operand; a level that isn't there counts as one
abbrev pub size_above : Term → ℕ → ℕ
size_above (Binary op line left right) zero = 0
size_above (Binary op line left right) (suc n) = suc (size_above left n + term_size right)
size_above e n = n
