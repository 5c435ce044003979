-- Arithmetic on values: integers in two's complement.
use Rattle.std.specs.Prelude.{zero, ◌^◌, Bool, true, false, not, ℤ, pos, ◌+ℤ◌, ◌-ℤ◌, ◌*ℤ◌, neg_ℤ, int_lt, int_le, int_div, int_rem, Option, Some, None}
use Rattle.std.specs.Ordering.{int_eq}
use Rattle.log_format.specs.Fitting.{wrapped}
use Rattle.kernel_syntax.specs.declared.syntax.Op.{Op}
use Rattle.kernel_syntax.specs.declared.syntax.Op.TheVariants.{Add, Sub, Mul, Div, Rem, Eq, Ne, Lt, Le, Gt, Ge}

-- a comparison's value
abbrev pub truth : Bool → ℤ
truth true = pos 1
truth false = pos 0

-- the quotient, rounded toward zero; none where the divisor is 0
abbrev pub quotient : ℤ → ℤ → Option ℤ
quotient x (pos zero) = None
quotient x y = Some (wrapped (2 ^ 64) (int_div x y))

-- the remainder, with the sign of x; none where the divisor is 0
abbrev pub remainder : ℤ → ℤ → Option ℤ
remainder x (pos zero) = None
remainder x y = Some (int_rem x y)

-- an operation on two values of 64 bits
abbrev pub applied : Op → ℤ → ℤ → Option ℤ
applied Add x y = Some (wrapped (2 ^ 64) (x +ℤ y))
applied Sub x y = Some (wrapped (2 ^ 64) (x -ℤ y))
applied Mul x y = Some (wrapped (2 ^ 64) (x *ℤ y))
applied Div x y = quotient x y
applied Rem x y = remainder x y
applied Eq x y = Some (truth (int_eq x y))
applied Ne x y = Some (truth (not (int_eq x y)))
applied Lt x y = Some (truth (int_lt x y))
applied Le x y = Some (truth (int_le x y))
applied Gt x y = Some (truth (int_lt y x))
applied Ge x y = Some (truth (int_le y x))

-- the negative of a value of 64 bits
abbrev pub negated : ℤ → ℤ
negated x = wrapped (2 ^ 64) (neg_ℤ x)
