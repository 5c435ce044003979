-- The ranks of operations.
use Rattle.std.proofs.Common.{◌≡◌, ℕ, ◌<◌, ◌≤◌, Option, Some, None, refl, ap, ◌∙◌, arith, lit≤, lit<}
use Rattle.kernel_syntax.specs.declared.syntax.Op.{Op}
use Rattle.kernel_syntax.specs.declared.syntax.Op.TheVariants.{Add, Sub, Mul, Div, Rem, Eq, Ne, Lt, Le, Gt, Ge}
use Rattle.kernel_text.specs.declared.token.Sign.TheVariants as sign
use Rattle.kernel_text.specs.declared.token.Lexeme.{Lexeme}
use Rattle.kernel_text.specs.declared.token.Lexeme.TheVariants.{Named, Number, Reserved, Mark}
use Rattle.kernel_text.specs.Grammar.{op_of, sign_of, IsOperation, rank_of, left_rank, right_rank, Tree, NumberAt, NameAt, TidAt, SpanAt, Element, Group, Minus, Binary, Derives}

pub record AreRanks (o : Op) : Type 0 where
  pub some : 1 ≤ rank_of o
  pub few : rank_of o ≤ 3
  pub left : left_rank o ≤ rank_of o
  pub right : right_rank o < rank_of o

pub ranks : (o : Op) → AreRanks o
ranks Add = record { some = lit≤ tt; few = lit≤ tt; left = lit≤ tt; right = lit< tt }
ranks Sub = record { some = lit≤ tt; few = lit≤ tt; left = lit≤ tt; right = lit< tt }
ranks Mul = record { some = lit≤ tt; few = lit≤ tt; left = lit≤ tt; right = lit< tt }
ranks Div = record { some = lit≤ tt; few = lit≤ tt; left = lit≤ tt; right = lit< tt }
ranks Rem = record { some = lit≤ tt; few = lit≤ tt; left = lit≤ tt; right = lit< tt }
ranks Eq = record { some = lit≤ tt; few = lit≤ tt; left = lit≤ tt; right = lit< tt }
ranks Ne = record { some = lit≤ tt; few = lit≤ tt; left = lit≤ tt; right = lit< tt }
ranks Lt = record { some = lit≤ tt; few = lit≤ tt; left = lit≤ tt; right = lit< tt }
ranks Le = record { some = lit≤ tt; few = lit≤ tt; left = lit≤ tt; right = lit< tt }
ranks Gt = record { some = lit≤ tt; few = lit≤ tt; left = lit≤ tt; right = lit< tt }
ranks Ge = record { some = lit≤ tt; few = lit≤ tt; left = lit≤ tt; right = lit< tt }

-- what is a part of a higher rank, too
pub Derives-weaker : (p q : ℕ) (t : Tree) → p ≤ q → Derives p t → Derives q t
Derives-weaker p q (NumberAt line value) le d = tt
Derives-weaker p q (NameAt line name) le d = tt
Derives-weaker p q (TidAt line) le d = tt
Derives-weaker p q (SpanAt line) le d = tt
Derives-weaker p q (Element line name opened index closed) le d = d
Derives-weaker p q (Group opened inside closed) le d = d
Derives-weaker p q (Minus line operand) le d = d
Derives-weaker p q (Binary left o line right) le d = (omega (arith, d.0), d.1, d.2)

-- ---- the signs of operations

pub op_of-sign : (o : Op) → op_of (Mark (sign_of o)) ≡ Some o
op_of-sign Add = refl
op_of-sign Sub = refl
op_of-sign Mul = refl
op_of-sign Div = refl
op_of-sign Rem = refl
op_of-sign Eq = refl
op_of-sign Ne = refl
op_of-sign Lt = refl
op_of-sign Le = refl
op_of-sign Gt = refl
op_of-sign Ge = refl

pub of-op : (x : Lexeme) (o : Op) → op_of x ≡ Some o → x ≡ Mark (sign_of o)
of-op (Mark sign.Plus) o e = let same : o ≡ Add = cc in rw same refl
of-op (Mark sign.Minus) o e = let same : o ≡ Sub = cc in rw same refl
of-op (Mark sign.Star) o e = let same : o ≡ Mul = cc in rw same refl
of-op (Mark sign.Slash) o e = let same : o ≡ Div = cc in rw same refl
of-op (Mark sign.Percent) o e = let same : o ≡ Rem = cc in rw same refl
of-op (Mark sign.Equal) o e = let same : o ≡ Eq = cc in rw same refl
of-op (Mark sign.NotEqual) o e = let same : o ≡ Ne = cc in rw same refl
of-op (Mark sign.Less) o e = let same : o ≡ Lt = cc in rw same refl
of-op (Mark sign.LessEqual) o e = let same : o ≡ Le = cc in rw same refl
of-op (Mark sign.Greater) o e = let same : o ≡ Gt = cc in rw same refl
of-op (Mark sign.GreaterEqual) o e = let same : o ≡ Ge = cc in rw same refl
of-op (Mark _) o e = absurd cc
of-op (Named name) o e = absurd cc
of-op (Number value) o e = absurd cc
of-op (Reserved w) o e = absurd cc

-- the operation of a lexeme is the one that the judge goes by
pub operation_is : (x : Lexeme) (found : Option Op) → IsOperation x found → op_of x ≡ found
operation_is x (Some o) is = ap op_of is ∙ op_of-sign o
operation_is x None is = none (op_of x) refl
  where
    none : (found : Option Op) → op_of x ≡ found → op_of x ≡ None
    none None e = e
    none (Some o) e = absurd (is o (of-op x o e))
