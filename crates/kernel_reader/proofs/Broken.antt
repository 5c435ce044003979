-- Lists of broken rules, and their parts.
use Rattle.std.proofs.Common.{◌≡◌, ℕ, ◌≤◌, Bool, true, false, not, List, [], ◌∷◌, ◌++◌, refl, arith}
use Rattle.std.specs.Prelude.{ℤ, pos, negsuc}
use Rattle.std.proofs.lemmas.Bool.Decides.{nat_tests}
use Rattle.kernel_text.specs.declared.fault.KernelWhy.{KernelWhy}
use Rattle.kernel_text.specs.Tokens.{Refusal}
use Rattle.kernel_reader.specs.Scope.{count_literal, is_between}
use Rattle.kernel_reader.specs.Rules.{fault_if}
use Rattle.kernel_reader.specs.Settled.{IsFirstOf}
use Rattle.kernel_reader.specs.declared.fault.ReadKernelFault.{ReadKernelFault}
use Rattle.kernel_reader.specs.declared.fault.ReadKernelFault.TheVariants as read

pub nil_left : {A : Type 0} (xs ys : List A) → xs ++ ys ≡ [] → xs ≡ []
nil_left [] ys e = refl
nil_left (x ∷ xs) ys e = absurd cc

pub nil_right : {A : Type 0} (xs ys : List A) → xs ++ ys ≡ [] → ys ≡ []
nil_right [] ys e = e
nil_right (x ∷ xs) ys e = absurd cc

pub fault_if-none : (b : Bool) (line : ℕ) (w : KernelWhy) → fault_if b line w ≡ [] → b ≡ false
fault_if-none true line w e = absurd cc
fault_if-none false line w e = refl

pub not-false : (b : Bool) → not b ≡ false → b ≡ true
not-false true e = refl
not-false false e = absurd cc

pub between-le : (most : ℕ) (z : ℤ) → is_between 1 most z ≡ true → count_literal z ≤ most
between-le most (pos n) e = grind (arith, nat_tests)
between-le most (negsuc n) e = omega arith

-- the first of the broken rules is the first of more
pub first-before : (a b : List Refusal) (f : ReadKernelFault) → IsFirstOf a f → IsFirstOf (a ++ b) f
first-before [] b (read.Refused line w) is = absurd cc
first-before (r ∷ a) b (read.Refused line w) is = is
first-before a b read.Memory is = tt

-- or behind none
pub first-behind : (a b : List Refusal) (f : ReadKernelFault) → a ≡ [] → IsFirstOf b f → IsFirstOf (a ++ b) f
first-behind [] b f none is = is
first-behind (r ∷ a) b f none is = absurd cc

pub none-of-both : (a b : List Refusal) → a ≡ [] → b ≡ [] → a ++ b ≡ []
none-of-both [] b e f = f
none-of-both (r ∷ a) b e f = absurd cc
