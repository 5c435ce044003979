-- The stage before the rules at which a text is refused, and where: there is one at most.
use Rattle.std.proofs.Common.{◌≡◌, ℕ, ◌≤◌, zero, suc, List, [], ◌∷◌, ◌++◌, length, take, refl, sym, ap, subst, ◌∙◌, append_assoc, length-append, arith}
use Rattle.std.proofs.lemmas.List.Elements.{All-from_recursion, recursion_from_All}
use Rattle.kernel_text.specs.declared.token.Token.{Token}
use Rattle.kernel_reader.proofs.Refusing.{AreLow}
use Rattle.kernel_text.specs.Faults.{kernel_levels, Begins, BeginsShallow, IsSyntaxFault, IsTooDeep}

low-less : (n m : ℕ) (ls : List ℕ) → n ≤ m → AreLow (take m ls) → AreLow (take n ls)
low-less zero m ls le low = tt
low-less (suc n) zero ls le low = absurd (omega (arith, le))
low-less (suc n) (suc m) [] le low = tt
low-less (suc n) (suc m) (l ∷ ls) le low = (low.0, low-less n m ls (omega (arith, le)) low.1)

-- a kernel that begins with tokens begins with the first of them
fewer-shallow : (a b : List Token) → BeginsShallow (a ++ b) → BeginsShallow a
fewer-shallow a b k = (
  k.0,
  b ++ k.1,
  k.2,
  k.3 ∙ append_assoc a b k.1,
  All-from_recursion (λ n. n ≤ 32) _ (low-less (length a) (length (a ++ b)) (kernel_levels k.0) (omega (arith, length-append a b)) (recursion_from_All (λ n. n ≤ 32) _ k.4)),
)

begins-any : (ts : List Token) → BeginsShallow ts → Begins ts
begins-any ts k = (k.0, k.1, k.2, k.3)

-- the first token up to which no kernel of at most 32 levels begins
record IsStop (ts : List Token) (bad : Token) : Type 0 where
  good : List Token
  rest : List Token
  parts : ts ≡ good ++ bad ∷ rest
  begins : BeginsShallow good
  stops : BeginsShallow (good ++ bad ∷ []) → ⊥

syntax-stop : (ts : List Token) (bad : Token) → IsSyntaxFault ts bad → IsStop ts bad
syntax-stop ts bad f = record { good = f.good; rest = f.rest; parts = f.parts; begins = f.begins; stops = λ k. f.stops (begins-any _ k) }

deep-stop : (ts : List Token) (bad : Token) → IsTooDeep ts bad → IsStop ts bad
deep-stop ts bad f = record { good = f.good; rest = f.rest; parts = f.parts; begins = f.begins; stops = f.deep }

-- which of two tokens of a list comes first
data Order (xs : List Token) (x : Token) (ys : List Token) (y : Token) : Type 0 where
  Before : (more : List Token) → ys ≡ (xs ++ x ∷ []) ++ more → Order xs x ys y
  Behind : (more : List Token) → xs ≡ (ys ++ y ∷ []) ++ more → Order xs x ys y
  Same : xs ≡ ys → x ≡ y → Order xs x ys y

longer : (z : Token) (xs : List Token) (x : Token) (ys : List Token) (y : Token) → Order xs x ys y → Order (z ∷ xs) x (z ∷ ys) y
longer z xs x ys y (Before more e) = Before more (ap (λ (ts : List Token). z ∷ ts) e)
longer z xs x ys y (Behind more e) = Behind more (ap (λ (ts : List Token). z ∷ ts) e)
longer z xs x ys y (Same e f) = Same (ap (λ (ts : List Token). z ∷ ts) e) f

order : (xs : List Token) (x : Token) (more : List Token) (ys : List Token) (y : Token) (other : List Token) → xs ++ x ∷ more ≡ ys ++ y ∷ other → Order xs x ys y
order [] x more [] y other e = Same refl cc
order [] x more (z ∷ ys) y other e = let first : x ≡ z = cc in Before ys (ap (λ (t : Token). t ∷ ys) (sym first))
order (z ∷ xs) x more [] y other e = let first : z ≡ y = cc in Behind xs (ap (λ (t : Token). t ∷ xs) first)
order (z ∷ xs) x more (w ∷ ys) y other e =
    let first : z ≡ w = cc in let later : xs ++ x ∷ more ≡ ys ++ y ∷ other = cc in
    subst (λ (t : Token). Order (z ∷ xs) x (t ∷ ys) y) first (longer z xs x ys y (order xs x more ys y other later))

stops-as : (xs ys : List Token) (x y : Token) → Order xs x ys y → BeginsShallow xs → BeginsShallow ys → (BeginsShallow (xs ++ x ∷ []) → ⊥) → (BeginsShallow (ys ++ y ∷ []) → ⊥) → (xs ≡ ys) × (x ≡ y)
stops-as xs ys x y (Before more e) one other stops ends = absurd (stops (fewer-shallow (xs ++ x ∷ []) more (subst BeginsShallow e other)))
stops-as xs ys x y (Behind more e) one other stops ends = absurd (ends (fewer-shallow (ys ++ y ∷ []) more (subst BeginsShallow e one)))
stops-as xs ys x y (Same e f) one other stops ends = (e, f)

same-stop : (ts : List Token) (x y : Token) (a : IsStop ts x) (b : IsStop ts y) → (a.good ≡ b.good) × (x ≡ y)
same-stop ts x y a b = stops-as a.good b.good x y (order a.good x a.rest b.good y b.rest (sym a.parts ∙ b.parts)) a.begins b.begins a.stops b.stops

-- each of these faults is at one token
pub one-syntax-fault : (ts : List Token) (x y : Token) → IsSyntaxFault ts x → IsSyntaxFault ts y → x ≡ y
one-syntax-fault ts x y a b = (same-stop ts x y (syntax-stop ts x a) (syntax-stop ts y b)).1

pub one-deep-token : (ts : List Token) (x y : Token) → IsTooDeep ts x → IsTooDeep ts y → x ≡ y
one-deep-token ts x y a b = (same-stop ts x y (deep-stop ts x a) (deep-stop ts y b)).1

-- no tokens have both
pub syntax-or-deep : (ts : List Token) (x y : Token) → IsSyntaxFault ts x → IsTooDeep ts y → ⊥
unfolding syntax-stop deep-stop
syntax-or-deep ts x y a b =
    let same = same-stop ts x y (syntax-stop ts x a) (deep-stop ts y b) in
    a.stops (subst (λ (t : Token). Begins (a.good ++ t ∷ [])) (sym same.1) (subst (λ (g : List Token). Begins (g ++ y ∷ [])) (sym same.0) b.goes_on))

-- nor one of them where they begin a kernel of at most 32 levels
no-stop : (ts : List Token) (x : Token) → IsStop ts x → BeginsShallow ts → ⊥
no-stop ts x a k = a.stops (fewer-shallow (a.good ++ x ∷ []) a.rest (subst BeginsShallow (a.parts ∙ sym (append_assoc a.good (x ∷ []) a.rest)) k))

pub syntax-or-more : (ts : List Token) (x : Token) → IsSyntaxFault ts x → BeginsShallow ts → ⊥
syntax-or-more ts x a k = no-stop ts x (syntax-stop ts x a) k

pub deep-or-more : (ts : List Token) (x : Token) → IsTooDeep ts x → BeginsShallow ts → ⊥
deep-or-more ts x a k = no-stop ts x (deep-stop ts x a) k
