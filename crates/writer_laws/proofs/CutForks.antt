-- The forks of logs that are put together.
use Rattle.std.proofs.Common.{◌≡◌, ◌⊎◌, ℕ, zero, suc, ◌+◌, ◌<◌, ◌≤◌, Bool, true, false, cond, List, [], ◌∷◌, ◌++◌, length, Some, refl, ap, subst, arith, ◌∙◌, inl, inr}
use Rattle.std.specs.Prelude.{slice_get}
use Rattle.log_format.specs.declared.record.Record.{Record}
use Rattle.log_format.specs.declared.record.Kind.TheVariants.{End}
use Rattle.race_model.specs.Trace.{is_region_kind, is_barrier_kind, region_count, barrier_count}
use Rattle.writer_laws.specs.Places.{ForkPlace, forks_from}
use Rattle.writer_laws.specs.Cutting.{undouble}
use Rattle.writer_laws.proofs.Forks.{region_step, barrier_step}

both_with : (p : Bool) (x : ForkPlace) (xs ys : List ForkPlace) → cond p (x ∷ (xs ++ ys)) (xs ++ ys) ≡ cond p (x ∷ xs) xs ++ ys
both_with true x xs ys = refl
both_with false x xs ys = refl

pub forks_both : (b : ℕ) (xs ys : List Record) → forks_from b (xs ++ ys) ≡ forks_from b xs ++ forks_from (b + barrier_count xs) ys
forks_both b [] ys = let none : b ≡ b + 0 = omega arith in ap (λ (n : ℕ). forks_from n ys) none
forks_both b (x ∷ xs) ys =
    ap (λ (fs : List ForkPlace). cond (is_region_kind x.kind) (record { span = x.value; barriers = b } ∷ fs) fs)
    (forks_both (b + cond (is_barrier_kind x.kind) 1 0) xs ys
    ∙ ap (λ (n : ℕ). forks_from (b + cond (is_barrier_kind x.kind) 1 0) xs ++ forks_from n ys) (let step = barrier_step x xs in omega arith))
    ∙ both_with (is_region_kind x.kind) (record { span = x.value; barriers = b }) (forks_from (b + cond (is_barrier_kind x.kind) 1 0) xs) (forks_from (b + barrier_count (x ∷ xs)) ys)

length_with : (p : Bool) (x : ForkPlace) (xs : List ForkPlace) (n m : ℕ) → length xs ≡ n → m ≡ cond p 1 0 + n → length (cond p (x ∷ xs) xs) ≡ m
length_with true x xs n m e f = omega arith
length_with false x xs n m e f = omega arith

pub forks_length : (b : ℕ) (xs : List Record) → length (forks_from b xs) ≡ region_count xs
forks_length b [] = refl
forks_length b (x ∷ xs) = length_with (is_region_kind x.kind) (record { span = x.value; barriers = b }) (forks_from (b + cond (is_barrier_kind x.kind) 1 0) xs) (region_count xs) (region_count (x ∷ xs))
    (forks_length (b + cond (is_barrier_kind x.kind) 1 0) xs) (region_step x xs)

-- a fork after more barriers
abbrev pub raised : ForkPlace → ℕ → ForkPlace
raised f d = record { span = f.span; barriers = f.barriers + d }

pub forks_raised : (b d : ℕ) (xs : List Record) (r : ℕ) (f : ForkPlace) → slice_get (forks_from b xs) r ≡ Some f → slice_get (forks_from (b + d) xs) r ≡ Some (raised f d)
forks_raised b d [] r f found = cc
forks_raised b d (x ∷ xs) r f found = at (is_region_kind x.kind) r found (λ m g has. subst (λ (n : ℕ). slice_get (forks_from n xs) m ≡ Some (raised g d)) turn (forks_raised (b + cond (is_barrier_kind x.kind) 1 0) d xs m g has))
  where
    turn : (b + cond (is_barrier_kind x.kind) 1 0) + d ≡ (b + d) + cond (is_barrier_kind x.kind) 1 0
    turn = omega arith

    at : (p : Bool) (n : ℕ)
        → slice_get (cond p (record { span = x.value; barriers = b } ∷ forks_from (b + cond (is_barrier_kind x.kind) 1 0) xs) (forks_from (b + cond (is_barrier_kind x.kind) 1 0) xs)) n ≡ Some f
        → ((m : ℕ) (g : ForkPlace) → slice_get (forks_from (b + cond (is_barrier_kind x.kind) 1 0) xs) m ≡ Some g → slice_get (forks_from ((b + d) + cond (is_barrier_kind x.kind) 1 0) xs) m ≡ Some (raised g d))
        → slice_get (cond p (record { span = x.value; barriers = b + d } ∷ forks_from ((b + d) + cond (is_barrier_kind x.kind) 1 0) xs) (forks_from ((b + d) + cond (is_barrier_kind x.kind) 1 0) xs)) n ≡ Some (raised f d)
    at true zero here more =
        let same : record { span = x.value; barriers = b } ≡ f = cc in
        ap (λ (g : ForkPlace). Some (raised g d)) same
    at true (suc n) here more = more n f here
    at false n here more = more n f here

-- an element of two lists put together is of one of them
pub get_either : {X : Type 0} (xs ys : List X) (n : ℕ) (x : X) → slice_get (xs ++ ys) n ≡ Some x
    → ((n < length xs) × (slice_get xs n ≡ Some x)) ⊎ ((m : ℕ) × (n ≡ length xs + m) × (slice_get ys m ≡ Some x))
get_either [] ys n x found = inr (n, omega arith, found)
get_either (y ∷ xs) ys zero x found = inl (omega arith, found)
get_either (y ∷ xs) ys (suc n) x found = at (get_either xs ys n x found)
  where
    at : ((n < length xs) × (slice_get xs n ≡ Some x)) ⊎ ((m : ℕ) × (n ≡ length xs + m) × (slice_get ys m ≡ Some x))
        → ((suc n < length (y ∷ xs)) × (slice_get (y ∷ xs) (suc n) ≡ Some x)) ⊎ ((m : ℕ) × (suc n ≡ length (y ∷ xs) + m) × (slice_get ys m ≡ Some x))
    at (inl (less, has)) = inl (omega arith, has)
    at (inr (m, is, has)) = inr (m, omega arith, has)

-- a list with one element doubled
pub undoubled : {X : Type 0} (xs ys : List X) (x y : X) (r : ℕ) → slice_get (xs ++ x ∷ x ∷ ys) r ≡ Some y → slice_get (xs ++ x ∷ ys) (undouble (length xs) r) ≡ Some y
undoubled [] ys x y zero found = found
undoubled [] ys x y (suc r) found = found
undoubled (z ∷ xs) ys x y zero found = found
undoubled (z ∷ xs) ys x y (suc r) found = undoubled xs ys x y r found

-- numbers that were the same are the same, or those of the two
pub undouble_once : (k r q : ℕ) → undouble k r ≡ undouble k q → (r ≡ q) ⊎ ((r ≡ k) × (q ≡ suc k)) ⊎ ((r ≡ suc k) × (q ≡ k))
undouble_once zero zero zero e = inl refl
undouble_once zero zero (suc q) e = inr (inl (refl, omega arith))
undouble_once zero (suc r) zero e = inr (inr (omega arith, refl))
undouble_once zero (suc r) (suc q) e = inl (omega arith)
undouble_once (suc k) zero zero e = inl refl
undouble_once (suc k) zero (suc q) e = absurd (omega arith)
undouble_once (suc k) (suc r) zero e = absurd (omega arith)
undouble_once (suc k) (suc r) (suc q) e = at (undouble_once k r q (omega arith))
  where
    at : (r ≡ q) ⊎ ((r ≡ k) × (q ≡ suc k)) ⊎ ((r ≡ suc k) × (q ≡ k)) → (suc r ≡ suc q) ⊎ ((suc r ≡ suc k) × (suc q ≡ suc (suc k))) ⊎ ((suc r ≡ suc (suc k)) × (suc q ≡ suc k))
    at (inl same) = inl (omega arith)
    at (inr (inl (mine, yours))) = inr (inl (omega arith, omega arith))
    at (inr (inr (mine, yours))) = inr (inr (omega arith, omega arith))

pub undouble_early : (k r : ℕ) → r ≤ k → undouble k r ≡ r
undouble_early zero zero le = refl
undouble_early zero (suc r) le = absurd (omega arith)
undouble_early (suc k) zero le = refl
undouble_early (suc k) (suc r) le = ap suc (undouble_early k r (omega arith))

pub undouble_late : (k r : ℕ) → k ≤ r → undouble k (suc r) ≡ r
undouble_late zero r le = refl
undouble_late (suc k) zero le = absurd (omega arith)
undouble_late (suc k) (suc r) le = ap suc (undouble_late k r (omega arith))

-- and an element of the list without the double
pub doubled_get : {X : Type 0} (xs ys : List X) (x y : X) (k old new : ℕ) → length xs ≡ k → ((old < k) × (new ≡ old)) ⊎ ((k < old) × (new ≡ suc old))
    → slice_get (xs ++ x ∷ ys) old ≡ Some y → slice_get (xs ++ x ∷ x ∷ ys) new ≡ Some y
doubled_get [] ys x y k zero new long (inl (less, same)) found = absurd (omega arith)
doubled_get [] ys x y k zero new long (inr (more, same)) found = absurd (omega arith)
doubled_get [] ys x y k (suc old) new long (inl (less, same)) found = absurd (omega arith)
doubled_get [] ys x y k (suc old) zero long (inr (more, same)) found = absurd (omega arith)
doubled_get [] ys x y k (suc old) (suc new) long (inr (more, same)) found =
    let place : suc old ≡ new = omega arith in
    subst (λ (i : ℕ). slice_get (x ∷ ys) i ≡ Some y) place found
doubled_get (z ∷ xs) ys x y zero old new long which found = absurd (omega arith)
doubled_get (z ∷ xs) ys x y (suc k) zero zero long which found = found
doubled_get (z ∷ xs) ys x y (suc k) zero (suc new) long (inl (less, same)) found = absurd (omega arith)
doubled_get (z ∷ xs) ys x y (suc k) zero (suc new) long (inr (more, same)) found = absurd (omega arith)
doubled_get (z ∷ xs) ys x y (suc k) (suc old) zero long (inl (less, same)) found = absurd (omega arith)
doubled_get (z ∷ xs) ys x y (suc k) (suc old) zero long (inr (more, same)) found = absurd (omega arith)
doubled_get (z ∷ xs) ys x y (suc k) (suc old) (suc new) long (inl (less, same)) found = doubled_get xs ys x y k old new (omega arith) (inl (omega arith, omega arith)) found
doubled_get (z ∷ xs) ys x y (suc k) (suc old) (suc new) long (inr (more, same)) found = doubled_get xs ys x y k old new (omega arith) (inr (omega arith, omega arith)) found

pub some_fork : (b : ℕ) (records : List Record) (r : ℕ) (f : ForkPlace) → slice_get (forks_from b records) r ≡ Some f → 0 < length records
some_fork b [] r f found = cc
some_fork b (x ∷ records) r f found = omega arith

pub not_raised : (f : ForkPlace) → f ≡ raised f 0
not_raised f = let none : f.barriers ≡ f.barriers + 0 = omega arith in λ i. record { span = f.span; barriers = none i }

pub no_fork : (b : ℕ) (r : Record) → r.kind ≡ End → forks_from b (r ∷ []) ≡ []
no_fork b r ends = rw ends refl
