-- The elements of a list, by recursion, and of what is made of it.
use Rattle.std.proofs.Common.{◌≡◌, ◌⊎◌, inl, inr, ℕ, zero, suc, Bool, true, false, List, [], ◌∷◌, ◌++◌, Some, refl, sym, ap, subst, ◌∙◌, arith}
use Rattle.std.specs.Prelude.{slice_get, map, filter, flat_map, Contains}
use Rattle.std.specs.List.{AllZip}
use Rattle.std.proofs.lemmas.Option.{same_Some}
use Rattle.sw_base.proofs.Lists.{contains_later}

abbrev pub In : {X : Type 0} → X → List X → Type 0
In x [] = ⊥
In x (y ∷ ys) = (y ≡ x) ⊎ In x ys

pub from_contains : {X : Type 0} (x : X) (xs : List X) → Contains xs x → In x xs
from_contains x [] (k, within, is) = absurd (omega arith)
from_contains x (y ∷ ys) (zero, within, is) = inl is
from_contains x (y ∷ ys) (suc k, within, is) = inr (from_contains x ys (k, omega arith, is))

pub to_contains : {X : Type 0} (x : X) (xs : List X) → In x xs → Contains xs x
to_contains x [] h = absurd h
to_contains x (y ∷ ys) (inl e) = (0, omega arith, e)
to_contains x (y ∷ ys) (inr h) = contains_later y ys x (to_contains x ys h)

pub in_left : {X : Type 0} (x : X) (xs ys : List X) → In x xs → In x (xs ++ ys)
in_left x [] ys h = absurd h
in_left x (z ∷ xs) ys (inl e) = inl e
in_left x (z ∷ xs) ys (inr h) = inr (in_left x xs ys h)

pub in_right : {X : Type 0} (x : X) (xs ys : List X) → In x ys → In x (xs ++ ys)
in_right x [] ys h = h
in_right x (z ∷ xs) ys h = inr (in_right x xs ys h)

pub in_either : {X : Type 0} (x : X) (xs ys : List X) → In x (xs ++ ys) → In x xs ⊎ In x ys
in_either x [] ys h = inr h
in_either x (z ∷ xs) ys (inl e) = inl (inl e)
in_either x (z ∷ xs) ys (inr h) = at (in_either x xs ys h) where
  at : In x xs ⊎ In x ys → ((z ≡ x) ⊎ In x xs) ⊎ In x ys
  at (inl a) = inl (inr a)
  at (inr b) = inr b

pub in_map : {X Y : Type 0} (f : X → Y) (x : X) (xs : List X) → In x xs → In (f x) (map f xs)
in_map f x [] h = absurd h
in_map f x (y ∷ ys) (inl e) = inl (ap f e)
in_map f x (y ∷ ys) (inr h) = inr (in_map f x ys h)

pub record Mapped {X Y : Type 0} (f : X → Y) (y : Y) (xs : List X) : Type 0 where
  pub from : X
  pub is_in : In from xs
  pub is : f from ≡ y

pub map_back : {X Y : Type 0} (f : X → Y) (y : Y) (xs : List X) → In y (map f xs) → Mapped f y xs
map_back f y [] h = absurd h
map_back f y (x ∷ xs) (inl e) = record { from = x; is_in = inl refl; is = e }
map_back f y (x ∷ xs) (inr h) = let m = map_back f y xs h in record { from = m.from; is_in = inr m.is_in; is = m.is }

pub in_filter : {X : Type 0} (p : X → Bool) (x : X) (xs : List X) → In x xs → p x ≡ true → In x (filter p xs)
in_filter p x [] h e = absurd h
in_filter p x (y ∷ ys) (inl same) e =
    let here : p y ≡ true = ap p same ∙ e in
    rw here (let it : In x (y ∷ filter p ys) = inl same in it)
in_filter p x (y ∷ ys) (inr h) e = go (p y) refl (in_filter p x ys h e)
  where
    go : (b : Bool) → p y ≡ b → In x (filter p ys) → In x (filter p (y ∷ ys))
    go true is rest = rw is (let it : In x (y ∷ filter p ys) = inr rest in it)
    go false is rest = rw is rest

pub filter_back : {X : Type 0} (p : X → Bool) (x : X) (xs : List X) → In x (filter p xs) → In x xs × (p x ≡ true)
filter_back p x [] h = absurd h
filter_back {X = X} p x (y ∷ ys) h = go (p y) refl h (filter_back p x ys)
  where
    later : In x ys × (p x ≡ true) → In x (y ∷ ys) × (p x ≡ true)
    later (a, b) = (inr a, b)

    first : p y ≡ true → (y ≡ x) ⊎ In x (filter p ys) → (In x (filter p ys) → In x ys × (p x ≡ true)) → In x (y ∷ ys) × (p x ≡ true)
    first is (inl e) rest = (inl e, ap p (sym e) ∙ is)
    first is (inr more) rest = later (rest more)

    go : (b : Bool) → p y ≡ b → In x (filter p (y ∷ ys)) → (In x (filter p ys) → In x ys × (p x ≡ true)) → In x (y ∷ ys) × (p x ≡ true)
    go true is listed rest =
        let same : filter p (y ∷ ys) ≡ y ∷ filter p ys = rw is refl in
        first is (subst (λ (zs : List X). In x zs) same listed) rest
    go false is listed rest =
        let same : filter p (y ∷ ys) ≡ filter p ys = rw is refl in
        later (rest (subst (λ (zs : List X). In x zs) same listed))

pub record Flat {X Y : Type 0} (f : X → List Y) (y : Y) (xs : List X) : Type 0 where
  pub index : ℕ
  pub from : X
  pub found : slice_get xs index ≡ Some from
  pub is_in : In y (f from)

pub flat_back : {X Y : Type 0} (f : X → List Y) (y : Y) (xs : List X) → In y (flat_map f xs) → Flat f y xs
flat_back f y [] h = absurd h
flat_back f y (x ∷ xs) h = at (in_either y (f x) (flat_map f xs) h) (flat_back f y xs)
  where
    at : In y (f x) ⊎ In y (flat_map f xs) → (In y (flat_map f xs) → Flat f y xs) → Flat f y (x ∷ xs)
    at (inl a) rest = record { index = 0; from = x; found = refl; is_in = a }
    at (inr b) rest = let m = rest b in record { index = suc m.index; from = m.from; found = m.found; is_in = m.is_in }

pub in_flat : {X Y : Type 0} (f : X → List Y) (y : Y) (xs : List X) (k : ℕ) (x : X) → slice_get xs k ≡ Some x → In y (f x) → In y (flat_map f xs)
in_flat f y [] k x found h = cc
in_flat f y (z ∷ xs) zero x found h = in_left y (f z) (flat_map f xs) (subst (λ w. In y (f w)) (sym (same_Some z x found)) h)
in_flat f y (z ∷ xs) (suc k) x found h = in_right y (f z) (flat_map f xs) (in_flat f y xs k x found h)

-- partners of two lists that go together
pub record Partner {X Y : Type 0} (R : X → Y → Type 0) (xs : List X) (y : Y) : Type 0 where
  pub mate : X
  pub is_in : In mate xs
  pub related : R mate y

pub zip_back : {X Y : Type 0} (R : X → Y → Type 0) (xs : List X) (ys : List Y) (y : Y) → AllZip R xs ys → In y ys → Partner R xs y
zip_back R [] [] y all h = absurd h
zip_back R [] (z ∷ ys) y all h = absurd all
zip_back R (x ∷ xs) [] y all h = absurd all
zip_back R (x ∷ xs) (z ∷ ys) y all (inl e) = record { mate = x; is_in = inl refl; related = subst (λ w. R x w) e all.0 }
zip_back R (x ∷ xs) (z ∷ ys) y all (inr h) = let p = zip_back R xs ys y all.1 h in record { mate = p.mate; is_in = inr p.is_in; related = p.related }

pub record Match {X Y : Type 0} (R : X → Y → Type 0) (x : X) (ys : List Y) : Type 0 where
  pub mate : Y
  pub is_in : In mate ys
  pub related : R x mate

pub zip_on : {X Y : Type 0} (R : X → Y → Type 0) (xs : List X) (ys : List Y) (x : X) → AllZip R xs ys → In x xs → Match R x ys
zip_on R [] ys x all h = absurd h
zip_on R (w ∷ xs) [] x all h = absurd all
zip_on R (w ∷ xs) (y ∷ ys) x all (inl e) = record { mate = y; is_in = inl refl; related = subst (λ v. R v y) e all.0 }
zip_on R (w ∷ xs) (y ∷ ys) x all (inr h) = let p = zip_on R xs ys x all.1 h in record { mate = p.mate; is_in = inr p.is_in; related = p.related }
