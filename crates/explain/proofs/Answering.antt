-- Answers of options and results, and elements of lists.
use Rattle.std.proofs.Common.{◌≡◌, ◌<◌, ℕ, Bool, false, List, length, get_or, IsTrue, Some, None, ap, sym, ◌∙◌, arith}
use Rattle.std.specs.Prelude.{Result, Ok, Err, OnOk, Contains, slice_get}
use Rattle.std.proofs.lemmas.Option.{slice_get-get_or}

pub none_is_some : {X : Type 0} (x : X) → None ≡ Some x → ⊥
none_is_some x e = cc

pub not_so : {b : Bool} → IsTrue b → b ≡ false → ⊥
not_so h e = cc

pub on_ok_of : {T E P : Type 0} (result : Result T E) → P → OnOk result P
on_ok_of (Ok x) p = p
on_ok_of (Err e) p = tt

-- an element of a list
pub place_is : {X : Type 0} (xs : List X) (k : ℕ) (x : X) → k < length xs → x ≡ get_or xs k x → slice_get xs k ≡ Some x
place_is xs k x within is = slice_get-get_or xs k x within ∙ ap Some (sym is)

pub contains_at : {X : Type 0} (xs : List X) (x : X) (listed : Contains xs x) → slice_get xs listed.0 ≡ Some x
contains_at xs x listed = slice_get-get_or xs listed.0 x listed.1 ∙ ap Some listed.2

pub no_element : {X : Type 0} (xs : List X) (x : X) → length xs ≡ 0 → Contains xs x → ⊥
no_element xs x none listed = omega (arith, none, listed.1)

pub on_ok_two : {T E P Q R : Type 0} (result : Result T E) → (P → Q → R) → OnOk result P → OnOk result Q → OnOk result R
on_ok_two (Ok x) both p q = both p q
on_ok_two (Err e) both p q = tt
