-- Lists in strict order, the paths that a run lists, and the kernel that a file holds.
use Rattle.std.proofs.Common.{◌≡◌, refl, ap, ap₂, sym, ◌∙◌, subst, ◌⊎◌, inl, inr, ℕ, zero, suc, ◌<◌, ◌≤◌, List, [], ◌∷◌, length, Some, arith}
use Rattle.std.specs.Prelude.{slice_get}
use Rattle.std.proofs.lemmas.Option.{same_Some, slice_get-get_or, slice_get_within, get_or_from_slice_get}
use Rattle.sw_base.specs.declared.path.Step.{Step}
use Rattle.race_model.specs.ForkJoin.{ListsTask}
use Rattle.race_model.specs.Trace.{Trace}
use Rattle.kernel_syntax.specs.Program.{Program}
use Rattle.kernel_model.specs.Folder.{paths_of}
use Rattle.kernel_reader.specs.KernelOf.{IsKernelOf}
use Rattle.kernel_laws.proofs.OneAnswer.{one-kernel}
use Rattle.history_laws.proofs.Members.{Member}

-- lists in strict order
module _ {X : Type 0} (R : X → X → Type 0) (irreflexive : (x : X) → R x x → ⊥) (trans : (x y z : X) → R x y → R y z → R x z) where
  abbrev pub Ordered : List X → Type 0
  Ordered xs = (i j : ℕ) (x y : X) → i < j → slice_get xs i ≡ Some x → slice_get xs j ≡ Some y → R x y

  -- a member is the first one or stands behind it
  first_or : (x e : X) (xs : List X) → Ordered (x ∷ xs) → Member (x ∷ xs) e → (x ≡ e) ⊎ (R x e × Member xs e)
  first_or x e xs order m = by m.place m.found
    where
      by : (n : ℕ) → slice_get (x ∷ xs) n ≡ Some e → (x ≡ e) ⊎ (R x e × Member xs e)
      by zero found = inl (same_Some x e found)
      by (suc n) found = inr (order 0 (suc n) x e (omega arith) refl found, record { place = n; found = found })

  tail_order : (x : X) (xs : List X) → Ordered (x ∷ xs) → Ordered xs
  tail_order x xs order i j y z less one other = order (suc i) (suc j) y z (omega arith) one other

  more : (x e : X) (xs : List X) → Member xs e → Member (x ∷ xs) e
  more x e xs m = record { place = suc m.place; found = m.found }

  -- what stands behind the first of one list stands behind that of the other, which is the same
  behind : (x y e : X) (xs ys : List X) → x ≡ y → Ordered (x ∷ xs) → Ordered (y ∷ ys) → Member xs e → Member (y ∷ ys) e → Member ys e
  behind x y e xs ys same order other m there = by (first_or y e ys other there)
    where
      by : (y ≡ e) ⊎ (R y e × Member ys e) → Member ys e
      by (inr later) = later.1
      by (inl here) = absurd (irreflexive x (subst (λ (z : X). R x z) (sym (same ∙ here)) (order 0 (suc m.place) x e (omega arith) refl m.found)))

  -- with the same members they are the same
  pub same_ordered : (xs ys : List X) → Ordered xs → Ordered ys → ((e : X) → Member xs e → Member ys e) → ((e : X) → Member ys e → Member xs e) → xs ≡ ys
  same_ordered [] [] order other there back = refl
  same_ordered [] (y ∷ ys) order other there back = let nowhere = (back y (record { place = 0; found = refl })).found in cc
  same_ordered (x ∷ xs) [] order other there back = let nowhere = (there x (record { place = 0; found = refl })).found in cc
  same_ordered (x ∷ xs) (y ∷ ys) order other there back =
      ap₂ (λ (z : X) (zs : List X). z ∷ zs) first
      (same_ordered xs ys (tail_order x xs order) (tail_order y ys other)
      (λ e m. behind x y e xs ys first order other m (there e (more x e xs m)))
      (λ e m. behind y x e ys xs (sym first) other order m (back e (more y e ys m))))
    where
      first : x ≡ y
      first = by (first_or y x ys other (there x (record { place = 0; found = refl }))) (first_or x y xs order (back y (record { place = 0; found = refl })))
        where
          by : (y ≡ x) ⊎ (R y x × Member ys x) → (x ≡ y) ⊎ (R x y × Member xs y) → x ≡ y
          by (inl same) any = sym same
          by (inr one) (inl same) = same
          by (inr one) (inr two) = absurd (irreflexive x (trans x y x two.0 one.0))

  -- what the first of one list leaves of the other
  step : (y : X) (ys : List X) (x : X) (xs : List X) → Ordered (x ∷ xs) → Ordered (y ∷ ys) → ((e : X) → Member (x ∷ xs) e → Member (y ∷ ys) e)
      → ((zs : List X) → Ordered zs → ((e : X) → Member zs e → Member ys e) → length zs ≤ length ys) → suc (length xs) ≤ suc (length ys)
  step y ys x xs one other inside shorter_than = by (first_or y x ys other (inside x (record { place = 0; found = refl })))
    where
      past : (e : X) → R y e → Member (y ∷ ys) e → Member ys e
      past e later m = elim (first_or y e ys other m) [ inr found ↦ found.1 | inl same ↦ absurd (irreflexive e (subst (λ (z : X). R z e) same later)) ]

      from_first : (e : X) → R y x → Member (x ∷ xs) e → R y e
      from_first e before m = elim (first_or x e xs one m) [ inr found ↦ trans y x e before found.0 | inl same ↦ subst (λ (z : X). R y z) same before ]

      by : (y ≡ x) ⊎ (R y x × Member ys x) → suc (length xs) ≤ suc (length ys)
      by (inl same) =
          let rest = shorter_than xs (tail_order x xs one)
          (λ e m. past e (subst (λ (z : X). R z e) (sym same) (one 0 (suc m.place) x e (omega arith) refl m.found)) (inside e (more x e xs m))) in
          omega (arith, rest)
      by (inr later) = let rest = shorter_than (x ∷ xs) one (λ e m. past e (from_first e later.0 m) (inside e m)) in omega (arith, rest)

  -- and one whose members the other has is no longer
  pub shorter : (ys xs : List X) → Ordered xs → Ordered ys → ((e : X) → Member xs e → Member ys e) → length xs ≤ length ys
  shorter ys [] one other inside = omega arith
  shorter [] (x ∷ xs) one other inside = let nowhere = (inside x (record { place = 0; found = refl })).found in cc
  shorter (y ∷ ys) (x ∷ xs) one other inside = step y ys x xs one other inside (λ zs order within. shorter ys zs order (tail_order y ys other) within)

pub lists_member : (trace : Trace) (path : List Step) → ListsTask trace path → Member (paths_of trace) path
lists_member trace path (k, within, is) = record { place = k; found = slice_get-get_or (paths_of trace) k path within ∙ ap Some is }

pub member_lists : (trace : Trace) (path : List Step) → Member (paths_of trace) path → ListsTask trace path
member_lists trace path m = (m.place, slice_get_within (paths_of trace) m.place path m.found, get_or_from_slice_get (paths_of trace) m.place path path m.found)

-- a file holds one kernel
pub one_held : (text other : List ℕ) (p q : Program) → Some text ≡ Some other → IsKernelOf text p → IsKernelOf other q → p ≡ q
one_held text other p q same one two = one-kernel text p q one (subst (λ (t : List ℕ). IsKernelOf t q) (sym (same_Some text other same)) two)
