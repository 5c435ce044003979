-- A set of line pairs with one more.
use Rattle.std.proofs.Common.{◌≡◌, ◌⊎◌, ℕ, List, [], ◌∷◌, Contains, Bool, true, false, cond, IsTrue, Ordering, Equal, inl, inr, refl, sym, ap, ◌∙◌, subst}
use Rattle.std.specs.Ordering.{nat_cmp}
use Rattle.std.specs.Cmp.{IsTotalOrder}
use Rattle.std.specs.BTreeSet.{BTreeSet, Updates, contains}
use Rattle.std.specs.BTreeMap.{is_at}
use Rattle.std.proofs.lemmas.Cmp.{then_total, on_total, nat_cmp_total}
use Rattle.std.proofs.lemmas.Map.Lookups.{CmpEqualImpliesEq, exact_pairs, exact_unsigned}
use Rattle.std.proofs.lemmas.Map.Views.{btree_set_contains_iff}
use Rattle.race_model.specs.Race.{pair_cmp}
use Rattle.stride_summary.specs.declared.run.Run.{Run}
use Rattle.pair_compare.specs.Conflict.{IsRunConflict, IsRunPair, AddsPairs, line_pair}
use Rattle.pair_compare.proofs.Adds.{OneHas-cons, OneHas-first, not_in_nothing}

pub pair_total : IsTotalOrder pair_cmp
pair_total = then_total (on_total (λ (t : ℕ × ℕ). t.0) nat_cmp_total) (on_total (λ (t : ℕ × ℕ). t.1) nat_cmp_total)

pub pair_exact : CmpEqualImpliesEq pair_cmp
pair_exact = exact_pairs nat_cmp nat_cmp exact_unsigned exact_unsigned

-- the pairs of a set after an insertion
pub record Inserts (old new : List (ℕ × ℕ)) (pair : ℕ × ℕ) : Type 0 where
  pub kept : (p : ℕ × ℕ) → Contains old p → Contains new p
  pub added : Contains new pair
  pub only : (p : ℕ × ℕ) → Contains new p → Contains old p ⊎ (pair ≡ p)

both_true : (b : Bool) → cond b true true ≡ true
both_true true = refl
both_true false = refl

here_or_old : (k p : ℕ × ℕ) (o : Ordering) (b : Bool) → pair_cmp k p ≡ o → cond (is_at (λ (_ : ℕ × ℕ). o) p) true b ≡ true → (b ≡ true) ⊎ (k ≡ p)
here_or_old k p Ordering.Less b is h = inl h
here_or_old k p Ordering.Greater b is h = inl h
here_or_old k p Equal b is h = inr (pair_exact k p is)

pub Inserts-from_updates : (old new : BTreeSet (ℕ × ℕ)) (k : ℕ × ℕ) → Updates pair_cmp old new k true → Inserts old.keys new.keys k
Inserts-from_updates old new k updates = record {
  kept = λ p h. (iff_new p).0 ((updates.0 p) ∙ ap (λ b. cond (is_at (pair_cmp k) p) true b) ((iff_old p).1 h) ∙ both_true (is_at (pair_cmp k) p));
  added = (iff_new k).0 updates.1;
  only = λ p h. elim (here_or_old k p (pair_cmp k p) (contains pair_cmp old p) refl (sym (updates.0 p) ∙ (iff_new p).1 h)) [ inl was ↦ inl ((iff_old p).0 was) | inr same ↦ inr same ];
} where
  iff_new : (p : ℕ × ℕ) → (IsTrue (contains pair_cmp new p) → Contains new.keys p) × (Contains new.keys p → IsTrue (contains pair_cmp new p))
  iff_new = btree_set_contains_iff pair_total pair_exact new

  iff_old : (p : ℕ × ℕ) → (IsTrue (contains pair_cmp old p) → Contains old.keys p) × (Contains old.keys p → IsTrue (contains pair_cmp old p))
  iff_old = btree_set_contains_iff pair_total pair_exact old

-- a conflict of two runs adds its line pair
pub AddsPairs-insert : (old new : List (ℕ × ℕ)) (a b : Run) → IsRunConflict a b → Inserts old new (line_pair a.line b.line) → AddsPairs old new (IsRunPair a (b ∷ []))
AddsPairs-insert old new a b conflict inserts = record {
  kept = inserts.kept;
  added = λ pair h. elim (OneHas-cons _ b [] pair h) [
    | inl has ↦ subst (λ (p : ℕ × ℕ). Contains new p) (sym has.lines) inserts.added
    | inr none ↦ absurd (not_in_nothing none.one none.listed)
  ];
  only = λ pair h. elim (inserts.only pair h) [
    | inl was ↦ inl was
    | inr same ↦ inr (OneHas-first _ b [] pair (record { conflict = conflict; lines = sym same }))
  ];
}

-- a pair that is there already, or no conflict, adds nothing
pub AddsPairs-nothing : (keys : List (ℕ × ℕ)) (a b : Run) → (IsRunConflict a b → Contains keys (line_pair a.line b.line)) → AddsPairs keys keys (IsRunPair a (b ∷ []))
AddsPairs-nothing keys a b known = record {
  kept = λ pair h. h;
  added = λ pair h. elim (OneHas-cons _ b [] pair h) [
    | inl has ↦ subst (λ (p : ℕ × ℕ). Contains keys p) (sym has.lines) (known has.conflict)
    | inr none ↦ absurd (not_in_nothing none.one none.listed)
  ];
  only = λ pair h. inl h;
}

-- a pair that a look-up finds is there
pub Contains-known : (set : BTreeSet (ℕ × ℕ)) (p q : ℕ × ℕ) → p ≡ q → contains pair_cmp set p ≡ true → Contains set.keys q
Contains-known set p q same found = subst (λ (r : ℕ × ℕ). Contains set.keys r) same ((btree_set_contains_iff pair_total pair_exact set p).0 found)
