-- The hulls of a sweep that are active, and what the next one meets among them.
use Rattle.std.proofs.Common.{◌≡◌, ◌⊎◌, ℕ, ◌<◌, ◌≤◌, List, [], ◌∷◌, ◌++◌, Bool, IsTrue, true, false, filter, Contains, inl, inr, refl, sym, subst, arith}
use Rattle.std.proofs.lemmas.List.Elements.{Contains-append_left, Contains-push, Contains-push_cases}
use Rattle.sw_base.proofs.Lists.{contains_filtered}
use Rattle.pair_compare.specs.Conflict.{AddsPairs, IsRunConflict, OneHas}
use Rattle.pair_compare.specs.Sweeps.{AreOfKind, IsActive, IsActivePair, IsHullPair, IsReachedPair, AddsHull, DropsBefore, DropsEnded, reaches}
use Rattle.pair_compare.specs.declared.active.Active.{Active}
use Rattle.pair_compare.specs.declared.hull.Hull.{Hull}
use Rattle.pair_compare.proofs.Adds.{AddsPairs-both, AddsPairs-same}
use Rattle.pair_compare.proofs.Dividing.{Contains-filter}
use Rattle.pair_compare.proofs.Reaching.{not_so}

reaches_yes : (low : ℕ) (hull : Hull) → low ≤ hull.high → reaches low hull ≡ true
reaches_yes low hull h = grind arith

reaches_to : (low : ℕ) (hull : Hull) → reaches low hull ≡ true → low ≤ hull.high
reaches_to low hull h = grind arith

not_both : (b : Bool) → (IsTrue b → ⊥) → b ≡ false
not_both true never = absurd (never refl)
not_both false never = refl

-- only what ends before the byte is dropped
pub drops : (low : ℕ) (every : Bool) (old new : List Hull) → new ≡ filter (reaches low) old → DropsBefore low every old new
drops low every old new is = record {
  kept = λ other h long. subst (λ (hs : List Hull). Contains hs other) (sym is) (Contains-filter (reaches low) old other (reaches_yes low other long) h);
  only = λ other h. (from other h).0;
  ended = λ all other h. reaches_to low other (from other h).1;
} where
  from : (other : Hull) → Contains new other → Contains old other × (reaches low other ≡ true)
  from other h = contains_filtered (reaches low) old other (subst (λ (hs : List Hull). Contains hs other) is h)

pub settles : (hull : Hull) (old new : Active) (every : Bool) → AreOfKind old → (hull.run.now.atomic ≡ false → every ≡ true)
    → DropsBefore hull.low true old.writes.list.items new.writes.list.items → DropsBefore hull.low every old.updates.list.items new.updates.list.items
    → DropsBefore hull.low hull.run.now.write old.reads.list.items new.reads.list.items → DropsEnded hull old new
settles hull old new every kinds plain writes updates reads = record {
  kept = λ other h long. elim h [ inl r ↦ inl (reads.kept other r long) | inr rest ↦ elim rest [ inl u ↦ inr (inl (updates.kept other u long)) | inr w ↦ inr (inr (writes.kept other w long)) ] ];
  only = λ other h. elim h [ inl r ↦ inl (reads.only other r) | inr rest ↦ elim rest [ inl u ↦ inr (inl (updates.only other u)) | inr w ↦ inr (inr (writes.only other w)) ] ];
  ended = λ other h conflict. elim h [
    | inl r ↦ elim conflict.writes [
      | inl mine ↦ reads.ended mine other r
      | inr yours ↦ absurd (not_so yours (kinds.reads other (reads.only other r)))
    ]
    | inr rest ↦ elim rest [
      | inl u ↦ updates.ended (plain (not_both hull.run.now.atomic (λ mine. conflict.not_both_atomic mine (kinds.updates other (updates.only other u))))) other u
      | inr w ↦ writes.ended refl other w
    ]
  ];
  kinds = record { reads = λ other h. kinds.reads other (reads.only other h); updates = λ other h. kinds.updates other (updates.only other h) };
}

-- what else is in a list than was in it
record Gains (hull : Hull) (xs ys : List Hull) : Type 0 where
  kept : (other : Hull) → Contains xs other → Contains ys other
  only : (other : Hull) → Contains ys other → Contains xs other ⊎ (hull ≡ other)

gains_none : (hull : Hull) (xs ys : List Hull) → ys ≡ xs → Gains hull xs ys
gains_none hull xs ys same = record { kept = λ other h. subst (λ (hs : List Hull). Contains hs other) (sym same) h; only = λ other h. inl (subst (λ (hs : List Hull). Contains hs other) same h) }

gains_one : (hull : Hull) (xs ys : List Hull) → ys ≡ xs ++ hull ∷ [] → Gains hull xs ys
gains_one hull xs ys is = record {
  kept = λ other h. subst (λ (hs : List Hull). Contains hs other) (sym is) (Contains-append_left xs (hull ∷ []) other h);
  only = λ other h. Contains-push_cases xs hull other (subst (λ (hs : List Hull). Contains hs other) is h);
}

pushed : (hull : Hull) (xs ys : List Hull) → ys ≡ xs ++ hull ∷ [] → Contains ys hull
pushed hull xs ys is = subst (λ (hs : List Hull). Contains hs hull) (sym is) (Contains-push xs hull)

module _ (hull : Hull) (old new : Active) (kinds : AreOfKind old) where
  adds : Gains hull old.reads.list.items new.reads.list.items → Gains hull old.updates.list.items new.updates.list.items → Gains hull old.writes.list.items new.writes.list.items
      → IsActive new hull → AreOfKind new → AddsHull hull old new
  adds r u w own are = record {
    own = own;
    kept = λ other h. elim h [ inl i ↦ inl (r.kept other i) | inr rest ↦ elim rest [ inl i ↦ inr (inl (u.kept other i)) | inr i ↦ inr (inr (w.kept other i)) ] ];
    only = λ other h. elim h [
      | inl i ↦ elim (r.only other i) [ inl was ↦ inl (inl was) | inr same ↦ inr same ]
      | inr rest ↦ elim rest [
        | inl i ↦ elim (u.only other i) [ inl was ↦ inl (inr (inl was)) | inr same ↦ inr same ]
        | inr i ↦ elim (w.only other i) [ inl was ↦ inl (inr (inr was)) | inr same ↦ inr same ]
      ]
    ];
    kinds = are;
  }

  reads_same : new.reads.list.items ≡ old.reads.list.items → (other : Hull) → Contains new.reads.list.items other → other.run.now.write ≡ false
  reads_same same other h = kinds.reads other (subst (λ (hs : List Hull). Contains hs other) same h)

  updates_same : new.updates.list.items ≡ old.updates.list.items → (other : Hull) → Contains new.updates.list.items other → other.run.now.atomic ≡ true
  updates_same same other h = kinds.updates other (subst (λ (hs : List Hull). Contains hs other) same h)

  pub adds_a_read : hull.run.now.write ≡ false → new.reads.list.items ≡ old.reads.list.items ++ hull ∷ [] → new.updates.list.items ≡ old.updates.list.items → new.writes.list.items ≡ old.writes.list.items → AddsHull hull old new
  adds_a_read read r u w = adds (gains_one hull _ _ r) (gains_none hull _ _ u) (gains_none hull _ _ w) (inl (pushed hull _ _ r)) (record {
    reads = λ other h. elim ((gains_one hull _ _ r).only other h) [ inl was ↦ kinds.reads other was | inr same ↦ subst (λ (h : Hull). h.run.now.write ≡ false) same read ];
    updates = updates_same u;
  })

  pub adds_an_update : hull.run.now.atomic ≡ true → new.updates.list.items ≡ old.updates.list.items ++ hull ∷ [] → new.reads.list.items ≡ old.reads.list.items → new.writes.list.items ≡ old.writes.list.items → AddsHull hull old new
  adds_an_update atomic u r w = adds (gains_none hull _ _ r) (gains_one hull _ _ u) (gains_none hull _ _ w) (inr (inl (pushed hull _ _ u))) (record {
    reads = reads_same r;
    updates = λ other h. elim ((gains_one hull _ _ u).only other h) [ inl was ↦ kinds.updates other was | inr same ↦ subst (λ (h : Hull). h.run.now.atomic ≡ true) same atomic ];
  })

  pub adds_a_write : new.writes.list.items ≡ old.writes.list.items ++ hull ∷ [] → new.reads.list.items ≡ old.reads.list.items → new.updates.list.items ≡ old.updates.list.items → AddsHull hull old new
  adds_a_write w r u = adds (gains_none hull _ _ r) (gains_none hull _ _ u) (gains_one hull _ _ w) (inr (inr (pushed hull _ _ w))) (record { reads = reads_same r; updates = updates_same u })

-- where nothing conflicts, nothing is added
pub adds_none : (keys : List (ℕ × ℕ)) (hull : Hull) (others : List Hull) → ((other : Hull) → Contains others other → IsRunConflict hull.run.now other.run.now → ⊥) → AddsPairs keys keys (OneHas (IsHullPair hull) others)
adds_none keys hull others apart = record { kept = λ pair h. h; added = λ pair h. absurd (apart h.one h.listed h.has.lines.conflict); only = λ pair h. inl h }

-- a pair of the hull and an update or a write
abbrev IsChanged : Hull → Active → ℕ × ℕ → Type 0
IsChanged hull active pair = OneHas (IsHullPair hull) active.updates.list.items pair ⊎ OneHas (IsHullPair hull) active.writes.list.items pair

module _ (k0 k1 : List (ℕ × ℕ)) (from : ℕ) (hull : Hull) (active : Active) where
  -- nothing is added for a hull that begins before the byte
  pub adds_early : hull.low < from → AddsPairs k0 k0 (IsActivePair from hull active)
  adds_early early = record { kept = λ pair h. h; added = λ pair h. absurd (let late = h.late in omega arith); only = λ pair h. inl h }

  -- a hull that doesn't write conflicts with no read
  pub reads_apart : AreOfKind active → hull.run.now.write ≡ false → (other : Hull) → Contains active.reads.list.items other → IsRunConflict hull.run.now other.run.now → ⊥
  reads_apart kinds read other listed conflict = elim conflict.writes [ inl mine ↦ not_so mine read | inr yours ↦ not_so yours (kinds.reads other listed) ]

  -- an atomic hull conflicts with no update
  pub updates_apart : AreOfKind active → hull.run.now.atomic ≡ true → (other : Hull) → Contains active.updates.list.items other → IsRunConflict hull.run.now other.run.now → ⊥
  updates_apart kinds atomic other listed conflict = conflict.not_both_atomic atomic (kinds.updates other listed)

  pub adds_late : (k2 k3 : List (ℕ × ℕ)) → from ≤ hull.low → AddsPairs k0 k1 (OneHas (IsHullPair hull) active.reads.list.items) → AddsPairs k1 k2 (OneHas (IsHullPair hull) active.updates.list.items)
      → AddsPairs k2 k3 (OneHas (IsHullPair hull) active.writes.list.items) → AddsPairs k0 k3 (IsActivePair from hull active)
  adds_late k2 k3 late first second third = AddsPairs-both k0 k1 k3 (OneHas (IsHullPair hull) active.reads.list.items) (IsChanged hull active) (IsActivePair from hull active) first
      (AddsPairs-both k1 k2 k3 (OneHas (IsHullPair hull) active.updates.list.items) (OneHas (IsHullPair hull) active.writes.list.items) (IsChanged hull active) second third (λ p h. inl h) (λ p h. inr h) (λ p h. h))
      (λ p h. record { late = late; other = h.one; among = inl h.listed; lines = h.has })
      (λ p h. elim h [
        | inl u ↦ record { late = late; other = u.one; among = inr (inl u.listed); lines = u.has }
        | inr w ↦ record { late = late; other = w.one; among = inr (inr w.listed); lines = w.has }
      ])
      (λ p h. elim h.among [
        | inl r ↦ inl (record { one = h.other; listed = r; has = h.lines })
        | inr rest ↦ inr (elim rest [ inl u ↦ inl (record { one = h.other; listed = u; has = h.lines }) | inr w ↦ inr (record { one = h.other; listed = w; has = h.lines }) ])
      ])

  -- of what was active the hull meets what is left
  pub adds_reached : (old : Active) → DropsEnded hull old active → AddsPairs k0 k1 (IsActivePair from hull active) → AddsPairs k0 k1 (IsReachedPair from hull old)
  adds_reached old settles adds = AddsPairs-same k0 k1 (IsActivePair from hull active) (IsReachedPair from hull old)
      (λ pair h. record {
        two = record { late = h.late; other = h.other; among = settles.only h.other h.among; lines = h.lines };
        meets = settles.ended h.other h.among h.lines.lines.conflict;
      })
      (λ pair h. record { late = h.two.late; other = h.two.other; among = settles.kept h.two.other h.two.among h.meets; lines = h.two.lines })
      adds
