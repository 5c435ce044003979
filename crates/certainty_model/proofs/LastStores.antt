-- The last store at an address, and when two histories have the same one.
use Rattle.std.proofs.Common.{◌≡◌, refl, ap, sym, ◌∙◌, subst, ◌⊎◌, inl, inr, ℕ, Bool, true, false, List, [], ◌∷◌, ◌++◌, arith}
use Rattle.std.specs.Prelude.{◌==◌}
use Rattle.log_format.specs.declared.record.Kind.{Kind}
use Rattle.log_format.specs.declared.record.Kind.TheVariants as kind
use Rattle.race_model.specs.History.{Entry, stored_after, stored_from, stored_value}
use Rattle.certainty_model.proofs.Entries.{Has, has_either, has_right, InOrder}

-- a write at the address
pub record IsStore (addr : ℕ) (e : Entry) : Type 0 where
  pub writes : e.event.kind ≡ kind.Write
  pub address : e.event.addr ≡ addr

abbrev pub NoUpdate : List Entry → Type 0
NoUpdate es = (e : Entry) → Has e es → e.event.kind ≡ kind.Update → ⊥

-- no store at the address, and the value is left
pub record Unstored (addr : ℕ) (es : List Entry) (old new : ℕ) : Type 0 where
  pub none : (e : Entry) → Has e es → IsStore addr e → ⊥
  pub kept : new ≡ old

-- the last store at the address, whose value is left
pub record Stored (addr : ℕ) (es : List Entry) (new : ℕ) : Type 0 where
  pub last : Entry
  pub earlier : List Entry
  pub later : List Entry
  pub parts : es ≡ earlier ++ last ∷ later
  pub is : IsStore addr last
  pub none_later : (e : Entry) → Has e later → IsStore addr e → ⊥
  pub value : new ≡ last.event.value

same_number : (m n : ℕ) → (m == n) ≡ true → m ≡ n
same_number m n e = grind arith

other_number : (m n : ℕ) → (m == n) ≡ false → m ≡ n → ⊥
other_number m n e same = grind arith

-- what one record leaves
one_step : (k : Kind) (addr old : ℕ) (e : Entry) → e.event.kind ≡ k → (k ≡ kind.Update → ⊥)
    → ((IsStore addr e → ⊥) × (stored_after k e.event addr old ≡ old)) ⊎ (IsStore addr e × (stored_after k e.event addr old ≡ e.event.value))
one_step kind.Write addr old e is plain = by (e.event.addr == addr) refl
  where
    by : (b : Bool) → (e.event.addr == addr) ≡ b
        → ((IsStore addr e → ⊥) × (stored_after kind.Write e.event addr old ≡ old)) ⊎ (IsStore addr e × (stored_after kind.Write e.event addr old ≡ e.event.value))
    by true same = inr (record { writes = is; address = same_number e.event.addr addr same }, rw same refl)
    by false other = inl (λ s. other_number e.event.addr addr other s.address, rw other refl)
one_step kind.Update addr old e is plain = absurd (plain refl)
one_step k addr old e is plain = inl (λ s. let no : k ≡ kind.Write = sym is ∙ s.writes in cc, refl)

last_store : (addr : ℕ) (es : List Entry) (old : ℕ) → NoUpdate es → Unstored addr es old (stored_from addr es old) ⊎ Stored addr es (stored_from addr es old)
last_store addr [] old plain = inl (record { none = λ e has s. has; kept = refl })
last_store addr (f ∷ es) old plain = by (one_step f.event.kind addr old f refl (plain f (inl refl))) (last_store addr es (stored_after f.event.kind f.event addr old) (λ e has. plain e (inr has)))
  where
    by : ((IsStore addr f → ⊥) × (stored_after f.event.kind f.event addr old ≡ old)) ⊎ (IsStore addr f × (stored_after f.event.kind f.event addr old ≡ f.event.value))
        → Unstored addr es (stored_after f.event.kind f.event addr old) (stored_from addr es (stored_after f.event.kind f.event addr old)) ⊎ Stored addr es (stored_from addr es (stored_after f.event.kind f.event addr old))
        → Unstored addr (f ∷ es) old (stored_from addr (f ∷ es) old) ⊎ Stored addr (f ∷ es) (stored_from addr (f ∷ es) old)
    by first (inr s) =
        inr (record { last = s.last; earlier = f ∷ s.earlier; later = s.later; parts = ap (λ (xs : List Entry). f ∷ xs) s.parts; is = s.is; none_later = s.none_later; value = s.value })
    by (inl (other, same)) (inl u) = inl (record { none = none; kept = u.kept ∙ same })
      where
        none : (e : Entry) → Has e (f ∷ es) → IsStore addr e → ⊥
        none e (inl here) s = other (subst (IsStore addr) (sym here) s)
        none e (inr later) s = u.none e later s
    by (inr (is, same)) (inl u) = inr (record { last = f; earlier = []; later = es; parts = refl; is = is; none_later = u.none; value = u.kept ∙ same })

-- Two histories have the same stores at the address, as far as can be refuted, and no two of them stand in one order here and in the other there. Then they leave
-- the same value.
module _ (addr : ℕ) (mine other : List Entry) (mine_plain : NoUpdate mine) (other_plain : NoUpdate other)
    (there : (e : Entry) → Has e mine → IsStore addr e → (Has e other → ⊥) → ⊥)
    (back : (e : Entry) → Has e other → IsStore addr e → (Has e mine → ⊥) → ⊥)
    (order : (x y : Entry) → IsStore addr x → IsStore addr y → InOrder mine x y → InOrder other y x → ⊥) where
  -- the last store of one stands in the other at the end, or before its last one
  at_last : (es : List Entry) (new : ℕ) (s : Stored addr es new) (e : Entry) → Has e es → IsStore addr e → (s.last ≡ e) ⊎ InOrder es e s.last
  at_last es new s e has store = elim (has_either e s.earlier (s.last ∷ s.later) (subst (λ (xs : List Entry). Has e xs) s.parts has))
      [ inl earlier ↦ inr (record { earlier = s.earlier; later = s.later; parts = s.parts; first = earlier }) | inr (inl here) ↦ inl here | inr (inr later) ↦ absurd (s.none_later e later store) ]

  in_it : (es : List Entry) (new : ℕ) (s : Stored addr es new) → Has s.last es
  in_it es new s = subst (λ (xs : List Entry). Has s.last xs) (sym s.parts) (has_right s.last s.earlier (s.last ∷ s.later) (inl refl))

  differ : (a b : ℕ) (s : Stored addr mine a) (t : Stored addr other b) → (a ≡ b → ⊥) → ⊥
  differ a b s t apart =
      there s.last (in_it mine a s) s.is (λ s_there.
      back t.last (in_it other b t) t.is (λ t_back.
      by (at_last other b t s.last s_there s.is) (at_last mine a s t.last t_back t.is)))
    where
      same : t.last ≡ s.last → ⊥
      same is = apart (s.value ∙ (ap (λ (e : Entry). e.event.value) (sym is) ∙ sym t.value))

      by : (t.last ≡ s.last) ⊎ InOrder other s.last t.last → (s.last ≡ t.last) ⊎ InOrder mine t.last s.last → ⊥
      by (inl is) any = same is
      by (inr one) (inl is) = same (sym is)
      by (inr one) (inr two) = order t.last s.last t.is s.is two one

  pub same_value : (stored_value addr mine ≡ stored_value addr other → ⊥) → ⊥
  same_value apart = by (last_store addr mine 0 mine_plain) (last_store addr other 0 other_plain)
    where
      by : Unstored addr mine 0 (stored_from addr mine 0) ⊎ Stored addr mine (stored_from addr mine 0) → Unstored addr other 0 (stored_from addr other 0) ⊎ Stored addr other (stored_from addr other 0) → ⊥
      by (inl u) (inl v) = apart (u.kept ∙ sym v.kept)
      by (inl u) (inr t) = back t.last (in_it other _ t) t.is (λ has. u.none t.last has t.is)
      by (inr s) (inl v) = there s.last (in_it mine _ s) s.is (λ has. v.none s.last has s.is)
      by (inr s) (inr t) = differ (stored_from addr mine 0) (stored_from addr other 0) s t apart
