-- A mutex is held exactly where it was locked before and not unlocked since.
use Rattle.std.proofs.Common.{◌≡◌, ◌⊎◌, ◌↔◌, inl, inr, refl, sym, ap, subst, ◌∙◌, arith, ℕ, zero, suc, ◌<◌, ◌≤◌, Bool, true, false, cond, List, [], ◌∷◌, ◌++◌, length, take, get_or, Option, Some, None}
use Rattle.std.specs.Prelude.{Contains, slice_get, filter, not, ◌==◌}
use Rattle.std.proofs.lemmas.Bool.{cases_lt}
use Rattle.std.proofs.lemmas.List.{take_all}
use Rattle.std.proofs.Math.Seq.{take-suc}
use Rattle.std.proofs.lemmas.Option.{slice_get_within, get_or_from_slice_get}
use Rattle.std.proofs.lemmas.List.Elements.{Contains-push, Contains-push_cases, Contains-append_left}
use Rattle.sw_base.proofs.Lists.{contains_filtered}
use Rattle.race_model.proofs.Held.{held_after-append}
use Rattle.log_format.specs.declared.record.Record.{Record}
use Rattle.log_format.specs.declared.record.Kind.{Kind}
use Rattle.log_format.specs.declared.record.Kind.TheVariants.{Lock, Unlock}
use Rattle.race_model.specs.Race.{held_after, held_after_kind}
use Rattle.race_model.specs.Mutexes.{HoldsMutex}

later : {X : Type 0} (xs : List X) (y x : X) → Contains xs x → Contains (y ∷ xs) x
later xs y x found = (suc found.0, let within = found.1 in omega arith, found.2)

keeps : {X : Type 0} (p : X → Bool) (xs : List X) (x : X) → Contains xs x → p x ≡ true → Contains (filter p xs) x
keeps p [] x (k, within, is) passes = absurd (omega arith)
keeps p (y ∷ ys) x (zero, within, is) passes =
    let here : p y ≡ true = ap p is ∙ passes in
    subst (λ (b : Bool). Contains (cond b (y ∷ filter p ys) (filter p ys)) x) (sym here) (0, omega arith, is)
keeps p (y ∷ ys) x (suc k, within, is) passes = at (p y) (keeps p ys x (k, omega arith, is) passes)
  where
    at : (b : Bool) → Contains (filter p ys) x → Contains (cond b (y ∷ filter p ys) (filter p ys)) x
    at true rest = later (filter p ys) y x rest
    at false rest = rest

-- the mutexes held after one record more
held_more : (records : List Record) (n : ℕ) (r : Record) → slice_get records n ≡ Some r
    → held_after [] (take (suc n) records) ≡ held_after_kind r.kind r.addr (held_after [] (take n records))
held_more records n r found =
    ap (held_after []) (more ∙ ap (λ (last : Record). take n records ++ last ∷ []) (get_or_from_slice_get records n r r found))
    ∙ held_after-append [] (take n records) (r ∷ [])
  where
    more : take (suc n) records ≡ take n records ++ get_or records n r ∷ []
    more = take-suc records n r (slice_get_within records n r found)

-- no record is there
past_end : (records : List Record) (n : ℕ) → slice_get records n ≡ None → length records ≤ n
past_end records n none = elim (cases_lt n (length records)) [
  | inl within ↦ at records n none within
  | inr past ↦ past
] where
  at : (rs : List Record) (i : ℕ) → slice_get rs i ≡ None → i < length rs → length records ≤ n
  at [] i is within = absurd (omega arith)
  at (r ∷ rs) zero is within = cc
  at (r ∷ rs) (suc i) is within = at rs i is (omega arith)

-- it is held one record longer
longer : (records : List Record) (n mutex : ℕ) → HoldsMutex records n mutex
    → ((r : Record) → slice_get records n ≡ Some r → r.kind ≡ Unlock → r.addr ≡ mutex → ⊥) → HoldsMutex records (suc n) mutex
longer records n mutex holds not_here = record {
  place = holds.place;
  lock = holds.lock;
  found = holds.found;
  locks = holds.locks;
  mutex_is = holds.mutex_is;
  before = let b = holds.before in omega arith;
  kept = λ k r after within found unlocks is. elim (cases_lt k n) [
    | inl earlier ↦ holds.kept k r after earlier found unlocks is
    | inr not_earlier ↦ let same : k ≡ n = omega arith in not_here r (subst (λ (i : ℕ). slice_get records i ≡ Some r) same found) unlocks is
  ];
}

-- it is locked here
abbrev LockedHere : List Record → ℕ → ℕ → Type 0
LockedHere records n mutex = (r : Record) × (slice_get records n ≡ Some r) × (r.kind ≡ Lock) × (r.addr ≡ mutex)

-- it was held one record earlier, or is locked here
earlier_or_here : (records : List Record) (n mutex : ℕ) → HoldsMutex records (suc n) mutex
    → HoldsMutex records n mutex ⊎ LockedHere records n mutex
earlier_or_here records n mutex holds = elim (cases_lt holds.place n) [
  | inl earlier ↦ inl (record {
    place = holds.place;
    lock = holds.lock;
    found = holds.found;
    locks = holds.locks;
    mutex_is = holds.mutex_is;
    before = earlier;
    kept = λ k r after within found unlocks is. holds.kept k r after (omega arith) found unlocks is;
  })
  | inr not_earlier ↦
      let before = holds.before in
      let same : holds.place ≡ n = omega arith in
      inr (holds.lock, subst (λ (i : ℕ). slice_get records i ≡ Some holds.lock) same holds.found, holds.locks, holds.mutex_is)
]

same_record : (a b : Record) → Some a ≡ Some b → a ≡ b
same_record a b same = cc

apart : (r : Record) (k l : Kind) → r.kind ≡ k → r.kind ≡ l → k ≡ l
apart r k l one other = sym one ∙ other

not_same : (m n : ℕ) → not (m == n) ≡ true → n ≡ m → ⊥
not_same m n differ same = grind arith

differ_tested : (m n : ℕ) → (n ≡ m → ⊥) → not (m == n) ≡ true
differ_tested m n differ = grind arith

-- what one record does to a mutex
forward : (records : List Record) (n mutex : ℕ) (held : List ℕ) (r : Record) (k : Kind) → slice_get records n ≡ Some r → r.kind ≡ k
    → (Contains held mutex → HoldsMutex records n mutex) → Contains (held_after_kind k r.addr held) mutex → HoldsMutex records (suc n) mutex
forward records n mutex held r Lock found is before now = elim (Contains-push_cases held r.addr mutex now) [
  | inl old ↦ longer records n mutex (before old) (λ s there unlocks same.
      let no : Lock ≡ Unlock = apart r Lock Unlock is (ap (λ (x : Record). x.kind) (same_record r s (sym found ∙ there)) ∙ unlocks) in cc)
  | inr new ↦ record {
    place = n;
    lock = r;
    found = found;
    locks = is;
    mutex_is = new;
    before = omega arith;
    kept = λ j s after within there unlocks same. omega arith;
  }
]
forward records n mutex held r Unlock found is before now =
    let parts = contains_filtered (λ (other : ℕ). not (other == r.addr)) held mutex now in
    longer records n mutex (before parts.0) (λ s there unlocks same.
    not_same mutex r.addr parts.1 (ap (λ (x : Record). x.addr) (same_record r s (sym found ∙ there)) ∙ same))
forward records n mutex held r k found is before now = longer records n mutex (before now) (λ s there unlocks same.
    let no : k ≡ Unlock = apart r k Unlock is (ap (λ (x : Record). x.kind) (same_record r s (sym found ∙ there)) ∙ unlocks) in cc)

backward : (records : List Record) (n mutex : ℕ) (held : List ℕ) (r : Record) (k : Kind) → slice_get records n ≡ Some r → r.kind ≡ k
    → (HoldsMutex records n mutex → Contains held mutex) → HoldsMutex records (suc n) mutex → Contains (held_after_kind k r.addr held) mutex
backward records n mutex held r k found is before holds = at k is (earlier_or_here records n mutex holds)
  where
    locked : LockedHere records n mutex → (r.kind ≡ Lock) × (r.addr ≡ mutex)
    locked here =
        let same : r ≡ here.0 = same_record r here.0 (sym found ∙ here.1) in
        (ap (λ (x : Record). x.kind) same ∙ here.2, ap (λ (x : Record). x.addr) same ∙ here.3)

    not_locked : (l : Kind) → r.kind ≡ l → LockedHere records n mutex → l ≡ Lock
    not_locked l same here = apart r l Lock same (locked here).0

    at : (l : Kind) → r.kind ≡ l → HoldsMutex records n mutex ⊎ LockedHere records n mutex → Contains (held_after_kind l r.addr held) mutex
    at Lock same (inl earlier) = Contains-append_left held (r.addr ∷ []) mutex (before earlier)
    at Lock same (inr here) = subst (λ (m : ℕ). Contains (held ++ r.addr ∷ []) m) (locked here).1 (Contains-push held r.addr)
    at Unlock same (inl earlier) = keeps (λ (other : ℕ). not (other == r.addr)) held mutex (before earlier)
        (differ_tested mutex r.addr (λ is_mutex. holds.kept n r (holds_before earlier) (omega arith) found same is_mutex))
      where
        holds_before : HoldsMutex records n mutex → holds.place < n
        holds_before other = elim (cases_lt holds.place n) [
          | inl less ↦ less
          | inr not_less ↦
              let b = holds.before in
              let at_n : holds.place ≡ n = omega arith in
              let lock : Unlock ≡ Lock = apart r Unlock Lock same (ap (λ (x : Record). x.kind) (same_record r holds.lock (sym found ∙ subst (λ (i : ℕ). slice_get records i ≡ Some holds.lock) at_n holds.found)) ∙ holds.locks) in cc
        ]
    at l same (inl earlier) = before earlier
    at l same (inr here) = let no : l ≡ Lock = not_locked l same here in cc

-- the law
pub held_exactly : (records : List Record) (n mutex : ℕ) → Contains (held_after [] (take n records)) mutex ↔ HoldsMutex records n mutex
held_exactly records zero mutex = (λ held. let none = held.1 in absurd (omega arith), λ holds. let none = holds.before in absurd (omega arith))
held_exactly records (suc n) mutex = at (slice_get records n) refl (held_exactly records n mutex)
  where
    at : (o : Option Record) → slice_get records n ≡ o → Contains (held_after [] (take n records)) mutex ↔ HoldsMutex records n mutex
        → Contains (held_after [] (take (suc n) records)) mutex ↔ HoldsMutex records (suc n) mutex
    at None none before =
        let past = past_end records n none in
        let same : take (suc n) records ≡ take n records = take_all (suc n) records (omega arith) ∙ sym (take_all n records past) in (
          λ held. longer records n mutex (before.0 (subst (λ (rs : List Record). Contains (held_after [] rs) mutex) same held)) (λ r there unlocks is. cc),
          λ holds. subst (λ (rs : List Record). Contains (held_after [] rs) mutex) (sym same) (elim (earlier_or_here records n mutex holds) [
            | inl earlier ↦ before.1 earlier
            | inr here ↦ let there = here.1 in cc
          ]),
        )
    at (Some r) found before =
        let more = held_more records n r found in (
          λ held. forward records n mutex (held_after [] (take n records)) r r.kind found refl before.0 (subst (λ (ms : List ℕ). Contains ms mutex) more held),
          λ holds. subst (λ (ms : List ℕ). Contains ms mutex) (sym more) (backward records n mutex (held_after [] (take n records)) r r.kind found refl before.1 holds),
        )
