-- The runs of some stretches, one after another.
use Rattle.std.proofs.Common.{◌≡◌, ◌⊎◌, ◌↔◌, ◌<◌, ℕ, ◌+◌, List, [], ◌∷◌, ◌++◌, length, get_or, take, Contains, inl, inr, refl, sym, ◌∙◌, ap, subst, arith}
use Rattle.std.specs.List.{flat_map}
use Rattle.std.specs.List.Sorted.{IsStrictlyIncreasing, IsNonDecreasingBy, IsPermutation}
use Rattle.std.proofs.lemmas.List.{get_or-take, get_or_default, length-take-le, take_more}
use Rattle.std.proofs.lemmas.List.Elements.{All-contains, Contains-append_cases, Contains-append_left, Contains-append_right, Contains-push, Contains-push_cases}
use Rattle.std.proofs.lemmas.List.Sorted.{Contains-permutation, IsPermutation-sym}
use Rattle.stride_summary.specs.declared.key.Key.{Key}
use Rattle.stride_summary.specs.declared.run.Run.{Run}
use Rattle.stride_summary.specs.declared.single.Single.{Single}
use Rattle.stride_summary.specs.declared.stretch.Stretch.{Stretch}
use Rattle.stride_summary.specs.Run.{Apart, AreApart, EachApart, HasPair, run_key}
use Rattle.stride_summary.specs.Spread.{AddsStretch, addresses_of}
use Rattle.stride_summary.specs.Singles.{AddsSingles, AreOthers, HoldsSingle}
use Rattle.stride_summary.specs.Stretches.{HaveRuns, Holds, KeysDiffer}
use Rattle.stride_summary.proofs.Rising.{Contains-address, apart_from_rising, has_base, spread_from, spread_has}
use Rattle.stride_summary.proofs.Apart.{AreApart-from_each, EachApart-append, EachApart-from_AreApart, EachApart-permutation}

pub HaveRuns-none : (runs : List Run) → length runs ≡ 0 → HaveRuns [] runs
HaveRuns-none [] none = record {
  pairs = λ k a. ((λ h. absurd (omega (arith, h.listed.1))), (λ h. absurd (omega (arith, h.listed.1))));
  apart = λ i j d differ in_i in_j. absurd (omega arith);
}
HaveRuns-none (run ∷ runs) none = absurd (omega arith)

-- the runs of one more key
pub HaveRuns-push : (done : List Stretch) (s : Stretch) (runs more : List Run) → ((t : Stretch) → Contains done t → t.key ≡ s.key → ⊥) → HaveRuns done runs → AddsStretch s.key s.addresses.items runs more → HaveRuns (done ++ s ∷ []) more
HaveRuns-push done s runs more fresh before adds = record {
  pairs = λ k a. (forth k a, back k a);
  apart = subst (λ (rs : List Run). EachApart rs) (sym adds.cuts.added) (EachApart-append runs adds.cuts.cuts before.apart (EachApart-from_AreApart adds.cuts.cuts (λ i j d less within key. apart_from_rising adds.cuts.cuts rising i j d less within)) across);
} where
  rising : IsStrictlyIncreasing (flat_map addresses_of adds.cuts.cuts)
  rising = subst (λ (ns : List ℕ). IsStrictlyIncreasing ns) (sym adds.cuts.cut.spread) adds.rising

  own_key : (r : Run) → Contains adds.cuts.cuts r → run_key r ≡ s.key
  own_key r listed = All-contains (λ (x : Run). run_key x ≡ s.key) adds.cuts.cuts r adds.cuts.cut.keyed listed

  across : (r c : Run) → Contains runs r → Contains adds.cuts.cuts c → Apart r c
  across r c in_runs in_cuts same =
      let was : Holds done (run_key r) r.base = (before.pairs (run_key r) r.base).0 (record { run = r; listed = in_runs; keyed = refl; addressed = (Contains-address r r.base).0 (has_base r) }) in
      absurd (fresh was.stretch was.listed (was.keyed ∙ same ∙ own_key c in_cuts))

  forth : (k : Key) (a : ℕ) → HasPair more k a → Holds (done ++ s ∷ []) k a
  forth k a h = elim (Contains-append_cases runs adds.cuts.cuts h.run (subst (λ (rs : List Run). Contains rs h.run) adds.cuts.added h.listed)) [
    | inl old ↦ let was : Holds done k a = (before.pairs k a).0 (record { run = h.run; listed = old; keyed = h.keyed; addressed = h.addressed }) in
        record { stretch = was.stretch; listed = Contains-append_left done (s ∷ []) was.stretch was.listed; keyed = was.keyed; held = was.held }
    | inr new ↦ record {
      stretch = s;
      listed = Contains-push done s;
      keyed = sym (own_key h.run new) ∙ h.keyed;
      held = (adds.same a).0 (subst (λ (ns : List ℕ). Contains ns a) adds.cuts.cut.spread (spread_has adds.cuts.cuts h.run a new ((Contains-address h.run a).1 h.addressed)));
    }
  ]

  back : (k : Key) (a : ℕ) → Holds (done ++ s ∷ []) k a → HasPair more k a
  back k a h = subst (λ (rs : List Run). HasPair rs k a) (sym adds.cuts.added) (elim (Contains-push_cases done s h.stretch h.listed) [
    | inl before_it ↦
        let was : HasPair runs k a = (before.pairs k a).1 (record { stretch = h.stretch; listed = before_it; keyed = h.keyed; held = h.held }) in
        record { run = was.run; listed = Contains-append_left runs adds.cuts.cuts was.run was.listed; keyed = was.keyed; addressed = was.addressed }
    | inr it ↦
        let found = spread_from adds.cuts.cuts a (subst (λ (ns : List ℕ). Contains ns a) (sym adds.cuts.cut.spread) ((adds.same a).1 (subst (λ (x : Stretch). Contains x.addresses.items a) (sym it) h.held))) in
        record { run = found.0; listed = Contains-append_right runs adds.cuts.cuts found.0 found.1; keyed = own_key found.0 found.1 ∙ ap (λ (x : Stretch). x.key) it ∙ h.keyed; addressed = (Contains-address found.0 a).0 found.2 }
  ])

-- those of the first stretches, and then of one more
pub HaveRuns-next : (all : List Stretch) (n : ℕ) (s : Stretch) (runs more : List Run) → n < length all → get_or all n s ≡ s → KeysDiffer all → HaveRuns (take n all) runs → AddsStretch s.key s.addresses.items runs more → HaveRuns (take (n + 1) all) more
HaveRuns-next all n s runs more within is differ before adds =
    subst (λ (ss : List Stretch). HaveRuns ss more) (sym (take_more all n s within ∙ ap (λ (x : Stretch). take n all ++ x ∷ []) is))
    (HaveRuns-push (take n all) s runs more fresh before adds) where
      fresh : (t : Stretch) → Contains (take n all) t → t.key ≡ s.key → ⊥
      fresh t there same =
          let less : there.0 < n = omega (arith, there.1, length-take-le n all (omega (arith, within))) in
          differ there.0 n t less within (ap (λ (x : Stretch). x.key) (sym (get_or-take n all there.0 t less) ∙ there.2) ∙ same ∙ ap (λ (x : Stretch). x.key) (sym is ∙ get_or_default all n s t within))

moved_pair : (runs sorted : List Run) (k : Key) (a : ℕ) → IsPermutation runs sorted → HasPair runs k a → HasPair sorted k a
moved_pair runs sorted k a same h = record { run = h.run; listed = Contains-permutation runs sorted h.run same h.listed; keyed = h.keyed; addressed = h.addressed }

-- the runs of all keys and of the accesses that stand alone, in another order
pub record IsFinished (all : List Stretch) (singles : List Single) (runs : List Run) : Type 0 where
  pub pairs : (key : Key) (address : ℕ) → HasPair runs key address ↔ (Holds all key address ⊎ HoldsSingle singles key address)
  pub apart : AreApart runs

pub IsFinished-sorted : (all : List Stretch) (singles : List Single) (runs more sorted : List Run) → HaveRuns all runs → AreOthers singles all → AddsSingles singles runs more
    → IsPermutation more sorted → IsNonDecreasingBy (λ (r : Run). r.base) sorted → IsFinished all singles sorted
IsFinished-sorted all singles runs more sorted have others adds same rising = record {
  pairs = λ k a. (forth k a, back k a);
  apart = AreApart-from_each sorted (EachApart-permutation more sorted same each) rising;
} where
  cuts : List Run
  cuts = adds.cuts

  across : (r c : Run) → Contains runs r → Contains cuts c → Apart r c
  across r c in_runs in_cuts key =
      let was : Holds all (run_key r) r.base = (have.pairs (run_key r) r.base).0 (record { run = r; listed = in_runs; keyed = refl; addressed = (Contains-address r r.base).0 (has_base r) }) in
      let own : HoldsSingle singles (run_key c) c.base = (adds.pairs (run_key c) c.base).0 (record { run = c; listed = in_cuts; keyed = refl; addressed = (Contains-address c c.base).0 (has_base c) }) in
      absurd (All-contains (λ (s : Stretch). (a : ℕ) → HoldsSingle singles s.key a → ⊥) all was.stretch others was.listed
      c.base (subst (λ (k : Key). HoldsSingle singles k c.base) (sym (was.keyed ∙ key)) own))

  each : EachApart more
  each = subst (λ (rs : List Run). EachApart rs) (sym adds.added) (EachApart-append runs cuts have.apart (EachApart-from_AreApart cuts adds.apart) across)

  forth : (k : Key) (a : ℕ) → HasPair sorted k a → Holds all k a ⊎ HoldsSingle singles k a
  forth k a h =
      let moved : HasPair more k a = moved_pair sorted more k a (IsPermutation-sym more sorted same) h in
      elim (Contains-append_cases runs cuts moved.run (subst (λ (rs : List Run). Contains rs moved.run) adds.added moved.listed)) [
        | inl old ↦ inl ((have.pairs k a).0 (record { run = moved.run; listed = old; keyed = moved.keyed; addressed = moved.addressed }))
        | inr new ↦ inr ((adds.pairs k a).0 (record { run = moved.run; listed = new; keyed = moved.keyed; addressed = moved.addressed }))
      ]

  back : (k : Key) (a : ℕ) → Holds all k a ⊎ HoldsSingle singles k a → HasPair sorted k a
  back k a either = moved_pair more sorted k a same (subst (λ (rs : List Run). HasPair rs k a) (sym adds.added) (elim either [
    | inl h ↦
        let pair : HasPair runs k a = (have.pairs k a).1 h in
        record { run = pair.run; listed = Contains-append_left runs cuts pair.run pair.listed; keyed = pair.keyed; addressed = pair.addressed }
    | inr h ↦
        let pair = (adds.pairs k a).1 h in
        record { run = pair.run; listed = Contains-append_right runs cuts pair.run pair.listed; keyed = pair.keyed; addressed = pair.addressed }
  ]))
