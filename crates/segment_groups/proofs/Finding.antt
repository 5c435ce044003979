-- What a search among runs finds.
use Rattle.std.proofs.Common.{◌≡◌, ℕ, List, Bool, true, false, [], ◌∷◌, ◌++◌, inl, inr, sym, ap, ◌∙◌, subst, arith, cond}
use Rattle.interval_tree.specs.Order.{met, reaches_into}
use Rattle.interval_tree.specs.Visits.{TakesEach, TakesUpTo}
use Rattle.interval_tree.proofs.Searching.{reaches_yes}
use Rattle.stride_summary.specs.declared.run.Run.{Run}
use Rattle.stride_summary.specs.Run.{last_byte}
use Rattle.pair_compare.specs.Conflict.{AddsPairs, AddsSome, IsLinesOf, IsRunPair}
use Rattle.segment_groups.specs.declared.finder.Finder.{Finder}
use Rattle.pair_compare.proofs.Adds.{AddsPairs-both, AddsPairs-none, AddsPairs-same, AddsSome-after, AddsSome-same, OneHas-cons, OneHas-first, OneHas-later, not_in_nothing}
use Rattle.pair_compare.proofs.Meeting.{from_first, to_last}

abbrev pub took : Finder → Run → Finder → Type 0
took before run after = (after.run.now ≡ before.run.now) × AddsPairs before.pairs.keys after.pairs.keys (IsRunPair before.run.now (run ∷ []))

abbrev pub refused : Finder → Run → Finder → Type 0
refused before run after = (after.run.now ≡ before.run.now) × AddsSome before.pairs.keys after.pairs.keys (IsRunPair before.run.now (run ∷ []))

one_more : (k0 k1 k2 : List (ℕ × ℕ)) (a run : Run) (runs : List Run) → AddsPairs k0 k1 (IsRunPair a (run ∷ [])) → AddsPairs k1 k2 (IsRunPair a runs) → AddsPairs k0 k2 (IsRunPair a (run ∷ runs))
one_more k0 k1 k2 a run runs first then = AddsPairs-both k0 k1 k2 (IsRunPair a (run ∷ [])) (IsRunPair a runs) (IsRunPair a (run ∷ runs)) first then
    (λ p h. elim (OneHas-cons (IsLinesOf a) run [] p h) [ inl has ↦ OneHas-first (IsLinesOf a) run runs p has | inr none ↦ absurd (not_in_nothing none.one none.listed) ])
    (λ p h. OneHas-later (IsLinesOf a) run runs p h)
    (λ p h. elim (OneHas-cons (IsLinesOf a) run runs p h) [ inl has ↦ inl (OneHas-first (IsLinesOf a) run [] p has) | inr later ↦ inr later ])

-- the runs that were taken, one after another
pub AddsPairs-taken : (before after : Finder) (runs : List Run) → TakesEach took before runs after → (after.run.now ≡ before.run.now) × AddsPairs before.pairs.keys after.pairs.keys (IsRunPair before.run.now runs)
AddsPairs-taken before after [] same = (ap (λ (f : Finder). f.run.now) (sym same), subst (λ (f : Finder). AddsPairs before.pairs.keys f.pairs.keys (IsRunPair before.run.now [])) same (AddsPairs-none (IsLinesOf before.run.now) before.pairs.keys))
AddsPairs-taken before after (run ∷ runs) (between, first, then) =
    let rest = AddsPairs-taken between after runs then in (
      rest.0 ∙ first.0,
      one_more before.pairs.keys between.pairs.keys after.pairs.keys before.run.now run runs first.1
          (subst (λ (a : Run). AddsPairs between.pairs.keys after.pairs.keys (IsRunPair a runs)) first.0 rest.1),
    )

in_middle : (a next : Run) (taken later : List Run) (p : ℕ × ℕ) → IsRunPair a (next ∷ []) p → IsRunPair a (taken ++ next ∷ later) p
in_middle a next [] later p h = elim (OneHas-cons (IsLinesOf a) next [] p h) [ inl has ↦ OneHas-first (IsLinesOf a) next later p has | inr none ↦ absurd (not_in_nothing none.one none.listed) ]
in_middle a next (run ∷ taken) later p h = OneHas-later (IsLinesOf a) run (taken ++ next ∷ later) p (in_middle a next taken later p h)

in_front : (a next : Run) (taken later : List Run) (p : ℕ × ℕ) → IsRunPair a taken p → IsRunPair a (taken ++ next ∷ later) p
in_front a next [] later p h = absurd (not_in_nothing h.one h.listed)
in_front a next (run ∷ taken) later p h = elim (OneHas-cons (IsLinesOf a) run taken p h) [
  | inl has ↦ OneHas-first (IsLinesOf a) run (taken ++ next ∷ later) p has
  | inr rest ↦ OneHas-later (IsLinesOf a) run (taken ++ next ∷ later) p (in_front a next taken later p rest)
]

-- those that were taken before a refusal
pub AddsSome-taken : (before after : Finder) (runs : List Run) → TakesUpTo took refused before runs after → AddsSome before.pairs.keys after.pairs.keys (IsRunPair before.run.now runs)
AddsSome-taken before after runs h =
    let first = AddsPairs-taken before h.between h.taken h.takes in
    subst (λ (rs : List Run). AddsSome before.pairs.keys after.pairs.keys (IsRunPair before.run.now rs)) (sym h.all)
    (AddsSome-after before.pairs.keys h.between.pairs.keys after.pairs.keys (IsRunPair before.run.now h.taken) (IsRunPair before.run.now (h.next ∷ [])) (IsRunPair before.run.now (h.taken ++ h.next ∷ h.later))
    first.1 (subst (λ (a : Run). AddsSome h.between.pairs.keys after.pairs.keys (IsRunPair a (h.next ∷ []))) first.0 h.refuses.1)
    (λ p q. in_front before.run.now h.next h.taken h.later p q) (λ p q. in_middle before.run.now h.next h.taken h.later p q))

-- a run that conflicts is met
conflict_met : (a b : Run) (p : ℕ × ℕ) → IsLinesOf a b p → reaches_into a.base (last_byte a) b ≡ true
conflict_met a b p h =
    let shared = h.conflict.shares in
    let b_from = from_first b shared.byte shared.second in
    let b_to = to_last b shared.byte shared.second in
    let a_from = from_first a shared.byte shared.first in
    let a_to = to_last a shared.byte shared.first in
    reaches_yes a.base (last_byte a) b (omega arith) (omega arith)

kept_first : (a run : Run) (runs : List Run) (p : ℕ × ℕ) (b : Bool) → b ≡ true → IsLinesOf a run p → IsRunPair a (cond b (run ∷ runs) runs) p
kept_first a run runs p true e h = OneHas-first (IsLinesOf a) run runs p h
kept_first a run runs p false e h = absurd (cc)

kept_later : (a run : Run) (runs : List Run) (p : ℕ × ℕ) (b : Bool) → IsRunPair a runs p → IsRunPair a (cond b (run ∷ runs) runs) p
kept_later a run runs p true h = OneHas-later (IsLinesOf a) run runs p h
kept_later a run runs p false h = h

-- the pairs of the runs that are met are those of all
pub met_pair : (a : Run) (runs : List Run) (p : ℕ × ℕ) → IsRunPair a runs p → IsRunPair a (met a.base (last_byte a) runs) p
met_pair a [] p h = h
met_pair a (run ∷ runs) p h = elim (OneHas-cons (IsLinesOf a) run runs p h) [
  | inl has ↦ kept_first a run (met a.base (last_byte a) runs) p (reaches_into a.base (last_byte a) run) (conflict_met a run p has) has
  | inr later ↦ kept_later a run (met a.base (last_byte a) runs) p (reaches_into a.base (last_byte a) run) (met_pair a runs p later)
]

pub pair_met : (a : Run) (lo hi : ℕ) (runs : List Run) (p : ℕ × ℕ) → IsRunPair a (met lo hi runs) p → IsRunPair a runs p
pair_met a lo hi [] p h = h
pair_met a lo hi (run ∷ runs) p h = at (pair_met a lo hi runs p) (reaches_into lo hi run) h
  where
    at : (IsRunPair a (met lo hi runs) p → IsRunPair a runs p) → (b : Bool) → IsRunPair a (cond b (run ∷ met lo hi runs) (met lo hi runs)) p → IsRunPair a (run ∷ runs) p
    at rest true q = elim (OneHas-cons (IsLinesOf a) run (met lo hi runs) p q) [ inl has ↦ OneHas-first (IsLinesOf a) run runs p has | inr later ↦ OneHas-later (IsLinesOf a) run runs p (rest later) ]
    at rest false q = OneHas-later (IsLinesOf a) run runs p (rest q)

-- what a search for a run added
pub AddsPairs-found : (before after : Finder) (lo hi : ℕ) (runs : List Run) → lo ≡ before.run.now.base → hi ≡ last_byte before.run.now → TakesEach took before (met lo hi runs) after
    → AddsPairs before.pairs.keys after.pairs.keys (IsRunPair before.run.now runs)
AddsPairs-found before after lo hi runs low high takes =
    let a = before.run.now in
    AddsPairs-same before.pairs.keys after.pairs.keys (IsRunPair a (met lo hi runs)) (IsRunPair a runs) (λ p h. pair_met a lo hi runs p h)
    (λ p h. subst (λ (l : ℕ). IsRunPair a (met l hi runs) p) (sym low) (subst (λ (u : ℕ). IsRunPair a (met a.base u runs) p) (sym high) (met_pair a runs p h)))
    (AddsPairs-taken before after (met lo hi runs) takes).1

pub AddsSome-found : (before after : Finder) (lo hi : ℕ) (runs : List Run) → TakesUpTo took refused before (met lo hi runs) after → AddsSome before.pairs.keys after.pairs.keys (IsRunPair before.run.now runs)
AddsSome-found before after lo hi runs takes =
    AddsSome-same before.pairs.keys after.pairs.keys (IsRunPair before.run.now (met lo hi runs)) (IsRunPair before.run.now runs) (λ p h. pair_met before.run.now lo hi runs p h) (AddsSome-taken before after (met lo hi runs) takes)
