-- The events of a log, and the runs between its Regions and Barriers.
use Rattle.std.proofs.Common.{◌≡◌, ◌⊎◌, inl, inr, ℕ, zero, suc, ◌+◌, ◌≤◌, Bool, true, false, ◌||◌, List, [], ◌∷◌, length, take, Some, refl, sym, ap, subst, ◌∙◌, arith}
use Rattle.std.specs.Prelude.{slice_get}
use Rattle.std.proofs.lemmas.Option.{same_Some}
use Rattle.log_format.specs.declared.record.Record.{Record}
use Rattle.log_format.specs.declared.record.Kind.{Kind}
use Rattle.log_format.specs.declared.record.Kind.TheVariants.{Read, Write, Lock, Unlock, Barrier, Region, Chunk, End, Update}
use Rattle.race_model.specs.Race.{held_after, held_after_kind}
use Rattle.race_model.specs.Segment.{Event, is_access, is_access_event, has_access, runs_of, with_event, in_first, events_from, first_number, last_number}
use Rattle.log_segment.specs.Walking.{AreNumbered}
use Rattle.log_segment.proofs.Following.{last_is}
use Rattle.log_segment.proofs.Members.{In}

-- an event of a log is the record at its number
pub record EventAt (n : ℕ) (held : List ℕ) (records : List Record) (e : Event) : Type 0 where
  pub index : ℕ
  pub number : e.number ≡ n + index
  pub found : slice_get records index ≡ Some e.event
  pub held_is : e.held ≡ held_after held (take index records)

pub event_back : (n : ℕ) (held : List ℕ) (records : List Record) (e : Event) → In e (events_from n held records) → EventAt n held records e
event_back n held [] e h = absurd h
event_back n held (r ∷ records) e (inl same) = subst (λ (x : Event). EventAt n held (r ∷ records) x) same (record { index = 0; number = omega arith; found = refl; held_is = refl })
event_back n held (r ∷ records) e (inr h) =
    let rest = event_back (n + 1) (held_after_kind r.kind r.addr held) records e h in
    record { index = suc rest.index; number = omega (arith, rest.number); found = rest.found; held_is = rest.held_is }

pub event_there : (n : ℕ) (held : List ℕ) (records : List Record) (index : ℕ) (r : Record) → slice_get records index ≡ Some r
    → In (record { number = n + index; event = r; held = held_after held (take index records) }) (events_from n held records)
event_there n held [] index r found = cc
event_there n held (x ∷ records) zero r found =
    let same : x ≡ r = same_Some x r found in
    let number : n ≡ n + 0 = omega arith in
    inl (λ i. record { number = number i; event = same i; held = held })
event_there n held (x ∷ records) (suc index) r found =
    inr (subst (λ (k : ℕ). In (record { number = k; event = r; held = held_after held (take (suc index) (x ∷ records)) }) (events_from (n + 1) (held_after_kind x.kind x.addr held) records))
    (let e : n + 1 + index ≡ n + suc index = omega arith in e)
    (event_there (n + 1) (held_after_kind x.kind x.addr held) records index r found))

pub events_numbered : (n : ℕ) (held : List ℕ) (records : List Record) → AreNumbered n (events_from n held records)
events_numbered n held [] = tt
events_numbered n held (r ∷ records) = (refl, events_numbered (n + 1) (held_after_kind r.kind r.addr held) records)

-- runs are numbered on
record Numbered (n : ℕ) (runs : List (List Event)) : Type 0 where
  first : List Event
  others : List (List Event)
  parts : runs ≡ first ∷ others
  first_on : AreNumbered n first
  others_on : (run : List Event) → In run others → AreNumbered (first_number run) run

from_first : (n : ℕ) (run : List Event) → AreNumbered n run → AreNumbered (first_number run) run
from_first n [] all = tt
from_first n (e ∷ run) (here, more) = (refl, subst (λ (k : ℕ). AreNumbered (k + 1) run) (sym here) more)

ordered : (n : ℕ) (runs : List (List Event)) → Numbered (n + 1) runs → Numbered n ([] ∷ runs)
ordered n runs all = record { first = []; others = runs; parts = refl; first_on = tt; others_on = λ run h. at run (subst (λ (rs : List (List Event)). In run rs) all.parts h) }
  where
    at : (run : List Event) → (all.first ≡ run) ⊎ In run all.others → AreNumbered (first_number run) run
    at run (inl e) = subst (λ (r : List Event). AreNumbered (first_number r) r) e (from_first (n + 1) all.first all.first_on)
    at run (inr more) = all.others_on run more

taken : (n : ℕ) (e : Event) (runs : List (List Event)) → e.number ≡ n → Numbered (n + 1) runs → Numbered n (in_first e runs)
taken n e runs is all = subst (λ (rs : List (List Event)). Numbered n (in_first e rs)) (sym all.parts)
    (record { first = e ∷ all.first; others = all.others; parts = refl; first_on = (is, all.first_on); others_on = all.others_on })

joined_on : (k : Kind) (n : ℕ) (e : Event) (runs : List (List Event)) → e.number ≡ n → Numbered (n + 1) runs → Numbered n (with_event k e runs)
joined_on Region n e runs is all = ordered n runs all
joined_on Barrier n e runs is all = ordered n runs all
joined_on Read n e runs is all = taken n e runs is all
joined_on Write n e runs is all = taken n e runs is all
joined_on Lock n e runs is all = taken n e runs is all
joined_on Unlock n e runs is all = taken n e runs is all
joined_on Chunk n e runs is all = taken n e runs is all
joined_on End n e runs is all = taken n e runs is all
joined_on Update n e runs is all = taken n e runs is all

runs_on : (n : ℕ) (es : List Event) → AreNumbered n es → Numbered n (runs_of es)
runs_on n [] all = record { first = []; others = []; parts = refl; first_on = tt; others_on = λ run h. absurd h }
runs_on n (e ∷ es) (here, more) = joined_on e.event.kind n e (runs_of es) here (runs_on (n + 1) es more)

pub run_numbered : (n : ℕ) (es : List Event) (run : List Event) → AreNumbered n es → In run (runs_of es) → AreNumbered (first_number run) run
run_numbered n es run all h = at (runs_on n es all)
  where
    at : Numbered n (runs_of es) → AreNumbered (first_number run) run
    at on = go (subst (λ (rs : List (List Event)). In run rs) on.parts h)
      where
        go : (on.first ≡ run) ⊎ In run on.others → AreNumbered (first_number run) run
        go (inl e) = subst (λ (r : List Event). AreNumbered (first_number r) r) e (from_first n on.first on.first_on)
        go (inr more) = on.others_on run more

-- the numbers of a run lie between its first and its last
above_first : (n : ℕ) (es : List Event) (e : Event) → AreNumbered n es → In e es → (n ≤ e.number) × (e.number + 1 ≤ n + length es)
above_first n [] e all h = absurd h
above_first n (x ∷ es) e (here, more) (inl same) = (let number : x.number ≡ e.number = ap (λ (y : Event). y.number) same in omega arith, let number : x.number ≡ e.number = ap (λ (y : Event). y.number) same in omega arith)
above_first n (x ∷ es) e (here, more) (inr h) = let rest = above_first (n + 1) es e more h in (omega (arith, rest.0), omega (arith, rest.1))

in_some : (es : List Event) (e : Event) → In e es → 1 ≤ length es
in_some [] e h = absurd h
in_some (x ∷ es) e h = omega arith

pub within_run : (run : List Event) (e : Event) → AreNumbered (first_number run) run → In e run → (first_number run ≤ e.number) × (e.number ≤ last_number run)
within_run run e on h =
    let bounds = above_first (first_number run) run e on h in
    let last = last_is (first_number run) run on (in_some run e h) in
    (bounds.0, omega (arith, bounds.1, last))

-- the events of a run are those of the log
record InRun (runs : List (List Event)) (e : Event) : Type 0 where
  run : List Event
  is_run : In run runs
  is_in : In e run

ordered_back : (runs : List (List Event)) (run : List Event) (x : Event) → In run ([] ∷ runs) → In x run → InRun runs x
ordered_back runs run x (inl e) h = absurd (subst (λ (r : List Event). In x r) (sym e) h)
ordered_back runs run x (inr more) h = record { run = run; is_run = more; is_in = h }

taken_back : (e : Event) (runs : List (List Event)) (run : List Event) (x : Event) → In run (in_first e runs) → In x run → (e ≡ x) ⊎ InRun runs x
taken_back e [] run x (inl same) h = at (subst (λ (r : List Event). In x r) (sym same) h) where
  at : (e ≡ x) ⊎ ⊥ → (e ≡ x) ⊎ InRun [] x
  at (inl is) = inl is
  at (inr never) = absurd never
taken_back e [] run x (inr more) h = absurd more
taken_back e (first ∷ runs) run x (inl same) h = at (subst (λ (r : List Event). In x r) (sym same) h) where
  at : (e ≡ x) ⊎ In x first → (e ≡ x) ⊎ InRun (first ∷ runs) x
  at (inl is) = inl is
  at (inr more) = inr (record { run = first; is_run = inl refl; is_in = more })
taken_back e (first ∷ runs) run x (inr more) h = inr (record { run = run; is_run = inr more; is_in = h })

joined_back : (k : Kind) (e : Event) (runs : List (List Event)) (run : List Event) (x : Event) → In run (with_event k e runs) → In x run → (e ≡ x) ⊎ InRun runs x
joined_back Region e runs run x listed h = inr (ordered_back runs run x listed h)
joined_back Barrier e runs run x listed h = inr (ordered_back runs run x listed h)
joined_back Read e runs run x listed h = taken_back e runs run x listed h
joined_back Write e runs run x listed h = taken_back e runs run x listed h
joined_back Lock e runs run x listed h = taken_back e runs run x listed h
joined_back Unlock e runs run x listed h = taken_back e runs run x listed h
joined_back Chunk e runs run x listed h = taken_back e runs run x listed h
joined_back End e runs run x listed h = taken_back e runs run x listed h
joined_back Update e runs run x listed h = taken_back e runs run x listed h

pub run_back : (es : List Event) (run : List Event) (x : Event) → In run (runs_of es) → In x run → In x es
run_back [] run x (inl e) h = absurd (subst (λ (r : List Event). In x r) (sym e) h)
run_back [] run x (inr never) h = absurd never
run_back (e ∷ es) run x listed h = at (joined_back e.event.kind e (runs_of es) run x listed h) (λ r is_run is_in. run_back es r x is_run is_in)
  where
    at : (e ≡ x) ⊎ InRun (runs_of es) x → ((r : List Event) → In r (runs_of es) → In x r → In x es) → In x (e ∷ es)
    at (inl is) rest = inl is
    at (inr r) rest = inr (rest r.run r.is_run r.is_in)

-- and an access of the log is in a run
pub record OfRun (es : List Event) (e : Event) : Type 0 where
  pub run : List Event
  pub is_run : In run (runs_of es)
  pub is_in : In e run

first_has : (e : Event) (runs : List (List Event)) → InRun (in_first e runs) e
first_has e [] = record { run = e ∷ []; is_run = inl refl; is_in = inl refl }
first_has e (run ∷ runs) = record { run = e ∷ run; is_run = inl refl; is_in = inl refl }

joined_has : (k : Kind) (e : Event) (runs : List (List Event)) → is_access k ≡ true → InRun (with_event k e runs) e
joined_has Read e runs is = first_has e runs
joined_has Write e runs is = first_has e runs
joined_has Lock e runs is = cc
joined_has Unlock e runs is = cc
joined_has Barrier e runs is = cc
joined_has Region e runs is = cc
joined_has Chunk e runs is = cc
joined_has End e runs is = cc
joined_has Update e runs is = first_has e runs

first_more : (e : Event) (runs : List (List Event)) (x : Event) → InRun runs x → InRun (in_first e runs) x
first_more e [] x r = absurd r.is_run
first_more e (run ∷ runs) x r = at r.run r.is_run r.is_in where
  at : (mine : List Event) → (run ≡ mine) ⊎ In mine runs → In x mine → InRun ((e ∷ run) ∷ runs) x
  at mine (inl same) h = record { run = e ∷ run; is_run = inl refl; is_in = inr (subst (λ (z : List Event). In x z) (sym same) h) }
  at mine (inr more) h = record { run = mine; is_run = inr more; is_in = h }

later_has : (runs : List (List Event)) (x : Event) → InRun runs x → InRun ([] ∷ runs) x
later_has runs x r = record { run = r.run; is_run = inr r.is_run; is_in = r.is_in }

joined_more : (k : Kind) (e : Event) (runs : List (List Event)) (x : Event) → InRun runs x → InRun (with_event k e runs) x
joined_more Region e runs x r = later_has runs x r
joined_more Barrier e runs x r = later_has runs x r
joined_more Read e runs x r = first_more e runs x r
joined_more Write e runs x r = first_more e runs x r
joined_more Lock e runs x r = first_more e runs x r
joined_more Unlock e runs x r = first_more e runs x r
joined_more Chunk e runs x r = first_more e runs x r
joined_more End e runs x r = first_more e runs x r
joined_more Update e runs x r = first_more e runs x r

in_run : (es : List Event) (e : Event) → In e es → is_access_event e ≡ true → InRun (runs_of es) e
in_run [] e h is = absurd h
in_run (x ∷ es) e (inl same) is = subst (λ (y : Event). InRun (with_event x.event.kind x (runs_of es)) y) same (joined_has x.event.kind x (runs_of es) (ap (λ (y : Event). is_access_event y) same ∙ is))
in_run (x ∷ es) e (inr h) is = joined_more x.event.kind x (runs_of es) e (in_run es e h is)

pub of_run : (es : List Event) (e : Event) → In e es → is_access_event e ≡ true → OfRun es e
of_run es e h is = let r = in_run es e h is in record { run = r.run; is_run = r.is_run; is_in = r.is_in }

pub run_accesses : (run : List Event) (e : Event) → In e run → is_access_event e ≡ true → has_access run ≡ true
run_accesses [] e h is = absurd h
run_accesses (x ∷ run) e (inl same) is = let here : is_access_event x ≡ true = ap (λ (y : Event). is_access_event y) same ∙ is in rw here refl
run_accesses (x ∷ run) e (inr h) is = let rest : has_access run ≡ true = run_accesses run e h is in or_true (is_access_event x) (has_access run) rest
  where
    or_true : (a b : Bool) → b ≡ true → (a || b) ≡ true
    or_true true b e = refl
    or_true false b e = e
