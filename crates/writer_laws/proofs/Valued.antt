-- Runs that differ in values and sites alone have the same race pairs.
use Rattle.std.proofs.Common.{◌≡◌, ◌↔◌, ℕ, zero, suc, ◌+◌, ◌≤◌, ◌<◌, Bool, true, false, cond, List, [], ◌∷◌, ◌++◌, take, Some, refl, sym, ap, ap₂, subst, ◌∙◌, inl}
use Rattle.std.specs.Prelude.{slice_get, Contains, All}
use Rattle.std.proofs.lemmas.List.Elements.{All-head, All-tail}
use Rattle.log_format.specs.declared.record.Record.{Record}
use Rattle.log_format.specs.declared.record.Kind.{Kind}
use Rattle.log_format.specs.declared.record.Kind.TheVariants.{End}
use Rattle.race_model.specs.Trace.{Trace, Logs, logs_of, Node, record_at, is_region_kind, is_barrier_kind, barrier_count}
use Rattle.race_model.specs.Race.{IsRace, IsRacePair, held_after, held_after_kind}
use Rattle.race_model.specs.ForkJoin.{IsForkJoin, EndsOnce}
use Rattle.race_laws.proofs.Counts.{region_from_true}
use Rattle.writer_laws.specs.Carrying.{Carries}
use Rattle.writer_laws.specs.Places.{ForkPlace, forks_from, IsAtPlace}
use Rattle.writer_laws.specs.StandIns.{Covers, HasStandIn, IsReplaced}
use Rattle.writer_laws.specs.Values.{IsSameButValue, AreSameButValues, DifferInValues, TasksDifferInValues}
use Rattle.writer_laws.proofs.Forks.{barrier_step}
use Rattle.writer_laws.proofs.Unordered.{places_carry}
use Rattle.writer_laws.proofs.Alike.{AreAlike, alike_logs}
use Rattle.writer_laws.proofs.Ends.{NoEnd, ends_later}
use Rattle.writer_laws.proofs.KeptRun.{ends_alike}
use Rattle.writer_laws.proofs.Replaced.{race_by, no_pair_lost}

pub same_back : (r s : Record) → IsSameButValue r s → IsSameButValue s r
same_back r s e = record { kind = sym e.kind; size = sym e.size; line = sym e.line; addr = sym e.addr; span = λ region. sym (e.span (e.kind ∙ region)) }

pub all_back : (records others : List Record) → AreSameButValues records others → AreSameButValues others records
all_back [] [] e = tt
all_back [] (s ∷ others) e = absurd e
all_back (r ∷ records) [] e = absurd e
all_back (r ∷ records) (s ∷ others) e = (same_back r s e.0, all_back records others e.1)

-- the record at the same place, and what comes before it
pub record Beside (records others : List Record) (i : ℕ) (r : Record) : Type 0 where
  pub event : Record
  pub found : slice_get others i ≡ Some event
  pub same : IsSameButValue r event
  pub as_many : barrier_count (take i records) ≡ barrier_count (take i others)
  pub same_held : (held : List ℕ) → held_after held (take i records) ≡ held_after held (take i others)

pub beside : (records others : List Record) → AreSameButValues records others → (i : ℕ) (r : Record) → slice_get records i ≡ Some r → Beside records others i r
beside [] [] e i r found = cc
beside [] (s ∷ others) e i r found = absurd e
beside (q ∷ records) [] e i r found = absurd e
beside (q ∷ records) (s ∷ others) e zero r found =
    let same : q ≡ r = cc in
    record { event = s; found = refl; same = subst (λ (t : Record). IsSameButValue t s) same e.0; as_many = refl; same_held = λ held. refl }
beside (q ∷ records) (s ∷ others) e (suc i) r found =
    let b = beside records others e.1 i r found in
    record {
      event = b.event;
      found = b.found;
      same = b.same;
      as_many = barrier_step q (take i records) ∙ (ap₂ (λ (k : Kind) (n : ℕ). cond (is_barrier_kind k) 1 0 + n) e.0.kind b.as_many ∙ sym (barrier_step s (take i others)));
      same_held = λ held. ap₂ (λ (k : Kind) (m : ℕ). held_after (held_after_kind k m held) (take i records)) e.0.kind e.0.addr ∙ b.same_held (held_after_kind s.kind s.addr held);
    }

forks_same : (b : ℕ) (records others : List Record) → AreSameButValues records others → forks_from b records ≡ forks_from b others
forks_same b [] [] e = refl
forks_same b [] (s ∷ others) e = absurd e
forks_same b (r ∷ records) [] e = absurd e
forks_same b (r ∷ records) (s ∷ others) e =
    first (is_region_kind r.kind) refl (forks_from (b + cond (is_barrier_kind r.kind) 1 0) records)
    ∙ ap₂ (λ (p : Bool) (fs : List ForkPlace). cond p (record { span = s.value; barriers = b } ∷ fs) fs) (ap is_region_kind e.0.kind)
    (ap (λ (k : Kind). forks_from (b + cond (is_barrier_kind k) 1 0) records) e.0.kind ∙ forks_same (b + cond (is_barrier_kind s.kind) 1 0) records others e.1)
  where
    first : (p : Bool) → is_region_kind r.kind ≡ p → (fs : List ForkPlace)
        → cond (is_region_kind r.kind) (record { span = r.value; barriers = b } ∷ fs) fs ≡ cond (is_region_kind r.kind) (record { span = s.value; barriers = b } ∷ fs) fs
    first true is fs = ap (λ (n : ℕ). cond (is_region_kind r.kind) (record { span = n; barriers = b } ∷ fs) fs) (e.0.span (region_from_true r.kind is))
    first false is fs = rw is refl

same_covers : (r s : Record) → IsSameButValue r s → Covers r s
same_covers r s e = record {
  same_line = sym e.line;
  bytes = λ byte has. record {
    from_start = subst (λ (a : ℕ). a ≤ byte) e.addr has.from_start;
    to_end = subst (λ (n : ℕ). byte < n) (ap₂ (λ (a n : ℕ). a + n) e.addr e.size) has.to_end;
  };
  kind = inl (sym e.kind);
}

abbrev stand_in : (logs others : Logs) → DifferInValues logs others → (x : Node) (r : Record) → record_at logs x ≡ Some r → HasStandIn (IsAtPlace logs others) logs others x r
stand_in logs others same x r found =
    let b = beside (logs x.path) (others x.path) (same x.path) x.index r found in
    record {
      place = x;
      event = b.event;
      found = b.found;
      answers = record { same_task = refl; as_many = b.as_many };
      covers = same_covers r b.event b.same;
      mutexes = λ m held. subst (λ (ms : List ℕ). Contains ms m) (sym (b.same_held [])) held;
    }

carries : (logs others : Logs) → DifferInValues logs others → Carries (IsAtPlace logs others) logs others
carries logs others same = places_carry logs others (λ path. forks_same 0 (logs path) (others path) (same path))

replaced : (logs others : Logs) → DifferInValues logs others → IsReplaced (IsAtPlace logs others) logs others
replaced logs others same = record { carries = carries logs others same; stand_ins = λ x y r found access y_there unordered. stand_in logs others same x r found }

same_record : (a b : Record) → Some a ≡ Some b → a ≡ b
same_record a b same = cc

-- the same two records race
pub values_keep_races : (logs others : Logs) → IsForkJoin logs → DifferInValues logs others → (x y : Node) (r s q t : Record) → IsRace logs x y r s → record_at others x ≡ Some q → record_at others y ≡ Some t
    → IsRace others x y q t
values_keep_races logs others tree same x y r s q t race left right =
    subst (λ (e : Record). IsRace others x y e t) (same_record _ q (sym (stand_in logs others same x r race.left).found ∙ left))
    (subst (λ (e : Record). IsRace others x y (stand_in logs others same x r race.left).event e) (same_record _ t (sym (stand_in logs others same y s race.right).found ∙ right))
    (race_by (IsAtPlace logs others) logs others tree (carries logs others same) x y r s race (stand_in logs others same x r race.left) (stand_in logs others same y s race.right)))

-- a log ends where the other does
ends_same : (prefix : List Record) (last : Record) (others : List Record) → AreSameButValues (prefix ++ last ∷ []) others → last.kind ≡ End → All NoEnd prefix → EndsOnce others
ends_same [] last [] e ends once = absurd e
ends_same [] last (s ∷ []) e ends once = record { prefix = []; last = s; parts = refl; ends = sym e.0.kind ∙ ends; once = once }
ends_same [] last (s ∷ t ∷ others) e ends once = absurd e.1
ends_same (r ∷ prefix) last [] e ends once = absurd e
ends_same (r ∷ prefix) last (s ∷ others) e ends once =
    ends_later s others (λ end. All-head NoEnd r prefix once (e.0.kind ∙ end)) (ends_same prefix last others e.1 ends (All-tail NoEnd r prefix once))

nothing_same : (records others : List Record) → AreSameButValues records others → records ≡ [] → others ≡ []
nothing_same [] [] e none = refl
nothing_same [] (s ∷ others) e none = absurd e
nothing_same (r ∷ records) others e none = cc

barriers_same : (records others : List Record) → AreSameButValues records others → barrier_count records ≡ barrier_count others
barriers_same [] [] e = refl
barriers_same [] (s ∷ others) e = absurd e
barriers_same (r ∷ records) [] e = absurd e
barriers_same (r ∷ records) (s ∷ others) e =
    barrier_step r records ∙ (ap₂ (λ (k : Kind) (n : ℕ). cond (is_barrier_kind k) 1 0 + n) e.0.kind (barriers_same records others e.1) ∙ sym (barrier_step s others))

pub values_keep_run : (logs others : Logs) → IsForkJoin logs → DifferInValues logs others → IsForkJoin others
values_keep_run logs others tree same = ends_alike logs others tree (λ path. forks_same 0 (logs path) (others path) (same path)) (record {
  ends = λ path e. ends_same e.prefix e.last (others path) (subst (λ (l : List Record). AreSameButValues l (others path)) e.parts (same path)) e.ends e.once;
  nothing = λ path none. nothing_same (logs path) (others path) (same path) none;
  barriers = λ path. barriers_same (logs path) (others path) (same path);
})

pub values_keep_pairs : (logs others : Logs) → IsForkJoin logs → DifferInValues logs others → (pair : ℕ × ℕ) → IsRacePair logs pair ↔ IsRacePair others pair
values_keep_pairs logs others tree same pair = (
  no_pair_lost (IsAtPlace logs others) logs others tree (replaced logs others same) pair,
  no_pair_lost (IsAtPlace others logs) others logs (values_keep_run logs others tree same) (replaced others logs (λ path. all_back (logs path) (others path) (same path))) pair,
)

-- task by task
pub tasks_back : (tasks others : Trace) → TasksDifferInValues tasks others → TasksDifferInValues others tasks
tasks_back [] [] same = tt
tasks_back [] (u ∷ others) same = absurd same
tasks_back (t ∷ tasks) [] same = absurd same
tasks_back (t ∷ tasks) (u ∷ others) same = (sym same.0, all_back t.records u.records same.1, tasks_back tasks others same.2)

pub logs_differ : (tasks others : Trace) → TasksDifferInValues tasks others → DifferInValues (logs_of tasks) (logs_of others)
logs_differ tasks others same path = alike_logs AreSameButValues tasks others tt (alike tasks others same) path
  where
    alike : (tasks others : Trace) → TasksDifferInValues tasks others → AreAlike AreSameButValues tasks others
    alike [] [] same = tt
    alike [] (u ∷ others) same = absurd same
    alike (t ∷ tasks) [] same = absurd same
    alike (t ∷ tasks) (u ∷ others) same = (same.0, same.1, alike tasks others same.2)
