-- Runs whose records are guarded alike have the same race pairs.
use Rattle.std.proofs.Common.{◌≡◌, ◌↔◌, ℕ, zero, suc, ◌+◌, ◌<◌, Bool, true, false, cond, List, [], ◌∷◌, length, take, Some, refl, sym, ap, subst, arith, ◌∙◌, inl, inr}
use Rattle.std.specs.Prelude.{slice_get, Contains}
use Rattle.std.proofs.lemmas.Option.{slice_get_within}
use Rattle.sw_base.specs.declared.path.Step.{Step}
use Rattle.sw_base.proofs.Lists.{get_right}
use Rattle.log_format.specs.declared.record.Record.{Record}
use Rattle.log_format.specs.declared.record.Kind.{Kind}
use Rattle.log_format.specs.declared.record.Kind.TheVariants.{Read, Write, Lock, Unlock, Barrier, Region, Chunk, End, Update}
use Rattle.race_model.specs.Trace.{Logs, Node, record_at, is_region_kind, is_barrier_kind, barrier_count}
use Rattle.race_model.specs.Race.{IsAccess, IsRacePair, held_after, held_after_kind}
use Rattle.race_model.specs.ForkJoin.{IsForkJoin, IsTask, EndsOnce}
use Rattle.writer_laws.specs.Places.{ForkPlace, forks_from, with_fork, ForkAlike, IsAtPlace}
use Rattle.writer_laws.specs.StandIns.{HasStandIn, IsReplaced}
use Rattle.writer_laws.specs.Guards.{Guarded, is_mutex_kind, guarded, guarded_from, AreGuardedAlike, DifferInLocks}
use Rattle.writer_laws.proofs.Forks.{barrier_step}
use Rattle.writer_laws.proofs.Unordered.{places_carry}
use Rattle.writer_laws.proofs.Replaced.{no_pair_lost}
use Rattle.writer_laws.proofs.KeptRun.{ends_alike}

access_no_mutex : (r : Record) → IsAccess r → is_mutex_kind r.kind ≡ false
access_no_mutex r (inl read) = rw read refl
access_no_mutex r (inr (inl write)) = rw write refl
access_no_mutex r (inr (inr update)) = rw update refl

end_no_mutex : (r : Record) → r.kind ≡ End → is_mutex_kind r.kind ≡ false
end_no_mutex r ends = rw ends refl

-- a mutex's record is neither Region nor Barrier
record IsPassedOver (k : Kind) : Type 0 where
  no_region : is_region_kind k ≡ false
  no_barrier : is_barrier_kind k ≡ false

passed_over : (k : Kind) → is_mutex_kind k ≡ true → IsPassedOver k
passed_over Lock is = record { no_region = refl; no_barrier = refl }
passed_over Unlock is = record { no_region = refl; no_barrier = refl }
passed_over Read is = cc
passed_over Write is = cc
passed_over Barrier is = cc
passed_over Region is = cc
passed_over Chunk is = cc
passed_over End is = cc
passed_over Update is = cc

abbrev guard : Record → List ℕ → Guarded
guard r held = record { event = r; held = held }

abbrev barriers_of : List Guarded → ℕ
barriers_of [] = 0
barriers_of (g ∷ guards) = cond (is_barrier_kind g.event.kind) 1 0 + barriers_of guards

abbrev forks_of : ℕ → List Guarded → List ForkPlace
forks_of b [] = []
forks_of b (g ∷ guards) = with_fork g.event b (forks_of (b + cond (is_barrier_kind g.event.kind) 1 0) guards)

-- a list with a mutex's record, and one with another record
mutex_here : (held : List ℕ) (s : Record) (records : List Record) → is_mutex_kind s.kind ≡ true → guarded_from held (s ∷ records) ≡ guarded_from (held_after_kind s.kind s.addr held) records
mutex_here held s records is = rw is refl

other_here : (held : List ℕ) (s : Record) (records : List Record) → is_mutex_kind s.kind ≡ false → guarded_from held (s ∷ records) ≡ guard s held ∷ guarded_from (held_after_kind s.kind s.addr held) records
other_here held s records is = rw is refl

-- the record at a place of a log, in the list
record IsListed (held : List ℕ) (records : List Record) (i : ℕ) (r : Record) (guards : List Guarded) : Type 0 where
  number : ℕ
  found : slice_get guards number ≡ Some (guard r (held_after held (take i records)))
  as_many : barrier_count (take i records) ≡ barriers_of (take number guards)

listed : (held : List ℕ) (records : List Record) (i : ℕ) (r : Record) → slice_get records i ≡ Some r → is_mutex_kind r.kind ≡ false → IsListed held records i r (guarded_from held records)
listed held [] i r found other = cc
listed held (s ∷ records) zero r found other =
    let same : s ≡ r = cc in
    subst (IsListed held (s ∷ records) 0 r) (sym (other_here held s records (ap (λ (t : Record). is_mutex_kind t.kind) same ∙ other)))
    (record { number = 0; found = ap (λ (t : Record). Some (guard t held)) same; as_many = refl })
listed held (s ∷ records) (suc i) r found other = at (is_mutex_kind s.kind) refl (listed (held_after_kind s.kind s.addr held) records i r found other)
  where
    at : (p : Bool) → is_mutex_kind s.kind ≡ p → IsListed (held_after_kind s.kind s.addr held) records i r (guarded_from (held_after_kind s.kind s.addr held) records)
        → IsListed held (s ∷ records) (suc i) r (guarded_from held (s ∷ records))
    at true is l =
        let none : cond {A = ℕ} (is_barrier_kind s.kind) 1 0 ≡ 0 = (let idle = passed_over s.kind is in rw idle.no_barrier refl) in
        subst (IsListed held (s ∷ records) (suc i) r) (sym (mutex_here held s records is))
        (record { number = l.number; found = l.found; as_many = (let step = barrier_step s (take i records) in let many = l.as_many in omega arith) })
    at false is l =
        subst (IsListed held (s ∷ records) (suc i) r) (sym (other_here held s records is))
        (record { number = suc l.number; found = l.found; as_many = barrier_step s (take i records) ∙ ap (λ (n : ℕ). cond (is_barrier_kind s.kind) 1 0 + n) l.as_many })

-- the record of the list at a number, in its log
record HasRecord (held : List ℕ) (records : List Record) (guards : List Guarded) (k : ℕ) (g : Guarded) : Type 0 where
  index : ℕ
  found : slice_get records index ≡ Some g.event
  as_many : barrier_count (take index records) ≡ barriers_of (take k guards)
  same_held : held_after held (take index records) ≡ g.held

recorded : (held : List ℕ) (records : List Record) (k : ℕ) (g : Guarded) → slice_get (guarded_from held records) k ≡ Some g → HasRecord held records (guarded_from held records) k g
recorded held [] k g found = cc
recorded held (s ∷ records) k g found = at (is_mutex_kind s.kind) refl (recorded (held_after_kind s.kind s.addr held) records)
  where
    here : (j : ℕ) → slice_get (guard s held ∷ guarded_from (held_after_kind s.kind s.addr held) records) j ≡ Some g
        → ((m : ℕ) (f : Guarded) → slice_get (guarded_from (held_after_kind s.kind s.addr held) records) m ≡ Some f
        → HasRecord (held_after_kind s.kind s.addr held) records (guarded_from (held_after_kind s.kind s.addr held) records) m f)
        → HasRecord held (s ∷ records) (guard s held ∷ guarded_from (held_after_kind s.kind s.addr held) records) j g
    here zero has more =
        let same : guard s held ≡ g = cc in
        record { index = 0; found = ap (λ (f : Guarded). Some f.event) same; as_many = refl; same_held = ap (λ (f : Guarded). f.held) same }
    here (suc n) has more =
        let h = more n g has in
        record {
          index = suc h.index;
          found = h.found;
          as_many = barrier_step s (take h.index records) ∙ ap (λ (m : ℕ). cond (is_barrier_kind s.kind) 1 0 + m) h.as_many;
          same_held = h.same_held;
        }

    at : (p : Bool) → is_mutex_kind s.kind ≡ p
        → ((m : ℕ) (f : Guarded) → slice_get (guarded_from (held_after_kind s.kind s.addr held) records) m ≡ Some f
        → HasRecord (held_after_kind s.kind s.addr held) records (guarded_from (held_after_kind s.kind s.addr held) records) m f)
        → HasRecord held (s ∷ records) (guarded_from held (s ∷ records)) k g
    at true is more =
        let none : cond {A = ℕ} (is_barrier_kind s.kind) 1 0 ≡ 0 = (let idle = passed_over s.kind is in rw idle.no_barrier refl) in
        let h = more k g (subst (λ (gs : List Guarded). slice_get gs k ≡ Some g) (mutex_here held s records is) found) in
        subst (λ (gs : List Guarded). HasRecord held (s ∷ records) gs k g) (sym (mutex_here held s records is))
        (record {
          index = suc h.index;
          found = h.found;
          as_many = (let step = barrier_step s (take h.index records) in let many = h.as_many in omega arith);
          same_held = h.same_held;
        })
    at false is more =
        subst (λ (gs : List Guarded). HasRecord held (s ∷ records) gs k g) (sym (other_here held s records is))
        (here k (subst (λ (gs : List Guarded). slice_get gs k ≡ Some g) (other_here held s records is) found) more)

-- what is at the same number in the other list
record IsAlikeAt (guards others : List Guarded) (k : ℕ) (g : Guarded) : Type 0 where
  other : Guarded
  found : slice_get others k ≡ Some other
  same_event : g.event ≡ other.event
  mutexes : IsAccess g.event → (m : ℕ) → Contains other.held m → Contains g.held m
  as_many : barriers_of (take k guards) ≡ barriers_of (take k others)

alike_at : (guards others : List Guarded) → AreGuardedAlike guards others → (k : ℕ) (g : Guarded) → slice_get guards k ≡ Some g → IsAlikeAt guards others k g
alike_at [] [] same k g found = cc
alike_at [] (h ∷ others) same k g found = absurd same
alike_at (f ∷ guards) [] same k g found = absurd same
alike_at (f ∷ guards) (h ∷ others) same zero g found =
    let is : f ≡ g = cc in
    subst (IsAlikeAt (f ∷ guards) (h ∷ others) 0) is
    (record { other = h; found = refl; same_event = same.0; mutexes = λ access m. (same.1 access m).1; as_many = refl })
alike_at (f ∷ guards) (h ∷ others) same (suc k) g found =
    let r = alike_at guards others same.2 k g found in
    record {
      other = r.other;
      found = r.found;
      same_event = r.same_event;
      mutexes = r.mutexes;
      as_many = (λ i. cond (is_barrier_kind ((same.0 i).kind)) 1 0 + r.as_many i);
    }

guards_back : (guards others : List Guarded) → AreGuardedAlike guards others → AreGuardedAlike others guards
guards_back [] [] same = tt
guards_back [] (h ∷ others) same = absurd same
guards_back (g ∷ guards) [] same = absurd same
guards_back (g ∷ guards) (h ∷ others) same =
    (sym same.0, (λ access m. (let both = same.1 (subst IsAccess (sym same.0) access) m in (both.1, both.0))), guards_back guards others same.2)

-- the forks and barriers of a log are those of the list
forks_listed : (b : ℕ) (held : List ℕ) (records : List Record) → forks_from b records ≡ forks_of b (guarded_from held records)
forks_listed b held [] = refl
forks_listed b held (s ∷ records) = at (is_mutex_kind s.kind) refl (λ n. forks_listed n (held_after_kind s.kind s.addr held) records)
  where
    at : (p : Bool) → is_mutex_kind s.kind ≡ p → ((n : ℕ) → forks_from n records ≡ forks_of n (guarded_from (held_after_kind s.kind s.addr held) records))
        → forks_from b (s ∷ records) ≡ forks_of b (guarded_from held (s ∷ records))
    at true is more =
        let idle = passed_over s.kind is in
        let none : b + cond {A = ℕ} (is_barrier_kind s.kind) 1 0 ≡ b = rw idle.no_barrier (omega arith) in
        let skip : forks_from b (s ∷ records) ≡ forks_from (b + cond (is_barrier_kind s.kind) 1 0) records = rw idle.no_region refl in
        skip ∙ (ap (λ (n : ℕ). forks_from n records) none ∙ (more b ∙ ap (forks_of b) (sym (mutex_here held s records is))))
    at false is more =
        ap (λ (fs : List ForkPlace). with_fork s b fs) (more (b + cond (is_barrier_kind s.kind) 1 0)) ∙ ap (forks_of b) (sym (other_here held s records is))

forks_alike : (b : ℕ) (guards others : List Guarded) → AreGuardedAlike guards others → forks_of b guards ≡ forks_of b others
forks_alike b [] [] same = refl
forks_alike b [] (h ∷ others) same = absurd same
forks_alike b (g ∷ guards) [] same = absurd same
forks_alike b (g ∷ guards) (h ∷ others) same =
    ap (λ (fs : List ForkPlace). with_fork g.event b fs) (forks_alike (b + cond (is_barrier_kind g.event.kind) 1 0) guards others same.2)
    ∙ ap (λ (r : Record). with_fork r b (forks_of (b + cond (is_barrier_kind r.kind) 1 0) others)) same.0

barriers_listed : (held : List ℕ) (records : List Record) → barrier_count records ≡ barriers_of (guarded_from held records)
barriers_listed held [] = refl
barriers_listed held (s ∷ records) = at (is_mutex_kind s.kind) refl (barriers_listed (held_after_kind s.kind s.addr held) records)
  where
    at : (p : Bool) → is_mutex_kind s.kind ≡ p → barrier_count records ≡ barriers_of (guarded_from (held_after_kind s.kind s.addr held) records)
        → barrier_count (s ∷ records) ≡ barriers_of (guarded_from held (s ∷ records))
    at true is same =
        let none : cond {A = ℕ} (is_barrier_kind s.kind) 1 0 ≡ 0 = (let idle = passed_over s.kind is in rw idle.no_barrier refl) in
        let step = barrier_step s records in
        (let count : barrier_count (s ∷ records) ≡ barrier_count records = omega arith in count) ∙ (same ∙ ap barriers_of (sym (mutex_here held s records is)))
    at false is same = barrier_step s records ∙ (ap (λ (n : ℕ). cond (is_barrier_kind s.kind) 1 0 + n) same ∙ ap barriers_of (sym (other_here held s records is)))

barriers_alike : (guards others : List Guarded) → AreGuardedAlike guards others → barriers_of guards ≡ barriers_of others
barriers_alike [] [] same = refl
barriers_alike [] (h ∷ others) same = absurd same
barriers_alike (g ∷ guards) [] same = absurd same
barriers_alike (g ∷ guards) (h ∷ others) same = λ i. cond (is_barrier_kind ((same.0 i).kind)) 1 0 + barriers_alike guards others same.2 i

-- a record of the one log is in the other, at the same place and guarded alike
record Answer (records others : List Record) (i : ℕ) (r : Record) : Type 0 where
  index : ℕ
  found : slice_get others index ≡ Some r
  as_many : barrier_count (take i records) ≡ barrier_count (take index others)
  mutexes : IsAccess r → (m : ℕ) → Contains (held_after [] (take index others)) m → Contains (held_after [] (take i records)) m

answer : (records others : List Record) → AreGuardedAlike (guarded records) (guarded others) → (i : ℕ) (r : Record) → slice_get records i ≡ Some r → is_mutex_kind r.kind ≡ false → Answer records others i r
answer records others same i r found other =
    let l = listed [] records i r found other in
    let a = alike_at (guarded records) (guarded others) same l.number (guard r (held_after [] (take i records))) l.found in
    let h = recorded [] others l.number a.other a.found in
    record {
      index = h.index;
      found = h.found ∙ ap Some (sym a.same_event);
      as_many = l.as_many ∙ (a.as_many ∙ sym h.as_many);
      mutexes = λ access m held. a.mutexes access m (subst (λ (ms : List ℕ). Contains ms m) h.same_held held);
    }

-- a log that ends has its End in the other
end_too : (records others : List Record) → AreGuardedAlike (guarded records) (guarded others) → EndsOnce records → 0 < length others
end_too records others same e =
    let at_end : slice_get records (length e.prefix + 0) ≡ Some e.last = subst (λ (l : List Record). slice_get l (length e.prefix + 0) ≡ Some e.last) (sym e.parts) (get_right e.prefix (e.last ∷ []) 0) in
    let a = answer records others same (length e.prefix + 0) e.last at_end (end_no_mutex e.last e.ends) in
    let within = slice_get_within others a.index e.last a.found in
    omega arith

forks_too : (logs others : Logs) → DifferInLocks logs others → ForkAlike logs others
forks_too logs others same path =
    forks_listed 0 [] (logs path) ∙ (forks_alike 0 (guarded (logs path)) (guarded (others path)) (same.guards path) ∙ sym (forks_listed 0 [] (others path)))

pub locks_keep_run : (logs others : Logs) → IsForkJoin logs → DifferInLocks logs others → IsForkJoin others
locks_keep_run logs others tree same = ends_alike logs others tree (forks_too logs others same) (record {
  ends = λ path e. same.ended path (end_too (logs path) (others path) (same.guards path) e);
  nothing = λ path none. empty path none (others path) refl;
  barriers = λ path. barriers_listed [] (logs path) ∙ (barriers_alike (guarded (logs path)) (guarded (others path)) (same.guards path) ∙ sym (barriers_listed [] (others path)));
})
  where
    empty : (path : List Step) → logs path ≡ [] → (records : List Record) → others path ≡ records → others path ≡ []
    empty path none [] is = is
    empty path none (r ∷ records) is =
        let some : IsTask others path = (let long : length (others path) ≡ length (r ∷ records) = ap length is in omega arith) in
        let less = end_too (others path) (logs path) (guards_back (guarded (logs path)) (guarded (others path)) (same.guards path)) (same.ended path some) in
        let no : length (logs path) ≡ 0 = ap length none in
        absurd (omega arith)

replaced : (logs others : Logs) → ForkAlike logs others → ((path : List Step) → AreGuardedAlike (guarded (logs path)) (guarded (others path))) → IsReplaced (IsAtPlace logs others) logs others
replaced logs others alike same = record { carries = places_carry logs others alike; stand_ins = λ x y r found access y_there unordered. at x r found access }
  where
    at : (x : Node) (r : Record) → record_at logs x ≡ Some r → IsAccess r → HasStandIn (IsAtPlace logs others) logs others x r
    at x r found access =
        let a = answer (logs x.path) (others x.path) (same x.path) x.index r found (access_no_mutex r access) in
        record {
          place = record { path = x.path; index = a.index };
          event = r;
          found = a.found;
          answers = record { same_task = refl; as_many = a.as_many };
          covers = record { same_line = refl; bytes = λ byte has. has; kind = inl refl };
          mutexes = a.mutexes access;
        }

pub locks_keep_pairs : (logs others : Logs) → IsForkJoin logs → DifferInLocks logs others → (pair : ℕ × ℕ) → IsRacePair logs pair ↔ IsRacePair others pair
locks_keep_pairs logs others tree same pair = (
  no_pair_lost (IsAtPlace logs others) logs others tree (replaced logs others (forks_too logs others same) same.guards) pair,
  no_pair_lost (IsAtPlace others logs) others logs (locks_keep_run logs others tree same)
      (replaced others logs (λ path. sym (forks_too logs others same path)) (λ path. guards_back (guarded (logs path)) (guarded (others path)) (same.guards path))) pair,
)
