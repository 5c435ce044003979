-- The regions of a log, by their numbers: where they stand in the log and where in the list of its forks.
use Rattle.std.proofs.Common.{◌≡◌, ℕ, zero, suc, ◌+◌, Bool, true, false, cond, List, [], ◌∷◌, take, Some, refl, sym, ap, subst, arith, ◌∙◌}
use Rattle.std.specs.Prelude.{slice_get}
use Rattle.std.proofs.lemmas.List.Sums.{sum_by-cons}
use Rattle.log_format.specs.declared.record.Record.{Record}
use Rattle.log_format.specs.declared.record.Kind.{Kind}
use Rattle.log_format.specs.declared.record.Kind.TheVariants.{Region}
use Rattle.race_model.specs.Trace.{is_region_kind, is_barrier_kind, region_count, barrier_count}
use Rattle.race_laws.proofs.Counts.{region_from_true}
use Rattle.writer_laws.specs.Places.{ForkPlace, forks_from}

pub region_step : (r : Record) (records : List Record) → region_count (r ∷ records) ≡ cond (is_region_kind r.kind) 1 0 + region_count records
region_step r records = sum_by-cons (λ (s : Record). cond (is_region_kind s.kind) 1 0) r records

pub barrier_step : (r : Record) (records : List Record) → barrier_count (r ∷ records) ≡ cond (is_barrier_kind r.kind) 1 0 + barrier_count records
barrier_step r records = sum_by-cons (λ (s : Record). cond (is_barrier_kind s.kind) 1 0) r records

region_is_true : (k : Kind) → k ≡ Region → is_region_kind k ≡ true
region_is_true k e = rw e refl

-- an element behind one that may be there
behind : {X : Type 0} (p : Bool) (x : X) (rest : List X) (n m : ℕ) → m ≡ cond p 1 0 + n → slice_get (cond p (x ∷ rest) rest) m ≡ slice_get rest n
behind true x rest n m e =
    let more : suc n ≡ m = omega arith in
    subst (λ (k : ℕ). slice_get (x ∷ rest) k ≡ slice_get rest n) more refl
behind false x rest n m e =
    let same : n ≡ m = omega arith in
    subst (λ (k : ℕ). slice_get rest k ≡ slice_get rest n) same refl

abbrev fork : ℕ → ℕ → ForkPlace
fork span barriers = record { span = span; barriers = barriers }

-- a Region record is a fork of the log
pub fork_listed : (b : ℕ) (records : List Record) (i : ℕ) (r : Record) → slice_get records i ≡ Some r → r.kind ≡ Region
    → slice_get (forks_from b records) (region_count (take i records)) ≡ Some (record { span = r.value; barriers = b + barrier_count (take i records) })
fork_listed b [] i r found region = cc
fork_listed b (s ∷ records) zero r found region = first (is_region_kind s.kind) is_true
  where
    same : s ≡ r
    same = cc

    is_true : is_region_kind s.kind ≡ true
    is_true = region_is_true s.kind (ap (λ (t : Record). t.kind) same ∙ region)

    first : (p : Bool) → p ≡ true → slice_get (cond p (fork s.value b ∷ forks_from (b + cond (is_barrier_kind s.kind) 1 0) records) (forks_from (b + cond (is_barrier_kind s.kind) 1 0) records)) 0 ≡ Some (fork r.value (b + 0))
    first true e = let none : b ≡ b + 0 = omega arith in ap Some (ap (λ (t : Record). fork t.value b) same ∙ ap (λ (n : ℕ). fork r.value n) none)
    first false e = cc
fork_listed b (s ∷ records) (suc i) r found region =
    behind (is_region_kind s.kind) (fork s.value b) (forks_from (b + cond (is_barrier_kind s.kind) 1 0) records) (region_count (take i records)) (region_count (s ∷ take i records)) (region_step s (take i records))
    ∙ (fork_listed (b + cond (is_barrier_kind s.kind) 1 0) records i r found region
    ∙ ap (λ (n : ℕ). Some (fork r.value n)) (let step = barrier_step s (take i records) in omega arith))

-- the Region record of a fork
pub record HasFork (b : ℕ) (records : List Record) (number : ℕ) (f : ForkPlace) : Type 0 where
  pub index : ℕ
  pub event : Record
  pub found : slice_get records index ≡ Some event
  pub region : event.kind ≡ Region
  pub spans : event.value ≡ f.span
  pub number_is : region_count (take index records) ≡ number
  pub barriers_are : b + barrier_count (take index records) ≡ f.barriers

one_later : (b : ℕ) (s : Record) (records : List Record) (k n : ℕ) (f : ForkPlace) → n ≡ cond (is_region_kind s.kind) 1 0 + k
    → HasFork (b + cond (is_barrier_kind s.kind) 1 0) records k f → HasFork b (s ∷ records) n f
one_later b s records k n f e h = record {
  index = suc h.index;
  event = h.event;
  found = h.found;
  region = h.region;
  spans = h.spans;
  number_is = region_step s (take h.index records) ∙ (ap (λ (m : ℕ). cond (is_region_kind s.kind) 1 0 + m) h.number_is ∙ sym e);
  barriers_are = let step = barrier_step s (take h.index records) in let are = h.barriers_are in omega arith;
}

pub find_fork : (b : ℕ) (records : List Record) (k : ℕ) (f : ForkPlace) → slice_get (forks_from b records) k ≡ Some f → HasFork b records k f
find_fork b [] k f found = cc
find_fork b (s ∷ records) k f found = at (is_region_kind s.kind) refl k found (find_fork (b + cond (is_barrier_kind s.kind) 1 0) records)
  where
    rest : List ForkPlace
    rest = forks_from (b + cond (is_barrier_kind s.kind) 1 0) records

    at : (p : Bool) → is_region_kind s.kind ≡ p → (n : ℕ)
        → slice_get (cond p (fork s.value b ∷ forks_from (b + cond (is_barrier_kind s.kind) 1 0) records) (forks_from (b + cond (is_barrier_kind s.kind) 1 0) records)) n ≡ Some f
        → ((m : ℕ) (g : ForkPlace) → slice_get (forks_from (b + cond (is_barrier_kind s.kind) 1 0) records) m ≡ Some g → HasFork (b + cond (is_barrier_kind s.kind) 1 0) records m g)
        → HasFork b (s ∷ records) n f
    at true is zero here more =
        let same : fork s.value b ≡ f = cc in
        record {
          index = 0;
          event = s;
          found = refl;
          region = region_from_true s.kind is;
          spans = ap (λ (g : ForkPlace). g.span) same;
          number_is = refl;
          barriers_are = (let none : b + 0 ≡ b = omega arith in none) ∙ ap (λ (g : ForkPlace). g.barriers) same;
        }
    at true is (suc n) here more =
        let one : cond {A = ℕ} (is_region_kind s.kind) 1 0 ≡ 1 = rw is refl in
        one_later b s records n (suc n) f (omega arith) (more n f here)
    at false is n here more =
        let none : cond {A = ℕ} (is_region_kind s.kind) 1 0 ≡ 0 = rw is refl in
        one_later b s records n n f (omega arith) (more n f here)
