-- The log of a lawful task that ended breaks no rule.
use Rattle.std.proofs.Common.{◌≡◌, refl, ap, sym, ◌∙◌, subst, inl, inr, ℕ, zero, suc, ◌+◌, ◌<◌, arith, Bool, cond, List, [], ◌∷◌, ◌++◌, length, take, Option, Some, slice_get, All, length-append}
use Rattle.std.specs.List.{cons_option}
use Rattle.std.proofs.lemmas.List.{length-take-le}
use Rattle.std.proofs.lemmas.List.Sums.{sum_by-append, sum_by-cons}
use Rattle.std.proofs.lemmas.Option.{same_Some, none-some}
use Rattle.sw_base.specs.declared.path.Step.{Step}
use Rattle.log_format.specs.declared.record.Record.{Record}
use Rattle.log_format.specs.declared.record.Kind.{Kind}
use Rattle.log_format.specs.declared.record.Kind.TheVariants as kind
use Rattle.race_model.specs.declared.why.RecordWhy.{RecordWhy}
use Rattle.race_model.specs.declared.why.RecordWhy.TheVariants as log
use Rattle.race_model.specs.LogFault.{LogTask, Breaks}
use Rattle.race_model.specs.Race.{held_after, held_after_kind}
use Rattle.race_model.specs.Trace.{is_region_kind, is_barrier_kind, region_count, barrier_count}
use Rattle.kernel_syntax.specs.Program.{Program}
use Rattle.kernel_model.specs.State.{State, Fork, Outcome, Gives, Stops, Wants, after, put, put_in, event, state_of, reads_of, chunks_of}
use Rattle.kernel_model.specs.Trace.{run, task, Start, Ended, ending_of, site_of, state_at}
use Rattle.kernel_model.specs.Folder.{IsTraced, own_trace}
use Rattle.kernel_rules.proofs.LawfulRecords.{IsLawfulTeam, IsLawfulFork, FitsHeld, Keep, span_told, spans_of, spans_forked, Adds, Does, does_run}

-- ---- records and then an End

pub record IsLawfulLog (mutexes regions : ℕ) (records : List Record) (forks : List Fork) : Type 0 where
  pub prefix : List Record
  pub line : ℕ
  pub parts : records ≡ prefix ++ event kind.End line 0 0 ∷ []
  pub keep : Keep [] prefix []
  pub teams : All (IsLawfulFork mutexes regions) forks
  pub spans : spans_of prefix ≡ spans_forked forks

abbrev LogOf : ℕ → ℕ → Outcome (Unit {0}) → Type 0
LogOf mutexes regions m = ending_of m ≡ Ended → IsLawfulLog mutexes regions (state_of m).records (state_of m).forks

module _ (mutexes regions : ℕ) where
  end_in : (room line : ℕ) (s t : State) → s.records ≡ [] → s.forks ≡ [] → Adds (IsLawfulFork mutexes regions) [] [] s t →
      LogOf mutexes regions (put_in room (event kind.End line 0 0) t)
  end_in zero line s t empty none adds ended = cc
  end_in (suc room) line s t empty none adds ended =
      let forks : t.forks ≡ adds.regions = adds.forks_are ∙ ap (λ l. l ++ adds.regions) none in
      record {
        prefix = adds.added;
        line = line;
        parts = ap (λ l. l ++ event kind.End line 0 0 ∷ []) (adds.records_are ∙ ap (λ l. l ++ adds.added) empty);
        keep = adds.keep;
        teams = subst (All (IsLawfulFork mutexes regions)) (sym forks) adds.teams;
        spans = adds.spans ∙ ap spans_forked (sym forks);
      }

  ends : (line : ℕ) (s : State) (o : Outcome (Unit {0})) → s.records ≡ [] → s.forks ≡ [] → Does (IsLawfulFork mutexes regions) [] [] s o →
      LogOf mutexes regions (after o (put (event kind.End line 0 0)))
  unfolding put
  ends line s (Gives a t) empty none does ended = end_in t.room line s t empty none does ended
  ends line s (Stops why at t) empty none does ended = cc
  ends line s (Wants t) empty none does ended = cc

-- the trace of a lawful task
pub lawful_log : (program : Program) (start : Start) (records : List Record) (mutexes regions : ℕ) → IsLawfulTeam mutexes regions start.team →
    IsTraced program start records → IsLawfulLog mutexes (regions + 1) records (own_trace program start records).forks
unfolding task
lawful_log program start records mutexes regions lawful traced =
    let s = state_at start (reads_of records) (chunks_of records) in
    subst (λ (rs : List Record). IsLawfulLog mutexes (regions + 1) rs (own_trace program start records).forks) traced.records_are
    (ends mutexes (regions + 1) start.team.end s (run (site_of program start) start.team.body s) refl refl
    (does_run mutexes regions lawful.lanes (site_of program start) start.team.body [] s (λ is. refl) lawful.even lawful.nested lawful.bounded)
    traced.ended)

-- ---- a record of the log

abbrev number : Bool → ℕ
number b = cond b 1 0

keep_end : (held last : List ℕ) (xs : List Record) → Keep held xs last → held_after held xs ≡ last
keep_end held last [] keep = keep
keep_end held last (x ∷ xs) keep = keep_end (held_after_kind x.kind x.addr held) last xs keep.1

keep_at : (held last : List ℕ) (xs : List Record) (k : ℕ) (r : Record) → Keep held xs last → slice_get xs k ≡ Some r →
    FitsHeld r.kind r.addr (held_after held (take k xs))
keep_at held last [] k r keep found = absurd (none-some r found)
keep_at held last (x ∷ xs) zero r keep found = subst (λ (y : Record). FitsHeld y.kind y.addr held) (same_Some x r found) keep.0
keep_at held last (x ∷ xs) (suc k) r keep found = keep_at (held_after_kind x.kind x.addr held) last xs k r keep.1 found

-- the span of a Region
region_span : (k : Kind) (v : ℕ) (rest : List ℕ) → k ≡ kind.Region → slice_get (cons_option (span_told k v) rest) 0 ≡ Some v
region_span k v rest is = subst (λ (other : Kind). slice_get (cons_option (span_told other v) rest) 0 ≡ Some v) (sym is) refl

one_plus : (n : ℕ) → 1 + n ≡ suc n
one_plus n = omega arith

none_plus : (n : ℕ) → 0 + n ≡ n
none_plus n = omega arith

-- a record adds its span, if it has one
spans_cons : (k : Kind) (v n : ℕ) (rest : List ℕ) → slice_get (cons_option (span_told k v) rest) (number (is_region_kind k) + n) ≡ slice_get rest n
spans_cons kind.Region v n rest = ap (slice_get (v ∷ rest)) (one_plus n)
spans_cons kind.Read v n rest = ap (slice_get rest) (none_plus n)
spans_cons kind.Write v n rest = ap (slice_get rest) (none_plus n)
spans_cons kind.Lock v n rest = ap (slice_get rest) (none_plus n)
spans_cons kind.Unlock v n rest = ap (slice_get rest) (none_plus n)
spans_cons kind.Barrier v n rest = ap (slice_get rest) (none_plus n)
spans_cons kind.Chunk v n rest = ap (slice_get rest) (none_plus n)
spans_cons kind.Update v n rest = ap (slice_get rest) (none_plus n)
spans_cons kind.End v n rest = ap (slice_get rest) (none_plus n)

pub span_at : (xs : List Record) (k : ℕ) (r : Record) → slice_get xs k ≡ Some r → r.kind ≡ kind.Region →
    slice_get (spans_of xs) (region_count (take k xs)) ≡ Some r.value
span_at [] k r found is = absurd (none-some r found)
span_at (x ∷ xs) zero r found is =
    subst (λ (y : Record). slice_get (spans_of (y ∷ xs)) 0 ≡ Some r.value) (sym (same_Some x r found)) (region_span r.kind r.value (spans_of xs) is)
span_at (x ∷ xs) (suc k) r found is =
    ap (slice_get (spans_of (x ∷ xs))) (sum_by-cons (λ (y : Record). number (is_region_kind y.kind)) x (take k xs))
    ∙ spans_cons x.kind x.value (region_count (take k xs)) (spans_of xs)
    ∙ span_at xs k r found is

-- there are as many spans as Regions
one_span : (k : Kind) (v : ℕ) (rest : List ℕ) → length (cons_option (span_told k v) rest) ≡ number (is_region_kind k) + length rest
one_span kind.Region v rest = omega arith
one_span kind.Read v rest = omega arith
one_span kind.Write v rest = omega arith
one_span kind.Lock v rest = omega arith
one_span kind.Unlock v rest = omega arith
one_span kind.Barrier v rest = omega arith
one_span kind.Chunk v rest = omega arith
one_span kind.Update v rest = omega arith
one_span kind.End v rest = omega arith

pub spans_count : (xs : List Record) → length (spans_of xs) ≡ region_count xs
spans_count [] = refl
spans_count (x ∷ xs) =
    one_span x.kind x.value (spans_of xs)
    ∙ ap (λ n. number (is_region_kind x.kind) + n) (spans_count xs)
    ∙ sym (sum_by-cons (λ (y : Record). number (is_region_kind y.kind)) x xs)

-- a Barrier is counted
counted_at : (xs : List Record) (k : ℕ) (r : Record) → slice_get xs k ≡ Some r → r.kind ≡ kind.Barrier → 0 < barrier_count xs
counted_at [] k r found is = absurd (none-some r found)
counted_at (x ∷ xs) zero r found is =
    let one : number (is_barrier_kind x.kind) ≡ 1 = ap (λ (y : Record). number (is_barrier_kind y.kind)) (same_Some x r found) ∙ ap (λ (k : Kind). number (is_barrier_kind k)) is in
    omega (arith, one, sum_by-cons (λ (y : Record). number (is_barrier_kind y.kind)) x xs)
counted_at (x ∷ xs) (suc k) r found is =
    omega (arith, counted_at xs k r found is, sum_by-cons (λ (y : Record). number (is_barrier_kind y.kind)) x xs)

-- a record is the last, or one before it
data Place (prefix : List Record) (last : Record) (k : ℕ) (r : Record) : Type 0 where
  AtEnd : last ≡ r → take k (prefix ++ last ∷ []) ≡ prefix → Place prefix last k r
  Before : slice_get prefix k ≡ Some r → take k (prefix ++ last ∷ []) ≡ take k prefix → k < length prefix → Place prefix last k r

place_later : (x : Record) (prefix : List Record) (last : Record) (k : ℕ) (r : Record) → Place prefix last k r → Place (x ∷ prefix) last (suc k) r
place_later x prefix last k r (AtEnd is before) = AtEnd is (ap (λ l. x ∷ l) before)
place_later x prefix last k r (Before found before lt) = Before found (ap (λ l. x ∷ l) before) (omega arith)

place_of : (prefix : List Record) (last : Record) (k : ℕ) (r : Record) → slice_get (prefix ++ last ∷ []) k ≡ Some r → Place prefix last k r
place_of [] last zero r found = AtEnd (same_Some last r found) refl
place_of [] last (suc k) r found = absurd (none-some r found)
place_of (x ∷ prefix) last zero r found = Before found refl (omega arith)
place_of (x ∷ prefix) last (suc k) r found = place_later x prefix last k r (place_of prefix last k r found)

-- ---- no rule is broken

module _ (mutexes regions : ℕ) (records : List Record) (forks : List Fork) (is : IsLawfulLog mutexes regions records forks) (path : List Step)
    (due : Option ℕ) (meets : (barriers : ℕ) → due ≡ Some barriers → barrier_count records ≡ barriers) (root : path ≡ [] → barrier_count records ≡ 0) where
  abbrev last : Record
  last = event kind.End is.line 0 0

  abbrev of_task : LogTask
  of_task = record { path = path; records = length records; spans = spans_forked forks; due_barriers = due }

  size : length records ≡ length is.prefix + 1
  size = ap length is.parts ∙ length-append is.prefix (last ∷ [])

  -- the End is no barrier
  prefix_barriers : barrier_count is.prefix ≡ barrier_count records
  prefix_barriers =
      let sum : barrier_count (is.prefix ++ last ∷ []) ≡ barrier_count is.prefix + barrier_count (last ∷ []) =
      sum_by-append (λ (r : Record). number (is_barrier_kind r.kind)) is.prefix (last ∷ []) in
      let whole : barrier_count records ≡ barrier_count (is.prefix ++ last ∷ []) = ap (λ (rs : List Record). barrier_count rs) is.parts in
      omega (arith, sum, whole)

  -- the End
  end_keeps : (rule : RecordWhy) → Breaks of_task is.prefix last rule → ⊥
  end_keeps log.EndEarly b = let early = b.1 in omega (arith, size)
  end_keeps log.EndMissing b = b.0 refl
  end_keeps log.LockTwice b = let wrong = b.0 in cc
  end_keeps log.LocksDeep b = let wrong = b.0 in cc
  end_keeps log.UnlockOther b = let wrong = b.0 in cc
  end_keeps log.RootBarrier b = let wrong = b.0 in cc
  end_keeps log.BarrierLocked b = let wrong = b.0 in cc
  end_keeps log.RegionLocked b = let wrong = b.0 in cc
  end_keeps log.LockOpen b = b.1 (keep_end [] [] is.prefix is.keep)
  end_keeps log.RegionRows (inl b) = let wrong = b.0 in cc
  end_keeps log.RegionRows (inr b) =
      let fewer = b.1 in
      let spans : length (spans_of is.prefix) ≡ length (spans_forked forks) = ap length is.spans in
      omega (arith, spans_count is.prefix, spans)
  end_keeps log.BarrierCount b = b.1.2 (prefix_barriers ∙ meets b.1.0 b.1.1)
  end_keeps _ b = b

  -- a record before it
  module _ (k : ℕ) (r : Record) (found : slice_get is.prefix k ≡ Some r) (lt : k < length is.prefix) where
    fits_as : (other : Kind) → r.kind ≡ other → FitsHeld other r.addr (held_after [] (take k is.prefix))
    fits_as other same = subst (λ (x : Kind). FitsHeld x r.addr (held_after [] (take k is.prefix))) same (keep_at [] [] is.prefix k r is.keep found)

    before_keeps : (rule : RecordWhy) → Breaks of_task (take k is.prefix) r rule → ⊥
    before_keeps log.EndEarly b = fits_as kind.End b.0
    before_keeps log.EndMissing b =
        let whole = b.1 in
        let count : length (take k is.prefix) ≡ k = length-take-le k is.prefix (omega arith) in
        omega (arith, size)
    before_keeps log.LockTwice b = (fits_as kind.Lock b.0).0 b.1
    before_keeps log.LocksDeep b = let few = (fits_as kind.Lock b.0).1 in let many = b.1 in omega arith
    before_keeps log.UnlockOther b = let inner = fits_as kind.Unlock b.0 in b.1 inner.0 inner.1
    before_keeps log.RootBarrier b =
        let some = counted_at is.prefix k r found b.0 in
        let none = root b.1 in
        omega (arith, prefix_barriers)
    before_keeps log.BarrierLocked b = b.1 (fits_as kind.Barrier b.0)
    before_keeps log.RegionLocked b = b.1 (fits_as kind.Region b.0)
    before_keeps log.LockOpen b = fits_as kind.End b.0
    before_keeps log.RegionRows (inl b) =
        b.1 (ap (λ (ss : List ℕ). slice_get ss (region_count (take k is.prefix))) (sym is.spans) ∙ span_at is.prefix k r found b.0)
    before_keeps log.RegionRows (inr b) = fits_as kind.End b.0
    before_keeps log.BarrierCount b = fits_as kind.End b.0
    before_keeps _ b = b

  keeps_at : (k : ℕ) (r : Record) → Place is.prefix last k r → (rule : RecordWhy) → Breaks of_task (take k (is.prefix ++ last ∷ [])) r rule → ⊥
  keeps_at k r (AtEnd same before) rule =
      subst (λ (rs : List Record). Breaks of_task rs r rule → ⊥) (sym before) (subst (λ (x : Record). Breaks of_task is.prefix x rule → ⊥) same (end_keeps rule))
  keeps_at k r (Before found before lt) rule =
      subst (λ (rs : List Record). Breaks of_task rs r rule → ⊥) (sym before) (before_keeps k r found lt rule)

  -- No record of the log breaks a rule.
  pub log_keeps : (k : ℕ) (r : Record) → slice_get records k ≡ Some r → (rule : RecordWhy) → Breaks of_task (take k records) r rule → ⊥
  log_keeps k r found rule =
      subst (λ (rs : List Record). Breaks of_task (take k rs) r rule → ⊥) (sym is.parts)
      (keeps_at k r (place_of is.prefix last k r (subst (λ (rs : List Record). slice_get rs k ≡ Some r) is.parts found)) rule)
