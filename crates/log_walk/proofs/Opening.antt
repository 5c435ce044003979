-- The segments of a log's records, counted as they are read.
use Rattle.std.proofs.Common.{◌≡◌, ℕ, zero, suc, ◌+◌, ◌≤◌, Bool, true, false, cond, ◌||◌, List, [], ◌∷◌, ◌++◌, length, take, refl, sym, ap, ◌∙◌, arith, append_assoc, append-nil}
use Rattle.std.specs.Prelude.{filter}
use Rattle.log_format.specs.declared.record.Record.{Record}
use Rattle.log_format.specs.declared.record.Kind.{Kind}
use Rattle.log_format.specs.declared.record.Kind.TheVariants.{Read, Write, Lock, Unlock, Barrier, Region, Chunk, End, Update}
use Rattle.race_model.specs.Race.{held_after_kind}
use Rattle.race_model.specs.Segment.{Event, events_from, runs_of, with_event, in_first, has_access, is_access, is_access_event, segment_count}
use Rattle.log_segment.specs.Walking.{open_after}
use Rattle.log_walk.specs.Check.{opens_by, is_open_after}

-- how many segments the records open, where one is open before them or not
abbrev pub opened_by : Bool → List Record → ℕ
opened_by open_before [] = 0
opened_by open_before (r ∷ records) = opens_by r.kind open_before + opened_by (open_after r.kind open_before) records

-- one record more
pub opened_by-push : (open_before : Bool) (records : List Record) (r : Record)
    → opened_by open_before (records ++ r ∷ []) ≡ opened_by open_before records + opens_by r.kind (is_open_after open_before records)
opened_by-push open_before [] r = omega arith
opened_by-push open_before (s ∷ records) r =
    omega (arith, opened_by-push (open_after s.kind open_before) records r)

pub is_open-push : (open_before : Bool) (records : List Record) (r : Record)
    → is_open_after open_before (records ++ r ∷ []) ≡ open_after r.kind (is_open_after open_before records)
is_open-push open_before [] r = refl
is_open-push open_before (s ∷ records) r = is_open-push (open_after s.kind open_before) records r

-- a prefix opens no more
pub opened_by-take : (open_before : Bool) (records : List Record) (n : ℕ) → opened_by open_before (take n records) ≤ opened_by open_before records
opened_by-take open_before records zero = omega arith
opened_by-take open_before [] (suc n) = omega arith
opened_by-take open_before (r ∷ records) (suc n) = omega (arith, opened_by-take (open_after r.kind open_before) records n)

-- the first run with these events before it
abbrev with_prefix : List Event → List (List Event) → List (List Event)
with_prefix prefix [] = prefix ∷ []
with_prefix prefix (run ∷ runs) = (prefix ++ run) ∷ runs

with_prefix-nil : (es : List Event) → with_prefix [] (runs_of es) ≡ runs_of es
with_prefix-nil [] = refl
with_prefix-nil (e ∷ es) = at e.event.kind (runs_of es) where
  at : (kind : Kind) (runs : List (List Event)) → with_prefix [] (with_event kind e runs) ≡ with_event kind e runs
  at Region runs = refl
  at Barrier runs = refl
  at Read [] = refl
  at Read (run ∷ runs) = refl
  at Write [] = refl
  at Write (run ∷ runs) = refl
  at Lock [] = refl
  at Lock (run ∷ runs) = refl
  at Unlock [] = refl
  at Unlock (run ∷ runs) = refl
  at Chunk [] = refl
  at Chunk (run ∷ runs) = refl
  at End [] = refl
  at End (run ∷ runs) = refl
  at Update [] = refl
  at Update (run ∷ runs) = refl

with_prefix-in_first : (prefix : List Event) (e : Event) (runs : List (List Event)) → with_prefix prefix (in_first e runs) ≡ with_prefix (prefix ++ e ∷ []) runs
with_prefix-in_first prefix e [] = refl
with_prefix-in_first prefix e (run ∷ runs) = ap (λ (es : List Event). es ∷ runs) (sym (append_assoc prefix (e ∷ []) run))

has_access-append : (xs ys : List Event) → has_access (xs ++ ys) ≡ has_access xs || has_access ys
has_access-append [] ys = refl
has_access-append (x ∷ xs) ys = ap (λ (b : Bool). is_access_event x || b) (has_access-append xs ys) ∙ at (is_access_event x) (has_access xs) (has_access ys) where
  at : (a b c : Bool) → a || (b || c) ≡ (a || b) || c
  at true b c = refl
  at false b c = refl

abbrev count : List (List Event) → ℕ
count runs = length (filter has_access runs)

count-cons : (run : List Event) (runs : List (List Event)) → count (run ∷ runs) ≡ cond (has_access run) 1 0 + count runs
count-cons run runs = at (has_access run) where
  at : (b : Bool) → length (cond b (run ∷ filter has_access runs) (filter has_access runs)) ≡ cond b 1 0 + length (filter has_access runs)
  at true = omega arith
  at false = omega arith

-- what one record that parts nothing does to the count
goes_on : (k : Kind) (b : Bool) (records : List Record) (x : ℕ) → ((c : Bool) → b || (is_access k || false) ≡ c → x ≡ cond c 1 0 + opened_by c records)
    → ((k ≡ Region) → ⊥) → ((k ≡ Barrier) → ⊥) → x ≡ cond b 1 0 + (opens_by k b + opened_by (open_after k b) records)
goes_on Read true records x h _ _ = omega (arith, h true refl)
goes_on Read false records x h _ _ = omega (arith, h true refl)
goes_on Write true records x h _ _ = omega (arith, h true refl)
goes_on Write false records x h _ _ = omega (arith, h true refl)
goes_on Update true records x h _ _ = omega (arith, h true refl)
goes_on Update false records x h _ _ = omega (arith, h true refl)
goes_on Region b records x h differs _ = absurd (differs refl)
goes_on Barrier b records x h _ differs = absurd (differs refl)
goes_on _ true records x h _ _ = omega (arith, h true refl)
goes_on _ false records x h _ _ = omega (arith, h false refl)

-- what is said below of the records after one
abbrev Counts : ℕ → List ℕ → List Record → Type 0
Counts n held records = (prefix : List Event) → count (with_prefix prefix (runs_of (events_from n held records))) ≡ cond (has_access prefix) 1 0 + opened_by (has_access prefix) records

parts_runs : (prefix : List Event) (n : ℕ) (held : List ℕ) (records : List Record) → Counts n held records
    → count ((prefix ++ []) ∷ runs_of (events_from n held records)) ≡ cond (has_access prefix) 1 0 + (0 + opened_by false records)
parts_runs prefix n held records rest =
    count-cons (prefix ++ []) (runs_of (events_from n held records))
    ∙ ap (λ (xs : List Event). cond {A = ℕ} (has_access xs) 1 0 + count (runs_of (events_from n held records))) (append-nil prefix)
    ∙ ap (λ (m : ℕ). cond {A = ℕ} (has_access prefix) 1 0 + m) (ap count (sym (with_prefix-nil (events_from n held records))) ∙ rest [] ∙ omega arith)

keeps_run : (prefix : List Event) (e : Event) (n : ℕ) (held : List ℕ) (records : List Record) → Counts n held records → (k : Kind) → k ≡ e.event.kind
    → (c : Bool) → has_access prefix || (is_access k || false) ≡ c → count (with_prefix prefix (in_first e (runs_of (events_from n held records)))) ≡ cond c 1 0 + opened_by c records
keeps_run prefix e n held records rest k same c is =
    ap count (with_prefix-in_first prefix e (runs_of (events_from n held records))) ∙ rest (prefix ++ e ∷ [])
    ∙ ap (λ (b : Bool). cond {A = ℕ} b 1 0 + opened_by b records)
    (has_access-append prefix (e ∷ []) ∙ ap (λ (k : Kind). has_access prefix || (is_access k || false)) (sym same) ∙ is)

step_runs : (prefix : List Event) (e : Event) (n : ℕ) (held : List ℕ) (records : List Record) → Counts n held records → (k : Kind) → k ≡ e.event.kind
    → count (with_prefix prefix (with_event k e (runs_of (events_from n held records)))) ≡ cond (has_access prefix) 1 0 + (opens_by k (has_access prefix) + opened_by (open_after k (has_access prefix)) records)
step_runs prefix e n held records rest Region is = parts_runs prefix n held records rest
step_runs prefix e n held records rest Barrier is = parts_runs prefix n held records rest
step_runs prefix e n held records rest Read is =
    goes_on Read (has_access prefix) records _ (keeps_run prefix e n held records rest Read is) (λ (same : Read ≡ Region). absurd cc) (λ (same : Read ≡ Barrier). absurd cc)
step_runs prefix e n held records rest Write is =
    goes_on Write (has_access prefix) records _ (keeps_run prefix e n held records rest Write is) (λ (same : Write ≡ Region). absurd cc) (λ (same : Write ≡ Barrier). absurd cc)
step_runs prefix e n held records rest Lock is =
    goes_on Lock (has_access prefix) records _ (keeps_run prefix e n held records rest Lock is) (λ (same : Lock ≡ Region). absurd cc) (λ (same : Lock ≡ Barrier). absurd cc)
step_runs prefix e n held records rest Unlock is =
    goes_on Unlock (has_access prefix) records _ (keeps_run prefix e n held records rest Unlock is) (λ (same : Unlock ≡ Region). absurd cc) (λ (same : Unlock ≡ Barrier). absurd cc)
step_runs prefix e n held records rest Chunk is =
    goes_on Chunk (has_access prefix) records _ (keeps_run prefix e n held records rest Chunk is) (λ (same : Chunk ≡ Region). absurd cc) (λ (same : Chunk ≡ Barrier). absurd cc)
step_runs prefix e n held records rest End is =
    goes_on End (has_access prefix) records _ (keeps_run prefix e n held records rest End is) (λ (same : End ≡ Region). absurd cc) (λ (same : End ≡ Barrier). absurd cc)
step_runs prefix e n held records rest Update is =
    goes_on Update (has_access prefix) records _ (keeps_run prefix e n held records rest Update is) (λ (same : Update ≡ Region). absurd cc) (λ (same : Update ≡ Barrier). absurd cc)

-- a run that is open counts once it has an access, and the records after it count what they open
count_runs : (n : ℕ) (held : List ℕ) (records : List Record) → Counts n held records
count_runs n held [] prefix = count-cons (prefix ++ []) [] ∙ ap (λ (es : List Event). cond {A = ℕ} (has_access es) 1 0 + 0) (append-nil prefix)
count_runs n held (r ∷ records) prefix =
    step_runs prefix (record { number = n; event = r; held = held }) (n + 1) (held_after_kind r.kind r.addr held) records
    (count_runs (n + 1) (held_after_kind r.kind r.addr held) records) r.kind refl

-- a log has as many segments as its records open
pub segment_count-opened : (records : List Record) → segment_count records ≡ opened_by false records
segment_count-opened records =
    ap count (sym (with_prefix-nil (events_from 1 [] records))) ∙ count_runs 1 [] records [] ∙ omega arith

-- one record more
pub segment_count-push : (records : List Record) (r : Record) → segment_count (records ++ r ∷ []) ≡ segment_count records + opens_by r.kind (is_open_after false records)
segment_count-push records r =
    segment_count-opened (records ++ r ∷ []) ∙ opened_by-push false records r
    ∙ ap (λ (n : ℕ). n + opens_by r.kind (is_open_after false records)) (sym (segment_count-opened records))

-- a prefix has no more
pub segment_count-take : (records : List Record) (n : ℕ) → segment_count (take n records) ≤ segment_count records
segment_count-take records n = omega (arith, segment_count-opened (take n records), segment_count-opened records, opened_by-take false records n)
