-- Where a segment stands in its log: how many Regions and Barriers are before it.
use Rattle.std.proofs.Common.{◌≡◌, ◌⊎◌, inl, inr, ℕ, zero, suc, ◌+◌, ◌≤◌, true, List, [], ◌∷◌, take, Some, refl, sym, ap, subst, ◌∙◌, cond, arith}
use Rattle.std.specs.Prelude.{slice_get}
use Rattle.std.proofs.lemmas.Option.{same_Some}
use Rattle.std.proofs.lemmas.List.Sums.{sum_by-cons}
use Rattle.log_format.specs.declared.record.Record.{Record}
use Rattle.log_format.specs.declared.record.Kind.{Kind}
use Rattle.log_format.specs.declared.record.Kind.TheVariants.{Read, Write, Lock, Unlock, Barrier, Region, Chunk, End, Update}
use Rattle.race_model.specs.ForkJoin.{IsForkJoin}
use Rattle.race_model.specs.Label.{IsLabel}
use Rattle.race_model.specs.Race.{held_after_kind}
use Rattle.race_model.specs.Segment.{Event, has_access, runs_of, with_event, in_first, events, events_from, first_number, last_number, segment_of}
use Rattle.race_model.specs.Trace.{Logs, Node, is_region_kind, is_barrier_kind, region_count, barrier_count}
use Rattle.race_laws.proofs.LabelLaw.{same_label_same_log, same_label_regions, same_label_barriers}
use Rattle.log_segment.specs.Intervals.{IsSegmentOf}
use Rattle.log_segment.specs.OneTree.{IsSegmentIn}
use Rattle.log_segment.specs.declared.segment.Segment.{Segment}
use Rattle.log_segment.proofs.Members.{In, from_contains, map_back, filter_back}
use Rattle.log_segment.proofs.Runs.{events_numbered, run_numbered, within_run}
use Rattle.pair_compare.specs.Accesses.{AreDifferent}

-- a Region or Barrier parts the runs
abbrev part : Kind → ℕ
part Read = 0
part Write = 0
part Lock = 0
part Unlock = 0
part Barrier = 1
part Region = 1
part Chunk = 0
part End = 0
part Update = 0

abbrev parted : List Record → ℕ
parted [] = 0
parted (r ∷ records) = part r.kind + parted records

part_is : (k : Kind) → part k ≡ cond (is_region_kind k) 1 0 + cond (is_barrier_kind k) 1 0
part_is Read = refl
part_is Write = refl
part_is Lock = refl
part_is Unlock = refl
part_is Barrier = refl
part_is Region = refl
part_is Chunk = refl
part_is End = refl
part_is Update = refl

parted_is : (records : List Record) → parted records ≡ region_count records + barrier_count records
parted_is [] = refl
parted_is (r ∷ records) =
    let regions : region_count (r ∷ records) ≡ cond (is_region_kind r.kind) 1 0 + region_count records = sum_by-cons (λ (s : Record). cond (is_region_kind s.kind) 1 0) r records in
    let barriers : barrier_count (r ∷ records) ≡ cond (is_barrier_kind r.kind) 1 0 + barrier_count records = sum_by-cons (λ (s : Record). cond (is_barrier_kind s.kind) 1 0) r records in
    let here : part r.kind ≡ cond (is_region_kind r.kind) 1 0 + cond (is_barrier_kind r.kind) 1 0 = part_is r.kind in
    let rest : parted records ≡ region_count records + barrier_count records = parted_is records in
    omega (arith, regions, barriers, here, rest)

-- where an event of the runs stood before one more was put before them
record Later (k : Kind) (runs : List (List Event)) (j : ℕ) (e : Event) : Type 0 where
  place : ℕ
  run : List Event
  found : slice_get runs place ≡ Some run
  is_in : In e run
  parts : part k + place ≡ j

abbrev Moved : Kind → Event → List (List Event) → ℕ → Event → Type 0
Moved k first runs j e = ((first ≡ e) × (j ≡ 0)) ⊎ Later k runs j e

moved_on : (k : Kind) (first : Event) (runs : List (List Event)) (j : ℕ) (run : List Event) (e : Event) → part k ≡ 1 → slice_get ([] ∷ runs) j ≡ Some run → In e run → Moved k first runs j e
moved_on k first runs zero run e one found h = absurd (subst (λ (r : List Event). In e r) (sym (same_Some [] run found)) h)
moved_on k first runs (suc i) run e one found h = inr (record { place = i; run = run; found = found; is_in = h; parts = omega (arith, one) })

moved_first : (k : Kind) (first : Event) (runs : List (List Event)) (j : ℕ) (run : List Event) (e : Event) → part k ≡ 0 → slice_get (in_first first runs) j ≡ Some run → In e run → Moved k first runs j e
moved_first k first [] zero run e none found h = at (subst (λ (r : List Event). In e r) (sym (same_Some (first ∷ []) run found)) h) where
  at : (first ≡ e) ⊎ ⊥ → Moved k first [] 0 e
  at (inl same) = inl (same, refl)
  at (inr never) = absurd never
moved_first k first [] (suc i) run e none found h = cc
moved_first k first (own ∷ runs) zero run e none found h = at (subst (λ (r : List Event). In e r) (sym (same_Some (first ∷ own) run found)) h) where
  at : (first ≡ e) ⊎ In e own → Moved k first (own ∷ runs) 0 e
  at (inl same) = inl (same, refl)
  at (inr more) = inr (record { place = 0; run = own; found = refl; is_in = more; parts = omega (arith, none) })
moved_first k first (own ∷ runs) (suc i) run e none found h = inr (record { place = suc i; run = run; found = found; is_in = h; parts = omega (arith, none) })

moved : (k : Kind) (first : Event) (runs : List (List Event)) (j : ℕ) (run : List Event) (e : Event) → slice_get (with_event k first runs) j ≡ Some run → In e run → Moved k first runs j e
moved Region first runs j run e found h = moved_on Region first runs j run e refl found h
moved Barrier first runs j run e found h = moved_on Barrier first runs j run e refl found h
moved Read first runs j run e found h = moved_first Read first runs j run e refl found h
moved Write first runs j run e found h = moved_first Write first runs j run e refl found h
moved Lock first runs j run e found h = moved_first Lock first runs j run e refl found h
moved Unlock first runs j run e found h = moved_first Unlock first runs j run e refl found h
moved Chunk first runs j run e found h = moved_first Chunk first runs j run e refl found h
moved End first runs j run e found h = moved_first End first runs j run e refl found h
moved Update first runs j run e found h = moved_first Update first runs j run e refl found h

-- the place of a run is how many Regions and Barriers are before each of its events
record EventPlace (n : ℕ) (records : List Record) (j : ℕ) (e : Event) : Type 0 where
  index : ℕ
  number : e.number ≡ n + index
  parts : parted (take index records) ≡ j

event_place : (n : ℕ) (held : List ℕ) (records : List Record) (j : ℕ) (run : List Event) (e : Event) → slice_get (runs_of (events_from n held records)) j ≡ Some run → In e run → EventPlace n records j e
event_place n held [] zero run e found h = absurd (subst (λ (r : List Event). In e r) (sym (same_Some [] run found)) h)
event_place n held [] (suc j) run e found h = cc
event_place n held (r ∷ records) j run e found h =
    at (moved r.kind first (runs_of (events_from (n + 1) after records)) j run e found h)
    (λ place own got is_in. event_place (n + 1) after records place own e got is_in)
  where
    after : List ℕ
    after = held_after_kind r.kind r.addr held

    first : Event
    first = record { number = n; event = r; held = held }

    at : Moved r.kind first (runs_of (events_from (n + 1) after records)) j e
        → ((place : ℕ) (own : List Event) → slice_get (runs_of (events_from (n + 1) after records)) place ≡ Some own → In e own → EventPlace (n + 1) records place e) → EventPlace n (r ∷ records) j e
    at (inl same) rest =
        let number : n ≡ e.number = ap (λ (x : Event). x.number) same.0 in
        record { index = 0; number = omega (arith, number); parts = sym same.1 }
    at (inr later) rest =
        let place = rest later.place later.run later.found later.is_in in
        let number : e.number ≡ n + 1 + place.index = place.number in
        let before : parted (take place.index records) ≡ later.place = place.parts in
        let whole : part r.kind + later.place ≡ j = later.parts in
        record { index = suc place.index; number = omega (arith, number); parts = ap (λ (k : ℕ). part r.kind + k) before ∙ whole }

record Got {X : Type 0} (xs : List X) (x : X) : Type 0 where
  place : ℕ
  found : slice_get xs place ≡ Some x

got : {X : Type 0} (x : X) (xs : List X) → In x xs → Got xs x
got x [] h = absurd h
got x (y ∷ ys) (inl same) = record { place = 0; found = ap Some same }
got x (y ∷ ys) (inr h) = let rest = got x ys h in record { place = suc rest.place; found = rest.found }

-- the record that a segment begins with
record Begins (logs : Logs) (segment : Segment) : Type 0 where
  index : ℕ
  label : IsLabel logs (record { path = segment.path; index = index }) segment.label
  place : ℕ
  run : List Event
  found : slice_get (runs_of (events (logs segment.path))) place ≡ Some run
  parts : parted (take index (logs segment.path)) ≡ place
  first : segment.first ≡ first_number run

begins_at : (logs : Logs) (segment : Segment) (run : List Event) → IsSegmentOf logs (segment_of segment.path run) segment → In run (runs_of (events (logs segment.path))) → has_access run ≡ true → Begins logs segment
begins_at logs segment [] of listed access = cc
begins_at logs segment (e ∷ es) of listed access =
    let place = got (e ∷ es) (runs_of (events (logs segment.path))) listed in
    let at = event_place 1 [] (logs segment.path) place.place (e ∷ es) e place.found (inl refl) in
    let number : e.number ≡ 1 + at.index = at.number in
    let bounds = within_run (e ∷ es) e (run_numbered 1 (events (logs segment.path)) (e ∷ es) (events_numbered 1 [] (logs segment.path)) listed) (inl refl) in
    let first : segment.first ≡ e.number = of.first in
    let last : segment.last ≡ last_number (e ∷ es) = of.last in
    let most : e.number ≤ last_number (e ∷ es) = bounds.1 in
    record {
      index = at.index;
      label = of.label (record { path = segment.path; index = at.index }) refl (omega (arith, number, first)) (omega (arith, number, last, most));
      place = place.place;
      run = e ∷ es;
      found = place.found;
      parts = at.parts;
      first = first;
    }

begins : (logs : Logs) (segment : Segment) → IsSegmentIn logs segment → Begins logs segment
begins logs segment h =
    let mapped = map_back (segment_of segment.path) h.interval _ (from_contains h.interval _ h.listed) in
    let kept = filter_back has_access mapped.from (runs_of (events (logs segment.path))) mapped.is_in in
    begins_at logs segment mapped.from (subst (λ (m : _). IsSegmentOf logs m segment) (sym mapped.is) h.is) kept.0 kept.1

-- segments of one label are the same
pub different_labels : (logs : Logs) (a b : Segment) → IsForkJoin logs → IsSegmentIn logs a → IsSegmentIn logs b → AreDifferent a b → a.label ≡ b.label → ⊥
different_labels logs a b tree a_in b_in different same =
    let mine = begins logs a a_in in
    let yours = begins logs b b_in in
    let x : Node = record { path = a.path; index = mine.index } in
    let y : Node = record { path = b.path; index = yours.index } in
    let log : a.path ≡ b.path = same_label_same_log logs x y a.label b.label mine.label yours.label same in
    let regions : region_count (take mine.index (logs a.path)) ≡ region_count (take yours.index (logs b.path)) = same_label_regions logs x y a.label b.label mine.label yours.label same in
    let barriers : barrier_count (take mine.index (logs a.path)) ≡ barrier_count (take yours.index (logs b.path)) = same_label_barriers logs x y a.label b.label tree mine.label yours.label same in
    let mine_parts : parted (take mine.index (logs a.path)) ≡ region_count (take mine.index (logs a.path)) + barrier_count (take mine.index (logs a.path)) = parted_is (take mine.index (logs a.path)) in
    let your_parts : parted (take yours.index (logs b.path)) ≡ region_count (take yours.index (logs b.path)) + barrier_count (take yours.index (logs b.path)) = parted_is (take yours.index (logs b.path)) in
    let counts : region_count (take mine.index (logs a.path)) + barrier_count (take mine.index (logs a.path)) ≡ region_count (take yours.index (logs b.path)) + barrier_count (take yours.index (logs b.path)) = λ i. regions i + barriers i in
    let place : mine.place ≡ yours.place = sym mine.parts ∙ mine_parts ∙ counts ∙ sym your_parts ∙ yours.parts in
    let run : mine.run ≡ yours.run = same_Some mine.run yours.run (sym mine.found ∙ (λ i. slice_get (runs_of (events (logs (log i)))) (place i)) ∙ yours.found) in
    different log (mine.first ∙ ap first_number run ∙ sym yours.first)
