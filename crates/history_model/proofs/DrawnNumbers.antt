-- The numbers that lanes drew, and those that their logs tell.
use Rattle.std.proofs.Common.{◌≡◌, ◌⊎◌, inl, inr, refl, sym, ap, ap₂, ◌∙◌, ℕ, zero, suc, ◌+◌, ◌<◌, ◌≤◌, min, Bool, true, false, cond, nat_lt, List, [], ◌∷◌, ◌++◌, length, map, Some, arith}
use Rattle.std.specs.Prelude.{count_by, filter, slice_get, All, Contains, get_or, ◌==◌, if◌then◌else◌}
use Rattle.std.specs.List.{flat_map}
use Rattle.std.proofs.lemmas.Bool.{cases_lt}
use Rattle.std.proofs.lemmas.Bool.Decides.{nat_tests}
use Rattle.std.proofs.lemmas.List.Sums.{sum_by-append}
use Rattle.std.proofs.lemmas.List.Elements.{All-nil, All-cons, All-head, All-tail}
use Rattle.log_format.specs.declared.record.Record.{Record}
use Rattle.log_format.specs.declared.record.Kind.{Kind}
use Rattle.log_format.specs.declared.record.Kind.TheVariants.{Read, Write, Lock, Unlock, Barrier, Region, Chunk, End, Update}
use Rattle.race_model.specs.Draws.{in_first_loop, with_draw, draws_by_loop, loop_draws, with_closing, closed_loops, times_drawn, DrewEachOnce}
use Rattle.history_model.specs.Drawn.{LaneDraws, TellsDraws, times_given, GaveEachOnce, then_loops}
use Rattle.history_model.proofs.Parts.{count_cons}

count_append : (number : ℕ) (xs ys : List ℕ) → count_by (λ n. n == number) (xs ++ ys) ≡ count_by (λ n. n == number) xs + count_by (λ n. n == number) ys
count_append number xs ys = sum_by-append (λ (n : ℕ). cond (n == number) 1 0) xs ys

-- of the numbers below a count, those that are kept
kept_below : (chunks number : ℕ) (xs : List ℕ) → number < chunks → count_by (λ n. n == number) (filter (λ x. nat_lt x chunks) xs) ≡ count_by (λ n. n == number) xs
kept_below chunks number [] less = refl
kept_below chunks number (x ∷ xs) less = by_test (nat_lt x chunks) refl (kept_below chunks number xs less) where
  by_test : (b : Bool) → nat_lt x chunks ≡ b → count_by (λ n. n == number) (filter (λ y. nat_lt y chunks) xs) ≡ count_by (λ n. n == number) xs
      → count_by (λ n. n == number) (filter (λ y. nat_lt y chunks) (x ∷ xs)) ≡ count_by (λ n. n == number) (x ∷ xs)
  by_test true is rest =
      ap (λ (b : Bool). count_by (λ n. n == number) (cond b (x ∷ filter (λ y. nat_lt y chunks) xs) (filter (λ y. nat_lt y chunks) xs))) is
      ∙ omega (arith, count_cons (λ (n : ℕ). n == number) x (filter (λ y. nat_lt y chunks) xs), count_cons (λ (n : ℕ). n == number) x xs)
  by_test false is rest =
      ap (λ (b : Bool). count_by (λ n. n == number) (cond b (x ∷ filter (λ y. nat_lt y chunks) xs) (filter (λ y. nat_lt y chunks) xs))) is
      ∙ (let none : count_by (λ n. n == number) (x ∷ []) ≡ 0 = other in omega (arith, count_cons (λ (n : ℕ). n == number) x xs))
    where
      other : count_by (λ n. n == number) (x ∷ []) ≡ 0
      other = ap (λ (b : Bool). 0 + cond b 1 0) (let e : (x == number) ≡ false = grind (arith, nat_tests) in e)

kept_past : (chunks number : ℕ) (xs : List ℕ) → chunks ≤ number → count_by (λ n. n == number) (filter (λ x. nat_lt x chunks) xs) ≡ 0
kept_past chunks number [] le = refl
kept_past chunks number (x ∷ xs) le = by_test (nat_lt x chunks) refl (kept_past chunks number xs le) where
  by_test : (b : Bool) → nat_lt x chunks ≡ b → count_by (λ n. n == number) (filter (λ y. nat_lt y chunks) xs) ≡ 0 → count_by (λ n. n == number) (filter (λ y. nat_lt y chunks) (x ∷ xs)) ≡ 0
  by_test true is rest =
      ap (λ (b : Bool). count_by (λ n. n == number) (cond b (x ∷ filter (λ y. nat_lt y chunks) xs) (filter (λ y. nat_lt y chunks) xs))) is
      ∙ (let none : count_by (λ n. n == number) (x ∷ []) ≡ 0 = other in omega (arith, count_cons (λ (n : ℕ). n == number) x (filter (λ y. nat_lt y chunks) xs)))
    where
      other : count_by (λ n. n == number) (x ∷ []) ≡ 0
      other = ap (λ (b : Bool). 0 + cond b 1 0) (let e : (x == number) ≡ false = grind (arith, nat_tests) in e)
  by_test false is rest = ap (λ (b : Bool). count_by (λ n. n == number) (cond b (x ∷ filter (λ y. nat_lt y chunks) xs) (filter (λ y. nat_lt y chunks) xs))) is ∙ rest

-- so over all lanes
abbrev logs_of_lanes : List LaneDraws → List (List Record)
logs_of_lanes lanes = map (λ (lane : LaneDraws). lane.records) lanes

told_below : (loop chunks number : ℕ) (lanes : List LaneDraws) → All (TellsDraws loop chunks) lanes → number < chunks → times_drawn loop (logs_of_lanes lanes) number ≡ times_given lanes number
told_below loop chunks number [] tells less = refl
told_below loop chunks number (lane ∷ lanes) tells less =
    let first = All-head (TellsDraws loop chunks) lane lanes tells in
    let rest = told_below loop chunks number lanes (All-tail (TellsDraws loop chunks) lane lanes tells) less in
    let own : count_by (λ n. n == number) (loop_draws loop lane.records) ≡ count_by (λ n. n == number) lane.numbers = ap (λ (xs : List ℕ). count_by (λ n. n == number) xs) first.draws ∙ kept_below chunks number lane.numbers less in
    omega (arith, count_append number (loop_draws loop lane.records) (flat_map (loop_draws loop) (logs_of_lanes lanes)), count_append number lane.numbers (flat_map (λ (l : LaneDraws). l.numbers) lanes))

told_past : (loop chunks number : ℕ) (lanes : List LaneDraws) → All (TellsDraws loop chunks) lanes → chunks ≤ number → times_drawn loop (logs_of_lanes lanes) number ≡ 0
told_past loop chunks number [] tells le = refl
told_past loop chunks number (lane ∷ lanes) tells le =
    let first = All-head (TellsDraws loop chunks) lane lanes tells in
    let rest = told_past loop chunks number lanes (All-tail (TellsDraws loop chunks) lane lanes tells) le in
    let own : count_by (λ n. n == number) (loop_draws loop lane.records) ≡ 0 = ap (λ (xs : List ℕ). count_by (λ n. n == number) xs) first.draws ∙ kept_past chunks number lane.numbers le in
    omega (arith, count_append number (loop_draws loop lane.records) (flat_map (loop_draws loop) (logs_of_lanes lanes)))

-- a number that a lane has was given
counted_once : (number : ℕ) (xs : List ℕ) (k : ℕ) → k < length xs → get_or xs k number ≡ number → 1 ≤ count_by (λ n. n == number) xs
counted_once number [] k less is = absurd (omega arith)
counted_once number (x ∷ xs) zero less is =
    let one : count_by (λ n. n == number) (x ∷ []) ≡ 1 = ap (λ (b : Bool). 0 + cond b 1 0) (let e : (x == number) ≡ true = grind (arith, nat_tests) in e) in
    omega (arith, count_cons (λ (n : ℕ). n == number) x xs)
counted_once number (x ∷ xs) (suc k) less is = let rest = counted_once number xs k (omega arith) is in omega (arith, count_cons (λ (n : ℕ). n == number) x xs)

given : (number : ℕ) (lanes : List LaneDraws) (k : ℕ) (d : LaneDraws) → k < length lanes → Contains (get_or lanes k d).numbers number → 1 ≤ times_given lanes number
given number [] k d less has = absurd (omega arith)
given number (lane ∷ lanes) zero d less (n, within, is) =
    let own = counted_once number lane.numbers n within is in omega (arith, count_append number lane.numbers (flat_map (λ (l : LaneDraws). l.numbers) lanes))
given number (lane ∷ lanes) (suc k) d less has = let rest = given number lanes k d (omega arith) has in omega (arith, count_append number lane.numbers (flat_map (λ (l : LaneDraws). l.numbers) lanes))

all_logs : (P : List Record → Type 0) (lanes : List LaneDraws) → All (λ (lane : LaneDraws). P lane.records) lanes → All P (logs_of_lanes lanes)
all_logs P [] each = All-nil P
all_logs P (lane ∷ lanes) each =
    All-cons P lane.records (logs_of_lanes lanes) (All-head (λ (l : LaneDraws). P l.records) lane lanes each) (all_logs P lanes (All-tail (λ (l : LaneDraws). P l.records) lane lanes each))

pub each_once : (lanes : List LaneDraws) (loop chunks counter : ℕ) → All (TellsDraws loop chunks) lanes → GaveEachOnce lanes counter → DrewEachOnce (logs_of_lanes lanes) loop (min counter chunks)
each_once lanes loop chunks counter tells gave = record {
  once = λ number less. told_below loop chunks number lanes tells (omega arith) ∙ gave.once number (omega arith);
  no_other = λ number le. past number le (cases_lt number chunks);
  closed = all_logs (λ (records : List Record). (m : ℕ) → slice_get (closed_loops records) loop ≡ Some m → m ≡ min counter chunks) lanes closed;
}
  where
    past : (number : ℕ) → min counter chunks ≤ number → (number < chunks) ⊎ (chunks ≤ number) → times_drawn loop (logs_of_lanes lanes) number ≡ 0
    past number le (inl less) = told_below loop chunks number lanes tells less ∙ gave.no_other number (omega arith)
    past number le (inr over) = told_past loop chunks number lanes tells over

    closed : All (λ (lane : LaneDraws). (m : ℕ) → slice_get (closed_loops lane.records) loop ≡ Some m → m ≡ min counter chunks) lanes
    closed k d within m found = at ((tells k d within).past m found)
      where
        number_given : (number : ℕ) → 1 ≤ times_given lanes number → number < counter
        number_given number some = by_order (cases_lt number counter) where
          by_order : (number < counter) ⊎ (counter ≤ number) → number < counter
          by_order (inl less) = less
          by_order (inr le) = absurd (omega (arith, gave.no_other number le))

        at : (number : ℕ) × (chunks ≤ number) × Contains (get_or lanes k d).numbers number → m ≡ min counter chunks
        at (number, le, has) =
            let less = number_given number (given number lanes k d within has) in
            let count = (tells k d within).count m found in
            omega arith

-- there is a first loop always
some_loop : (records : List Record) → (first : List ℕ) × (later : List (List ℕ)) × (draws_by_loop records ≡ first ∷ later)
some_loop [] = ([], [], refl)
some_loop (r ∷ records) = by_kind r.kind (some_loop records) where
  by_kind : (k : Kind) → (first : List ℕ) × (later : List (List ℕ)) × (draws_by_loop records ≡ first ∷ later) → (first : List ℕ) × (later : List (List ℕ)) × (with_draw k r (draws_by_loop records) ≡ first ∷ later)
  by_kind Read some = some
  by_kind Write some = some
  by_kind Lock some = some
  by_kind Unlock some = some
  by_kind Barrier some = some
  by_kind Region some = some
  by_kind End some = some
  by_kind Update some = some
  by_kind Chunk (first, later, same) = at (r.addr == r.value) where
    at : (b : Bool) → (f : List ℕ) × (l : List (List ℕ)) × ((if b then [] ∷ draws_by_loop records else in_first_loop r.addr (draws_by_loop records)) ≡ f ∷ l)
    at true = ([], draws_by_loop records, refl)
    at false = (r.addr ∷ first, later, ap (λ (loops : List (List ℕ)). in_first_loop r.addr loops) same)

-- the draws of a log that goes on
pub draws_more : (records more : List Record) → draws_by_loop (records ++ more) ≡ then_loops (draws_by_loop records) (draws_by_loop more)
draws_more [] more = at (some_loop more) where
  at : (first : List ℕ) × (later : List (List ℕ)) × (draws_by_loop more ≡ first ∷ later) → draws_by_loop more ≡ then_loops ([] ∷ []) (draws_by_loop more)
  at (first, later, same) = same ∙ ap (λ (loops : List (List ℕ)). then_loops ([] ∷ []) loops) (sym same)
draws_more (r ∷ records) more = by_kind r.kind (draws_more records more) (some_loop records) (some_loop more) where
  by_kind : (k : Kind) → draws_by_loop (records ++ more) ≡ then_loops (draws_by_loop records) (draws_by_loop more)
      → (first : List ℕ) × (later : List (List ℕ)) × (draws_by_loop records ≡ first ∷ later) → (first : List ℕ) × (later : List (List ℕ)) × (draws_by_loop more ≡ first ∷ later)
      → with_draw k r (draws_by_loop (records ++ more)) ≡ then_loops (with_draw k r (draws_by_loop records)) (draws_by_loop more)
  by_kind Read same some other = same
  by_kind Write same some other = same
  by_kind Lock same some other = same
  by_kind Unlock same some other = same
  by_kind Barrier same some other = same
  by_kind Region same some other = same
  by_kind End same some other = same
  by_kind Update same some other = same
  by_kind Chunk same (first, later, is) (next, rest, also) = at (r.addr == r.value) where
    closes : (loops : List (List ℕ)) → loops ≡ first ∷ later → [] ∷ then_loops loops (draws_by_loop more) ≡ then_loops ([] ∷ loops) (draws_by_loop more)
    closes [] none = cc
    closes (loop ∷ loops) some = refl

    opens : (ls : List (List ℕ)) → in_first_loop r.addr (then_loops (first ∷ ls) (next ∷ rest)) ≡ then_loops ((r.addr ∷ first) ∷ ls) (next ∷ rest)
    opens [] = refl
    opens (l ∷ ls) = refl

    at : (b : Bool) → (if b then [] ∷ draws_by_loop (records ++ more) else in_first_loop r.addr (draws_by_loop (records ++ more)))
        ≡ then_loops (if b then [] ∷ draws_by_loop records else in_first_loop r.addr (draws_by_loop records)) (draws_by_loop more)
    at true = ap (λ (loops : List (List ℕ)). [] ∷ loops) same ∙ closes (draws_by_loop records) is
    at false =
        ap (λ (loops : List (List ℕ)). in_first_loop r.addr loops) (same ∙ ap₂ (λ (loops others : List (List ℕ)). then_loops loops others) is also)
        ∙ opens later
        ∙ ap₂ (λ (loops others : List (List ℕ)). then_loops (in_first_loop r.addr loops) others) (sym is) (sym also)

pub closed_more : (records more : List Record) → closed_loops (records ++ more) ≡ closed_loops records ++ closed_loops more
closed_more [] more = refl
closed_more (r ∷ records) more = by_kind r.kind (closed_more records more) where
  by_kind : (k : Kind) → closed_loops (records ++ more) ≡ closed_loops records ++ closed_loops more → with_closing k r (closed_loops (records ++ more)) ≡ with_closing k r (closed_loops records) ++ closed_loops more
  by_kind Read same = same
  by_kind Write same = same
  by_kind Lock same = same
  by_kind Unlock same = same
  by_kind Barrier same = same
  by_kind Region same = same
  by_kind End same = same
  by_kind Update same = same
  by_kind Chunk same = at (r.addr == r.value) where
    at : (b : Bool) → (if b then r.value ∷ closed_loops (records ++ more) else closed_loops (records ++ more)) ≡ (if b then r.value ∷ closed_loops records else closed_loops records) ++ closed_loops more
    at true = ap (λ (ns : List ℕ). r.value ∷ ns) same
    at false = same
