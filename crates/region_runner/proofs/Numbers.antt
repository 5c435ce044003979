-- From the numbers that hands drew to those that logs tell.
use Rattle.std.proofs.Common.{◌≡◌, refl, ap, sym, ◌∙◌, subst, ℕ, zero, suc, ◌+◌, ◌<◌, ◌≤◌, min, arith, Bool, true, false, cond, List, [], ◌∷◌, ◌++◌, get_or, slice_get, slice_index_or, Some, None, All}
use Rattle.std.specs.Prelude.{◌==◌, filter, map, nat_lt, Contains}
use Rattle.std.specs.List.{flat_map}
use Rattle.std.proofs.lemmas.List.Elements.{All-nil, All-cons}
use Rattle.std.proofs.lemmas.Bool.Decides.{nat_tests}
use Rattle.std.proofs.lemmas.Option.{same_Some}
use Rattle.shared_words.proofs.Dealing.{numbers-append}
use Rattle.log_format.specs.declared.record.Record.{Record}
use Rattle.log_format.specs.declared.record.Kind.{Kind}
use Rattle.log_format.specs.declared.record.Kind.TheVariants as kind
use Rattle.race_model.specs.Draws.{in_first_loop, with_draw, draws_by_loop, with_closing, closed_loops, DrewEachOnce}
use Rattle.history_model.specs.Drawn.{LaneDraws, TellsDraws, GaveEachOnce, times_given}
use Rattle.kernel_model.specs.State.{number_drawn}
use Rattle.kernel_model.specs.Chunking as count
use Rattle.kernel_model.specs.Chunking.{TellCounts}
use Rattle.execution_model.specs.Execution.{DrewSome}
use Rattle.shared_words.specs.Draws.{numbers, times, once_below, AreEachOnce}
use Rattle.history_model.proofs.DrawnNumbers.{each_once}
use Rattle.lane_runner.specs.Drawing as draw
use Rattle.lane_runner.specs.Drawing.{TellDraws}
use Rattle.region_runner.specs.Drawing.{DrewByLogs, no_lane, lane}

-- ---- the numbers of one loop

-- a draw for the loop, and one for another
numbers_mine : (loop : ℕ) (d : ℕ × ℕ) (rest : List (ℕ × ℕ)) → d.0 ≡ loop → numbers loop (d ∷ rest) ≡ d.1 ∷ numbers loop rest
numbers_mine loop d rest is =
    let test : (d.0 == loop) ≡ true = grind (arith, nat_tests) in
    ap (λ (b : Bool). cond b (d.1 ∷ numbers loop rest) (numbers loop rest)) test

numbers_other : (loop : ℕ) (d : ℕ × ℕ) (rest : List (ℕ × ℕ)) → (d.0 ≡ loop → ⊥) → numbers loop (d ∷ rest) ≡ numbers loop rest
numbers_other loop d rest apart = by (d.0 == loop) refl
  where
    by : (b : Bool) → (d.0 == loop) ≡ b → cond b (d.1 ∷ numbers loop rest) (numbers loop rest) ≡ numbers loop rest
    by true is = absurd (apart (grind (arith, nat_tests)))
    by false is = refl

-- ---- a record before others

plain_draw : (k : Kind) (r : Record) (loops : List (List ℕ)) → number_drawn k r.addr ≡ None → with_draw k r loops ≡ loops
plain_draw kind.Read r loops none = refl
plain_draw kind.Write r loops none = refl
plain_draw kind.Lock r loops none = refl
plain_draw kind.Unlock r loops none = refl
plain_draw kind.Barrier r loops none = refl
plain_draw kind.Region r loops none = refl
plain_draw kind.End r loops none = refl
plain_draw kind.Update r loops none = refl
plain_draw kind.Chunk r loops none = absurd cc

plain_closing : (k : Kind) (r : Record) (counts : List ℕ) → number_drawn k r.addr ≡ None → with_closing k r counts ≡ counts
plain_closing kind.Read r counts none = refl
plain_closing kind.Write r counts none = refl
plain_closing kind.Lock r counts none = refl
plain_closing kind.Unlock r counts none = refl
plain_closing kind.Barrier r counts none = refl
plain_closing kind.Region r counts none = refl
plain_closing kind.End r counts none = refl
plain_closing kind.Update r counts none = refl
plain_closing kind.Chunk r counts none = absurd cc

no_chunk : (k : Kind) (addr : ℕ) → k ≡ kind.Chunk → number_drawn k addr ≡ None → ⊥
no_chunk k addr is none = no (subst (λ (j : Kind). number_drawn j addr ≡ None) is none)
  where
    no : number_drawn kind.Chunk addr ≡ None → ⊥
    no same = cc

drawn_first : (r : Record) (loops : List (List ℕ)) → r.kind ≡ kind.Chunk → r.addr < r.value → with_draw r.kind r loops ≡ in_first_loop r.addr loops
drawn_first r loops is below =
    let still : (r.addr == r.value) ≡ false = grind (arith, nat_tests) in
    ap (λ (k : Kind). with_draw k r loops) is ∙ ap (λ (b : Bool). cond b ([] ∷ loops) (in_first_loop r.addr loops)) still

closed_first : (r : Record) (loops : List (List ℕ)) → r.kind ≡ kind.Chunk → r.addr ≡ r.value → with_draw r.kind r loops ≡ [] ∷ loops
closed_first r loops is same =
    let closes : (r.addr == r.value) ≡ true = grind (arith, nat_tests) in
    ap (λ (k : Kind). with_draw k r loops) is ∙ ap (λ (b : Bool). cond b ([] ∷ loops) (in_first_loop r.addr loops)) closes

drawn_closing : (r : Record) (counts : List ℕ) → r.kind ≡ kind.Chunk → r.addr < r.value → with_closing r.kind r counts ≡ counts
drawn_closing r counts is below =
    let still : (r.addr == r.value) ≡ false = grind (arith, nat_tests) in
    ap (λ (k : Kind). with_closing k r counts) is ∙ ap (λ (b : Bool). cond b (r.value ∷ counts) counts) still

closed_closing : (r : Record) (counts : List ℕ) → r.kind ≡ kind.Chunk → r.addr ≡ r.value → with_closing r.kind r counts ≡ r.value ∷ counts
closed_closing r counts is same =
    let closes : (r.addr == r.value) ≡ true = grind (arith, nat_tests) in
    ap (λ (k : Kind). with_closing k r counts) is ∙ ap (λ (b : Bool). cond b (r.value ∷ counts) counts) closes

first_loop : (x : ℕ) (loops : List (List ℕ)) → get_or (in_first_loop x loops) 0 [] ≡ x ∷ get_or loops 0 []
first_loop x [] = refl
first_loop x (l ∷ loops) = refl

later_loop : (x k : ℕ) (loops : List (List ℕ)) → get_or (in_first_loop x loops) (suc k) [] ≡ get_or loops (suc k) []
later_loop x k [] = refl
later_loop x k (l ∷ loops) = refl

-- ---- one lane

-- nothing was drawn for the loops before the first
none_before : (first last loop : ℕ) (records : List Record) (drawn : List (ℕ × ℕ)) → TellDraws first records drawn last → loop < first → numbers loop drawn ≡ []
none_before _ _ loop _ _ (draw.no_record first) before = refl
none_before _ _ loop _ _ (draw.other first last r records drawn plain more) before = none_before first last loop records drawn more before
none_before _ _ loop _ _ (draw.draw first last number r records drawn is addr below more) before =
    numbers_other loop (first, number) drawn (λ same. omega arith) ∙ none_before first last loop records drawn more before
none_before _ _ loop _ _ (draw.closing first last number r records drawn is closes above more) before =
    numbers_other loop (first, number) drawn (λ same. omega arith) ∙ none_before (suc first) last loop records drawn more (omega arith)

contains_more : (x : ℕ) (xs : List ℕ) (y : ℕ) → Contains xs y → Contains (x ∷ xs) y
contains_more x xs y (k, within, is) = (suc k, omega arith, is)

-- the numbers below a count
abbrev kept_below : ℕ → List ℕ → List ℕ
kept_below n xs = filter (λ (x : ℕ). nat_lt x n) xs

kept_first : (n x : ℕ) (xs : List ℕ) → x < n → kept_below n (x ∷ xs) ≡ x ∷ kept_below n xs
kept_first n x xs below =
    let test : nat_lt x n ≡ true = grind (arith, nat_tests) in
    ap (λ (b : Bool). cond b (x ∷ kept_below n xs) (kept_below n xs)) test

dropped_first : (n x : ℕ) (xs : List ℕ) → n ≤ x → kept_below n (x ∷ xs) ≡ kept_below n xs
dropped_first n x xs above =
    let test : nat_lt x n ≡ false = grind (arith, nat_tests) in
    ap (λ (b : Bool). cond b (x ∷ kept_below n xs) (kept_below n xs)) test

-- what a lane drew for this loop, the k-th of its log, which has so many chunks
abbrev Tells : ℕ → ℕ → ℕ → List Record → List (ℕ × ℕ) → Type 0
Tells count loop k records drawn = TellsDraws k count (record { numbers = numbers loop drawn; records = records })

tells_plain : (count loop k : ℕ) (r : Record) (records : List Record) (drawn : List (ℕ × ℕ)) → number_drawn r.kind r.addr ≡ None → Tells count loop k records drawn →
    Tells count loop k (r ∷ records) drawn
tells_plain count loop k r records drawn plain tells = record {
  draws = ap (λ (l : List (List ℕ)). get_or l k []) (plain_draw r.kind r (draws_by_loop records) plain) ∙ tells.draws;
  count = λ n closed. tells.count n (same n closed);
  past = λ n closed. tells.past n (same n closed);
}
  where
    same : (n : ℕ) → slice_get (closed_loops (r ∷ records)) k ≡ Some n → slice_get (closed_loops records) k ≡ Some n
    same n closed = ap (λ (l : List ℕ). slice_get l k) (sym (plain_closing r.kind r (closed_loops records) plain)) ∙ closed

-- a draw of the first loop
tells_first : (count loop : ℕ) (r : Record) (records : List Record) (drawn : List (ℕ × ℕ)) → r.kind ≡ kind.Chunk → r.value ≡ count → r.addr < r.value →
    Tells count loop 0 records drawn → Tells count loop 0 (r ∷ records) ((loop, r.addr) ∷ drawn)
tells_first count loop r records drawn is value small tells = record {
  draws =
      ap (λ (l : List (List ℕ)). get_or l 0 []) (drawn_first r (draws_by_loop records) is small) ∙ first_loop r.addr (draws_by_loop records)
      ∙ ap (λ (l : List ℕ). r.addr ∷ l) tells.draws
      ∙ sym (kept_first count r.addr (numbers loop drawn) (omega arith))
      ∙ ap (kept_below count) (sym mine);
  count = λ n closed. tells.count n (same n closed);
  past = λ n closed.
      let past = tells.past n (same n closed) in
      (past.0, past.1, subst (λ (l : List ℕ). Contains l past.0) (sym mine) (contains_more r.addr (numbers loop drawn) past.0 past.2));
}
  where
    mine : numbers loop ((loop, r.addr) ∷ drawn) ≡ r.addr ∷ numbers loop drawn
    mine = numbers_mine loop (loop, r.addr) drawn refl

    same : (n : ℕ) → slice_get (closed_loops (r ∷ records)) 0 ≡ Some n → slice_get (closed_loops records) 0 ≡ Some n
    same n closed = ap (λ (l : List ℕ). slice_get l 0) (sym (drawn_closing r (closed_loops records) is small)) ∙ closed

-- and as seen by a later one
tells_later : (count loop k first : ℕ) (r : Record) (records : List Record) (drawn : List (ℕ × ℕ)) → r.kind ≡ kind.Chunk → r.addr < r.value → first < loop →
    Tells count loop (suc k) records drawn → Tells count loop (suc k) (r ∷ records) ((first, r.addr) ∷ drawn)
tells_later count loop k first r records drawn is small later tells = record {
  draws =
      ap (λ (l : List (List ℕ)). get_or l (suc k) []) (drawn_first r (draws_by_loop records) is small) ∙ later_loop r.addr k (draws_by_loop records)
      ∙ tells.draws ∙ ap (kept_below count) (sym mine);
  count = λ n closed. tells.count n (same n closed);
  past = λ n closed.
      let past = tells.past n (same n closed) in
      (past.0, past.1, subst (λ (l : List ℕ). Contains l past.0) (sym mine) past.2);
}
  where
    mine : numbers loop ((first, r.addr) ∷ drawn) ≡ numbers loop drawn
    mine = numbers_other loop (first, r.addr) drawn (λ same. omega arith)

    same : (n : ℕ) → slice_get (closed_loops (r ∷ records)) (suc k) ≡ Some n → slice_get (closed_loops records) (suc k) ≡ Some n
    same n closed = ap (λ (l : List ℕ). slice_get l (suc k)) (sym (drawn_closing r (closed_loops records) is small)) ∙ closed

-- the closing of the first loop
tells_closing : (count loop number last : ℕ) (r : Record) (records : List Record) (drawn : List (ℕ × ℕ)) → r.kind ≡ kind.Chunk → r.value ≡ count → r.addr ≡ r.value →
    r.value ≤ number → TellDraws (suc loop) records drawn last → Tells count loop 0 (r ∷ records) ((loop, number) ∷ drawn)
tells_closing count loop number last r records drawn is value closes above more = record {
  draws =
      ap (λ (l : List (List ℕ)). get_or l 0 []) (closed_first r (draws_by_loop records) is closes)
      ∙ sym (dropped_first count number [] (omega arith)) ∙ ap (kept_below count) (sym mine);
  count = λ n closed. sym (same_Some r.value n (same n closed)) ∙ value;
  past = λ n closed. (number, omega arith, subst (λ (l : List ℕ). Contains l number) (sym mine) (0, omega arith, refl));
}
  where
    mine : numbers loop ((loop, number) ∷ drawn) ≡ number ∷ []
    mine =
        numbers_mine loop (loop, number) drawn refl
        ∙ ap (λ (l : List ℕ). number ∷ l) (none_before (suc loop) last loop records drawn more (omega arith))

    same : (n : ℕ) → slice_get (closed_loops (r ∷ records)) 0 ≡ Some n → Some r.value ≡ Some n
    same n closed = ap (λ (l : List ℕ). slice_get l 0) (sym (closed_closing r (closed_loops records) is closes)) ∙ closed

tells_after : (count loop k first number : ℕ) (r : Record) (records : List Record) (drawn : List (ℕ × ℕ)) → r.kind ≡ kind.Chunk → r.addr ≡ r.value → first < loop →
    Tells count loop k records drawn → Tells count loop (suc k) (r ∷ records) ((first, number) ∷ drawn)
tells_after count loop k first number r records drawn is closes later tells = record {
  draws = ap (λ (l : List (List ℕ)). get_or l (suc k) []) (closed_first r (draws_by_loop records) is closes) ∙ tells.draws ∙ ap (kept_below count) (sym mine);
  count = λ n closed. tells.count n (same n closed);
  past = λ n closed.
      let past = tells.past n (same n closed) in
      (past.0, past.1, subst (λ (l : List ℕ). Contains l past.0) (sym mine) past.2);
}
  where
    mine : numbers loop ((first, number) ∷ drawn) ≡ numbers loop drawn
    mine = numbers_other loop (first, number) drawn (λ same. omega arith)

    same : (n : ℕ) → slice_get (closed_loops (r ∷ records)) (suc k) ≡ Some n → slice_get (closed_loops records) k ≡ Some n
    same n closed = ap (λ (l : List ℕ). slice_get l (suc k)) (sym (closed_closing r (closed_loops records) is closes)) ∙ closed

-- by the records, each told by the hand's draws and by the counts
lane_tells : (first last k : ℕ) (records : List Record) (drawn : List (ℕ × ℕ)) (counts left : List ℕ) → TellDraws first records drawn last → TellCounts counts records left →
    Tells (slice_index_or counts k 0) (first + k) k records drawn
lane_tells _ _ k _ _ counts left (draw.no_record first) told = nothing k
  where
    nothing : (j : ℕ) → Tells (slice_index_or counts k 0) (first + k) j [] []
    nothing zero = record { draws = refl; count = λ n none. absurd cc; past = λ n none. absurd cc }
    nothing (suc j) = record { draws = refl; count = λ n none. absurd cc; past = λ n none. absurd cc }
lane_tells _ _ k _ _ _ _ (draw.other first last r records drawn plain more) (count.other counts left r2 rest plain2 later) =
    tells_plain (slice_index_or counts k 0) (first + k) k r records drawn plain (lane_tells first last k records drawn counts left more later)
lane_tells _ _ k _ _ _ _ (draw.other first last r records drawn plain more) (count.draw n counts left r2 rest is value below later) = absurd (no_chunk r.kind r.addr is plain)
lane_tells _ _ k _ _ _ _ (draw.other first last r records drawn plain more) (count.closing n counts left r2 rest is value closes later) = absurd (no_chunk r.kind r.addr is plain)
lane_tells _ _ k _ _ _ _ (draw.draw first last number r records drawn is addr below more) (count.other counts left r2 rest plain later) = absurd (no_chunk r.kind r.addr is plain)
lane_tells _ _ zero _ _ _ _ (draw.draw first last number r records drawn is addr below more) (count.draw n counts left r2 rest is2 value below2 later) =
    let place : first + 0 ≡ first = omega arith in
    let rest = lane_tells first last 0 records drawn (n ∷ counts) left more later in
    subst (λ (l : ℕ). Tells n l 0 (r ∷ records) ((first, number) ∷ drawn)) (sym place)
    (subst (λ (x : ℕ). Tells n first 0 (r ∷ records) ((first, x) ∷ drawn)) addr
    (tells_first n first r records drawn is value (omega arith) (subst (λ (l : ℕ). Tells n l 0 records drawn) place rest)))
lane_tells _ _ (suc k) _ _ _ _ (draw.draw first last number r records drawn is addr below more) (count.draw n counts left r2 rest is2 value below2 later) =
    subst (λ (x : ℕ). Tells (slice_index_or counts k 0) (first + suc k) (suc k) (r ∷ records) ((first, x) ∷ drawn)) addr
    (tells_later (slice_index_or counts k 0) (first + suc k) k first r records drawn is (omega arith) (omega arith)
    (lane_tells first last (suc k) records drawn (n ∷ counts) left more later))
lane_tells _ _ k _ _ _ _ (draw.draw first last number r records drawn is addr below more) (count.closing n counts left r2 rest is2 value closes later) = absurd (omega arith)
lane_tells _ _ k _ _ _ _ (draw.closing first last number r records drawn is closes above more) (count.other counts left r2 rest plain later) = absurd (no_chunk r.kind r.addr is plain)
lane_tells _ _ k _ _ _ _ (draw.closing first last number r records drawn is closes above more) (count.draw n counts left r2 rest is2 value below later) = absurd (omega arith)
lane_tells _ _ zero _ _ _ _ (draw.closing first last number r records drawn is closes above more) (count.closing n counts left r2 rest is2 value closes2 later) =
    let place : first + 0 ≡ first = omega arith in
    subst (λ (l : ℕ). Tells n l 0 (r ∷ records) ((first, number) ∷ drawn)) (sym place)
    (tells_closing n first number last r records drawn is value closes above more)
lane_tells _ _ (suc k) _ _ _ _ (draw.closing first last number r records drawn is closes above more) (count.closing n counts left r2 rest is2 value closes2 later) =
    let place : suc first + k ≡ first + suc k = omega arith in
    tells_after (slice_index_or counts k 0) (first + suc k) k first number r records drawn is closes (omega arith)
    (subst (λ (l : ℕ). Tells (slice_index_or counts k 0) l k records drawn) place (lane_tells (suc first) last k records drawn counts left more later))

-- ---- all lanes

-- what a lane drew for the loop
abbrev mine_of : ℕ → List Record → List (ℕ × ℕ) → LaneDraws
mine_of loop records drawn = record { numbers = numbers loop drawn; records = records }

module _ (counts : List ℕ) (loop : ℕ) where
  abbrev limit : ℕ
  limit = slice_index_or counts loop 0

  -- the lanes of these logs, with what each drew
  record AllTell (logs : List (List Record)) (drawn : List (ℕ × ℕ)) : Type 0 where
    lanes : List LaneDraws
    logs_are : map (λ (l : LaneDraws). l.records) lanes ≡ logs
    drawn_is : flat_map (λ (l : LaneDraws). l.numbers) lanes ≡ numbers loop drawn
    each : All (TellsDraws loop limit) lanes

  all_tell : (logs : List (List Record)) (drawn : List (ℕ × ℕ)) → DrewByLogs counts logs drawn → AllTell logs drawn
  all_tell _ _ no_lane = record { lanes = []; logs_are = refl; drawn_is = refl; each = All-nil (TellsDraws loop limit) }
  all_tell _ _ (lane records mine drawn last logs tells told others) =
      let place : 0 + loop ≡ loop = omega arith in
      let one = subst (λ (l : ℕ). Tells limit l loop records mine) place (lane_tells 0 last loop records mine counts told.left tells told.tells) in
      let rest = all_tell logs drawn others in
      record {
        lanes = mine_of loop records mine ∷ rest.lanes;
        logs_are = ap (λ (l : List (List Record)). records ∷ l) rest.logs_are;
        drawn_is = ap (λ (l : List ℕ). numbers loop mine ++ l) rest.drawn_is ∙ sym (numbers-append loop mine drawn);
        each = All-cons (TellsDraws loop limit) (mine_of loop records mine) rest.lanes one rest.each;
      }

  once_small : (n x : ℕ) → x < n → once_below n x ≡ 1
  once_small n x small = grind (arith, nat_tests)

  once_large : (n x : ℕ) → n ≤ x → once_below n x ≡ 0
  once_large n x large = grind (arith, nat_tests)

  pub drew_some : (logs : List (List Record)) (drawn : List (ℕ × ℕ)) → DrewByLogs counts logs drawn → AreEachOnce (numbers loop drawn) → DrewSome logs loop
  drew_some logs drawn drew once =
      let all = all_tell logs drawn drew in
      let given : (x : ℕ) → times_given all.lanes x ≡ once_below once.limit x = λ x. ap (times x) all.drawn_is ∙ once.once x in
      let gave : GaveEachOnce all.lanes once.limit = record {
        once = λ x small. given x ∙ once_small once.limit x small;
        no_other = λ x large. given x ∙ once_large once.limit x large;
      } in
      record {
        limit = min once.limit limit;
        drew = subst (λ (ls : List (List Record)). DrewEachOnce ls loop (min once.limit limit)) all.logs_are (each_once all.lanes loop limit once.limit all.each gave);
      }
