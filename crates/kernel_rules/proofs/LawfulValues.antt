-- The values of a lawful task are of 64 bits, and what it records where it ends is of the table.
use Rattle.std.proofs.Common.{◌≡◌, refl, sym, subst, ℕ, zero, suc, ◌+◌, ◌-◌, ◌*◌, ◌/◌, ◌%◌, ◌^◌, ◌<◌, ◌≤◌, min, Bool, true, false, cond, nat_lt, List, [], ◌∷◌, slice_index_or, ℤ, pos, negsuc, ◌+ℤ◌, ◌-ℤ◌, ◌≤ℤ◌, Option, Some, None, IfSome, All, FitsSigned, w64, arith, le_refl}
use Rattle.std.specs.Prelude.{◌==◌}
use Rattle.std.specs.List.{range_with_len}
use Rattle.std.specs.Int.RustNames.{int_rem}
use Rattle.std.proofs.lemmas.Int.{ints}
use Rattle.std.proofs.lemmas.List.Elements.{All-nil, All-cons, All-head, All-tail, All-set, All-filter}
use Rattle.std.proofs.lemmas.Nat.{div-add-mod', mul-le}
use Rattle.log_format.specs.declared.format.TheConstants.{FORMAT}
use Rattle.log_format.specs.declared.record.Record.{Record}
use Rattle.log_format.specs.declared.record.Kind.TheVariants as kind
use Rattle.log_format.specs.Table.{IsTabled}
use Rattle.kernel_syntax.specs.declared.syntax.Op.{Op}
use Rattle.kernel_syntax.specs.declared.syntax.Op.TheVariants.{Add, Sub, Mul, Div, Rem, Eq, Ne, Lt, Le, Gt, Ge}
use Rattle.kernel_syntax.specs.declared.syntax.Schedule.{Schedule}
use Rattle.kernel_syntax.specs.declared.syntax.Schedule.TheVariants.{Even, Static, Dynamic}
use Rattle.log_format.specs.Fitting.{wrapped}
use Rattle.kernel_syntax.specs.Arithmetic.{applied, quotient, remainder, truth}
use Rattle.kernel_syntax.specs.Bounds.{IsLine, IsPlace, IsSpan, IsBoundedTerm, IsBoundedCode, IsBoundedSchedule}
use Rattle.kernel_syntax.specs.Bounds.{IsBounded}
use Rattle.kernel_syntax.specs.Layout.{ArePlaced, elements}
use Rattle.kernel_syntax.specs.Program.{Program}
use Rattle.kernel_syntax.proofs.Placing.{bounded_arrays_are_placed}
use Rattle.kernel_syntax.specs.Share.{even_share_of}
use Rattle.kernel_syntax.specs.Tree.{Term, Code, TeamTree, Number, Slot, Tid, Span, Load, Neg, Binary, Done, Set, Store, Update, If, Loop, Parallel, For, Barrier, Critical}
use Rattle.kernel_syntax.proofs.Fitting.{fitted_fits, wrapped_fits_word}
use Rattle.kernel_model.specs.State.{State, Fork, Outcome, Gives, Stops, Wants, and_then, after, put, put_in, event, assign, state_of, reads_of, chunks_of}
use Rattle.kernel_model.specs.Value.{Site, Element, element_at, read, read_in, loaded, operated, value}
use Rattle.kernel_model.specs.Iterations.{count_of, total_of, even_iterations, static_iterations, chunk_count, chunk_iterations, below}
use Rattle.kernel_model.specs.Trace.{stored, updated, amount_of, branch, turns, each, draw, draw_in, draws, shared, loop_end, forked, run, task, Start, site_of, state_at, Ended, ending_of}
use Rattle.kernel_model.specs.Folder.{IsTraced, own_trace}
use Rattle.kernel_model.specs.Lawful.{TermFits, CodeFits}
use Rattle.kernel_rules.proofs.Adds.{AddsSo, StaysSo, AreSo, adds_nothing, adds_record, adds_fork, adds_chain, each_stays, one_so, fork_so}
use Rattle.kernel_rules.proofs.LawfulRecords.{IfGives}
use Rattle.kernel_model.proofs.Turns.{share_within}
use Rattle.kernel_rules.proofs.Tabled.{IsPlacedElement, placed_element, tabled_read, tabled_write, tabled_update, tabled_barrier, tabled_end, tabled_region, tabled_lock, tabled_unlock, tabled_chunk}

-- ---- values

abbrev pub IsValue : ℤ → Type 0
IsValue v = FitsSigned w64 v

abbrev pub AreValues : List ℤ → Type 0
AreValues slots = All IsValue slots

small_value : (n : ℕ) → n < 2 ^ 63 → IsValue (pos n)
small_value n small = record { sfits = omega arith }

pub zero_value : IsValue (pos 0)
zero_value = small_value 0 (omega arith)

-- a remainder lies no further from 0 than what is divided
rest_value : (x y : ℤ) → IsValue x → IsValue (int_rem x y)
rest_value (pos a) (pos b) fits = record { sfits = omega (arith, ints, fits.sfits, div-add-mod' a b) }
rest_value (pos a) (negsuc b) fits = record { sfits = omega (arith, ints, fits.sfits, div-add-mod' a (suc b)) }
rest_value (negsuc a) (pos b) fits = record { sfits = omega (arith, ints, fits.sfits, div-add-mod' (suc a) b) }
rest_value (negsuc a) (negsuc b) fits = record { sfits = omega (arith, ints, fits.sfits, div-add-mod' (suc a) (suc b)) }

truth_value : (b : Bool) → IsValue (truth b)
truth_value true = small_value 1 (omega arith)
truth_value false = zero_value

word_value : (z : ℤ) → IsValue (wrapped (2 ^ 64) z)
word_value z = wrapped_fits_word (2 ^ 64) z (omega arith) (omega arith)

-- the result of an operation
abbrev IsResult : Option ℤ → Type 0
IsResult o = IfSome o IsValue

quotient_value : (x y : ℤ) → IsResult (quotient x y)
quotient_value x (pos zero) = tt
quotient_value x (pos (suc y)) = word_value _
quotient_value x (negsuc y) = word_value _

remainder_value : (x y : ℤ) → IsValue x → IsResult (remainder x y)
remainder_value x (pos zero) fits = tt
remainder_value x (pos (suc y)) fits = rest_value x (pos (suc y)) fits
remainder_value x (negsuc y) fits = rest_value x (negsuc y) fits

applied_value : (op : Op) (x y : ℤ) → IsValue x → IsResult (applied op x y)
applied_value Add x y fits = word_value _
applied_value Sub x y fits = word_value _
applied_value Mul x y fits = word_value _
applied_value Div x y fits = quotient_value x y
applied_value Rem x y fits = remainder_value x y fits
applied_value Eq x y fits = truth_value _
applied_value Ne x y fits = truth_value _
applied_value Lt x y fits = truth_value _
applied_value Le x y fits = truth_value _
applied_value Gt x y fits = truth_value _
applied_value Ge x y fits = truth_value _

slot_value : (slots : List ℤ) (k : ℕ) → AreValues slots → IsValue (slice_index_or slots k (pos 0))
slot_value [] k all = zero_value
slot_value (v ∷ slots) zero all = All-head IsValue v slots all
slot_value (v ∷ slots) (suc k) all = slot_value slots k (All-tail IsValue v slots all)

-- what lies between two values is one
between : (a z b : ℤ) → a ≤ℤ z → z ≤ℤ b → IsValue a → IsValue b → IsValue z
between a (pos z) (pos b) low high from to = let top = to.sfits in record { sfits = omega (arith, ints) }
between a (pos z) (negsuc b) low high from to = absurd (omega (arith, ints))
between (pos a) (negsuc z) b low high from to = absurd (omega (arith, ints))
between (negsuc a) (negsuc z) b low high from to = let bottom = from.sfits in record { sfits = omega (arith, ints) }

-- the value of a loop's variable in a turn
turn_value : (a b : ℤ) (k : ℕ) → IsValue a → IsValue b → k < total_of a b → IsValue (a +ℤ pos k)
turn_value a b k from to turn = by (b -ℤ a) refl turn
  where
    by : (d : ℤ) → b -ℤ a ≡ d → k < count_of d → IsValue (a +ℤ pos k)
    by (pos n) is turn =
        let lt : k < n = turn in
        between a (a +ℤ pos k) b (omega (arith, ints)) (omega (arith, ints)) from to
    by (negsuc n) is turn = absurd (omega arith)

-- a loop of at most so many turns
total_small : (a b : ℤ) → IsValue a → IsValue b → total_of a b < 2 ^ 64
total_small a b from to = by (b -ℤ a) refl
  where
    by : (d : ℤ) → b -ℤ a ≡ d → count_of d < 2 ^ 64
    by (pos n) is = omega (arith, ints, from.sfits, to.sfits, is)
    by (negsuc n) is = omega arith

chunks_small : (chunk total : ℕ) → 1 ≤ chunk → total < 2 ^ 64 → chunk_count chunk total < 2 ^ 64
chunks_small chunk total some small =
    let whole : total / chunk * 1 ≤ total / chunk * chunk = mul-le (total / chunk) 1 (total / chunk) chunk (le_refl (total / chunk)) some in
    omega (arith, div-add-mod' total chunk, whole)

-- ---- iterations

range_below : (total a n : ℕ) → a + n ≤ total → All (λ k. k < total) (range_with_len a n)
range_below total a zero within = All-nil (λ k. k < total)
range_below total a (suc n) within = All-cons (λ k. k < total) a (range_with_len (a + 1) n) (omega arith) (range_below total (a + 1) n (omega arith))

even_below : (total lane span : ℕ) → lane < span → All (λ k. k < total) (even_iterations total lane span)
even_below total lane span within = range_below total (even_share_of total lane span).0 (even_share_of total lane span).1 (share_within total lane span within)

static_below : (chunk total lane span : ℕ) → All (λ k. k < total) (static_iterations chunk total lane span)
static_below chunk total lane span = All-filter (λ i. (i / chunk) % span == lane) (λ k. k < total) (below total) (range_below total 0 total (omega arith))

range_ends : (total a n : ℕ) → n ≤ total - a → All (λ k. k < total) (range_with_len a n)
range_ends total a zero short = All-nil (λ k. k < total)
range_ends total a (suc n) short = range_below total a (suc n) (omega arith)

chunk_below : (chunk total q : ℕ) → All (λ k. k < total) (chunk_iterations chunk total q)
chunk_below chunk total q = range_ends total (q * chunk) (min chunk (total - q * chunk)) (shorter chunk (total - q * chunk))
  where
    shorter : (a b : ℕ) → min a b ≤ b
    shorter a b = omega arith

-- ---- what a part records and forks

-- a region that is forked: its locals are values, and its lanes go on so
pub record IsValueFork (f : Fork) : Type 0 where
  pub slots : AreValues f.slots
  pub numbers : CodeFits f.team.body
  pub bounded : IsBoundedCode f.team.body
  pub ends : IsLine f.team.end
  pub span : IsSpan f.team.span

abbrev HasTabled : List Record → List Fork → Type 0
HasTabled = AreSo (IsTabled FORMAT) IsValueFork

stays : StaysSo HasTabled
stays = each_stays (IsTabled FORMAT) IsValueFork

-- where a part gives a value: the value, the locals, and what was added
abbrev pub Does : {A : Type 0} → (A → Type 0) → State → Outcome A → Type 0
Does P s m = IfGives m (λ a t. P a × AreValues t.slots × AddsSo HasTabled s t)

abbrev pub Any : Unit {0} → Type 0
Any u = Unit {0}

does_chain : {A : Type 0} (P : A → Type 0) (s t : State) (m : Outcome A) → AddsSo HasTabled s t → Does P t m → Does P s m
does_chain P s t (Gives a u) one does = (does.0, does.1, adds_chain stays s t u one does.2)
does_chain P s t (Stops why line u) one does = tt
does_chain P s t (Wants u) one does = tt

does_and_then : {A B : Type 0} (P : A → Type 0) (Q : B → Type 0) (s : State) (m : Outcome A) (next : A → State → Outcome B) → Does P s m →
    ((a : A) (t : State) → P a → AreValues t.slots → Does Q t (next a t)) → Does Q s (and_then m next)
does_and_then P Q s (Gives a t) next first later = does_chain Q s t (next a t) first.2 (later a t first.0 first.1)
does_and_then P Q s (Stops why line t) next first later = tt
does_and_then P Q s (Wants t) next first later = tt

does_after : (s : State) (m : Outcome (Unit {0})) (next : State → Outcome (Unit {0})) → Does Any s m →
    ((t : State) → AreValues t.slots → Does Any t (next t)) → Does Any s (after m next)
does_after s (Gives a t) next first later = does_chain Any s t (next t) first.2 (later t first.1)
does_after s (Stops why line t) next first later = tt
does_after s (Wants t) next first later = tt

does_nothing : (s : State) → AreValues s.slots → Does Any s (Gives tt s)
does_nothing s slots = (tt, slots, adds_nothing stays s s refl refl)

does_put_in : (room : ℕ) (r : Record) (s : State) → IsTabled FORMAT r → AreValues s.slots → Does Any s (put_in room r s)
does_put_in zero r s tabled slots = tt
does_put_in (suc room) r s tabled slots = (tt, slots, adds_record r s _ (one_so (IsTabled FORMAT) IsValueFork r tabled) refl refl)

pub does_put : (r : Record) (s : State) → IsTabled FORMAT r → AreValues s.slots → Does Any s (put r s)
unfolding put
does_put r s tabled slots = does_put_in s.room r s tabled slots

does_assigned : (slot : ℕ) (v : ℤ) (s : State) (m : Outcome (Unit {0})) → IsValue v → AreValues s.slots →
    (AreValues (assign slot v s).slots → Does Any (assign slot v s) m) → Does Any s m
does_assigned slot v s m fits slots does =
    does_chain Any s (assign slot v s) m (adds_nothing stays s (assign slot v s) refl refl) (does (All-set IsValue s.slots slot v fits slots))

does_branch : (v : ℤ) (if_true if_false : State → Outcome (Unit {0})) (s : State) → Does Any s (if_true s) → Does Any s (if_false s) →
    Does Any s (branch v if_true if_false s)
does_branch (pos zero) if_true if_false s one other = other
does_branch (pos (suc n)) if_true if_false s one other = one
does_branch (negsuc n) if_true if_false s one other = one

does_turns : (total n i : ℕ) (turn : ℕ → State → Outcome (Unit {0})) (s : State) → i + n ≤ total → AreValues s.slots →
    ((k : ℕ) (t : State) → k < total → AreValues t.slots → Does Any t (turn k t)) → Does Any s (turns n i turn s)
does_turns total zero i turn s within slots all = does_nothing s slots
does_turns total (suc n) i turn s within slots all =
    does_after s (turn i s) _ (all i s (omega arith) slots) (λ t there. does_turns total n (suc i) turn t (omega arith) there all)

does_each : (total : ℕ) (is : List ℕ) (turn : ℕ → State → Outcome (Unit {0})) (s : State) → All (λ k. k < total) is → AreValues s.slots →
    ((k : ℕ) (t : State) → k < total → AreValues t.slots → Does Any t (turn k t)) → Does Any s (each is turn s)
does_each total [] turn s within slots all = does_nothing s slots
does_each total (i ∷ is) turn s within slots all =
    does_after s (turn i s) _ (all i s (All-head (λ k. k < total) i is within) slots)
    (λ t there. does_each total is turn t (All-tail (λ k. k < total) i is within) there all)

abbrev AnyNumber : ℕ → Type 0
AnyNumber q = Unit {0}

does_draw_in : (room : ℕ) (chunks : List ℕ) (line n : ℕ) (s : State) → IsLine line → n < 2 ^ 64 → AreValues s.slots →
    Does AnyNumber s (draw_in room chunks line n s)
does_draw_in zero chunks line n s is small slots = tt
does_draw_in (suc room) [] line n s is small slots = tt
does_draw_in (suc room) (q ∷ chunks) line n s is small slots = (tt, slots, adds_record _ s _ (one_so (IsTabled FORMAT) IsValueFork _ (tabled_chunk line q n is small)) refl refl)

does_draw : (line n : ℕ) (s : State) → IsLine line → n < 2 ^ 64 → AreValues s.slots → Does AnyNumber s (draw line n s)
unfolding draw
does_draw line n s is small slots = does_draw_in s.room s.chunks line n s is small slots

does_either : (b : Bool) (m : Outcome (Unit {0})) (s : State) → AreValues s.slots → Does Any s m → Does Any s (cond b m (Gives tt s))
does_either true m s slots one = one
does_either false m s slots one = does_nothing s slots

does_draws : (fuel line n : ℕ) (chunk : ℕ → State → Outcome (Unit {0})) (s : State) → IsLine line → n < 2 ^ 64 → AreValues s.slots →
    ((k : ℕ) (t : State) → AreValues t.slots → Does Any t (chunk k t)) → Does Any s (draws fuel line n chunk s)
does_draws zero line n chunk s is small slots all = tt
does_draws (suc fuel) line n chunk s is small slots all =
    does_and_then AnyNumber Any s (draw line n s) _ (does_draw line n s is small slots) (λ q t any there.
    does_either (nat_lt q n) _ t there
    (does_after t (chunk q t) (draws fuel line n chunk) (all q t there) (λ u then. does_draws fuel line n chunk u is small then all)))

-- ---- a task's place: its arrays, and its lane and span, which are values

module _ (at : Site) (words : ℕ) (placed : ArePlaced at.arrays words) (within : at.lane < at.span) (few : at.span ≤ 64) where
  does_read_in : (room : ℕ) (reads : List ℤ) (e : Element) (line site : ℕ) (s : State) → IsPlacedElement e → IsPlace line site → AreValues s.slots →
      Does IsValue s (read_in room reads e site line s)
  does_read_in zero reads e line site s there place slots = tt
  does_read_in (suc room) [] e line site s there place slots = tt
  does_read_in (suc room) (v ∷ reads) e line site s there place slots =
      (fitted_fits v e.width there.width, slots, adds_record _ s _ (one_so (IsTabled FORMAT) IsValueFork _ (tabled_read e site line v there place)) refl refl)

  does_loaded : (e : Option Element) (line site : ℕ) (s : State) → IfSome e IsPlacedElement → IsPlace line site → AreValues s.slots →
      Does IsValue s (loaded e line site s)
  unfolding read
  does_loaded None line site s there place slots = tt
  does_loaded (Some e) line site s there place slots = does_read_in s.room s.reads e line site s there place slots

  does_operated : (o : Option ℤ) (line : ℕ) (s : State) → IsResult o → AreValues s.slots → Does IsValue s (operated o line s)
  does_operated None line s fits slots = tt
  does_operated (Some v) line s fits slots = (fits, slots, adds_nothing stays s s refl refl)

  does_value : (e : Term) (s : State) → TermFits e → IsBoundedTerm e → AreValues s.slots → Does IsValue s (value at e s)
  unfolding value
  does_value (Number n) s fits bounded slots = (fits, slots, adds_nothing stays s s refl refl)
  does_value (Slot k) s fits bounded slots = (slot_value s.slots k slots, slots, adds_nothing stays s s refl refl)
  does_value Tid s fits bounded slots = (small_value at.lane (omega arith), slots, adds_nothing stays s s refl refl)
  does_value Span s fits bounded slots = (small_value at.span (omega arith), slots, adds_nothing stays s s refl refl)
  does_value (Load array index line site) s fits bounded slots =
      does_and_then IsValue IsValue s (value at index s) _ (does_value index s fits bounded.1 slots) (λ i t found there.
      does_loaded (element_at at.arrays array i) line site t (placed_element at.arrays words array i placed) bounded.0 there)
  does_value (Neg operand) s fits bounded slots =
      does_and_then IsValue IsValue s (value at operand s) _ (does_value operand s fits bounded slots) (λ v t is there.
      (word_value _, there, adds_nothing stays t t refl refl))
  does_value (Binary op line left right) s fits bounded slots =
      does_and_then IsValue IsValue s (value at left s) _ (does_value left s fits.0 bounded.1 slots) (λ x t is there.
      does_and_then IsValue IsValue t (value at right t) _ (does_value right t fits.1 bounded.2 there) (λ y u also then.
      does_operated (applied op x y) line u (applied_value op x y is) then))

  does_stored : (e : Option Element) (v : ℤ) (line site : ℕ) (s : State) → IfSome e IsPlacedElement → IsPlace line site → AreValues s.slots →
      Does Any s (stored e v line site s)
  does_stored None v line site s there place slots = tt
  does_stored (Some e) v line site s there place slots = does_put _ s (tabled_write e site line v there place) slots

  does_updated : (e : Option Element) (v : ℤ) (line site : ℕ) (s : State) → IfSome e IsPlacedElement → IsPlace line site → AreValues s.slots →
      Does Any s (updated e v line site s)
  does_updated None v line site s there place slots = tt
  does_updated (Some e) v line site s there place slots = does_put _ s (tabled_update e site line v there place) slots

  does_shared : (schedule : Schedule) (line total : ℕ) (turn : ℕ → State → Outcome (Unit {0})) (s : State) → IsBoundedSchedule schedule → IsLine line →
      total < 2 ^ 64 → AreValues s.slots → ((k : ℕ) (t : State) → k < total → AreValues t.slots → Does Any t (turn k t)) →
      Does Any s (shared schedule at line total turn s)
  does_shared Even line total turn s chunk is small slots all =
      does_each total (even_iterations total at.lane at.span) turn s (even_below total at.lane at.span within) slots all
  does_shared (Static chunk) line total turn s some is small slots all =
      does_each total (static_iterations chunk total at.lane at.span) turn s (static_below chunk total at.lane at.span) slots all
  does_shared (Dynamic chunk) line total turn s some is small slots all =
      does_draws s.room line (chunk_count chunk total) _ s is (chunks_small chunk total some.some small) slots
      (λ q t there. does_each total (chunk_iterations chunk total q) turn t (chunk_below chunk total q) there all)

  does_loop_end : (nowait : Bool) (end : ℕ) (s : State) → IsLine end → AreValues s.slots → Does Any s (loop_end nowait end s)
  does_loop_end true end s is slots = does_nothing s slots
  does_loop_end false end s is slots = does_put _ s (tabled_barrier end is) slots

  does_forked : (team : TeamTree) (s : State) (next : State → Outcome (Unit {0})) → IsValueFork (record { team = team; slots = s.slots }) →
      (AreValues (forked team s).slots → Does Any (forked team s) (next (forked team s))) → Does Any s (next (forked team s))
  does_forked team s next fork later = does_chain Any s (forked team s) (next (forked team s)) adds (later fork.slots)
    where
      adds : AddsSo HasTabled s (forked team s)
      adds = adds_fork s (forked team s) (record { team = team; slots = s.slots }) (fork_so (IsTabled FORMAT) IsValueFork _ fork) refl refl

  -- What a lawful body records where it ends is of the table, and its locals are values, and those of its regions.
  pub does_run : (code : Code) (s : State) → CodeFits code → IsBoundedCode code → AreValues s.slots → Does Any s (run at code s)
  unfolding run
  does_run Done s fits bounded slots = does_nothing s slots
  does_run (Set slot e rest) s fits bounded slots =
      does_and_then IsValue Any s (value at e s) _ (does_value e s fits.0 bounded.0 slots) (λ v t is there.
      does_assigned slot v t (run at rest (assign slot v t)) is there (does_run rest (assign slot v t) fits.1 bounded.1))
  does_run (Store array index e line site rest) s fits bounded slots =
      does_and_then IsValue Any s (value at index s) _ (does_value index s fits.0 bounded.1 slots) (λ i t is there.
      does_and_then IsValue Any t (value at e t) _ (does_value e t fits.1 bounded.2 there) (λ v u also then.
      does_after u (stored (element_at at.arrays array i) v line site u) (run at rest)
      (does_stored (element_at at.arrays array i) v line site u (placed_element at.arrays words array i placed) bounded.0 then)
      (λ w now. does_run rest w fits.2 bounded.3 now)))
  does_run (Update array index e minus line site rest) s fits bounded slots =
      does_and_then IsValue Any s (value at index s) _ (does_value index s fits.0 bounded.1 slots) (λ i t is there.
      does_and_then IsValue Any t (value at e t) _ (does_value e t fits.1 bounded.2 there) (λ v u also then.
      does_after u (updated (element_at at.arrays array i) (amount_of minus v) line site u) (run at rest)
      (does_updated (element_at at.arrays array i) (amount_of minus v) line site u (placed_element at.arrays words array i placed) bounded.0 then)
      (λ w now. does_run rest w fits.2 bounded.3 now)))
  does_run (If test if_true if_false rest) s fits bounded slots =
      does_and_then IsValue Any s (value at test s) _ (does_value test s fits.0 bounded.0 slots) (λ v t is there.
      does_after t (branch v (run at if_true) (run at if_false) t) (run at rest)
      (does_branch v (run at if_true) (run at if_false) t (does_run if_true t fits.1 bounded.1 there) (does_run if_false t fits.2 bounded.2 there))
      (λ w now. does_run rest w fits.3 bounded.3 now))
  does_run (Loop slot from to body rest) s fits bounded slots =
      does_and_then IsValue Any s (value at from s) _ (does_value from s fits.0 bounded.0 slots) (λ a t first there.
      does_and_then IsValue Any t (value at to t) _ (does_value to t fits.1 bounded.1 there) (λ b u last then.
      does_after u (turns (total_of a b) 0 (λ i w. run at body (assign slot (a +ℤ pos i) w)) u) (run at rest)
      (does_turns (total_of a b) (total_of a b) 0 (λ i w. run at body (assign slot (a +ℤ pos i) w)) u (omega arith) then
      (λ k w turn now. does_assigned slot (a +ℤ pos k) w _ (turn_value a b k first last turn) now
      (does_run body (assign slot (a +ℤ pos k) w) fits.2 bounded.2)))
      (λ w now. does_run rest w fits.3 bounded.3 now)))
  does_run (Parallel span line end body rest) s fits bounded slots =
      does_after s (put (event kind.Region line 0 span) s) _ (does_put _ s (tabled_region line span bounded.1 bounded.0) slots) (λ t there.
      does_forked (record { span = span; line = line; end = end; body = body }) t (run at rest)
      (record { slots = there; numbers = fits.0; bounded = bounded.3; ends = bounded.2; span = bounded.0 })
      (does_run rest _ fits.1 bounded.4))
  does_run (For slot from to schedule nowait line end body rest) s fits bounded slots =
      does_and_then IsValue Any s (value at from s) _ (does_value from s fits.0 bounded.0 slots) (λ a t first there.
      does_and_then IsValue Any t (value at to t) _ (does_value to t fits.1 bounded.1 there) (λ b u last then.
      does_after u (shared schedule at line (total_of a b) (λ i w. run at body (assign slot (a +ℤ pos i) w)) u) _
      (does_shared schedule line (total_of a b) (λ i w. run at body (assign slot (a +ℤ pos i) w)) u bounded.2 bounded.3 (total_small a b first last) then
      (λ k w turn now. does_assigned slot (a +ℤ pos k) w _ (turn_value a b k first last turn) now
      (does_run body (assign slot (a +ℤ pos k) w) fits.2 bounded.5)))
      (λ w now. does_after w (loop_end nowait end w) (run at rest) (does_loop_end nowait end w bounded.4 now)
      (λ x here. does_run rest x fits.3 bounded.6 here))))
  does_run (Barrier line rest) s fits bounded slots =
      does_after s (put (event kind.Barrier line 0 0) s) (run at rest) (does_put _ s (tabled_barrier line bounded.0) slots)
      (λ t there. does_run rest t fits bounded.1 there)
  does_run (Critical mutex line end body rest) s fits bounded slots =
      does_after s (put (event kind.Lock line mutex 0) s) _ (does_put _ s (tabled_lock line mutex bounded.1 bounded.0) slots) (λ t there.
      does_after t (run at body t) _ (does_run body t fits.0 bounded.3 there) (λ u then.
      does_after u (put (event kind.Unlock end mutex 0) u) (run at rest) (does_put _ u (tabled_unlock end mutex bounded.2 bounded.0) then)
      (λ w now. does_run rest w fits.1 bounded.4 now)))

-- ---- a whole task

-- a start whose locals are values
pub record IsValueStart (start : Start) : Type 0 where
  pub slots : AreValues start.slots
  pub numbers : CodeFits start.team.body
  pub bounded : IsBoundedCode start.team.body
  pub ends : IsLine start.team.end
  pub within : start.lane < start.team.span
  pub few : start.team.span ≤ 64

-- a lane of such a fork
pub lane_values : (f : Fork) (lane : ℕ) → IsValueFork f → lane < f.team.span → IsValueStart (record { team = f.team; lane = lane; slots = f.slots })
lane_values f lane fork within =
    record { slots = fork.slots; numbers = fork.numbers; bounded = fork.bounded; ends = fork.ends; within = within; few = fork.span.limit }

-- the records of a task that ends are of the table, and its regions start with values
pub record HasValues (records : List Record) (forks : List Fork) : Type 0 where
  pub tabled : All (IsTabled FORMAT) records
  pub begin : All IsValueFork forks

module _ (program : Program) (bounded : IsBounded program) (start : Start) (begins : IsValueStart start) where
  does_task : (reads : List ℤ) (chunks : List ℕ) → Does Any (state_at start reads chunks) (task program start reads chunks)
  unfolding task
  does_task reads chunks =
      let first = state_at start reads chunks in
      let site = site_of program start in
      does_after first (run site start.team.body first) (put (event kind.End start.team.end 0 0))
      (does_run site (elements program.arrays) (bounded_arrays_are_placed program bounded) begins.within begins.few
      start.team.body first begins.numbers begins.bounded begins.slots)
      (λ t there. does_put _ t (tabled_end start.team.end begins.ends) there)

  where_it_ends : (reads : List ℤ) (chunks : List ℕ) (m : Outcome (Unit {0})) → Does Any (state_at start reads chunks) m → ending_of m ≡ Ended →
      HasValues (state_of m).records (state_of m).forks
  where_it_ends reads chunks (Gives a t) does ends = record {
    tabled = subst (All (IsTabled FORMAT)) (sym does.2.records_are) does.2.is.0;
    begin = subst (All IsValueFork) (sym does.2.forks_are) does.2.is.1;
  }
  where_it_ends reads chunks (Stops why line t) does ends = absurd cc
  where_it_ends reads chunks (Wants t) does ends = absurd cc

  pub traced_values : (records : List Record) → IsTraced program start records → HasValues records (own_trace program start records).forks
  traced_values records traced =
      subst (λ rs. HasValues rs (own_trace program start records).forks) traced.records_are
      (where_it_ends (reads_of records) (chunks_of records) (task program start (reads_of records) (chunks_of records))
      (does_task (reads_of records) (chunks_of records)) traced.ended)
