-- Two runs of a fixed task go on alike until they part.
use Rattle.std.proofs.Common.{◌≡◌, refl, ap, sym, ◌∙◌, subst, ◌⊎◌, inl, inr, ℕ, zero, suc, ◌+◌, Bool, true, false, cond, List, [], ◌∷◌, ℤ, pos, negsuc, ◌+ℤ◌, Option, Some, None, arith, length-append}
use Rattle.std.proofs.lemmas.List.Sums.{sum_by-append, sum_by-cons}
use Rattle.std.specs.Prelude.{◌==◌}
use Rattle.kernel_syntax.specs.declared.syntax.Schedule.{Schedule}
use Rattle.kernel_syntax.specs.declared.syntax.Schedule.TheVariants.{Even, Static, Dynamic}
use Rattle.kernel_syntax.specs.Arithmetic.{applied, negated}
use Rattle.kernel_syntax.specs.Tree.{Term, Code, TeamTree, Number, Slot, Tid, Span, Load, Neg, Binary, Done, Set, Store, Update, If, Loop, Parallel, For, Barrier, Critical}
use Rattle.log_format.specs.declared.record.Record.{Record}
use Rattle.log_format.specs.declared.record.Kind.TheVariants as kind
use Rattle.log_format.specs.Fitting.{fitted}
use Rattle.race_model.specs.Trace.{is_region_kind, region_count}
use Rattle.kernel_model.specs.State.{State, Outcome, Gives, Wants, and_then, after, put, put_in, event, assign, state_of}
use Rattle.kernel_model.specs.declared.stop.StopWhy.TheVariants.{LogFull, DivZero, Index}
use Rattle.kernel_model.specs.Value.{Site, Element, element_at, access, read, read_in, loaded, operated, value}
use Rattle.kernel_model.specs.Iterations.{total_of, even_iterations, static_iterations}
use Rattle.kernel_model.specs.Trace.{stored, branch, turns, each, shared, loop_end, forked, run}
use Rattle.kernel_model.proofs.SingleSteps.{with_record}
use Rattle.kernel_model.proofs.Steps.{kept-loaded, kept-put}
use Rattle.kernel_rules.proofs.Adds.{adds_nothing}
use Rattle.certainty_model.specs.Certain.{IsFixed, IsFixedSchedule}
use Rattle.certainty_model.proofs.Pairs.{IsQuiet, Adds, stays, adds_quiet, adds_region, adds_plain, Own, with, IsEven, Pair, Pairs, then-value, then-run, gives-pairs, stops-pairs}

-- ---- records one by one

pub even_more : (c : State) (r : Record) (room : ℕ) → is_region_kind r.kind ≡ false → IsEven c → IsEven (with_record r room c)
even_more c r room plain even =
    even ∙ sym (sum_by-append (λ (x : Record). cond (is_region_kind x.kind) 1 0) c.records (r ∷ []) ∙ ap (λ n. region_count c.records + n) none ∙ omega arith)
  where
    none : region_count (r ∷ []) ≡ 0
    none = sum_by-cons (λ (x : Record). cond (is_region_kind x.kind) 1 0) r [] ∙ ap (λ (b : Bool). cond b 1 0 + 0) plain

even_region : (team : TeamTree) (room : ℕ) (c : State) → IsEven c → IsEven (forked team (with_record (event kind.Region team.line 0 team.span) room c))
even_region team room c even =
    let more = sum_by-append (λ (x : Record). cond (is_region_kind x.kind) 1 0) c.records (event kind.Region team.line 0 team.span ∷ []) in
    let forks = length-append c.forks (record { team = team; slots = c.slots } ∷ []) in
    forks ∙ ap (λ n. n + 1) even ∙ sym more

pair-put_in : (room : ℕ) (r : Record) (c : State) (p q : Own) → is_region_kind r.kind ≡ false → IsEven c → Pair (put_in room r (with c p)) (put_in room r (with c q))
pair-put_in zero r c p q plain even = Pair.stops LogFull r.line c p q even
pair-put_in (suc room) r c p q plain even = Pair.gives tt (with_record r room c) p q (even_more c r room plain even)

put-pairs : (r : Record) → IsQuiet r.kind → is_region_kind r.kind ≡ false → Pairs (put r)
unfolding put
put-pairs r quiet plain = record { adds = λ s. kept-put Adds adds_plain r s (λ room is. adds_quiet r s _ quiet refl refl); pairs = λ c p q even. pair-put_in c.room r c p q plain even }

-- ---- terms

number_or_not : (m n : ℕ) → (m ≡ n) ⊎ (m ≡ n → ⊥)
number_or_not m n = by (m == n) refl
  where
    by : (t : Bool) → (m == n) ≡ t → (m ≡ n) ⊎ (m ≡ n → ⊥)
    by true is = inl (grind arith)
    by false is = inr (λ same. grind arith)

value_or_not : (a b : ℤ) → (a ≡ b) ⊎ (a ≡ b → ⊥)
value_or_not (pos m) (pos n) = elim (number_or_not m n) [ inl same ↦ inl (ap pos same) | inr apart ↦ inr (λ is. apart (let e : m ≡ n = cc in e)) ]
value_or_not (pos m) (negsuc n) = inr (λ is. cc)
value_or_not (negsuc m) (pos n) = inr (λ is. cc)
value_or_not (negsuc m) (negsuc n) = elim (number_or_not m n) [ inl same ↦ inl (ap negsuc same) | inr apart ↦ inr (λ is. apart (let e : m ≡ n = cc in e)) ]

abbrev own : List ℤ → Own → Own
own reads p = record { reads = reads; chunks = p.chunks }

-- the state after a value is read
abbrev read_state : ℕ → ℤ → List ℤ → Element → ℕ → ℕ → State → Own → State
read_state room v reads e site line c p = with (with_record (access kind.Read e site line v) room c) (own reads p)

-- both read a value
pair-values : (room : ℕ) (v w : ℤ) (reads other : List ℤ) (e : Element) (site line : ℕ) (c : State) (p q : Own) → IsEven c
    → (fitted v e.width ≡ fitted w e.width) ⊎ (fitted v e.width ≡ fitted w e.width → ⊥)
    → Pair (Gives (fitted v e.width) (read_state room (fitted v e.width) reads e site line c p)) (Gives (fitted w e.width) (read_state room (fitted w e.width) other e site line c q))
pair-values room v w reads other e site line c p q even (inl same) =
    subst (λ (u : ℤ). Pair (Gives (fitted v e.width) (read_state room (fitted v e.width) reads e site line c p)) (Gives u (read_state room u other e site line c q))) same
    (Pair.gives (fitted v e.width) (with_record (access kind.Read e site line (fitted v e.width)) room c) (own reads p) (own other q)
    (even_more c (access kind.Read e site line (fitted v e.width)) room refl even))
pair-values room v w reads other e site line c p q even (inr apart) = Pair.parts _ _ (record {
  cut = record { core = c; even = even; element = e; site = site; line = line; room = room; left = v; right = w; apart = apart; left_own = own reads p; right_own = own other q };
  left_adds = adds_plain.same _;
  right_adds = adds_plain.same _;
})

pair-read_in : (room : ℕ) (reads other : List ℤ) (e : Element) (site line : ℕ) (c : State) (p q : Own) → IsEven c
    → Pair (read_in room reads e site line (with c p)) (read_in room other e site line (with c q))
pair-read_in zero reads other e site line c p q even = Pair.stops LogFull line c p q even
pair-read_in (suc room) [] [] e site line c p q even = Pair.left_wants c p (Wants (with c q)) even (adds_nothing stays c (with c q) refl refl)
pair-read_in (suc room) [] (w ∷ other) e site line c p q even =
    Pair.left_wants c p (read_in (suc room) (w ∷ other) e site line (with c q)) even (adds_quiet (access kind.Read e site line (fitted w e.width)) c _ tt refl refl)
pair-read_in (suc room) (v ∷ reads) [] e site line c p q even =
    Pair.right_wants c q (read_in (suc room) (v ∷ reads) e site line (with c p)) even (adds_quiet (access kind.Read e site line (fitted v e.width)) c _ tt refl refl)
pair-read_in (suc room) (v ∷ reads) (w ∷ other) e site line c p q even =
    pair-values room v w reads other e site line c p q even (value_or_not (fitted v e.width) (fitted w e.width))

loaded-pairs : (e : Option Element) (line site : ℕ) → Pairs (loaded e line site)
unfolding read
loaded-pairs None line site = stops-pairs Index line
loaded-pairs (Some e) line site = record {
  adds = λ s. kept-loaded Adds adds_plain (Some e) line site s;
  pairs = λ c p q even. pair-read_in c.room p.reads q.reads e site line c p q even;
}

operated-pairs : (v : Option ℤ) (line : ℕ) → Pairs (operated v line)
operated-pairs None line = stops-pairs DivZero line
operated-pairs (Some v) line = gives-pairs v

value-pairs : (at : Site) (e : Term) → Pairs (value at e)
unfolding value
value-pairs at (Number n) = gives-pairs n
value-pairs at (Slot k) = record { adds = λ s. adds_plain.same s; pairs = λ c p q even. Pair.gives _ c p q even }
value-pairs at Tid = gives-pairs (pos at.lane)
value-pairs at Span = gives-pairs (pos at.span)
value-pairs at (Load array index line site) = then-value (value at index) (λ i s. loaded (element_at at.arrays array i) line site s) (value-pairs at index) (λ i. loaded-pairs (element_at at.arrays array i) line site)
value-pairs at (Neg operand) = then-value (value at operand) (λ v s. Gives (negated v) s) (value-pairs at operand) (λ v. gives-pairs (negated v))
value-pairs at (Binary op line left right) =
    then-value (value at left) (λ x s. and_then (value at right s) (λ y s. operated (applied op x y) line s)) (value-pairs at left) (λ x.
    then-value (value at right) (λ y s. operated (applied op x y) line s) (value-pairs at right) (λ y. operated-pairs (applied op x y) line))

-- ---- parts of statements

stored-pairs : (e : Option Element) (v : ℤ) (line site : ℕ) → Pairs (stored e v line site)
stored-pairs None v line site = stops-pairs Index line
stored-pairs (Some e) v line site = put-pairs (access kind.Write e site line (fitted v e.width)) tt refl

bar-pairs : (line : ℕ) → Pairs (put (event kind.Barrier line 0 0))
bar-pairs line = put-pairs (event kind.Barrier line 0 0) tt refl

loop_end-pairs : (nowait : Bool) (end : ℕ) → Pairs (loop_end nowait end)
loop_end-pairs true end = gives-pairs tt
loop_end-pairs false end = bar-pairs end

branch-pairs : (v : ℤ) (if_true if_false : State → Outcome (Unit {0})) → Pairs if_true → Pairs if_false → Pairs (branch v if_true if_false)
branch-pairs (pos zero) if_true if_false one other = other
branch-pairs (pos (suc n)) if_true if_false one other = one
branch-pairs (negsuc n) if_true if_false one other = one

turns-pairs : (n i : ℕ) (turn : ℕ → State → Outcome (Unit {0})) → ((k : ℕ) → Pairs (turn k)) → Pairs (turns n i turn)
turns-pairs zero i turn all = gives-pairs tt
turns-pairs (suc n) i turn all = then-run (turn i) (turns n (suc i) turn) (all i) (turns-pairs n (suc i) turn all)

each-pairs : (is : List ℕ) (turn : ℕ → State → Outcome (Unit {0})) → ((k : ℕ) → Pairs (turn k)) → Pairs (each is turn)
each-pairs [] turn all = gives-pairs tt
each-pairs (i ∷ is) turn all = then-run (turn i) (each is turn) (all i) (each-pairs is turn all)

shared-pairs : (schedule : Schedule) (at : Site) (line total : ℕ) (turn : ℕ → State → Outcome (Unit {0})) → IsFixedSchedule schedule → ((k : ℕ) → Pairs (turn k)) → Pairs (shared schedule at line total turn)
shared-pairs Even at line total turn fixed all = each-pairs (even_iterations total at.lane at.span) turn all
shared-pairs (Static chunk) at line total turn fixed all = each-pairs (static_iterations chunk total at.lane at.span) turn all
shared-pairs (Dynamic chunk) at line total turn fixed all = absurd fixed

-- a variable is set, and then a part goes on
assigned-pairs : (slot : ℕ) (v : ℤ) (part : State → Outcome (Unit {0})) → Pairs part → Pairs (λ s. part (assign slot v s))
assigned-pairs slot v part later = record {
  adds = λ s. adds_plain.chain s (assign slot v s) _ (adds_plain.assigns slot v s) (later.adds (assign slot v s));
  pairs = λ c p q even. later.pairs (assign slot v c) p q even;
}

module _ (team : TeamTree) (fixed : IsFixed team.body) (rest : State → Outcome (Unit {0})) (later : Pairs rest) where
  adds-fork : (room : ℕ) (s : State) → Adds s (state_of (after (put_in room (event kind.Region team.line 0 team.span) s) (λ t. rest (forked team t))))
  adds-fork zero s = adds_plain.same s
  adds-fork (suc room) s = adds_plain.chain s (forked team (with_record (event kind.Region team.line 0 team.span) room s)) _ (adds_region team room s fixed) (later.adds _)

  pair-fork : (room : ℕ) (c : State) (p q : Own) → IsEven c
      → Pair (after (put_in room (event kind.Region team.line 0 team.span) (with c p)) (λ t. rest (forked team t)))
      (after (put_in room (event kind.Region team.line 0 team.span) (with c q)) (λ t. rest (forked team t)))
  pair-fork zero c p q even = Pair.stops LogFull team.line c p q even
  pair-fork (suc room) c p q even = later.pairs (forked team (with_record (event kind.Region team.line 0 team.span) room c)) p q (even_region team room c even)

  -- a region is forked after its record
  fork-pairs : Pairs (λ s. after (put (event kind.Region team.line 0 team.span) s) (λ t. rest (forked team t)))
  unfolding put
  fork-pairs = record { adds = λ s. adds-fork s.room s; pairs = λ c p q even. pair-fork c.room c p q even }

-- ---- statements

pub run-pairs : (at : Site) (code : Code) → IsFixed code → Pairs (run at code)
unfolding run
run-pairs at Done fixed = record { adds = λ s. adds_plain.same s; pairs = λ c p q even. Pair.gives tt c p q even }
run-pairs at (Set slot e rest) fixed =
    then-value (value at e) (λ v s. run at rest (assign slot v s)) (value-pairs at e) (λ v. assigned-pairs slot v (run at rest) (run-pairs at rest fixed))
run-pairs at (Store array index e line site rest) fixed =
    then-value (value at index) (λ i s. and_then (value at e s) (λ v s. after (stored (element_at at.arrays array i) v line site s) (run at rest))) (value-pairs at index) (λ i.
    then-value (value at e) (λ v s. after (stored (element_at at.arrays array i) v line site s) (run at rest)) (value-pairs at e) (λ v.
    then-run (stored (element_at at.arrays array i) v line site) (run at rest) (stored-pairs (element_at at.arrays array i) v line site) (run-pairs at rest fixed)))
run-pairs at (Update array index e minus line site rest) fixed = absurd fixed
run-pairs at (If test if_true if_false rest) fixed =
    then-value (value at test) (λ v s. after (branch v (run at if_true) (run at if_false) s) (run at rest)) (value-pairs at test) (λ v.
    then-run (branch v (run at if_true) (run at if_false)) (run at rest)
    (branch-pairs v (run at if_true) (run at if_false) (run-pairs at if_true fixed.0) (run-pairs at if_false fixed.1)) (run-pairs at rest fixed.2))
run-pairs at (Loop slot from to body rest) fixed =
    then-value (value at from) (λ a s. and_then (value at to s) (λ b s. after (turns (total_of a b) 0 (λ i s. run at body (assign slot (a +ℤ pos i) s)) s) (run at rest))) (value-pairs at from) (λ a.
    then-value (value at to) (λ b s. after (turns (total_of a b) 0 (λ i s. run at body (assign slot (a +ℤ pos i) s)) s) (run at rest)) (value-pairs at to) (λ b.
    then-run (turns (total_of a b) 0 (λ i s. run at body (assign slot (a +ℤ pos i) s))) (run at rest)
    (turns-pairs (total_of a b) 0 (λ i s. run at body (assign slot (a +ℤ pos i) s)) (λ i. assigned-pairs slot (a +ℤ pos i) (run at body) (run-pairs at body fixed.0)))
    (run-pairs at rest fixed.1)))
run-pairs at (Parallel span line end body rest) fixed =
    fork-pairs (record { span = span; line = line; end = end; body = body }) fixed.0 (run at rest) (run-pairs at rest fixed.1)
run-pairs at (For slot from to schedule nowait line end body rest) fixed =
    then-value (value at from) (λ a s. and_then (value at to s) (λ b s. after (shared schedule at line (total_of a b) (λ i s. run at body (assign slot (a +ℤ pos i) s)) s) (λ s. after (loop_end nowait end s) (run at rest)))) (value-pairs at from) (λ a.
    then-value (value at to) (λ b s. after (shared schedule at line (total_of a b) (λ i s. run at body (assign slot (a +ℤ pos i) s)) s) (λ s. after (loop_end nowait end s) (run at rest))) (value-pairs at to) (λ b.
    then-run (shared schedule at line (total_of a b) (λ i s. run at body (assign slot (a +ℤ pos i) s))) (λ s. after (loop_end nowait end s) (run at rest))
    (shared-pairs schedule at line (total_of a b) (λ i s. run at body (assign slot (a +ℤ pos i) s)) fixed.0 (λ i. assigned-pairs slot (a +ℤ pos i) (run at body) (run-pairs at body fixed.1)))
    (then-run (loop_end nowait end) (run at rest) (loop_end-pairs nowait end) (run-pairs at rest fixed.2))))
run-pairs at (Barrier line rest) fixed = then-run (put (event kind.Barrier line 0 0)) (run at rest) (bar-pairs line) (run-pairs at rest fixed)
run-pairs at (Critical mutex line end body rest) fixed = absurd fixed
