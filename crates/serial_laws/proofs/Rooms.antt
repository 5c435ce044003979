-- A part of a task does the same where its log has more room, until the room is used up.
use Rattle.std.proofs.Common.{◌≡◌, refl, ap, sym, ◌∙◌, subst, ℕ, zero, suc, min, ◌<◌, ◌≤◌, Bool, true, false, cond, nat_lt, List, [], ◌∷◌, ◌++◌, ℤ, pos, negsuc, ◌+ℤ◌, Option, Some, None, arith, append_assoc}
use Rattle.std.proofs.lemmas.List.{append-nil}
use Rattle.kernel_syntax.specs.declared.syntax.Schedule.{Schedule}
use Rattle.kernel_syntax.specs.declared.syntax.Schedule.TheVariants.{Even, Static, Dynamic}
use Rattle.kernel_syntax.specs.Arithmetic.{applied, negated}
use Rattle.kernel_syntax.specs.Program.{code_of}
use Rattle.kernel_syntax.specs.Tree.{Term, Code, TeamTree, Number, Slot, Tid, Span, Load, Neg, Binary, Done, Set, Store, Update, If, Loop, Parallel, For, Barrier, Critical}
use Rattle.log_format.specs.declared.record.Record.{Record}
use Rattle.log_format.specs.declared.record.Kind.{Kind}
use Rattle.log_format.specs.declared.record.Kind.TheVariants as kind
use Rattle.log_format.specs.Fitting.{fitted}
use Rattle.race_model.specs.Trace.{is_region_kind}
use Rattle.kernel_model.specs.Drawing.{turn_from}
use Rattle.kernel_model.specs.Growth.{Grows}
use Rattle.kernel_model.specs.Iterations.{total_of, even_iterations, static_iterations, chunk_count, chunk_iterations}
use Rattle.kernel_model.specs.State.{State, Outcome, Gives, Stops, Wants, and_then, after, put, put_in, event, assign, state_of}
use Rattle.kernel_model.specs.declared.stop.StopWhy.{StopWhy}
use Rattle.kernel_model.specs.declared.stop.StopWhy.TheVariants.{LogFull, DivZero, Index}
use Rattle.kernel_model.specs.Trace.{amount_of, branch, changed, turns, each, drawn, draw, draw_in, draws, shared, loop_end, forked, run}
use Rattle.kernel_model.specs.Value.{Site, Element, element_at, access, read, read_in, loaded, operated, value}
use Rattle.kernel_model.proofs.Growing.{grows-plain, grows-put, run-grows}
use Rattle.kernel_model.proofs.Steps.{Part, kept-and_then, kept-draws, kept-drawn, kept-loaded}
use Rattle.serial_run.specs.declared.frame.Frame.{Frame}
use Rattle.serial_run.specs.declared.frame.Frame.TheVariants as frame
use Rattle.serial_run.specs.Resting.{dealt_from, frame_part, frames_rest}

-- the state with this room
abbrev pub roomy : ℕ → State → State
roomy k c = record c { room = k }

abbrev pub IsWanting : {A : Type 0} → Outcome A → Type 0
IsWanting (Wants s) = Unit {0}
IsWanting _ = ⊥

-- it puts a record more, or wants a value first
pub record GoesOn {A : Type 0} (c : State) (o : Outcome A) : Type 0 where
  pub more : List Record
  pub records_are : (state_of o).records ≡ c.records ++ more
  pub wants : more ≡ [] → IsWanting o

-- The first has less room. Both end alike, or its room is used up and the other goes on from there.
pub data Rooms {A : Type 0} : Outcome A → Outcome A → Type 0 where
  gives : (a : A) (c : State) (k l : ℕ) → k < l → Rooms (Gives a (roomy k c)) (Gives a (roomy l c))
  stops : (why : StopWhy) (line : ℕ) (c : State) (k l : ℕ) → (why ≡ LogFull → ⊥) → Rooms (Stops why line (roomy k c)) (Stops why line (roomy l c))
  wants : (c : State) (k l : ℕ) → Rooms (Wants (roomy k c)) (Wants (roomy l c))
  full : (line : ℕ) (c : State) (o : Outcome A) → GoesOn c o → Rooms (Stops LogFull line c) o

-- so a part
pub record Roomy {A : Type 0} (part : State → Outcome A) : Type 0 where
  pub grows : (s : State) → Grows s (state_of (part s))
  pub rooms : (c : State) (k l : ℕ) → k < l → Rooms (part (roomy k c)) (part (roomy l c))

nothing_both : {X : Type 0} (xs ys : List X) → xs ++ ys ≡ [] → xs ≡ []
nothing_both [] ys none = refl
nothing_both (x ∷ xs) ys none = absurd cc

-- ---- one part after another

module _ {A B : Type 0} (next : A → State → Outcome B) (grows : (a : A) (s : State) → Grows s (state_of (next a s))) where
  goes_later : (c : State) (o : Outcome A) → GoesOn c o → GoesOn c (and_then o next)
  goes_later c (Gives a s) g =
      let later = grows a s in
      record {
        more = g.more ++ later.added;
        records_are = later.records_are ∙ (ap (λ (l : List Record). l ++ later.added) g.records_are ∙ append_assoc c.records g.more later.added);
        wants = λ none. absurd (g.wants (nothing_both g.more later.added none));
      }
  goes_later c (Stops why line s) g = record { more = g.more; records_are = g.records_are; wants = g.wants }
  goes_later c (Wants s) g = record { more = g.more; records_are = g.records_are; wants = g.wants }

  rooms-and_then : (m o : Outcome A) → Rooms m o → ((a : A) (c : State) (k l : ℕ) → k < l → Rooms (next a (roomy k c)) (next a (roomy l c))) → Rooms (and_then m next) (and_then o next)
  rooms-and_then _ _ (Rooms.gives a c k l less) later = later a c k l less
  rooms-and_then _ _ (Rooms.stops why line c k l other) later = Rooms.stops why line c k l other
  rooms-and_then _ _ (Rooms.wants c k l) later = Rooms.wants c k l
  rooms-and_then _ _ (Rooms.full line c o g) later = Rooms.full line c (and_then o next) (goes_later c o g)

then-value : {A B : Type 0} (part : State → Outcome A) (next : A → State → Outcome B) → Roomy part → ((a : A) → Roomy (next a)) → Roomy (λ s. and_then (part s) next)
then-value part next first later = record {
  grows = λ s. kept-and_then Grows grows-plain s (part s) next (first.grows s) (λ a t. (later a).grows t);
  rooms = λ c k l less.
      rooms-and_then next (λ a. (later a).grows) (part (roomy k c)) (part (roomy l c)) (first.rooms c k l less) (λ a t i j below. (later a).rooms t i j below);
}

after_is : (m : Outcome (Unit {0})) (next : Part) → and_then m (λ u s. next s) ≡ after m next
after_is (Gives tt s) next = refl
after_is (Stops why line s) next = refl
after_is (Wants s) next = refl

then-run : (part next : Part) → Roomy part → Roomy next → Roomy (λ s. after (part s) next)
then-run part next first later = subst Roomy (λ i s. after_is (part s) next i) (then-value part (λ u s. next s) first (λ u. later))

gives-roomy : {A : Type 0} (a : A) → Roomy (λ s. Gives a s)
gives-roomy a = record { grows = grows-plain.same; rooms = λ c k l less. Rooms.gives a c k l less }

stops-roomy : {A : Type 0} (why : StopWhy) (line : ℕ) → (why ≡ LogFull → ⊥) → Roomy {A = A} (λ s. Stops why line s)
stops-roomy why line other = record { grows = grows-plain.same; rooms = λ c k l less. Rooms.stops why line c k l other }

-- ---- single records

-- one record more
one_more : {A : Type 0} (c : State) (r : Record) (o : Outcome A) → (state_of o).records ≡ c.records ++ r ∷ [] → GoesOn c o
one_more c r o is = record { more = r ∷ []; records_are = is; wants = λ none. absurd cc }

rooms-put_in : (k l : ℕ) (r : Record) (c : State) → k < l → Rooms (put_in k r (roomy k c)) (put_in l r (roomy l c))
rooms-put_in zero zero r c less = absurd (omega (arith, less))
rooms-put_in zero (suc l) r c less = Rooms.full r.line (roomy 0 c) (put_in (suc l) r (roomy (suc l) c)) (one_more (roomy 0 c) r (put_in (suc l) r (roomy (suc l) c)) refl)
rooms-put_in (suc k) zero r c less = absurd (omega (arith, less))
rooms-put_in (suc k) (suc l) r c less = Rooms.gives tt (record c { records = c.records ++ r ∷ [] }) k l (omega (arith, less))

pub put-roomy : (r : Record) → is_region_kind r.kind ≡ false → Roomy (put r)
unfolding put
put-roomy r plain = record { grows = λ s. grows-put r s plain; rooms = λ c k l less. rooms-put_in k l r c less }

rooms-read_in : (k l : ℕ) (reads : List ℤ) (e : Element) (site line : ℕ) (c : State) → k < l → Rooms (read_in k reads e site line (roomy k c)) (read_in l reads e site line (roomy l c))
rooms-read_in zero zero reads e site line c less = absurd (omega (arith, less))
rooms-read_in zero (suc l) [] e site line c less = Rooms.full line (roomy 0 c) (Wants (roomy (suc l) c)) (record { more = []; records_are = sym (append-nil c.records); wants = λ none. tt })
rooms-read_in zero (suc l) (v ∷ reads) e site line c less =
    Rooms.full line (roomy 0 c) (read_in (suc l) (v ∷ reads) e site line (roomy (suc l) c)) (one_more (roomy 0 c) (access kind.Read e site line (fitted v e.width)) (read_in (suc l) (v ∷ reads) e site line (roomy (suc l) c)) refl)
rooms-read_in (suc k) zero reads e site line c less = absurd (omega (arith, less))
rooms-read_in (suc k) (suc l) [] e site line c less = Rooms.wants c (suc k) (suc l)
rooms-read_in (suc k) (suc l) (v ∷ reads) e site line c less =
    Rooms.gives (fitted v e.width) (record c { records = c.records ++ access kind.Read e site line (fitted v e.width) ∷ []; reads = reads }) k l (omega (arith, less))

loaded-roomy : (e : Option Element) (line site : ℕ) → Roomy (loaded e line site)
unfolding read
loaded-roomy None line site = stops-roomy Index line (λ is. cc)
loaded-roomy (Some e) line site = record { grows = λ s. kept-loaded Grows grows-plain (Some e) line site s; rooms = λ c k l less. rooms-read_in k l c.reads e site line c less }

operated-roomy : (v : Option ℤ) (line : ℕ) → Roomy (operated v line)
operated-roomy None line = stops-roomy DivZero line (λ is. cc)
operated-roomy (Some v) line = gives-roomy v

value-roomy : (at : Site) (e : Term) → Roomy (value at e)
unfolding value
value-roomy at (Number n) = gives-roomy n
value-roomy at (Slot k) = record { grows = grows-plain.same; rooms = λ c i j less. Rooms.gives _ c i j less }
value-roomy at Tid = gives-roomy (pos at.lane)
value-roomy at Span = gives-roomy (pos at.span)
value-roomy at (Load array index line site) = then-value (value at index) (λ i s. loaded (element_at at.arrays array i) line site s) (value-roomy at index) (λ i. loaded-roomy (element_at at.arrays array i) line site)
value-roomy at (Neg operand) = then-value (value at operand) (λ v s. Gives (negated v) s) (value-roomy at operand) (λ v. gives-roomy (negated v))
value-roomy at (Binary op line left right) =
    then-value (value at left) (λ x s. and_then (value at right s) (λ y s. operated (applied op x y) line s)) (value-roomy at left) (λ x.
    then-value (value at right) (λ y s. operated (applied op x y) line s) (value-roomy at right) (λ y. operated-roomy (applied op x y) line))

-- ---- draws

module _ (line n : ℕ) (chunk : ℕ → Part) (all : (q : ℕ) → Roomy (chunk q)) where
  abbrev more_draws : ℕ → ℕ → Part
  more_draws fuel q s = drawn q n chunk (draws fuel line n chunk) s

  more_grows : (fuel q : ℕ) (s : State) → Grows s (state_of (more_draws fuel q s))
  more_grows fuel q s = kept-drawn Grows grows-plain q n chunk (draws fuel line n chunk) s (λ i t. (all i).grows t) (λ t. kept-draws Grows grows-plain fuel line n chunk t (λ i u. (all i).grows u))

  draw_on : (k l : ℕ) (chunks : List ℕ) (c : State) → 0 < l → GoesOn (roomy k c) (draw_in l chunks line n (roomy l c))
  draw_on k zero chunks c some = absurd (omega (arith, some))
  draw_on k (suc l) [] c some = record { more = []; records_are = sym (append-nil c.records); wants = λ none. tt }
  draw_on k (suc l) (q ∷ chunks) c some = one_more (roomy k c) (event kind.Chunk line (min q n) n) (draw_in (suc l) (q ∷ chunks) line n (roomy (suc l) c)) refl

  draws_on : (k l g : ℕ) (c : State) → 0 < l → l ≤ g → GoesOn (roomy k c) (draws g line n chunk (roomy l c))
  unfolding draw
  draws_on k l zero c some low = absurd (omega (arith, some, low))
  draws_on k l (suc g) c some low = goes_later (more_draws g) (more_grows g) (roomy k c) (draw_in l c.chunks line n (roomy l c)) (draw_on k l c.chunks c some)

  -- a part leaves no more room than there was
  less_room : (part : Part) (s : State) → Grows s (state_of (part s)) → (state_of (part s)).room ≤ s.room
  less_room part s g = let is = g.room_is in omega (arith, is)

  -- draws of which these are the most do the same
  abbrev DrawAlike : ℕ → ℕ → Type 0
  DrawAlike f g = (k l : ℕ) (c : State) → k ≤ f → l ≤ g → k < l → Rooms (draws f line n chunk (roomy k c)) (draws g line n chunk (roomy l c))

  module _ (f g : ℕ) (again : DrawAlike f g) where
    rooms-past : (m o : Outcome (Unit {0})) → (state_of m).room ≤ f → (state_of o).room ≤ g → Rooms m o → Rooms (after m (draws f line n chunk)) (after o (draws g line n chunk))
    rooms-past _ _ low high (Rooms.gives a c k l less) = again k l c low high less
    rooms-past _ _ low high (Rooms.stops why at c k l other) = Rooms.stops why at c k l other
    rooms-past _ _ low high (Rooms.wants c k l) = Rooms.wants c k l
    rooms-past _ _ low high (Rooms.full at c o on) =
        Rooms.full at c (after o (draws g line n chunk))
        (subst (GoesOn c) (after_is o (draws g line n chunk))
        (goes_later (λ u s. draws g line n chunk s) (λ u s. kept-draws Grows grows-plain g line n chunk s (λ i t. (all i).grows t)) c o on))

    rooms-drawn : (k l q : ℕ) (b : Bool) (c : State) → k ≤ f → l ≤ g → k < l
        → Rooms (cond b (after (chunk q (roomy k c)) (draws f line n chunk)) (Gives tt (roomy k c))) (cond b (after (chunk q (roomy l c)) (draws g line n chunk)) (Gives tt (roomy l c)))
    rooms-drawn k l q false c low high less = Rooms.gives tt c k l less
    rooms-drawn k l q true c low high less =
        rooms-past (chunk q (roomy k c)) (chunk q (roomy l c)) (let m = less_room (chunk q) (roomy k c) ((all q).grows (roomy k c)) in omega (arith, m, low))
        (let m = less_room (chunk q) (roomy l c) ((all q).grows (roomy l c)) in omega (arith, m, high)) ((all q).rooms c k l less)

    rooms-next : (k l : ℕ) (chunks : List ℕ) (c : State) → k ≤ suc f → l ≤ suc g → k < l
        → Rooms (and_then (draw_in k chunks line n (roomy k c)) (λ q s. more_draws f q s)) (and_then (draw_in l chunks line n (roomy l c)) (λ q s. more_draws g q s))
    rooms-next k zero chunks c low high less = absurd (omega (arith, less))
    rooms-next zero (suc l) chunks c low high less =
        Rooms.full line (roomy 0 c) (and_then (draw_in (suc l) chunks line n (roomy (suc l) c)) (λ q s. more_draws g q s))
        (goes_later (more_draws g) (more_grows g) (roomy 0 c) (draw_in (suc l) chunks line n (roomy (suc l) c)) (draw_on 0 (suc l) chunks c (omega arith)))
    rooms-next (suc k) (suc l) [] c low high less = Rooms.wants c (suc k) (suc l)
    rooms-next (suc k) (suc l) (q ∷ chunks) c low high less =
        rooms-drawn k l q (nat_lt q n) (record c { records = c.records ++ event kind.Chunk line (min q n) n ∷ []; chunks = chunks }) (omega (arith, low)) (omega (arith, high)) (omega (arith, less))

  rooms-draws : (f g : ℕ) → DrawAlike f g
  unfolding draw
  rooms-draws zero g k l c low high less = Rooms.full line (roomy k c) (draws g line n chunk (roomy l c)) (draws_on k l g c (omega (arith, less)) high)
  rooms-draws (suc f) zero k l c low high less = absurd (omega (arith, high, less))
  rooms-draws (suc f) (suc g) k l c low high less = rooms-next f g (rooms-draws f g) k l c.chunks c low high less

  draws-roomy : Roomy (λ s. draws s.room line n chunk s)
  draws-roomy = record {
    grows = λ s. kept-draws Grows grows-plain s.room line n chunk s (λ i t. (all i).grows t);
    rooms = λ c k l less. rooms-draws k l k l c (omega arith) (omega arith) less;
  }

-- ---- statements

changed-roomy : (k : Kind) (e : Option Element) (v : ℤ) (line site : ℕ) → is_region_kind k ≡ false → Roomy (changed k e v line site)
changed-roomy k None v line site plain = stops-roomy Index line (λ is. cc)
changed-roomy k (Some e) v line site plain = put-roomy (access k e site line (fitted v e.width)) plain

branch-roomy : (v : ℤ) (if_true if_false : Part) → Roomy if_true → Roomy if_false → Roomy (branch v if_true if_false)
branch-roomy (pos zero) if_true if_false one other = other
branch-roomy (pos (suc n)) if_true if_false one other = one
branch-roomy (negsuc n) if_true if_false one other = one

turns-roomy : (n i : ℕ) (turn : ℕ → Part) → ((k : ℕ) → Roomy (turn k)) → Roomy (turns n i turn)
turns-roomy zero i turn all = gives-roomy tt
turns-roomy (suc n) i turn all = then-run (turn i) (turns n (suc i) turn) (all i) (turns-roomy n (suc i) turn all)

each-roomy : (is : List ℕ) (turn : ℕ → Part) → ((k : ℕ) → Roomy (turn k)) → Roomy (each is turn)
each-roomy [] turn all = gives-roomy tt
each-roomy (i ∷ is) turn all = then-run (turn i) (each is turn) (all i) (each-roomy is turn all)

shared-roomy : (schedule : Schedule) (at : Site) (line total : ℕ) (turn : ℕ → Part) → ((k : ℕ) → Roomy (turn k)) → Roomy (shared schedule at line total turn)
shared-roomy Even at line total turn all = each-roomy (even_iterations total at.lane at.span) turn all
shared-roomy (Static chunk) at line total turn all = each-roomy (static_iterations chunk total at.lane at.span) turn all
shared-roomy (Dynamic chunk) at line total turn all = draws-roomy line (chunk_count chunk total) (λ q. each (chunk_iterations chunk total q) turn) (λ q. each-roomy (chunk_iterations chunk total q) turn all)

bar-roomy : (line : ℕ) → Roomy (put (event kind.Barrier line 0 0))
bar-roomy line = put-roomy (event kind.Barrier line 0 0) refl

loop_end-roomy : (nowait : Bool) (end : ℕ) → Roomy (loop_end nowait end)
loop_end-roomy true end = gives-roomy tt
loop_end-roomy false end = bar-roomy end

assigned-roomy : (slot : ℕ) (v : ℤ) (part : Part) → Roomy part → Roomy (λ s. part (assign slot v s))
assigned-roomy slot v part later = record {
  grows = λ s. grows-plain.chain s (assign slot v s) _ (grows-plain.assigns slot v s) (later.grows (assign slot v s));
  rooms = λ c k l less. later.rooms (assign slot v c) k l less;
}

module _ (team : TeamTree) (rest : Part) (later : Roomy rest) where
  abbrev forking : ℕ → State → Outcome (Unit {0})
  forking room s = after (put_in room (event kind.Region team.line 0 team.span) s) (λ t. rest (forked team t))

  rooms-fork : (k l : ℕ) (c : State) → k < l → Rooms (forking k (roomy k c)) (forking l (roomy l c))
  rooms-fork zero zero c less = absurd (omega (arith, less))
  rooms-fork zero (suc l) c less =
      let next = forked team (record (roomy l c) { records = c.records ++ event kind.Region team.line 0 team.span ∷ [] }) in
      let grown = later.grows next in
      Rooms.full team.line (roomy 0 c) (forking (suc l) (roomy (suc l) c)) (record {
        more = event kind.Region team.line 0 team.span ∷ grown.added;
        records_are = grown.records_are ∙ append_assoc c.records (event kind.Region team.line 0 team.span ∷ []) grown.added;
        wants = λ none. absurd cc;
      })
  rooms-fork (suc k) zero c less = absurd (omega (arith, less))
  rooms-fork (suc k) (suc l) c less = later.rooms (forked team (record c { records = c.records ++ event kind.Region team.line 0 team.span ∷ [] })) k l (omega (arith, less))

pub run-roomy : (at : Site) (code : Code) → Roomy (run at code)
unfolding run put
run-roomy at Done = gives-roomy tt
run-roomy at (Set slot e rest) = then-value (value at e) (λ v s. run at rest (assign slot v s)) (value-roomy at e) (λ v. assigned-roomy slot v (run at rest) (run-roomy at rest))
run-roomy at (Store array index e line site rest) =
    then-value (value at index) (λ i s. and_then (value at e s) (λ v s. after (changed kind.Write (element_at at.arrays array i) v line site s) (run at rest))) (value-roomy at index) (λ i.
    then-value (value at e) (λ v s. after (changed kind.Write (element_at at.arrays array i) v line site s) (run at rest)) (value-roomy at e) (λ v.
    then-run (changed kind.Write (element_at at.arrays array i) v line site) (run at rest) (changed-roomy kind.Write (element_at at.arrays array i) v line site refl) (run-roomy at rest)))
run-roomy at (Update array index e minus line site rest) =
    then-value (value at index) (λ i s. and_then (value at e s) (λ v s. after (changed kind.Update (element_at at.arrays array i) (amount_of minus v) line site s) (run at rest))) (value-roomy at index) (λ i.
    then-value (value at e) (λ v s. after (changed kind.Update (element_at at.arrays array i) (amount_of minus v) line site s) (run at rest)) (value-roomy at e) (λ v.
    then-run (changed kind.Update (element_at at.arrays array i) (amount_of minus v) line site) (run at rest) (changed-roomy kind.Update (element_at at.arrays array i) (amount_of minus v) line site refl) (run-roomy at rest)))
run-roomy at (If test if_true if_false rest) =
    then-value (value at test) (λ v s. after (branch v (run at if_true) (run at if_false) s) (run at rest)) (value-roomy at test) (λ v.
    then-run (branch v (run at if_true) (run at if_false)) (run at rest) (branch-roomy v (run at if_true) (run at if_false) (run-roomy at if_true) (run-roomy at if_false)) (run-roomy at rest))
run-roomy at (Loop slot from to body rest) =
    then-value (value at from) (λ a s. and_then (value at to s) (λ b s. after (turns (total_of a b) 0 (λ i s. run at body (assign slot (a +ℤ pos i) s)) s) (run at rest))) (value-roomy at from) (λ a.
    then-value (value at to) (λ b s. after (turns (total_of a b) 0 (λ i s. run at body (assign slot (a +ℤ pos i) s)) s) (run at rest)) (value-roomy at to) (λ b.
    then-run (turns (total_of a b) 0 (λ i s. run at body (assign slot (a +ℤ pos i) s))) (run at rest)
    (turns-roomy (total_of a b) 0 (λ i s. run at body (assign slot (a +ℤ pos i) s)) (λ i. assigned-roomy slot (a +ℤ pos i) (run at body) (run-roomy at body))) (run-roomy at rest)))
run-roomy at (Parallel span line end body rest) = record {
  grows = run-grows at (Parallel span line end body rest);
  rooms = λ c k l less. rooms-fork (record { span = span; line = line; end = end; body = body }) (run at rest) (run-roomy at rest) k l c less;
}
run-roomy at (For slot from to schedule nowait line end body rest) =
    then-value (value at from) (λ a s. and_then (value at to s) (λ b s. after (shared schedule at line (total_of a b) (λ i s. run at body (assign slot (a +ℤ pos i) s)) s) (λ s. after (loop_end nowait end s) (run at rest)))) (value-roomy at from) (λ a.
    then-value (value at to) (λ b s. after (shared schedule at line (total_of a b) (λ i s. run at body (assign slot (a +ℤ pos i) s)) s) (λ s. after (loop_end nowait end s) (run at rest))) (value-roomy at to) (λ b.
    then-run (shared schedule at line (total_of a b) (λ i s. run at body (assign slot (a +ℤ pos i) s))) (λ s. after (loop_end nowait end s) (run at rest))
    (shared-roomy schedule at line (total_of a b) (λ i s. run at body (assign slot (a +ℤ pos i) s)) (λ i. assigned-roomy slot (a +ℤ pos i) (run at body) (run-roomy at body)))
    (then-run (loop_end nowait end) (run at rest) (loop_end-roomy nowait end) (run-roomy at rest))))
run-roomy at (Barrier line rest) = then-run (put (event kind.Barrier line 0 0)) (run at rest) (bar-roomy line) (run-roomy at rest)
run-roomy at (Critical mutex line end body rest) =
    then-run (put (event kind.Lock line mutex 0)) (λ s. after (run at body s) (λ s. after (put (event kind.Unlock end mutex 0) s) (run at rest))) (put-roomy (event kind.Lock line mutex 0) refl)
    (then-run (run at body) (λ s. after (put (event kind.Unlock end mutex 0) s) (run at rest)) (run-roomy at body)
    (then-run (put (event kind.Unlock end mutex 0)) (run at rest) (put-roomy (event kind.Unlock end mutex 0) refl) (run-roomy at rest)))

-- ---- what is left of a task

frame-roomy : (at : Site) (f : Frame) → Roomy (frame_part at f)
frame-roomy at (frame.Statements stmts) = run-roomy at (code_of stmts.now)
frame-roomy at (frame.Turns body slot next end) =
    turns-roomy (total_of next end) 0 (turn_from at (code_of body.now.stmts.items) slot next) (λ i. assigned-roomy slot (next +ℤ pos i) (run at (code_of body.now.stmts.items)) (run-roomy at (code_of body.now.stmts.items)))
frame-roomy at (frame.Chunks body slot from to chunk next) =
    each-roomy (dealt_from chunk (total_of from to) at.lane at.span next) (turn_from at (code_of body.now.stmts.items) slot from)
    (λ i. assigned-roomy slot (from +ℤ pos i) (run at (code_of body.now.stmts.items)) (run-roomy at (code_of body.now.stmts.items)))
frame-roomy at (frame.Barrier line) = bar-roomy line

pub rest-roomy : (at : Site) (rest : List Frame) (then' : Part) → Roomy then' → Roomy (frames_rest at rest then')
rest-roomy at [] then' last = last
rest-roomy at (f ∷ above) then' last = rest-roomy at above (λ t. after (frame_part at f t) then') (then-run (frame_part at f) then' (frame-roomy at f) last)

-- a part that stops as its room is used up goes on where there is more
pub goes_past : (m o : Outcome (Unit {0})) (line : ℕ) (s : State) → m ≡ Stops LogFull line s → Rooms m o → GoesOn s o
goes_past _ _ line s is (Rooms.gives a c k l less) = absurd cc
goes_past _ _ line s is (Rooms.stops why at c k l other) = absurd (other (let e : why ≡ LogFull = cc in e))
goes_past _ _ line s is (Rooms.wants c k l) = absurd cc
goes_past _ _ line s is (Rooms.full at c o on) = subst (λ (t : State). GoesOn t o) (let e : c ≡ s = cc in e) on
