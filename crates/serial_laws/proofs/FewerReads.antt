-- A fixed task that finds fewer values to be read does the same, until it wants one.
use Rattle.std.proofs.Common.{◌≡◌, refl, ap, sym, ◌∙◌, subst, ◌⊎◌, inl, inr, ℕ, zero, suc, ◌+◌, ◌<◌, ◌≤◌, Bool, true, false, List, [], ◌∷◌, ◌++◌, length, ℤ, pos, negsuc, ◌+ℤ◌, Option, Some, None, arith, append_assoc, length-append}
use Rattle.std.proofs.lemmas.List.{append-nil}
use Rattle.kernel_syntax.specs.declared.syntax.Schedule.{Schedule}
use Rattle.kernel_syntax.specs.declared.syntax.Schedule.TheVariants.{Even, Static, Dynamic}
use Rattle.kernel_syntax.specs.Arithmetic.{applied, negated}
use Rattle.kernel_syntax.specs.Program.{Program}
use Rattle.kernel_syntax.specs.Tree.{Term, Code, TeamTree, Number, Slot, Tid, Span, Load, Neg, Binary, Done, Set, Store, Update, If, Loop, Parallel, For, Barrier, Critical}
use Rattle.log_format.specs.declared.record.Record.{Record}
use Rattle.log_format.specs.declared.record.Kind.{Kind}
use Rattle.log_format.specs.declared.record.Kind.TheVariants as kind
use Rattle.log_format.specs.Fitting.{fitted}
use Rattle.kernel_model.specs.Iterations.{total_of, even_iterations, static_iterations}
use Rattle.kernel_model.specs.State.{State, Outcome, Gives, Stops, Wants, and_then, after, put, put_in, event, assign, state_of, reads_of, chunks_of}
use Rattle.kernel_model.specs.declared.stop.StopWhy.{StopWhy}
use Rattle.kernel_model.specs.declared.stop.StopWhy.TheVariants.{LogFull, DivZero, Index}
use Rattle.kernel_model.specs.Folder.{own_trace}
use Rattle.kernel_model.specs.Trace.{Start, state_at, site_of, task, branch, stored, turns, each, shared, loop_end, forked, run}
use Rattle.kernel_model.specs.Value.{Site, Element, element_at, access, read, read_in, loaded, operated, value}
use Rattle.kernel_model.proofs.Effects.{reads_of-append}
use Rattle.kernel_model.proofs.SingleSteps.{with_record, IsMark, KeepsPlainSteps, KeepsUpdates, KeepsBarriers, KeepsEnds, KeepsSteps}
use Rattle.kernel_model.proofs.Steps.{Part, kept-and_then, kept-task}
use Rattle.certainty_model.specs.Certain.{IsFixed, IsFixedSchedule}
use Rattle.certainty_model.proofs.FixedRuns.{run-pairs}
use Rattle.certainty_model.proofs.Pairs.{Pairs}
use Rattle.execution_model.specs.Execution.{BeginsTrace}

-- the state with these to be read and drawn
abbrev finding : State → List ℤ → List ℕ → State
finding c reads chunks = record c { reads = reads; chunks = chunks }

abbrev IsWanting : {A : Type 0} → Outcome A → Type 0
IsWanting (Wants s) = Unit {0}
IsWanting _ = ⊥

-- it reads first, or wants a value
abbrev ReadsFirst : {A : Type 0} → List Record → Outcome A → Type 0
ReadsFirst [] o = IsWanting o
ReadsFirst (r ∷ rs) o = r.kind ≡ kind.Read

record ReadsOn {A : Type 0} (c : State) (o : Outcome A) : Type 0 where
  more : List Record
  records_are : (state_of o).records ≡ c.records ++ more
  first : ReadsFirst more o

-- The second finds more to be read. Both end alike, or the first wants a value and the other reads it.
data Fewer {A : Type 0} (others : List ℤ) : Outcome A → Outcome A → Type 0 where
  gives : (a : A) (c : State) (reads : List ℤ) (p q : List ℕ) → Fewer others (Gives a (finding c reads p)) (Gives a (finding c (reads ++ others) q))
  stops : (why : StopWhy) (line : ℕ) (c : State) (reads : List ℤ) (p q : List ℕ) → Fewer others (Stops why line (finding c reads p)) (Stops why line (finding c (reads ++ others) q))
  wants : (c : State) (p : List ℕ) (o : Outcome A) → ReadsOn c o → Fewer others (Wants (finding c [] p)) o

-- so a part of a task, which only adds records
record Adds (s t : State) : Type 0 where
  added : List Record
  records_are : t.records ≡ s.records ++ added

record Thrifty {A : Type 0} (part : State → Outcome A) : Type 0 where
  adds : (s : State) → Adds s (state_of (part s))
  fewer : (others reads : List ℤ) (p q : List ℕ) (c : State) → Fewer others (part (finding c reads p)) (part (finding c (reads ++ others) q))

adds_none : (s t : State) → t.records ≡ s.records → Adds s t
adds_none s t same = record { added = []; records_are = same ∙ sym (append-nil s.records) }

adds_both : (s t u : State) → Adds s t → Adds t u → Adds s u
adds_both s t u one more = record {
  added = one.added ++ more.added;
  records_are = more.records_are ∙ (ap (λ (l : List Record). l ++ more.added) one.records_are ∙ append_assoc s.records one.added more.added);
}

-- ---- one part after another

module _ {A B : Type 0} (next : A → State → Outcome B) (later : (a : A) → Thrifty (next a)) where
  adds_then : (s : State) (o : Outcome A) → Adds s (state_of o) → Adds s (state_of (and_then o next))
  adds_then s (Gives a t) first = adds_both s t (state_of (next a t)) first ((later a).adds t)
  adds_then s (Stops why line t) first = first
  adds_then s (Wants t) first = first

  on_by : (c : State) (o : Outcome A) (more : List Record) → (state_of o).records ≡ c.records ++ more → ReadsFirst more o → ReadsOn c (and_then o next)
  on_by c (Gives a s) [] is first = absurd first
  on_by c (Gives a s) (r ∷ rs) is first =
      let adds = (later a).adds s in
      record {
        more = r ∷ (rs ++ adds.added);
        records_are = adds.records_are ∙ (ap (λ (l : List Record). l ++ adds.added) is ∙ append_assoc c.records (r ∷ rs) adds.added);
        first = first;
      }
  on_by c (Stops why line s) [] is first = absurd first
  on_by c (Stops why line s) (r ∷ rs) is first = record { more = r ∷ rs; records_are = is; first = first }
  on_by c (Wants s) [] is first = record { more = []; records_are = is; first = tt }
  on_by c (Wants s) (r ∷ rs) is first = record { more = r ∷ rs; records_are = is; first = first }

  fewer_then : (others : List ℤ) (m o : Outcome A) → Fewer others m o → Fewer others (and_then m next) (and_then o next)
  fewer_then others _ _ (Fewer.gives a c reads p q) = (later a).fewer others reads p q c
  fewer_then others _ _ (Fewer.stops why line c reads p q) = Fewer.stops why line c reads p q
  fewer_then others _ _ (Fewer.wants c p o on) = Fewer.wants c p (and_then o next) (on_by c o on.more on.records_are on.first)

then_value : {A B : Type 0} (part : State → Outcome A) (next : A → State → Outcome B) → Thrifty part → ((a : A) → Thrifty (next a)) → Thrifty (λ s. and_then (part s) next)
then_value part next first later = record {
  adds = λ s. adds_then next later s (part s) (first.adds s);
  fewer = λ others reads p q c. fewer_then next later others (part (finding c reads p)) (part (finding c (reads ++ others) q)) (first.fewer others reads p q c);
}

after_is : (m : Outcome (Unit {0})) (next : Part) → and_then m (λ u s. next s) ≡ after m next
after_is (Gives tt s) next = refl
after_is (Stops why line s) next = refl
after_is (Wants s) next = refl

then_run : (part next : Part) → Thrifty part → Thrifty next → Thrifty (λ s. after (part s) next)
then_run part next first later = subst Thrifty (λ i s. after_is (part s) next i) (then_value part (λ u s. next s) first (λ u. later))

gives_thrifty : {A : Type 0} (a : A) → Thrifty (λ s. Gives a s)
gives_thrifty a = record { adds = λ s. adds_none s s refl; fewer = λ others reads p q c. Fewer.gives a c reads p q }

stops_thrifty : {A : Type 0} (why : StopWhy) (line : ℕ) → Thrifty {A = A} (λ s. Stops why line s)
stops_thrifty why line = record { adds = λ s. adds_none s s refl; fewer = λ others reads p q c. Fewer.stops why line c reads p q }

-- ---- single records

adds_put : (room : ℕ) (r : Record) (s : State) → Adds s (state_of (put_in room r s))
adds_put zero r s = adds_none s s refl
adds_put (suc room) r s = record { added = r ∷ []; records_are = refl }

fewer_put : (room : ℕ) (r : Record) (others reads : List ℤ) (p q : List ℕ) (c : State) → Fewer others (put_in room r (finding c reads p)) (put_in room r (finding c (reads ++ others) q))
fewer_put zero r others reads p q c = Fewer.stops LogFull r.line c reads p q
fewer_put (suc room) r others reads p q c = Fewer.gives tt (with_record r room c) reads p q

put_thrifty : (r : Record) → Thrifty (put r)
unfolding put
put_thrifty r = record { adds = λ s. adds_put s.room r s; fewer = λ others reads p q c. fewer_put c.room r others reads p q c }

adds_read : (room : ℕ) (reads : List ℤ) (e : Element) (site line : ℕ) (s : State) → Adds s (state_of (read_in room reads e site line s))
adds_read zero reads e site line s = adds_none s s refl
adds_read (suc room) [] e site line s = adds_none s s refl
adds_read (suc room) (v ∷ reads) e site line s = record { added = access kind.Read e site line (fitted v e.width) ∷ []; records_are = refl }

fewer_read : (room : ℕ) (others reads : List ℤ) (e : Element) (site line : ℕ) (p q : List ℕ) (c : State)
    → Fewer others (read_in room reads e site line (finding c reads p)) (read_in room (reads ++ others) e site line (finding c (reads ++ others) q))
fewer_read zero others reads e site line p q c = Fewer.stops LogFull line c reads p q
fewer_read (suc room) [] [] e site line p q c = Fewer.wants c p (Wants (finding c [] q)) (record { more = []; records_are = sym (append-nil c.records); first = tt })
fewer_read (suc room) (w ∷ others) [] e site line p q c =
    Fewer.wants c p (read_in (suc room) (w ∷ others) e site line (finding c (w ∷ others) q)) (record { more = access kind.Read e site line (fitted w e.width) ∷ []; records_are = refl; first = refl })
fewer_read (suc room) others (v ∷ reads) e site line p q c = Fewer.gives (fitted v e.width) (with_record (access kind.Read e site line (fitted v e.width)) room c) reads p q

loaded_thrifty : (e : Option Element) (line site : ℕ) → Thrifty (loaded e line site)
unfolding read
loaded_thrifty None line site = stops_thrifty Index line
loaded_thrifty (Some e) line site = record { adds = λ s. adds_read s.room s.reads e site line s; fewer = λ others reads p q c. fewer_read c.room others reads e site line p q c }

operated_thrifty : (v : Option ℤ) (line : ℕ) → Thrifty (operated v line)
operated_thrifty None line = stops_thrifty DivZero line
operated_thrifty (Some v) line = gives_thrifty v

value_thrifty : (at : Site) (e : Term) → Thrifty (value at e)
unfolding value
value_thrifty at (Number n) = gives_thrifty n
value_thrifty at (Slot k) = record { adds = λ s. adds_none s s refl; fewer = λ others reads p q c. Fewer.gives _ c reads p q }
value_thrifty at Tid = gives_thrifty (pos at.lane)
value_thrifty at Span = gives_thrifty (pos at.span)
value_thrifty at (Load array index line site) = then_value (value at index) (λ i s. loaded (element_at at.arrays array i) line site s) (value_thrifty at index) (λ i. loaded_thrifty (element_at at.arrays array i) line site)
value_thrifty at (Neg operand) = then_value (value at operand) (λ v s. Gives (negated v) s) (value_thrifty at operand) (λ v. gives_thrifty (negated v))
value_thrifty at (Binary op line left right) =
    then_value (value at left) (λ x s. and_then (value at right s) (λ y s. operated (applied op x y) line s)) (value_thrifty at left) (λ x.
    then_value (value at right) (λ y s. operated (applied op x y) line s) (value_thrifty at right) (λ y. operated_thrifty (applied op x y) line))

-- ---- statements

stored_thrifty : (e : Option Element) (v : ℤ) (line site : ℕ) → Thrifty (stored e v line site)
stored_thrifty None v line site = stops_thrifty Index line
stored_thrifty (Some e) v line site = put_thrifty (access kind.Write e site line (fitted v e.width))

loop_end_thrifty : (nowait : Bool) (end : ℕ) → Thrifty (loop_end nowait end)
loop_end_thrifty true end = gives_thrifty tt
loop_end_thrifty false end = put_thrifty (event kind.Barrier end 0 0)

branch_thrifty : (v : ℤ) (if_true if_false : Part) → Thrifty if_true → Thrifty if_false → Thrifty (branch v if_true if_false)
branch_thrifty (pos zero) if_true if_false one other = other
branch_thrifty (pos (suc n)) if_true if_false one other = one
branch_thrifty (negsuc n) if_true if_false one other = one

turns_thrifty : (n i : ℕ) (turn : ℕ → Part) → ((k : ℕ) → Thrifty (turn k)) → Thrifty (turns n i turn)
turns_thrifty zero i turn all = gives_thrifty tt
turns_thrifty (suc n) i turn all = then_run (turn i) (turns n (suc i) turn) (all i) (turns_thrifty n (suc i) turn all)

each_thrifty : (is : List ℕ) (turn : ℕ → Part) → ((k : ℕ) → Thrifty (turn k)) → Thrifty (each is turn)
each_thrifty [] turn all = gives_thrifty tt
each_thrifty (i ∷ is) turn all = then_run (turn i) (each is turn) (all i) (each_thrifty is turn all)

shared_thrifty : (schedule : Schedule) (at : Site) (line total : ℕ) (turn : ℕ → Part) → IsFixedSchedule schedule → ((k : ℕ) → Thrifty (turn k)) → Thrifty (shared schedule at line total turn)
shared_thrifty Even at line total turn fixed all = each_thrifty (even_iterations total at.lane at.span) turn all
shared_thrifty (Static chunk) at line total turn fixed all = each_thrifty (static_iterations chunk total at.lane at.span) turn all
shared_thrifty (Dynamic chunk) at line total turn fixed all = absurd fixed

assigned_thrifty : (slot : ℕ) (v : ℤ) (part : Part) → Thrifty part → Thrifty (λ s. part (assign slot v s))
assigned_thrifty slot v part later = record {
  adds = λ s. let grown = later.adds (assign slot v s) in record { added = grown.added; records_are = grown.records_are };
  fewer = λ others reads p q c. later.fewer others reads p q (assign slot v c);
}

forked_thrifty : (team : TeamTree) (part : Part) → Thrifty part → Thrifty (λ s. part (forked team s))
forked_thrifty team part later = record {
  adds = λ s. let grown = later.adds (forked team s) in record { added = grown.added; records_are = grown.records_are };
  fewer = λ others reads p q c. later.fewer others reads p q (forked team c);
}

run_thrifty : (at : Site) (code : Code) → IsFixed code → Thrifty (run at code)
unfolding run
run_thrifty at Done fixed = gives_thrifty tt
run_thrifty at (Set slot e rest) fixed = then_value (value at e) (λ v s. run at rest (assign slot v s)) (value_thrifty at e) (λ v. assigned_thrifty slot v (run at rest) (run_thrifty at rest fixed))
run_thrifty at (Store array index e line site rest) fixed =
    then_value (value at index) (λ i s. and_then (value at e s) (λ v s. after (stored (element_at at.arrays array i) v line site s) (run at rest))) (value_thrifty at index) (λ i.
    then_value (value at e) (λ v s. after (stored (element_at at.arrays array i) v line site s) (run at rest)) (value_thrifty at e) (λ v.
    then_run (stored (element_at at.arrays array i) v line site) (run at rest) (stored_thrifty (element_at at.arrays array i) v line site) (run_thrifty at rest fixed)))
run_thrifty at (Update array index e minus line site rest) fixed = absurd fixed
run_thrifty at (If test if_true if_false rest) fixed =
    then_value (value at test) (λ v s. after (branch v (run at if_true) (run at if_false) s) (run at rest)) (value_thrifty at test) (λ v.
    then_run (branch v (run at if_true) (run at if_false)) (run at rest)
    (branch_thrifty v (run at if_true) (run at if_false) (run_thrifty at if_true fixed.0) (run_thrifty at if_false fixed.1)) (run_thrifty at rest fixed.2))
run_thrifty at (Loop slot from to body rest) fixed =
    then_value (value at from) (λ a s. and_then (value at to s) (λ b s. after (turns (total_of a b) 0 (λ i s. run at body (assign slot (a +ℤ pos i) s)) s) (run at rest))) (value_thrifty at from) (λ a.
    then_value (value at to) (λ b s. after (turns (total_of a b) 0 (λ i s. run at body (assign slot (a +ℤ pos i) s)) s) (run at rest)) (value_thrifty at to) (λ b.
    then_run (turns (total_of a b) 0 (λ i s. run at body (assign slot (a +ℤ pos i) s))) (run at rest)
    (turns_thrifty (total_of a b) 0 (λ i s. run at body (assign slot (a +ℤ pos i) s)) (λ i. assigned_thrifty slot (a +ℤ pos i) (run at body) (run_thrifty at body fixed.0)))
    (run_thrifty at rest fixed.1)))
run_thrifty at (Parallel span line end body rest) fixed =
    let team : TeamTree = record { span = span; line = line; end = end; body = body } in
    then_run (put (event kind.Region line 0 span)) (λ s. run at rest (forked team s)) (put_thrifty (event kind.Region line 0 span)) (forked_thrifty team (run at rest) (run_thrifty at rest fixed.1))
run_thrifty at (For slot from to schedule nowait line end body rest) fixed =
    then_value (value at from) (λ a s. and_then (value at to s) (λ b s. after (shared schedule at line (total_of a b) (λ i s. run at body (assign slot (a +ℤ pos i) s)) s) (λ s. after (loop_end nowait end s) (run at rest)))) (value_thrifty at from) (λ a.
    then_value (value at to) (λ b s. after (shared schedule at line (total_of a b) (λ i s. run at body (assign slot (a +ℤ pos i) s)) s) (λ s. after (loop_end nowait end s) (run at rest))) (value_thrifty at to) (λ b.
    then_run (shared schedule at line (total_of a b) (λ i s. run at body (assign slot (a +ℤ pos i) s))) (λ s. after (loop_end nowait end s) (run at rest))
    (shared_thrifty schedule at line (total_of a b) (λ i s. run at body (assign slot (a +ℤ pos i) s)) fixed.0 (λ i. assigned_thrifty slot (a +ℤ pos i) (run at body) (run_thrifty at body fixed.1)))
    (then_run (loop_end nowait end) (run at rest) (loop_end_thrifty nowait end) (run_thrifty at rest fixed.2))))
run_thrifty at (Barrier line rest) fixed = then_run (put (event kind.Barrier line 0 0)) (run at rest) (put_thrifty (event kind.Barrier line 0 0)) (run_thrifty at rest fixed)
run_thrifty at (Critical mutex line end body rest) fixed = absurd fixed

-- ---- what was read is no longer to be read

-- so many values are read, or still to be read
abbrev in_all : State → ℕ
in_all s = length (reads_of s.records) + length s.reads

unread_one : (k : Kind) (r : Record) → (k ≡ kind.Read → ⊥) → reads_of (record r { kind = k } ∷ []) ≡ []
unread_one kind.Read r other = absurd (other refl)
unread_one _ r other = refl

unread : (s : State) (r : Record) → (r.kind ≡ kind.Read → ⊥) → length (reads_of (s.records ++ r ∷ [])) + length s.reads ≡ in_all s
unread s r other =
    ap (λ (l : List ℤ). length l + length s.reads)
    (reads_of-append s.records (r ∷ []) ∙ (ap (λ (l : List ℤ). reads_of s.records ++ l) (unread_one r.kind r other) ∙ append-nil (reads_of s.records)))

marks_unread : (k : Kind) → IsMark k → k ≡ kind.Read → ⊥
marks_unread k mark is = subst IsMark is mark

keeps_all : KeepsSteps (λ (s t : State). in_all t ≡ in_all s)
keeps_all = record {
  plain = record {
    same = λ s. refl;
    chain = λ a b c one more. more ∙ one;
    assigns = λ slot v s. refl;
    writes = λ r room s is write. unread s r (λ read. let e : kind.Write ≡ kind.Read = sym write ∙ read in cc);
    reads = λ e site line room v reads s is prefix.
        let r = access kind.Read e site line (fitted v e.width) in
        omega (arith, ap length (reads_of-append s.records (r ∷ [])) ∙ length-append (reads_of s.records) (reads_of (r ∷ [])), ap length prefix);
    draws = λ line n room q chunks s is prefix. unread s (event kind.Chunk line _ n) (λ read. cc);
  };
  updates = record { updates = λ r room s is update. unread s r (λ read. let e : kind.Update ≡ kind.Read = sym update ∙ read in cc) };
  marks = λ r room s is mark. unread s r (marks_unread r.kind mark);
  forks = λ team room s is. unread s (event kind.Region team.line 0 team.span) (λ read. cc);
}

module _ (program : Program) (start : Start) where
  all_read : (reads : List ℤ) (chunks : List ℕ) → in_all (state_of (task program start reads chunks)) ≡ length reads
  all_read reads chunks =
      kept-task (λ (s t : State). in_all t ≡ in_all s) keeps_all (record { bars = λ line room s is. unread s (event kind.Barrier line 0 0) (λ read. cc) })
      (record { ends = λ line room s is. unread s (event kind.End line 0 0) (λ read. cc) }) program start reads chunks
      ∙ (let e : 0 + length reads ≡ length reads = omega arith in e)

  task_fewer : IsFixed start.team.body → (others reads : List ℤ) (p q : List ℕ) → Fewer others (task program start reads p) (task program start (reads ++ others) q)
  unfolding task
  task_fewer fixed others reads p q =
      (then_run (run (site_of program start) start.team.body) (put (event kind.End start.team.end 0 0)) (run_thrifty (site_of program start) start.team.body fixed) (put_thrifty (event kind.End start.team.end 0 0))).fewer
      others reads p q (state_at start [] [])

  -- one list of records that begins another, or is longer
  record Begun (xs whole : List Record) : Type 0 where
    rest : List Record
    is : whole ≡ xs ++ rest

  -- where lists agree, the first begins what the second begins, or the second is shorter and the next record of the first follows it
  split : (xs ys cs ds : List Record) → xs ++ ys ≡ cs ++ ds → Begun xs cs ⊎ ((r : Record) × (rs qs : List Record) × (xs ≡ cs ++ r ∷ rs) × (ds ≡ r ∷ qs))
  split [] ys cs ds same = inl (record { rest = cs; is = refl })
  split (x ∷ xs) ys [] ds same = inr (x, xs, xs ++ ys, refl, sym same)
  split (x ∷ xs) ys (c ∷ cs) ds same = by (split xs ys cs ds (let e : xs ++ ys ≡ cs ++ ds = cc in e))
    where
      same_first : x ≡ c
      same_first = cc

      by : Begun xs cs ⊎ ((r : Record) × (rs qs : List Record) × (xs ≡ cs ++ r ∷ rs) × (ds ≡ r ∷ qs))
          → Begun (x ∷ xs) (c ∷ cs) ⊎ ((r : Record) × (rs qs : List Record) × (x ∷ xs ≡ (c ∷ cs) ++ r ∷ rs) × (ds ≡ r ∷ qs))
      by (inl b) = inl (record { rest = b.rest; is = ap (λ (l : List Record). c ∷ l) b.is ∙ ap (λ (h : Record). h ∷ (xs ++ b.rest)) (sym same_first) })
      by (inr (r, rs, qs, one, two)) = inr (r, rs, qs, ap (λ (l : List Record). x ∷ l) one ∙ ap (λ (h : Record). h ∷ (cs ++ r ∷ rs)) same_first, two)

  first_is : (r : Record) (qs more : List Record) {A : Type 0} (o : Outcome A) → more ≡ r ∷ qs → ReadsFirst more o → r.kind ≡ kind.Read
  first_is r qs more o is first = subst (λ (l : List Record). ReadsFirst l o) is first

  read_counts : (r : Record) (rs : List Record) → r.kind ≡ kind.Read → 0 < length (reads_of (r ∷ rs))
  read_counts r rs is = subst (λ (k : Kind). 0 < length (reads_of (record r { kind = k } ∷ rs))) (sym is) (omega arith)

  begun_by : (xs ys : List Record) (others : List ℤ) (m o : Outcome (Unit {0})) → Fewer others m o → in_all (state_of m) ≡ length (reads_of xs) → (rest : List Record) → (state_of o).records ≡ (xs ++ ys) ++ rest
      → Begun xs (state_of m).records
  begun_by xs ys others _ _ (Fewer.gives a c reads p q) all rest is = record { rest = ys ++ rest; is = is ∙ append_assoc xs ys rest }
  begun_by xs ys others _ _ (Fewer.stops why line c reads p q) all rest is = record { rest = ys ++ rest; is = is ∙ append_assoc xs ys rest }
  begun_by xs ys others _ _ (Fewer.wants c p o on) all rest is = by (split xs (ys ++ rest) c.records on.more (sym (append_assoc xs ys rest) ∙ (sym is ∙ on.records_are)))
    where
      by : Begun xs c.records ⊎ ((r : Record) × (rs qs : List Record) × (xs ≡ c.records ++ r ∷ rs) × (on.more ≡ r ∷ qs)) → Begun xs c.records
      by (inl b) = b
      by (inr (r, rs, qs, one, two)) =
          let some = read_counts r rs (first_is r qs on.more o two on.first) in
          let sum = ap (λ (l : List Record). length (reads_of l)) one ∙ (ap length (reads_of-append c.records (r ∷ rs)) ∙ length-append (reads_of c.records) (reads_of (r ∷ rs))) in
          absurd (omega (arith, some, sum, all))

  -- the first records of what begins a trace begin it
  pub begins_first : IsFixed start.team.body → (xs ys : List Record) → BeginsTrace program start (xs ++ ys) → BeginsTrace program start xs
  begins_first fixed xs ys begun =
      let few = begun_by xs ys (reads_of ys) (task program start (reads_of xs) (chunks_of xs)) (task program start (reads_of xs ++ reads_of ys) (chunks_of (xs ++ ys)))
      (task_fewer fixed (reads_of ys) (reads_of xs) (chunks_of xs) (chunks_of (xs ++ ys))) (all_read (reads_of xs) (chunks_of xs)) begun.rest
      (ap (λ (l : List ℤ). (state_of (task program start l (chunks_of (xs ++ ys)))).records) (sym (reads_of-append xs ys)) ∙ begun.begins) in
      record { rest = few.rest; begins = few.is }
