-- Each Read of a fixed task has the bytes of an element, however far the task comes.
use Rattle.std.proofs.Common.{◌≡◌, ℕ, zero, suc, Bool, true, false, List, [], ◌∷◌, ℤ, pos, negsuc, ◌+ℤ◌, Option, Some, None, IfSome}
use Rattle.kernel_syntax.specs.declared.syntax.Schedule.{Schedule}
use Rattle.kernel_syntax.specs.declared.syntax.Schedule.TheVariants.{Even, Static, Dynamic}
use Rattle.kernel_syntax.specs.Arithmetic.{applied, negated}
use Rattle.kernel_syntax.specs.Bounds.{IsBounded}
use Rattle.kernel_syntax.specs.Layout.{ArePlaced, elements}
use Rattle.kernel_syntax.specs.Program.{Program}
use Rattle.kernel_syntax.specs.Tree.{Term, Code, Number, Slot, Tid, Span, Load, Neg, Binary, Done, Set, Store, Update, If, Loop, Parallel, For, Barrier, Critical}
use Rattle.kernel_syntax.proofs.Placing.{bounded_arrays_are_placed}
use Rattle.log_format.specs.declared.record.Record.{Record}
use Rattle.log_format.specs.declared.record.Kind.TheVariants as kind
use Rattle.log_format.specs.Fitting.{IsWidth, fitted}
use Rattle.kernel_model.specs.State.{State, Outcome, Gives, Stops, Wants, and_then, after, put, put_in, event, assign, state_of}
use Rattle.kernel_model.specs.Value.{Site, Element, element_at, access, read, read_in, loaded, operated, value}
use Rattle.kernel_model.specs.Iterations.{total_of, even_iterations, static_iterations}
use Rattle.kernel_model.specs.Trace.{stored, branch, turns, each, shared, loop_end, forked, run, task, Start, site_of, state_at}
use Rattle.kernel_rules.proofs.Tabled.{IsPlacedElement, placed_element}
use Rattle.certainty_model.specs.Certain.{IsFixed, IsFixedSchedule}
use Rattle.serial_steps.proofs.GoAlike.{AreSized, sized_both}

-- a part that puts no Read of another size
abbrev Keeps : {A : Type 0} → (State → Outcome A) → Type 0
Keeps part = (s : State) → AreSized s.records → AreSized (state_of (part s)).records

keeps_then : {A B : Type 0} (part : State → Outcome A) (next : A → State → Outcome B) → Keeps part → ((a : A) → Keeps (next a)) → Keeps (λ s. and_then (part s) next)
keeps_then part next first later s sized = by (part s) (first s sized)
  where
    by : (m : Outcome _) → AreSized (state_of m).records → AreSized (state_of (and_then m next)).records
    by (Gives a t) so = later a t so
    by (Stops why line t) so = so
    by (Wants t) so = so

keeps_after : (part next : State → Outcome (Unit {0})) → Keeps part → Keeps next → Keeps (λ s. after (part s) next)
keeps_after part next first later s sized = by (part s) (first s sized)
  where
    by : (m : Outcome (Unit {0})) → AreSized (state_of m).records → AreSized (state_of (after m next)).records
    by (Gives a t) so = later t so
    by (Stops why line t) so = so
    by (Wants t) so = so

keeps_put : (r : Record) → (r.kind ≡ kind.Read → IsWidth r.size) → Keeps (put r)
unfolding put
keeps_put r size s sized = by s.room
  where
    by : (room : ℕ) → AreSized (state_of (put_in room r s)).records
    by zero = sized
    by (suc room) = sized_both s.records (r ∷ []) sized (size, tt)

-- ---- parts of statements

keeps_branch : (v : ℤ) (if_true if_false : State → Outcome (Unit {0})) → Keeps if_true → Keeps if_false → Keeps (branch v if_true if_false)
keeps_branch (pos zero) if_true if_false one other = other
keeps_branch (pos (suc n)) if_true if_false one other = one
keeps_branch (negsuc n) if_true if_false one other = one

keeps_turns : (n i : ℕ) (turn : ℕ → State → Outcome (Unit {0})) → ((k : ℕ) → Keeps (turn k)) → Keeps (turns n i turn)
keeps_turns zero i turn all = λ s sized. sized
keeps_turns (suc n) i turn all = keeps_after (turn i) (turns n (suc i) turn) (all i) (keeps_turns n (suc i) turn all)

keeps_each : (is : List ℕ) (turn : ℕ → State → Outcome (Unit {0})) → ((k : ℕ) → Keeps (turn k)) → Keeps (each is turn)
keeps_each [] turn all = λ s sized. sized
keeps_each (i ∷ is) turn all = keeps_after (turn i) (each is turn) (all i) (keeps_each is turn all)

keeps_shared : (schedule : Schedule) (at : Site) (line total : ℕ) (turn : ℕ → State → Outcome (Unit {0})) → IsFixedSchedule schedule → ((k : ℕ) → Keeps (turn k)) → Keeps (shared schedule at line total turn)
keeps_shared Even at line total turn fixed all = keeps_each (even_iterations total at.lane at.span) turn all
keeps_shared (Static chunk) at line total turn fixed all = keeps_each (static_iterations chunk total at.lane at.span) turn all
keeps_shared (Dynamic chunk) at line total turn fixed all = absurd fixed

keeps_loop_end : (nowait : Bool) (end : ℕ) → Keeps (loop_end nowait end)
keeps_loop_end true end = λ s sized. sized
keeps_loop_end false end = keeps_put (event kind.Barrier end 0 0) (λ is. cc)

keeps_stored : (e : Option Element) (v : ℤ) (line site : ℕ) → Keeps (stored e v line site)
keeps_stored None v line site = λ s sized. sized
keeps_stored (Some e) v line site = keeps_put (access kind.Write e site line (fitted v e.width)) (λ is. cc)

keeps_operated : (v : Option ℤ) (line : ℕ) → Keeps (operated v line)
keeps_operated None line = λ s sized. sized
keeps_operated (Some v) line = λ s sized. sized

keeps_loaded : (e : Option Element) (line site : ℕ) → IfSome e IsPlacedElement → Keeps (loaded e line site)
unfolding read
keeps_loaded None line site placed s sized = sized
keeps_loaded (Some e) line site placed s sized = by s.room s.reads
  where
    by : (room : ℕ) (reads : List ℤ) → AreSized (state_of (read_in room reads e site line s)).records
    by zero reads = sized
    by (suc room) [] = sized
    by (suc room) (v ∷ reads) = sized_both s.records (access kind.Read e site line (fitted v e.width) ∷ []) sized ((λ is. placed.width), tt)

-- ---- statements

module _ (at : Site) (words : ℕ) (placed : ArePlaced at.arrays words) where
  keeps_value : (e : Term) → Keeps (value at e)
  unfolding value
  keeps_value (Number n) = λ s sized. sized
  keeps_value (Slot k) = λ s sized. sized
  keeps_value Tid = λ s sized. sized
  keeps_value Span = λ s sized. sized
  keeps_value (Load array index line site) =
      keeps_then (value at index) (λ i s. loaded (element_at at.arrays array i) line site s) (keeps_value index)
      (λ i. keeps_loaded (element_at at.arrays array i) line site (placed_element at.arrays words array i placed))
  keeps_value (Neg operand) = keeps_then (value at operand) (λ v s. Gives (negated v) s) (keeps_value operand) (λ v s sized. sized)
  keeps_value (Binary op line left right) =
      keeps_then (value at left) (λ x s. and_then (value at right s) (λ y s. operated (applied op x y) line s)) (keeps_value left) (λ x.
      keeps_then (value at right) (λ y s. operated (applied op x y) line s) (keeps_value right) (λ y. keeps_operated (applied op x y) line))

  keeps_run : (code : Code) → IsFixed code → Keeps (run at code)
  unfolding run
  keeps_run Done fixed = λ s sized. sized
  keeps_run (Set slot e rest) fixed =
      keeps_then (value at e) (λ v s. run at rest (assign slot v s)) (keeps_value e) (λ v s sized. keeps_run rest fixed (assign slot v s) sized)
  keeps_run (Store array index e line site rest) fixed =
      keeps_then (value at index) (λ i s. and_then (value at e s) (λ v s. after (stored (element_at at.arrays array i) v line site s) (run at rest))) (keeps_value index) (λ i.
      keeps_then (value at e) (λ v s. after (stored (element_at at.arrays array i) v line site s) (run at rest)) (keeps_value e) (λ v.
      keeps_after (stored (element_at at.arrays array i) v line site) (run at rest) (keeps_stored (element_at at.arrays array i) v line site) (keeps_run rest fixed)))
  keeps_run (Update array index e minus line site rest) fixed = absurd fixed
  keeps_run (If test if_true if_false rest) fixed =
      keeps_then (value at test) (λ v s. after (branch v (run at if_true) (run at if_false) s) (run at rest)) (keeps_value test) (λ v.
      keeps_after (branch v (run at if_true) (run at if_false)) (run at rest)
      (keeps_branch v (run at if_true) (run at if_false) (keeps_run if_true fixed.0) (keeps_run if_false fixed.1)) (keeps_run rest fixed.2))
  keeps_run (Loop slot from to body rest) fixed =
      keeps_then (value at from) (λ a s. and_then (value at to s) (λ b s. after (turns (total_of a b) 0 (λ i s. run at body (assign slot (a +ℤ pos i) s)) s) (run at rest))) (keeps_value from) (λ a.
      keeps_then (value at to) (λ b s. after (turns (total_of a b) 0 (λ i s. run at body (assign slot (a +ℤ pos i) s)) s) (run at rest)) (keeps_value to) (λ b.
      keeps_after (turns (total_of a b) 0 (λ i s. run at body (assign slot (a +ℤ pos i) s))) (run at rest)
      (keeps_turns (total_of a b) 0 (λ i s. run at body (assign slot (a +ℤ pos i) s)) (λ i s sized. keeps_run body fixed.0 (assign slot (a +ℤ pos i) s) sized))
      (keeps_run rest fixed.1)))
  keeps_run (Parallel span line end body rest) fixed =
      keeps_after (put (event kind.Region line 0 span)) (λ s. run at rest (forked (record { span = span; line = line; end = end; body = body }) s))
      (keeps_put (event kind.Region line 0 span) (λ is. cc)) (λ s sized. keeps_run rest fixed.1 (forked (record { span = span; line = line; end = end; body = body }) s) sized)
  keeps_run (For slot from to schedule nowait line end body rest) fixed =
      keeps_then (value at from) (λ a s. and_then (value at to s) (λ b s. after (shared schedule at line (total_of a b) (λ i s. run at body (assign slot (a +ℤ pos i) s)) s) (λ s. after (loop_end nowait end s) (run at rest)))) (keeps_value from) (λ a.
      keeps_then (value at to) (λ b s. after (shared schedule at line (total_of a b) (λ i s. run at body (assign slot (a +ℤ pos i) s)) s) (λ s. after (loop_end nowait end s) (run at rest))) (keeps_value to) (λ b.
      keeps_after (shared schedule at line (total_of a b) (λ i s. run at body (assign slot (a +ℤ pos i) s))) (λ s. after (loop_end nowait end s) (run at rest))
      (keeps_shared schedule at line (total_of a b) (λ i s. run at body (assign slot (a +ℤ pos i) s)) fixed.0 (λ i s sized. keeps_run body fixed.1 (assign slot (a +ℤ pos i) s) sized))
      (keeps_after (loop_end nowait end) (run at rest) (keeps_loop_end nowait end) (keeps_run rest fixed.2))))
  keeps_run (Barrier line rest) fixed = keeps_after (put (event kind.Barrier line 0 0)) (run at rest) (keeps_put (event kind.Barrier line 0 0) (λ is. cc)) (keeps_run rest fixed)
  keeps_run (Critical mutex line end body rest) fixed = absurd fixed

-- the records of a task, under whatever it reads
pub trace_sized : (program : Program) (start : Start) (reads : List ℤ) (chunks : List ℕ) → IsBounded program → IsFixed start.team.body
    → AreSized (state_of (task program start reads chunks)).records
unfolding task
trace_sized program start reads chunks bounded fixed =
    keeps_after (run (site_of program start) start.team.body) (put (event kind.End start.team.end 0 0))
    (keeps_run (site_of program start) (elements program.arrays) (bounded_arrays_are_placed program bounded) start.team.body fixed)
    (keeps_put (event kind.End start.team.end 0 0) (λ is. cc)) (state_at start reads chunks) tt
