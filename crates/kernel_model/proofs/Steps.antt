-- A relation that each step of a task keeps, a whole run keeps.
use Rattle.std.proofs.Common.{◌≡◌, refl, ℕ, zero, suc, Bool, true, false, List, [], ◌∷◌, ℤ, pos, negsuc, ◌+ℤ◌, Option, Some, None, nat_lt, cond, sym, true≢false}
use Rattle.std.specs.Prelude.{◌||◌}
use Rattle.kernel_syntax.specs.declared.syntax.Schedule.{Schedule}
use Rattle.kernel_syntax.specs.declared.syntax.Schedule.TheVariants.{Even, Static, Dynamic}
use Rattle.log_format.specs.Fitting.{fitted}
use Rattle.kernel_syntax.specs.Arithmetic.{applied}
use Rattle.kernel_syntax.specs.Tree.{Term, Code, TeamTree, Number, Slot, Tid, Span, Load, Neg, Binary, Done, Set, Store, Update, If, Loop, Parallel, For, Barrier, Critical}
use Rattle.kernel_syntax.specs.Program.{Program}
use Rattle.log_format.specs.declared.record.Record.{Record}
use Rattle.log_format.specs.declared.record.Kind.TheVariants as kind
use Rattle.kernel_model.specs.State.{State, Outcome, Gives, Stops, Wants, and_then, after, put, put_in, event, assign, state_of}
use Rattle.kernel_model.specs.Value.{Site, Element, element_at, access, read, read_in, loaded, operated, value}
use Rattle.kernel_model.specs.Iterations.{total_of, even_iterations, static_iterations, chunk_count, chunk_iterations}
use Rattle.kernel_model.specs.Trace.{stored, updated, amount_of, branch, turns, each, drawn, draw, draw_in, draws, shared, loop_end, forked, run, task, Start, site_of, state_at}
use Rattle.kernel_model.proofs.SingleSteps.{with_record, KeepsPlainSteps, KeepsUpdates, KeepsBarriers, KeepsEnds, KeepsSteps}
use Rattle.kernel_model.specs.Lawful.{code_holds_work}

-- what a part of a task does, as a function of its state
abbrev pub Part : Type 0
Part = State → Outcome (Unit {0})

-- the parts that fork no region
module _ (R : State → State → Type 0) (keeps : KeepsPlainSteps R) where
  abbrev pub Kept : {A : Type 0} → State → Outcome A → Type 0
  Kept s m = R s (state_of m)

  pub kept-and_then : {A B : Type 0} (s : State) (m : Outcome A) (next : A → State → Outcome B) → Kept s m →
      ((a : A) (t : State) → Kept t (next a t)) → Kept s (and_then m next)
  kept-and_then s (Gives a t) next first later = keeps.chain s t _ first (later a t)
  kept-and_then s (Stops why line t) next first later = first
  kept-and_then s (Wants t) next first later = first

  pub kept-after : (s : State) (m : Outcome (Unit {0})) (next : Part) → Kept s m → ((t : State) → Kept t (next t)) → Kept s (after m next)
  kept-after s (Gives a t) next first later = keeps.chain s t _ first (later t)
  kept-after s (Stops why line t) next first later = first
  kept-after s (Wants t) next first later = first

  kept-put_in : (room : ℕ) (r : Record) (s : State) → s.room ≡ room → ((more : ℕ) → s.room ≡ suc more → R s (with_record r more s)) →
      Kept s (put_in room r s)
  kept-put_in zero r s is step = keeps.same s
  kept-put_in (suc room) r s is step = step room is

  pub kept-put : (r : Record) (s : State) → ((room : ℕ) → s.room ≡ suc room → R s (with_record r room s)) → Kept s (put r s)
  unfolding put
  kept-put r s step = kept-put_in s.room r s refl step

  pub kept-bar : KeepsBarriers R → (line : ℕ) (s : State) → Kept s (put (event kind.Barrier line 0 0) s)
  kept-bar also line s = kept-put (event kind.Barrier line 0 0) s (λ room is. also.bars line room s is)

  kept-read_in : (room : ℕ) (reads : List ℤ) (e : Element) (site line : ℕ) (s : State) → s.room ≡ room → s.reads ≡ reads →
      Kept s (read_in room reads e site line s)
  kept-read_in zero reads e site line s is prefix = keeps.same s
  kept-read_in (suc room) [] e site line s is prefix = keeps.same s
  kept-read_in (suc room) (v ∷ reads) e site line s is prefix = keeps.reads e site line room v reads s is prefix

  pub kept-read : (e : Element) (site line : ℕ) (s : State) → Kept s (read e site line s)
  unfolding read
  kept-read e site line s = kept-read_in s.room s.reads e site line s refl refl

  pub kept-loaded : (e : Option Element) (line site : ℕ) (s : State) → Kept s (loaded e line site s)
  kept-loaded None line site s = keeps.same s
  kept-loaded (Some e) line site s = kept-read e site line s

  pub kept-operated : (v : Option ℤ) (line : ℕ) (s : State) → Kept s (operated v line s)
  kept-operated None line s = keeps.same s
  kept-operated (Some v) line s = keeps.same s

  pub kept-value : (at : Site) (e : Term) (s : State) → Kept s (value at e s)
  unfolding value
  kept-value at (Number n) s = keeps.same s
  kept-value at (Slot k) s = keeps.same s
  kept-value at Tid s = keeps.same s
  kept-value at Span s = keeps.same s
  kept-value at (Load array index line site) s =
      kept-and_then s (value at index s) _ (kept-value at index s) (λ i t. kept-loaded (element_at at.arrays array i) line site t)
  kept-value at (Neg operand) s = kept-and_then s (value at operand s) _ (kept-value at operand s) (λ v t. keeps.same t)
  kept-value at (Binary op line left right) s =
      kept-and_then s (value at left s) _ (kept-value at left s) (λ x t.
      kept-and_then t (value at right t) _ (kept-value at right t) (λ y u. kept-operated (applied op x y) line u))

  pub kept-stored : (e : Option Element) (v : ℤ) (line site : ℕ) (s : State) → Kept s (stored e v line site s)
  kept-stored None v line site s = keeps.same s
  kept-stored (Some e) v line site s = kept-put (access kind.Write e site line (fitted v e.width)) s (λ room is. keeps.writes _ room s is refl)

  pub kept-updated : KeepsUpdates R → (e : Option Element) (v : ℤ) (line site : ℕ) (s : State) → Kept s (updated e v line site s)
  kept-updated also None v line site s = keeps.same s
  kept-updated also (Some e) v line site s = kept-put (access kind.Update e site line (fitted v e.width)) s (λ room is. also.updates _ room s is refl)

  pub kept-branch : (v : ℤ) (if_true if_false : Part) (s : State) → Kept s (if_true s) → Kept s (if_false s) → Kept s (branch v if_true if_false s)
  kept-branch (pos zero) if_true if_false s one other = other
  kept-branch (pos (suc n)) if_true if_false s one other = one
  kept-branch (negsuc n) if_true if_false s one other = one

  pub kept-turns : (n i : ℕ) (turn : ℕ → Part) (s : State) → ((k : ℕ) (t : State) → Kept t (turn k t)) → Kept s (turns n i turn s)
  kept-turns zero i turn s each = keeps.same s
  kept-turns (suc n) i turn s each = kept-after s (turn i s) _ (each i s) (λ t. kept-turns n (suc i) turn t each)

  pub kept-each : (is : List ℕ) (turn : ℕ → Part) (s : State) → ((k : ℕ) (t : State) → Kept t (turn k t)) → Kept s (each is turn s)
  kept-each [] turn s each = keeps.same s
  kept-each (i ∷ is) turn s each = kept-after s (turn i s) _ (each i s) (λ t. kept-each is turn t each)

  kept-draw_in : (room : ℕ) (chunks : List ℕ) (line n : ℕ) (s : State) → s.room ≡ room → s.chunks ≡ chunks → Kept s (draw_in room chunks line n s)
  kept-draw_in zero chunks line n s is prefix = keeps.same s
  kept-draw_in (suc room) [] line n s is prefix = keeps.same s
  kept-draw_in (suc room) (q ∷ chunks) line n s is prefix = keeps.draws line n room q chunks s is prefix

  pub kept-draw : (line n : ℕ) (s : State) → Kept s (draw line n s)
  unfolding draw
  kept-draw line n s = kept-draw_in s.room s.chunks line n s refl refl

  kept-either : (b : Bool) (m : Outcome (Unit {0})) (s : State) → Kept s m → Kept s (cond b m (Gives tt s))
  kept-either true m s one = one
  kept-either false m s one = keeps.same s

  pub kept-drawn : (q n : ℕ) (chunk : ℕ → Part) (more : Part) (s : State) → ((k : ℕ) (t : State) → Kept t (chunk k t)) →
      ((t : State) → Kept t (more t)) → Kept s (drawn q n chunk more s)
  kept-drawn q n chunk more s each later = kept-either (nat_lt q n) _ s (kept-after s (chunk q s) more (each q s) later)

  pub kept-draws : (fuel line n : ℕ) (chunk : ℕ → Part) (s : State) → ((k : ℕ) (t : State) → Kept t (chunk k t)) → Kept s (draws fuel line n chunk s)
  kept-draws zero line n chunk s each = keeps.same s
  kept-draws (suc fuel) line n chunk s each =
      kept-and_then s (draw line n s) _ (kept-draw line n s) (λ q t.
      kept-drawn q n chunk (draws fuel line n chunk) t each (λ u. kept-draws fuel line n chunk u each))

  pub kept-shared : (schedule : Schedule) (at : Site) (line total : ℕ) (turn : ℕ → Part) (s : State) → ((k : ℕ) (t : State) → Kept t (turn k t)) →
      Kept s (shared schedule at line total turn s)
  kept-shared Even at line total turn s each = kept-each (even_iterations total at.lane at.span) turn s each
  kept-shared (Static chunk) at line total turn s each = kept-each (static_iterations chunk total at.lane at.span) turn s each
  kept-shared (Dynamic chunk) at line total turn s each =
      kept-draws s.room line (chunk_count chunk total) _ s (λ q t. kept-each (chunk_iterations chunk total q) turn t each)

  pub kept-loop_end : KeepsBarriers R → (nowait : Bool) (end : ℕ) (s : State) → Kept s (loop_end nowait end s)
  kept-loop_end also true end s = keeps.same s
  kept-loop_end also false end s = kept-bar also end s

-- whole tasks
module _ (R : State → State → Type 0) (all : KeepsSteps R) where
  abbrev keeps : KeepsPlainSteps R
  keeps = all.plain

  kept-fork_in : (room : ℕ) (team : TeamTree) (s : State) (next : Part) → s.room ≡ room → ((t : State) → Kept R keeps t (next t)) →
      Kept R keeps s (after (put_in room (event kind.Region team.line 0 team.span) s) (λ t. next (forked team t)))
  kept-fork_in zero team s next is later = keeps.same s
  kept-fork_in (suc room) team s next is later = keeps.chain s _ _ (all.forks team room s is) (later _)

  kept-fork : (team : TeamTree) (s : State) (next : Part) → ((t : State) → Kept R keeps t (next t)) →
      Kept R keeps s (after (put (event kind.Region team.line 0 team.span) s) (λ t. next (forked team t)))
  unfolding put
  kept-fork team s next later = kept-fork_in s.room team s next refl later

  -- barriers matter only where the statements hold work
  abbrev Bars : Bool → Type 0
  Bars work = work ≡ true → KeepsBarriers R

  left_bars : (a b : Bool) → Bars (a || b) → Bars a
  left_bars true b bars is = bars refl
  left_bars false b bars is = absurd (true≢false (sym is))

  right_bars : (a b : Bool) → Bars (a || b) → Bars b
  right_bars true b bars is = bars refl
  right_bars false b bars is = bars is

  pub kept-run : (at : Site) (code : Code) (s : State) → Bars (code_holds_work code) → Kept R keeps s (run at code s)
  unfolding run
  kept-run at Done s bars = keeps.same s
  kept-run at (Set slot e rest) s bars =
      kept-and_then R keeps s (value at e s) _ (kept-value R keeps at e s) (λ v t.
      keeps.chain t (assign slot v t) _ (keeps.assigns slot v t) (kept-run at rest (assign slot v t) bars))
  kept-run at (Store array index e line site rest) s bars =
      kept-and_then R keeps s (value at index s) _ (kept-value R keeps at index s) (λ i t.
      kept-and_then R keeps t (value at e t) _ (kept-value R keeps at e t) (λ v u.
      kept-after R keeps u (stored (element_at at.arrays array i) v line site u) (run at rest)
      (kept-stored R keeps (element_at at.arrays array i) v line site u)
      (λ w. kept-run at rest w bars)))
  kept-run at (Update array index e minus line site rest) s bars =
      kept-and_then R keeps s (value at index s) _ (kept-value R keeps at index s) (λ i t.
      kept-and_then R keeps t (value at e t) _ (kept-value R keeps at e t) (λ v u.
      kept-after R keeps u (updated (element_at at.arrays array i) (amount_of minus v) line site u) (run at rest)
      (kept-updated R keeps all.updates (element_at at.arrays array i) (amount_of minus v) line site u)
      (λ w. kept-run at rest w bars)))
  kept-run at (If test if_true if_false rest) s bars =
      let others = right_bars (code_holds_work if_true) (code_holds_work if_false || code_holds_work rest) bars in
      kept-and_then R keeps s (value at test s) _ (kept-value R keeps at test s) (λ v t.
      kept-after R keeps t (branch v (run at if_true) (run at if_false) t) (run at rest)
      (kept-branch R keeps v (run at if_true) (run at if_false) t
      (kept-run at if_true t (left_bars (code_holds_work if_true) (code_holds_work if_false || code_holds_work rest) bars))
      (kept-run at if_false t (left_bars (code_holds_work if_false) (code_holds_work rest) others)))
      (λ w. kept-run at rest w (right_bars (code_holds_work if_false) (code_holds_work rest) others)))
  kept-run at (Loop slot from to body rest) s bars =
      kept-and_then R keeps s (value at from s) _ (kept-value R keeps at from s) (λ a t.
      kept-and_then R keeps t (value at to t) _ (kept-value R keeps at to t) (λ b u.
      kept-after R keeps u (turns (total_of a b) 0 (λ i w. run at body (assign slot (a +ℤ pos i) w)) u) (run at rest)
      (kept-turns R keeps (total_of a b) 0 (λ i w. run at body (assign slot (a +ℤ pos i) w)) u
      (λ i w. keeps.chain w (assign slot (a +ℤ pos i) w) _ (keeps.assigns slot (a +ℤ pos i) w)
      (kept-run at body (assign slot (a +ℤ pos i) w) (left_bars (code_holds_work body) (code_holds_work rest) bars))))
      (λ w. kept-run at rest w (right_bars (code_holds_work body) (code_holds_work rest) bars))))
  kept-run at (Parallel span line end body rest) s bars =
      kept-fork (record { span = span; line = line; end = end; body = body }) s (run at rest) (λ w. kept-run at rest w bars)
  kept-run at (For slot from to schedule nowait line end body rest) s bars =
      kept-and_then R keeps s (value at from s) _ (kept-value R keeps at from s) (λ a t.
      kept-and_then R keeps t (value at to t) _ (kept-value R keeps at to t) (λ b u.
      kept-after R keeps u (shared schedule at line (total_of a b) (λ i w. run at body (assign slot (a +ℤ pos i) w)) u) _
      (kept-shared R keeps schedule at line (total_of a b) (λ i w. run at body (assign slot (a +ℤ pos i) w)) u
      (λ i w. keeps.chain w (assign slot (a +ℤ pos i) w) _ (keeps.assigns slot (a +ℤ pos i) w)
      (kept-run at body (assign slot (a +ℤ pos i) w) (λ is. bars refl))))
      (λ w. kept-after R keeps w (loop_end nowait end w) (run at rest) (kept-loop_end R keeps (bars refl) nowait end w)
      (λ x. kept-run at rest x (λ is. bars refl)))))
  kept-run at (Barrier line rest) s bars =
      kept-after R keeps s (put (event kind.Barrier line 0 0) s) (run at rest) (kept-bar R keeps (bars refl) line s)
      (λ w. kept-run at rest w (λ is. bars refl))
  kept-run at (Critical mutex line end body rest) s bars =
      kept-after R keeps s (put (event kind.Lock line mutex 0) s) _ (kept-put R keeps (event kind.Lock line mutex 0) s (λ room is. all.marks _ room s is tt)) (λ t.
      kept-after R keeps t (run at body t) _ (kept-run at body t (left_bars (code_holds_work body) (code_holds_work rest) bars)) (λ u.
      kept-after R keeps u (put (event kind.Unlock end mutex 0) u) (run at rest) (kept-put R keeps (event kind.Unlock end mutex 0) u (λ room is. all.marks _ room u is tt))
      (λ w. kept-run at rest w (right_bars (code_holds_work body) (code_holds_work rest) bars))))

  -- a worksharing loop without the barrier at its end
  pub kept-waitless : (at : Site) (slot : ℕ) (from to : Term) (schedule : Schedule) (line end : ℕ) (body : Code) (s : State) → Bars (code_holds_work body) →
      Kept R keeps s (run at (For slot from to schedule true line end body Done) s)
  unfolding run
  kept-waitless at slot from to schedule line end body s bars =
      kept-and_then R keeps s (value at from s) _ (kept-value R keeps at from s) (λ a t.
      kept-and_then R keeps t (value at to t) _ (kept-value R keeps at to t) (λ b u.
      kept-after R keeps u (shared schedule at line (total_of a b) (λ i w. run at body (assign slot (a +ℤ pos i) w)) u) _
      (kept-shared R keeps schedule at line (total_of a b) (λ i w. run at body (assign slot (a +ℤ pos i) w)) u
      (λ i w. keeps.chain w (assign slot (a +ℤ pos i) w) _ (keeps.assigns slot (a +ℤ pos i) w)
      (kept-run at body (assign slot (a +ℤ pos i) w) bars)))
      (λ w. keeps.same w)))

  pub kept-task : KeepsBarriers R → KeepsEnds R → (program : Program) (start : Start) (reads : List ℤ) (chunks : List ℕ) →
      Kept R keeps (state_at start reads chunks) (task program start reads chunks)
  unfolding task
  kept-task also ends program start reads chunks =
      kept-after R keeps (state_at start reads chunks) (run (site_of program start) start.team.body (state_at start reads chunks)) _
      (kept-run (site_of program start) start.team.body (state_at start reads chunks) (λ is. also))
      (λ t. kept-put R keeps (event kind.End start.team.end 0 0) t (λ room is. ends.ends start.team.end room t is))
