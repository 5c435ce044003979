-- Whatever a task ends in, each record that it puts has a line, and so do the statements of the regions that it forks.
use Rattle.std.proofs.Common.{refl, sym, subst, ℕ, zero, suc, ◌≤◌, Bool, true, false, List, [], ◌∷◌, ℤ, pos, negsuc, ◌+ℤ◌, Option, Some, None, nat_lt, cond, All}
use Rattle.log_format.specs.declared.record.Record.{Record}
use Rattle.log_format.specs.declared.record.Kind.TheVariants as kind
use Rattle.log_format.specs.Fitting.{fitted}
use Rattle.kernel_syntax.specs.Arithmetic.{applied}
use Rattle.kernel_syntax.specs.Bounds.{IsBoundedCode, IsBoundedTerm, IsLine}
use Rattle.kernel_syntax.specs.declared.syntax.Schedule.{Schedule}
use Rattle.kernel_syntax.specs.declared.syntax.Schedule.TheVariants.{Even, Static, Dynamic}
use Rattle.kernel_syntax.specs.Program.{Program}
use Rattle.kernel_syntax.specs.Tree.{Term, Code, TeamTree, Number, Slot, Tid, Span, Load, Neg, Binary, Done, Set, Store, Update, If, Loop, Parallel, For, Barrier, Critical}
use Rattle.kernel_model.specs.Folder.{own_trace}
use Rattle.kernel_model.specs.Iterations.{total_of, even_iterations, static_iterations, chunk_count, chunk_iterations}
use Rattle.kernel_model.specs.State.{State, Fork, Outcome, Gives, Stops, Wants, and_then, after, assign, put, put_in, event, state_of, reads_of, chunks_of}
use Rattle.kernel_model.specs.Trace.{Start, amount_of, branch, draw, draw_in, draws, each, forked, loop_end, run, shared, site_of, state_at, stored, task, turns, updated}
use Rattle.kernel_rules.proofs.Adds.{AddsSo, StaysSo, AreSo, adds_nothing, adds_record, adds_fork, adds_chain, each_stays, one_so, fork_so}
use Rattle.kernel_model.specs.Value.{Site, Element, access, element_at, loaded, operated, read, read_in, value}

abbrev pub HasLine : Record → Type 0
HasLine r = 1 ≤ r.line

-- a team whose statements stand at lines, and its end
pub record IsLined (team : TeamTree) : Type 0 where
  pub body : IsBoundedCode team.body
  pub end : IsLine team.end

abbrev pub IsLinedFork : Fork → Type 0
IsLinedFork fork = IsLined fork.team

stays : StaysSo (AreSo HasLine IsLinedFork)
stays = each_stays HasLine IsLinedFork

abbrev Does : {A : Type 0} → State → Outcome A → Type 0
Does s m = AddsSo (AreSo HasLine IsLinedFork) s (state_of m)

same : (s : State) → AddsSo (AreSo HasLine IsLinedFork) s s
same s = adds_nothing stays s s refl refl

does_and_then : {A B : Type 0} (s : State) (m : Outcome A) (next : A → State → Outcome B) → Does s m → ((a : A) (t : State) → Does t (next a t)) → Does s (and_then m next)
does_and_then s (Gives a t) next first later = adds_chain stays s t (state_of (next a t)) first (later a t)
does_and_then s (Stops why line t) next first later = first
does_and_then s (Wants t) next first later = first

does_after : (s : State) (m : Outcome (Unit {0})) (next : State → Outcome (Unit {0})) → Does s m → ((t : State) → Does t (next t)) → Does s (after m next)
does_after s (Gives a t) next first later = adds_chain stays s t (state_of (next t)) first (later t)
does_after s (Stops why line t) next first later = first
does_after s (Wants t) next first later = first

does_put_in : (room : ℕ) (r : Record) (s : State) → HasLine r → Does s (put_in room r s)
does_put_in zero r s line = same s
does_put_in (suc room) r s line = adds_record r s _ (one_so HasLine IsLinedFork r line) refl refl

does_put : (r : Record) (s : State) → HasLine r → Does s (put r s)
unfolding put
does_put r s line = does_put_in s.room r s line

does_assigned : (slot : ℕ) (v : ℤ) (s : State) (m : Outcome (Unit {0})) → Does (assign slot v s) m → Does s m
does_assigned slot v s m does = adds_chain stays s (assign slot v s) (state_of m) (adds_nothing stays s (assign slot v s) refl refl) does

does_branch : (v : ℤ) (if_true if_false : State → Outcome (Unit {0})) (s : State) → Does s (if_true s) → Does s (if_false s) → Does s (branch v if_true if_false s)
does_branch (pos zero) if_true if_false s one other = other
does_branch (pos (suc n)) if_true if_false s one other = one
does_branch (negsuc n) if_true if_false s one other = one

does_turns : (n i : ℕ) (turn : ℕ → State → Outcome (Unit {0})) (s : State) → ((k : ℕ) (t : State) → Does t (turn k t)) → Does s (turns n i turn s)
does_turns zero i turn s all = same s
does_turns (suc n) i turn s all = does_after s (turn i s) _ (all i s) (λ t. does_turns n (suc i) turn t all)

does_each : (is : List ℕ) (turn : ℕ → State → Outcome (Unit {0})) (s : State) → ((k : ℕ) (t : State) → Does t (turn k t)) → Does s (each is turn s)
does_each [] turn s all = same s
does_each (i ∷ is) turn s all = does_after s (turn i s) _ (all i s) (λ t. does_each is turn t all)

does_draw_in : (room : ℕ) (chunks : List ℕ) (line n : ℕ) (s : State) → 1 ≤ line → Does s (draw_in room chunks line n s)
does_draw_in zero chunks line n s some = same s
does_draw_in (suc room) [] line n s some = same s
does_draw_in (suc room) (q ∷ chunks) line n s some = adds_record _ s _ (one_so HasLine IsLinedFork _ some) refl refl

does_draw : (line n : ℕ) (s : State) → 1 ≤ line → Does s (draw line n s)
unfolding draw
does_draw line n s some = does_draw_in s.room s.chunks line n s some

does_either : (b : Bool) (m : Outcome (Unit {0})) (s : State) → Does s m → Does s (cond b m (Gives tt s))
does_either true m s one = one
does_either false m s one = same s

does_draws : (fuel line n : ℕ) (chunk : ℕ → State → Outcome (Unit {0})) (s : State) → 1 ≤ line → ((k : ℕ) (t : State) → Does t (chunk k t)) → Does s (draws fuel line n chunk s)
does_draws zero line n chunk s some all = same s
does_draws (suc fuel) line n chunk s some all =
    does_and_then s (draw line n s) _ (does_draw line n s some) (λ q t.
    does_either (nat_lt q n) _ t (does_after t (chunk q t) (draws fuel line n chunk) (all q t) (λ u. does_draws fuel line n chunk u some all)))

-- ---- the terms and statements of a task

module _ (at : Site) where
  does_read_in : (room : ℕ) (reads : List ℤ) (e : Element) (site line : ℕ) (s : State) → 1 ≤ line → Does s (read_in room reads e site line s)
  does_read_in zero reads e site line s some = same s
  does_read_in (suc room) [] e site line s some = same s
  does_read_in (suc room) (v ∷ reads) e site line s some = adds_record _ s _ (one_so HasLine IsLinedFork _ some) refl refl

  does_loaded : (e : Option Element) (line site : ℕ) (s : State) → 1 ≤ line → Does s (loaded e line site s)
  unfolding read
  does_loaded None line site s some = same s
  does_loaded (Some e) line site s some = does_read_in s.room s.reads e site line s some

  does_operated : (o : Option ℤ) (line : ℕ) (s : State) → Does s (operated o line s)
  does_operated None line s = same s
  does_operated (Some v) line s = same s

  does_value : (e : Term) (s : State) → IsBoundedTerm e → Does s (value at e s)
  unfolding value
  does_value (Number n) s b = same s
  does_value (Slot k) s b = same s
  does_value Tid s b = same s
  does_value Span s b = same s
  does_value (Load array index line site) s b =
      does_and_then s (value at index s) _ (does_value index s b.1) (λ i t. does_loaded (element_at at.arrays array i) line site t b.0.line_is.some)
  does_value (Neg operand) s b = does_and_then s (value at operand s) _ (does_value operand s b) (λ v t. same t)
  does_value (Binary op line left right) s b =
      does_and_then s (value at left s) _ (does_value left s b.1) (λ x t.
      does_and_then t (value at right t) _ (does_value right t b.2) (λ y u. does_operated (applied op x y) line u))

  does_stored : (e : Option Element) (v : ℤ) (line site : ℕ) (s : State) → 1 ≤ line → Does s (stored e v line site s)
  does_stored None v line site s some = same s
  does_stored (Some e) v line site s some = does_put (access kind.Write e site line (fitted v e.width)) s some

  does_updated : (e : Option Element) (v : ℤ) (line site : ℕ) (s : State) → 1 ≤ line → Does s (updated e v line site s)
  does_updated None v line site s some = same s
  does_updated (Some e) v line site s some = does_put (access kind.Update e site line (fitted v e.width)) s some

  does_shared : (schedule : Schedule) (line total : ℕ) (turn : ℕ → State → Outcome (Unit {0})) (s : State) → 1 ≤ line → ((k : ℕ) (t : State) → Does t (turn k t)) → Does s (shared schedule at line total turn s)
  does_shared Even line total turn s some all = does_each (even_iterations total at.lane at.span) turn s all
  does_shared (Static chunk) line total turn s some all = does_each (static_iterations chunk total at.lane at.span) turn s all
  does_shared (Dynamic chunk) line total turn s some all =
      does_draws s.room line (chunk_count chunk total) _ s some (λ q t. does_each (chunk_iterations chunk total q) turn t all)

  does_loop_end : (nowait : Bool) (end : ℕ) (s : State) → 1 ≤ end → Does s (loop_end nowait end s)
  does_loop_end true end s some = same s
  does_loop_end false end s some = does_put (event kind.Barrier end 0 0) s some

  does_forked : (team : TeamTree) (s : State) (next : State → Outcome (Unit {0})) → IsLined team → Does (forked team s) (next (forked team s)) → Does s (next (forked team s))
  does_forked team s next lined later =
      let fork : Fork = record { team = team; slots = s.slots } in
      adds_chain stays s (forked team s) (state_of (next (forked team s))) (adds_fork s (forked team s) fork (fork_so HasLine IsLinedFork fork lined) refl refl) later

  does_run : (code : Code) (s : State) → IsBoundedCode code → Does s (run at code s)
  unfolding run
  does_run Done s b = same s
  does_run (Set slot e rest) s b =
      does_and_then s (value at e s) _ (does_value e s b.0) (λ v t. does_assigned slot v t (run at rest (assign slot v t)) (does_run rest (assign slot v t) b.1))
  does_run (Store array index e line site rest) s b =
      does_and_then s (value at index s) _ (does_value index s b.1) (λ i t.
      does_and_then t (value at e t) _ (does_value e t b.2) (λ v u.
      does_after u (stored (element_at at.arrays array i) v line site u) (run at rest) (does_stored (element_at at.arrays array i) v line site u b.0.line_is.some) (λ w. does_run rest w b.3)))
  does_run (Update array index e minus line site rest) s b =
      does_and_then s (value at index s) _ (does_value index s b.1) (λ i t.
      does_and_then t (value at e t) _ (does_value e t b.2) (λ v u.
      does_after u (updated (element_at at.arrays array i) (amount_of minus v) line site u) (run at rest)
      (does_updated (element_at at.arrays array i) (amount_of minus v) line site u b.0.line_is.some) (λ w. does_run rest w b.3)))
  does_run (If test if_true if_false rest) s b =
      does_and_then s (value at test s) _ (does_value test s b.0) (λ v t.
      does_after t (branch v (run at if_true) (run at if_false) t) (run at rest)
      (does_branch v (run at if_true) (run at if_false) t (does_run if_true t b.1) (does_run if_false t b.2)) (λ w. does_run rest w b.3))
  does_run (Loop slot from to body rest) s b =
      does_and_then s (value at from s) _ (does_value from s b.0) (λ a t.
      does_and_then t (value at to t) _ (does_value to t b.1) (λ c u.
      does_after u (turns (total_of a c) 0 (λ i w. run at body (assign slot (a +ℤ pos i) w)) u) (run at rest)
      (does_turns (total_of a c) 0 (λ i w. run at body (assign slot (a +ℤ pos i) w)) u (λ k w. does_assigned slot (a +ℤ pos k) w (run at body (assign slot (a +ℤ pos k) w)) (does_run body (assign slot (a +ℤ pos k) w) b.2)))
      (λ w. does_run rest w b.3)))
  does_run (Parallel span line end body rest) s b =
      does_after s (put (event kind.Region line 0 span) s) _ (does_put (event kind.Region line 0 span) s b.1.some) (λ t.
      does_forked (record { span = span; line = line; end = end; body = body }) t (run at rest) (record { body = b.3; end = b.2 }) (does_run rest _ b.4))
  does_run (For slot from to schedule nowait line end body rest) s b =
      does_and_then s (value at from s) _ (does_value from s b.0) (λ a t.
      does_and_then t (value at to t) _ (does_value to t b.1) (λ c u.
      does_after u (shared schedule at line (total_of a c) (λ i w. run at body (assign slot (a +ℤ pos i) w)) u) _
      (does_shared schedule line (total_of a c) (λ i w. run at body (assign slot (a +ℤ pos i) w)) u b.3.some (λ k w. does_assigned slot (a +ℤ pos k) w (run at body (assign slot (a +ℤ pos k) w)) (does_run body (assign slot (a +ℤ pos k) w) b.5)))
      (λ w. does_after w (loop_end nowait end w) (run at rest) (does_loop_end nowait end w b.4.some) (λ x. does_run rest x b.6))))
  does_run (Barrier line rest) s b = does_after s (put (event kind.Barrier line 0 0) s) (run at rest) (does_put (event kind.Barrier line 0 0) s b.0.some) (λ t. does_run rest t b.1)
  does_run (Critical mutex line end body rest) s b =
      does_after s (put (event kind.Lock line mutex 0) s) _ (does_put (event kind.Lock line mutex 0) s b.1.some) (λ t.
      does_after t (run at body t) _ (does_run body t b.3) (λ u.
      does_after u (put (event kind.Unlock end mutex 0) u) (run at rest) (does_put (event kind.Unlock end mutex 0) u b.2.some) (λ w. does_run rest w b.4)))

-- ---- a task

module _ (program : Program) (start : Start) (lined : IsLined start.team) where
  does_task : (reads : List ℤ) (chunks : List ℕ) → Does (state_at start reads chunks) (task program start reads chunks)
  unfolding task
  does_task reads chunks =
      let first = state_at start reads chunks in
      let site = site_of program start in
      does_after first (run site start.team.body first) (put (event kind.End start.team.end 0 0)) (does_run site start.team.body first lined.body) (λ t. does_put (event kind.End start.team.end 0 0) t lined.end.some)

  pub trace_lined : (records : List Record) → All HasLine (own_trace program start records).records × All IsLinedFork (own_trace program start records).forks
  trace_lined records =
      let does = does_task (reads_of records) (chunks_of records) in
      (subst (All HasLine) (sym does.records_are) does.is.0, subst (All IsLinedFork) (sym does.forks_are) does.is.1)
