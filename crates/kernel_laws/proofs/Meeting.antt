-- The lanes of a region of a lawful kernel meet the same barriers, whatever was read and drawn.
use Rattle.std.proofs.Common.{◌≡◌, refl, sym, ap, ◌∙◌, subst, ℕ, ◌≤◌, ◌+ℤ◌, ℤ, pos, Bool, true, false, cond, nat_lt, List, [], ◌∷◌, ◌++◌, zero, suc, Option, Some, None, slice_get, All}
use Rattle.std.specs.Prelude.{◌==◌, ◌&&◌}
use Rattle.std.proofs.lemmas.List.Elements.{All-nil, All-push}
use Rattle.std.proofs.lemmas.Option.{same_Some, none-some}
use Rattle.sw_base.specs.declared.path.Step.{Step}
use Rattle.kernel_model.proofs.Starts.{nothing_below}
use Rattle.log_format.specs.declared.record.Record.{Record}
use Rattle.log_format.specs.declared.record.Kind.TheVariants as kind
use Rattle.race_model.specs.Trace.{Logs, barrier_count}
use Rattle.race_model.proofs.TraceLogs.{all_at}
use Rattle.kernel_syntax.specs.Program.{Program}
use Rattle.kernel_syntax.specs.Tree.{Code, TeamTree, Done, Set, Store, Update, If, Loop, Parallel, For, Barrier, Critical}
use Rattle.kernel_model.specs.State.{State, Fork, after, put, put_in, event, assign, reads_of, chunks_of}
use Rattle.kernel_model.specs.Value.{Site, element_at, value}
use Rattle.kernel_model.specs.Iterations.{total_of}
use Rattle.kernel_model.specs.Trace.{stored, updated, amount_of, branch, turns, shared, loop_end, forked, run, task, trace, Start, Ended, site_of, state_at}
use Rattle.kernel_model.specs.Folder.{own_trace, root_start, lane_start, start_at, start_below}
use Rattle.kernel_model.specs.Lawful.{IsEven, IsLawful}
use Rattle.kernel_model.specs.Parts.{parts_of, bar_count}
use Rattle.kernel_model.proofs.SingleSteps.{KeepsPlainSteps, KeepsUpdates, KeepsBarriers}
use Rattle.kernel_model.proofs.Steps.{Part, Kept, kept-and_then, kept-after, kept-put, kept-bar, kept-value, kept-stored, kept-updated, kept-branch, kept-turns, kept-shared, kept-loop_end}
use Rattle.kernel_rules.proofs.SameBarriers.{ended_barriers, most_barriers}

-- ---- every team that a task forks is even

abbrev IsEvenFork : Fork → Type 0
IsEvenFork f = IsEven f.team.body

abbrev ForksEven : State → State → Type 0
ForksEven s t = All IsEvenFork s.forks → All IsEvenFork t.forks

keeps : KeepsPlainSteps ForksEven
keeps = record {
  same = λ s even. even;
  chain = λ a b c one more even. more (one even);
  assigns = λ slot v s even. even;
  writes = λ r room s is write even. even;
  reads = λ e site line room v reads s is prefix even. even;
  draws = λ line n room q chunks s is prefix even. even;
}

updates : KeepsUpdates ForksEven
updates = record { updates = λ r room s is update even. even }

bars : KeepsBarriers ForksEven
bars = record { bars = λ line room s is even. even }

even-fork_in : (room : ℕ) (team : TeamTree) (r : Record) (s : State) (next : Part) → IsEven team.body → ((t : State) → Kept ForksEven keeps t (next t)) →
    Kept ForksEven keeps s (after (put_in room r s) (λ t. next (forked team t)))
even-fork_in zero team r s next even later forks = forks
even-fork_in (suc room) team r s next even later forks = later _ (All-push IsEvenFork s.forks (record { team = team; slots = s.slots }) forks even)

even-fork : (team : TeamTree) (r : Record) (s : State) (next : Part) → IsEven team.body → ((t : State) → Kept ForksEven keeps t (next t)) →
    Kept ForksEven keeps s (after (put r s) (λ t. next (forked team t)))
unfolding put
even-fork team r s next even later = even-fork_in s.room team r s next even later

even-run : (at : Site) (code : Code) (s : State) → IsEven code → Kept ForksEven keeps s (run at code s)
unfolding run
even-run at Done s even = keeps.same s
even-run at (Set slot e rest) s even =
    kept-and_then ForksEven keeps s (value at e s) _ (kept-value ForksEven keeps at e s) (λ v t.
    even-run at rest (assign slot v t) even)
even-run at (Store array index e line site rest) s even =
    kept-and_then ForksEven keeps s (value at index s) _ (kept-value ForksEven keeps at index s) (λ i t.
    kept-and_then ForksEven keeps t (value at e t) _ (kept-value ForksEven keeps at e t) (λ v u.
    kept-after ForksEven keeps u (stored (element_at at.arrays array i) v line site u) (run at rest)
    (kept-stored ForksEven keeps (element_at at.arrays array i) v line site u)
    (λ w. even-run at rest w even)))
even-run at (Update array index e minus line site rest) s even =
    kept-and_then ForksEven keeps s (value at index s) _ (kept-value ForksEven keeps at index s) (λ i t.
    kept-and_then ForksEven keeps t (value at e t) _ (kept-value ForksEven keeps at e t) (λ v u.
    kept-after ForksEven keeps u (updated (element_at at.arrays array i) (amount_of minus v) line site u) (run at rest)
    (kept-updated ForksEven keeps updates (element_at at.arrays array i) (amount_of minus v) line site u)
    (λ w. even-run at rest w even)))
even-run at (If test if_true if_false rest) s even =
    kept-and_then ForksEven keeps s (value at test s) _ (kept-value ForksEven keeps at test s) (λ v t.
    kept-after ForksEven keeps t (branch v (run at if_true) (run at if_false) t) (run at rest)
    (kept-branch ForksEven keeps v (run at if_true) (run at if_false) t (even-run at if_true t even.2) (even-run at if_false t even.3))
    (λ w. even-run at rest w even.4))
even-run at (Loop slot from to body rest) s even =
    kept-and_then ForksEven keeps s (value at from s) _ (kept-value ForksEven keeps at from s) (λ a t.
    kept-and_then ForksEven keeps t (value at to t) _ (kept-value ForksEven keeps at to t) (λ b u.
    kept-after ForksEven keeps u (turns (total_of a b) 0 (λ i w. run at body (assign slot (a +ℤ pos i) w)) u) (run at rest)
    (kept-turns ForksEven keeps (total_of a b) 0 (λ i w. run at body (assign slot (a +ℤ pos i) w)) u
    (λ i w. even-run at body (assign slot (a +ℤ pos i) w) even.1))
    (λ w. even-run at rest w even.2)))
even-run at (Parallel span line end body rest) s even =
    even-fork (record { span = span; line = line; end = end; body = body }) (event kind.Region line 0 span) s (run at rest) even.0
    (λ w. even-run at rest w even.1)
even-run at (For slot from to schedule nowait line end body rest) s even =
    kept-and_then ForksEven keeps s (value at from s) _ (kept-value ForksEven keeps at from s) (λ a t.
    kept-and_then ForksEven keeps t (value at to t) _ (kept-value ForksEven keeps at to t) (λ b u.
    kept-after ForksEven keeps u (shared schedule at line (total_of a b) (λ i w. run at body (assign slot (a +ℤ pos i) w)) u) _
    (kept-shared ForksEven keeps schedule at line (total_of a b) (λ i w. run at body (assign slot (a +ℤ pos i) w)) u
    (λ i w. even-run at body (assign slot (a +ℤ pos i) w) even.1))
    (λ w. kept-after ForksEven keeps w (loop_end nowait end w) (run at rest) (kept-loop_end ForksEven keeps bars nowait end w)
    (λ x. even-run at rest x even.2))))
even-run at (Barrier line rest) s even =
    kept-after ForksEven keeps s (put (event kind.Barrier line 0 0) s) (run at rest) (kept-bar ForksEven keeps bars line s) (λ w. even-run at rest w even)
even-run at (Critical mutex line end body rest) s even =
    kept-after ForksEven keeps s (put (event kind.Lock line mutex 0) s) _ (kept-put ForksEven keeps (event kind.Lock line mutex 0) s (λ room is forks. forks)) (λ t.
    kept-after ForksEven keeps t (run at body t) _ (even-run at body t even.1) (λ u.
    kept-after ForksEven keeps u (put (event kind.Unlock end mutex 0) u) (run at rest)
    (kept-put ForksEven keeps (event kind.Unlock end mutex 0) u (λ room is forks. forks))
    (λ w. even-run at rest w even.2)))

even-task : (program : Program) (start : Start) (reads : List ℤ) (chunks : List ℕ) → IsEven start.team.body →
    All IsEvenFork (trace program start reads chunks).forks
unfolding task
even-task program start reads chunks even =
    kept-after ForksEven keeps (state_at start reads chunks) (run (site_of program start) start.team.body (state_at start reads chunks)) _
    (even-run (site_of program start) start.team.body (state_at start reads chunks) even)
    (λ t. kept-put ForksEven keeps (event kind.End start.team.end 0 0) t (λ room is forks. forks))
    (All-nil IsEvenFork)

-- ---- lanes

-- a lane has the team of its region
record IsLaneOf (o : Option Fork) (start : Start) : Type 0 where
  fork : Fork
  forked_is : o ≡ Some fork
  team : start.team ≡ fork.team

lane-of : (o : Option Fork) (step : Step) (start : Start) → lane_start o step ≡ Some start → IsLaneOf o start
lane-of None step start is = absurd (none-some start is)
lane-of (Some f) step start is = by_test ((step.span == f.team.span) && nat_lt step.lane step.span) is
  where
    by_test : (b : Bool) → cond b (Some (record { team = f.team; lane = step.lane; slots = f.slots })) None ≡ Some start → IsLaneOf (Some f) start
    by_test false same = absurd (none-some start same)
    by_test true same = record {
      fork = f;
      forked_is = refl;
      team = ap (λ (s : Start). s.team) (sym (same_Some (record { team = f.team; lane = step.lane; slots = f.slots }) start same));
    }

module _ (program : Program) (logs : Logs) where
  abbrev EvenStart : Option Start → Type 0
  EvenStart o = (start : Start) → o ≡ Some start → IsEven start.team.body

  even-lane : (start : Start) (records : List Record) (step : Step) → IsEven start.team.body →
      EvenStart (lane_start (slice_get (own_trace program start records).forks step.region) step)
  even-lane start records step even next is =
      let forks = (own_trace program start records).forks in
      let lane = lane-of (slice_get forks step.region) step next is in
      let inside : IsEvenFork lane.fork =
      all_at IsEvenFork forks step.region lane.fork (even-task program start (reads_of records) (chunks_of records) even) lane.forked_is in
      subst (λ (t : TeamTree). IsEven t.body) (sym lane.team) inside

  even-below : (path : List Step) (o : Option Start) (steps : List Step) → EvenStart o → EvenStart (start_below program logs path o steps)
  even-below path None steps even last is = absurd (none-some last is)
  even-below path (Some start) [] even last is = even last is
  even-below path (Some start) (step ∷ steps) even last is =
      even-below (path ++ step ∷ []) (lane_start (slice_get (own_trace program start (logs path)).forks step.region) step) steps
      (even-lane start (logs path) step (even start refl)) last is

  even-at : IsLawful program → (path : List Step) → EvenStart (start_at program logs path)
  unfolding start_at
  even-at lawful path =
      even-below [] (Some (root_start program)) path
      (λ start is. subst (λ (s : Start). IsEven s.team.body) (same_Some (root_start program) start is) lawful.even)

  same-fork : (o : Option Fork) (one other : Start) → IsLaneOf o one → IsLaneOf o other → one.team ≡ other.team
  same-fork o one other first second =
      let same : first.fork ≡ second.fork = same_Some first.fork second.fork (sym first.forked_is ∙ second.forked_is) in
      first.team ∙ ap (λ (f : Fork). f.team) same ∙ sym second.team

  -- two lanes of one region have one team
  team-below : (path : List Step) (o : Option Start) (above : List Step) (a b : Step) (one other : Start) → a.region ≡ b.region →
      start_below program logs path o (above ++ a ∷ []) ≡ Some one → start_below program logs path o (above ++ b ∷ []) ≡ Some other → one.team ≡ other.team
  team-below path None above a b one other region first second = absurd (none-some one first)
  team-below path (Some start) [] a b one other region first second =
      let forks = (own_trace program start (logs path)).forks in
      let lane : IsLaneOf (slice_get forks a.region) one =
      lane-of (slice_get forks a.region) a one (sym (nothing_below program logs (path ++ a ∷ []) (lane_start (slice_get forks a.region) a)) ∙ first) in
      let beside : IsLaneOf (slice_get forks b.region) other =
      lane-of (slice_get forks b.region) b other (sym (nothing_below program logs (path ++ b ∷ []) (lane_start (slice_get forks b.region) b)) ∙ second) in
      same-fork (slice_get forks b.region) one other (subst (λ (n : ℕ). IsLaneOf (slice_get forks n) one) region lane) beside
  team-below path (Some start) (step ∷ above) a b one other region first second =
      team-below (path ++ step ∷ []) (lane_start (slice_get (own_trace program start (logs path)).forks step.region) step) above a b one other region first second

  team-at : (above : List Step) (a b : Step) (one other : Start) → a.region ≡ b.region → start_at program logs (above ++ a ∷ []) ≡ Some one →
      start_at program logs (above ++ b ∷ []) ≡ Some other → one.team ≡ other.team
  unfolding start_at
  team-at above a b one other region first second = team-below [] (Some (root_start program)) above a b one other region first second

-- ---- their barriers

module _ (program : Program) (lawful : IsLawful program) (logs : Logs) (above : List Step) (a b : Step) (one other : Start) (region : a.region ≡ b.region)
    (first : start_at program logs (above ++ a ∷ []) ≡ Some one) (second : start_at program logs (above ++ b ∷ []) ≡ Some other)
    (reads : List ℤ) (chunks : List ℕ) (reads_beside : List ℤ) (chunks_beside : List ℕ)
    (ended : (trace program one reads chunks).end ≡ Ended) where
  due : barrier_count (trace program one reads chunks).records ≡ bar_count (parts_of other.team.body)
  due =
      ended_barriers program one reads chunks (even-at program logs lawful (above ++ a ∷ []) one first) ended
      ∙ ap (λ (t : TeamTree). bar_count (parts_of t.body)) (team-at program logs above a b one other region first second)

  pub same-barriers : (trace program other reads_beside chunks_beside).end ≡ Ended →
      barrier_count (trace program one reads chunks).records ≡ barrier_count (trace program other reads_beside chunks_beside).records
  same-barriers both =
      due ∙ sym (ended_barriers program other reads_beside chunks_beside (even-at program logs lawful (above ++ b ∷ []) other second) both)

  pub no-more-barriers : barrier_count (trace program other reads_beside chunks_beside).records ≤ barrier_count (trace program one reads chunks).records
  no-more-barriers =
      subst (λ (n : ℕ). barrier_count (trace program other reads_beside chunks_beside).records ≤ n) (sym due)
      (most_barriers program other reads_beside chunks_beside (even-at program logs lawful (above ++ b ∷ []) other second))
