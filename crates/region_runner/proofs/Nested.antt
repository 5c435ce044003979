-- The regions of a run of a lawful kernel nest at most four deep, and each has a lane.
use Rattle.std.proofs.Common.{◌≡◌, refl, ap, sym, ◌∙◌, subst, ℕ, zero, suc, ◌+◌, ◌<◌, List, [], ◌∷◌, ◌++◌, append_assoc, length, slice_get, ℤ, pos, ◌+ℤ◌, Some, All, arith}
use Rattle.std.specs.List.{flat_map}
use Rattle.std.proofs.lemmas.List.{append-nil}
use Rattle.std.proofs.lemmas.List.Elements.{All-nil, All-cons, All-append}
use Rattle.log_format.specs.declared.record.Record.{Record}
use Rattle.log_format.specs.declared.record.Kind.TheVariants as kind
use Rattle.race_model.proofs.TraceLogs.{all_at}
use Rattle.kernel_syntax.specs.Tree.{TeamTree, Code, Done, Set, Store, Update, If, Loop, Parallel, For, Barrier, Critical}
use Rattle.kernel_syntax.specs.Program.{Program}
use Rattle.kernel_model.specs.State.{State, Fork, Outcome, after, put, put_in, event, assign, state_of, reads_of, chunks_of}
use Rattle.kernel_model.specs.Value.{Site, element_at, value}
use Rattle.kernel_model.specs.Iterations.{total_of}
use Rattle.kernel_model.specs.Trace.{Start, stored, updated, amount_of, branch, turns, shared, loop_end, forked, run, task, site_of, state_at}
use Rattle.kernel_model.specs.Folder.{own_trace, root_start}
use Rattle.kernel_model.specs.Lawful.{IsLawful, main_scope}
use Rattle.kernel_model.proofs.SingleSteps.{with_record, KeepsPlainSteps, KeepsUpdates, KeepsBarriers}
use Rattle.kernel_model.proofs.Steps.{kept-and_then, kept-after, kept-put, kept-bar, kept-value, kept-stored, kept-updated, kept-branch, kept-turns, kept-shared, kept-loop_end}
use Rattle.history_model.specs.Did.{lane_count_of}
use Rattle.history_model.specs.Sound.{WordLayout, IsSound, ArePhasesSound}
use Rattle.history_model.specs.Work.{Work, Rest, Put, Fork as Forked, Phases, NoPhase, Phase, TeamWork, NoWork, Beside, RegionWork, work_regions, work_at, lane_works}
use Rattle.history_laws.proofs.TaskTree.{AreSound, lane_is, sound_at_step, sound_regions}
use Rattle.execution_model.specs.Runs.{RunsTask, lane_begin, works_log}
use Rattle.execution_laws.proofs.Descent.{RegionAt, task_region}
use Rattle.lane_runner.specs.Teams.{EachTeam}
use Rattle.execution_model.specs.Elements.{layout_of}
use Rattle.region_runner.specs.Lawful.{IsTeam, IsInnerTeam}
use Rattle.execution_laws.specs.Nesting.{NestsWithin, PhasesNest, TeamNests}
use Rattle.region_runner.proofs.LawfulParts.{teams_of}
use Rattle.execution_laws.proofs.TaskListing.{RegionNests, RegionsNest, WorksNest}

-- ---- the teams that a task forks stand in its body

module _ (P : TeamTree → Type 0) where
  abbrev OfTeam : Fork → Type 0
  OfTeam fork = P fork.team

  -- the regions that were forked since
  record ForksTeams (s t : State) : Type 0 where
    regions : List Fork
    forks_are : t.forks ≡ s.forks ++ regions
    teams : All OfTeam regions

  forks_none : (s t : State) → t.forks ≡ s.forks → ForksTeams s t
  forks_none s t same = record { regions = []; forks_are = same ∙ sym (append-nil s.forks); teams = All-nil OfTeam }

  keeps : KeepsPlainSteps ForksTeams
  keeps = record {
    same = λ s. forks_none s s refl;
    chain = λ a b c one more. record {
      regions = one.regions ++ more.regions;
      forks_are = more.forks_are ∙ ap (λ (l : List Fork). l ++ more.regions) one.forks_are ∙ append_assoc a.forks one.regions more.regions;
      teams = All-append OfTeam one.regions more.regions one.teams more.teams;
    };
    assigns = λ slot v s. forks_none s _ refl;
    writes = λ r room s is write. forks_none s _ refl;
    reads = λ e site line room v reads s is prefix. forks_none s _ refl;
    draws = λ line n room q chunks s is prefix. forks_none s _ refl;
  }

  also : KeepsUpdates ForksTeams
  also = record { updates = λ r room s is update. forks_none s _ refl }

  bars : KeepsBarriers ForksTeams
  bars = record { bars = λ line room s is. forks_none s _ refl }

  abbrev Goes : State → Outcome (Unit {0}) → Type 0
  Goes s m = ForksTeams s (state_of m)

  forks_put : (r : Record) (s : State) → Goes s (put r s)
  forks_put r s = kept-put ForksTeams keeps r s (λ room is. forks_none s _ refl)

  forks_assigned : (slot : ℕ) (v : ℤ) (s : State) (m : Outcome (Unit {0})) → Goes (assign slot v s) m → Goes s m
  forks_assigned slot v s m goes = keeps.chain s (assign slot v s) (state_of m) (keeps.assigns slot v s) goes

  forks_one_in : (room : ℕ) (team : TeamTree) (s : State) (next : State → Outcome (Unit {0})) → P team → ((t : State) → Goes t (next t))
      → Goes s (after (put_in room (event kind.Region team.line 0 team.span) s) (λ t. next (forked team t)))
  forks_one_in zero team s next is later = keeps.same s
  forks_one_in (suc room) team s next is later =
      let t = forked team (with_record (event kind.Region team.line 0 team.span) room s) in
      keeps.chain s t (state_of (next t))
      (record { regions = record { team = team; slots = s.slots } ∷ []; forks_are = refl; teams = All-cons OfTeam (record { team = team; slots = s.slots }) [] is (All-nil OfTeam) })
      (later t)

  forks_one : (team : TeamTree) (s : State) (next : State → Outcome (Unit {0})) → P team → ((t : State) → Goes t (next t))
      → Goes s (after (put (event kind.Region team.line 0 team.span) s) (λ t. next (forked team t)))
  unfolding put
  forks_one team s next is later = forks_one_in s.room team s next is later

  run_forks : (at : Site) (code : Code) (s : State) → EachTeam P code → Goes s (run at code s)
  unfolding run
  run_forks at Done s all = keeps.same s
  run_forks at (Set slot e rest) s all =
      kept-and_then ForksTeams keeps s (value at e s) _ (kept-value ForksTeams keeps at e s) (λ v t.
      forks_assigned slot v t (run at rest (assign slot v t)) (run_forks at rest (assign slot v t) all))
  run_forks at (Store array index e line site rest) s all =
      kept-and_then ForksTeams keeps s (value at index s) _ (kept-value ForksTeams keeps at index s) (λ i t.
      kept-and_then ForksTeams keeps t (value at e t) _ (kept-value ForksTeams keeps at e t) (λ v u.
      kept-after ForksTeams keeps u (stored (element_at at.arrays array i) v line site u) (run at rest)
      (kept-stored ForksTeams keeps (element_at at.arrays array i) v line site u)
      (λ w. run_forks at rest w all)))
  run_forks at (Update array index e minus line site rest) s all =
      kept-and_then ForksTeams keeps s (value at index s) _ (kept-value ForksTeams keeps at index s) (λ i t.
      kept-and_then ForksTeams keeps t (value at e t) _ (kept-value ForksTeams keeps at e t) (λ v u.
      kept-after ForksTeams keeps u (updated (element_at at.arrays array i) (amount_of minus v) line site u) (run at rest)
      (kept-updated ForksTeams keeps also (element_at at.arrays array i) (amount_of minus v) line site u)
      (λ w. run_forks at rest w all)))
  run_forks at (If test if_true if_false rest) s all =
      kept-and_then ForksTeams keeps s (value at test s) _ (kept-value ForksTeams keeps at test s) (λ v t.
      kept-after ForksTeams keeps t (branch v (run at if_true) (run at if_false) t) (run at rest)
      (kept-branch ForksTeams keeps v (run at if_true) (run at if_false) t (run_forks at if_true t all.0) (run_forks at if_false t all.1))
      (λ w. run_forks at rest w all.2))
  run_forks at (Loop slot from to body rest) s all =
      kept-and_then ForksTeams keeps s (value at from s) _ (kept-value ForksTeams keeps at from s) (λ a t.
      kept-and_then ForksTeams keeps t (value at to t) _ (kept-value ForksTeams keeps at to t) (λ b u.
      kept-after ForksTeams keeps u (turns (total_of a b) 0 (λ i w. run at body (assign slot (a +ℤ pos i) w)) u) (run at rest)
      (kept-turns ForksTeams keeps (total_of a b) 0 (λ i w. run at body (assign slot (a +ℤ pos i) w)) u
      (λ i w. forks_assigned slot (a +ℤ pos i) w (run at body (assign slot (a +ℤ pos i) w)) (run_forks at body (assign slot (a +ℤ pos i) w) all.0)))
      (λ w. run_forks at rest w all.1)))
  run_forks at (Parallel span line end body rest) s all =
      forks_one (record { span = span; line = line; end = end; body = body }) s (run at rest) all.0 (λ w. run_forks at rest w all.1)
  run_forks at (For slot from to schedule nowait line end body rest) s all =
      kept-and_then ForksTeams keeps s (value at from s) _ (kept-value ForksTeams keeps at from s) (λ a t.
      kept-and_then ForksTeams keeps t (value at to t) _ (kept-value ForksTeams keeps at to t) (λ b u.
      kept-after ForksTeams keeps u (shared schedule at line (total_of a b) (λ i w. run at body (assign slot (a +ℤ pos i) w)) u) _
      (kept-shared ForksTeams keeps schedule at line (total_of a b) (λ i w. run at body (assign slot (a +ℤ pos i) w)) u
      (λ i w. forks_assigned slot (a +ℤ pos i) w (run at body (assign slot (a +ℤ pos i) w)) (run_forks at body (assign slot (a +ℤ pos i) w) all.0)))
      (λ w. kept-after ForksTeams keeps w (loop_end nowait end w) (run at rest) (kept-loop_end ForksTeams keeps bars nowait end w) (λ x. run_forks at rest x all.1))))
  run_forks at (Barrier line rest) s all =
      kept-after ForksTeams keeps s (put (event kind.Barrier line 0 0) s) (run at rest) (kept-bar ForksTeams keeps bars line s) (λ w. run_forks at rest w all)
  run_forks at (Critical mutex line end body rest) s all =
      kept-after ForksTeams keeps s (put (event kind.Lock line mutex 0) s) _ (forks_put (event kind.Lock line mutex 0) s) (λ t.
      kept-after ForksTeams keeps t (run at body t) _ (run_forks at body t all.0) (λ u.
      kept-after ForksTeams keeps u (put (event kind.Unlock end mutex 0) u) (run at rest) (forks_put (event kind.Unlock end mutex 0) u) (λ w. run_forks at rest w all.1)))

  task_forks : (program : Program) (start : Start) (records : List Record) → EachTeam P start.team.body → All OfTeam (own_trace program start records).forks
  unfolding task
  task_forks program start records all =
      let begin = state_at start (reads_of records) (chunks_of records) in
      let whole : Goes begin (task program start (reads_of records) (chunks_of records)) =
      kept-after ForksTeams keeps begin (run (site_of program start) start.team.body begin) _ (run_forks (site_of program start) start.team.body begin all)
      (λ t. forks_put (event kind.End start.team.end 0 0) t) in
      subst (λ (fs : List Fork). All OfTeam fs) (sym whole.forks_are) whole.teams

-- ---- from the regions to the works

all_nest : (d : ℕ) (regions : List RegionWork) → ((r : ℕ) (region : RegionWork) → slice_get regions r ≡ Some region → RegionNests d region) → RegionsNest d regions
all_nest d [] each = tt
all_nest d (region ∷ regions) each = (each 0 region refl, all_nest d regions (λ r later found. each (suc r) later found))

work_nests : (d : ℕ) (work : Work) (others : List RegionWork) → RegionsNest d (work_regions work ++ others) → NestsWithin d work × RegionsNest d others
work_nests d Rest others nest = (tt, nest)
work_nests d (Put r more) others nest = work_nests d more others nest
work_nests zero (Forked line span phases more) others nest = absurd nest.0
work_nests (suc d) (Forked line span phases more) others nest = let rest = work_nests (suc d) more others nest.1 in ((nest.0.0, nest.0.1, rest.0), rest.1)

works_nest : (d : ℕ) (works : List Work) → RegionsNest d (flat_map work_regions works) → WorksNest d works
works_nest d [] nest = tt
works_nest d (work ∷ works) nest = let both = work_nests d work (flat_map work_regions works) nest in (both.0, works_nest d works both.1)

-- what a lane does in the first phase, and in the later ones
lane_splits : (d lane : ℕ) (team : TeamWork) (others : List Work) → WorksNest d (work_at lane team ++ others) → WorksNest d (work_at lane team) × WorksNest d others
lane_splits d lane NoWork others nest = (tt, nest)
lane_splits d zero (Beside work team) others nest = ((nest.0, tt), nest.1)
lane_splits d (suc lane) (Beside work team) others nest = lane_splits d lane team others nest

team_nests : (d : ℕ) (team : TeamWork) → ((lane : ℕ) → lane < lane_count_of team → WorksNest d (work_at lane team)) → TeamNests d team
team_nests d NoWork each = tt
team_nests d (Beside work team) each = ((each 0 (omega arith)).0, team_nests d team (λ lane less. each (suc lane) (omega arith)))

phases_nest : (layout : WordLayout) (d span : ℕ) (phases : Phases) → ArePhasesSound layout span phases → ((lane : ℕ) → lane < span → WorksNest d (lane_works lane phases)) → PhasesNest d phases
phases_nest layout d span NoPhase sound each = tt
phases_nest layout d span (Phase team later) sound each = (
  team_nests d team (λ lane less. (lane_splits d lane team (lane_works lane later) (each lane (omega (arith, less, sound.0)))).0),
  phases_nest layout d span later sound.3 (λ lane less. (lane_splits d lane team (lane_works lane later) (each lane less)).1),
)

-- ---- down the regions

module _ (program : Program) (mutexes : ℕ) (layout : WordLayout) where
  -- the team of a region that a task in this many regions forked
  inner_of : (regions : ℕ) (start : Start) (works : List Work) (r : ℕ) (region : RegionWork) → IsTeam mutexes regions start.team
      → (at : RegionAt program (own_trace program start (works_log works)).forks r region) → IsInnerTeam mutexes regions at.fork.team
  inner_of regions start works r region team at =
      all_at (OfTeam (IsInnerTeam mutexes regions)) (own_trace program start (works_log works)).forks r at.fork
      (task_forks (IsInnerTeam mutexes regions) program start (works_log works)
      (teams_of mutexes regions team.lanes team.names [] start.team.body team.bounded team.scoped team.even team.nested))
      at.found

  task_nests : (d regions : ℕ) → regions + d ≡ 4 → (start : Start) (works : List Work) → IsTeam mutexes regions start.team → AreSound layout works → RunsTask program start works → WorksNest d works
  task_nests zero regions four start works team sound task = works_nest zero works (all_nest zero (flat_map work_regions works) (λ r region found.
      let inner = inner_of regions start works r region team (task_region program start works r region task found) in
      let deeper = inner.deeper in
      absurd (omega arith)))
  task_nests (suc d) regions four start works team sound task = works_nest (suc d) works (all_nest (suc d) (flat_map work_regions works) (λ r region found.
      let at = task_region program start works r region task found in
      let inner = inner_of regions start works r region team at in
      let some = inner.lawful.span.some in
      let span_is = at.span_is in
      let lanes = phases_nest layout d region.span region.phases (sound_regions layout works r region sound found) (λ lane less.
      task_nests d (regions + 1) (omega arith) (lane_begin at.fork lane) (lane_works lane region.phases) inner.lawful
      (subst (λ (ws : List Work). AreSound layout ws) (lane_is works region r lane found) (sound_at_step layout (record { region = r; lane = lane; span = region.span }) works sound))
      (at.lanes lane less)) in
      (omega arith, lanes)))

-- `main` is a team in no region
pub main_team : (program : Program) → IsLawful program → IsTeam (length program.mutexes) 0 program.main
main_team program lawful = let alone = lawful.alone in record {
  span = record { some = omega arith; limit = omega arith };
  line = lawful.bounded.line;
  end_line = lawful.bounded.end_line;
  bounded = lawful.bounded.body;
  names = main_scope program;
  scoped = lawful.scoped;
  even = lawful.even;
  lanes = 1;
  nested = lawful.nested;
}

pub root_nests : (program : Program) → IsLawful program → (work : Work) → IsSound (layout_of program.arrays) work → RunsTask program (root_start program) (work ∷ []) → NestsWithin 4 work
root_nests program lawful work sound task =
    (task_nests program (length program.mutexes) (layout_of program.arrays) 4 0 (omega arith) (root_start program) (work ∷ []) (main_team program lawful) (sound, tt) task).0
