-- Small runs are computed: whether they are fork-join runs, whether two of their records are unordered, and that a pair isn't theirs.
use Rattle.std.proofs.Common.{◌≡◌, ◌⊎◌, ℕ, zero, suc, ◌+◌, ◌-◌, ◌<◌, Bool, true, false, not, ◌&&◌, cond, List, [], ◌∷◌, ◌++◌, length, take, Option, Some, None, refl, sym, ap, subst, arith, ◌∙◌, inl, inr}
use Rattle.std.specs.Prelude.{slice_get, Contains, min, max, ◌==◌}
use Rattle.std.proofs.lemmas.Bool.{and_parts}
use Rattle.std.proofs.lemmas.Option.{slice_get_within, same_Some}
use Rattle.sw_base.specs.declared.path.Step.{Step}
use Rattle.sw_base.proofs.Lists.{get_seam}
use Rattle.log_format.specs.declared.record.Record.{Record}
use Rattle.log_format.specs.declared.record.Kind.{Kind}
use Rattle.log_format.specs.declared.record.Kind.TheVariants.{Read, Write, Lock, Unlock, Barrier, Region, Chunk, End, Update}
use Rattle.race_model.specs.Listing.{lane_of}
use Rattle.race_model.specs.Trace.{TaskLog, Trace, Logs, Node, logs_of, record_at, IsThere, regions_before, barriers_before, barrier_count}
use Rattle.race_model.specs.Order.{IsLane}
use Rattle.race_model.specs.Race.{IsChange, SharesByte, IsUnordered, IsRacePair, held_at}
use Rattle.race_model.specs.ForkJoin.{IsForkJoin, IsTask, EndsOnce, WasForked}
use Rattle.race_model.proofs.TraceLogs.{find_task, record_there}
use Rattle.counted_order.specs.Counting.{IsAbove}
use Rattle.counted_order.specs.Parting.{PartInLanes}
use Rattle.counted_order.proofs.Above.{HangsFrom, split}
use Rattle.counted_order.proofs.Parted.{level}
use Rattle.counted_order.proofs.Paths.{hangs_path, unordered_parts, parts_unordered}
use Rattle.writer_laws.specs.Places.{ForkPlace, forks}
use Rattle.writer_laws.proofs.Ends.{NoEnd, ends_here, ends_later}
use Rattle.writer_laws.proofs.Numbers.{same_number, number_is, number_not}
use Rattle.writer_laws.proofs.Forks.{fork_listed, find_fork}

both_true : (a b : Bool) → a ≡ true → b ≡ true → (a && b) ≡ true
both_true a b e f = rw (e, f) refl

-- each task passes a test
abbrev each : (TaskLog → Bool) → Trace → Bool
each test [] = true
each test (task ∷ tasks) = test task && each test tasks

each_at : (test : TaskLog → Bool) (trace : Trace) → each test trace ≡ true → (i : ℕ) (task : TaskLog) → slice_get trace i ≡ Some task → test task ≡ true
each_at test [] all i task found = cc
each_at test (t ∷ trace) all zero task found =
    let both = and_parts (test t) (each test trace) all in
    ap test (sym (same_Some t task found)) ∙ both.0
each_at test (t ∷ trace) all (suc i) task found = each_at test trace (and_parts (test t) (each test trace) all).1 i task found

-- a log ends once
abbrev is_end : Kind → Bool
is_end End = true
is_end Read = false
is_end Write = false
is_end Lock = false
is_end Unlock = false
is_end Barrier = false
is_end Region = false
is_end Chunk = false
is_end Update = false

end_from_true : (k : Kind) → is_end k ≡ true → k ≡ End
end_from_true End is = refl
end_from_true Read is = cc
end_from_true Write is = cc
end_from_true Lock is = cc
end_from_true Unlock is = cc
end_from_true Barrier is = cc
end_from_true Region is = cc
end_from_true Chunk is = cc
end_from_true Update is = cc

abbrev ends_once : List Record → Bool
ends_once [] = false
ends_once (r ∷ []) = is_end r.kind
ends_once (r ∷ s ∷ records) = not (is_end r.kind) && ends_once (s ∷ records)

ends_by : (records : List Record) → ends_once records ≡ true → EndsOnce records
ends_by [] is = cc
ends_by (r ∷ []) is = ends_here r (end_from_true r.kind is)
ends_by (r ∷ s ∷ records) is =
    let both = and_parts (not (is_end r.kind)) (ends_once (s ∷ records)) is in
    ends_later r (s ∷ records) (no_end (is_end r.kind) refl both.0) (ends_by (s ∷ records) both.1)
  where
    no_end : (b : Bool) → is_end r.kind ≡ b → not b ≡ true → NoEnd r
    no_end true is other = cc
    no_end false is other = λ ends. (let ended : is_end r.kind ≡ true = rw ends refl in cc)

-- a path without its last step, and that step
abbrev front : List Step → List Step
front [] = []
front (s ∷ []) = []
front (s ∷ t ∷ path) = s ∷ front (t ∷ path)

abbrev back : Step → List Step → Step
back s [] = s
back s (t ∷ path) = back t path

front_push : (path : List Step) (step : Step) → front (path ++ step ∷ []) ≡ path
front_push [] step = refl
front_push (s ∷ []) step = refl
front_push (s ∷ t ∷ path) step = ap (λ (p : List Step). s ∷ p) (front_push (t ∷ path) step)

back_push : (s : Step) (path : List Step) (step : Step) → back s (path ++ step ∷ []) ≡ step
back_push s [] step = refl
back_push s (t ∷ path) step = back_push t path step

-- a task was forked
abbrev has_lane : Option ForkPlace → Step → Bool
has_lane None step = false
has_lane (Some f) step = (f.span == step.span) && ((suc step.lane - step.span) == 0)

abbrev was_forked : Logs → List Step → Bool
was_forked logs [] = true
was_forked logs (s ∷ path) = has_lane (slice_get (forks (logs (front (s ∷ path)))) (back s path).region) (back s path)

forked_by : (logs : Logs) (path : List Step) (step : Step) → has_lane (slice_get (forks (logs path)) step.region) step ≡ true → WasForked logs path step
forked_by logs path step is = at (slice_get (forks (logs path)) step.region) refl is
  where
    at : (o : Option ForkPlace) → slice_get (forks (logs path)) step.region ≡ o → has_lane o step ≡ true → WasForked logs path step
    at None found is = cc
    at (Some f) found is =
        let both = and_parts (f.span == step.span) ((suc step.lane - step.span) == 0) is in
        let span = same_number f.span step.span both.0 in
        let none = same_number (suc step.lane - step.span) 0 both.1 in
        let h = find_fork 0 (logs path) step.region f found in
        record {
          fork = record { path = path; index = h.index };
          above = refl;
          lane = record {
            event = h.event;
            found = h.found;
            region = h.region;
            spans = h.spans ∙ span;
            in_span = omega arith;
            child = ap (λ (n : ℕ). lane_of path n step.lane step.span) (sym h.number_is);
          };
        }

was_forked_push : (logs : Logs) (path : List Step) (step : Step) → was_forked logs (path ++ step ∷ []) ≡ true → WasForked logs path step
was_forked_push logs [] step is = forked_by logs [] step is
was_forked_push logs (s ∷ path) step is =
    forked_by logs (s ∷ path) step ((λ i. has_lane (slice_get (forks (logs ((sym (front_push (s ∷ path) step)) i))) ((sym (back_push s path step)) i).region) ((sym (back_push s path step)) i)) ∙ is)

-- the lanes of a team have logs, with as many barriers
abbrev begun : List Record → Bool
begun [] = false
begun (r ∷ records) = true

begun_by : (records : List Record) → begun records ≡ true → 0 < length records
begun_by [] is = cc
begun_by (r ∷ records) is = omega arith

abbrev is_team : Logs → List Step → ℕ → ℕ → ℕ → Bool
is_team logs path region span zero = true
is_team logs path region span (suc n) =
    begun (logs (lane_of path region n span)) && (barrier_count (logs (lane_of path region n span)) == barrier_count (logs (lane_of path region 0 span))) && is_team logs path region span n

abbrev are_teams : Logs → List Step → ℕ → List ForkPlace → Bool
are_teams logs path region [] = true
are_teams logs path region (f ∷ fs) = is_team logs path region f.span f.span && are_teams logs path (suc region) fs

record IsFineLane (logs : Logs) (path : List Step) (region span n : ℕ) : Type 0 where
  there : IsTask logs (lane_of path region n span)
  level : barrier_count (logs (lane_of path region n span)) ≡ barrier_count (logs (lane_of path region 0 span))

lane_by : (logs : Logs) (path : List Step) (region span n m : ℕ) → is_team logs path region span n ≡ true → m < n → IsFineLane logs path region span m
lane_by logs path region span zero m is less = absurd (omega arith)
lane_by logs path region span (suc n) m is less =
    let both = and_parts (begun (logs (lane_of path region n span)) && (barrier_count (logs (lane_of path region n span)) == barrier_count (logs (lane_of path region 0 span)))) (is_team logs path region span n) is in
    let here = and_parts (begun (logs (lane_of path region n span))) (barrier_count (logs (lane_of path region n span)) == barrier_count (logs (lane_of path region 0 span))) both.0 in
    at (cases_eq m n) here.0 here.1 (lane_by logs path region span n m both.1)
  where
    cases_eq : (a b : ℕ) → (a ≡ b) ⊎ (a ≡ b → ⊥)
    cases_eq a b = grind arith

    at : (m ≡ n) ⊎ (m ≡ n → ⊥) → begun (logs (lane_of path region n span)) ≡ true → (barrier_count (logs (lane_of path region n span)) == barrier_count (logs (lane_of path region 0 span))) ≡ true
        → (m < n → IsFineLane logs path region span m) → IsFineLane logs path region span m
    at (inl same) some level rest = subst (IsFineLane logs path region span) (sym same) (record {
      there = begun_by (logs (lane_of path region n span)) some;
      level = same_number (barrier_count (logs (lane_of path region n span))) (barrier_count (logs (lane_of path region 0 span))) level;
    })
    at (inr other) some level rest = rest (omega arith)

team_by : (logs : Logs) (path : List Step) (region : ℕ) (fs : List ForkPlace) → are_teams logs path region fs ≡ true → (i : ℕ) (f : ForkPlace) → slice_get fs i ≡ Some f
    → (number : ℕ) → number ≡ region + i → is_team logs path number f.span f.span ≡ true
team_by logs path region [] is i f found number at = cc
team_by logs path region (g ∷ fs) is zero f found number at =
    let both = and_parts (is_team logs path region g.span g.span) (are_teams logs path (suc region) fs) is in
    let same : g ≡ f = cc in
    let place : region ≡ number = omega arith in
    subst (λ (h : ForkPlace). is_team logs path number h.span h.span ≡ true) same (subst (λ (n : ℕ). is_team logs path n g.span g.span ≡ true) place both.0)
team_by logs path region (g ∷ fs) is (suc i) f found number at =
    team_by logs path (suc region) fs (and_parts (is_team logs path region g.span g.span) (are_teams logs path (suc region) fs) is).1 i f found number (omega arith)

abbrev is_fine : Trace → TaskLog → Bool
is_fine trace task = ends_once task.records && was_forked (logs_of trace) task.path && are_teams (logs_of trace) task.path 0 (forks task.records)

abbrev pub is_fork_join : Trace → Bool
is_fork_join trace = each (is_fine trace) trace && begun (logs_of trace []) && (barrier_count (logs_of trace []) == 0)

module _ (trace : Trace) (is : is_fork_join trace ≡ true) where
  abbrev logs : Logs
  logs = logs_of trace

  all : each (is_fine trace) trace ≡ true
  all = (and_parts (each (is_fine trace) trace) (begun (logs_of trace [])) (and_parts (each (is_fine trace) trace && begun (logs_of trace [])) (barrier_count (logs_of trace []) == 0) is).0).0

  record IsFine (path : List Step) : Type 0 where
    ends : EndsOnce (logs_of trace path)
    forked : was_forked (logs_of trace) path ≡ true
    teams : are_teams (logs_of trace) path 0 (forks (logs_of trace path)) ≡ true

  fine : (path : List Step) → IsTask (logs_of trace) path → IsFine path
  fine path task =
      let f = find_task trace path task in
      let here = each_at (is_fine trace) trace all f.index f.task f.found in
      let both = and_parts (ends_once f.task.records && was_forked (logs_of trace) f.task.path) (are_teams (logs_of trace) f.task.path 0 (forks f.task.records)) here in
      let two = and_parts (ends_once f.task.records) (was_forked (logs_of trace) f.task.path) both.0 in
      record {
        ends = ends_by (logs_of trace path) (ap ends_once (sym f.records_are) ∙ two.0);
        forked = ap (was_forked (logs_of trace)) (sym f.path_is) ∙ two.1;
        teams = (λ i. are_teams (logs_of trace) (sym f.path_is i) 0 (forks (sym f.records_are i))) ∙ both.1;
      }

  fine_lane : (fork : Node) (n s : ℕ) (path : List Step) → IsLane (logs_of trace) fork n s path → IsFineLane (logs_of trace) fork.path (regions_before (logs_of trace) fork) s n
  fine_lane fork n s path lane =
      let within = slice_get_within (logs_of trace fork.path) fork.index lane.event lane.found in
      let f = fine fork.path (omega arith) in
      let listed = fork_listed 0 (logs_of trace fork.path) fork.index lane.event lane.found lane.region in
      let team = team_by (logs_of trace) fork.path 0 (forks (logs_of trace fork.path)) f.teams (regions_before (logs_of trace) fork)
      (record { span = lane.event.value; barriers = 0 + barriers_before (logs_of trace) fork }) listed (regions_before (logs_of trace) fork) (omega arith) in
      lane_by (logs_of trace) fork.path (regions_before (logs_of trace) fork) s s n
      (subst (λ (v : ℕ). is_team (logs_of trace) fork.path (regions_before (logs_of trace) fork) v v ≡ true) lane.spans team) lane.in_span

  pub fork_join_by : IsForkJoin (logs_of trace)
  fork_join_by = record {
    tasks = record {
      root = begun_by (logs_of trace []) (and_parts (each (is_fine trace) trace) (begun (logs_of trace [])) (and_parts (each (is_fine trace) trace && begun (logs_of trace [])) (barrier_count (logs_of trace []) == 0) is).0).1;
      forked = λ path step task. was_forked_push (logs_of trace) path step ((fine (path ++ step ∷ []) task).forked);
    };
    ends = record {
      ended = λ path task. (fine path task).ends;
      lanes = λ fork n s path lane. subst (λ (p : List Step). IsTask (logs_of trace) p) (sym lane.child) ((fine_lane fork n s path lane).there);
      same_barriers = λ fork n m s path beside mine yours.
          ap (λ (p : List Step). barrier_count (logs_of trace p)) mine.child
          ∙ ((fine_lane fork n s path mine).level ∙ (sym ((fine_lane fork m s beside yours).level) ∙ ap (λ (p : List Step). barrier_count (logs_of trace p)) (sym yours.child)));
      no_root_barrier = same_number (barrier_count (logs_of trace [])) 0 (and_parts (each (is_fine trace) trace && begun (logs_of trace [])) (barrier_count (logs_of trace []) == 0) is).1;
    };
  }

-- the barriers that a record, or the Region through which it hangs, comes after in the lane below a level
abbrev pub fork_barriers : Option ForkPlace → ℕ
fork_barriers None = 0
fork_barriers (Some f) = f.barriers

abbrev pub pass : Logs → List Step → ℕ → ℕ → Option Step → ℕ
pass logs path own l None = own
pass logs path own l (Some step) = fork_barriers (slice_get (forks (logs (take (suc l) path))) step.region)

abbrev pub passed : Logs → Node → ℕ → ℕ
passed logs x l = pass logs x.path (barriers_before logs x) l (slice_get x.path (suc l))

get_none : {X : Type 0} (xs : List X) (n : ℕ) → n ≡ length xs → slice_get xs n ≡ None
get_none [] n e = refl
get_none (x ∷ xs) zero e = absurd (omega arith)
get_none (x ∷ xs) (suc n) e = get_none xs n (omega arith)

take_front : {X : Type 0} (xs more : List X) (n : ℕ) → n ≡ length xs → take n (xs ++ more) ≡ xs
take_front [] more zero e = refl
take_front [] more (suc n) e = absurd (omega arith)
take_front (x ∷ xs) more zero e = absurd (omega arith)
take_front {X = X} (x ∷ xs) more (suc n) e = ap (λ (l : List X). x ∷ l) (take_front xs more n (omega arith))

passed_is : (logs : Logs) (x : Node) (l : ℕ) (a : Node) → IsAbove logs a x → length a.path ≡ l + 1 → passed logs x l ≡ barriers_before logs a
passed_is logs x l a above deep = at (split logs a x above)
  where
    at : (a ≡ x) ⊎ HangsFrom logs a x → passed logs x l ≡ barriers_before logs a
    at (inl same) =
        let long : length a.path ≡ length x.path = ap (λ (w : Node). length w.path) same in
        ap (pass logs x.path (barriers_before logs x) l) (get_none x.path (suc l) (omega arith)) ∙ ap (barriers_before logs) (sym same)
    at (inr h) =
        let r = hangs_path logs a h.fork x h.number h.span h.lane h.part in
        let place : suc l ≡ length a.path = omega arith in
        let step : slice_get x.path (suc l) ≡ Some r.step =
        ap (λ (p : List Step). slice_get p (suc l)) r.parts ∙ (ap (λ (n : ℕ). slice_get (a.path ++ r.step ∷ r.rest) n) place ∙ get_seam a.path r.step r.rest) in
        let path : take (suc l) x.path ≡ a.path = ap (take (suc l)) r.parts ∙ take_front a.path (r.step ∷ r.rest) (suc l) place in
        let listed = fork_listed 0 (logs a.path) a.index r.region.event r.region.found r.region.kind_is in
        let found : slice_get (forks (logs (take (suc l) x.path))) r.step.region ≡ Some (record { span = r.region.event.value; barriers = 0 + barriers_before logs a }) =
        (λ i. slice_get (forks (logs (path i))) (r.number i)) ∙ listed in
        ap (pass logs x.path (barriers_before logs x) l) step ∙ (ap fork_barriers found ∙ (let none : 0 + barriers_before logs a ≡ barriers_before logs a = omega arith in none))

-- the level at which two paths go into two lanes of a region
abbrev later : Option ℕ → Option ℕ
later None = None
later (Some l) = Some (suc l)

abbrev same_step : Step → Step → Bool
same_step s t = (s.region == t.region) && (s.lane == t.lane) && (s.span == t.span)

abbrev part_level : List Step → List Step → Option ℕ
part_level [] other = None
part_level (s ∷ path) [] = None
part_level (s ∷ path) (t ∷ other) =
    cond (same_step s t) (later (part_level path other)) (cond ((s.region == t.region) && not (s.lane == t.lane)) (Some 0) None)

step_itself : (s : Step) → same_step s s ≡ true
step_itself s = rw (number_is s.region s.region refl, number_is s.lane s.lane refl, number_is s.span s.span refl) refl

level_there : (path other : List Step) (l : ℕ) → PartInLanes path other l → part_level path other ≡ Some l
level_there [] other l p = let mine = p.mine in cc
level_there (s ∷ path) [] l p = let yours = p.yours in cc
level_there (s ∷ path) (t ∷ other) zero p =
    let mine : s ≡ p.step = same_Some s p.step p.mine in
    let yours : t ≡ p.beside = same_Some t p.beside p.yours in
    let region : (s.region == t.region) ≡ true = number_is s.region t.region (ap (λ (w : Step). w.region) mine ∙ (p.same_region ∙ sym (ap (λ (w : Step). w.region) yours))) in
    let lane : (s.lane == t.lane) ≡ false = number_not s.lane t.lane (λ e. p.two_lanes (sym (ap (λ (w : Step). w.lane) mine) ∙ (e ∙ ap (λ (w : Step). w.lane) yours))) in
    rw (region, lane) refl
level_there (s ∷ path) (t ∷ other) (suc l) p =
    let shared = p.shared in
    let heads : s ≡ t = cc in
    let rest : take l path ≡ take l other = cc in
    let same : same_step s t ≡ true = ap (same_step s) (sym heads) ∙ step_itself s in
    let more = level_there path other l (record { step = p.step; beside = p.beside; mine = p.mine; yours = p.yours; shared = rest; same_region = p.same_region; two_lanes = p.two_lanes }) in
    rw (same, more) refl

abbrev levels_equal : Logs → Node → Node → Option ℕ → Bool
levels_equal logs x y None = false
levels_equal logs x y (Some l) = passed logs x l == passed logs y l

abbrev pub unordered : Logs → Node → Node → Bool
unordered logs x y = levels_equal logs x y (part_level x.path y.path)

pub unordered_true : (logs : Logs) (x y : Node) → IsForkJoin logs → IsThere logs x → IsThere logs y → IsUnordered logs x y → unordered logs x y ≡ true
unordered_true logs x y tree x_there y_there u =
    let p = unordered_parts logs x y tree x_there y_there u in
    let mine = passed_is logs x p.level p.mine.above p.mine.part p.mine.deep ∙ p.mine.passed in
    let yours = passed_is logs y p.level p.yours.above p.yours.part p.yours.deep ∙ p.yours.passed in
    ap (levels_equal logs x y) (level_there x.path y.path p.level p.parts) ∙ number_is (passed logs x p.level) (passed logs y p.level) (mine ∙ sym yours)

-- the other way round, at a level that is told
pub unordered_by : (logs : Logs) (x y : Node) (l : ℕ) → IsForkJoin logs → IsThere logs x → IsThere logs y → PartInLanes x.path y.path l → passed logs x l ≡ passed logs y l → IsUnordered logs x y
unordered_by logs x y l tree x_there y_there parts same =
    let mine = level logs tree.tasks.forked (length x.path - (l + 1)) x (l + 1) (deep x.path l parts.step parts.mine) x_there in
    let yours = level logs tree.tasks.forked (length y.path - (l + 1)) y (l + 1) (deep y.path l parts.beside parts.yours) y_there in
    parts_unordered logs x y tree x_there y_there (record {
      level = l;
      barriers = passed logs x l;
      parts = parts;
      mine = record { above = mine.above; part = mine.part; deep = mine.deep; passed = sym (passed_is logs x l mine.above mine.part mine.deep) };
      yours = record { above = yours.above; part = yours.part; deep = yours.deep; passed = sym (passed_is logs y l yours.above yours.part yours.deep) ∙ sym same };
    })
  where
    deep : (path : List Step) (l : ℕ) (step : Step) → slice_get path l ≡ Some step → length path ≡ (l + 1) + (length path - (l + 1))
    deep path l step found = let within = slice_get_within path l step found in omega arith

-- a run without a pair
abbrev is_change : Kind → Bool
is_change Write = true
is_change Update = true
is_change Read = false
is_change Lock = false
is_change Unlock = false
is_change Barrier = false
is_change Region = false
is_change Chunk = false
is_change End = false

changes : (r : Record) → IsChange r → is_change r.kind ≡ true
changes r (inl write) = rw write refl
changes r (inr update) = rw update refl

abbrev holds : ℕ → List ℕ → Bool
holds m [] = false
holds m (n ∷ held) = cond (m == n) true (holds m held)

abbrev apart : List ℕ → List ℕ → Bool
apart [] others = true
apart (m ∷ held) others = cond (holds m others) false (apart held others)

holds_by : (m : ℕ) (held : List ℕ) → holds m held ≡ true → Contains held m
holds_by m [] is = cc
holds_by m (n ∷ held) is = at (m == n) refl (holds_by m held)
  where
    more : Contains held m → Contains (n ∷ held) m
    more (k, within, same) = (suc k, omega arith, same)

    at : (b : Bool) → (m == n) ≡ b → (holds m held ≡ true → Contains held m) → Contains (n ∷ held) m
    at true e rest = (0, omega arith, sym (same_number m n e))
    at false e rest = more (rest (let here : holds m (n ∷ held) ≡ holds m held = rw e refl in sym here ∙ is))

apart_by : (held others : List ℕ) → ((m : ℕ) → Contains held m → Contains others m → ⊥) → apart held others ≡ true
apart_by [] others none = refl
apart_by (m ∷ held) others none = at (holds m others) refl (apart_by held others (λ n mine yours. none n (more n mine) yours))
  where
    more : (n : ℕ) → Contains held n → Contains (m ∷ held) n
    more n (k, within, same) = (suc k, omega arith, same)

    at : (b : Bool) → holds m others ≡ b → apart held others ≡ true → apart (m ∷ held) others ≡ true
    at true e rest = absurd (none m (0, omega arith, refl) (holds_by m others e))
    at false e rest = let here : apart (m ∷ held) others ≡ apart held others = rw e refl in here ∙ rest

abbrev overlap : Record → Record → Bool
overlap r s = ((suc r.addr - (s.addr + s.size)) == 0) && ((suc s.addr - (r.addr + r.size)) == 0)

overlap_by : (r s : Record) → SharesByte r s → overlap r s ≡ true
overlap_by r s (byte, mine, yours) =
    let a = mine.from_start in
    let b = mine.to_end in
    let c = yours.from_start in
    let d = yours.to_end in
    both_true ((suc r.addr - (s.addr + s.size)) == 0) ((suc s.addr - (r.addr + r.size)) == 0)
    (number_is (suc r.addr - (s.addr + s.size)) 0 (omega arith)) (number_is (suc s.addr - (r.addr + r.size)) 0 (omega arith))

abbrev has_lines : ℕ × ℕ → Record → Record → Bool
has_lines pair r s = (pair.0 == min r.line s.line) && (pair.1 == max r.line s.line)

abbrev may_race : Logs → ℕ × ℕ → Node → Node → Record → Record → Bool
may_race logs pair x y r s =
    has_lines pair r s && overlap r s && cond (is_change r.kind) true (is_change s.kind) && apart (held_at logs x) (held_at logs y) && unordered logs x y

abbrev each_record : (ℕ → Record → Bool) → ℕ → List Record → Bool
each_record test i [] = true
each_record test i (r ∷ records) = test i r && each_record test (suc i) records

record_at_by : (test : ℕ → Record → Bool) (b : ℕ) (records : List Record) → each_record test b records ≡ true → (i : ℕ) (r : Record) → slice_get records i ≡ Some r → (n : ℕ) → n ≡ b + i → test n r ≡ true
record_at_by test b [] is i r found n e = cc
record_at_by test b (s ∷ records) is zero r found n e =
    let place : n ≡ b = omega arith in
    (λ j. test (place j) (sym (same_Some s r found) j)) ∙ (and_parts (test b s) (each_record test (suc b) records) is).0
record_at_by test b (s ∷ records) is (suc i) r found n e = record_at_by test (suc b) records (and_parts (test b s) (each_record test (suc b) records) is).1 i r found n (omega arith)

abbrev pub lacks : Trace → ℕ × ℕ → Bool
lacks trace pair = each (λ t. each_record (λ i r. each (λ u. each_record (λ j s.
    not (may_race (logs_of trace) pair (record { path = t.path; index = i }) (record { path = u.path; index = j }) r s)) 0 u.records) trace) 0 t.records) trace

pub lacks_pair : (trace : Trace) (pair : ℕ × ℕ) → is_fork_join trace ≡ true → lacks trace pair ≡ true → IsRacePair (logs_of trace) pair → ⊥
lacks_pair trace pair fine is p = never (may_race (logs_of trace) pair p.x p.y p.r p.s) refl may none
  where
    logs : Logs
    logs = logs_of trace

    never : (b : Bool) → may_race (logs_of trace) pair p.x p.y p.r p.s ≡ b → b ≡ true → not b ≡ true → ⊥
    never true e one other = cc
    never false e one other = cc

    x_there : IsThere (logs_of trace) p.x
    x_there = record_there (logs_of trace) p.x p.r p.race.left

    y_there : IsThere (logs_of trace) p.y
    y_there = record_there (logs_of trace) p.y p.s p.race.right

    lines : has_lines pair p.r p.s ≡ true
    lines = both_true (pair.0 == min p.r.line p.s.line) (pair.1 == max p.r.line p.s.line)
        (number_is pair.0 (min p.r.line p.s.line) (ap (λ (q : ℕ × ℕ). q.0) p.lines)) (number_is pair.1 (max p.r.line p.s.line) (ap (λ (q : ℕ × ℕ). q.1) p.lines))

    change : IsChange p.r ⊎ IsChange p.s → cond (is_change p.r.kind) true (is_change p.s.kind) ≡ true
    change (inl mine) = rw (changes p.r mine) refl
    change (inr yours) = at (is_change p.r.kind)
      where
        at : (b : Bool) → cond b true (is_change p.s.kind) ≡ true
        at true = refl
        at false = changes p.s yours

    may : may_race (logs_of trace) pair p.x p.y p.r p.s ≡ true
    may = rw (
      lines,
      overlap_by p.r p.s p.race.shares,
      change p.race.changes,
      apart_by (held_at (logs_of trace) p.x) (held_at (logs_of trace) p.y) p.race.no_mutex,
      unordered_true (logs_of trace) p.x p.y (fork_join_by trace fine) x_there y_there p.race.unordered,
    ) refl

    none : not (may_race (logs_of trace) pair p.x p.y p.r p.s) ≡ true
    none =
        let f = find_task trace p.x.path (begun_at p.x p.r p.race.left) in
        let g = find_task trace p.y.path (begun_at p.y p.s p.race.right) in
        let one = each_at (λ t. each_record (λ i r. each (λ u. each_record (λ j s.
        not (may_race (logs_of trace) pair (record { path = t.path; index = i }) (record { path = u.path; index = j }) r s)) 0 u.records) trace) 0 t.records) trace is f.index f.task f.found in
        let two = record_at_by (λ i r. each (λ u. each_record (λ j s.
        not (may_race (logs_of trace) pair (record { path = f.task.path; index = i }) (record { path = u.path; index = j }) r s)) 0 u.records) trace) 0 f.task.records one p.x.index p.r
        (ap (λ (l : List Record). slice_get l p.x.index) f.records_are ∙ p.race.left) p.x.index (omega arith) in
        let three = each_at (λ u. each_record (λ j s.
        not (may_race (logs_of trace) pair (record { path = f.task.path; index = p.x.index }) (record { path = u.path; index = j }) p.r s)) 0 u.records) trace two g.index g.task g.found in
        let four = record_at_by (λ j s. not (may_race (logs_of trace) pair (record { path = f.task.path; index = p.x.index }) (record { path = g.task.path; index = j }) p.r s)) 0 g.task.records three p.y.index p.s
        (ap (λ (l : List Record). slice_get l p.y.index) g.records_are ∙ p.race.right) p.y.index (omega arith) in
        (λ k. not (may_race (logs_of trace) pair (record { path = (sym f.path_is) k; index = p.x.index }) (record { path = (sym g.path_is) k; index = p.y.index }) p.r p.s)) ∙ four
      where
        begun_at : (w : Node) (r : Record) → record_at (logs_of trace) w ≡ Some r → IsTask (logs_of trace) w.path
        begun_at w r found = let within = slice_get_within (logs_of trace w.path) w.index r found in omega arith
