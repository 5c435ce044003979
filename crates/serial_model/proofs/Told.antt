-- The order in which a tree of work lists its steps is the serial order.
use Rattle.std.proofs.Common.{◌≡◌, ◌⊎◌, inl, inr, refl, sym, ap, ap₂, ◌∙◌, subst, ℕ, zero, suc, ◌+◌, ◌<◌, ◌≤◌, Bool, cond, List, [], ◌∷◌, ◌++◌, length, take, Some, arith, append_assoc}
use Rattle.std.specs.Prelude.{slice_get}
use Rattle.std.specs.List.{flat_map}
use Rattle.std.proofs.lemmas.List.{append-nil, length-append, take-append-le}
use Rattle.std.proofs.lemmas.Grind.{flat_map-append}
use Rattle.std.proofs.lemmas.Option.{slice_get_within}
use Rattle.sw_base.specs.declared.path.Step.{Step}
use Rattle.sw_base.proofs.Lists.{get_right}
use Rattle.log_format.specs.declared.record.Record.{Record}
use Rattle.log_format.specs.declared.record.Kind.TheVariants.{Region}
use Rattle.race_model.specs.Listing.{lane_of}
use Rattle.race_model.specs.Trace.{Logs, Node, IsThere, region_count, barrier_count, barriers_before, regions_before}
use Rattle.race_model.specs.Order.{IsLane, HappensBefore}
use Rattle.race_model.specs.History.{Entry, entry_of}
use Rattle.race_model.proofs.Counted.{barriers_both, regions_both}
use Rattle.race_laws.proofs.Chains.{AreJoined, last_of}
use Rattle.race_laws.proofs.ProgramOrder.{node}
use Rattle.race_laws.proofs.Reaching.{above_there, task_before, team_before}
use Rattle.counted_order.specs.Counting.{IsAbove}
use Rattle.counted_order.proofs.Paths.{GoesOn, goes_on}
use Rattle.counted_order.proofs.Reaching.{under}
use Rattle.history_model.specs.Work.{Work, Rest, Put, Fork, Phases, NoPhase, Phase, TeamWork, NoWork, Beside, RegionWork, fork_record, logged, work_records, work_regions, work_at, lane_works, works_of, task_logs}
use Rattle.history_model.specs.Did.{lane_count_of}
use Rattle.history_model.specs.Sound.{WordLayout, IsSound, ArePhasesSound, IsTeamSound, PassesBarrier}
use Rattle.history_model.specs.Joined.{IsJoined}
use Rattle.history_laws.proofs.EndedLanes.{lanes_end, count_regions}
use Rattle.history_laws.proofs.LabelledWork.{entry, records_at, regions_at}
use Rattle.history_laws.proofs.MetBarriers.{barriers_met, none_before_last, team_passes, works_lane}
use Rattle.history_laws.proofs.TaskEntries.{entries_in, phases_entries, team_entries, one_or_none}
use Rattle.history_laws.proofs.TaskTree.{lane_is, other_kind}
use Rattle.history_laws.proofs.TeamBarriers.{take_past}
use Rattle.serial_model.specs.Order.{HasSmallerLane}

-- ---- lists in which each element is so to all that follow

abbrev pub Each : {X : Type 0} → (X → Type 0) → List X → Type 0
Each P [] = Unit {0}
Each P (x ∷ xs) = P x × Each P xs

abbrev pub InTurn : {X : Type 0} → (X → X → Type 0) → List X → Type 0
InTurn R [] = Unit {0}
InTurn R (x ∷ xs) = Each (R x) xs × InTurn R xs

each_both : {X : Type 0} (P : X → Type 0) (xs ys : List X) → Each P xs → Each P ys → Each P (xs ++ ys)
each_both P [] ys left right = right
each_both P (x ∷ xs) ys left right = (left.0, each_both P xs ys left.1 right)

each_more : {X : Type 0} (P Q : X → Type 0) (xs : List X) → ((x : X) → P x → Q x) → Each P xs → Each Q xs
each_more P Q [] more all = tt
each_more P Q (x ∷ xs) more all = (more x all.0, each_more P Q xs more all.1)

turn_both : {X : Type 0} (R : X → X → Type 0) (P Q : X → Type 0) (xs ys : List X) → ((x y : X) → P x → Q y → R x y) → Each P xs → Each Q ys → InTurn R xs → InTurn R ys → InTurn R (xs ++ ys)
turn_both R P Q [] ys across left right one other = other
turn_both R P Q (x ∷ xs) ys across left right one other =
    (each_both (R x) xs ys one.0 (each_more Q (R x) ys (λ y q. across x y left.0 q) right), turn_both R P Q xs ys across left.1 right one.1 other)

each_at : {X : Type 0} (P : X → Type 0) (mid after : List X) (y : X) → Each P (mid ++ y ∷ after) → P y
each_at P [] after y all = all.0
each_at P (x ∷ mid) after y all = each_at P mid after y all.1

pub turn_at : {X : Type 0} (R : X → X → Type 0) (before mid after : List X) (x y : X) → InTurn R (before ++ x ∷ (mid ++ y ∷ after)) → R x y
turn_at R [] mid after x y turn = each_at (R x) mid after y turn.0
turn_at R (z ∷ before) mid after x y turn = turn_at R before mid after x y turn.1

-- ---- what stands below a record

above_up : (logs : Logs) (fork a x : Node) (n s : ℕ) → IsLane logs fork n s a.path → IsAbove logs a x → IsAbove logs fork x
above_up logs fork _ _ n s lane (IsAbove.itself x) = IsAbove.lane fork fork x n s lane (IsAbove.itself fork)
above_up logs fork _ _ n s lane (IsAbove.lane a deeper x m t wide up) = IsAbove.lane fork deeper x m t wide (above_up logs fork a deeper n s lane up)

first_of : {X : Type 0} (before after : List X) (x : X) (n : ℕ) → length before ≡ n → slice_get (before ++ x ∷ after) n ≡ Some x
first_of before after x n is = ap (λ (k : ℕ). slice_get (before ++ x ∷ after) k) (let e : n ≡ length before + 0 = omega (arith, is) in e) ∙ get_right before (x ∷ after) 0

taken_of : {X : Type 0} (before after : List X) (n m : ℕ) → length before ≡ n → take (n + m) (before ++ after) ≡ before ++ take m after
taken_of before after n m is = ap (λ (k : ℕ). take (k + m) (before ++ after)) (sym is) ∙ take_past before after m

module _ (layout : WordLayout) (root : Work) (sound : IsSound layout root) (joined : IsJoined root) where
  abbrev logs : Logs
  logs = task_logs root

  -- x happens before y, or has the smaller lane
  abbrev pub Comes : Entry → Entry → Type 0
  Comes x y = HappensBefore logs x.node y.node ⊎ HasSmallerLane x.node.path y.node.path

  -- the task of this path goes on with these works from its record i and its region g on
  record GoesWith (path : List Step) (i g : ℕ) (work : Work) : Type 0 where
    before : List Record
    after : List Record
    log_is : logs path ≡ before ++ (work_records work ++ after)
    index : length before ≡ i
    counted : region_count before ≡ g
    older : List RegionWork
    newer : List RegionWork
    regions_are : flat_map work_regions (works_of root path) ≡ older ++ (work_regions work ++ newer)
    number : length older ≡ g

  -- an entry of a work stands below one of its records
  record IsOfWork (path : List Step) (i : ℕ) (work : Work) (e : Entry) : Type 0 where
    place : ℕ
    within : place < length (work_records work)
    part : IsAbove logs (node path (i + place)) e.node
    here : IsThere logs e.node

  -- an entry of a region stands below a record of a lane that has passed so many barriers
  record IsOfLane (fork : Node) (span lane : ℕ) (e : Entry) : Type 0 where
    above : Node
    in_lane : IsLane logs fork lane span above.path
    part : IsAbove logs above e.node
    here : IsThere logs e.node

  record IsOfTeam (fork : Node) (span first passed : ℕ) (e : Entry) : Type 0 where
    lane : ℕ
    from : first ≤ lane
    of : IsOfLane fork span lane e
    number : barriers_before logs of.above ≡ passed

  record IsOfPhases (fork : Node) (span passed : ℕ) (e : Entry) : Type 0 where
    lane : ℕ
    of : IsOfLane fork span lane e
    number : passed ≤ barriers_before logs of.above

  -- a lane goes on with these works, after others in which it passed so many barriers
  record LaneAt (path : List Step) (i g passed : ℕ) (works : List Work) : Type 0 where
    done : List Work
    works_are : works_of root path ≡ done ++ works
    index : length (flat_map work_records done) ≡ i
    number : length (flat_map work_regions done) ≡ g
    counted : region_count (flat_map work_records done) ≡ g
    passes : barrier_count (flat_map work_records done) ≡ passed

  -- ---- how the works of a task go on

  after_put : (path : List Step) (i g : ℕ) (r : Record) (more : Work) → (r.kind ≡ Region → ⊥) → GoesWith path i g (Put r more) → GoesWith path (i + 1) g more
  after_put path i g r more other w = record {
    before = w.before ++ logged r ∷ [];
    after = w.after;
    log_is = w.log_is ∙ sym (append_assoc w.before (logged r ∷ []) (work_records more ++ w.after));
    index = length-append w.before (logged r ∷ []) ∙ ap (λ (n : ℕ). n + 1) w.index;
    counted = regions_both w.before (logged r ∷ []) ∙ (let none : region_count (logged r ∷ []) ≡ 0 = ap (λ (b : Bool). 0 + cond b 1 0) (other_kind r.kind other) in let e : region_count w.before + region_count (logged r ∷ []) ≡ g = omega (arith, w.counted) in e);
    older = w.older;
    newer = w.newer;
    regions_are = w.regions_are;
    number = w.number;
  }

  after_fork : (path : List Step) (i g line span : ℕ) (phases : Phases) (more : Work) → GoesWith path i g (Fork line span phases more) → GoesWith path (i + 1) (g + 1) more
  after_fork path i g line span phases more w = record {
    before = w.before ++ fork_record line span ∷ [];
    after = w.after;
    log_is = w.log_is ∙ sym (append_assoc w.before (fork_record line span ∷ []) (work_records more ++ w.after));
    index = length-append w.before (fork_record line span ∷ []) ∙ ap (λ (n : ℕ). n + 1) w.index;
    counted = regions_both w.before (fork_record line span ∷ []) ∙ ap (λ (n : ℕ). n + 1) w.counted;
    older = w.older ++ record { span = span; phases = phases } ∷ [];
    newer = w.newer;
    regions_are = w.regions_are ∙ sym (append_assoc w.older (record { span = span; phases = phases } ∷ []) (work_regions more ++ w.newer));
    number = length-append w.older (record { span = span; phases = phases } ∷ []) ∙ ap (λ (n : ℕ). n + 1) w.number;
  }

  lane_log : (path : List Step) (i g passed : ℕ) (work : Work) (rest : List Work) (l : LaneAt path i g passed (work ∷ rest)) → logs path ≡ flat_map work_records l.done ++ (work_records work ++ flat_map work_records rest)
  lane_log path i g passed work rest l = ap (λ (ws : List Work). flat_map work_records ws) l.works_are ∙ flat_map-append work_records l.done (work ∷ rest)

  lane_goes : (path : List Step) (i g passed : ℕ) (work : Work) (rest : List Work) → LaneAt path i g passed (work ∷ rest) → GoesWith path i g work
  lane_goes path i g passed work rest l = record {
    before = flat_map work_records l.done;
    after = flat_map work_records rest;
    log_is = lane_log path i g passed work rest l;
    index = l.index;
    counted = l.counted;
    older = flat_map work_regions l.done;
    newer = flat_map work_regions rest;
    regions_are = ap (λ (ws : List Work). flat_map work_regions ws) l.works_are ∙ flat_map-append work_regions l.done (work ∷ rest);
    number = l.number;
  }

  -- in a lane, before a record of its work
  lane_passed : (path : List Step) (i g passed place : ℕ) (work : Work) (rest : List Work) → IsSound layout work → LaneAt path i g passed (work ∷ rest) → place < length (work_records work)
      → barriers_before logs (node path (i + place)) ≡ passed
  lane_passed path i g passed place work rest is l within =
      ap (λ (rs : List Record). barrier_count (take (i + place) rs)) (lane_log path i g passed work rest l)
      ∙ ap (λ (rs : List Record). barrier_count rs) (taken_of (flat_map work_records l.done) (work_records work ++ flat_map work_records rest) i place l.index)
      ∙ barriers_both (flat_map work_records l.done) (take place (work_records work ++ flat_map work_records rest))
      ∙ ap₂ (λ (m n : ℕ). m + n) l.passes none
      ∙ (let e : passed + 0 ≡ passed = omega arith in e)
    where
      none : barrier_count (take place (work_records work ++ flat_map work_records rest)) ≡ 0
      none = ap (λ (rs : List Record). barrier_count rs) (take-append-le place (work_records work) (flat_map work_records rest) (omega arith)) ∙ none_before_last layout work place is within

  -- ---- the lanes of a region

  fork_lane : (path : List Step) (i g line span : ℕ) (phases : Phases) (more : Work) → GoesWith path i g (Fork line span phases more) → (lane : ℕ) → lane < span → IsLane logs (node path i) lane span (lane_of path g lane span)
  fork_lane path i g line span phases more w lane less = record {
    event = fork_record line span;
    found = ap (λ (rs : List Record). slice_get rs i) w.log_is ∙ first_of w.before (work_records more ++ w.after) (fork_record line span) i w.index;
    region = refl;
    spans = refl;
    in_span = less;
    child = ap (λ (n : ℕ). lane_of path n lane span) (sym counts);
  }
    where
      counts : region_count (take i (logs path)) ≡ g
      counts =
          ap (λ (rs : List Record). region_count (take i rs)) w.log_is
          ∙ ap (λ (n : ℕ). region_count (take n (w.before ++ (fork_record line span ∷ work_records more ++ w.after)))) (let e : i ≡ i + 0 = omega arith in e)
          ∙ ap (λ (rs : List Record). region_count rs) (taken_of w.before (fork_record line span ∷ work_records more ++ w.after) i 0 w.index)
          ∙ ap (λ (rs : List Record). region_count rs) (append-nil w.before)
          ∙ w.counted

  lanes_begin : (path : List Step) (i g line span : ℕ) (phases : Phases) (more : Work) → GoesWith path i g (Fork line span phases more) → (lane : ℕ) → LaneAt (lane_of path g lane span) 0 0 0 (lane_works lane phases)
  lanes_begin path i g line span phases more w lane = record {
    done = [];
    works_are =
        works_lane root path (record { region = g; lane = lane; span = span })
        ∙ lane_is (works_of root path) (record { span = span; phases = phases }) g lane
        (ap (λ (rs : List RegionWork). slice_get rs g) w.regions_are ∙ first_of w.older (work_regions more ++ w.newer) (record { span = span; phases = phases }) g w.number);
    index = refl;
    number = refl;
    counted = refl;
    passes = refl;
  }

  -- the works of a lane in a phase
  team_counted : (lane : ℕ) (team : TeamWork) → IsTeamSound layout team → region_count (flat_map work_records (work_at lane team)) ≡ regions_at lane team
  team_counted lane NoWork is = refl
  team_counted zero (Beside work others) is =
      ap (λ (rs : List Record). region_count rs) (append-nil (work_records work)) ∙ count_regions layout work is.0 ∙ ap (λ (rs : List RegionWork). length rs) (sym (append-nil (work_regions work)))
  team_counted (suc lane) (Beside work others) is = team_counted lane others is.1

  next_phase : (path : List Step) (i g passed lane : ℕ) (team : TeamWork) (later : Phases) → lane < lane_count_of team → IsTeamSound layout team → PassesBarrier team
      → LaneAt path i g passed (lane_works lane (Phase team later)) → LaneAt path (i + records_at lane team) (g + regions_at lane team) (passed + 1) (lane_works lane later)
  next_phase path i g passed lane team later less is pass l = record {
    done = l.done ++ work_at lane team;
    works_are = l.works_are ∙ sym (append_assoc l.done (work_at lane team) (lane_works lane later));
    index = ap (λ (rs : List Record). length rs) (flat_map-append work_records l.done (work_at lane team)) ∙ length-append (flat_map work_records l.done) (flat_map work_records (work_at lane team)) ∙ ap (λ (n : ℕ). n + records_at lane team) l.index;
    number = ap (λ (rs : List RegionWork). length rs) (flat_map-append work_regions l.done (work_at lane team)) ∙ length-append (flat_map work_regions l.done) (flat_map work_regions (work_at lane team)) ∙ ap (λ (n : ℕ). n + regions_at lane team) l.number;
    counted = ap (λ (rs : List Record). region_count rs) (flat_map-append work_records l.done (work_at lane team)) ∙ regions_both (flat_map work_records l.done) (flat_map work_records (work_at lane team))
        ∙ ap₂ (λ (m n : ℕ). m + n) l.counted (team_counted lane team is);
    passes = ap (λ (rs : List Record). barrier_count rs) (flat_map-append work_records l.done (work_at lane team)) ∙ barriers_both (flat_map work_records l.done) (flat_map work_records (work_at lane team))
        ∙ ap₂ (λ (m n : ℕ). m + n) l.passes (team_passes lane team less pass);
  }

  -- ---- each entry stands where it was told

  -- one below a later record, and one below the first
  up_more : (path : List Step) (i : ℕ) (more whole : Work) (e : Entry) → length (work_records whole) ≡ suc (length (work_records more)) → IsOfWork path (i + 1) more e → IsOfWork path i whole e
  up_more path i more whole e size of = record {
    place = suc of.place;
    within = omega (arith, of.within);
    part = subst (λ (n : ℕ). IsAbove logs (node path n) e.node) (let s : i + 1 + of.place ≡ i + suc of.place = omega arith in s) of.part;
    here = of.here;
  }

  up_first : (path : List Step) (i : ℕ) (one whole : Work) (e : Entry) → length (work_records one) ≡ 1 → 0 < length (work_records whole) → IsOfWork path i one e → IsOfWork path i whole e
  up_first path i one whole e size some of = record { place = of.place; within = omega (arith, of.within); part = of.part; here = of.here }

  own_entry : (path : List Step) (i g : ℕ) (r : Record) (more : Work) → GoesWith path i g (Put r more) → IsOfWork path i (Put r Rest) (entry path i r)
  own_entry path i g r more w = record {
    place = 0;
    within = omega arith;
    part = subst (λ (n : ℕ). IsAbove logs (node path n) (node path i)) (let s : i ≡ i + 0 = omega arith in s) (IsAbove.itself (node path i));
    here = slice_get_within (logs path) i (logged r) (ap (λ (rs : List Record). slice_get rs i) w.log_is ∙ first_of w.before (work_records more ++ w.after) (logged r) i w.index);
  }

  put_each : (P : Entry → Type 0) (path : List Step) (i : ℕ) (r : Record) → P (entry path i r) → Each P (entry_of r.kind (entry path i r))
  put_each P path i r own = at (one_or_none r.kind (entry path i r)) where
    at : (entry_of r.kind (entry path i r) ≡ []) ⊎ (entry_of r.kind (entry path i r) ≡ entry path i r ∷ []) → Each P (entry_of r.kind (entry path i r))
    at (inl none) = subst (λ (es : List Entry). Each P es) (sym none) tt
    at (inr one) = subst (λ (es : List Entry). Each P es) (sym one) (own, tt)

  put_turn : (path : List Step) (i : ℕ) (r : Record) → InTurn Comes (entry_of r.kind (entry path i r))
  put_turn path i r = at (one_or_none r.kind (entry path i r)) where
    at : (entry_of r.kind (entry path i r) ≡ []) ⊎ (entry_of r.kind (entry path i r) ≡ entry path i r ∷ []) → InTurn Comes (entry_of r.kind (entry path i r))
    at (inl none) = subst (λ (es : List Entry). InTurn Comes es) (sym none) tt
    at (inr one) = subst (λ (es : List Entry). InTurn Comes es) (sym one) (tt, tt)

  below_fork : (path : List Step) (i line span passed : ℕ) (phases : Phases) (e : Entry) → IsOfPhases (node path i) span passed e → IsOfWork path i (Fork line span phases Rest) e
  below_fork path i line span passed phases e of = record {
    place = 0;
    within = omega arith;
    part = subst (λ (n : ℕ). IsAbove logs (node path n) e.node) (let s : i ≡ i + 0 = omega arith in s) (above_up logs (node path i) of.of.above e.node of.lane span of.of.in_lane of.of.part);
    here = of.of.here;
  }

  in_lane : (fork : Node) (path : List Step) (g span lane i n passed : ℕ) (work : Work) (rest : List Work) (e : Entry) → IsLane logs fork lane span (lane_of path g lane span) → IsSound layout work
      → LaneAt (lane_of path g lane span) i n passed (work ∷ rest) → IsOfWork (lane_of path g lane span) i work e → IsOfTeam fork span lane passed e
  in_lane fork path g span lane i n passed work rest e there is l of = record {
    lane = lane;
    from = omega arith;
    of = record { above = node (lane_of path g lane span) (i + of.place); in_lane = there; part = of.part; here = of.here };
    number = lane_passed (lane_of path g lane span) i n passed of.place work rest is l of.within;
  }

  -- the lanes of a team stand so, and go on with its works
  abbrev LanesAt : List Step → ℕ → ℕ → (ℕ → ℕ) → (ℕ → ℕ) → ℕ → ℕ → TeamWork → Type 0
  LanesAt path g span put forked passed first team =
      (lane d : ℕ) → lane ≡ first + d → d < lane_count_of team → (rest : List Work) × LaneAt (lane_of path g lane span) (put lane) (forked lane) passed (work_at d team ++ rest)

  abbrev AreLanes : Node → List Step → ℕ → ℕ → Type 0
  AreLanes fork path g span = (lane : ℕ) → lane < span → IsLane logs fork lane span (lane_of path g lane span)

  abbrev PhasesAt : List Step → ℕ → ℕ → (ℕ → ℕ) → (ℕ → ℕ) → ℕ → Phases → Type 0
  PhasesAt path g span put forked passed phases = (phases ≡ NoPhase → ⊥) → (lane : ℕ) → lane < span → LaneAt (lane_of path g lane span) (put lane) (forked lane) passed (lane_works lane phases)

  in_phase : (path : List Step) (g span : ℕ) (put forked : ℕ → ℕ) (passed : ℕ) (team : TeamWork) (later : Phases) → lane_count_of team ≡ span → PhasesAt path g span put forked passed (Phase team later)
      → LanesAt path g span put forked passed 0 team
  in_phase path g span put forked passed team later count lanes lane d is less =
      subst (λ (k : ℕ). (rest : List Work) × LaneAt (lane_of path g lane span) (put lane) (forked lane) passed (work_at k team ++ rest)) (let e : lane ≡ d = omega (arith, is) in e)
      (lane_works lane later, lanes (λ none. cc) lane (omega (arith, is, count)))

  past_phase : (path : List Step) (g span : ℕ) (put forked : ℕ → ℕ) (passed : ℕ) (team : TeamWork) (later : Phases) → ArePhasesSound layout span (Phase team later)
      → PhasesAt path g span put forked passed (Phase team later) → PhasesAt path g span (λ lane. put lane + records_at lane team) (λ lane. forked lane + regions_at lane team) (passed + 1) later
  past_phase path g span put forked passed team later is lanes some lane less =
      next_phase (lane_of path g lane span) (put lane) (forked lane) passed lane team later (omega (arith, is.0)) is.1 (passes is.2) (lanes (λ none. cc) lane less)
    where
      passes : (later ≡ NoPhase) ⊎ PassesBarrier team → PassesBarrier team
      passes (inl none) = absurd (some none)
      passes (inr pass) = pass

  mutual
    each_in : (path : List Step) (i g : ℕ) (work : Work) → IsSound layout work → GoesWith path i g work → Each (IsOfWork path i work) (entries_in path i g work)
    each_in path i g Rest is w = tt
    each_in path i g (Put r more) is w =
        each_both (IsOfWork path i (Put r more)) (entry_of r.kind (entry path i r)) (entries_in path (i + 1) g more)
        (put_each (IsOfWork path i (Put r more)) path i r (up_first path i (Put r Rest) (Put r more) (entry path i r) refl (omega arith) (own_entry path i g r more w)))
        (each_more (IsOfWork path (i + 1) more) (IsOfWork path i (Put r more)) (entries_in path (i + 1) g more) (λ e. up_more path i more (Put r more) e refl)
        (each_in path (i + 1) g more is.2 (after_put path i g r more is.0.no_region w)))
    each_in path i g (Fork line span phases more) is w =
        each_both (IsOfWork path i (Fork line span phases more)) (phases_entries path g span (λ lane. 0) (λ lane. 0) phases) (entries_in path (i + 1) (g + 1) more)
        (each_more (IsOfWork path i (Fork line span phases Rest)) (IsOfWork path i (Fork line span phases more)) (phases_entries path g span (λ lane. 0) (λ lane. 0) phases)
        (λ e. up_first path i (Fork line span phases Rest) (Fork line span phases more) e refl (omega arith))
        (each_more (IsOfPhases (node path i) span 0) (IsOfWork path i (Fork line span phases Rest)) (phases_entries path g span (λ lane. 0) (λ lane. 0) phases) (below_fork path i line span 0 phases)
        (each_phases (node path i) path g span (λ lane. 0) (λ lane. 0) 0 phases is.0 (fork_lane path i g line span phases more w) (λ some lane less. lanes_begin path i g line span phases more w lane))))
        (each_more (IsOfWork path (i + 1) more) (IsOfWork path i (Fork line span phases more)) (entries_in path (i + 1) (g + 1) more) (λ e. up_more path i more (Fork line span phases more) e refl)
        (each_in path (i + 1) (g + 1) more is.1 (after_fork path i g line span phases more w)))

    each_phases : (fork : Node) (path : List Step) (g span : ℕ) (put forked : ℕ → ℕ) (passed : ℕ) (phases : Phases) → ArePhasesSound layout span phases → AreLanes fork path g span → PhasesAt path g span put forked passed phases
        → Each (IsOfPhases fork span passed) (phases_entries path g span put forked phases)
    each_phases fork path g span put forked passed NoPhase is there lanes = tt
    each_phases fork path g span put forked passed (Phase team later) is there lanes =
        each_both (IsOfPhases fork span passed) (team_entries path g span put forked 0 team) (phases_entries path g span (λ lane. put lane + records_at lane team) (λ lane. forked lane + regions_at lane team) later)
        (each_more (IsOfTeam fork span 0 passed) (IsOfPhases fork span passed) (team_entries path g span put forked 0 team) (λ e of. record { lane = of.lane; of = of.of; number = omega (arith, of.number) })
        (each_team fork path g span put forked passed 0 team is.1 there (omega (arith, is.0)) (in_phase path g span put forked passed team later is.0 lanes)))
        (each_more (IsOfPhases fork span (passed + 1)) (IsOfPhases fork span passed) (phases_entries path g span (λ lane. put lane + records_at lane team) (λ lane. forked lane + regions_at lane team) later)
        (λ e of. record { lane = of.lane; of = of.of; number = omega (arith, of.number) }) (each_phases fork path g span (λ lane. put lane + records_at lane team) (λ lane. forked lane + regions_at lane team) (passed + 1) later is.3 there (past_phase path g span put forked passed team later is lanes)))

    each_team : (fork : Node) (path : List Step) (g span : ℕ) (put forked : ℕ → ℕ) (passed first : ℕ) (team : TeamWork) → IsTeamSound layout team → AreLanes fork path g span → first + lane_count_of team ≡ span
        → LanesAt path g span put forked passed first team → Each (IsOfTeam fork span first passed) (team_entries path g span put forked first team)
    each_team fork path g span put forked passed first NoWork is there sum lanes = tt
    each_team fork path g span put forked passed first (Beside work others) is there sum lanes =
        let (rest, l) = lanes first 0 (omega arith) (omega arith) in
        each_both (IsOfTeam fork span first passed) (entries_in (lane_of path g first span) (put first) (forked first) work) (team_entries path g span put forked (suc first) others)
        (each_more (IsOfWork (lane_of path g first span) (put first) work) (IsOfTeam fork span first passed) (entries_in (lane_of path g first span) (put first) (forked first) work)
        (λ e of. in_lane fork path g span first (put first) (forked first) passed work rest e (there first (omega (arith, sum))) is.0 l of)
        (each_in (lane_of path g first span) (put first) (forked first) work is.0 (lane_goes (lane_of path g first span) (put first) (forked first) passed work rest l)))
        (each_more (IsOfTeam fork span (suc first) passed) (IsOfTeam fork span first passed) (team_entries path g span put forked (suc first) others)
        (λ e of. record { lane = of.lane; from = omega (arith, of.from); of = of.of; number = of.number })
        (each_team fork path g span put forked passed (suc first) others is.1 there (omega (arith, sum)) (λ lane d at less. lanes lane (suc d) (omega (arith, at)) (omega arith))))

  each_region : (path : List Step) (i g line span : ℕ) (phases : Phases) (more : Work) → IsSound layout (Fork line span phases more) → GoesWith path i g (Fork line span phases more)
      → Each (IsOfWork path i (Fork line span phases Rest)) (phases_entries path g span (λ lane. 0) (λ lane. 0) phases)
  each_region path i g line span phases more is w =
      each_more (IsOfPhases (node path i) span 0) (IsOfWork path i (Fork line span phases Rest)) (phases_entries path g span (λ lane. 0) (λ lane. 0) phases) (below_fork path i line span 0 phases)
      (each_phases (node path i) path g span (λ lane. 0) (λ lane. 0) 0 phases is.0 (fork_lane path i g line span phases more w) (λ some lane less. lanes_begin path i g line span phases more w lane))

  -- ---- and comes before those told later

  all_joined : AreJoined logs
  all_joined fork lane span beside is more = let e = lanes_end layout root fork lane span beside sound joined is more in last_of logs beside e.prefix e.last e.parts e.ends

  across_work : (path : List Step) (i : ℕ) (one more : Work) (x y : Entry) → length (work_records one) ≡ 1 → IsOfWork path i one x → IsOfWork path (i + 1) more y → Comes x y
  across_work path i one more x y size of other =
      let a = node path (i + of.place) in
      let b = node path (i + 1 + other.place) in
      inl (task_before logs all_joined a b x.node y.node (under logs a x.node of.part) (under logs b y.node other.part) of.here other.here refl (omega (arith, of.within)))

  across_phases : (fork : Node) (span passed : ℕ) (x y : Entry) → IsOfTeam fork span 0 passed x → IsOfPhases fork span (passed + 1) y → Comes x y
  across_phases fork span passed x y of other =
      let a = of.of.above in
      let b = other.of.above in
      inl (team_before logs all_joined fork a b x.node y.node of.lane other.lane span (under logs a x.node of.of.part) (under logs b y.node other.of.part) of.of.in_lane other.of.in_lane (omega (arith, of.number, other.number))
      (barriers_met layout root fork other.lane of.lane span b.path a.path b.index sound other.of.in_lane of.of.in_lane (above_there logs b y.node (under logs b y.node other.of.part) other.of.here)) of.of.here other.of.here)

  across_lanes : (fork : Node) (span first passed : ℕ) (x y : Entry) → IsOfLane fork span first x → IsOfTeam fork span (suc first) passed y → Comes x y
  across_lanes fork span first passed x y of other = inr (record {
    shared = fork.path;
    mine = record { region = regions_before logs fork; lane = first; span = span };
    yours = record { region = regions_before logs fork; lane = other.lane; span = span };
    my_rest = (goes_on logs of.above x.node of.part).rest;
    your_rest = (goes_on logs other.of.above y.node other.of.part).rest;
    path_is = along of.above x.node first of.in_lane (goes_on logs of.above x.node of.part);
    other_is = along other.of.above y.node other.lane other.of.in_lane (goes_on logs other.of.above y.node other.of.part);
    smaller = omega (arith, other.from);
  })
    where
      along : (a z : Node) (lane : ℕ) → IsLane logs fork lane span a.path → (o : GoesOn a.path z.path) → z.path ≡ fork.path ++ record { region = regions_before logs fork; lane = lane; span = span } ∷ o.rest
      along a z lane is o = o.parts ∙ (ap (λ (p : List Step). p ++ o.rest) is.child ∙ append_assoc fork.path (record { region = regions_before logs fork; lane = lane; span = span } ∷ []) o.rest)

  mutual
    turn_in : (path : List Step) (i g : ℕ) (work : Work) → IsSound layout work → GoesWith path i g work → InTurn Comes (entries_in path i g work)
    turn_in path i g Rest is w = tt
    turn_in path i g (Put r more) is w =
        turn_both Comes (IsOfWork path i (Put r Rest)) (IsOfWork path (i + 1) more) (entry_of r.kind (entry path i r)) (entries_in path (i + 1) g more)
        (λ x y. across_work path i (Put r Rest) more x y refl)
        (put_each (IsOfWork path i (Put r Rest)) path i r (own_entry path i g r more w))
        (each_in path (i + 1) g more is.2 (after_put path i g r more is.0.no_region w))
        (put_turn path i r)
        (turn_in path (i + 1) g more is.2 (after_put path i g r more is.0.no_region w))
    turn_in path i g (Fork line span phases more) is w =
        turn_both Comes (IsOfWork path i (Fork line span phases Rest)) (IsOfWork path (i + 1) more) (phases_entries path g span (λ lane. 0) (λ lane. 0) phases) (entries_in path (i + 1) (g + 1) more)
        (λ x y. across_work path i (Fork line span phases Rest) more x y refl)
        (each_region path i g line span phases more is w)
        (each_in path (i + 1) (g + 1) more is.1 (after_fork path i g line span phases more w))
        (turn_phases (node path i) path g span (λ lane. 0) (λ lane. 0) 0 phases is.0 (fork_lane path i g line span phases more w) (λ some lane less. lanes_begin path i g line span phases more w lane))
        (turn_in path (i + 1) (g + 1) more is.1 (after_fork path i g line span phases more w))

    turn_phases : (fork : Node) (path : List Step) (g span : ℕ) (put forked : ℕ → ℕ) (passed : ℕ) (phases : Phases) → ArePhasesSound layout span phases → AreLanes fork path g span → PhasesAt path g span put forked passed phases
        → InTurn Comes (phases_entries path g span put forked phases)
    turn_phases fork path g span put forked passed NoPhase is there lanes = tt
    turn_phases fork path g span put forked passed (Phase team later) is there lanes =
        turn_both Comes (IsOfTeam fork span 0 passed) (IsOfPhases fork span (passed + 1)) (team_entries path g span put forked 0 team)
        (phases_entries path g span (λ lane. put lane + records_at lane team) (λ lane. forked lane + regions_at lane team) later)
        (across_phases fork span passed)
        (each_team fork path g span put forked passed 0 team is.1 there (omega (arith, is.0)) (in_phase path g span put forked passed team later is.0 lanes))
        (each_phases fork path g span (λ lane. put lane + records_at lane team) (λ lane. forked lane + regions_at lane team) (passed + 1) later is.3 there (past_phase path g span put forked passed team later is lanes))
        (turn_team fork path g span put forked passed 0 team is.1 there (omega (arith, is.0)) (in_phase path g span put forked passed team later is.0 lanes))
        (turn_phases fork path g span (λ lane. put lane + records_at lane team) (λ lane. forked lane + regions_at lane team) (passed + 1) later is.3 there (past_phase path g span put forked passed team later is lanes))

    turn_team : (fork : Node) (path : List Step) (g span : ℕ) (put forked : ℕ → ℕ) (passed first : ℕ) (team : TeamWork) → IsTeamSound layout team → AreLanes fork path g span → first + lane_count_of team ≡ span
        → LanesAt path g span put forked passed first team → InTurn Comes (team_entries path g span put forked first team)
    turn_team fork path g span put forked passed first NoWork is there sum lanes = tt
    turn_team fork path g span put forked passed first (Beside work others) is there sum lanes =
        let (rest, l) = lanes first 0 (omega arith) (omega arith) in
        let goes = lane_goes (lane_of path g first span) (put first) (forked first) passed work rest l in
        let more : LanesAt path g span put forked passed (suc first) others = λ lane d at less. lanes lane (suc d) (omega (arith, at)) (omega arith) in
        turn_both Comes (IsOfLane fork span first) (IsOfTeam fork span (suc first) passed) (entries_in (lane_of path g first span) (put first) (forked first) work) (team_entries path g span put forked (suc first) others)
        (across_lanes fork span first passed)
        (each_more (IsOfWork (lane_of path g first span) (put first) work) (IsOfLane fork span first) (entries_in (lane_of path g first span) (put first) (forked first) work)
        (λ e of. record { above = node (lane_of path g first span) (put first + of.place); in_lane = there first (omega (arith, sum)); part = of.part; here = of.here })
        (each_in (lane_of path g first span) (put first) (forked first) work is.0 goes))
        (each_team fork path g span put forked passed (suc first) others is.1 there (omega (arith, sum)) more)
        (turn_in (lane_of path g first span) (put first) (forked first) work is.0 goes)
        (turn_team fork path g span put forked passed (suc first) others is.1 there (omega (arith, sum)) more)

  root_goes : GoesWith [] 0 0 root
  root_goes = record { before = []; after = []; log_is = refl; index = refl; counted = refl; older = []; newer = []; regions_are = refl; number = refl }

  pub told_in_turn : InTurn Comes (entries_in [] 0 0 root)
  told_in_turn = turn_in [] 0 0 root sound root_goes
