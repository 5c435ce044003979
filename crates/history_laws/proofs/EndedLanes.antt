-- Where a task goes on after a region, the lanes of the region have ended.
use Rattle.std.proofs.Common.{◌≡◌, ◌⊎◌, inl, inr, refl, sym, ap, ◌∙◌, subst, ℕ, zero, suc, ◌+◌, ◌<◌, ◌≤◌, Bool, true, false, cond, List, [], ◌∷◌, ◌++◌, length, take, Option, Some, None, arith}
use Rattle.std.specs.Prelude.{slice_get, if◌then◌else◌, ◌==◌}
use Rattle.std.specs.List.{flat_map}
use Rattle.std.proofs.lemmas.Bool.{cases_lt}
use Rattle.std.proofs.lemmas.List.{append-nil, append_assoc, take-append-le, length-append}
use Rattle.std.proofs.lemmas.List.Sums.{sum_by-append}
use Rattle.std.proofs.lemmas.Grind.{flat_map-append}
use Rattle.std.proofs.lemmas.Option.{same_Some, slice_get_within}
use Rattle.sw_base.specs.declared.path.Step.{Step}
use Rattle.sw_base.proofs.Lists.{get_right}
use Rattle.log_format.specs.declared.record.Record.{Record}
use Rattle.log_format.specs.declared.record.Kind.{Kind}
use Rattle.log_format.specs.declared.record.Kind.TheVariants.{Region}
use Rattle.race_model.specs.Listing.{lane_of}
use Rattle.race_model.specs.Trace.{Node, IsThere, barrier_count, is_barrier_kind, region_count, is_region_kind, regions_before}
use Rattle.race_model.specs.Order.{IsLane}
use Rattle.history_model.specs.Work.{Work, Rest, Put, Fork, Phases, NoPhase, Phase, TeamWork, NoWork, Beside, RegionWork, fork_record, logged, work_records, work_regions, work_at, lane_works, works_at_region, works_at_step, works_under, works_of, task_logs}
use Rattle.history_model.specs.Did.{lane_count_of}
use Rattle.history_model.specs.Sound.{WordLayout, IsSound, ArePhasesSound, PassesBarrier}
use Rattle.history_model.specs.Joined.{LastIsEnd, TeamEnds, PhasesEnd, IsJoined, ArePhasesJoined, IsTeamJoined}
use Rattle.history_model.proofs.Parts.{count_cons}
use Rattle.history_laws.proofs.TeamBarriers.{take_past, last_of}
use Rattle.history_laws.proofs.MetBarriers.{none_before_last, team_passes, works_lane}
use Rattle.race_model.proofs.Counted.{barriers_both}
use Rattle.history_laws.proofs.TaskTree.{AreSound, sound_regions, sound_at_step, sound_works_under, no_lane_works, lane_is, other_kind}
use Rattle.history_laws.proofs.Windows.{get_either}

-- works of joined tasks, each but the last with its barrier
abbrev AreJoined : List Work → Type 0
AreJoined [] = Unit {0}
AreJoined (work ∷ works) = IsJoined work × AreJoined works

abbrev ButLastPass : List Work → Type 0
ButLastPass [] = Unit {0}
ButLastPass (work ∷ []) = Unit {0}
ButLastPass (work ∷ next ∷ works) = (barrier_count (work_records work) ≡ 1) × ButLastPass (next ∷ works)

joined_append : (xs ys : List Work) → AreJoined xs → AreJoined ys → AreJoined (xs ++ ys)
joined_append [] ys left right = right
joined_append (x ∷ xs) ys left right = (left.0, joined_append xs ys left.1 right)

joined_region : (works : List Work) (r : ℕ) (region : RegionWork) → AreJoined works → slice_get (flat_map work_regions works) r ≡ Some region → ArePhasesJoined region.phases
joined_region [] r region all found = cc
joined_region (work ∷ works) r region all found = at (get_either (work_regions work) (flat_map work_regions works) r region found) (λ (k : ℕ) there. joined_region works k region all.1 there)
  where
    in_work : (w : Work) (k : ℕ) → IsJoined w → slice_get (work_regions w) k ≡ Some region → ArePhasesJoined region.phases
    in_work Rest k is here = cc
    in_work (Put q more) k is here = in_work more k is here
    in_work (Fork line span phases more) zero is here = subst (λ (x : RegionWork). ArePhasesJoined x.phases) (same_Some (record { span = span; phases = phases }) region here) is.1
    in_work (Fork line span phases more) (suc k) is here = in_work more k is.2 here

    at : (slice_get (work_regions work) r ≡ Some region) ⊎ ((m : ℕ) × (r ≡ length (work_regions work) + m) × (slice_get (flat_map work_regions works) m ≡ Some region))
        → ((k : ℕ) → slice_get (flat_map work_regions works) k ≡ Some region → ArePhasesJoined region.phases) → ArePhasesJoined region.phases
    at (inl here) rest = in_work work r all.0 here
    at (inr (m, same, there)) rest = rest m there

joined_team : (lane : ℕ) (team : TeamWork) → IsTeamJoined team → AreJoined (work_at lane team)
joined_team lane NoWork is = tt
joined_team zero (Beside work others) is = (is.0, tt)
joined_team (suc lane) (Beside work others) is = joined_team lane others is.1

joined_lane : (lane : ℕ) (phases : Phases) → ArePhasesJoined phases → AreJoined (lane_works lane phases)
joined_lane lane NoPhase is = tt
joined_lane lane (Phase team later) is = joined_append (work_at lane team) (lane_works lane later) (joined_team lane team is.0) (joined_lane lane later is.1)

-- a lane passes a barrier in each phase but its last
but_last : (layout : WordLayout) (span lane : ℕ) (phases : Phases) → ArePhasesSound layout span phases → lane < span → ButLastPass (lane_works lane phases)
but_last layout span lane NoPhase sound less = tt
but_last layout span lane (Phase team later) sound less = at sound.2 (one lane team (omega (arith, sound.0))) (but_last layout span lane later sound.3 less)
  where
    one : (l : ℕ) (t : TeamWork) → l < lane_count_of t → (w : Work) × (work_at l t ≡ w ∷ [])
    one l NoWork within = absurd (omega arith)
    one zero (Beside w others) within = (w, refl)
    one (suc l) (Beside w others) within = one l others (omega arith)

    at : (later ≡ NoPhase) ⊎ PassesBarrier team → (w : Work) × (work_at lane team ≡ w ∷ []) → ButLastPass (lane_works lane later) → ButLastPass (work_at lane team ++ lane_works lane later)
    at (inl none) (w, same) rest = subst (λ (p : Phases). ButLastPass (work_at lane team ++ lane_works lane p)) (sym none) (subst (λ (ws : List Work). ButLastPass (ws ++ [])) (sym same) tt)
    at (inr passes) (w, same) rest = subst (λ (ws : List Work). ButLastPass (ws ++ lane_works lane later)) (sym same) (by_rest (lane_works lane later) rest) where
      passed : barrier_count (work_records w) ≡ 1
      passed = ap (λ (rs : List Record). barrier_count rs) (sym (append-nil (work_records w))) ∙ ap (λ (ws : List Work). barrier_count (flat_map work_records ws)) (sym same) ∙ team_passes lane team (omega (arith, sound.0)) passes

      by_rest : (ws : List Work) → ButLastPass ws → ButLastPass (w ∷ ws)
      by_rest [] more = tt
      by_rest (v ∷ ws) more = (passed, more)

-- down a path the works stay joined, and pass their barriers
down_step : (layout : WordLayout) (works : List Work) (step : Step) → AreSound layout works → AreJoined works → AreJoined (works_at_step step works) × ButLastPass (works_at_step step works)
down_step layout works step sound all = at (slice_get (flat_map work_regions works) step.region) refl where
  at : (o : Option RegionWork) → slice_get (flat_map work_regions works) step.region ≡ o → AreJoined (works_at_region step o) × ButLastPass (works_at_region step o)
  at None e = (tt, tt)
  at (Some region) e = by_span (region.span == step.span) where
    by_span : (b : Bool) → AreJoined (if b then lane_works step.lane region.phases else []) × ButLastPass (if b then lane_works step.lane region.phases else [])
    by_span false = (tt, tt)
    by_span true = (joined_lane step.lane region.phases (joined_region works step.region region all e), by_lane (cases_lt step.lane region.span)) where
      by_lane : (step.lane < region.span) ⊎ (region.span ≤ step.lane) → ButLastPass (lane_works step.lane region.phases)
      by_lane (inl less) = but_last layout region.span step.lane region.phases (sound_regions layout works step.region region sound e) less
      by_lane (inr le) = subst (λ (ws : List Work). ButLastPass ws) (sym (no_lane_works layout region.span step.lane region.phases (sound_regions layout works step.region region sound e) le)) tt

down : (layout : WordLayout) (works : List Work) (path : List Step) → AreSound layout works → AreJoined works → ButLastPass works → AreJoined (works_under works path) × ButLastPass (works_under works path)
down layout works [] sound all pass = (all, pass)
down layout works (step ∷ path) sound all pass = let next = down_step layout works step sound all in down layout (works_at_step step works) path (sound_at_step layout step works sound) next.0 next.1

-- a region after which the task goes on
record EndedRegion (records : List Record) (regions : List RegionWork) (i : ℕ) (event : Record) : Type 0 where
  region : RegionWork
  found : slice_get regions (region_count (take i records)) ≡ Some region
  span_is : event.value ≡ region.span
  ends : PhasesEnd region.phases

ended_in_work : (layout : WordLayout) (work : Work) (i : ℕ) (event : Record) → IsSound layout work → IsJoined work → slice_get (work_records work) i ≡ Some event → event.kind ≡ Region
    → suc i < length (work_records work) → EndedRegion (work_records work) (work_regions work) i event
ended_in_work layout Rest i event sound all found is within = absurd (omega arith)
ended_in_work layout (Put r more) zero event sound all found is within = absurd (sound.0.no_region (ap (λ (q : Record). q.kind) (same_Some (logged r) event found) ∙ is))
ended_in_work layout (Put r more) (suc i) event sound all found is within =
    let e = ended_in_work layout more i event sound.2 all found is (omega arith) in
    let none : region_count (r ∷ []) ≡ 0 = ap (λ (b : Bool). 0 + cond b 1 0) (other_kind r.kind sound.0.no_region) in
    let same : region_count (take i (work_records more)) ≡ region_count (r ∷ take i (work_records more)) = omega (arith, count_cons (λ (q : Record). is_region_kind q.kind) r (take i (work_records more))) in
    record { region = e.region; found = subst (λ (n : ℕ). slice_get (work_regions more) n ≡ Some e.region) same e.found; span_is = e.span_is; ends = e.ends }
ended_in_work layout (Fork line span phases more) zero event sound all found is within = at all.0 where
  at : (more ≡ Rest) ⊎ PhasesEnd phases → EndedRegion (work_records (Fork line span phases more)) (work_regions (Fork line span phases more)) 0 event
  at (inl none) = let empty : length (work_records more) ≡ 0 = ap (λ (w : Work). length (work_records w)) none in absurd (omega arith)
  at (inr ends) = record { region = record { span = span; phases = phases }; found = refl; span_is = ap (λ (q : Record). q.value) (sym (same_Some (fork_record line span) event found)); ends = ends }
ended_in_work layout (Fork line span phases more) (suc i) event sound all found is within =
    let e = ended_in_work layout more i event sound.1 all.2 found is (omega arith) in
    let same : suc (region_count (take i (work_records more))) ≡ region_count (fork_record line span ∷ take i (work_records more))
    = omega (arith, count_cons (λ (q : Record). is_region_kind q.kind) (fork_record line span) (take i (work_records more))) in
    record {
      region = e.region;
      found = subst (λ (n : ℕ). slice_get (record { span = span; phases = phases } ∷ work_regions more) n ≡ Some e.region) same e.found;
      span_is = e.span_is;
      ends = e.ends;
    }

-- as many regions as records of them
pub count_regions : (layout : WordLayout) (work : Work) → IsSound layout work → region_count (work_records work) ≡ length (work_regions work)
count_regions layout Rest sound = refl
count_regions layout (Put r more) sound =
    let none : region_count (r ∷ []) ≡ 0 = ap (λ (b : Bool). 0 + cond b 1 0) (other_kind r.kind sound.0.no_region) in
    let rest = count_regions layout more sound.2 in
    omega (arith, count_cons (λ (q : Record). is_region_kind q.kind) r (work_records more))
count_regions layout (Fork line span phases more) sound =
    let rest = count_regions layout more sound.1 in
    omega (arith, count_cons (λ (q : Record). is_region_kind q.kind) (fork_record line span) (work_records more))

ended_in_works : (layout : WordLayout) (works : List Work) (i : ℕ) (event : Record) → AreSound layout works → AreJoined works → ButLastPass works → slice_get (flat_map work_records works) i ≡ Some event → event.kind ≡ Region
    → suc i < length (flat_map work_records works) → EndedRegion (flat_map work_records works) (flat_map work_regions works) i event
ended_in_works layout [] i event sound all pass found is within = absurd (omega arith)
ended_in_works layout (work ∷ works) i event sound all pass found is within =
    at (get_either (work_records work) (flat_map work_records works) i event found)
    (λ (m : ℕ) there more. ended_in_works layout works m event sound.1 all.1 (tail works pass) there is more)
  where
    tail : (ws : List Work) → ButLastPass (work ∷ ws) → ButLastPass ws
    tail [] p = tt
    tail (w ∷ ws) p = p.1

    size : length (flat_map work_records (work ∷ works)) ≡ length (work_records work) + length (flat_map work_records works)
    size = length-append (work_records work) (flat_map work_records works)

    first_get : (xs ys : List RegionWork) (n : ℕ) (x : RegionWork) → slice_get xs n ≡ Some x → slice_get (xs ++ ys) n ≡ Some x
    first_get [] ys n x here = cc
    first_get (y ∷ xs) ys zero x here = here
    first_get (y ∷ xs) ys (suc n) x here = first_get xs ys n x here

    -- a region isn't the last of a work that another follows
    not_last : (ws : List Work) → ButLastPass (work ∷ ws) → 0 < length (flat_map work_records ws) → slice_get (work_records work) i ≡ Some event → suc i ≡ length (work_records work) → ⊥
    not_last [] p more here last = omega arith
    not_last (w ∷ ws) p more here last =
        let none = none_before_last layout work i sound.0 (omega arith) in
        let parts : barrier_count (work_records work) ≡ barrier_count (take i (work_records work)) + barrier_count (event ∷ [])
        = ap (λ (rs : List Record). barrier_count rs) (last_of (work_records work) i event here last) ∙ barriers_both (take i (work_records work)) (event ∷ []) in
        let other : barrier_count (event ∷ []) ≡ 0 = ap (λ (k : Kind). 0 + cond (is_barrier_kind k) 1 0) is in
        omega (arith, p.0)

    at : (slice_get (work_records work) i ≡ Some event) ⊎ ((m : ℕ) × (i ≡ length (work_records work) + m) × (slice_get (flat_map work_records works) m ≡ Some event))
        → ((m : ℕ) → slice_get (flat_map work_records works) m ≡ Some event → suc m < length (flat_map work_records works) → EndedRegion (flat_map work_records works) (flat_map work_regions works) m event)
        → EndedRegion (flat_map work_records (work ∷ works)) (flat_map work_regions (work ∷ works)) i event
    at (inl here) later = by_place (cases_lt (suc i) (length (work_records work))) where
      inside : i < length (work_records work)
      inside = slice_get_within (work_records work) i event here

      by_place : (suc i < length (work_records work)) ⊎ (length (work_records work) ≤ suc i) → EndedRegion (flat_map work_records (work ∷ works)) (flat_map work_regions (work ∷ works)) i event
      by_place (inr last) = absurd (not_last works pass (omega (arith, size, inside)) here (omega (arith, inside)))
      by_place (inl less) =
          let e = ended_in_work layout work i event sound.0 all.0 here is less in
          let same : region_count (take i (work_records work)) ≡ region_count (take i (work_records work ++ flat_map work_records works))
          = ap (λ (rs : List Record). region_count rs) (sym (take-append-le i (work_records work) (flat_map work_records works) (omega arith))) in
          record {
            region = e.region;
            found = subst (λ (n : ℕ). slice_get (work_regions work ++ flat_map work_regions works) n ≡ Some e.region) same (first_get (work_regions work) (flat_map work_regions works) _ e.region e.found);
            span_is = e.span_is;
            ends = e.ends;
          }
    at (inr (m, i_is, there)) later =
        let e = later m there (omega (arith, size)) in
        let same : length (work_regions work) + region_count (take m (flat_map work_records works)) ≡ region_count (take i (work_records work ++ flat_map work_records works))
        = ap (λ (n : ℕ). n + region_count (take m (flat_map work_records works))) (sym (count_regions layout work sound.0))
        ∙ sym (sum_by-append (λ (r : Record). cond (is_region_kind r.kind) 1 0) (work_records work) (take m (flat_map work_records works)))
        ∙ ap (λ (rs : List Record). region_count rs) (sym (take_past (work_records work) (flat_map work_records works) m))
        ∙ ap (λ (n : ℕ). region_count (take n (work_records work ++ flat_map work_records works))) (sym i_is) in
        record {
          region = e.region;
          found = subst (λ (n : ℕ). slice_get (work_regions work ++ flat_map work_regions works) n ≡ Some e.region) same (get_right (work_regions work) (flat_map work_regions works) _ ∙ e.found);
          span_is = e.span_is;
          ends = e.ends;
        }

-- a lane of phases that end
pub ends_behind : (xs ys : List Record) → LastIsEnd ys → LastIsEnd (xs ++ ys)
ends_behind xs ys e = record { prefix = xs ++ e.prefix; last = e.last; parts = ap (λ (rs : List Record). xs ++ rs) e.parts ∙ sym (append_assoc xs e.prefix (e.last ∷ [])); ends = e.ends }

team_ends : (lane : ℕ) (team : TeamWork) → lane < lane_count_of team → TeamEnds team → LastIsEnd (flat_map work_records (work_at lane team))
team_ends lane NoWork less ends = absurd (omega arith)
team_ends zero (Beside work others) less ends = subst (λ (rs : List Record). LastIsEnd rs) (sym (append-nil (work_records work))) ends.0
team_ends (suc lane) (Beside work others) less ends = team_ends lane others (omega arith) ends.1

pub lane_ends : (layout : WordLayout) (span lane : ℕ) (phases : Phases) → ArePhasesSound layout span phases → lane < span → PhasesEnd phases → LastIsEnd (flat_map work_records (lane_works lane phases))
lane_ends layout span lane NoPhase sound less ends = absurd ends
lane_ends layout span lane (Phase team NoPhase) sound less ends =
    subst (λ (ws : List Work). LastIsEnd (flat_map work_records ws)) (sym (append-nil (work_at lane team))) (team_ends lane team (omega (arith, sound.0)) ends)
lane_ends layout span lane (Phase team (Phase next later)) sound less ends =
    subst (λ (rs : List Record). LastIsEnd rs) (sym (flat_map-append work_records (work_at lane team) (lane_works lane (Phase next later))))
    (ends_behind (flat_map work_records (work_at lane team)) (flat_map work_records (lane_works lane (Phase next later))) (lane_ends layout span lane (Phase next later) sound.3 less ends))

pub lanes_end : (layout : WordLayout) (root : Work) (fork : Node) (lane span : ℕ) (path : List Step) → IsSound layout root → IsJoined root → IsLane (task_logs root) fork lane span path
    → IsThere (task_logs root) (record { path = fork.path; index = fork.index + 1 }) → LastIsEnd (task_logs root path)
lanes_end layout root fork lane span path sound all is more =
    subst (λ (rs : List Record). LastIsEnd rs) (sym log_is) (lane_ends layout span lane e.region.phases (subst (λ (n : ℕ). ArePhasesSound layout n e.region.phases) region_span phases_sound) is.in_span e.ends)
  where
    works : List Work
    works = works_of root fork.path

    works_sound : AreSound layout works
    works_sound = sound_works_under layout (root ∷ []) fork.path (sound, tt)

    both : AreJoined works × ButLastPass works
    both = down layout (root ∷ []) fork.path (sound, tt) (all, tt) tt

    e : EndedRegion (task_logs root fork.path) (flat_map work_regions works) fork.index is.event
    e = ended_in_works layout works fork.index is.event works_sound both.0 both.1 is.found is.region (omega arith)

    region_span : e.region.span ≡ span
    region_span = sym e.span_is ∙ is.spans

    phases_sound : ArePhasesSound layout e.region.span e.region.phases
    phases_sound = sound_regions layout works (regions_before (task_logs root) fork) e.region works_sound e.found

    log_is : task_logs root path ≡ flat_map work_records (lane_works lane e.region.phases)
    log_is =
        ap (λ (p : List Step). task_logs root p) is.child
        ∙ ap (λ (n : ℕ). task_logs root (lane_of fork.path (regions_before (task_logs root) fork) lane n)) (sym region_span)
        ∙ ap (λ (ws : List Work). flat_map work_records ws) (works_lane root fork.path (record { region = regions_before (task_logs root) fork; lane = lane; span = e.region.span }) ∙ lane_is works e.region (regions_before (task_logs root) fork) lane e.found)
