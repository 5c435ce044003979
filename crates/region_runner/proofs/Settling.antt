-- What a region answers for its lanes: how it ends, and the logs that it hands on.
use Rattle.std.proofs.Common.{◌≡◌, ◌⊎◌, inl, inr, refl, ap, sym, ◌∙◌, subst, ℕ, ◌+◌, ◌<◌, Bool, true, false, List, [], ◌∷◌, ◌++◌, Option, Some, None, arith}
use Rattle.std.proofs.lemmas.Bool.{cases_eq}
use Rattle.std.proofs.lemmas.List.{append-nil}
use Rattle.sw_base.specs.declared.path.Step.{Step}
use Rattle.sw_base.specs.declared.trouble.Trouble.{Trouble}
use Rattle.sw_base.specs.declared.trouble.Trouble.TheVariants.{Memory}
use Rattle.race_model.specs.Listing.{lane_of}
use Rattle.kernel_syntax.specs.declared.syntax.Array.{Array}
use Rattle.kernel_model.specs.State.{Fork}
use Rattle.history_model.specs.Work.{Phases, lane_works}
use Rattle.history_model.specs.Joined.{PhasesEnd}
use Rattle.lane_runner.specs.declared.stop.Halt.{Halt}
use Rattle.lane_runner.specs.declared.stop.Halt.TheVariants as halt
use Rattle.lane_runner.specs.declared.stop.Stop.{Stop}
use Rattle.lane_runner.specs.declared.stop.Stop.TheVariants as stop
use Rattle.lane_runner.specs.Forking.{Answer, EndsAs, stop_in}
use Rattle.lane_runner.specs.Handed.{HandedEntry, LogPlace, MaybeStop, IsForMemory, IsTrouble, MayLack, TaskHands, TellStop, HandsOn}
use Rattle.execution_model.specs.Runs.{lane_begin, works_log}
use Rattle.std.proofs.lemmas.Option.{same_Some}
use Rattle.lane_runner.specs.Stopping.{GoesFurther, IsLeastLane, IsNoTrouble, StopsRegion}
use Rattle.lane_runner.proofs.Handing.{tell_none}
use Rattle.lane_runner.specs.Lane.{stop_of}
use Rattle.region_runner.specs.Gathering.{ClosedValue, GoesBefore, LaneGave, HasMemory, IsAnswer, closed_stop, kept_by, lane_stop, region_stop}
use Rattle.region_runner.specs.Stopping.{StopsTask}
use Rattle.region_runner.specs.Team.{handed_by}
use Rattle.region_runner.proofs.RegionStops.{region_stops}
use Rattle.region_runner.proofs.RegionHands.{region_hands, lanes_apart, lacks_for_another}
use Rattle.region_runner.proofs.LaneStops.{InLane, IsPart, StoppedAs, in_lane, lane_given, lane_missing, lane_part, lane_tells, own_trouble, refused_failed, region_found, region_is, stopped_as, tell_part, tells_none}

-- ---- a region

module _ (place : LogPlace) (arrays : List Array) (at : List Step) (number : ℕ) (fork : Fork) (phases : Phases) (lanes : ℕ → ClosedValue) (kept : ℕ → Bool)
    (paths : (k : ℕ) → k < fork.team.span → (lanes k).path ≡ lane_of at number k fork.team.span) (gave : (k : ℕ) → k < fork.team.span → LaneGave place (lane_works k phases) (lanes k))
    (halts : (k : ℕ) (h : Halt) → k < fork.team.span → (lanes k).halt ≡ Some h → StopsTask arrays (lanes k).path (stop_of (lanes k).path h).0 (stop_of (lanes k).path h).1 (lane_begin fork k) (lane_works k phases))
    (further : (j k : ℕ) → j < fork.team.span → k < fork.team.span → (lanes j).halt ≡ None → (h : Halt) → (lanes k).halt ≡ Some h → GoesFurther (works_log (lane_works j phases)) (works_log (lane_works k phases))) where
  abbrev handed : ℕ → List HandedEntry
  handed k = kept_by (kept k) (lanes k)

  abbrev LaneHands : MaybeStop → ℕ → List HandedEntry → Type 0
  LaneHands s k es = TaskHands place s (lane_of at number k fork.team.span) (lane_works k phases) es

  -- a lane whose log refused
  log_stops : (k : ℕ) → k < fork.team.span → (path : List Step) (trouble : Trouble) → path ≡ (lanes k).path → StopsRegion arrays at number path (stop.Trouble trouble) fork phases
  log_stops k less path trouble own = record {
    inside = record { lane = k; below = []; path_is = own ∙ paths k less };
    traced = λ program same end told. absurd cc;
    crowded = λ line told. absurd cc;
    least = λ other. absurd other;
  }

  lane_stops : (k : ℕ) → k < fork.team.span → (path : List Step) (why : Stop) → StoppedAs (lanes k) path why → (IsNoTrouble why → IsLeastLane phases k) → StopsRegion arrays at number path why fork phases
  lane_stops k less path why (StoppedAs.by_region is) least = region_stops fork k less phases at number (lanes k).path (paths k less) arrays path why (halts k (halt.Region path why) less is) least
  lane_stops k less path why (StoppedAs.by_itself h halt_is none own is) least =
      subst (λ (s : List Step × Stop). (IsNoTrouble s.1 → IsLeastLane phases k) → StopsRegion arrays at number s.0 s.1 fork phases) is
      (region_stops fork k less phases at number (lanes k).path (paths k less) arrays (stop_of (lanes k).path h).0 (stop_of (lanes k).path h).1 (halts k h less halt_is)) least
  lane_stops k less path why (StoppedAs.by_log trouble refused own is) least = subst (λ (w : Stop). StopsRegion arrays at number path w fork phases) (sym is) (log_stops k less path trouble own)

  -- the logs of a lane that found a place
  kept_hands : (s : MaybeStop) (k : ℕ) → k < fork.team.span → kept k ≡ true → ((trouble : Trouble) → (lanes k).refused ≡ Some trouble → MayLack s (lanes k).path (lanes k).own.faults)
      → (IsForMemory (region_stop (lanes k).halt) → IsForMemory s) → ((rest : List Step) (faults : ℕ) → MayLack (region_stop (lanes k).halt) ((lanes k).path ++ rest) faults → MayLack s ((lanes k).path ++ rest) faults)
      → LaneHands s k (handed k)
  kept_hands s k less is lacks memory too =
      subst (λ (b : Bool). LaneHands s k (kept_by b (lanes k))) (sym is)
      (subst (λ (p : List Step). TaskHands place s p (lane_works k phases) ((lanes k).own ∷ (lanes k).below)) (paths k less)
      (lane_given place s (lane_works k phases) (lanes k) (gave k less) lacks memory too))

  -- where each lane ended
  ended_hands : (k : ℕ) → k < fork.team.span → (lanes k).halt ≡ None → (lanes k).refused ≡ None → kept k ≡ true → LaneHands None k (handed k)
  ended_hands k less ended unrefused is =
      kept_hands None k less is (λ trouble told. absurd (refuses trouble (sym unrefused ∙ told))) (λ none. subst (λ (h : Option Halt). IsForMemory (region_stop h)) ended none)
      (λ rest faults none. subst (λ (h : Option Halt). MayLack (region_stop h) ((lanes k).path ++ rest) faults) ended none)
    where
      refuses : (trouble : Trouble) → None ≡ Some trouble → ⊥
      refuses trouble e = cc

  -- where no memory was found
  wanted_hands : (path : List Step) (k : ℕ) → k < fork.team.span → LaneHands (Some (path, stop.Trouble Memory)) k (handed k)
  wanted_hands path k less = by (kept k) refl where
    by : (b : Bool) → kept k ≡ b → LaneHands (Some (path, stop.Trouble Memory)) k (handed k)
    by true is = kept_hands (Some (path, stop.Trouble Memory)) k less is (λ trouble told. inl refl) (λ none. refl) (λ rest faults none. inl refl)
    by false is =
        subst (λ (b : Bool). LaneHands (Some (path, stop.Trouble Memory)) k (kept_by b (lanes k))) (sym is)
        (subst (λ (p : List Step). TaskHands place (Some (path, stop.Trouble Memory)) p (lane_works k phases) []) (paths k less)
        (lane_missing place (Some (path, stop.Trouble Memory)) (lane_works k phases) (lanes k) (gave k less) refl))

  -- where a lane stopped, and memory was found for each
  module _ (k : ℕ) (less : k < fork.team.span) (path : List Step) (why : Stop) (is : closed_stop (lanes k) ≡ Some (path, why)) (found : (j : ℕ) → j < fork.team.span → HasMemory (lanes j) (kept j)) where
    here : InLane place (lane_works k phases) (lanes k) (gave k less) path why
    here = in_lane place (lane_works k phases) (lanes k) (gave k less) path why (stopped_as (lanes k) path why is)

    here_is : path ≡ lane_of at number k fork.team.span ++ here.rest
    here_is = here.is ∙ ap (λ (p : List Step). p ++ here.rest) (paths k less)

    -- the lane itself, or another
    own_lacks : (j : ℕ) → j < fork.team.span → (j ≡ k) ⊎ (j ≡ k → ⊥) → (trouble : Trouble) → (lanes j).refused ≡ Some trouble → MayLack (Some (path, why)) (lanes j).path (lanes j).own.faults
    own_lacks j within which trouble refused = inr (faulty, by which) where
      faulty : 0 < (lanes j).own.faults
      faulty = (gave j within).failed (refused ∙ ap (λ (t : Trouble). Some t) (refused_failed (lanes j) (found j within).0 trouble refused))

      by : (j ≡ k) ⊎ (j ≡ k → ⊥) → (lanes j).path ≡ path → IsTrouble why
      by (inl same) own =
          own_trouble place (lane_works k phases) (lanes k) (gave k less) path why (stopped_as (lanes k) path why is) trouble
          (subst (λ (i : ℕ). (lanes i).refused ≡ Some trouble) same refused) (subst (λ (i : ℕ). (lanes i).path ≡ path) same own)
      by (inr other) own = absurd (other (lanes_apart at number j k fork.team.span [] here.rest (append-nil (lane_of at number j fork.team.span) ∙ sym (paths j within) ∙ own ∙ here_is)))

    -- below them
    below_lacks : (j : ℕ) → j < fork.team.span → (j ≡ k) ⊎ (j ≡ k → ⊥) → (h : Option Halt) → (lanes j).halt ≡ h → (rest : List Step) (faults : ℕ)
        → MayLack (region_stop h) ((lanes j).path ++ rest) faults → MayLack (Some (path, why)) ((lanes j).path ++ rest) faults
    below_lacks j within (inl same) (Some (halt.Region p w)) h_is rest faults lacks =
        subst (λ (s : MaybeStop). MayLack s ((lanes j).path ++ rest) faults)
        (sym (region_is (lanes j) (found j within).0 p w h_is) ∙ ap (λ (i : ℕ). closed_stop (lanes i)) same ∙ is) lacks
    below_lacks j within (inr other) (Some (halt.Region p w)) h_is rest faults lacks =
        lacks_for_another at number k j fork.team.span here.rest path w why (λ same. other (sym same)) here_is (λ none. absurd (region_found (lanes j) (found j within).0 p w h_is none))
        (lanes j).path p rest faults (paths j within) lacks
    below_lacks j within which _ h_is rest faults lacks = absurd lacks

    no_memory : (j : ℕ) → j < fork.team.span → (h : Option Halt) → (lanes j).halt ≡ h → IsForMemory (region_stop h) → IsForMemory (Some (path, why))
    no_memory j within (Some (halt.Region p w)) h_is none = absurd (region_found (lanes j) (found j within).0 p w h_is none)
    no_memory j within _ h_is none = absurd none

    stopped_hands : (j : ℕ) → j < fork.team.span → LaneHands (Some (path, why)) j (handed j)
    stopped_hands j within =
        kept_hands (Some (path, why)) j within (found j within).1 (own_lacks j within (cases_eq j k)) (no_memory j within (lanes j).halt refl)
        (below_lacks j within (cases_eq j k) (lanes j).halt refl)

    stopped_tells : TellStop (Some (path, why)) (handed_by handed 0 fork.team.span)
    stopped_tells =
        tell_part (Some (path, why)) (handed k) (handed_by handed 0 fork.team.span)
        (subst (λ (n : ℕ). IsPart (handed n) (handed_by handed 0 fork.team.span)) (let e : 0 + k ≡ k = omega arith in e) (lane_part handed 0 fork.team.span k less))
        (subst (λ (b : Bool). TellStop (Some (path, why)) (kept_by b (lanes k))) (sym (found k less).1)
        (lane_tells place (lane_works k phases) (lanes k) (gave k less) path why (stopped_as (lanes k) path why is)))

  -- each smaller lane than one that stopped went further, where its stop goes before theirs
  least_lane : (k : ℕ) → k < fork.team.span → (path : List Step) (why : Stop) → closed_stop (lanes k) ≡ Some (path, why) → ((j : ℕ) → j < fork.team.span → GoesBefore k (lanes k) j (lanes j)) → IsNoTrouble why → IsLeastLane phases k
  least_lane k less path why is goes other j smaller = by (lanes k).halt refl where
    no_stop : {h : Halt} → None ≡ Some h → ⊥
    no_stop e = cc

    in_trouble : (r : Option Trouble) → lane_stop (lanes k).path None r ≡ Some (path, why) → ⊥
    in_trouble None told = cc
    in_trouble (Some trouble) told = subst (λ (w : Stop). IsNoTrouble w) (ap (λ (s : List Step × Stop). s.1) (sym (same_Some ((lanes k).path, stop.Trouble trouble) (path, why) told))) other

    by : (h : Option Halt) → (lanes k).halt ≡ h → GoesFurther (works_log (lane_works j phases)) (works_log (lane_works k phases))
    by None h_is = absurd (in_trouble (lanes k).refused (ap (λ (h : Option Halt). lane_stop (lanes k).path h (lanes k).refused) (sym h_is) ∙ is))
    by (Some h) h_is = of_both (goes j (omega (arith, smaller, less))) where
      of_both : GoesBefore k (lanes k) j (lanes j) → GoesFurther (works_log (lane_works j phases)) (works_log (lane_works k phases))
      of_both (inl (some, inl none)) = further j k (omega (arith, smaller, less)) less none h h_is
      of_both (inl (some, inr past)) = absurd (omega (arith, smaller, past))
      of_both (inr (none, others, rest)) = absurd (no_stop (sym none ∙ h_is))

  -- what a region answers is how it ends, and its lanes' logs are handed on
  pub settles : (before : List HandedEntry) (r : Answer) → (((k : ℕ) → k < fork.team.span → ((lanes k).halt ≡ None) × ((lanes k).refused ≡ None)) → PhasesEnd phases) → IsAnswer fork.team.span lanes kept r
      → EndsAs arrays at number fork phases r × HandsOn place (stop_in r) at number (record { span = fork.team.span; phases = phases } ∷ []) before (before ++ handed_by (λ k. kept_by (kept k) (lanes k)) 0 fork.team.span)
  settles before _ ends (IsAnswer.all_ended all) = (
    ends (λ k less. ((all k less).0, (all k less).1)),
    region_hands place None at number fork.team.span phases handed before (λ k less. ended_hands k less (all k less).0 (all k less).1 (all k less).2) (tell_none (handed_by handed 0 fork.team.span)),
  )
  settles before _ ends (IsAnswer.wanted k path less where_is found) = (
    by where_is,
    region_hands place (Some (path, stop.Trouble Memory)) at number fork.team.span phases handed before (wanted_hands path) (tells_none path (stop.Trouble Memory) (handed_by handed 0 fork.team.span) (λ e. cc) (λ line e. cc)),
  )
    where
      by : (closed_stop (lanes k) ≡ Some (path, stop.Trouble Memory)) ⊎ ((path ≡ (lanes k).path) × (kept k ≡ false)) → StopsRegion arrays at number path (stop.Trouble Memory) fork phases
      by (inl is) = lane_stops k less path (stop.Trouble Memory) (stopped_as (lanes k) path (stop.Trouble Memory) is) (λ other. absurd other)
      by (inr own) = log_stops k less path Memory own.0
  settles before _ ends (IsAnswer.stopped k path why less is found goes) = (
    lane_stops k less path why (stopped_as (lanes k) path why is) (least_lane k less path why is goes),
    region_hands place (Some (path, why)) at number fork.team.span phases handed before (stopped_hands k less path why is found) (stopped_tells k less path why is found),
  )
