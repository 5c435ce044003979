-- The logs of the root and of all tasks below it, and what the run answers.
use Rattle.std.proofs.Common.{◌≡◌, ◌⊎◌, inl, inr, refl, ap, sym, ◌∙◌, subst, ℕ, Bool, true, false, List, [], ◌∷◌, ◌++◌, Option, Some, None, Ok, Err, arith, true≢false}
use Rattle.sw_base.specs.declared.path.Step.{Step}
use Rattle.sw_base.specs.declared.trouble.Trouble.{Trouble}
use Rattle.sw_base.specs.declared.trouble.Trouble.TheVariants.{Memory}
use Rattle.kernel_syntax.specs.Program.{Program}
use Rattle.shared_words.specs.declared.view.View.{View}
use Rattle.shared_words.specs.Handles.{HandValue}
use Rattle.history_model.specs.Work.{Rest}
use Rattle.lane_runner.specs.declared.stop.Halt.{Halt}
use Rattle.lane_runner.specs.declared.stop.Halt.TheVariants as halt
use Rattle.lane_runner.specs.declared.stop.Stop.{Stop}
use Rattle.lane_runner.specs.declared.stop.Stop.TheVariants as stop
use Rattle.lane_runner.specs.Forking.{Answer}
use Rattle.lane_runner.specs.Handed.{HandedEntry, IsForMemory, LogPlace, MaybeStop, MayLack, RegionsHand, TaskHands, TellStop}
use Rattle.lane_runner.proofs.Handing.{tell_none}
use Rattle.lane_runner.specs.Lane.{stop_of}
use Rattle.region_runner.specs.Gathering.{ClosedValue, IsGathered, WantsMemory, answer_for, closed_stop, kept_by, lane_stop, region_stop}
use Rattle.region_runner.specs.Root.{IsSettled, RanRoot, RootGave, RootRests, SettledRoot, StopsRoot}
use Rattle.region_runner.specs.declared.gathering.Verdict.{Verdict}
use Rattle.region_runner.specs.declared.gathering.Verdict.TheVariants as verdict
use Rattle.region_runner.proofs.LaneStops.{StoppedAs, lane_given, lane_missing, lane_tells, own_trouble, refused_failed, region_found, region_is, stopped_as, tells_none}
use Rattle.region_runner.proofs.RootTask.{did_nothing, runs_nothing}

-- what runs answer
abbrev err : List Step × Stop → Answer
err at = Err at

abbrev ok : Answer
ok = Ok tt

no_end : {P : Type 0} (at : List Step × Stop) → err at ≡ ok → P
no_end at e = absurd cc

stopped_one : (one other : List Step × Stop) → err one ≡ err other → one ≡ other
stopped_one one other e = cc

module _ (program : Program) (place : LogPlace) (old new : HandValue View) (c : ClosedValue) (g : RootGave program place old new c) where
  abbrev Hands : MaybeStop → List HandedEntry → Type 0
  Hands s es = TaskHands place s [] (g.work ∷ []) es

  at_root : (s : MaybeStop) (es : List HandedEntry) → TaskHands place s c.path (g.work ∷ []) es → Hands s es
  at_root s es hands = subst (λ (p : List Step). TaskHands place s p (g.work ∷ []) es) g.path_is hands

  -- how it stopped
  abbrev Stops : List Step → Stop → Type 0
  Stops path why = StopsRoot program path why g.work

  log_stops : (path : List Step) (trouble : Trouble) → path ≡ c.path → Stops path (stop.Trouble trouble)
  log_stops path trouble own = record {
    at = record { rest = []; path_is = own ∙ g.path_is };
    traced = λ other same end told. absurd cc;
    crowded = λ line told. absurd cc;
    least = λ other. absurd other;
  }

  stops : (path : List Step) (why : Stop) → StoppedAs c path why → Stops path why
  stops path why (StoppedAs.by_region is) = g.halts (halt.Region path why) is
  stops path why (StoppedAs.by_itself h halt_is none own is) =
      subst (λ (s : List Step × Stop). Stops s.0 s.1) (ap (λ (p : List Step). stop_of p h) (sym g.path_is) ∙ is) (g.halts h halt_is)
  stops path why (StoppedAs.by_log trouble refused own is) = subst (λ (w : Stop). Stops path w) (sym is) (log_stops path trouble own)

  -- ---- it ended

  ended_hands : c.halt ≡ None → c.refused ≡ None → Hands None (c.own ∷ c.below)
  ended_hands ended unrefused =
      at_root None (c.own ∷ c.below)
      (lane_given place None (g.work ∷ []) c g.gave (λ trouble told. absurd (refuses trouble (sym unrefused ∙ told))) (λ none. subst (λ (h : Option Halt). IsForMemory (region_stop h)) ended none)
      (λ rest faults none. subst (λ (h : Option Halt). MayLack (region_stop h) (c.path ++ rest) faults) ended none))
    where
      refuses : (trouble : Trouble) → None ≡ Some trouble → ⊥
      refuses trouble e = cc

  -- ---- no memory was found

  wanted_hands : (path : List Step) (kept : Bool) → Hands (Some (path, stop.Trouble Memory)) (kept_by kept c)
  wanted_hands path true =
      at_root (Some (path, stop.Trouble Memory)) (c.own ∷ c.below)
      (lane_given place (Some (path, stop.Trouble Memory)) (g.work ∷ []) c g.gave (λ trouble told. inl refl) (λ none. refl) (λ rest faults none. inl refl))
  wanted_hands path false = at_root (Some (path, stop.Trouble Memory)) [] (lane_missing place (Some (path, stop.Trouble Memory)) (g.work ∷ []) c g.gave refl)

  -- ---- it stopped otherwise

  module _ (path : List Step) (why : Stop) (is : closed_stop c ≡ Some (path, why)) (found : WantsMemory (closed_stop c) → ⊥) where
    own_lacks : (trouble : Trouble) → c.refused ≡ Some trouble → MayLack (Some (path, why)) c.path c.own.faults
    own_lacks trouble refused = inr (
      g.gave.failed (refused ∙ ap (λ (t : Trouble). Some t) (refused_failed c found trouble refused)),
      λ own. own_trouble place (g.work ∷ []) c g.gave path why (stopped_as c path why is) trouble refused own,
    )

    below_lacks : (h : Option Halt) → c.halt ≡ h → (rest : List Step) (faults : ℕ) → MayLack (region_stop h) (c.path ++ rest) faults → MayLack (Some (path, why)) (c.path ++ rest) faults
    below_lacks (Some (halt.Region p w)) h_is rest faults lacks = subst (λ (s : MaybeStop). MayLack s (c.path ++ rest) faults) (sym (region_is c found p w h_is) ∙ is) lacks
    below_lacks _ h_is rest faults lacks = absurd lacks

    no_memory : (h : Option Halt) → c.halt ≡ h → IsForMemory (region_stop h) → IsForMemory (Some (path, why))
    no_memory (Some (halt.Region p w)) h_is none = absurd (region_found c found p w h_is none)
    no_memory _ h_is none = absurd none

    stopped_hands : Hands (Some (path, why)) (c.own ∷ c.below)
    stopped_hands =
        at_root (Some (path, why)) (c.own ∷ c.below)
        (lane_given place (Some (path, why)) (g.work ∷ []) c g.gave own_lacks (no_memory c.halt refl) (below_lacks c.halt refl))

  -- ---- by what is answered

  abbrev Rests : List HandedEntry → Answer → Type 0
  Rests logs r = RootRests program place old new logs r

  ended : c.halt ≡ None → c.refused ≡ None → Rests (c.own ∷ c.below) (Ok tt)
  ended none unrefused = record {
    work = g.work;
    did = g.did;
    runs = g.runs;
    hands = ended_hands none unrefused;
    tell = tell_none (c.own ∷ c.below);
    ends = λ is. g.ends none unrefused;
    stops = λ path why is. absurd cc;
    few = λ is. let few = g.few none unrefused in omega (arith, few);
  }

  stopped : (logs : List HandedEntry) (at : List Step × Stop) → Hands (Some at) logs → TellStop (Some at) logs → Stops at.0 at.1 → Rests logs (Err at)
  stopped logs at hands tell it = record {
    work = g.work;
    did = g.did;
    runs = g.runs;
    hands = hands;
    tell = tell;
    ends = λ is. no_end at is;
    stops = λ path why is. subst (λ (s : List Step × Stop). Stops s.0 s.1) (stopped_one at (path, why) is) it;
    few = λ is. no_end at is;
  }

  halted : (path : List Step) (why : Stop) → (why ≡ stop.Trouble Memory → ⊥) → closed_stop c ≡ Some (path, why) → Rests (c.own ∷ c.below) (Err (path, why))
  halted path why other is =
      let found : WantsMemory (closed_stop c) → ⊥ = λ wants. other (subst (λ (s : MaybeStop). WantsMemory s) is wants) in
      let how = stopped_as c path why is in
      stopped (c.own ∷ c.below) (path, why) (stopped_hands path why is found) (lane_tells place (g.work ∷ []) c g.gave path why how) (stops path why how)

  wanted : (path : List Step) (kept : Bool) → (lane_stop c.path c.halt c.refused ≡ Some (path, stop.Trouble Memory)) ⊎ ((path ≡ c.path) × (kept ≡ false)) → Rests (kept_by kept c) (Err (path, stop.Trouble Memory))
  wanted path kept how = stopped (kept_by kept c) (path, stop.Trouble Memory) (wanted_hands path kept) (tells_none path (stop.Trouble Memory) (kept_by kept c) (λ e. cc) (λ line e. cc)) (by how) where
    by : (lane_stop c.path c.halt c.refused ≡ Some (path, stop.Trouble Memory)) ⊎ ((path ≡ c.path) × (kept ≡ false)) → Stops path (stop.Trouble Memory)
    by (inl is) = stops path (stop.Trouble Memory) (stopped_as c path (stop.Trouble Memory) is)
    by (inr is) = log_stops path Memory is.0

  settled_as : (kept : Bool) (v : Verdict) → IsGathered c.path c.halt c.refused kept v → Rests (kept_by kept c) (answer_for v)
  settled_as true verdict.Ended is = ended is.0 is.1
  settled_as true (verdict.Refused at why) is = halted at why is.1 is.3
  settled_as true (verdict.Halted at why) is = halted at why is.1 is.3
  settled_as false verdict.Ended is = absurd (true≢false (sym is.2))
  settled_as false (verdict.Refused at why) is = absurd (true≢false (sym is.2))
  settled_as false (verdict.Halted at why) is = absurd (true≢false (sym is.2))
  settled_as kept (verdict.Wanted at) is = wanted at kept is

  settled : (logs : List HandedEntry) (r : Answer) → SettledRoot c logs r → Rests logs r
  settled logs r s =
      subst (λ (x : Answer). Rests logs x) (sym s.answer)
      (subst (λ (es : List HandedEntry). Rests es (answer_for s.verdict)) (sym s.took.grows) (settled_as s.took.kept s.verdict s.took.verdict))

-- nothing was done
module _ (program : Program) (place : LogPlace) (hand : HandValue View) (there : hand.there ≡ true) where
  abbrev stopped_at : List Step × Stop
  stopped_at = ([], stop.Trouble Memory)

  no_stop : StopsRoot program [] (stop.Trouble Memory) Rest
  no_stop = record { at = record { rest = []; path_is = refl }; traced = λ other same end told. absurd cc; crowded = λ line told. absurd cc; least = λ other. absurd other }

  nothing_done : RootRests program place hand hand [] (Err stopped_at)
  nothing_done = record {
    work = Rest;
    did = did_nothing program.arrays hand there;
    runs = runs_nothing program;
    hands = TaskHands.missing [] (Rest ∷ []) [] refl (RegionsHand.no_region [] 0);
    tell = tells_none [] (stop.Trouble Memory) [] (λ e. cc) (λ line e. cc);
    ends = λ is. no_end stopped_at is;
    stops = λ path why is. subst (λ (s : List Step × Stop). StopsRoot program s.0 s.1 Rest) (stopped_one stopped_at (path, why) is) no_stop;
    few = λ is. no_end stopped_at is;
  }

-- the root ran, or no memory was found for it
pub root_rests : (program : Program) (place : LogPlace) (old new : HandValue View) (closed : Option ClosedValue) (logs : List HandedEntry) (r : Answer) → old.there ≡ true → RanRoot program place old new closed → IsSettled closed logs r
    → RootRests program place old new logs r
root_rests program place old new (Some c) logs r there g s = settled program place old new c g logs r s
root_rests program place old new None logs r there same (none, is) =
    subst (λ (x : Answer). RootRests program place old new logs x) (sym is)
    (subst (λ (es : List HandedEntry). RootRests program place old new es (Err ([], stop.Trouble Memory))) (sym none)
    (subst (λ (h : HandValue View). RootRests program place old h [] (Err ([], stop.Trouble Memory))) (sym same) (nothing_done program place old there)))
