-- How a task stopped whose log is closed, by what its logs tell.
use Rattle.std.proofs.Common.{◌≡◌, refl, ap, sym, ◌∙◌, subst, ℕ, zero, suc, ◌+◌, ◌<◌, List, [], ◌∷◌, ◌++◌, length, Option, Some, None, append_assoc, arith}
use Rattle.std.specs.Prelude.{All}
use Rattle.std.specs.List.{flat_map}
use Rattle.std.proofs.lemmas.List.{append-nil, length-append}
use Rattle.std.proofs.lemmas.List.Elements.{Contains-append_left}
use Rattle.std.proofs.lemmas.Option.{same_Some}
use Rattle.sw_base.specs.declared.path.Step.{Step}
use Rattle.sw_base.specs.declared.trouble.Trouble.{Trouble}
use Rattle.sw_base.specs.declared.trouble.Trouble.TheVariants.{Failed, Memory}
use Rattle.sw_base.specs.Environment.{Text}
use Rattle.sw_base.specs.Names.{IsUnder}
use Rattle.log_format.specs.declared.format.TheConstants.{FORMAT}
use Rattle.log_format.specs.Format.{log_header}
use Rattle.history_model.specs.Work.{Work, work_regions}
use Rattle.execution_model.specs.Runs.{works_log}
use Rattle.lane_runner.specs.declared.stop.Halt.{Halt}
use Rattle.lane_runner.specs.declared.stop.Halt.TheVariants as halt
use Rattle.lane_runner.specs.declared.stop.Stop.{Stop}
use Rattle.lane_runner.specs.declared.stop.Stop.TheVariants as stop
use Rattle.lane_runner.specs.Handed.{HandedEntry, LogPlace, MaybeStop, IsForMemory, IsTrouble, MayLack, KeepsRecords, IsEntryOf, TaskHands, RegionsHand, HasCrowdedTask, TellStop}
use Rattle.lane_runner.proofs.HandedTasks.{regions_under}
use Rattle.lane_runner.proofs.Handing.{regions_weaker, tell_later}
use Rattle.lane_runner.specs.Lane.{stop_of}
use Rattle.region_runner.specs.Closing.{HasTaken}
use Rattle.region_runner.specs.Gathering.{ClosedValue, LaneGave, WantsMemory, closed_stop, lane_stop, region_stop}
use Rattle.region_runner.specs.Team.{handed_by}
use Rattle.region_runner.proofs.MissingLogs.{hands_missing}

-- ---- how a lane stopped

-- in a region that it forked, by itself, or since its log refused what waited
pub data StoppedAs (c : ClosedValue) (path : List Step) (why : Stop) : Type 0 where
  by_region : c.halt ≡ Some (halt.Region path why) → StoppedAs c path why
  by_itself : (h : Halt) → c.halt ≡ Some h → c.refused ≡ None → path ≡ c.path → stop_of c.path h ≡ (path, why) → StoppedAs c path why
  by_log : (trouble : Trouble) → c.refused ≡ Some trouble → path ≡ c.path → why ≡ stop.Trouble trouble → StoppedAs c path why

abbrev IsStop : MaybeStop → List Step → Stop → Type 0
IsStop s path why = s ≡ Some (path, why)

path_of : (s : List Step × Stop) (path : List Step) (why : Stop) → IsStop (Some s) path why → path ≡ s.0
path_of s path why is = sym (ap (λ (p : List Step × Stop). p.0) (same_Some s (path, why) is))

why_of : (s : List Step × Stop) (path : List Step) (why : Stop) → IsStop (Some s) path why → why ≡ s.1
why_of s path why is = sym (ap (λ (p : List Step × Stop). p.1) (same_Some s (path, why) is))

pub stopped_as : (c : ClosedValue) (path : List Step) (why : Stop) → closed_stop c ≡ Some (path, why) → StoppedAs c path why
stopped_as c path why = by c.halt refl c.refused refl where
  at_region : (p : List Step) (w : Stop) → c.halt ≡ Some (halt.Region p w) → IsStop (Some (p, w)) path why → StoppedAs c path why
  at_region p w h_is is = StoppedAs.by_region (h_is ∙ ap (λ (s : List Step × Stop). Some (halt.Region s.0 s.1)) (same_Some (p, w) (path, why) is))

  itself : (h : Halt) → c.halt ≡ Some h → c.refused ≡ None → (stop_of c.path h).0 ≡ c.path → IsStop (Some (stop_of c.path h)) path why → StoppedAs c path why
  itself h h_is r_is own is = StoppedAs.by_itself h h_is r_is (path_of (stop_of c.path h) path why is ∙ own) (same_Some (stop_of c.path h) (path, why) is)

  at_log : (trouble : Trouble) → c.refused ≡ Some trouble → IsStop (Some (c.path, stop.Trouble trouble)) path why → StoppedAs c path why
  at_log trouble r_is is = StoppedAs.by_log trouble r_is (path_of (c.path, stop.Trouble trouble) path why is) (why_of (c.path, stop.Trouble trouble) path why is)

  by : (h : Option Halt) → c.halt ≡ h → (r : Option Trouble) → c.refused ≡ r → lane_stop c.path h r ≡ Some (path, why) → StoppedAs c path why
  by None h_is None r_is is = absurd cc
  by (Some (halt.Region p w)) h_is None r_is is = at_region p w h_is is
  by (Some (halt.Region p w)) h_is (Some Failed) r_is is = at_region p w h_is is
  by (Some h) h_is None r_is is = itself h h_is r_is refl is
  by _ h_is (Some trouble) r_is is = at_log trouble r_is is

-- ---- a lane for which memory was found

wants_log : (path : List Step) (h : Option Halt) → WantsMemory (lane_stop path h (Some Memory))
wants_log path None = refl
wants_log path (Some (halt.Region p w)) = refl
wants_log path (Some h) = refl

module _ (c : ClosedValue) (found : WantsMemory (closed_stop c) → ⊥) where
  -- its log refused only for a fault
  pub refused_failed : (trouble : Trouble) → c.refused ≡ Some trouble → trouble ≡ Failed
  refused_failed Failed is = refl
  refused_failed Memory is = absurd (found (subst (λ (r : Option Trouble). WantsMemory (lane_stop c.path c.halt r)) (sym is) (wants_log c.path c.halt)))

  -- the stop of a region that it forked is its own
  pub region_is : (path : List Step) (why : Stop) → c.halt ≡ Some (halt.Region path why) → closed_stop c ≡ Some (path, why)
  region_is path why is = by c.refused refl where
    at_halt : (r : Option Trouble) → c.refused ≡ r → lane_stop c.path (Some (halt.Region path why)) r ≡ Some (path, why) → closed_stop c ≡ Some (path, why)
    at_halt r r_is told = ap (λ (h : Option Halt). lane_stop c.path h c.refused) is ∙ ap (λ (x : Option Trouble). lane_stop c.path (Some (halt.Region path why)) x) r_is ∙ told

    by : (r : Option Trouble) → c.refused ≡ r → closed_stop c ≡ Some (path, why)
    by None r_is = at_halt None r_is refl
    by (Some Failed) r_is = at_halt (Some Failed) r_is refl
    by (Some Memory) r_is = absurd (no_memory (refused_failed Memory r_is)) where
      no_memory : Memory ≡ Failed → ⊥
      no_memory e = cc

  pub region_found : (path : List Step) (why : Stop) → c.halt ≡ Some (halt.Region path why) → why ≡ stop.Trouble Memory → ⊥
  region_found path why is none = found (subst (λ (s : MaybeStop). WantsMemory s) (sym (region_is path why is)) none)

-- ---- the logs of a lane

module _ (place : LogPlace) (stop : MaybeStop) (works : List Work) (c : ClosedValue) (gave : LaneGave place works c) where
  below_hand : RegionsHand place (region_stop c.halt) c.path 0 (flat_map work_regions works) c.below
  below_hand = subst (λ (es : List HandedEntry). RegionsHand place (region_stop c.halt) c.path 0 (flat_map work_regions works) es) (sym gave.hands.grows) gave.hands.hands

  own_entry : ((trouble : Trouble) → c.refused ≡ Some trouble → MayLack stop c.path c.own.faults) → IsEntryOf place stop c.path (works_log works) c.own
  own_entry lacks = record { task = gave.task; dir = gave.dir; own = gave.own_path; tells = gave.tells; count = gave.count; keeps = λ text told. by c.refused refl text (gave.taken text told); faultless = λ ended. gave.faultless (unrefused ended c.refused refl) } where
    by : (r : Option Trouble) → c.refused ≡ r → (text : Text) → HasTaken r (log_header FORMAT) (works_log works) place.size text → KeepsRecords stop c.path (works_log works) place.size c.own.faults text
    by None is text all = KeepsRecords.whole all
    by (Some trouble) is text prefix = KeepsRecords.torn (lacks trouble is) prefix

    unrefused : stop ≡ None → (r : Option Trouble) → c.refused ≡ r → r ≡ None
    unrefused ended None is = refl
    unrefused ended (Some trouble) is = absurd (subst (λ (s : MaybeStop). MayLack s c.path c.own.faults) ended (lacks trouble is))

  -- they are there, and what may lack in them may in a region that stopped so
  pub lane_given : ((trouble : Trouble) → c.refused ≡ Some trouble → MayLack stop c.path c.own.faults) → (IsForMemory (region_stop c.halt) → IsForMemory stop)
      → ((rest : List Step) (faults : ℕ) → MayLack (region_stop c.halt) (c.path ++ rest) faults → MayLack stop (c.path ++ rest) faults) → TaskHands place stop c.path works (c.own ∷ c.below)
  lane_given lacks memory too =
      TaskHands.given c.path works c.own c.below (own_entry lacks) (regions_weaker place (region_stop c.halt) stop memory c.path 0 (flat_map work_regions works) c.below below_hand too)

  -- they may be missing
  pub lane_missing : IsForMemory stop → TaskHands place stop c.path works []
  lane_missing wanted = TaskHands.missing c.path works [] wanted (hands_missing place (region_stop c.halt) stop wanted c.path 0 (flat_map work_regions works) c.below below_hand)

-- ---- why a region stopped, told by one of its lanes

-- the logs of one lane among those of all
pub record IsPart (mine all : List HandedEntry) : Type 0 where
  pub before : List HandedEntry
  pub after : List HandedEntry
  pub parts : all ≡ before ++ (mine ++ after)

pub lane_part : (entries : ℕ → List HandedEntry) (first count k : ℕ) → k < count → IsPart (entries (first + k)) (handed_by entries first count)
lane_part entries first zero k less = absurd (omega arith)
lane_part entries first (suc count) zero less = record {
  before = [];
  after = handed_by entries (suc first) count;
  parts = ap (λ (n : ℕ). entries n ++ handed_by entries (suc first) count) (let e : first ≡ first + 0 = omega arith in e);
}
lane_part entries first (suc count) (suc k) less =
    let e : suc first + k ≡ first + suc k = omega arith in
    let part = subst (λ (n : ℕ). IsPart (entries n) (handed_by entries (suc first) count)) e (lane_part entries (suc first) count k (omega arith)) in
    record {
      before = entries first ++ part.before;
      after = part.after;
      parts = ap (λ (es : List HandedEntry). entries first ++ es) part.parts ∙ sym (append_assoc (entries first) part.before (entries (first + suc k) ++ part.after));
    }

tell_first : (s : MaybeStop) (xs ys : List HandedEntry) → TellStop s xs → TellStop s (xs ++ ys)
tell_first s xs ys tell = record {
  failed = λ path is. let has = tell.failed path is in record { log = has.log; is = Contains-append_left xs ys has.log has.is; task = has.task; faulty = has.faulty };
  crowded = λ path line is. crowds path (tell.crowded path line is);
}
  where
    crowds : (path : List Step) → HasCrowdedTask path xs → HasCrowdedTask path (xs ++ ys)
    crowds path has = record {
      before = has.before;
      own = has.own;
      below = has.below;
      after = has.after ++ ys;
      parts =
          ap (λ (es : List HandedEntry). es ++ ys) has.parts
          ∙ append_assoc has.before (has.own ∷ (has.below ++ has.after)) ys
          ∙ ap (λ (es : List HandedEntry). has.before ++ has.own ∷ es) (append_assoc has.below has.after ys);
      task = has.task;
      under = has.under;
      many = has.many;
    }

pub tell_part : (s : MaybeStop) (mine all : List HandedEntry) → IsPart mine all → TellStop s mine → TellStop s all
tell_part s mine all part tell =
    subst (λ (es : List HandedEntry). TellStop s es) (sym part.parts) (tell_later s part.before (mine ++ part.after) (tell_first s mine part.after tell))

-- by nothing that logs tell
pub tells_none : (path : List Step) (why : Stop) (es : List HandedEntry) → (stop.Trouble Failed ≡ why → ⊥) → ((line : ℕ) → stop.Tasks line ≡ why → ⊥) → TellStop (Some (path, why)) es
tells_none path why es fault crowd = record { failed = λ p told. absurd (fault (why_of (path, why) p (stop.Trouble Failed) told)); crowded = λ p line told. absurd (crowd line (why_of (path, why) p (stop.Tasks line) told)) }

-- a lane that stopped tells why
module _ (place : LogPlace) (works : List Work) (c : ClosedValue) (gave : LaneGave place works c) (path : List Step) (why : Stop) where
  abbrev Told : Type 0
  Told = TellStop (Some (path, why)) (c.own ∷ c.below)

  -- by a fault of its log
  tells_fault : (trouble : Trouble) → c.refused ≡ Some trouble → path ≡ c.path → why ≡ stop.Trouble trouble → Told
  tells_fault trouble refused own is = record {
    failed = λ p told. record {
      log = c.own;
      is = let first : 0 < length (c.own ∷ c.below) = omega arith in (0, first, refl);
      task = gave.task ∙ sym own ∙ sym (path_of (path, why) p (stop.Trouble Failed) told);
      faulty = gave.failed (refused ∙ ap (λ (t : Trouble). Some t) (trouble_of (why_of (path, why) p (stop.Trouble Failed) told ∙ is)));
    };
    crowded = λ p line told. absurd (no_tasks line (why_of (path, why) p (stop.Tasks line) told ∙ is));
  }
    where
      trouble_of : stop.Trouble Failed ≡ stop.Trouble trouble → trouble ≡ Failed
      trouble_of e = cc

      no_tasks : (line : ℕ) → stop.Tasks line ≡ stop.Trouble trouble → ⊥
      no_tasks line e = cc

  -- by too many tasks below it
  tells_crowd : (line : ℕ) → c.halt ≡ Some (halt.Own (stop.Tasks line)) → path ≡ c.path → why ≡ stop.Tasks line → Told
  tells_crowd line halt_is own is = record {
    failed = λ p told. absurd (no_fault (why_of (path, why) p (stop.Trouble Failed) told ∙ is));
    crowded = λ p l told. record {
      before = [];
      own = c.own;
      below = c.below;
      after = [];
      parts = ap (λ (es : List HandedEntry). c.own ∷ es) (sym (append-nil c.below));
      task = gave.task ∙ sym own ∙ sym (path_of (path, why) p (stop.Tasks l) told);
      under =
          subst (λ (at : List Step). All (λ (e : HandedEntry). IsUnder e.task at) c.below) (sym own ∙ sym (path_of (path, why) p (stop.Tasks l) told))
          (regions_under place (region_stop c.halt) c.path 0 (flat_map work_regions works) c.below (below_hand place (region_stop c.halt) works c gave));
      many = gave.crowded line halt_is;
    };
  }
    where
      no_fault : stop.Trouble Failed ≡ stop.Tasks line → ⊥
      no_fault e = cc

  -- by a task below it
  tells_region : c.halt ≡ Some (halt.Region path why) → Told
  tells_region is =
      tell_later (Some (path, why)) (c.own ∷ []) c.below
      (subst (λ (h : Option Halt). TellStop (region_stop h) c.below) is
      (subst (λ (es : List HandedEntry). TellStop (region_stop c.halt) es) (sym gave.hands.grows) gave.hands.tell))

  itself_tells : (h : Halt) → c.halt ≡ Some h → c.refused ≡ None → path ≡ c.path → stop_of c.path h ≡ (path, why) → Told
  itself_tells (halt.Region p w) halt_is none own is = tells_region (halt_is ∙ ap (λ (s : List Step × Stop). Some (halt.Region s.0 s.1)) is)
  itself_tells (halt.Own (stop.Tasks line)) halt_is none own is = tells_crowd line halt_is own (sym (ap (λ (s : List Step × Stop). s.1) is))
  itself_tells (halt.Own (stop.Trouble Failed)) halt_is none own is = absurd (refuses (sym none ∙ gave.refusal Failed halt_is (λ e. cc))) where
    refuses : None ≡ Some Failed → ⊥
    refuses e = cc
  itself_tells h halt_is none own is = subst (λ (w : Stop). TellStop (Some (path, w)) (c.own ∷ c.below)) (ap (λ (s : List Step × Stop). s.1) is) (tells_none path (stop_of c.path h).1 (c.own ∷ c.below) (λ e. cc) (λ l e. cc))

  pub lane_tells : StoppedAs c path why → Told
  lane_tells (StoppedAs.by_region is) = tells_region is
  lane_tells (StoppedAs.by_itself h halt_is none own is) = itself_tells h halt_is none own is
  lane_tells (StoppedAs.by_log trouble refused own is) = tells_fault trouble refused own is

-- ---- a lane that stopped, in its region

module _ (place : LogPlace) (works : List Work) (c : ClosedValue) (gave : LaneGave place works c) (path : List Step) (why : Stop) where
  -- the task that stopped is the lane, or below it
  pub record InLane : Type 0 where
    pub rest : List Step
    pub is : path ≡ c.path ++ rest

  pub in_lane : StoppedAs c path why → InLane
  in_lane (StoppedAs.by_region is) = let under = gave.under path why is in record { rest = under.first ∷ under.rest; is = under.parts }
  in_lane (StoppedAs.by_itself h halt_is none own is) = record { rest = []; is = own ∙ sym (append-nil c.path) }
  in_lane (StoppedAs.by_log trouble refused own is) = record { rest = []; is = own ∙ sym (append-nil c.path) }

  -- where its own log refused, that is the stop, if it is the one that stopped
  pub own_trouble : StoppedAs c path why → (trouble : Trouble) → c.refused ≡ Some trouble → c.path ≡ path → IsTrouble why
  own_trouble (StoppedAs.by_region is) trouble refused same =
      let under = gave.under path why is in
      let longer = ap (λ (p : List Step). length p) under.parts ∙ length-append c.path (under.first ∷ under.rest) in
      let as_long = ap (λ (p : List Step). length p) same in
      absurd (omega (arith, longer, as_long))
  own_trouble (StoppedAs.by_itself h halt_is none own is) trouble refused same = absurd (refuses (sym none ∙ refused)) where
    refuses : None ≡ Some trouble → ⊥
    refuses e = cc
  own_trouble (StoppedAs.by_log other refuses own is) trouble refused same = subst (λ (w : Stop). IsTrouble w) (sym is) tt
