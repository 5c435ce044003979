-- What a lane gave, once its log is closed.
use Rattle.std.proofs.Common.{◌≡◌, refl, ap, sym, ◌∙◌, subst, ℕ, ◌+◌, ◌<◌, List, [], ◌∷◌, ◌++◌, length, ℤ, Option, Some, None, arith}
use Rattle.std.specs.Prelude.{◌≢◌, is_some}
use Rattle.std.specs.List.{flat_map}
use Rattle.std.specs.Option.{option_map}
use Rattle.std.proofs.lemmas.Option.{same_Some}
use Rattle.std.proofs.lemmas.List.{append-nil}
use Rattle.log_format.specs.Limit.{task_limit}
use Rattle.sw_base.specs.declared.path.Step.{Step}
use Rattle.sw_base.specs.declared.trouble.Trouble.{Trouble}
use Rattle.sw_base.specs.declared.trouble.Trouble.TheVariants.{Failed, Memory}
use Rattle.sw_base.specs.Environment.{Text, TearsPiece, WhereTold, empty_text, with_torn}
use Rattle.sw_base.specs.Names.{IsUnder}
use Rattle.log_format.specs.declared.format.TheConstants.{FORMAT}
use Rattle.log_format.specs.Format.{log_header}
use Rattle.event_buffer.specs.Logged.{HoldsRecords, KeepsPrefix}
use Rattle.kernel_model.specs.State.{State, Fork, Outcome}
use Rattle.history_model.specs.Work.{Work, RegionWork, work_regions}
use Rattle.execution_model.specs.Runs.{works_log}
use Rattle.lane_runner.specs.declared.stop.Stop.TheVariants as stop
use Rattle.lane_runner.specs.declared.stop.Halt.{Halt}
use Rattle.lane_runner.specs.declared.stop.Halt.TheVariants as halt
use Rattle.lane_runner.specs.declared.stop.Stop.{Stop}
use Rattle.lane_runner.specs.Going.{Progress, WorkHandsOn}
use Rattle.lane_runner.specs.Stopping.{StopsAtLast}
use Rattle.lane_runner.specs.Handed.{HandedEntry, HandsOn, LogPlace, log_place}
use Rattle.lane_runner.proofs.Handing.{hand_none}
use Rattle.region_runner.specs.Closing.{HasTaken, IsClosedAs}
use Rattle.region_runner.specs.Crew.{CrewValue, world_of}
use Rattle.region_runner.specs.Gathering.{ClosedValue, LaneGave, region_stop}
use Rattle.lane_runner.specs.Lane.{answer_due}
use Rattle.region_runner.specs.Ran.{in_one, HasLogged, TaskGoes}
use Rattle.region_runner.proofs.ClosedLogs.{holds_works}
use Rattle.region_runner.proofs.Traced.{one_regions}

-- ---- a lane that ran

module _ (crew : CrewValue) (lane : ℕ) (part : State → Outcome (Unit {0})) (slots slots' : List ℤ) (old new : Progress) (works : List Work) (place : LogPlace) (c : ClosedValue)
    (closed : IsClosedAs c.own c.refused c.path new.buffer) (below : c.below ≡ new.done) (none : old.done ≡ []) (empty : HoldsRecords (log_header FORMAT) old.buffer [])
    (first : old.tally.forked ≡ 0) (own : old.buffer.path ≡ c.path) (is : log_place old.buffer ≡ place) where
  handed : (h : Option Halt) → c.halt ≡ h → WorkHandsOn (region_stop h) old new (in_one works) → HandsOn place (region_stop c.halt) c.path 0 (flat_map work_regions works) [] c.below
  handed h h_is hands =
      subst (λ (h' : Option Halt). HandsOn place (region_stop h') c.path 0 (flat_map work_regions works) [] c.below) (sym h_is)
      (subst (λ (es : List HandedEntry). HandsOn place (region_stop h) c.path 0 (flat_map work_regions works) [] es) (sym below)
      (subst (λ (es : List HandedEntry). HandsOn place (region_stop h) c.path 0 (flat_map work_regions works) es new.done) none
      (subst (λ (rs : List RegionWork). HandsOn place (region_stop h) c.path 0 rs old.done new.done) (one_regions works)
      (subst (λ (n : ℕ). HandsOn place (region_stop h) c.path n (work_regions (in_one works)) old.done new.done) first
      (subst (λ (p : List Step). HandsOn place (region_stop h) p old.tally.forked (work_regions (in_one works)) old.done new.done) own
      (subst (λ (p : LogPlace). HandsOn p (region_stop h) old.buffer.path old.tally.forked (work_regions (in_one works)) old.done new.done) is hands))))))

  -- by its log, by what it handed on, and by why it doesn't go on
  given : (h : Option Halt) → c.halt ≡ h → HasLogged old new (in_one works) → WorkHandsOn (region_stop h) old new (in_one works)
      → ((trouble : Trouble) → h ≡ Some (halt.Own (stop.Trouble trouble)) → trouble ≢ Memory → c.refused ≡ Some trouble) → ((line : ℕ) → h ≡ Some (halt.Own (stop.Tasks line)) → task_limit < length c.below)
      → ((path : List Step) (why : Stop) → h ≡ Some (halt.Region path why) → IsUnder path c.path) → LaneGave place works c
  given h h_is logged hands refusal crowded under = record {
    task = closed.task;
    dir = closed.dir ∙ ap (λ (p : LogPlace). p.dir) place_is;
    own_path = closed.own ∙ logged.log.path ∙ own;
    tells = closed.tells ∙ ap (λ (p : LogPlace). p.tells) place_is;
    count = closed.count ∙ holds.count;
    taken =
        subst (λ (n : ℕ). WhereTold c.own.text (HasTaken c.refused (log_header FORMAT) (works_log works) n)) (ap (λ (p : LogPlace). p.size) place_is)
        (closed.taken (log_header FORMAT) (works_log works) holds);
    failed = closed.failed;
    faultless = closed.faultless;
    hands = handed h h_is hands;
    refusal = λ trouble told other. refusal trouble (sym h_is ∙ told) other;
    crowded = λ line told. crowded line (sym h_is ∙ told);
    under = λ path why told. under path why (sym h_is ∙ told);
  }
    where
      place_is : log_place new.buffer ≡ place
      place_is = logged.log.place ∙ is

      holds : HoldsRecords (log_header FORMAT) new.buffer (works_log works)
      holds = holds_works old new works (log_header FORMAT) logged empty

  path_of : (path path' : List Step) (why why' : Stop) → Some (halt.Region path why) ≡ Some (halt.Region path' why') → path ≡ path'
  path_of path path' why why' told = cc

  trouble_of : (trouble other : Trouble) → Some (halt.Own (stop.Trouble trouble)) ≡ Some (halt.Own (stop.Trouble other)) → trouble ≡ other
  trouble_of trouble other told = cc

  -- a task of its last region stopped
  is_under : (path : List Step) (why : Stop) (forks : List Fork) (regions : List RegionWork) → StopsAtLast crew.arrays old.buffer.path old.tally.forked path why forks regions → IsUnder path c.path
  is_under path why forks regions s =
      let inside = s.stopped.inside in
      let step : Step = record { region = old.tally.forked + length s.before; lane = inside.lane; span = s.fork.team.span } in
      record { first = step; rest = inside.below; parts = inside.path_is ∙ ap (λ (p : List Step). p ++ step ∷ inside.below) own }

  by : (h : Option Halt) → c.halt ≡ h → TaskGoes (world_of crew lane) part slots slots' old new works (answer_due h) → LaneGave place works c
  by (Some (halt.Region path why)) h_is t =
      given (Some (halt.Region path why)) h_is t.logged t.handed (λ trouble told other. absurd cc) (λ l told. absurd cc)
      (λ path' why' told. subst (λ (p : List Step). IsUnder p c.path) (path_of path path' why why' told) (is_under path why t.forks (work_regions (in_one works)) t.stops.0))
  by (Some (halt.Own (stop.Tasks line))) h_is t =
      given (Some (halt.Own (stop.Tasks line))) h_is t.logged t.handed (λ trouble told other. absurd cc)
      (λ l told. subst (λ (es : List HandedEntry). task_limit < length es) (sym below) t.stops.1) (λ path why told. absurd cc)
  by (Some (halt.Own (stop.Trouble trouble))) h_is t =
      given (Some (halt.Own (stop.Trouble trouble))) h_is t.0.logged t.0.handed
      (λ other told some. closed.again other
      (subst (λ (x : Trouble). new.buffer.refused ≡ Some x) (trouble_of trouble other told) (t.1.refused (λ memory. some (sym (trouble_of trouble other told) ∙ memory)))))
      (λ l told. absurd cc) (λ path why told. absurd cc)
  by h h_is t = given h h_is t.logged t.handed (λ trouble told other. absurd cc) (λ line told. absurd cc) (λ path why told. absurd cc)

  pub lane_gave : TaskGoes (world_of crew lane) part slots slots' old new works (answer_due c.halt) → LaneGave place works c
  lane_gave t = by c.halt refl t

-- ---- a lane whose log couldn't be started

tears_empty : (size : ℕ) (text : Text) (prefix rest : List ℕ) → log_header FORMAT ≡ prefix ++ rest → text ≡ with_torn prefix empty_text → KeepsPrefix (log_header FORMAT) [] size text
tears_empty size text prefix rest parts is =
    subst (λ (t : Text). KeepsPrefix (log_header FORMAT) [] size t) (sym is)
    (record { torn = prefix; missing = rest; bytes = refl; prefix = append-nil (log_header FORMAT) ∙ parts; behind = omega arith })

-- it put nothing, and its log has a prefix of the header
pub gave_nothing : (place : LogPlace) (c : ClosedValue) (old_text : Option Text) (trouble : Trouble) → c.own.task ≡ c.path → c.own.dir ≡ place.dir → c.own.path ≡ c.path → is_some old_text ≡ place.tells
    → WhereTold old_text (λ text. text ≡ empty_text) → TearsPiece old_text c.own.text (log_header FORMAT) → c.own.count ≡ 0 → c.below ≡ [] → c.halt ≡ None → c.refused ≡ Some trouble
    → (trouble ≡ Failed → 0 < c.own.faults) → LaneGave place [] c
gave_nothing place c old_text trouble task dir own_path tells empty torn count below halt_is refused failed = record {
  task = task;
  dir = dir;
  own_path = own_path;
  tells = ap (λ (t : Option Text). is_some t) torn.tears ∙ told_still old_text ∙ tells;
  count = count;
  taken = subst (λ (r : Option Trouble). WhereTold c.own.text (HasTaken r (log_header FORMAT) [] place.size)) (sym refused) (λ text told. tears old_text empty text (sym torn.tears ∙ told));
  failed = λ told. failed (same_Some trouble Failed (sym refused ∙ told));
  faultless = λ told. absurd (refuses (sym told ∙ refused));
  hands =
      subst (λ (h : Option Halt). HandsOn place (region_stop h) c.path 0 [] [] c.below) (sym halt_is)
      (subst (λ (es : List HandedEntry). HandsOn place None c.path 0 [] [] es) (sym below) (hand_none place c.path 0 []));
  refusal = λ t told other. absurd (goes (halt.Own (stop.Trouble t)) told);
  crowded = λ line told. absurd (goes (halt.Own (stop.Tasks line)) told);
  under = λ path why told. absurd (goes (halt.Region path why) told);
}
  where
    refuses : None ≡ Some trouble → ⊥
    refuses e = cc

    goes : (h : Halt) → c.halt ≡ Some h → ⊥
    goes h told = not_both (sym halt_is ∙ told) where
      not_both : None ≡ Some h → ⊥
      not_both e = cc

    told_still : (t : Option Text) → is_some (option_map (with_torn torn.prefix) t) ≡ is_some t
    told_still None = refl
    told_still (Some text) = refl

    tears : (t : Option Text) → WhereTold t (λ text. text ≡ empty_text) → (text : Text) → option_map (with_torn torn.prefix) t ≡ Some text → KeepsPrefix (log_header FORMAT) [] place.size text
    tears None empty text told = absurd cc
    tears (Some old) empty text told =
        tears_empty place.size text torn.prefix torn.rest torn.parts (sym (same_Some (with_torn torn.prefix old) text told) ∙ ap (λ (t : Text). with_torn torn.prefix t) (empty old refl))
