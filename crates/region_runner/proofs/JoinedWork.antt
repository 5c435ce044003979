-- Who goes on after a region has waited for its lanes.
use Rattle.std.proofs.Common.{◌≡◌, inl, inr, refl, ap, sym, ◌∙◌, subst, ℕ, List, [], ◌∷◌, ◌++◌, ℤ, Result, Ok, Err}
use Rattle.std.specs.Prelude.{map}
use Rattle.std.proofs.lemmas.List.{append-nil}
use Rattle.std.proofs.lemmas.List.Elements.{All-head, All-tail}
use Rattle.log_format.specs.declared.record.Record.{Record}
use Rattle.log_format.specs.declared.record.Kind.TheVariants.{Region}
use Rattle.race_model.specs.History.{release}
use Rattle.kernel_model.specs.declared.stop.StopWhy.TheVariants as reason
use Rattle.kernel_model.specs.State.{State, Fork, Outcome}
use Rattle.kernel_model.specs.Effect.{Finish, Returned, Halted}
use Rattle.race_model.specs.Trace.{barrier_count}
use Rattle.history_model.specs.Work.{Work, Rest, Put, RegionWork, fork_record, logged, work_records, work_regions}
use Rattle.history_model.specs.Sound.{WordLayout, IsSound}
use Rattle.history_model.specs.Joined.{IsJoined, PhasesEnd, ArePhasesJoined}
use Rattle.lane_runner.specs.declared.stop.Stop.TheVariants as stop
use Rattle.lane_runner.specs.declared.stop.Halt.{Halt}
use Rattle.lane_runner.specs.declared.stop.Halt.TheVariants as halt
use Rattle.lane_runner.specs.Stopping.{HaveEnded}
use Rattle.execution_model.specs.Stops.{LastIsRegion}
use Rattle.execution_model.specs.Elements.{layout_of}
use Rattle.lane_runner.specs.World.{WorldValue}
use Rattle.lane_runner.specs.Going.{Progress, HasReleased, Cause, AtLog, AtRegion, AtTasks, EndsBy, StopsBy, log_of, MadePast, Began, GoesPast}
use Rattle.region_runner.specs.Team.{DidWork}

-- all regions ended
ended_joined : (work : Work) → HaveEnded (work_regions work) → IsJoined work
ended_joined Rest ended = tt
ended_joined (Put r more) ended = ended_joined more ended
ended_joined (Work.Fork line span phases more) ended =
    let this = All-head (λ (r : RegionWork). PhasesEnd r.phases × ArePhasesJoined r.phases) (record { span = span; phases = phases }) (work_regions more) ended in
    (inr this.0, this.1, ended_joined more (All-tail (λ (r : RegionWork). PhasesEnd r.phases × ArePhasesJoined r.phases) (record { span = span; phases = phases }) (work_regions more) ended))

last_of_more : (r : Record) (records : List Record) → LastIsRegion (r ∷ records) → (r.kind ≡ Region → ⊥) → LastIsRegion records
last_of_more r records last other = by last.prefix last.last last.parts last.forks where
  by : (prefix : List Record) (x : Record) → r ∷ records ≡ prefix ++ x ∷ [] → x.kind ≡ Region → LastIsRegion records
  by [] x is forks = absurd (other (subst (λ (y : Record). y.kind ≡ Region) (sym (ap (λ (l : List Record). head_or x l) is)) forks)) where
    head_or : Record → List Record → Record
    head_or x [] = x
    head_or x (y ∷ ys) = y
  by (p ∷ prefix) x is forks = record { prefix = prefix; last = x; parts = cc; forks = forks }

-- The last record is that of the last region, and all regions before it ended.
region_joined : (layout : WordLayout) (work : Work) (before : List RegionWork) (region : RegionWork) → work_regions work ≡ before ++ region ∷ [] → HaveEnded before → ArePhasesJoined region.phases
    → IsSound layout work → LastIsRegion (work_records work) → IsJoined work
region_joined layout Rest before region is ended joined sound last = tt
region_joined layout (Put r more) before region is ended joined sound last =
    region_joined layout more before region is ended joined sound.2 (last_of_more (logged r) (work_records more) last sound.0.no_region)
region_joined layout (Work.Fork line span phases more) [] region is ended joined sound last =
    (inl (nothing_more more (ap (λ (rs : List RegionWork). tail_of rs) is) sound.1 last), subst (λ (r : RegionWork). ArePhasesJoined r.phases) (sym (ap (λ (rs : List RegionWork). head_of region rs) is)) joined, ended_joined more none)
  where
    tail_of : List RegionWork → List RegionWork
    tail_of [] = []
    tail_of (r ∷ rs) = rs

    head_of : RegionWork → List RegionWork → RegionWork
    head_of region [] = region
    head_of region (r ∷ rs) = r

    none : HaveEnded (work_regions more)
    none = subst (λ (rs : List RegionWork). HaveEnded rs) (sym (ap (λ (rs : List RegionWork). tail_of rs) is)) ended

    puts_last : (work : Work) → work_regions work ≡ [] → IsSound layout work → LastIsRegion (work_records work) → ⊥
    puts_last Rest is sound last = by last.prefix last.last last.parts where
      by : (prefix : List Record) (x : Record) → [] ≡ prefix ++ x ∷ [] → ⊥
      by [] x is = cc
      by (p ∷ prefix) x is = cc
    puts_last (Put r more) is sound last = puts_last more is sound.2 (last_of_more (logged r) (work_records more) last sound.0.no_region)
    puts_last (Work.Fork line span phases more) is sound last = cc

    nothing_more : (work : Work) → work_regions work ≡ [] → IsSound layout work → LastIsRegion (fork_record line span ∷ work_records work) → work ≡ Rest
    nothing_more Rest is sound last = refl
    nothing_more (Put r more) is sound last = absurd (by last.prefix last.last last.parts last.forks) where
      by : (prefix : List Record) (x : Record) → fork_record line span ∷ (logged r ∷ work_records more) ≡ prefix ++ x ∷ [] → x.kind ≡ Region → ⊥
      by [] x is forks = cc
      by (p ∷ prefix) x parts forks = puts_last (Put r more) is sound (record { prefix = prefix; last = x; parts = cc; forks = forks })
    nothing_more (Work.Fork line span phases more) is sound last = cc
region_joined layout (Work.Fork line span phases more) (b ∷ before) region is ended joined sound last =
    (inr this.0, this.1, region_joined layout more before region rest_is (All-tail (λ (r : RegionWork). PhasesEnd r.phases × ArePhasesJoined r.phases) b before ended) joined sound.1 more_last)
  where
    first : record { span = span; phases = phases } ≡ b
    first = cc

    rest_is : work_regions more ≡ before ++ region ∷ []
    rest_is = cc

    this : PhasesEnd phases × ArePhasesJoined phases
    this = subst (λ (r : RegionWork). PhasesEnd r.phases × ArePhasesJoined r.phases) (sym first) (All-head (λ (r : RegionWork). PhasesEnd r.phases × ArePhasesJoined r.phases) b before ended)

    more_last : LastIsRegion (work_records more)
    more_last = by last.prefix last.last last.parts last.forks where
      by : (prefix : List Record) (x : Record) → fork_record line span ∷ work_records more ≡ prefix ++ x ∷ [] → x.kind ≡ Region → LastIsRegion (work_records more)
      by [] x parts forks = absurd (no_region more (ap (λ (l : List Record). rest_of l) parts) rest_is) where
        rest_of : List Record → List Record
        rest_of [] = []
        rest_of (y ∷ ys) = ys

        no_region : (work : Work) → work_records work ≡ [] → work_regions work ≡ before ++ region ∷ [] → ⊥
        no_region Rest none regions = some before regions where
          some : (before : List RegionWork) → [] ≡ before ++ region ∷ [] → ⊥
          some [] is = cc
          some (b ∷ before) is = cc
        no_region (Put r more) none regions = cc
        no_region (Work.Fork line span phases more) none regions = cc
      by (p ∷ prefix) x parts forks = record { prefix = prefix; last = x; parts = cc; forks = forks }

-- ---- a lane's phase

began_joined : (w : WorldValue) (old new : Progress) (cause : Cause) (work : Work) (forks : List Fork) (own : List ℕ) → IsSound (layout_of w.arrays) work → HasReleased [] work own → EndsBy cause own (log_of work)
    → StopsBy w.arrays old new cause forks (work_regions work) → IsJoined work
began_joined w old new AtLog work forks own sound released ends stops = ended_joined work stops.0
began_joined w old new (AtTasks line) work forks own sound released ends stops = ended_joined work stops.0
began_joined w old new (AtRegion path why) work forks own sound released (none, last) stops =
    region_joined (layout_of w.arrays) work stops.0.before stops.0.region stops.0.regions_are stops.0.ended stops.0.joined sound
    (subst (λ (rs : List Record). LastIsRegion rs) (sym (released.records ∙ ap (λ (l : List ℕ). log_of work ++ map release l) none ∙ append-nil (log_of work))) last)

module _ (w : WorldValue) (part : State → Outcome (Unit {0})) (slots slots' : List ℤ) (old new : Progress) (free : old.hand.view.held ≡ []) where
  made_did : (bars : ℕ) (finish : Finish (Unit {0})) (m : MadePast bars w part slots slots' old new finish) → DidWork w.arrays old.hand new.hand m.work
  made_did bars finish m = record { hand = m.done.hand; sound = m.done.sound; joined = ended_joined m.work m.ended }

  began_did : (cause : Cause) (m : Began w part slots old new cause) → DidWork w.arrays old.hand new.hand m.work
  began_did cause m = record {
    hand = m.done.hand;
    sound = m.done.sound;
    joined = began_joined w old new cause m.work m.forks m.own m.done.sound (subst (λ (h : List ℕ). HasReleased h m.work m.own) free m.released) m.ends m.stops;
  }

  -- by what the phase answers
  abbrev pub work_of : (bars : ℕ) (r : Result (Unit {0}) Halt) → GoesPast bars w part slots slots' old new r → Work
  work_of bars (Ok u) m = m.work
  work_of bars (Err (halt.Own (stop.DivZero line))) m = m.work
  work_of bars (Err (halt.Own (stop.Index line))) m = m.work
  work_of bars (Err (halt.Own (stop.LogFull line))) m = m.work
  work_of bars (Err (halt.Region path why)) m = m.work
  work_of bars (Err (halt.Own (stop.Tasks line))) m = m.work
  work_of bars (Err (halt.Own (stop.Trouble trouble))) (m, refused) = m.work

  pub phase_did_work : (bars : ℕ) (r : Result (Unit {0}) Halt) (m : GoesPast bars w part slots slots' old new r) → DidWork w.arrays old.hand new.hand (work_of bars r m)
  phase_did_work bars (Ok u) m = made_did bars (Returned tt) m
  phase_did_work bars (Err (halt.Own (stop.DivZero line))) m = made_did 0 (Halted reason.DivZero line) m
  phase_did_work bars (Err (halt.Own (stop.Index line))) m = made_did 0 (Halted reason.Index line) m
  phase_did_work bars (Err (halt.Own (stop.LogFull line))) m = made_did 0 (Halted reason.LogFull line) m
  phase_did_work bars (Err (halt.Region path why)) m = began_did (AtRegion path why) m
  phase_did_work bars (Err (halt.Own (stop.Tasks line))) m = began_did (AtTasks line) m
  phase_did_work bars (Err (halt.Own (stop.Trouble trouble))) (m, refused) = began_did AtLog m

  -- and where it stopped it passed no barrier
  pub phase_short : (bars : ℕ) (why : Halt) (m : GoesPast bars w part slots slots' old new (Err why)) → barrier_count (work_records (work_of bars (Err why) m)) ≡ 0
  phase_short bars (halt.Own (stop.DivZero line)) m = m.done.barriers
  phase_short bars (halt.Own (stop.Index line)) m = m.done.barriers
  phase_short bars (halt.Own (stop.LogFull line)) m = m.done.barriers
  phase_short bars (halt.Region path why) m = m.done.barriers
  phase_short bars (halt.Own (stop.Tasks line)) m = m.done.barriers
  phase_short bars (halt.Own (stop.Trouble trouble)) (m, refused) = m.done.barriers
