-- The timed records of a task: its phases one after another.
use Rattle.std.proofs.Common.{◌≡◌, refl, sym, ap, ap₂, ◌∙◌, subst, ℕ, zero, suc, ◌+◌, ◌≤◌, Bool, true, false, List, [], ◌∷◌, ◌++◌, length, map, Option, Some, None, arith}
use Rattle.std.specs.Prelude.{slice_get, if◌then◌else◌, ◌==◌}
use Rattle.std.specs.Option.{option_map}
use Rattle.std.specs.List.{flat_map}
use Rattle.std.proofs.lemmas.List.{append-nil, map-append, length-map}
use Rattle.std.proofs.lemmas.Grind.{flat_map-append}
use Rattle.std.proofs.lemmas.Option.{slice_get-map}
use Rattle.sw_base.specs.declared.path.Step.{Step}
use Rattle.log_format.specs.declared.record.Record.{Record}
use Rattle.race_model.specs.Listing.{lane_of}
use Rattle.race_model.specs.History.{Entry, entry_of}
use Rattle.history_model.specs.Work.{Work, RegionWork, fork_record, logged, work_records, work_regions, work_at, lane_works, works_at_region, works_at_step, works_under, task_logs}
use Rattle.history_laws.proofs.LabelledWork.{Marked, entry, records_at, regions_at}
use Rattle.history_laws.proofs.TimedWork.{TimedWork, TimedRest, TimedPut, TimedFork, TimedPhases, TimedNone, TimedPhase, TimedTeam, TimedEmpty, TimedBeside, plain, plain_phases, plain_team, Happened, IsTimed, ArePhasesTimed, IsTeamTimed}

-- a record with its time; a fork with its phases
pub data Act : Type 0 where
  Plain : (r : Record) → (from until : ℕ) → Act
  Forks : (line span from until : ℕ) → (phases : TimedPhases) → Act

abbrev pub act_put : Act → Record
act_put (Plain r from until) = r
act_put (Forks line span from until phases) = fork_record line span

abbrev pub act_record : Act → Record
act_record act = logged (act_put act)

abbrev pub act_from : Act → ℕ
act_from (Plain r from until) = from
act_from (Forks line span from until phases) = from

abbrev pub act_until : Act → ℕ
act_until (Plain r from until) = until
act_until (Forks line span from until phases) = until

-- from when on what the record happens before may be: a fork's lanes begin at once
abbrev pub act_lead : Act → ℕ
act_lead (Plain r from until) = until
act_lead (Forks line span from until phases) = from

abbrev pub acts_of : TimedWork → List Act
acts_of TimedRest = []
acts_of (TimedPut r from until more) = Plain r from until ∷ acts_of more
acts_of (TimedFork line span from until phases more) = Forks line span from until phases ∷ acts_of more

pub record TimedRegion : Type 0 where
  pub span : ℕ
  pub phases : TimedPhases

abbrev pub act_regions : List Act → List TimedRegion
act_regions [] = []
act_regions (Plain r from until ∷ acts) = act_regions acts
act_regions (Forks line span from until phases ∷ acts) = record { span = span; phases = phases } ∷ act_regions acts

abbrev pub acts_at : ℕ → TimedTeam → List Act
acts_at lane TimedEmpty = []
acts_at zero (TimedBeside work others) = acts_of work
acts_at (suc lane) (TimedBeside work others) = acts_at lane others

abbrev pub lane_acts : ℕ → TimedPhases → List Act
lane_acts lane TimedNone = []
lane_acts lane (TimedPhase team later) = acts_at lane team ++ lane_acts lane later

abbrev pub acts_at_region : Step → Option TimedRegion → List Act
acts_at_region step None = []
acts_at_region step (Some region) = if region.span == step.span then lane_acts step.lane region.phases else []

abbrev pub acts_at_step : Step → List Act → List Act
acts_at_step step acts = acts_at_region step (slice_get (act_regions acts) step.region)

abbrev pub acts_under : List Act → List Step → List Act
acts_under acts [] = acts
acts_under acts (step ∷ path) = acts_under (acts_at_step step acts) path

pub acts_under-append : (acts : List Act) (path : List Step) (step : Step) → acts_under acts (path ++ step ∷ []) ≡ acts_at_step step (acts_under acts path)
acts_under-append acts [] step = refl
acts_under-append acts (s ∷ path) step = acts_under-append (acts_at_step s acts) path step

pub regions-append : (xs ys : List Act) → act_regions (xs ++ ys) ≡ act_regions xs ++ act_regions ys
regions-append [] ys = refl
regions-append (Plain r from until ∷ xs) ys = regions-append xs ys
regions-append (Forks line span from until phases ∷ xs) ys = ap (λ (rs : List TimedRegion). record { span = span; phases = phases } ∷ rs) (regions-append xs ys)

-- acts and works tell the same records and regions
abbrev pub plain_region : TimedRegion → RegionWork
plain_region region = record { span = region.span; phases = plain_phases region.phases }

pub record Agree (acts : List Act) (works : List Work) : Type 0 where
  pub records : map act_record acts ≡ flat_map work_records works
  pub regions : map plain_region (act_regions acts) ≡ flat_map work_regions works

pub records_of : (work : TimedWork) → map act_record (acts_of work) ≡ work_records (plain work)
records_of TimedRest = refl
records_of (TimedPut r from until more) = ap (λ (rs : List Record). logged r ∷ rs) (records_of more)
records_of (TimedFork line span from until phases more) = ap (λ (rs : List Record). fork_record line span ∷ rs) (records_of more)

regions_of_acts : (work : TimedWork) → map plain_region (act_regions (acts_of work)) ≡ work_regions (plain work)
regions_of_acts TimedRest = refl
regions_of_acts (TimedPut r from until more) = regions_of_acts more
regions_of_acts (TimedFork line span from until phases more) = ap (λ (rs : List RegionWork). record { span = span; phases = plain_phases phases } ∷ rs) (regions_of_acts more)

agree_one : (work : TimedWork) → Agree (acts_of work) (plain work ∷ [])
agree_one work = record {
  records = records_of work ∙ sym (append-nil (work_records (plain work)));
  regions = regions_of_acts work ∙ sym (append-nil (work_regions (plain work)));
}

agree_both : (xs ys : List Act) (vs ws : List Work) → Agree xs vs → Agree ys ws → Agree (xs ++ ys) (vs ++ ws)
agree_both xs ys vs ws a b = record {
  records = map-append act_record xs ys ∙ ap₂ (λ (rs ss : List Record). rs ++ ss) a.records b.records ∙ sym (flat_map-append work_records vs ws);
  regions = ap (λ (rs : List TimedRegion). map plain_region rs) (regions-append xs ys) ∙ map-append plain_region (act_regions xs) (act_regions ys)
      ∙ ap₂ (λ (rs ss : List RegionWork). rs ++ ss) a.regions b.regions ∙ sym (flat_map-append work_regions vs ws);
}

pub agree_team : (lane : ℕ) (team : TimedTeam) → Agree (acts_at lane team) (work_at lane (plain_team team))
agree_team lane TimedEmpty = record { records = refl; regions = refl }
agree_team zero (TimedBeside work others) = agree_one work
agree_team (suc lane) (TimedBeside work others) = agree_team lane others

agree_lane : (lane : ℕ) (phases : TimedPhases) → Agree (lane_acts lane phases) (lane_works lane (plain_phases phases))
agree_lane lane TimedNone = record { records = refl; regions = refl }
agree_lane lane (TimedPhase team later) = agree_both (acts_at lane team) (lane_acts lane later) (work_at lane (plain_team team)) (lane_works lane (plain_phases later)) (agree_team lane team) (agree_lane lane later)

agree_step : (step : Step) (acts : List Act) (works : List Work) → Agree acts works → Agree (acts_at_step step acts) (works_at_step step works)
agree_step step acts works a =
    subst (λ (o : Option RegionWork). Agree (acts_at_step step acts) (works_at_region step o))
    (sym (slice_get-map plain_region (act_regions acts) step.region) ∙ ap (λ (rs : List RegionWork). slice_get rs step.region) a.regions) (at (slice_get (act_regions acts) step.region))
  where
    at : (o : Option TimedRegion) → Agree (acts_at_region step o) (works_at_region step (option_map plain_region o))
    at None = record { records = refl; regions = refl }
    at (Some region) = by_span (region.span == step.span) where
      by_span : (b : Bool) → Agree (if b then lane_acts step.lane region.phases else []) (if b then lane_works step.lane (plain_phases region.phases) else [])
      by_span true = agree_lane step.lane region.phases
      by_span false = record { records = refl; regions = refl }

agree_under : (acts : List Act) (works : List Work) (path : List Step) → Agree acts works → Agree (acts_under acts path) (works_under works path)
agree_under acts works [] a = a
agree_under acts works (step ∷ path) a = agree_under (acts_at_step step acts) (works_at_step step works) path (agree_step step acts works a)

-- the acts of a path are the log of the task
pub acts_log : (tree : TimedWork) (path : List Step) → map act_record (acts_under (acts_of tree) path) ≡ task_logs (plain tree) path
acts_log tree path = (agree_under (acts_of tree) (plain tree ∷ []) path (agree_one tree)).records

-- the times of acts
module _ (history : List Marked) where
  abbrev pub AreActsTimed : List Step → ℕ → ℕ → ℕ → ℕ → List Act → Type 0
  AreActsTimed path i g start end [] = start ≤ end
  AreActsTimed path i g start end (Plain r from until ∷ acts) =
      (later : ℕ) × (start ≤ from) × Happened history (entry_of r.kind (entry path i r)) from until × (until ≤ later) × AreActsTimed path (i + 1) g later end acts
  AreActsTimed path i g start end (Forks line span from until phases ∷ acts) =
      (start ≤ from) × ArePhasesTimed history path g span (λ lane. 0) (λ lane. 0) from until phases × AreActsTimed path (i + 1) (g + 1) until end acts

  pub acts_timed : (path : List Step) (i g start end : ℕ) (work : TimedWork) → IsTimed history path i g start end work → AreActsTimed path i g start end (acts_of work)
  acts_timed path i g start end TimedRest timed = timed
  acts_timed path i g start end (TimedPut r from until more) (later, le, happened, by, timed) = (later, le, happened, by, acts_timed path (i + 1) g later end more timed)
  acts_timed path i g start end (TimedFork line span from until phases more) (le, phased, timed) = (le, phased, acts_timed path (i + 1) (g + 1) until end more timed)

  -- time doesn't run back
  pub happened_on : (es : List Entry) (from until : ℕ) → Happened history es from until → from ≤ until
  happened_on [] from until h = h
  happened_on (e ∷ es) from until h = omega (arith, h.0)

  mutual
    pub phases_on : (path : List Step) (g span : ℕ) (put forked : ℕ → ℕ) (start end : ℕ) (phases : TimedPhases) → ArePhasesTimed history path g span put forked start end phases → start ≤ end
    phases_on path g span put forked start end TimedNone timed = timed
    phases_on path g span put forked start end (TimedPhase team later) (met, lanes, timed) =
        let on = team_on path g span put forked 0 start met team lanes in
        let rest = phases_on path g span (λ lane. put lane + records_at lane (plain_team team)) (λ lane. forked lane + regions_at lane (plain_team team)) met end later timed in
        omega arith

    team_on : (path : List Step) (g span : ℕ) (put forked : ℕ → ℕ) (lane start end : ℕ) (team : TimedTeam) → IsTeamTimed history path g span put forked lane start end team → start ≤ end
    team_on path g span put forked lane start end TimedEmpty timed = timed
    team_on path g span put forked lane start end (TimedBeside work others) timed = team_on path g span put forked (suc lane) start end others timed.1

  pub acts_on : (path : List Step) (i g start end : ℕ) (acts : List Act) → AreActsTimed path i g start end acts → start ≤ end
  acts_on path i g start end [] timed = timed
  acts_on path i g start end (Plain r from until ∷ acts) (later, le, happened, by, timed) =
      let on = happened_on (entry_of r.kind (entry path i r)) from until happened in let rest = acts_on path (i + 1) g later end acts timed in omega arith
  acts_on path i g start end (Forks line span from until phases ∷ acts) (le, phased, timed) =
      let on = phases_on path g span (λ lane. 0) (λ lane. 0) from until phases phased in let rest = acts_on path (i + 1) (g + 1) until end acts timed in omega arith

  -- acts after others
  pub acts_both : (path : List Step) (i g start mid end : ℕ) (xs ys : List Act) → AreActsTimed path i g start mid xs → AreActsTimed path (i + length xs) (g + length (act_regions xs)) mid end ys
      → AreActsTimed path i g start end (xs ++ ys)
  acts_both path i g start mid end [] ys left right = earlier ys (subst (λ (n : ℕ). AreActsTimed path n g mid end ys) (let e : i + 0 ≡ i = omega arith in e) (subst (λ (n : ℕ). AreActsTimed path (i + 0) n mid end ys) (let e : g + 0 ≡ g = omega arith in e) right))
    where
      earlier : (zs : List Act) → AreActsTimed path i g mid end zs → AreActsTimed path i g start end zs
      earlier [] timed = omega arith
      earlier (Plain r from until ∷ zs) (later, le, happened, by, timed) = (later, omega arith, happened, by, timed)
      earlier (Forks line span from until phases ∷ zs) (le, phased, timed) = (omega arith, phased, timed)
  acts_both path i g start mid end (Plain r from until ∷ xs) ys (later, le, happened, by, timed) right =
      (later, le, happened, by, acts_both path (i + 1) g later mid end xs ys timed (subst (λ (n : ℕ). AreActsTimed path n (g + length (act_regions xs)) mid end ys) (let e : i + suc (length xs) ≡ i + 1 + length xs = omega arith in e) right))
  acts_both path i g start mid end (Forks line span from until phases ∷ xs) ys (le, phased, timed) right = (
    le,
    phased,
    acts_both path (i + 1) (g + 1) until mid end xs ys timed
        (subst (λ (n : ℕ). AreActsTimed path n (g + 1 + length (act_regions xs)) mid end ys) (let e : i + suc (length xs) ≡ i + 1 + length xs = omega arith in e)
        (subst (λ (n : ℕ). AreActsTimed path (i + suc (length xs)) n mid end ys) (let e : g + suc (length (act_regions xs)) ≡ g + 1 + length (act_regions xs) = omega arith in e) right)),
  )

  -- the acts of a lane
  team_acts : (path : List Step) (g span : ℕ) (put forked : ℕ → ℕ) (lane other start end : ℕ) (team : TimedTeam) → IsTeamTimed history path g span put forked lane start end team
      → AreActsTimed (lane_of path g (lane + other) span) (put (lane + other)) (forked (lane + other)) start end (acts_at other team)
  team_acts path g span put forked lane other start end TimedEmpty timed = timed
  team_acts path g span put forked lane zero start end (TimedBeside work others) timed =
      subst (λ (l : ℕ). AreActsTimed (lane_of path g l span) (put l) (forked l) start end (acts_of work)) (let e : lane ≡ lane + 0 = omega arith in e)
      (acts_timed (lane_of path g lane span) (put lane) (forked lane) start end work timed.0)
  team_acts path g span put forked lane (suc other) start end (TimedBeside work others) timed =
      subst (λ (l : ℕ). AreActsTimed (lane_of path g l span) (put l) (forked l) start end (acts_at other others)) (let e : suc lane + other ≡ lane + suc other = omega arith in e)
      (team_acts path g span put forked (suc lane) other start end others timed.1)

  pub phase_acts : (path : List Step) (g span : ℕ) (put forked : ℕ → ℕ) (lane start end : ℕ) (team : TimedTeam) → IsTeamTimed history path g span put forked 0 start end team
      → AreActsTimed (lane_of path g lane span) (put lane) (forked lane) start end (acts_at lane team)
  phase_acts path g span put forked lane start end team timed =
      subst (λ (l : ℕ). AreActsTimed (lane_of path g l span) (put l) (forked l) start end (acts_at lane team)) (let e : 0 + lane ≡ lane = omega arith in e)
      (team_acts path g span put forked 0 lane start end team timed)

  pub lane_timed : (path : List Step) (g span : ℕ) (put forked : ℕ → ℕ) (lane start end : ℕ) (phases : TimedPhases) → ArePhasesTimed history path g span put forked start end phases
      → AreActsTimed (lane_of path g lane span) (put lane) (forked lane) start end (lane_acts lane phases)
  lane_timed path g span put forked lane start end TimedNone timed = timed
  lane_timed path g span put forked lane start end (TimedPhase team later) (met, lanes, timed) =
      acts_both (lane_of path g lane span) (put lane) (forked lane) start met end (acts_at lane team) (lane_acts lane later) (phase_acts path g span put forked lane start met team lanes)
      (subst (λ (n : ℕ). AreActsTimed (lane_of path g lane span) n (forked lane + length (act_regions (acts_at lane team))) met end (lane_acts lane later)) (ap (λ (n : ℕ). put lane + n) records_are)
      (subst (λ (n : ℕ). AreActsTimed (lane_of path g lane span) (put lane + records_at lane (plain_team team)) n met end (lane_acts lane later)) (ap (λ (n : ℕ). forked lane + n) regions_are)
      (lane_timed path g span (λ l. put l + records_at l (plain_team team)) (λ l. forked l + regions_at l (plain_team team)) lane met end later timed)))
    where
      records_are : records_at lane (plain_team team) ≡ length (acts_at lane team)
      records_are = ap length (sym (agree_team lane team).records) ∙ length-map (acts_at lane team) act_record

      regions_are : regions_at lane (plain_team team) ≡ length (act_regions (acts_at lane team))
      regions_are = ap length (sym (agree_team lane team).regions) ∙ length-map (act_regions (acts_at lane team)) plain_region
