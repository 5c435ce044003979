-- The records of a task stand in the order of their times, and each lane within the time of its fork.
use Rattle.std.proofs.Common.{◌≡◌, refl, sym, ap, ap₂, subst, ℕ, zero, suc, ◌+◌, ◌<◌, ◌≤◌, Bool, true, false, List, [], ◌∷◌, ◌++◌, map, take, Option, Some, None, arith}
use Rattle.std.specs.Prelude.{slice_get, if◌then◌else◌, ◌==◌, count_by}
use Rattle.std.proofs.lemmas.List.{append-nil, append_assoc}
use Rattle.std.proofs.lemmas.Option.{same_Some}
use Rattle.sw_base.specs.declared.path.Step.{Step}
use Rattle.log_format.specs.declared.record.Record.{Record}
use Rattle.log_format.specs.declared.record.Kind.{Kind}
use Rattle.log_format.specs.declared.record.Kind.TheVariants.{Region}
use Rattle.race_model.specs.Listing.{lane_of}
use Rattle.race_model.specs.Trace.{region_count, is_region_kind}
use Rattle.race_model.specs.History.{entry_of}
use Rattle.history_model.specs.Sound.{WordLayout, IsSoundRecord, IsSound, ArePhasesSound, IsTeamSound}
use Rattle.history_model.proofs.Parts.{count_cons}
use Rattle.history_laws.proofs.LabelledWork.{Marked, entry}
use Rattle.history_laws.proofs.TimedWork.{TimedWork, TimedRest, TimedPut, TimedFork, TimedPhases, TimedNone, TimedPhase, TimedTeam, TimedEmpty, TimedBeside, plain, plain_phases, plain_team, ArePhasesTimed}
use Rattle.history_laws.proofs.Acts.{Act, Plain, Forks, act_record, act_from, act_until, acts_of, TimedRegion, act_regions, acts_at, lane_acts, acts_at_region, acts_at_step, acts_under, AreActsTimed, phases_on, acts_on, happened_on, lane_timed}

-- acts of a sound tree
abbrev pub AreSoundActs : WordLayout → List Act → Type 0
AreSoundActs layout [] = Unit {0}
AreSoundActs layout (Plain r from until ∷ acts) = IsSoundRecord layout r × AreSoundActs layout acts
AreSoundActs layout (Forks line span from until phases ∷ acts) = ArePhasesSound layout span (plain_phases phases) × AreSoundActs layout acts

sound_both : (layout : WordLayout) (xs ys : List Act) → AreSoundActs layout xs → AreSoundActs layout ys → AreSoundActs layout (xs ++ ys)
sound_both layout [] ys left right = right
sound_both layout (Plain r from until ∷ xs) ys left right = (left.0, sound_both layout xs ys left.1 right)
sound_both layout (Forks line span from until phases ∷ xs) ys left right = (left.0, sound_both layout xs ys left.1 right)

pub sound_acts : (layout : WordLayout) (work : TimedWork) → IsSound layout (plain work) → AreSoundActs layout (acts_of work)
sound_acts layout TimedRest sound = tt
sound_acts layout (TimedPut r from until more) sound = (sound.0, sound_acts layout more sound.2)
sound_acts layout (TimedFork line span from until phases more) sound = (sound.0, sound_acts layout more sound.1)

sound_team : (layout : WordLayout) (lane : ℕ) (team : TimedTeam) → IsTeamSound layout (plain_team team) → AreSoundActs layout (acts_at lane team)
sound_team layout lane TimedEmpty sound = tt
sound_team layout zero (TimedBeside work others) sound = sound_acts layout work sound.0
sound_team layout (suc lane) (TimedBeside work others) sound = sound_team layout lane others sound.1

sound_lane : (layout : WordLayout) (span lane : ℕ) (phases : TimedPhases) → ArePhasesSound layout span (plain_phases phases) → AreSoundActs layout (lane_acts lane phases)
sound_lane layout span lane TimedNone sound = tt
sound_lane layout span lane (TimedPhase team later) sound = sound_both layout (acts_at lane team) (lane_acts lane later) (sound_team layout lane team sound.1) (sound_lane layout span lane later sound.3)

pub sound_region : (layout : WordLayout) (acts : List Act) (r : ℕ) (region : TimedRegion) → AreSoundActs layout acts → slice_get (act_regions acts) r ≡ Some region → ArePhasesSound layout region.span (plain_phases region.phases)
sound_region layout [] r region sound found = cc
sound_region layout (Plain q from until ∷ acts) r region sound found = sound_region layout acts r region sound.1 found
sound_region layout (Forks line span from until phases ∷ acts) zero region sound found =
    subst (λ (t : TimedRegion). ArePhasesSound layout t.span (plain_phases t.phases)) (same_Some (record { span = span; phases = phases }) region found) sound.0
sound_region layout (Forks line span from until phases ∷ acts) (suc r) region sound found = sound_region layout acts r region sound.1 found

sound_step : (layout : WordLayout) (step : Step) (acts : List Act) → AreSoundActs layout acts → AreSoundActs layout (acts_at_step step acts)
sound_step layout step acts sound = at (slice_get (act_regions acts) step.region) refl where
  at : (o : Option TimedRegion) → slice_get (act_regions acts) step.region ≡ o → AreSoundActs layout (acts_at_region step o)
  at None e = tt
  at (Some region) e = by_span (region.span == step.span) where
    by_span : (b : Bool) → AreSoundActs layout (if b then lane_acts step.lane region.phases else [])
    by_span true = sound_lane layout region.span step.lane region.phases (sound_region layout acts step.region region sound e)
    by_span false = tt

pub sound_under : (layout : WordLayout) (acts : List Act) (path : List Step) → AreSoundActs layout acts → AreSoundActs layout (acts_under acts path)
sound_under layout acts [] sound = sound
sound_under layout acts (step ∷ path) sound = sound_under layout (acts_at_step step acts) path (sound_step layout step acts sound)

-- the region of a fork has the number of forks before it
not_region : (k : Kind) → (k ≡ Region → ⊥) → is_region_kind k ≡ false
not_region Region other = absurd (other refl)
not_region _ other = refl

pub region_at : (layout : WordLayout) (acts : List Act) (n line span from until : ℕ) (phases : TimedPhases) → AreSoundActs layout acts → slice_get acts n ≡ Some (Forks line span from until phases)
    → slice_get (act_regions acts) (region_count (take n (map act_record acts))) ≡ Some (record { span = span; phases = phases })
region_at layout [] n line span from until phases sound found = cc
region_at layout (Plain r f u ∷ acts) zero line span from until phases sound found = let same : Plain r f u ≡ Forks line span from until phases = same_Some (Plain r f u) (Forks line span from until phases) found in cc
region_at layout (Forks l s f u p ∷ acts) zero line span from until phases sound found =
    let same : Forks l s f u p ≡ Forks line span from until phases = same_Some (Forks l s f u p) (Forks line span from until phases) found in
    let spans : s ≡ span = cc in
    let phases_are : p ≡ phases = cc in
    ap₂ (λ (m : ℕ) (q : TimedPhases). Some (record { span = m; phases = q })) spans phases_are
region_at layout (Plain r f u ∷ acts) (suc n) line span from until phases sound found =
    let none : count_by (λ (q : Record). is_region_kind q.kind) (r ∷ []) ≡ 0 = rw (not_region r.kind sound.0.no_region) refl in
    let counts : region_count (take n (map act_record acts)) ≡ region_count (r ∷ take n (map act_record acts)) = omega (arith, count_cons (λ (q : Record). is_region_kind q.kind) r (take n (map act_record acts))) in
    subst (λ (m : ℕ). slice_get (act_regions acts) m ≡ Some (record { span = span; phases = phases })) counts
    (region_at layout acts n line span from until phases sound.1 found)
region_at layout (Forks l s f u p ∷ acts) (suc n) line span from until phases sound found =
    let counts : suc (region_count (take n (map act_record acts))) ≡ region_count (act_record (Forks l s f u p) ∷ take n (map act_record acts))
    = omega (arith, count_cons (λ (q : Record). is_region_kind q.kind) (act_record (Forks l s f u p)) (take n (map act_record acts))) in
    subst (λ (m : ℕ). slice_get (record { span = s; phases = p } ∷ act_regions acts) m ≡ Some (record { span = span; phases = phases })) counts
    (region_at layout acts n line span from until phases sound.1 found)

module _ (history : List Marked) where
  -- an act within the time of its list
  pub record Within (start end : ℕ) (act : Act) : Type 0 where
    pub since : start ≤ act_from act
    pub on : act_from act ≤ act_until act
    pub by : act_until act ≤ end

  pub within : (path : List Step) (i g start end : ℕ) (acts : List Act) (n : ℕ) (act : Act) → AreActsTimed history path i g start end acts → slice_get acts n ≡ Some act → Within start end act
  within path i g start end [] n act timed found = cc
  within path i g start end (Plain r from until ∷ acts) zero act (later, le, happened, by, timed) found =
      subst (λ (a : Act). Within start end a) (same_Some (Plain r from until) act found)
      (let rest = acts_on history path (i + 1) g later end acts timed in record { since = le; on = happened_on history (entry_of r.kind (entry path i r)) from until happened; by = omega arith })
  within path i g start end (Plain r from until ∷ acts) (suc n) act (later, le, happened, by, timed) found =
      let w = within path (i + 1) g later end acts n act timed found in
      let on = happened_on history (entry_of r.kind (entry path i r)) from until happened in
      record { since = omega (arith, w.since); on = w.on; by = w.by }
  within path i g start end (Forks line span from until phases ∷ acts) zero act (le, phased, timed) found =
      subst (λ (a : Act). Within start end a) (same_Some (Forks line span from until phases) act found)
      (let rest = acts_on history path (i + 1) (g + 1) until end acts timed in record { since = le; on = phases_on history path g span (λ lane. 0) (λ lane. 0) from until phases phased; by = rest })
  within path i g start end (Forks line span from until phases ∷ acts) (suc n) act (le, phased, timed) found =
      let w = within path (i + 1) (g + 1) until end acts n act timed found in
      let on = phases_on history path g span (λ lane. 0) (λ lane. 0) from until phases phased in
      record { since = omega (arith, w.since); on = w.on; by = w.by }

  -- an earlier record is done before a later one begins
  pub in_order : (path : List Step) (i g start end : ℕ) (acts : List Act) (m n : ℕ) (x y : Act) → AreActsTimed history path i g start end acts → m < n
      → slice_get acts m ≡ Some x → slice_get acts n ≡ Some y → act_until x ≤ act_from y
  in_order path i g start end [] m n x y timed less here there = cc
  in_order path i g start end (a ∷ acts) m zero x y timed less here there = absurd (omega arith)
  in_order path i g start end (Plain r from until ∷ acts) zero (suc n) x y (later, le, happened, by, timed) less here there =
      let w = within path (i + 1) g later end acts n y timed there in
      let same : until ≡ act_until x = ap act_until (same_Some (Plain r from until) x here) in
      omega (arith, w.since)
  in_order path i g start end (Plain r from until ∷ acts) (suc m) (suc n) x y (later, le, happened, by, timed) less here there =
      in_order path (i + 1) g later end acts m n x y timed (omega arith) here there
  in_order path i g start end (Forks line span from until phases ∷ acts) zero (suc n) x y (le, phased, timed) less here there =
      let w = within path (i + 1) (g + 1) until end acts n y timed there in
      let same : until ≡ act_until x = ap act_until (same_Some (Forks line span from until phases) x here) in
      omega (arith, w.since)
  in_order path i g start end (Forks line span from until phases ∷ acts) (suc m) (suc n) x y (le, phased, timed) less here there =
      in_order path (i + 1) (g + 1) until end acts m n x y timed (omega arith) here there

  -- a fork's phases have its time
  pub record PhasedAt (path : List Step) (span from until : ℕ) (phases : TimedPhases) : Type 0 where
    pub number : ℕ
    pub timed : ArePhasesTimed history path number span (λ lane. 0) (λ lane. 0) from until phases

  abbrev IsPhased : List Step → Act → Type 0
  IsPhased path (Plain r from until) = Unit {0}
  IsPhased path (Forks line span from until phases) = PhasedAt path span from until phases

  pub phased_at : (path : List Step) (i g start end : ℕ) (acts : List Act) (n line span from until : ℕ) (phases : TimedPhases) → AreActsTimed history path i g start end acts
      → slice_get acts n ≡ Some (Forks line span from until phases) → PhasedAt path span from until phases
  phased_at path i g start end [] n line span from until phases timed found = cc
  phased_at path i g start end (Plain r f u ∷ acts) zero line span from until phases timed found = let same : Plain r f u ≡ Forks line span from until phases = same_Some (Plain r f u) (Forks line span from until phases) found in cc
  phased_at path i g start end (Plain r f u ∷ acts) (suc n) line span from until phases (later, le, happened, by, timed) found = phased_at path (i + 1) g later end acts n line span from until phases timed found
  phased_at path i g start end (Forks l s f u p ∷ acts) zero line span from until phases (le, phased, timed) found =
      let same : Forks l s f u p ≡ Forks line span from until phases = same_Some (Forks l s f u p) (Forks line span from until phases) found in
      subst (λ (a : Act). IsPhased path a) same (record { number = g; timed = phased })
  phased_at path i g start end (Forks l s f u p ∷ acts) (suc n) line span from until phases (le, phased, timed) found = phased_at path (i + 1) (g + 1) u end acts n line span from until phases timed found

  -- the acts of each path have times, and records of that path
  pub record HasTimes (path : List Step) (acts : List Act) : Type 0 where
    pub start : ℕ
    pub end : ℕ
    pub timed : AreActsTimed history path 0 0 start end acts

  region_times : (path : List Step) (i g start end : ℕ) (acts : List Act) (r : ℕ) (region : TimedRegion) → AreActsTimed history path i g start end acts → slice_get (act_regions acts) r ≡ Some region
      → (from : ℕ) × (until : ℕ) × ArePhasesTimed history path (g + r) region.span (λ lane. 0) (λ lane. 0) from until region.phases
  region_times path i g start end [] r region timed found = cc
  region_times path i g start end (Plain q from until ∷ acts) r region (later, le, happened, by, timed) found = region_times path (i + 1) g later end acts r region timed found
  region_times path i g start end (Forks line span from until phases ∷ acts) zero region (le, phased, timed) found = (
    from,
    until,
    subst (λ (t : TimedRegion). ArePhasesTimed history path (g + 0) t.span (λ lane. 0) (λ lane. 0) from until t.phases) (same_Some (record { span = span; phases = phases }) region found)
        (subst (λ (m : ℕ). ArePhasesTimed history path m span (λ lane. 0) (λ lane. 0) from until phases) (let e : g ≡ g + 0 = omega arith in e) phased),
  )
  region_times path i g start end (Forks line span from until phases ∷ acts) (suc r) region (le, phased, timed) found =
      at (region_times path (i + 1) (g + 1) until end acts r region timed found)
    where
      at : (from : ℕ) × (until : ℕ) × ArePhasesTimed history path (g + 1 + r) region.span (λ lane. 0) (λ lane. 0) from until region.phases
          → (from : ℕ) × (until : ℕ) × ArePhasesTimed history path (g + suc r) region.span (λ lane. 0) (λ lane. 0) from until region.phases
      at (from, until, phased) = (from, until, subst (λ (m : ℕ). ArePhasesTimed history path m region.span (λ lane. 0) (λ lane. 0) from until region.phases) (let e : g + 1 + r ≡ g + suc r = omega arith in e) phased)

  same_number : (m n : ℕ) → (m == n) ≡ true → m ≡ n
  same_number m n e = grind arith

  step_times : (path : List Step) (step : Step) (acts : List Act) → HasTimes path acts → HasTimes (path ++ step ∷ []) (acts_at_step step acts)
  step_times path step acts has = at (slice_get (act_regions acts) step.region) refl
    where
      none : HasTimes (path ++ step ∷ []) []
      none = record { start = 0; end = 0; timed = omega arith }

      at : (o : Option TimedRegion) → slice_get (act_regions acts) step.region ≡ o → HasTimes (path ++ step ∷ []) (acts_at_region step o)
      at None e = none
      at (Some region) e = by_span (region.span == step.span) refl where
        by_span : (b : Bool) → (region.span == step.span) ≡ b → HasTimes (path ++ step ∷ []) (if b then lane_acts step.lane region.phases else [])
        by_span false other = none
        by_span true same = of_region (region_times path 0 0 has.start has.end acts step.region region has.timed e) where
          of_region : (from : ℕ) × (until : ℕ) × ArePhasesTimed history path (0 + step.region) region.span (λ lane. 0) (λ lane. 0) from until region.phases → HasTimes (path ++ step ∷ []) (lane_acts step.lane region.phases)
          of_region (from, until, phased) =
              let timed = lane_timed history path (0 + step.region) region.span (λ lane. 0) (λ lane. 0) step.lane from until region.phases phased in
              let number : 0 + step.region ≡ step.region = omega arith in
              record {
                start = from;
                end = until;
                timed = subst (λ (s : ℕ). AreActsTimed history (lane_of path step.region step.lane s) 0 0 from until (lane_acts step.lane region.phases)) (same_number region.span step.span same)
                    (subst (λ (m : ℕ). AreActsTimed history (lane_of path m step.lane region.span) 0 0 from until (lane_acts step.lane region.phases)) number timed);
              }

  pub times_under : (path rest : List Step) (acts : List Act) → HasTimes path acts → HasTimes (path ++ rest) (acts_under acts rest)
  times_under path [] acts has = subst (λ (p : List Step). HasTimes p acts) (sym (append-nil path)) has
  times_under path (step ∷ rest) acts has =
      subst (λ (p : List Step). HasTimes p (acts_under (acts_at_step step acts) rest)) (append_assoc path (step ∷ []) rest) (times_under (path ++ step ∷ []) rest (acts_at_step step acts) (step_times path step acts has))
