-- A lane goes on after a barrier only once its team has passed it.
use Rattle.std.proofs.Common.{◌≡◌, ◌⊎◌, inl, inr, refl, sym, ap, ◌∙◌, subst, ℕ, zero, suc, ◌+◌, ◌-◌, ◌<◌, ◌≤◌, Bool, true, false, cond, List, [], ◌∷◌, ◌++◌, length, take, Option, Some, None, arith}
use Rattle.std.specs.Prelude.{slice_get, if◌then◌else◌, ◌==◌}
use Rattle.std.specs.List.{flat_map}
use Rattle.std.proofs.lemmas.Bool.{cases_lt}
use Rattle.std.proofs.lemmas.List.{append-nil, take-append-le, length-append}
use Rattle.std.proofs.lemmas.Grind.{flat_map-append}
use Rattle.sw_base.specs.declared.path.Step.{Step}
use Rattle.log_format.specs.declared.record.Record.{Record}
use Rattle.log_format.specs.declared.record.Kind.{Kind}
use Rattle.log_format.specs.declared.record.Kind.TheVariants.{Barrier}
use Rattle.race_model.specs.Listing.{lane_of}
use Rattle.race_model.specs.Trace.{Node, barrier_count, is_barrier_kind, regions_before}
use Rattle.race_model.specs.Order.{IsLane}
use Rattle.race_model.proofs.Counted.{barriers_both}
use Rattle.history_model.specs.Work.{Work, Rest, Put, Fork, Phases, NoPhase, Phase, TeamWork, NoWork, Beside, RegionWork, fork_record, work_records, work_regions, work_at, lane_works, works_at_region, works_at_step, works_under, works_of, task_logs}
use Rattle.history_model.specs.Did.{lane_count_of}
use Rattle.history_model.specs.Sound.{WordLayout, IsSound, ArePhasesSound, IsTeamSound, PassesBarrier}
use Rattle.history_model.proofs.Parts.{count_cons}
use Rattle.history_laws.proofs.TeamBarriers.{take_past}
use Rattle.history_laws.proofs.TaskTree.{sound_regions, sound_works_under}

is_barrier_or_not : (k : Kind) → (k ≡ Barrier) ⊎ (is_barrier_kind k ≡ false)
is_barrier_or_not Barrier = inl refl
is_barrier_or_not _ = inr refl

-- no barrier stands before the last record of a work
pub none_before_last : (layout : WordLayout) (work : Work) (i : ℕ) → IsSound layout work → i < length (work_records work) → barrier_count (take i (work_records work)) ≡ 0
none_before_last layout work zero sound less = refl
none_before_last layout Rest (suc i) sound less = absurd (omega arith)
none_before_last layout (Put r more) (suc i) sound less =
    let rest = none_before_last layout more i sound.2 (omega arith) in
    let all = count_cons (λ (q : Record). is_barrier_kind q.kind) r (take i (work_records more)) in
    at (is_barrier_or_not r.kind) rest all
  where
    at : (r.kind ≡ Barrier) ⊎ (is_barrier_kind r.kind ≡ false) → barrier_count (take i (work_records more)) ≡ 0 → barrier_count (r ∷ take i (work_records more)) ≡ barrier_count (r ∷ []) + barrier_count (take i (work_records more))
        → barrier_count (r ∷ take i (work_records more)) ≡ 0
    at (inl is) rest all = let none : length (work_records more) ≡ 0 = ap (λ (w : Work). length (work_records w)) (sound.1 is) in absurd (omega arith)
    at (inr other) rest all = let first : barrier_count (r ∷ []) ≡ 0 = ap (λ (b : Bool). 0 + cond b 1 0) other in omega arith
none_before_last layout (Fork line span phases more) (suc i) sound less =
    let rest = none_before_last layout more i sound.1 (omega arith) in
    let all = count_cons (λ (q : Record). is_barrier_kind q.kind) (fork_record line span) (take i (work_records more)) in
    omega arith

team_before_last : (layout : WordLayout) (lane : ℕ) (team : TeamWork) (i : ℕ) → IsTeamSound layout team → i < length (flat_map work_records (work_at lane team)) → barrier_count (take i (flat_map work_records (work_at lane team))) ≡ 0
team_before_last layout lane NoWork i sound less = absurd (omega arith)
team_before_last layout zero (Beside work others) i sound less =
    subst (λ (rs : List Record). i < length rs → barrier_count (take i rs) ≡ 0) (sym (append-nil (work_records work))) (none_before_last layout work i sound.0) less
team_before_last layout (suc lane) (Beside work others) i sound less = team_before_last layout lane others i sound.1 less

pub team_passes : (lane : ℕ) (team : TeamWork) → lane < lane_count_of team → PassesBarrier team → barrier_count (flat_map work_records (work_at lane team)) ≡ 1
team_passes lane NoWork less passes = absurd (omega arith)
team_passes zero (Beside work others) less passes = ap (λ (rs : List Record). barrier_count rs) (append-nil (work_records work)) ∙ passes.0
team_passes (suc lane) (Beside work others) less passes = team_passes lane others (omega arith) passes.1

met_in_phases : (layout : WordLayout) (span lane other : ℕ) (phases : Phases) (i : ℕ) → ArePhasesSound layout span phases → lane < span → other < span → i < length (flat_map work_records (lane_works lane phases))
    → barrier_count (take i (flat_map work_records (lane_works lane phases))) ≤ barrier_count (flat_map work_records (lane_works other phases))
met_in_phases layout span lane other NoPhase i sound less other_less within = absurd (omega arith)
met_in_phases layout span lane other (Phase team later) i sound less other_less within =
    at (cases_lt i (length mine)) (λ (j : ℕ) more. met_in_phases layout span lane other later j sound.3 less other_less more)
  where
    mine : List Record
    mine = flat_map work_records (work_at lane team)

    yours : List Record
    yours = flat_map work_records (work_at other team)

    my_parts : flat_map work_records (lane_works lane (Phase team later)) ≡ mine ++ flat_map work_records (lane_works lane later)
    my_parts = flat_map-append work_records (work_at lane team) (lane_works lane later)

    your_parts : flat_map work_records (lane_works other (Phase team later)) ≡ yours ++ flat_map work_records (lane_works other later)
    your_parts = flat_map-append work_records (work_at other team) (lane_works other later)

    sizes : length (flat_map work_records (lane_works lane (Phase team later))) ≡ length mine + length (flat_map work_records (lane_works lane later))
    sizes = ap length my_parts ∙ length-append mine (flat_map work_records (lane_works lane later))

    yours_all : barrier_count (flat_map work_records (lane_works other (Phase team later))) ≡ barrier_count yours + barrier_count (flat_map work_records (lane_works other later))
    yours_all = ap (λ (rs : List Record). barrier_count rs) your_parts ∙ barriers_both yours (flat_map work_records (lane_works other later))

    at : (i < length mine) ⊎ (length mine ≤ i)
        → ((j : ℕ) → j < length (flat_map work_records (lane_works lane later)) → barrier_count (take j (flat_map work_records (lane_works lane later))) ≤ barrier_count (flat_map work_records (lane_works other later)))
        → barrier_count (take i (flat_map work_records (lane_works lane (Phase team later)))) ≤ barrier_count (flat_map work_records (lane_works other (Phase team later)))
    at (inl early) rest =
        let none : barrier_count (take i (flat_map work_records (lane_works lane (Phase team later)))) ≡ 0
        = ap (λ (rs : List Record). barrier_count (take i rs)) my_parts ∙ ap (λ (rs : List Record). barrier_count rs) (take-append-le i mine (flat_map work_records (lane_works lane later)) (omega arith))
        ∙ team_before_last layout lane team i sound.1 early in
        omega arith
    at (inr late) rest = by_pass sound.2
      where
        within_later : i - length mine < length (flat_map work_records (lane_works lane later))
        within_later = omega (arith, sizes)

        my_all : barrier_count (take i (flat_map work_records (lane_works lane (Phase team later)))) ≡ barrier_count mine + barrier_count (take (i - length mine) (flat_map work_records (lane_works lane later)))
        my_all =
            ap (λ (rs : List Record). barrier_count (take i rs)) my_parts
            ∙ ap (λ (n : ℕ). barrier_count (take n (mine ++ flat_map work_records (lane_works lane later)))) (let e : i ≡ length mine + (i - length mine) = omega arith in e)
            ∙ ap (λ (rs : List Record). barrier_count rs) (take_past mine (flat_map work_records (lane_works lane later)) (i - length mine))
            ∙ barriers_both mine (take (i - length mine) (flat_map work_records (lane_works lane later)))

        by_pass : (later ≡ NoPhase) ⊎ PassesBarrier team → barrier_count (take i (flat_map work_records (lane_works lane (Phase team later)))) ≤ barrier_count (flat_map work_records (lane_works other (Phase team later)))
        by_pass (inl none) =
            let empty : length (flat_map work_records (lane_works lane later)) ≡ 0 = ap (λ (p : Phases). length (flat_map work_records (lane_works lane p))) none in
            absurd (omega (arith, within_later))
        by_pass (inr passes) =
            let one = team_passes lane team (omega (arith, sound.0)) passes in
            let also = team_passes other team (omega (arith, sound.0)) passes in
            let more = rest (i - length mine) within_later in
            omega (arith, my_all, yours_all)

-- the works of a lane of a region
pub works_lane : (root : Work) (path : List Step) (step : Step) → works_of root (path ++ step ∷ []) ≡ works_at_step step (works_of root path)
works_lane root path step = under (root ∷ []) path where
  under : (works : List Work) (p : List Step) → works_under works (p ++ step ∷ []) ≡ works_at_step step (works_under works p)
  under works [] = refl
  under works (s ∷ p) = under (works_at_step s works) p

span_is : (m n : ℕ) → (m == n) ≡ true → m ≡ n
span_is m n e = grind arith

pub barriers_met : (layout : WordLayout) (root : Work) (fork : Node) (lane other span : ℕ) (path beside : List Step) (i : ℕ) → IsSound layout root
    → IsLane (task_logs root) fork lane span path → IsLane (task_logs root) fork other span beside → i < length (task_logs root path)
    → barrier_count (take i (task_logs root path)) ≤ barrier_count (task_logs root beside)
barriers_met layout root fork lane other span path beside i sound mine yours within =
    subst (λ (rs : List Record). i < length rs → barrier_count (take i rs) ≤ barrier_count (task_logs root beside)) (sym (log_of lane path mine.child))
    (λ here. subst (λ (rs : List Record). barrier_count (take i (flat_map work_records (works_of_lane lane))) ≤ barrier_count rs) (sym (log_of other beside yours.child))
    (at (slice_get (flat_map work_regions works) number) refl here)) within
  where
    works : List Work
    works = works_of root fork.path

    number : ℕ
    number = regions_before (task_logs root) fork

    step_of : ℕ → Step
    step_of l = record { region = number; lane = l; span = span }

    works_of_lane : ℕ → List Work
    works_of_lane l = works_at_step (step_of l) works

    log_of : (l : ℕ) (p : List Step) → p ≡ lane_of fork.path number l span → task_logs root p ≡ flat_map work_records (works_of_lane l)
    log_of l p is = ap (λ (q : List Step). task_logs root q) is ∙ ap (λ (ws : List Work). flat_map work_records ws) (works_lane root fork.path (step_of l))

    at : (o : Option RegionWork) → slice_get (flat_map work_regions works) number ≡ o → i < length (flat_map work_records (works_at_region (step_of lane) (slice_get (flat_map work_regions works) number)))
        → barrier_count (take i (flat_map work_records (works_at_region (step_of lane) (slice_get (flat_map work_regions works) number)))) ≤ barrier_count (flat_map work_records (works_at_region (step_of other) (slice_get (flat_map work_regions works) number)))
    at o e = subst (λ (q : Option RegionWork). i < length (flat_map work_records (works_at_region (step_of lane) q)) → barrier_count (take i (flat_map work_records (works_at_region (step_of lane) q))) ≤ barrier_count (flat_map work_records (works_at_region (step_of other) q))) (sym e) (of_region o e)
      where
        of_region : (q : Option RegionWork) → slice_get (flat_map work_regions works) number ≡ q → i < length (flat_map work_records (works_at_region (step_of lane) q))
            → barrier_count (take i (flat_map work_records (works_at_region (step_of lane) q))) ≤ barrier_count (flat_map work_records (works_at_region (step_of other) q))
        of_region None found here = absurd (omega arith)
        of_region (Some region) found here = by_span (region.span == span) refl here where
          by_span : (b : Bool) → (region.span == span) ≡ b → i < length (flat_map work_records (if b then lane_works lane region.phases else []))
              → barrier_count (take i (flat_map work_records (if b then lane_works lane region.phases else []))) ≤ barrier_count (flat_map work_records (if b then lane_works other region.phases else []))
          by_span false same less = absurd (omega arith)
          by_span true same less =
              let spans = span_is region.span span same in
              met_in_phases layout region.span lane other region.phases i (sound_regions layout works number region (sound_works_under layout (root ∷ []) fork.path (sound, tt)) found)
              (omega (arith, mine.in_span)) (omega (arith, yours.in_span)) less
