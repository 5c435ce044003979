-- How works and phases compose.
use Rattle.std.proofs.Common.{◌≡◌, ◌⊎◌, inl, inr, refl, sym, ap, ap₂, ◌∙◌, ℕ, zero, suc, ◌+◌, ◌*◌, ◌<◌, Bool, cond, List, [], ◌∷◌, ◌++◌, map, arith}
use Rattle.std.specs.Prelude.{count_by}
use Rattle.std.specs.List.{flat_map}
use Rattle.std.proofs.lemmas.Grind.{flat_map-append}
use Rattle.std.proofs.lemmas.List.{append-nil, append_assoc}
use Rattle.std.proofs.lemmas.List.Sums.{sum_by-append}
use Rattle.log_format.specs.declared.record.Record.{Record}
use Rattle.log_format.specs.declared.record.Kind.{Kind}
use Rattle.log_format.specs.declared.record.Kind.TheVariants.{Barrier}
use Rattle.race_model.specs.Trace.{barrier_count, is_barrier_kind}
use Rattle.step_history.specs.declared.item.Item.{Item}
use Rattle.step_history.specs.declared.item.Deed.{Deed}
use Rattle.step_history.specs.declared.item.Deed.TheVariants.{Split, Home}
use Rattle.step_history.specs.History.{Name, item}
use Rattle.history_model.specs.Work.{Work, Rest, Put, Fork, Phases, NoPhase, Phase, TeamWork, NoWork, Beside, fork_record, logged, work_records, work_at, lane_works, then_work, then_phases, phase_count, end_team, end_phases, work_regions, RegionWork}
use Rattle.history_model.specs.Did.{deeds_of, lane_count_of, phase_splits, split_count, splits_of, did, did_phases, did_team, DoesNothing}
use Rattle.history_model.specs.Sound.{WordLayout, IsSound, ArePhasesSound, IsTeamSound, PassesBarrier, PassAllBarriers, PassesNone, EndWithoutBarrier}

pub count_cons : {X : Type 0} (test : X → Bool) (x : X) (xs : List X) → count_by test (x ∷ xs) ≡ count_by test (x ∷ []) + count_by test xs
count_cons {X} test x xs = sum_by-append (λ (y : X). cond (test y) 1 0) (x ∷ []) xs

pub then_records : (work other : Work) → work_records (then_work work other) ≡ work_records work ++ work_records other
then_records Rest other = refl
then_records (Put r more) other = ap (λ (rs : List Record). logged r ∷ rs) (then_records more other)
then_records (Fork line span phases more) other = ap (λ (rs : List Record). fork_record line span ∷ rs) (then_records more other)

pub then_regions : (work other : Work) → work_regions (then_work work other) ≡ work_regions work ++ work_regions other
then_regions Rest other = refl
then_regions (Put r more) other = then_regions more other
then_regions (Fork line span phases more) other = ap (λ (rs : List RegionWork). record { span = span; phases = phases } ∷ rs) (then_regions more other)

pub then_rest : (work : Work) → then_work work Rest ≡ work
then_rest Rest = refl
then_rest (Put r more) = ap (λ (w : Work). Put r w) (then_rest more)
then_rest (Fork line span phases more) = ap (λ (w : Work). Fork line span phases w) (then_rest more)

pub then_assoc : (a b c : Work) → then_work (then_work a b) c ≡ then_work a (then_work b c)
then_assoc Rest b c = refl
then_assoc (Put r more) b c = ap (λ (w : Work). Put r w) (then_assoc more b c)
then_assoc (Fork line span phases more) b c = ap (λ (w : Work). Fork line span phases w) (then_assoc more b c)

pub then_splits : (work other : Work) → split_count (then_work work other) ≡ split_count work + split_count other
then_splits Rest other = omega arith
then_splits (Put r more) other = then_splits more other
then_splits (Fork line span phases more) other = omega (arith, then_splits more other)

pub then_did : (word : ℕ → ℕ) (name : Name) (k : ℕ) (work other : Work) → did word name k (then_work work other) ≡ did word name k work ++ did word name (k + split_count work) other
then_did word name k Rest other = ap (λ (n : ℕ). did word name n other) (let e : k ≡ k + 0 = omega arith in e)
then_did word name k (Put r more) other =
    ap (λ (xs : List Item). map (item name) (deeds_of word r.kind r) ++ xs) (then_did word name k more other)
    ∙ sym (append_assoc (map (item name) (deeds_of word r.kind r)) (did word name k more) (did word name (k + split_count more) other))
then_did word name k (Fork line span phases more) other =
    ap (λ (xs : List Item). did_phases word name k span phases ++ xs) (then_did word name (k + phase_splits phases) more other)
    ∙ sym (append_assoc (did_phases word name k span phases) (did word name (k + phase_splits phases) more) (did word name (k + phase_splits phases + split_count more) other))
    ∙ ap (λ (n : ℕ). (did_phases word name k span phases ++ did word name (k + phase_splits phases) more) ++ did word name n other)
    (let e : k + phase_splits phases + split_count more ≡ k + (phase_splits phases + split_count more) = omega arith in e)

no_barrier_first : (r : Record) (rs : List Record) → barrier_count (r ∷ rs) ≡ 0 → r.kind ≡ Barrier → ⊥
no_barrier_first r rs none is =
    let first : barrier_count (r ∷ []) ≡ 1 = ap (λ (k : Kind). 0 + cond (is_barrier_kind k) 1 0) is in
    let all = count_cons (λ (q : Record). is_barrier_kind q.kind) r rs in
    omega arith

no_barrier_later : (r : Record) (rs : List Record) → barrier_count (r ∷ rs) ≡ 0 → barrier_count rs ≡ 0
no_barrier_later r rs none = let all = count_cons (λ (q : Record). is_barrier_kind q.kind) r rs in omega arith

pub then_sound : (layout : WordLayout) (work other : Work) → IsSound layout work → IsSound layout other → barrier_count (work_records work) ≡ 0 → IsSound layout (then_work work other)
then_sound layout Rest other sound also none = also
then_sound layout (Put r more) other sound also none =
    (sound.0, (λ is. absurd (no_barrier_first r (work_records more) none is)), then_sound layout more other sound.2 also (no_barrier_later r (work_records more) none))
then_sound layout (Fork line span phases more) other sound also none = (sound.0, then_sound layout more other sound.1 also (no_barrier_later (fork_record line span) (work_records more) none))

pub phases_splits_sum : (phases later : Phases) → phase_splits (then_phases phases later) ≡ phase_splits phases + phase_splits later
phases_splits_sum NoPhase later = omega arith
phases_splits_sum (Phase team more) later = omega (arith, phases_splits_sum more later)

pub phases_did : (word : ℕ → ℕ) (name : Name) (k span : ℕ) (phases later : Phases)
    → did_phases word name k span (then_phases phases later) ≡ did_phases word name k span phases ++ did_phases word name (k + phase_splits phases) span later
phases_did word name k span NoPhase later = ap (λ (n : ℕ). did_phases word name n span later) (let e : k ≡ k + 0 = omega arith in e)
phases_did word name k span (Phase team more) later =
    ap (λ (xs : List Item). (splits_of name k 0 span team ++ did_team word name k team) ++ xs) (phases_did word name (k + lane_count_of team) span more later)
    ∙ sym (append_assoc (splits_of name k 0 span team ++ did_team word name k team) (did_phases word name (k + lane_count_of team) span more) (did_phases word name (k + lane_count_of team + phase_splits more) span later))
    ∙ ap (λ (n : ℕ). ((splits_of name k 0 span team ++ did_team word name k team) ++ did_phases word name (k + lane_count_of team) span more) ++ did_phases word name n span later)
    (let e : k + lane_count_of team + phase_splits more ≡ k + (lane_count_of team + phase_splits more) = omega arith in e)

pub phases_works : (lane : ℕ) (phases later : Phases) → lane_works lane (then_phases phases later) ≡ lane_works lane phases ++ lane_works lane later
phases_works lane NoPhase later = refl
phases_works lane (Phase team more) later = ap (λ (ws : List Work). work_at lane team ++ ws) (phases_works lane more later) ∙ sym (append_assoc (work_at lane team) (lane_works lane more) (lane_works lane later))

pub phases_sound : (layout : WordLayout) (span : ℕ) (phases later : Phases) → ArePhasesSound layout span phases → ArePhasesSound layout span later → PassAllBarriers phases → ArePhasesSound layout span (then_phases phases later)
phases_sound layout span NoPhase later sound also pass = also
phases_sound layout span (Phase team more) later sound also pass = (sound.0, sound.1, inr pass.0, phases_sound layout span more later sound.3 also pass.1)

pub phases_pass : (phases : Phases) (team : TeamWork) → PassAllBarriers phases → PassesBarrier team → PassAllBarriers (then_phases phases (Phase team NoPhase))
phases_pass NoPhase team pass last = (last, tt)
phases_pass (Phase first more) team pass last = (pass.0, phases_pass more team pass.1 last)

pub phases_count : (layout : WordLayout) (span : ℕ) (phases : Phases) → ArePhasesSound layout span phases → phase_splits phases ≡ phase_count phases * span
phases_count layout span NoPhase sound = omega arith
phases_count layout span (Phase team later) sound = let rest = phases_count layout span later sound.3 in let first : lane_count_of team ≡ span = sound.0 in grind arith

-- what does nothing changes no steps
nothing_did : (word : ℕ → ℕ) (name : Name) (k : ℕ) (work : Work) → DoesNothing word work → did word name k work ≡ []
nothing_did word name k Rest none = refl
nothing_did word name k (Put r more) none = ap₂ (λ (xs ys : List Item). xs ++ ys) (ap (λ (ds : List Deed). map (item name) ds) none.0) (nothing_did word name k more none.1)
nothing_did word name k (Fork line span phases more) none = absurd none

end_did : (word : ℕ → ℕ) (name : Name) (k : ℕ) (work last : Work) → DoesNothing word last → did word name k (then_work work last) ≡ did word name k work
end_did word name k work last none =
    then_did word name k work last ∙ ap (λ (xs : List Item). did word name k work ++ xs) (nothing_did word name (k + split_count work) last none) ∙ append-nil (did word name k work)

end_lanes : (last : ℕ → Work) (lane : ℕ) (team : TeamWork) → lane_count_of (end_team last lane team) ≡ lane_count_of team
end_lanes last lane NoWork = refl
end_lanes last lane (Beside work others) = ap (λ (n : ℕ). suc n) (end_lanes last (suc lane) others)

end_splits_of : (name : Name) (k at span : ℕ) (last : ℕ → Work) (lane : ℕ) (team : TeamWork) → splits_of name k at span (end_team last lane team) ≡ splits_of name k at span team
end_splits_of name k at span last lane NoWork = refl
end_splits_of name k at span last lane (Beside work others) = ap (λ (xs : List Item). item name (Split k at span) ∷ xs) (end_splits_of name (suc k) (suc at) span last (suc lane) others)

end_team_did : (word : ℕ → ℕ) (name : Name) (k : ℕ) (last : ℕ → Work) (lane : ℕ) (team : TeamWork) → ((l : ℕ) → DoesNothing word (last l)) → did_team word name k (end_team last lane team) ≡ did_team word name k team
end_team_did word name k last lane NoWork none = refl
end_team_did word name k last lane (Beside work others) none =
    ap₂ (λ (xs ys : List Item). xs ++ item name (Home k) ∷ ys) (end_did word (k ∷ name) 0 work (last lane) (none lane)) (end_team_did word name (suc k) last (suc lane) others none)

pub end_phases_did : (word : ℕ → ℕ) (name : Name) (k span : ℕ) (last : ℕ → Work) (phases : Phases) → ((l : ℕ) → DoesNothing word (last l)) → did_phases word name k span (end_phases last phases) ≡ did_phases word name k span phases
end_phases_did word name k span last NoPhase none = refl
end_phases_did word name k span last (Phase team NoPhase) none =
    ap₂ (λ (xs ys : List Item). (xs ++ ys) ++ []) (end_splits_of name k 0 span last 0 team) (end_team_did word name k last 0 team none)
end_phases_did word name k span last (Phase team (Phase next later)) none =
    ap (λ (xs : List Item). (splits_of name k 0 span team ++ did_team word name k team) ++ xs) (end_phases_did word name (k + lane_count_of team) span last (Phase next later) none)

pub end_phases_splits : (last : ℕ → Work) (phases : Phases) → phase_splits (end_phases last phases) ≡ phase_splits phases
end_phases_splits last NoPhase = refl
end_phases_splits last (Phase team NoPhase) = ap (λ (n : ℕ). n + 0) (end_lanes last 0 team)
end_phases_splits last (Phase team (Phase next later)) = ap (λ (n : ℕ). lane_count_of team + n) (end_phases_splits last (Phase next later))

-- each lane's log goes on with it
end_works : (last : ℕ → Work) (first lane : ℕ) (team : TeamWork) → lane < lane_count_of team
    → flat_map work_records (work_at lane (end_team last first team)) ≡ flat_map work_records (work_at lane team) ++ work_records (last (first + lane))
end_works last first lane NoWork less = absurd (omega arith)
end_works last first zero (Beside work others) less =
    append-nil (work_records (then_work work (last first))) ∙ then_records work (last first)
    ∙ ap₂ (λ (rs : List Record) (l : ℕ). rs ++ work_records (last l)) (sym (append-nil (work_records work))) (let e : first ≡ first + 0 = omega arith in e)
end_works last first (suc lane) (Beside work others) less =
    end_works last (suc first) lane others (omega arith)
    ∙ ap (λ (l : ℕ). flat_map work_records (work_at lane others) ++ work_records (last l)) (let e : suc first + lane ≡ first + suc lane = omega arith in e)

pub end_phases_works : (layout : WordLayout) (span lane : ℕ) (last : ℕ → Work) (phases : Phases) → ArePhasesSound layout span phases → lane < span → (phases ≡ NoPhase → ⊥)
    → flat_map work_records (lane_works lane (end_phases last phases)) ≡ flat_map work_records (lane_works lane phases) ++ work_records (last lane)
end_phases_works layout span lane last NoPhase sound less some = absurd (some refl)
end_phases_works layout span lane last (Phase team NoPhase) sound less some =
    ap (λ (ws : List Work). flat_map work_records ws) (append-nil (work_at lane (end_team last 0 team)))
    ∙ end_works last 0 lane team (omega (arith, sound.0))
    ∙ ap₂ (λ (ws : List Work) (l : ℕ). flat_map work_records ws ++ work_records (last l)) (sym (append-nil (work_at lane team))) (let e : 0 + lane ≡ lane = omega arith in e)
end_phases_works layout span lane last (Phase team (Phase next later)) sound less some =
    flat_map-append work_records (work_at lane team) (lane_works lane (end_phases last (Phase next later)))
    ∙ ap (λ (rs : List Record). flat_map work_records (work_at lane team) ++ rs) (end_phases_works layout span lane last (Phase next later) sound.3 less (λ e. cc))
    ∙ sym (append_assoc (flat_map work_records (work_at lane team)) (flat_map work_records (lane_works lane (Phase next later))) (work_records (last lane)))
    ∙ ap (λ (rs : List Record). rs ++ work_records (last lane)) (sym (flat_map-append work_records (work_at lane team) (lane_works lane (Phase next later))))

end_team_sound : (layout : WordLayout) (last : ℕ → Work) (lane : ℕ) (team : TeamWork) → IsTeamSound layout team → PassesNone team → ((l : ℕ) → IsSound layout (last l)) → IsTeamSound layout (end_team last lane team)
end_team_sound layout last lane NoWork sound none also = tt
end_team_sound layout last lane (Beside work others) sound none also = (then_sound layout work (last lane) sound.0 (also lane) none.0, end_team_sound layout last (suc lane) others sound.1 none.1 also)

pub end_phases_sound : (layout : WordLayout) (span : ℕ) (last : ℕ → Work) (phases : Phases) → ArePhasesSound layout span phases → EndWithoutBarrier phases → ((l : ℕ) → IsSound layout (last l)) → ArePhasesSound layout span (end_phases last phases)
end_phases_sound layout span last NoPhase sound none also = tt
end_phases_sound layout span last (Phase team NoPhase) sound none also = (end_lanes last 0 team ∙ sound.0, end_team_sound layout last 0 team sound.1 none also, inl refl, tt)
end_phases_sound layout span last (Phase team (Phase next later)) sound none also = (sound.0, sound.1, inr (passed sound.2), end_phases_sound layout span last (Phase next later) sound.3 none also) where
  passed : (Phase next later ≡ NoPhase) ⊎ PassesBarrier team → PassesBarrier team
  passed (inl none_left) = cc
  passed (inr all) = all
