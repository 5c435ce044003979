-- Phases of a team, one after another.
use Rattle.std.proofs.Common.{◌≡◌, inl, refl, ap, sym, ◌∙◌, subst, ℕ, zero, suc, ◌+◌, ◌<◌, Bool, true, false, List, [], ◌∷◌, ◌++◌, arith, append_assoc}
use Rattle.std.specs.Prelude.{nat_lt}
use Rattle.std.proofs.lemmas.Bool.{ltb-true, ltb-false}
use Rattle.std.proofs.lemmas.List.{append-nil}
use Rattle.race_model.specs.Trace.{barrier_count}
use Rattle.kernel_syntax.specs.declared.syntax.Array.{Array}
use Rattle.step_history.specs.declared.item.Item.{Item}
use Rattle.step_history.specs.History.{Name}
use Rattle.shared_words.specs.declared.view.View.{View}
use Rattle.shared_words.specs.Handles.{HandValue, with_view}
use Rattle.shared_words.specs.Views.{IsAtRest, newcomer}
use Rattle.history_model.specs.Work.{Work, Rest, Phases, NoPhase, Phase, TeamWork, NoWork, Beside, work_records, work_at, lane_works, then_phases}
use Rattle.history_model.specs.Did.{lane_count_of, phase_splits, did_phases}
use Rattle.history_model.specs.Sound.{WordLayout, IsSound, IsTeamSound, PassesBarrier, PassAllBarriers}
use Rattle.history_model.specs.Joined.{LastIsEnd, IsJoined, IsTeamJoined, ArePhasesJoined, TeamEnds, PhasesEnd}
use Rattle.history_model.proofs.Parts.{phases_splits_sum, phases_did, phases_works, phases_sound}
use Rattle.lane_runner.specs.Forking.{after_phases}
use Rattle.lane_runner.specs.Going.{worked}
use Rattle.execution_model.specs.Elements.{element_word, layout_of}
use Rattle.region_runner.specs.Hands.{HaveWorked, joined_with, parted_for}
use Rattle.region_runner.specs.Team.{team_of_works, DidWork, DidPhases}
use Rattle.region_runner.proofs.JoinedHands.{did_phase}

-- ---- a work for each lane

-- works, of which those below a number have the property
pub record Works (count : ℕ) (P : ℕ → Work → Type 0) : Type 0 where
  pub work : ℕ → Work
  pub each : (lane : ℕ) → lane < count → P lane (work lane)

pub choose : (count : ℕ) (P : ℕ → Work → Type 0) → ((lane : ℕ) → lane < count → (work : Work) × P lane work) → Works count P
choose count P some = record { work = λ lane. (by lane (nat_lt lane count) refl).0; each = λ lane less. (by lane (nat_lt lane count) refl).1 less } where
  by : (lane : ℕ) (is_less : Bool) → nat_lt lane count ≡ is_less → (work : Work) × (lane < count → P lane work)
  by lane true is = let s = some lane (ltb-true lane count is) in (s.0, λ less. s.1)
  by lane false is = (Rest, λ less. let past = ltb-false lane count is in absurd (omega arith))

-- ---- the works of a team

pub team_count : (lane count : ℕ) (works : ℕ → Work) → lane_count_of (team_of_works lane count works) ≡ count
team_count lane zero works = refl
team_count lane (suc count) works = ap (λ (n : ℕ). suc n) (team_count (suc lane) count works)

team_at : (first count k : ℕ) (works : ℕ → Work) → k < count → work_at k (team_of_works first count works) ≡ works (first + k) ∷ []
team_at first zero k works less = absurd (omega arith)
team_at first (suc count) zero works less = ap (λ (n : ℕ). works n ∷ []) (let e : first ≡ first + 0 = omega arith in e)
team_at first (suc count) (suc k) works less = team_at (suc first) count k works (omega arith) ∙ ap (λ (n : ℕ). works n ∷ []) (let e : suc first + k ≡ first + suc k = omega arith in e)

pub work_of_lane : (count k : ℕ) (works : ℕ → Work) → k < count → work_at k (team_of_works 0 count works) ≡ works k ∷ []
work_of_lane count k works less = team_at 0 count k works less ∙ ap (λ (n : ℕ). works n ∷ []) (let e : 0 + k ≡ k = omega arith in e)

module _ (P : Work → Type 0) (Q : TeamWork → Type 0) (none : Q NoWork) (one : (work : Work) (others : TeamWork) → P work → Q others → Q (Beside work others)) where
  from : (first count : ℕ) (works : ℕ → Work) → ((k : ℕ) → k < count → P (works (first + k))) → Q (team_of_works first count works)
  from first zero works each = none
  from first (suc count) works each =
      one (works first) (team_of_works (suc first) count works) (subst (λ (n : ℕ). P (works n)) (let e : first + 0 ≡ first = omega arith in e) (each 0 (omega arith)))
      (from (suc first) count works (λ k less. subst (λ (n : ℕ). P (works n)) (let e : first + suc k ≡ suc first + k = omega arith in e) (each (suc k) (omega arith))))

  pub of_each : (count : ℕ) (works : ℕ → Work) → ((k : ℕ) → k < count → P (works k)) → Q (team_of_works 0 count works)
  of_each count works each = from 0 count works (λ k less. subst (λ (n : ℕ). P (works n)) (let e : k ≡ 0 + k = omega arith in e) (each k less))

pub team_sound : (layout : WordLayout) (count : ℕ) (works : ℕ → Work) → ((k : ℕ) → k < count → IsSound layout (works k)) → IsTeamSound layout (team_of_works 0 count works)
team_sound layout count works each = of_each (λ work. IsSound layout work) (λ team. IsTeamSound layout team) tt (λ work others x xs. (x, xs)) count works each

pub team_joined : (count : ℕ) (works : ℕ → Work) → ((k : ℕ) → k < count → IsJoined (works k)) → IsTeamJoined (team_of_works 0 count works)
team_joined count works each = of_each IsJoined IsTeamJoined tt (λ work others x xs. (x, xs)) count works each

pub team_passes : (count : ℕ) (works : ℕ → Work) → ((k : ℕ) → k < count → barrier_count (work_records (works k)) ≡ 1) → PassesBarrier (team_of_works 0 count works)
team_passes count works each = of_each (λ work. barrier_count (work_records work) ≡ 1) PassesBarrier tt (λ work others x xs. (x, xs)) count works each

pub team_ends : (count : ℕ) (works : ℕ → Work) → ((k : ℕ) → k < count → LastIsEnd (work_records (works k))) → TeamEnds (team_of_works 0 count works)
team_ends count works each = of_each (λ work. LastIsEnd (work_records work)) TeamEnds tt (λ work others x xs. (x, xs)) count works each

-- ---- one phase

-- the views of so many lanes' hands, from this one on
abbrev pub views_from : ℕ → ℕ → (ℕ → View) → List View
views_from lane zero view = []
views_from lane (suc count) view = view lane ∷ views_from (suc lane) count view

hands_from : (word : ℕ → ℕ) (name : Name) (first k count : ℕ) (works : ℕ → Work) (view : ℕ → View) → ((i : ℕ) → i < count → view (first + i) ≡ worked word (newcomer ((k + i) ∷ name)) (works (first + i)))
    → HaveWorked word name k (team_of_works first count works) (views_from first count view)
hands_from word name first k zero works view each = tt
hands_from word name first k (suc count) works view each = (
  subst (λ (n : ℕ). view n ≡ worked word (newcomer (k ∷ name)) (works n)) (let e : first + 0 ≡ first = omega arith in e)
      (each 0 (omega arith) ∙ ap (λ (n : ℕ). worked word (newcomer (n ∷ name)) (works (first + 0))) (let e : k + 0 ≡ k = omega arith in e)),
  hands_from word name (suc first) (suc k) count works view
      (λ i less.
      subst (λ (n : ℕ). view n ≡ worked word (newcomer ((suc k + i) ∷ name)) (works n)) (let e : first + suc i ≡ suc first + i = omega arith in e)
      (each (suc i) (omega arith) ∙ ap (λ (n : ℕ). worked word (newcomer (n ∷ name)) (works (first + suc i))) (let e : k + suc i ≡ suc k + i = omega arith in e))),
)

-- what the lanes did in a phase, once their hands are joined
pub phase_did : (arrays : List Array) (span : ℕ) (old new : HandValue View) (works : ℕ → Work) (hand : ℕ → HandValue View) (start : ℕ → HandValue View) → IsAtRest old.view → old.view.out ≡ []
    → ((k : ℕ) → k < span → (start k).view ≡ newcomer ((old.view.splits + k) ∷ old.view.name)) → ((k : ℕ) → k < span → DidWork arrays (start k) (hand k) (works k))
    → new ≡ with_view old (joined_with (views_from 0 span (λ k. (hand k).view)) (parted_for 0 span span old.view)) → DidPhases arrays span old new (Phase (team_of_works 0 span works) NoPhase)
phase_did arrays span old new works hand start rests none begun did home = record {
  sound = (team_count 0 span works, team_sound (layout_of arrays) span works (λ k less. (did k less).sound), inl refl, tt);
  joined = (team_joined span works (λ k less. (did k less).joined), tt);
  hand = home ∙ ap (λ (v : View). with_view old v) (did_phase (element_word arrays) span (team_of_works 0 span works) old.view (views_from 0 span (λ k. (hand k).view)) rests none (team_count 0 span works) have);
}
  where
    have : HaveWorked (element_word arrays) old.view.name old.view.splits (team_of_works 0 span works) (views_from 0 span (λ k. (hand k).view))
    have = hands_from (element_word arrays) old.view.name 0 old.view.splits span works (λ k. (hand k).view)
        (λ i less.
        subst (λ (n : ℕ). (hand n).view ≡ worked (element_word arrays) (newcomer ((old.view.splits + i) ∷ old.view.name)) (works n)) (let e : i ≡ 0 + i = omega arith in e)
        (ap (λ (h : HandValue View). h.view) (did i less).hand ∙ ap (λ (v : View). worked (element_word arrays) v (works i)) (begun i less)))

-- ---- phases

phases_joined : (phases later : Phases) → ArePhasesJoined phases → ArePhasesJoined later → ArePhasesJoined (then_phases phases later)
phases_joined NoPhase later one more = more
phases_joined (Phase team rest) later one more = (one.0, phases_joined rest later one.1 more)

after_both : (word : ℕ → ℕ) (span : ℕ) (phases later : Phases) (v : View) → after_phases word span later (after_phases word span phases v) ≡ after_phases word span (then_phases phases later) v
after_both word span phases later v = λ i. record v {
  splits = (let e : v.splits + phase_splits phases + phase_splits later ≡ v.splits + phase_splits (then_phases phases later) = omega (arith, phases_splits_sum phases later) in e) i;
  items = (append_assoc v.items (did_phases word v.name v.splits span phases) (did_phases word v.name (v.splits + phase_splits phases) span later)
      ∙ ap (λ (xs : List Item). v.items ++ xs) (sym (phases_did word v.name v.splits span phases later))) i;
}

pub none_did : (arrays : List Array) (span : ℕ) (old : HandValue View) → old.there ≡ true → DidPhases arrays span old old NoPhase
none_did arrays span old there = record {
  sound = tt;
  joined = tt;
  hand = λ i. record old { there = there i; view = record old.view { splits = (let e : old.view.splits ≡ old.view.splits + 0 = omega arith in e) i; items = sym (append-nil old.view.items) i } };
}

pub phases_did_more : (arrays : List Array) (span : ℕ) (old mid new : HandValue View) (phases later : Phases) → DidPhases arrays span old mid phases → PassAllBarriers phases → DidPhases arrays span mid new later
    → DidPhases arrays span old new (then_phases phases later)
phases_did_more arrays span old mid new phases later one pass more = record {
  sound = phases_sound (layout_of arrays) span phases later one.sound more.sound pass;
  joined = phases_joined phases later one.joined more.joined;
  hand =
      more.hand
      ∙ ap (λ (h : HandValue View). with_view h (after_phases (element_word arrays) span later h.view)) one.hand
      ∙ ap (λ (v : View). with_view old v) (after_both (element_word arrays) span phases later old.view);
}

-- the works of a lane, with those of one phase more
pub lane_works_more : (span lane : ℕ) (phases : Phases) (works : ℕ → Work) → lane < span
    → lane_works lane (then_phases phases (Phase (team_of_works 0 span works) NoPhase)) ≡ lane_works lane phases ++ works lane ∷ []
lane_works_more span lane phases works less =
    phases_works lane phases (Phase (team_of_works 0 span works) NoPhase)
    ∙ ap (λ (ws : List Work). lane_works lane phases ++ ws) (append-nil (work_at lane (team_of_works 0 span works)) ∙ work_of_lane span lane works less)

-- the last phase is that of the End records
pub phases_end : (phases : Phases) (team : TeamWork) → TeamEnds team → PhasesEnd (then_phases phases (Phase team NoPhase))
phases_end NoPhase team ends = ends
phases_end (Phase first NoPhase) team ends = ends
phases_end (Phase first (Phase next later)) team ends = phases_end (Phase next later) team ends
