-- The logs that the lanes of a region hand on, lane after lane.
use Rattle.std.proofs.Common.{◌≡◌, inl, inr, refl, ap, sym, ◌∙◌, subst, ℕ, zero, suc, ◌+◌, ◌<◌, List, [], ◌∷◌, ◌++◌, Some, append_assoc, arith}
use Rattle.std.proofs.lemmas.List.{append-nil, append_cancel_left}
use Rattle.sw_base.specs.declared.path.Step.{Step}
use Rattle.sw_base.specs.declared.trouble.Trouble.TheVariants.{Memory}
use Rattle.race_model.specs.Listing.{lane_of}
use Rattle.history_model.specs.Work.{Phases, lane_works}
use Rattle.lane_runner.specs.declared.stop.Stop.{Stop}
use Rattle.lane_runner.specs.declared.stop.Stop.TheVariants.{Trouble}
use Rattle.lane_runner.specs.Handed.{HandedEntry, LogPlace, MaybeStop, MayLack, TaskHands, RegionsHand, LanesHand, TellStop, HandsOn}
use Rattle.region_runner.specs.Team.{handed_by}

lanes_from : (place : LogPlace) (stop : MaybeStop) (at : List Step) (number span : ℕ) (phases : Phases) (entries : ℕ → List HandedEntry) (first count : ℕ)
    → ((i : ℕ) → i < count → TaskHands place stop (lane_of at number (first + i) span) (lane_works (first + i) phases) (entries (first + i)))
    → LanesHand place stop at number (record { span = span; phases = phases }) first count (handed_by entries first count)
lanes_from place stop at number span phases entries first zero each = LanesHand.no_lane at number (record { span = span; phases = phases }) first
lanes_from place stop at number span phases entries first (suc count) each =
    LanesHand.lane at number (record { span = span; phases = phases }) first count (entries first) (handed_by entries (suc first) count)
    (subst (λ (n : ℕ). TaskHands place stop (lane_of at number n span) (lane_works n phases) (entries n)) (let e : first + 0 ≡ first = omega arith in e) (each 0 (omega arith)))
    (lanes_from place stop at number span phases entries (suc first) count
    (λ i less. subst (λ (n : ℕ). TaskHands place stop (lane_of at number n span) (lane_works n phases) (entries n)) (let e : first + suc i ≡ suc first + i = omega arith in e) (each (suc i) (omega arith))))

-- what a region hands on, by what each of its lanes does
pub region_hands : (place : LogPlace) (stop : MaybeStop) (at : List Step) (number span : ℕ) (phases : Phases) (entries : ℕ → List HandedEntry) (before : List HandedEntry)
    → ((k : ℕ) → k < span → TaskHands place stop (lane_of at number k span) (lane_works k phases) (entries k)) → TellStop stop (handed_by entries 0 span)
    → HandsOn place stop at number (record { span = span; phases = phases } ∷ []) before (before ++ handed_by entries 0 span)
region_hands place stop at number span phases entries before each tell = record {
  added = handed_by entries 0 span;
  grows = refl;
  hands =
      subst (λ (es : List HandedEntry). RegionsHand place stop at number (record { span = span; phases = phases } ∷ []) es) (append-nil (handed_by entries 0 span))
      (RegionsHand.region at number (record { span = span; phases = phases }) [] (handed_by entries 0 span) []
      (lanes_from place stop at number span phases entries 0 span
      (λ i less. subst (λ (n : ℕ). TaskHands place stop (lane_of at number n span) (lane_works n phases) (entries n)) (let e : i ≡ 0 + i = omega arith in e) (each i less)))
      (RegionsHand.no_region at (number + 1)));
  tell = tell;
}

-- tasks below different lanes are different
pub lanes_apart : (at : List Step) (number j k span : ℕ) (one two : List Step) → lane_of at number j span ++ one ≡ lane_of at number k span ++ two → j ≡ k
lanes_apart at number j k span one two same =
    ap lane_in
    (append_cancel_left at (record { region = number; lane = j; span = span } ∷ one) (record { region = number; lane = k; span = span } ∷ two)
    (sym (append_assoc at (record { region = number; lane = j; span = span } ∷ []) one) ∙ same ∙ append_assoc at (record { region = number; lane = k; span = span } ∷ []) two))
  where
    lane_in : List Step → ℕ
    lane_in [] = 0
    lane_in (s ∷ steps) = s.lane

-- What may lack in the logs of a lane that stopped so may lack in those of its region, which stopped for a task of another lane: if no
-- memory was found for the first, none was for the region.
pub lacks_for_another : (at : List Step) (number j k span : ℕ) (own below : List Step) (why it : Stop) → (j ≡ k → ⊥) → below ≡ lane_of at number j span ++ own → (why ≡ Trouble Memory → it ≡ Trouble Memory)
    → (path : List Step) (why_path : List Step) (rest : List Step) (faults : ℕ) → path ≡ lane_of at number k span → MayLack (Some (why_path, why)) (path ++ rest) faults → MayLack (Some (below, it)) (path ++ rest) faults
lacks_for_another at number j k span own below why it other is memory path why_path rest faults path_is (inl none) = inl (memory none)
lacks_for_another at number j k span own below why it other is memory path why_path rest faults path_is (inr some) =
    inr (some.0, λ same. absurd (other (lanes_apart at number j k span own rest (sym is ∙ sym same ∙ ap (λ (p : List Step). p ++ rest) path_is))))
