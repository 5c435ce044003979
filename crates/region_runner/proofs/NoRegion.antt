-- A region whose lanes executed nothing, since the log of one was refused.
use Rattle.std.proofs.Common.{◌≡◌, sym, ◌∙◌, subst, ℕ, true, List, [], ◌∷◌, ℤ, Some, None}
use Rattle.std.specs.Prelude.{slice_index_or}
use Rattle.event_buffer.specs.Buffered.{Buffered}
use Rattle.kernel_syntax.specs.Tree.{TeamTree}
use Rattle.shared_words.specs.declared.share.Share.{Share}
use Rattle.shared_words.specs.declared.view.View.{View}
use Rattle.shared_words.specs.Handles.{HandValue}
use Rattle.history_model.specs.Work.{NoPhase}
use Rattle.lane_runner.specs.declared.stop.Halt.{Halt}
use Rattle.lane_runner.specs.Forking.{Answer, RanRegion, stop_in}
use Rattle.lane_runner.specs.Handed.{HandedEntry, HandsOn, log_place}
use Rattle.lane_runner.specs.World.{WorldValue}
use Rattle.lane_runner.proofs.NoRegion.{nothing_ran}
use Rattle.region_runner.specs.Gathering.{ClosedValue, Gathered}
use Rattle.region_runner.specs.Opening.{AreTorn}
use Rattle.region_runner.proofs.Settling.{settles}

-- the log of a lane refused before any of them executed anything
pub torn_region : (w : WorldValue) (team : TeamTree) (slots : List ℤ) (task : Buffered) (number : ℕ) (hand : HandValue View) (share : HandValue Share) (lanes : List ClosedValue) (given handed : List HandedEntry) (r : Answer) (e : ClosedValue) → hand.there ≡ true
    → AreTorn (log_place task) task.path number team.span share lanes → Gathered team.span (λ k. slice_index_or lanes k e) given handed r → RanRegion w team slots task number hand hand given handed r
torn_region w team slots task number hand share lanes given handed r e there torn gathered =
    let settled =
    settles (log_place task) w.arrays task.path number (record { team = team; slots = slots }) NoPhase (λ k. slice_index_or lanes k e) gathered.kept (λ k less. (torn.each k e less).path_is) (λ k less. (torn.each k e less).gave)
    (λ k h less is. absurd (no_halt (sym (torn.each k e less).none_halted ∙ is))) (λ j k less within none h is. absurd (no_halt (sym (torn.each k e within).none_halted ∙ is))) given r (λ all. absurd (torn.refused e (all torn.torn torn.within).1)) gathered.answer in
    nothing_ran w team slots task number hand given handed there r settled.0
    (subst (λ (es : List HandedEntry). HandsOn (log_place task) (stop_in r) task.path number (record { span = team.span; phases = NoPhase } ∷ []) given es) (sym gathered.grows) settled.1)
  where
    no_halt : {h : Halt} → None ≡ Some h → ⊥
    no_halt is = cc
