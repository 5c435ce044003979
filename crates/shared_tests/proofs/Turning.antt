-- The turns of many lanes before anything was sent, and that of one lane after.
use Rattle.std.proofs.Common.{◌≡◌, ℕ, List, replicate, ap, ◌∙◌}
use Rattle.std.proofs.lemmas.List.{get_or-set_same}
use lib.ListN.{get_or-replicate}
use Rattle.hand_over.specs.declared.view.Turn.{Turn}
use Rattle.hand_over.specs.declared.view.Turn.TheVariants.{Idle, Out, Closed}
use Rattle.hand_over.specs.Handles.{DeskValue, with_turn}
use Rattle.hand_over.specs.Views.{turn_at}
use Rattle.hand_over.proofs.DeskSteps.{idle_made}
use Rattle.shared_tests.specs.Turns.{AreAll, IsIdle}

pub all_idle : {P : Type 0} (lanes : ℕ) (turns : List (Turn P)) → turns ≡ replicate lanes Idle → AreAll lanes IsIdle turns
all_idle {P} lanes turns is lane within = ap (λ (ts : List (Turn P)). turn_at ts lane) is ∙ get_or-replicate lanes lane Idle Closed within

pub out_after : {A P : Type 0} (before after : DeskValue A P) (lane : ℕ) (sent : P) → after ≡ with_turn before lane (Out sent) → turn_at before.turns lane ≡ Idle
    → turn_at after.turns lane ≡ Out sent
out_after {A} {P} before after lane sent is idle =
    ap (λ (d : DeskValue A P). turn_at d.turns lane) is ∙ get_or-set_same before.turns lane (Out sent) Closed (idle_made before.turns lane idle)
