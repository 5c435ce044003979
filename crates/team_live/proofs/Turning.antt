-- A lane's turn, while its parcel is on the way.
use Rattle.std.proofs.Common.{◌≡◌, ap, ◌∙◌, ℕ, List, slice_set}
use Rattle.std.proofs.lemmas.List.{get_or-set_same}
use Rattle.hand_over.specs.declared.view.Turn.{Turn}
use Rattle.hand_over.specs.declared.view.Turn.TheVariants.{Idle, Out, Closed}
use Rattle.hand_over.specs.Views.{turn_at}
use Rattle.hand_over.proofs.DeskSteps.{idle_made}
use Rattle.team_live.specs.Turns.{AreSame}

-- a lane's parcel was sent, and is out as long as no turn changes
pub still_out : {P : Type 0} (turns sent later : List (Turn P)) (lane : ℕ) (p : P) → sent ≡ slice_set turns lane (Out p) → turn_at turns lane ≡ Idle → AreSame sent later → turn_at later lane ≡ Out p
still_out {P} turns sent later lane p is idle same =
    same lane ∙ ap (λ (ts : List (Turn P)). turn_at ts lane) is ∙ get_or-set_same turns lane (Out p) Closed (idle_made turns lane idle)
