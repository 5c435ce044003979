-- `explain` and `confirm` have one answer.
use Rattle.std.proofs.Common.{◌≡◌, ap, sym, ◌∙◌, subst, ℕ, List, Some}
use Rattle.std.specs.Prelude.{◌-◌, slice_get}
use Rattle.std.proofs.lemmas.Option.{same_Some}
use Rattle.sw_base.specs.Environment.{Files}
use Rattle.race_model.specs.Race.{IsRacePair}
use Rattle.race_model.specs.Trace.{TaskLog, Trace, logs_of}
use Rattle.explain.specs.Least.{IsLeastWitness}
use Rattle.explain.specs.declared.explaining.RacePair.{RacePair}
use Rattle.explain.proofs.OneWitness.{confirmed_once, least_once}
use Rattle.folder_commands.specs.Check.{FolderDue}
use Rattle.folder_commands.specs.Confirm as confirm
use Rattle.folder_commands.specs.Confirm.{HasConfirmation}
use Rattle.folder_commands.specs.Explain as explain
use Rattle.folder_commands.specs.Explain.{HasExplanation}
use Rattle.folder_commands.specs.Texts.{race_byte_text, race_text}
use Rattle.folder_commands.proofs.OneAnswer.{due_once}

-- the lines of a race that was found are a race pair
pair_found : (trace : Trace) (lines : ℕ × ℕ) (found : RacePair) → IsLeastWitness trace lines found → IsRacePair (logs_of trace) lines
pair_found trace lines found least =
    let w = least.witness in record { x = w.x; y = w.y; r = w.races.r; s = w.races.s; race = w.races.race; lines = w.races.lines_are }

-- one race is told with the paths of its rows
same_race_text : (trace : Trace) (found other : RacePair) (p q u v : TaskLog) → found ≡ other → slice_get trace (found.first_row - 1) ≡ Some p → slice_get trace (found.second_row - 1) ≡ Some q
    → slice_get trace (other.first_row - 1) ≡ Some u → slice_get trace (other.second_row - 1) ≡ Some v → race_text found p.path q.path ≡ race_text other u.path v.path
same_race_text trace found other p q u v same p_is q_is u_is v_is =
    let one : p ≡ u = same_Some p u (sym p_is ∙ (ap (λ (f : RacePair). slice_get trace (f.first_row - 1)) same ∙ u_is)) in
    let two : q ≡ v = same_Some q v (sym q_is ∙ (ap (λ (f : RacePair). slice_get trace (f.second_row - 1)) same ∙ v_is)) in
    λ i. race_text (same i) (one i).path (two i).path

module _ (low high : ℕ) where
  explanation_once : (trace : Trace) (s r : ℕ) (t u : List ℕ) → HasExplanation low high trace s t → HasExplanation low high trace r u → t ≡ u
  explanation_once trace s r t u (explain.race found p q least _ p_is q_is _ a) (explain.race other m n also _ m_is n_is _ b) =
      a ∙ same_race_text trace found other p q m n (least_once trace (low, high) found other least also) p_is q_is m_is n_is ∙ sym b
  explanation_once trace s r t u (explain.race found p q least _ _ _ _ a) (explain.no_race none _ b) = absurd (none (pair_found trace (low, high) found least))
  explanation_once trace s r t u (explain.no_race none _ a) (explain.race other m n also _ _ _ _ b) = absurd (none (pair_found trace (low, high) other also))
  explanation_once trace s r t u (explain.no_race none _ a) (explain.no_race also _ b) = a ∙ sym b

  pub one_explanation : (files : Files) (dir : List ℕ) (s r : ℕ) (t u : List ℕ) → FolderDue (HasExplanation low high) files dir s t → FolderDue (HasExplanation low high) files dir r u → t ≡ u
  one_explanation = due_once (HasExplanation low high) explanation_once

module _ (a i b j : ℕ) where
  confirmation_once : (trace : Trace) (s r : ℕ) (t u : List ℕ) → HasConfirmation a i b j trace s t → HasConfirmation a i b j trace r u → t ≡ u
  confirmation_once trace s r t u (confirm.race byte is _ one) (confirm.race other also _ two) = one ∙ ap race_byte_text (confirmed_once trace a i b j byte other is also) ∙ sym two
  confirmation_once trace s r t u (confirm.race byte is _ one) (confirm.no_race none _ two) = absurd (none byte is)
  confirmation_once trace s r t u (confirm.no_race none _ one) (confirm.race byte is _ two) = absurd (none byte is)
  confirmation_once trace s r t u (confirm.no_race none _ one) (confirm.no_race also _ two) = one ∙ sym two

  pub one_confirmation : (files : Files) (dir : List ℕ) (s r : ℕ) (t u : List ℕ) → FolderDue (HasConfirmation a i b j) files dir s t → FolderDue (HasConfirmation a i b j) files dir r u → t ≡ u
  one_confirmation = due_once (HasConfirmation a i b j) confirmation_once
