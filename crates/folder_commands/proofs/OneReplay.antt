-- `replay` has one answer.
use Rattle.std.proofs.Common.{◌≡◌, refl, ap, ap₂, sym, ◌∙◌, subst, ℕ, List}
use Rattle.sw_base.specs.Environment.{Files}
use Rattle.race_model.specs.Trace.{Trace}
use Rattle.kernel_syntax.specs.Program.{Program}
use Rattle.kernel_file.specs.Due.{no_kernel, of_kernel, refused_kernel}
use Rattle.log_replay.proofs.DiffersOnce.{no_run, one_first}
use Rattle.folder_commands.specs.Check.{FolderDue}
use Rattle.folder_commands.specs.Replay.{HasReplay, ReplayDue, differs, same}
use Rattle.folder_commands.specs.Texts.{differs_text}
use Rattle.folder_commands.proofs.OneAnswer.{due_once}
use Rattle.folder_commands.proofs.OneFile.{kernel_once, nothing_held, refusal_once, refused_or_kernel}

replay_once : (program : Program) (tasks : Trace) (s r : ℕ) (t u : List ℕ) → HasReplay program tasks s t → HasReplay program tasks r u → t ≡ u
replay_once program tasks s r t u (same traced _ a) (same also _ b) = a ∙ sym b
replay_once program tasks s r t u (same traced _ a) (differs path n first _ b) = absurd (no_run program tasks path n first traced)
replay_once program tasks s r t u (differs path n first _ a) (same traced _ b) = absurd (no_run program tasks path n first traced)
replay_once program tasks s r t u (differs path n first _ a) (differs other m second _ b) =
    let place = one_first program tasks path other n m first second in a ∙ ap₂ differs_text place.0 place.1 ∙ sym b

pub one_replay : (files : Files) (kernel dir : List ℕ) (s r : ℕ) (t u : List ℕ) → ReplayDue files kernel dir s t → ReplayDue files kernel dir r u → t ≡ u
one_replay files kernel dir s r t u (no_kernel none _ a) (no_kernel also _ b) = a ∙ sym b
one_replay files kernel dir s r t u (no_kernel none _ a) (refused_kernel line why holds _ b) = absurd (nothing_held files kernel holds.text none holds.held)
one_replay files kernel dir s r t u (no_kernel none _ a) (of_kernel program holds due) = absurd (nothing_held files kernel holds.text none holds.held)
one_replay files kernel dir s r t u (refused_kernel line why holds _ a) (no_kernel none _ b) = absurd (nothing_held files kernel holds.text none holds.held)
one_replay files kernel dir s r t u (refused_kernel line why holds _ a) (refused_kernel k also other _ b) = a ∙ sym (b ∙ refusal_once files kernel line k why also holds other)
one_replay files kernel dir s r t u (refused_kernel line why holds _ a) (of_kernel program other due) = absurd (refused_or_kernel files kernel line why program holds other)
one_replay files kernel dir s r t u (of_kernel program holds due) (no_kernel none _ b) = absurd (nothing_held files kernel holds.text none holds.held)
one_replay files kernel dir s r t u (of_kernel program holds due) (refused_kernel line why other _ b) = absurd (refused_or_kernel files kernel line why program other holds)
one_replay files kernel dir s r t u (of_kernel program holds due) (of_kernel also other had) =
    due_once (HasReplay program) (replay_once program) files dir s r t u due
    (subst (λ (p : Program). FolderDue (HasReplay p) files dir r u) (kernel_once files kernel program also holds other) had)
