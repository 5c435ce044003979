use Rattle.std.proofs.Common.{refl, subst}
use Rattle.command_answer.proofs.Answering.{Tries-from_made, Tries-from_prints}
use Rattle.log_replay.specs.Replaying.{IsReplayed}
use Rattle.folder_commands.specs.Replay.{HasReplay, same, differs}
use Rattle.folder_commands.specs.Texts.{differs_text}
use Rattle.folder_commands.proofs.replaying.print_found.Goals as goal

pub returns-in-Same-clause-answers : goal.returns-in-Same-clause-answers
returns-in-Same-clause-answers g c = λ program tasks is.
    Tries-from_prints (HasReplay program tasks) _ _ _ _ _ (same (subst (IsReplayed program tasks) c.in-Same.is is) refl refl) c.print.ensures.prints

pub returns-in-Differs-clause-answers : goal.returns-in-Differs-clause-answers
returns-in-Differs-clause-answers g c = λ program tasks is.
    Tries-from_made (HasReplay program tasks) c.differs.result _ (differs_text c.in-Differs.path c.in-Differs.number) _ _ _
    (differs c.in-Differs.path c.in-Differs.number (subst (IsReplayed program tasks) c.in-Differs.is is) refl refl)
    c.differs.ensures c.print_made.ensures.prints c.print_made.ensures.silent
