use Rattle.std.proofs.Common.{refl, ap, inl, inr, subst, List, ℕ}
use Rattle.sw_base.specs.Environment.{Rose}
use Rattle.sw_base.proofs.Gains.{GainsPrefix-same}
use Rattle.command_answer.specs.Answer.{Answers, Tries, failed, silent}
use Rattle.command_answer.proofs.Answering.{Answers-of, Tries-from_prints}
use Rattle.certify_command.specs.Certify.{CertifyDue}
use Rattle.folder_commands.specs.Check.{AnswersForRun, AnswersRefusal, HasReport, fails}
use Rattle.folder_commands.specs.Confirm.{HasConfirmation}
use Rattle.folder_commands.specs.Explain.{HasExplanation}
use Rattle.run_command.specs.Run.{LeavesPart, RunDue}
use Rattle.folder_commands.specs.Show.{ShowsRecords}
use Rattle.command_line.specs.Arguments.{certify, check, confirm, explain, gen, replay, run, show, texts, to_check, to_confirm, to_explain, to_show, upgrade}
use Rattle.top_call.specs.Requests.{UsageDue}
use Rattle.command_line.proofs.FolderRequests.{not_certify, not_gen, not_replay, not_run, not_upgrade, not_usage, one_folder}
use Rattle.command_line.proofs.ArgumentLists.{same_certify, same_check, same_confirm, same_explain, same_gen, same_replay, same_run, same_show, same_upgrade}
use Rattle.top_call.proofs.Usage.{usage_once}
use Rattle.folder_commands.specs.Gen.{GenDue}
use Rattle.folder_commands.specs.Replay.{ReplayDue}
use Rattle.folder_commands.specs.Upgrade.{IsUpgraded, UpgradeDue}
use Rattle.folder_commands.proofs.FolderAnswers.{for_run, refusal}
use Rattle.folder_commands.proofs.NoRefusals.{no_refused_confirmation, no_refused_explanation, no_refused_listing, no_refused_report}
use Rattle.folder_commands.proofs.OneExplanation.{one_confirmation, one_explanation}
use Rattle.folder_commands.proofs.OneReplay.{one_replay}
use Rattle.folder_commands.proofs.OneSummary.{one_summary}
use Rattle.log_upgrade.specs.Upgrade.{LeavesUpgrade}
use Rattle.top_call.proofs.top.sword.Goals as goal

pub returns-in-Ok-None-clause-usage : goal.returns-in-Ok-None-clause-usage
returns-in-Ok-None-clause-usage g c = λ usage. Answers-of UsageDue usage_once _ _ _ (Tries-from_prints UsageDue _ _ _ _ _ (refl, refl) c.print.ensures.prints)

pub returns-in-Ok-None-clause-check : goal.returns-in-Ok-None-clause-check
returns-in-Ok-None-clause-check g c = λ dir workers says. let usage = rw c.in-Ok-None.field-0-is at c.in-Ok-None.ensures.usage in absurd (usage (check dir workers) says)

pub returns-in-Ok-None-clause-show : goal.returns-in-Ok-None-clause-show
returns-in-Ok-None-clause-show g c = λ dir says. let usage = rw c.in-Ok-None.field-0-is at c.in-Ok-None.ensures.usage in absurd (usage (show dir) says)

pub check-requires-clause-workers : goal.check-requires-clause-workers
check-requires-clause-workers g c = λ _ _.
    let said = rw (c.in-Ok-Some-Check.field-0-is, c.in-Ok-Some-Check.field-0-0-is) at c.in-Ok-Some-Check.ensures.said in
    (said.workers_are.least, said.workers_are.most)

pub returns-in-Ok-Some-Check-clause-check : goal.returns-in-Ok-Some-Check-clause-check
returns-in-Ok-Some-Check-clause-check g c = λ dir workers says content told.
    let said = rw (c.in-Ok-Some-Check.field-0-is, c.in-Ok-Some-Check.field-0-0-is) at c.in-Ok-Some-Check.ensures.said in
    subst (λ (d : List ℕ). AnswersForRun HasReport content.held d (g.O.Out.written c.args.out.now) (g.O.Out.written c.check.new.out) c.check.result)
    (same_check _ _ dir _ _ said says) (for_run HasReport _ _ _ _ _ (c.check.ensures.answers content told))

pub returns-in-Ok-Some-Show-clause-show : goal.returns-in-Ok-Some-Show-clause-show
returns-in-Ok-Some-Show-clause-show g c = λ dir says content told.
    let said = rw (c.in-Ok-Some-Show.field-0-is, c.in-Ok-Some-Show.field-0-0-is) at c.in-Ok-Some-Show.ensures.said in
    subst (λ (d : List ℕ). AnswersForRun ShowsRecords content.held d (g.O.Out.written c.args.out.now) (g.O.Out.written c.show.new.out) c.show.result)
    (same_show _ _ dir said says) (for_run ShowsRecords _ _ _ _ _ (c.show.ensures.answers content told))

pub returns-in-Ok-None-clause-run : goal.returns-in-Ok-None-clause-run
returns-in-Ok-None-clause-run g c = λ kernel dir size says. let usage = rw c.in-Ok-None.field-0-is at c.in-Ok-None.ensures.usage in absurd (usage (run kernel dir size) says)

pub returns-in-Ok-Some-Run-clause-run : goal.returns-in-Ok-Some-Run-clause-run
returns-in-Ok-Some-Run-clause-run g c = λ kernel dir size says old is new now.
    let said = rw (c.in-Ok-Some-Run.field-0-is, c.in-Ok-Some-Run.field-0-0-is) at c.in-Ok-Some-Run.ensures.said in
    same_run (λ (k d : List ℕ) (n : ℕ). Tries (RunDue (Rose (g.F.Folder.state c.args.folder.now).write_faults (g.F.Folder.state c.run_file.new.folder).write_faults) k d n old new) (g.O.Out.written c.args.out.now) (g.O.Out.written c.run_file.new.out) c.run_file.result) (texts c.args.arguments.now) _ _ kernel dir _ size
    said says (c.run_file.ensures.answers old is new now)

pub returns-in-Ok-Some-Run-clause-run_leaves : goal.returns-in-Ok-Some-Run-clause-run_leaves
returns-in-Ok-Some-Run-clause-run_leaves g c = λ kernel dir size says old is new now failure.
    let said = rw (c.in-Ok-Some-Run.field-0-is, c.in-Ok-Some-Run.field-0-0-is) at c.in-Ok-Some-Run.ensures.said in
    same_run (λ (k d : List ℕ) (n : ℕ). LeavesPart (Rose (g.F.Folder.state c.args.folder.now).write_faults (g.F.Folder.state c.run_file.new.folder).write_faults) k d n old new) (texts c.args.arguments.now) _ _ kernel dir _ size said says (c.run_file.ensures.leaves old is new now failure)

pub returns-in-Ok-Some-Run-clause-only_printed : goal.returns-in-Ok-Some-Run-clause-only_printed
returns-in-Ok-Some-Run-clause-only_printed g c = λ old is none.
    let said = rw (c.in-Ok-Some-Run.field-0-is, c.in-Ok-Some-Run.field-0-0-is) at c.in-Ok-Some-Run.ensures.said in
    c.run_file.ensures.only_printed old is (λ p can. none (inl (record { kernel = _; dir = _; size = _; says = said; program = p; can = can })))

pub returns-in-Ok-Some-Run-clause-untouched : goal.returns-in-Ok-Some-Run-clause-untouched
returns-in-Ok-Some-Run-clause-untouched g c = λ old is none.
    let said = rw (c.in-Ok-Some-Run.field-0-is, c.in-Ok-Some-Run.field-0-0-is) at c.in-Ok-Some-Run.ensures.said in
    c.run_file.ensures.untouched old is (λ p can. none (inl (record { kernel = _; dir = _; size = _; says = said; program = p; can = can })))

pub returns-in-Ok-None-clause-gen_ : goal.returns-in-Ok-None-clause-gen_
returns-in-Ok-None-clause-gen_ g c = λ rounds workers says. let usage = rw c.in-Ok-None.field-0-is at c.in-Ok-None.ensures.usage in absurd (usage (gen rounds workers) says)

pub check_generated-requires-clause-rounds : goal.check_generated-requires-clause-rounds
check_generated-requires-clause-rounds g c = λ _ _.
    let said = rw (c.in-Ok-Some-Gen.field-0-is, c.in-Ok-Some-Gen.field-0-0-is) at c.in-Ok-Some-Gen.ensures.said in
    (said.rounds_are.least, said.rounds_are.most)

pub check_generated-requires-clause-workers : goal.check_generated-requires-clause-workers
check_generated-requires-clause-workers g c = λ _ _.
    let said = rw (c.in-Ok-Some-Gen.field-0-is, c.in-Ok-Some-Gen.field-0-0-is) at c.in-Ok-Some-Gen.ensures.said in
    (said.workers_are.least, said.workers_are.most)

pub returns-in-Ok-Some-Gen-clause-gen_ : goal.returns-in-Ok-Some-Gen-clause-gen_
returns-in-Ok-Some-Gen-clause-gen_ g c = λ rounds workers says.
    let said = rw (c.in-Ok-Some-Gen.field-0-is, c.in-Ok-Some-Gen.field-0-0-is) at c.in-Ok-Some-Gen.ensures.said in
    subst (λ (n : ℕ). Answers (GenDue n) (g.O.Out.written c.args.out.now) (g.O.Out.written c.check_generated.new.out) c.check_generated.result)
    (same_gen _ _ rounds _ workers said says) c.check_generated.ensures.answers

pub returns-in-Err-clause-gen_ : goal.returns-in-Err-clause-gen_
returns-in-Err-clause-gen_ g c = λ rounds workers says. Answers-of (GenDue rounds) (one_summary rounds) _ _ _ (silent (inr (inr refl)) refl)

pub returns-in-Ok-None-clause-replay : goal.returns-in-Ok-None-clause-replay
returns-in-Ok-None-clause-replay g c = λ kernel dir says. let usage = rw c.in-Ok-None.field-0-is at c.in-Ok-None.ensures.usage in absurd (usage (replay kernel dir) says)

pub returns-in-Ok-Some-Replay-clause-replay : goal.returns-in-Ok-Some-Replay-clause-replay
returns-in-Ok-Some-Replay-clause-replay g c = λ kernel dir says content told.
    let said = rw (c.in-Ok-Some-Replay.field-0-is, c.in-Ok-Some-Replay.field-0-0-is) at c.in-Ok-Some-Replay.ensures.said in
    same_replay (λ (k d : List ℕ). Answers (ReplayDue content.held k d) (g.O.Out.written c.args.out.now) (g.O.Out.written c.replay_file.new.out) c.replay_file.result) (texts c.args.arguments.now) _ _ kernel dir
    said says (Answers-of _ (one_replay content.held _ _) _ _ _ (c.replay_file.ensures.answers content told))

pub returns-in-Err-clause-replay : goal.returns-in-Err-clause-replay
returns-in-Err-clause-replay g c = λ kernel dir says content told. Answers-of _ (one_replay content.held kernel dir) _ _ _ (silent (inr (inr refl)) refl)

pub returns-in-Ok-Some-Check-clause-only_reads : goal.returns-in-Ok-Some-Check-clause-only_reads
returns-in-Ok-Some-Check-clause-only_reads g c = λ _.
    let said = rw (c.in-Ok-Some-Check.field-0-is, c.in-Ok-Some-Check.field-0-0-is) at c.in-Ok-Some-Check.ensures.said in
    record { request = check _ _; says = said; reads = tt }

pub returns-in-Ok-Some-Run-clause-only_reads : goal.returns-in-Ok-Some-Run-clause-only_reads
returns-in-Ok-Some-Run-clause-only_reads g c = λ _.
    let said = rw (c.in-Ok-Some-Run.field-0-is, c.in-Ok-Some-Run.field-0-0-is) at c.in-Ok-Some-Run.ensures.said in
    record { request = run _ _ _; says = said; reads = tt }

pub returns-in-Ok-Some-Replay-clause-only_reads : goal.returns-in-Ok-Some-Replay-clause-only_reads
returns-in-Ok-Some-Replay-clause-only_reads g c = λ _.
    let said = rw (c.in-Ok-Some-Replay.field-0-is, c.in-Ok-Some-Replay.field-0-0-is) at c.in-Ok-Some-Replay.ensures.said in
    record { request = replay _ _; says = said; reads = tt }

pub returns-in-Ok-Some-Show-clause-only_reads : goal.returns-in-Ok-Some-Show-clause-only_reads
returns-in-Ok-Some-Show-clause-only_reads g c = λ _.
    let said = rw (c.in-Ok-Some-Show.field-0-is, c.in-Ok-Some-Show.field-0-0-is) at c.in-Ok-Some-Show.ensures.said in
    record { request = show _; says = said; reads = tt }

pub returns-in-Ok-Some-Check-clause-asks_once : goal.returns-in-Ok-Some-Check-clause-asks_once
returns-in-Ok-Some-Check-clause-asks_once g c = inl (ap (λ s. s.roots) c.check.ensures.reads.same)

pub returns-in-Ok-Some-Show-clause-asks_once : goal.returns-in-Ok-Some-Show-clause-asks_once
returns-in-Ok-Some-Show-clause-asks_once g c = inl (ap (λ s. s.roots) c.show.ensures.reads.same)

pub returns-in-Ok-Some-Replay-clause-asks_once : goal.returns-in-Ok-Some-Replay-clause-asks_once
returns-in-Ok-Some-Replay-clause-asks_once g c = inl (ap (λ s. s.roots) c.replay_file.ensures.reads.same)

pub returns-in-Ok-None-clause-upgrade : goal.returns-in-Ok-None-clause-upgrade
returns-in-Ok-None-clause-upgrade g c = λ dir new says. let usage = rw c.in-Ok-None.field-0-is at c.in-Ok-None.ensures.usage in absurd (usage (upgrade dir new) says)

pub returns-in-Ok-Some-Upgrade-clause-upgrade : goal.returns-in-Ok-Some-Upgrade-clause-upgrade
returns-in-Ok-Some-Upgrade-clause-upgrade g c = λ dir new says content told.
    let said = rw (c.in-Ok-Some-Upgrade.field-0-is, c.in-Ok-Some-Upgrade.field-0-0-is) at c.in-Ok-Some-Upgrade.ensures.said in
    same_upgrade (λ (d n : List ℕ). Answers (UpgradeDue content.held d n) (g.O.Out.written c.args.out.now) (g.O.Out.written c.upgrade_folder.new.out) c.upgrade_folder.result) (texts c.args.arguments.now) _ _ dir new
    said says (c.upgrade_folder.ensures.answers content told)

pub returns-in-Ok-Some-Upgrade-clause-upgrades : goal.returns-in-Ok-Some-Upgrade-clause-upgrades
returns-in-Ok-Some-Upgrade-clause-upgrades g c = λ dir new says done old is now now_is.
    let said = rw (c.in-Ok-Some-Upgrade.field-0-is, c.in-Ok-Some-Upgrade.field-0-0-is) at c.in-Ok-Some-Upgrade.ensures.said in
    same_upgrade (λ (d n : List ℕ). IsUpgraded d n old now) (texts c.args.arguments.now) _ _ dir new said says (c.upgrade_folder.ensures.upgrades done old is now now_is)

pub returns-in-Ok-Some-Upgrade-clause-upgrade_leaves : goal.returns-in-Ok-Some-Upgrade-clause-upgrade_leaves
returns-in-Ok-Some-Upgrade-clause-upgrade_leaves g c = λ dir new says failure old is now now_is.
    let said = rw (c.in-Ok-Some-Upgrade.field-0-is, c.in-Ok-Some-Upgrade.field-0-0-is) at c.in-Ok-Some-Upgrade.ensures.said in
    same_upgrade (λ (d n : List ℕ). LeavesUpgrade d n old now) (texts c.args.arguments.now) _ _ dir new said says (c.upgrade_folder.ensures.leaves failure old is now now_is)

pub returns-in-Ok-Some-Upgrade-clause-only_printed : goal.returns-in-Ok-Some-Upgrade-clause-only_printed
returns-in-Ok-Some-Upgrade-clause-only_printed g c = λ old is none.
    let said = rw (c.in-Ok-Some-Upgrade.field-0-is, c.in-Ok-Some-Upgrade.field-0-0-is) at c.in-Ok-Some-Upgrade.ensures.said in
    c.upgrade_folder.ensures.only_printed old is (λ trace can. none (inr (record { dir = _; new = _; says = said; trace = trace; can = can })))

pub returns-in-Ok-Some-Upgrade-clause-untouched : goal.returns-in-Ok-Some-Upgrade-clause-untouched
returns-in-Ok-Some-Upgrade-clause-untouched g c = λ old is none.
    let said = rw (c.in-Ok-Some-Upgrade.field-0-is, c.in-Ok-Some-Upgrade.field-0-0-is) at c.in-Ok-Some-Upgrade.ensures.said in
    c.upgrade_folder.ensures.untouched old is (λ trace can. none (inr (record { dir = _; new = _; says = said; trace = trace; can = can })))

pub returns-in-Ok-Some-Upgrade-clause-only_reads : goal.returns-in-Ok-Some-Upgrade-clause-only_reads
returns-in-Ok-Some-Upgrade-clause-only_reads g c = λ _.
    let said = rw (c.in-Ok-Some-Upgrade.field-0-is, c.in-Ok-Some-Upgrade.field-0-0-is) at c.in-Ok-Some-Upgrade.ensures.said in
    record { request = upgrade _ _; says = said; reads = tt }

pub returns-in-Ok-Some-Upgrade-clause-asks_once : goal.returns-in-Ok-Some-Upgrade-clause-asks_once
returns-in-Ok-Some-Upgrade-clause-asks_once g c = inl c.upgrade_folder.ensures.same_roots

pub returns-in-Ok-None-clause-confirm : goal.returns-in-Ok-None-clause-confirm
returns-in-Ok-None-clause-confirm g c = λ dir first_row first second_row second says.
    let usage = rw c.in-Ok-None.field-0-is at c.in-Ok-None.ensures.usage in absurd (usage (confirm dir first_row first second_row second) says)

pub returns-in-Ok-Some-Confirm-clause-confirm : goal.returns-in-Ok-Some-Confirm-clause-confirm
returns-in-Ok-Some-Confirm-clause-confirm g c = λ dir first_row first second_row second says content told.
    let said = rw (c.in-Ok-Some-Confirm.field-0-is, c.in-Ok-Some-Confirm.field-0-0-is) at c.in-Ok-Some-Confirm.ensures.said in
    same_confirm (λ (d : List ℕ) (a i b j : ℕ). AnswersForRun (HasConfirmation a i b j) content.held d (g.O.Out.written c.args.out.now) (g.O.Out.written c.confirm_records.new.out) c.confirm_records.result)
    (texts c.args.arguments.now) _ dir _ _ _ _ first_row first second_row second said says
    (for_run _ _ _ _ _ _ (Answers-of _ (one_confirmation _ _ _ _ content.held _) _ _ _ (c.confirm_records.ensures.answers content told)))

pub returns-in-Err-clause-confirm : goal.returns-in-Err-clause-confirm
returns-in-Err-clause-confirm g c = λ dir first_row first second_row second says content told.
    fails (inr (inr refl)) (λ trace due text good is. GainsPrefix-same _ _ text refl)

pub returns-in-Ok-Some-Confirm-clause-only_reads : goal.returns-in-Ok-Some-Confirm-clause-only_reads
returns-in-Ok-Some-Confirm-clause-only_reads g c = λ _.
    let said = rw (c.in-Ok-Some-Confirm.field-0-is, c.in-Ok-Some-Confirm.field-0-0-is) at c.in-Ok-Some-Confirm.ensures.said in
    record { request = confirm _ _ _ _ _; says = said; reads = tt }

pub returns-in-Ok-Some-Confirm-clause-asks_once : goal.returns-in-Ok-Some-Confirm-clause-asks_once
returns-in-Ok-Some-Confirm-clause-asks_once g c = inl (ap (λ s. s.roots) c.confirm_records.ensures.reads.same)

pub returns-in-Ok-None-clause-explain : goal.returns-in-Ok-None-clause-explain
returns-in-Ok-None-clause-explain g c = λ dir low high says.
    let usage = rw c.in-Ok-None.field-0-is at c.in-Ok-None.ensures.usage in absurd (usage (explain dir low high) says)

pub returns-in-Ok-Some-Explain-clause-explain : goal.returns-in-Ok-Some-Explain-clause-explain
returns-in-Ok-Some-Explain-clause-explain g c = λ dir low high says content told.
    let said = rw (c.in-Ok-Some-Explain.field-0-is, c.in-Ok-Some-Explain.field-0-0-is) at c.in-Ok-Some-Explain.ensures.said in
    same_explain (λ (d : List ℕ) (n m : ℕ). AnswersForRun (HasExplanation n m) content.held d (g.O.Out.written c.args.out.now) (g.O.Out.written c.explain_lines.new.out) c.explain_lines.result)
    (texts c.args.arguments.now) _ dir _ _ low high said says (for_run _ _ _ _ _ _ (Answers-of _ (one_explanation _ _ content.held _) _ _ _ (c.explain_lines.ensures.answers content told)))

pub returns-in-Err-clause-explain : goal.returns-in-Err-clause-explain
returns-in-Err-clause-explain g c = λ dir low high says content told. fails (inr (inr refl)) (λ trace due text good is. GainsPrefix-same _ _ text refl)

pub returns-in-Ok-Some-Explain-clause-only_reads : goal.returns-in-Ok-Some-Explain-clause-only_reads
returns-in-Ok-Some-Explain-clause-only_reads g c = λ _.
    let said = rw (c.in-Ok-Some-Explain.field-0-is, c.in-Ok-Some-Explain.field-0-0-is) at c.in-Ok-Some-Explain.ensures.said in
    record { request = explain _ _ _; says = said; reads = tt }

pub returns-in-Ok-Some-Explain-clause-asks_once : goal.returns-in-Ok-Some-Explain-clause-asks_once
returns-in-Ok-Some-Explain-clause-asks_once g c = inl (ap (λ s. s.roots) c.explain_lines.ensures.reads.same)

pub returns-in-Ok-None-clause-certify : goal.returns-in-Ok-None-clause-certify
returns-in-Ok-None-clause-certify g c = λ kernel says. let usage = rw c.in-Ok-None.field-0-is at c.in-Ok-None.ensures.usage in absurd (usage (certify kernel) says)

pub returns-in-Ok-Some-Certify-clause-certify : goal.returns-in-Ok-Some-Certify-clause-certify
returns-in-Ok-Some-Certify-clause-certify g c = λ kernel says content told.
    let said = rw (c.in-Ok-Some-Certify.field-0-is, c.in-Ok-Some-Certify.field-0-0-is) at c.in-Ok-Some-Certify.ensures.said in
    subst (λ (k : List ℕ). Tries (CertifyDue content.held k) (g.O.Out.written c.args.out.now) (g.O.Out.written c.certify_file.new.out) c.certify_file.result)
    (same_certify _ _ kernel said says) (c.certify_file.ensures.answers content told)

pub returns-in-Ok-Some-Certify-clause-only_reads : goal.returns-in-Ok-Some-Certify-clause-only_reads
returns-in-Ok-Some-Certify-clause-only_reads g c = λ _.
    let said = rw (c.in-Ok-Some-Certify.field-0-is, c.in-Ok-Some-Certify.field-0-0-is) at c.in-Ok-Some-Certify.ensures.said in
    record { request = certify _; says = said; reads = tt }

pub returns-in-Ok-Some-Certify-clause-asks_once : goal.returns-in-Ok-Some-Certify-clause-asks_once
returns-in-Ok-Some-Certify-clause-asks_once g c = inl (ap (λ s. s.roots) c.certify_file.ensures.reads.same)

pub returns-in-Err-clause-check : goal.returns-in-Err-clause-check
returns-in-Err-clause-check g c = λ dir workers says content told. fails (inr (inr refl)) (λ trace due text good is. GainsPrefix-same _ _ text refl)

pub returns-in-Err-clause-show : goal.returns-in-Err-clause-show
returns-in-Err-clause-show g c = λ dir says content told. fails (inr (inr refl)) (λ trace due text good is. GainsPrefix-same _ _ text refl)

pub returns-in-Ok-None-clause-refusal : goal.returns-in-Ok-None-clause-refusal
returns-in-Ok-None-clause-refusal g c = λ dir asks. let usage = rw c.in-Ok-None.field-0-is at c.in-Ok-None.ensures.usage in absurd (not_usage _ dir usage asks)

pub returns-in-Err-clause-refusal : goal.returns-in-Err-clause-refusal
returns-in-Err-clause-refusal g c = λ dir asks content told so. failed (inr (inr refl)) (λ due text is. GainsPrefix-same _ _ text refl)

pub returns-in-Ok-Some-Check-clause-refusal : goal.returns-in-Ok-Some-Check-clause-refusal
returns-in-Ok-Some-Check-clause-refusal g c = λ dir asks content told.
    let said = rw (c.in-Ok-Some-Check.field-0-is, c.in-Ok-Some-Check.field-0-0-is) at c.in-Ok-Some-Check.ensures.said in
    subst (λ (d : List ℕ). AnswersRefusal content.held d (g.O.Out.written c.args.out.now) (g.O.Out.written c.check.new.out) c.check.result)
    (one_folder _ _ dir (to_check _ said) asks) (refusal _ _ _ _ _ _ no_refused_report (c.check.ensures.answers content told))

pub returns-in-Ok-Some-Show-clause-refusal : goal.returns-in-Ok-Some-Show-clause-refusal
returns-in-Ok-Some-Show-clause-refusal g c = λ dir asks content told.
    let said = rw (c.in-Ok-Some-Show.field-0-is, c.in-Ok-Some-Show.field-0-0-is) at c.in-Ok-Some-Show.ensures.said in
    subst (λ (d : List ℕ). AnswersRefusal content.held d (g.O.Out.written c.args.out.now) (g.O.Out.written c.show.new.out) c.show.result)
    (one_folder _ _ dir (to_show said) asks) (refusal _ _ _ _ _ _ no_refused_listing (c.show.ensures.answers content told))

pub returns-in-Ok-Some-Explain-clause-refusal : goal.returns-in-Ok-Some-Explain-clause-refusal
returns-in-Ok-Some-Explain-clause-refusal g c = λ dir asks content told.
    let said = rw (c.in-Ok-Some-Explain.field-0-is, c.in-Ok-Some-Explain.field-0-0-is) at c.in-Ok-Some-Explain.ensures.said in
    subst (λ (d : List ℕ). AnswersRefusal content.held d (g.O.Out.written c.args.out.now) (g.O.Out.written c.explain_lines.new.out) c.explain_lines.result)
    (one_folder _ _ dir (to_explain _ _ said) asks) (refusal _ _ _ _ _ _ (no_refused_explanation _ _) (Answers-of _ (one_explanation _ _ content.held _) _ _ _ (c.explain_lines.ensures.answers content told)))

pub returns-in-Ok-Some-Confirm-clause-refusal : goal.returns-in-Ok-Some-Confirm-clause-refusal
returns-in-Ok-Some-Confirm-clause-refusal g c = λ dir asks content told.
    let said = rw (c.in-Ok-Some-Confirm.field-0-is, c.in-Ok-Some-Confirm.field-0-0-is) at c.in-Ok-Some-Confirm.ensures.said in
    subst (λ (d : List ℕ). AnswersRefusal content.held d (g.O.Out.written c.args.out.now) (g.O.Out.written c.confirm_records.new.out) c.confirm_records.result)
    (one_folder _ _ dir (to_confirm _ _ _ _ said) asks) (refusal _ _ _ _ _ _ (no_refused_confirmation _ _ _ _) (Answers-of _ (one_confirmation _ _ _ _ content.held _) _ _ _ (c.confirm_records.ensures.answers content told)))

pub returns-in-Ok-Some-Run-clause-refusal : goal.returns-in-Ok-Some-Run-clause-refusal
returns-in-Ok-Some-Run-clause-refusal g c = λ dir asks.
    let said = rw (c.in-Ok-Some-Run.field-0-is, c.in-Ok-Some-Run.field-0-0-is) at c.in-Ok-Some-Run.ensures.said in
    absurd (not_run _ _ _ dir _ said asks)

pub returns-in-Ok-Some-Replay-clause-refusal : goal.returns-in-Ok-Some-Replay-clause-refusal
returns-in-Ok-Some-Replay-clause-refusal g c = λ dir asks.
    let said = rw (c.in-Ok-Some-Replay.field-0-is, c.in-Ok-Some-Replay.field-0-0-is) at c.in-Ok-Some-Replay.ensures.said in
    absurd (not_replay _ _ _ dir said asks)

pub returns-in-Ok-Some-Gen-clause-refusal : goal.returns-in-Ok-Some-Gen-clause-refusal
returns-in-Ok-Some-Gen-clause-refusal g c = λ dir asks.
    let said = rw (c.in-Ok-Some-Gen.field-0-is, c.in-Ok-Some-Gen.field-0-0-is) at c.in-Ok-Some-Gen.ensures.said in
    absurd (not_gen _ _ _ dir said asks)

pub returns-in-Ok-Some-Upgrade-clause-refusal : goal.returns-in-Ok-Some-Upgrade-clause-refusal
returns-in-Ok-Some-Upgrade-clause-refusal g c = λ dir asks.
    let said = rw (c.in-Ok-Some-Upgrade.field-0-is, c.in-Ok-Some-Upgrade.field-0-0-is) at c.in-Ok-Some-Upgrade.ensures.said in
    absurd (not_upgrade _ _ _ dir said asks)

pub returns-in-Ok-Some-Certify-clause-refusal : goal.returns-in-Ok-Some-Certify-clause-refusal
returns-in-Ok-Some-Certify-clause-refusal g c = λ dir asks.
    let said = rw (c.in-Ok-Some-Certify.field-0-is, c.in-Ok-Some-Certify.field-0-0-is) at c.in-Ok-Some-Certify.ensures.said in
    absurd (not_certify _ _ dir said asks)

pub returns-in-Ok-Some-Check-clause-no_read_fault : goal.returns-in-Ok-Some-Check-clause-no_read_fault
returns-in-Ok-Some-Check-clause-no_read_fault g c = c.check.ensures.reads.no_fault

pub returns-in-Ok-Some-Show-clause-no_read_fault : goal.returns-in-Ok-Some-Show-clause-no_read_fault
returns-in-Ok-Some-Show-clause-no_read_fault g c = c.show.ensures.reads.no_fault

pub returns-in-Ok-Some-Replay-clause-no_read_fault : goal.returns-in-Ok-Some-Replay-clause-no_read_fault
returns-in-Ok-Some-Replay-clause-no_read_fault g c = c.replay_file.ensures.reads.no_fault

pub returns-in-Ok-Some-Explain-clause-no_read_fault : goal.returns-in-Ok-Some-Explain-clause-no_read_fault
returns-in-Ok-Some-Explain-clause-no_read_fault g c = c.explain_lines.ensures.reads.no_fault

pub returns-in-Ok-Some-Confirm-clause-no_read_fault : goal.returns-in-Ok-Some-Confirm-clause-no_read_fault
returns-in-Ok-Some-Confirm-clause-no_read_fault g c = c.confirm_records.ensures.reads.no_fault

pub returns-in-Ok-Some-Certify-clause-no_read_fault : goal.returns-in-Ok-Some-Certify-clause-no_read_fault
returns-in-Ok-Some-Certify-clause-no_read_fault g c = c.certify_file.ensures.reads.no_fault

pub returns-in-Ok-Some-Run-clause-no_read_fault : goal.returns-in-Ok-Some-Run-clause-no_read_fault
returns-in-Ok-Some-Run-clause-no_read_fault g c = c.run_file.ensures.no_read_fault

pub returns-in-Ok-Some-Upgrade-clause-no_read_fault : goal.returns-in-Ok-Some-Upgrade-clause-no_read_fault
returns-in-Ok-Some-Upgrade-clause-no_read_fault g c = c.upgrade_folder.ensures.no_read_fault
