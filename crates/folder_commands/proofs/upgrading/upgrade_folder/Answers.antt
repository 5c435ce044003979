use Rattle.std.proofs.Common.{rules, ◌≡◌, ℕ, List, Err, refl, ap, subst, ◌∙◌, length}
use Rattle.std.specs.Option.{option_map}
use Rattle.sw_base.specs.Names.{index_name}
use Rattle.log_format.specs.declared.format.Format.TheVariants.{First}
use Rattle.command_answer.specs.Answer.{silent}
use Rattle.command_answer.proofs.Answering.{Answers-of, Tries-from_made, Tries-from_prints, Tries-weaker}
use Rattle.folder_commands.specs.Check.{IsRefusedFolder}
use Rattle.folder_commands.specs.Texts.{upgraded_text}
use Rattle.folder_commands.specs.Upgrade.{UpgradeDue, brought, index_there, refused_old}
use Rattle.folder_commands.proofs.Upgrades.{not_there, one_upgrade, still_tells, there, upgraded_leaves}
use Rattle.folder_commands.proofs.upgrading.upgrade_folder.Goals as goal

pub returns-in-Ok-Some-clause-answers : goal.returns-in-Ok-Some-clause-answers
returns-in-Ok-Some-clause-answers g c = λ x told.
    let name : c.deref.result.now ≡ index_name c.args.new.now = search rules in
    let size = subst (λ (n : List ℕ). c.in-Ok-Some.field-0 ≡ option_map length (x.held n)) name (c.in-Ok-Some.ensures.size x told) in
    Answers-of _ (one_upgrade x.held c.args.dir.now c.args.new.now) _ _ _
    (Tries-from_prints (UpgradeDue x.held c.args.dir.now c.args.new.now) _ _ _ _ _
    (index_there (there c.in-Ok-Some.field-0 _ (x.held (index_name c.args.new.now)) c.in-Ok-Some.field-0-is size) refl refl) c.print.ensures.prints)

pub returns-in-Ok-upgrade-clause-answers : goal.returns-in-Ok-upgrade-clause-answers
returns-in-Ok-upgrade-clause-answers g c = λ x told.
    let still = ap (λ s. s.content) c.in-Ok-None.ensures.same ∙ told in
    let d = still_tells _ _ x still c.in-Ok-upgrade.ensures.tells in
    let up = c.in-Ok-upgrade.ensures.done x still d.0 d.1 in
    Answers-of _ (one_upgrade x.held c.args.dir.now c.args.new.now) _ _ _
    (Tries-from_made (UpgradeDue x.held c.args.dir.now c.args.new.now) c.upgraded.result _ (upgraded_text c.in-Ok-upgrade.count) _ _ _
    (brought up.trace up.can refl (ap upgraded_text up.count_is)) c.upgraded.ensures c.print_made.ensures.prints c.print_made.ensures.silent)

pub returns-in-Ok-upgrade-clause-leaves : goal.returns-in-Ok-upgrade-clause-leaves
returns-in-Ok-upgrade-clause-leaves g c = λ failure x told d is. upgraded_leaves _ _ x d _ (c.in-Ok-upgrade.ensures.done x (ap (λ s. s.content) c.in-Ok-None.ensures.same ∙ told) d is)

pub returns-in-Err-Walk-clause-answers : goal.returns-in-Err-Walk-clause-answers
returns-in-Err-Walk-clause-answers g c = λ x told.
    let name : c.deref.result.now ≡ index_name c.args.new.now = search rules in
    let size = subst (λ (n : List ℕ). c.in-Ok-None.field-0 ≡ option_map length (x.held n)) name (c.in-Ok-None.ensures.size x told) in
    let still = ap (λ s. s.content) c.in-Ok-None.ensures.same ∙ told in
    Answers-of _ (one_upgrade x.held c.args.dir.now c.args.new.now) _ _ _
    (Tries-weaker (IsRefusedFolder First x.held c.args.dir.now) (UpgradeDue x.held c.args.dir.now c.args.new.now) _ _ _ (λ status text is. refused_old (not_there c.in-Ok-None.field-0 (x.held (index_name c.args.new.now)) c.in-Ok-None.field-0-is size) is)
    (c.refuse.ensures.answers First x.held c.args.dir.now ((c.in-Err-Walk.ensures.refused c.in-Err-Walk.refused (ap Err c.in-Err-Walk.field-0-is)).1 x still)))

pub returns-in-Err-Walk-clause-leaves : goal.returns-in-Err-Walk-clause-leaves
returns-in-Err-Walk-clause-leaves g c = λ failure x told d is. c.in-Err-Walk.ensures.leaves x (ap (λ s. s.content) c.in-Ok-None.ensures.same ∙ told) d is

pub returns-in-Err-WriteFault-clause-leaves : goal.returns-in-Err-WriteFault-clause-leaves
returns-in-Err-WriteFault-clause-leaves g c = λ failure x told d is. c.in-Err-WriteFault.ensures.leaves x (ap (λ s. s.content) c.in-Ok-None.ensures.same ∙ told) d is

pub returns-in-Ok-None-clause-leaves : goal.returns-in-Ok-None-clause-leaves
returns-in-Ok-None-clause-leaves g c = λ failure x told d is. c.in-Err-Memory.ensures.leaves x (ap (λ s. s.content) c.in-Ok-None.ensures.same ∙ told) d is

pub returns-clause-answers : goal.returns-clause-answers
returns-clause-answers g c = λ x told. Answers-of _ (one_upgrade x.held c.args.dir.now c.args.new.now) _ _ _ (silent c.read_failure.ensures.failure refl)
