use Rattle.std.proofs.Common.{ap, ◌∙◌, List, ◌++◌, [], ◌∷◌, refl}
use Rattle.kernel_model.specs.declared.phase.Item.{Item}
use Rattle.team_phases.proofs.Dividing.{ends_with}
use Rattle.team_phases.proofs.phasing.Phasing.bar.Goals as goal

pub returns : goal.returns
returns c = λ parts is.
    let ended = c.args.self.now.ended.items in
    let phase = c.new-2.ensures ∙ ap (λ v. v.items) c.replace-items.ensures.value ∙ c.in_ok-push.ensures.items in
    ends_with parts c.args.self.now _ c.args.line is
    (c.in_ok-push-2.ensures.items ∙ ap (λ (xs : List Item). ended ++ xs ∷ []) phase)
    (ap (λ v. v.items) c.replace-items.ensures.after ∙ c.new.ensures.items) refl
