use Rattle.std.proofs.Common.{refl, sym, subst, ◌∙◌, ◌++◌, ◌∷◌, [], ℤ, w64, to_z, of_z}
use Rattle.std.proofs.lemmas.Int.{to_z-of_z}
use Rattle.team_phases.specs.declared.phasing.Phasing.{Phasing}
use Rattle.kernel_model.specs.Parts.{Set}
use Rattle.team_phases.specs.Pieces.{IsPhasing}
use Rattle.team_phases.proofs.Dividing.{goes_on_with, drawn_same}
use Rattle.team_phases.proofs.phasing.Phasing.set.Goals as goal

pub returns : goal.returns
returns c = λ parts is.
    let after : Phasing = record { ended = c.args.self.now.ended; items = c.push.new.self; drawn = c.args.self.now.drawn } in
    let value = to_z w64 (of_z w64 c.args.value) in
    subst (λ (v : ℤ). IsPhasing (parts ++ Set c.args.slot v ∷ []) after) (to_z-of_z w64 c.args.value c.ranges.value)
    (goes_on_with parts c.args.self.now after _ is refl c.in_ok-push.ensures.items refl tt (is.drawn_is ∙ sym (drawn_same parts (Set c.args.slot value) refl)))
