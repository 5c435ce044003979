use Rattle.std.proofs.Common.{refl, sym, ap, ◌∙◌, ℕ, ◌+◌}
use Rattle.kernel_model.specs.Phases.{part_of_stmt}
use Rattle.team_phases.proofs.Dividing.{goes_on_with, drawn_same, drawn_more}
use Rattle.team_phases.proofs.phasing.Phasing.run.Goals as goal

pub returns-in-Some : goal.returns-in-Some
returns-in-Some c = λ parts is.
    goes_on_with parts c.args.self.now _ _ is refl c.in_ok-push.ensures.items refl is.drawn_is
    (c.in-Some.ensures.1 ∙ ap (λ (n : ℕ). n + 1) is.drawn_is ∙ sym (drawn_more parts (part_of_stmt c.args.stmt.now) (sym c.if-is_drawing.ensures)))

pub returns-else-is_drawing : goal.returns-else-is_drawing
returns-else-is_drawing c = λ parts is.
    goes_on_with parts c.args.self.now _ _ is refl c.in_ok-push.ensures.items refl is.drawn_is
    (is.drawn_is ∙ sym (drawn_same parts (part_of_stmt c.args.stmt.now) (sym c.if-is_drawing.ensures)))
