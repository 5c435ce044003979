use Rattle.std.proofs.Common.{◌≡◌, ◌∙◌, sym, ap, List, ℕ, ◌++◌, append_assoc, codes, decimal, string_bytes}
use Rattle.sw_base.specs.Names.{bare_log_name}
use Rattle.certify_command.proofs.texts.segments.Goals as goal

pub returns : goal.returns
returns c =
    let name = bare_log_name c.args.path.now in
    (rw c.in_ok-name.ensures at c.in_ok-format.ensures.ok)
    ∙ ap (λ (l : List ℕ). codes "uncertain: segments at " ++ l)
    (sym (append_assoc (name ++ codes " record ") (decimal c.args.number) (codes "\n") ∙ append_assoc name (codes " record ") (decimal c.args.number ++ codes "\n")))
