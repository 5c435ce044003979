use Rattle.std.proofs.Common.{ap, sym, ◌∙◌, ℕ, List}
use Rattle.std.specs.Prelude.{slice_get}
use Rattle.kernel_syntax.specs.Program.{code_of}
use Rattle.certify.specs.Constructs.{construct_lines}
use Rattle.certify.proofs.Fixed.{are_fixed, have_none}
use Rattle.certify.proofs.FirstLines.{none_first}
use Rattle.certify.proofs.finding.first_construct.Goals as goal

pub returns-clause-fixed : goal.returns-clause-fixed
returns-clause-fixed c =
    let code = code_of c.args.kernel.now.main.body.stmts.items in
    λ none. are_fixed code (none_first (construct_lines code) (sym c.first_in.ensures ∙ none))

pub returns-clause-none : goal.returns-clause-none
returns-clause-none c =
    let code = code_of c.args.kernel.now.main.body.stmts.items in
    λ fixed. c.first_in.ensures ∙ ap (λ (l : List ℕ). slice_get l 0) (have_none code fixed)
