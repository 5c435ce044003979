use Rattle.std.proofs.Common.{◌≡◌, true, false, sym, ap, ◌∙◌}
use Rattle.std.specs.Prelude.{is_some}
use Rattle.std.proofs.lemmas.Str.{IsUtf8-from_ascii}
use Rattle.kernel_text.proofs.Prefixes.{no_error}
use Rattle.kernel_text.proofs.lexing.name_lexeme.Goals as goal

pub returns-in_err-text : goal.returns-in_err-text
returns-in_err-text c =
    let ok = no_error _ _ _ c.from_utf8.result (IsUtf8-from_ascii c.args.bytes.now c.requires) c.from_utf8.ensures.cases in
    let none = ap is_some c.in_err-text.was in
    let both : false ≡ true = sym none ∙ c.ok.ensures.variant ∙ ok in
    absurd cc
