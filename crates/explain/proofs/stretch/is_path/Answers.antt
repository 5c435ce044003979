use Rattle.std.proofs.Common.{◌≡◌, true, refl, sym, ap, ◌∙◌}
use Rattle.std.specs.Ordering.{is_eq}
use Rattle.std.specs.declared.cmp.Ordering.{Ordering}
use Rattle.std.specs.declared.cmp.Ordering.TheVariants.{Less, Equal, Greater}
use Rattle.sw_base.proofs.Paths.{path_cmp_decides}
use Rattle.explain.proofs.stretch.is_path.Goals as goal

equal_of : (o : Ordering) → is_eq o ≡ true → o ≡ Equal
equal_of Less is = absurd (cc)
equal_of Equal is = refl
equal_of Greater is = absurd (cc)

pub returns : goal.returns
returns c =
    let decides = path_cmp_decides c.args.path.now c.args.other.now in
    (λ yes. decides.0 (equal_of _ (sym c.eq.ensures ∙ yes)), λ same. c.eq.ensures ∙ ap is_eq (decides.1 same))
