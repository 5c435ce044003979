use Rattle.std.proofs.Common.{◌∙◌, sym}
use Rattle.span_label.proofs.Precedence.{labels_decide}
use Rattle.log_walk.proofs.taking.are_same.Goals as goal

pub returns : goal.returns
returns c =
    let decided = labels_decide c.triples.result.now c.triples-2.result.now in (
      λ yes. sym c.triples.ensures.triples ∙ decided.0 (sym c.eq.ensures ∙ yes) ∙ c.triples-2.ensures.triples,
      λ same. c.eq.ensures ∙ decided.1 (c.triples.ensures.triples ∙ same ∙ sym c.triples-2.ensures.triples),
    )
