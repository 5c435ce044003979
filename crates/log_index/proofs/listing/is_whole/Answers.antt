use Rattle.std.proofs.Common.{List, All, sym, subst}
use Rattle.sw_base.specs.declared.path.Step.{Step}
use Rattle.race_model.specs.Listing.{IsLastLane}
use Rattle.log_index.proofs.LastRow.{last_whole}
use Rattle.log_index.proofs.listing.is_whole.Goals as goal

pub returns-in-Some : goal.returns-in-Some
returns-in-Some c =
    let whole = last_whole c.args.rows.now c.in-Some.row.now (sym c.in-Some.ensures.value) c.requires in (
      λ true_is. whole.0 (subst (λ (path : List Step). All IsLastLane path) c.steps.ensures.steps (c.are_last_lanes.ensures.0 true_is)),
      λ lists. c.are_last_lanes.ensures.1 (subst (λ (path : List Step). All IsLastLane path) (sym c.steps.ensures.steps) (whole.1 lists)),
    )
