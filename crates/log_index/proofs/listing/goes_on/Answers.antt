use Rattle.std.proofs.Common.{List, sym, subst}
use Rattle.sw_base.specs.declared.path.Step.{Step}
use Rattle.race_model.specs.Listing.{IsNextPath}
use Rattle.log_index.proofs.LastRow.{empty_told, first_goes_on, next_goes_on}
use Rattle.log_index.proofs.listing.goes_on.Goals as goal

pub returns-in-None : goal.returns-in-None
returns-in-None c =
    let first = first_goes_on c.args.before.now c.args.path.now (sym c.in-None.ensures.value) in
    let told = empty_told c.args.path.now c.is_empty.result c.is_empty.ensures in
    (λ true_is. first.0 (told.0 true_is), λ begins. told.1 (first.1 begins))

pub returns-in-Some : goal.returns-in-Some
returns-in-Some c =
    let next = next_goes_on c.args.before.now c.in-Some.row.now c.args.path.now (sym c.in-Some.ensures.value) c.requires in (
      λ true_is. next.0 (subst (λ (path : List Step). IsNextPath path c.args.path.now) c.steps.ensures.steps (c.is_next_path.ensures.0 true_is)),
      λ begins. c.is_next_path.ensures.1 (subst (λ (path : List Step). IsNextPath path c.args.path.now) (sym c.steps.ensures.steps) (next.1 begins)),
    )
