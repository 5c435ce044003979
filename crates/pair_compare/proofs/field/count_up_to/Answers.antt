use Rattle.std.proofs.Common.{◌<◌, ◌+◌, ◌-◌, ◌/◌, ℕ, Bor, ap, arith, length}
use Rattle.std.proofs.lemmas.List.{get_or_default}
use Rattle.log_segment.specs.declared.segment.Segment.{Segment}
use Rattle.pair_compare.specs.Fields.{label_value}
use Rattle.pair_compare.proofs.field.count_up_to.Goals as goal

pub search-preserved-then-value-middle : goal.search-preserved-then-value-middle
search-preserved-then-value-middle c =
    let inv = c.search.invariant in
    let f = λ (s : Bor Segment). label_value c.args.level c.args.field s.now.label in
    let at : ℕ = c.search.low + (c.search.high - c.search.low) / 2 in
    let inside : at < length c.args.members.now = omega (arith, c.search-test.true, inv.within) in
    record {
      order = omega (arith, c.search-test.true);
      within = inv.within;
      first = λ i d less. omega (arith, c.if-value-middle.true, c.value.ensures, ap f (get_or_default c.args.members.now at c.index-members-at.result d inside), c.requires i at d (omega (arith, less)) inside);
      rest = inv.rest;
    }

pub search-preserved : goal.search-preserved
search-preserved c =
    let inv = c.search.invariant in
    let f = λ (s : Bor Segment). label_value c.args.level c.args.field s.now.label in
    let at : ℕ = c.search.low + (c.search.high - c.search.low) / 2 in
    let inside : at < length c.args.members.now = omega (arith, c.search-test.true, inv.within) in
    record {
      order = omega (arith, c.search-test.true);
      within = omega (arith, c.search-test.true, inv.within);
      first = inv.first;
      rest = λ i d later there. omega (arith, c.if-value-middle.false, c.value.ensures, ap f (get_or_default c.args.members.now at c.index-members-at.result d inside), c.requires at i d (omega (arith, later)) there);
    }

pub returns : goal.returns
returns c = record {
  within = omega (arith, c.search.invariant.order, c.search.invariant.within);
  first = c.search.invariant.first;
  rest = λ i d later there. c.search.invariant.rest i d (omega (arith, later, c.search-test.false)) there;
}
