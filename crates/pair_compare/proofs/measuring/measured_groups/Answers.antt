use Rattle.std.proofs.Common.{◌≡◌, ◌↔◌, List, length, rules, subst, sym}
use Rattle.pair_compare.specs.Compare.{IsSegmentPair}
use Rattle.pair_compare.specs.Conflict.{OneHas}
use Rattle.pair_compare.specs.Groups.{IsGroupPair}
use Rattle.pair_compare.specs.declared.group.Group.{Group}
use Rattle.pair_compare.proofs.Members.{restored}
use Rattle.pair_compare.proofs.measuring.measured_groups.Goals as goal

pub returns : goal.returns
returns g c pair =
    let olds = c.in_ok-found.found.items in
    let news = c.measure.new.groups in
    let count : length news ≡ length olds = search rules in
    let counted : c.in_ok-found.found.len ≡ length olds = search rules in
    let same = subst (λ (gs : List Group). OneHas IsGroupPair news pair ↔ OneHas IsGroupPair gs pair) c.deref_mut.ensures.value (c.measure.ensures.same pair) in
    let found = c.in_ok-found.ensures pair in
    subst (λ (gs : List Group). OneHas IsGroupPair gs pair ↔ IsSegmentPair c.args.segments.now pair) (sym (restored olds news c.in_ok-found.found.len count counted)) (λ h. found.0 (same.0 h), λ h. same.1 (found.1 h))
