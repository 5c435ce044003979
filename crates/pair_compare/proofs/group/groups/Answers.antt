use Rattle.std.proofs.Common.{◌≤◌, [], All, Bor, List, length, refl, subst, sym}
use Rattle.std.specs.List.Sorted.{IsPermutation}
use Rattle.std.proofs.lemmas.List.Sorted.{All-permutation}
use Rattle.log_segment.specs.declared.segment.Segment.{Segment}
use Rattle.pair_compare.specs.Compare.{IsSegmentPair}
use Rattle.pair_compare.specs.Conflict.{GrowsBy, OneHas}
use Rattle.pair_compare.specs.Groups.{IsGroupPair, pointed}
use Rattle.pair_compare.specs.declared.group.Group.{Group}
use Rattle.pair_compare.specs.Fields.{AreAlike, IsApartPair}
use Rattle.pair_compare.specs.declared.field.Field.TheVariants.{Depth}
use Rattle.pair_compare.proofs.Halving.{grow_all, pairs_moved}
use Rattle.pair_compare.proofs.Members.{Adds-nothing, none_apart}
use Rattle.pair_compare.proofs.Tasks.{all_from_none}
use Rattle.pair_compare.proofs.group.groups.Goals as goal

-- all labels have the empty prefix
alike_at_first : (refs : List (Bor Segment)) → AreAlike 0 Depth refs
alike_at_first refs = record { prefix = []; known = record { offset = 0; span = 0; barrier = 0 }; long = refl; each = λ k d h. (_, refl) }

pub divide-requires-clause-can : goal.divide-requires-clause-can
divide-requires-clause-can c = record {
  alike = alike_at_first c.as_slice-members.result.now;
  deep = subst (λ (refs : List (Bor Segment)). All (λ s. length s.now.label ≤ 5) refs) (sym c.as_slice-members.ensures.value)
      (All-permutation (λ s. length s.now.label ≤ 5) c.in_ok-refs.refs.items c.in_ok-ordered.ordered.items
      (subst (λ (refs : List (Bor Segment)). IsPermutation refs c.in_ok-ordered.ordered.items) c.deref.ensures.value c.in_ok-ordered.ensures.same) c.in_ok-refs.ensures.deep);
  within = c.extremes-range.ensures.between;
}

pub returns : goal.returns
returns c pair =
    let refs = c.as_slice-members.result.now in
    let found = c.in_ok-ordered.ordered.items in
    let same = subst (λ (olds : List (Bor Segment)). IsPermutation olds found) c.deref.ensures.value c.in_ok-ordered.ensures.same in
    let none = Adds-nothing (OneHas IsGroupPair c.new-found.result.items) (IsApartPair 0 Depth (pointed refs)) (none_apart 0 Depth refs (alike_at_first refs) (λ parts. parts)) in
    let all = grow_all 0 Depth (pointed refs) c.new-found.result.items c.new-found.result.items c.divide.new.groups.items none c.in_ok-divide.ensures in
    all_from_none IsGroupPair (OneHas IsGroupPair c.divide.new.groups.items) (IsSegmentPair c.args.segments.now)
    (subst (λ (gs : List Group). GrowsBy (OneHas IsGroupPair gs) (OneHas IsGroupPair c.divide.new.groups.items) (IsSegmentPair c.args.segments.now)) c.new-found.ensures.items
    (subst (λ (ss : List Segment). GrowsBy (OneHas IsGroupPair c.new-found.result.items) (OneHas IsGroupPair c.divide.new.groups.items) (IsSegmentPair ss)) c.in_ok-refs.ensures.same
    (pairs_moved c.in_ok-refs.refs.items found c.new-found.result.items c.divide.new.groups.items same
    (subst (λ (ms : List (Bor Segment)). GrowsBy (OneHas IsGroupPair c.new-found.result.items) (OneHas IsGroupPair c.divide.new.groups.items) (IsSegmentPair (pointed ms))) c.as_slice-members.ensures.value all)))) pair
