-- The partners at the greater depths stand first.
use Rattle.std.proofs.Common.{◌≡◌, ◌⊎◌, inl, inr, ℕ, ◌+◌, ◌-◌, ◌<◌, ◌≤◌, List, [], ◌++◌, length, length-append, get_or, refl, sym, ap, subst, ◌∙◌, arith}
use Rattle.std.proofs.lemmas.Option.{slice_get_cases, get_or_from_slice_get}
use Rattle.interval_tree.proofs.Taking.{Takes-append}
use Rattle.log_segment.specs.OneTree.{StandInOneTree}
use Rattle.log_segment.specs.declared.segment.Segment.{Segment}
use Rattle.segment_groups.specs.Group.{label_at, label_of}
use Rattle.segment_groups.specs.Level.{AreGroups, HaveLevels, IsInLaterLane, IsLevel, Labels, LanesAscend}
use Rattle.segment_groups.specs.declared.level.Level.{Level}
use Rattle.segment_groups.specs.Partners.{HandsOver, IsPartner, RefusesAt}
use Rattle.segment_groups.proofs.Lists.{AreAll-append, AreAll-none, AreAll-same, three}
use Rattle.segment_groups.proofs.TreeGroups.{deeper_first, label_within, lanes_ascend, later_concurrent, partner_later}

-- a segment is in a later lane at a depth below this one
pub record IsDeeper (above : ℕ) (labels : Labels) (at other : ℕ) : Type 0 where
  pub depth : ℕ
  pub deeper : above < depth
  pub later : IsInLaterLane depth labels at other

few_levels : (most : ℕ) (segments : List Segment) (position : ℕ) → HaveLevels most segments → length (label_at segments position) ≤ most
few_levels most segments position few = elim (slice_get_cases segments position).1 [
  | inl there ↦ subst (λ (n : ℕ). n ≤ most) (ap (λ (s : Segment). length s.label) (get_or_from_slice_get segments position there.0 there.0 there.2) ∙ sym (ap (λ (s : _). length (label_of s)) there.2)) (few position there.0 there.1)
  | inr past ↦ subst (λ (n : ℕ). n ≤ most) (sym (ap (λ (s : _). length (label_of s)) past.1)) (omega arith)
]

-- the groups of one of the levels
pub level_at : (segments : List Segment) (levels : List Level) (k : ℕ) (level : Level) → AreGroups segments levels → k < length levels → level ≡ get_or levels k level → IsLevel (length levels - k) (label_at segments) level
level_at segments levels k level groups within read = subst (λ (l : Level). IsLevel (length levels - k) (label_at segments) l) (sym read) (groups.each k level within).1

-- none is deeper than the labels
pub deepest_none : {S : Type 0} (took : S → ℕ → S → Type 0) (segments : List Segment) (depth at : ℕ) (before : S) (old : ℕ) → HaveLevels (depth + 1) segments
    → HandsOver took (IsDeeper depth (label_at segments) at) before before old old
deepest_none took segments depth at before old few = record {
  found = [];
  all = AreAll-none (IsDeeper depth (label_at segments) at) (λ n h. let mine = h.later.member.group.mine in let most = few_levels (depth + 1) segments at few in let deeper = h.deeper in omega arith);
  takes = refl;
  steps = omega arith;
}

-- those at this depth after the deeper ones
pub one_less_deep : {S : Type 0} (took : S → ℕ → S → Type 0) (labels : Labels) (depth below at : ℕ) (before now after : S) (old mid new : ℕ) → LanesAscend depth labels → depth ≡ below + 1
    → HandsOver took (IsDeeper depth labels at) before now old mid → HandsOver took (IsInLaterLane depth labels at) now after mid new → HandsOver took (IsDeeper below labels at) before after old new
one_less_deep took labels depth below at before now after old mid new ascend next deep here =
    let long : length (deep.found ++ here.found) ≡ length deep.found + length here.found = length-append deep.found here.found in
    let first = deep.steps in
    let second = here.steps in
    record {
      found = deep.found ++ here.found;
      all = AreAll-same (λ n. IsDeeper depth labels at n ⊎ IsInLaterLane depth labels at n) (IsDeeper below labels at) (deep.found ++ here.found) to from
          (AreAll-append (IsDeeper depth labels at) (IsInLaterLane depth labels at) deep.found here.found (λ j k d s. deeper_first labels depth d.depth at j k ascend d.deeper d.later s) deep.all here.all);
      takes = Takes-append took before now after deep.found here.found deep.takes here.takes;
      steps = omega arith;
    }
  where
    to : (n : ℕ) → IsDeeper depth labels at n ⊎ IsInLaterLane depth labels at n → IsDeeper below labels at n
    to n (inl d) = record { depth = d.depth; deeper = (let deeper = d.deeper in omega arith); later = d.later }
    to n (inr s) = record { depth = depth; deeper = omega arith; later = s }

    from : (n : ℕ) → IsDeeper below labels at n → IsDeeper depth labels at n ⊎ IsInLaterLane depth labels at n
    from n d = elim (three depth d.depth) [
      | inl less ↦ inl (record { depth = d.depth; deeper = less; later = d.later })
      | inr other ↦ elim other [
        | inl same ↦ inr (subst (λ (k : ℕ). IsInLaterLane k labels at n) (sym same) d.later)
        | inr greater ↦ absurd (let deeper = d.deeper in omega arith)
      ]
    ]

module _ (segments : List Segment) (tree : StandInOneTree segments) (at : ℕ) where
  deeper_partner : (depth n : ℕ) → IsDeeper depth (label_at segments) at n → IsPartner segments at n
  deeper_partner depth n d = record {
    later = d.later.member.later;
    within = label_within segments n (let yours = d.later.member.group.yours in omega arith);
    concurrent = later_concurrent d.depth (label_at segments) at n d.later;
  }

  partner_deeper : (n : ℕ) → IsPartner segments at n → IsDeeper 0 (label_at segments) at n
  partner_deeper n p = let some = partner_later segments tree at n p in record { depth = some.depth; deeper = some.below_root; later = some.later }

  -- at the root's depth none is left
  pub all_depths : {S : Type 0} (took : S → ℕ → S → Type 0) (before after : S) (old new : ℕ) → HandsOver took (IsDeeper 0 (label_at segments) at) before after old new → HandsOver took (IsPartner segments at) before after old new
  all_depths took before after old new all = record {
    found = all.found;
    all = AreAll-same (IsDeeper 0 (label_at segments) at) (IsPartner segments at) all.found (deeper_partner 0) partner_deeper all.all;
    takes = all.takes;
    steps = all.steps;
  }

  -- one that is refused at a depth
  pub stops_at_depth : {S : Type 0} (took refused : S → ℕ → S → Type 0) (depth : ℕ) (before now after : S) (old mid new : ℕ) → 0 < depth
      → HandsOver took (IsDeeper depth (label_at segments) at) before now old mid → RefusesAt took refused (IsInLaterLane depth (label_at segments) at) now after mid new
      → RefusesAt took refused (IsPartner segments at) before after old new
  stops_at_depth took refused depth before now after old mid new below deep stop =
      let long : length (deep.found ++ stop.found) ≡ length deep.found + length stop.found = length-append deep.found stop.found in
      let first = deep.steps in
      let second = stop.steps in
      record {
        next = stop.next;
        is_one = here stop.next stop.is_one;
        found = deep.found ++ stop.found;
        all = AreAll-same (λ n. IsDeeper depth (label_at segments) at n ⊎ (IsInLaterLane depth (label_at segments) at n × (n < stop.next))) (λ n. IsPartner segments at n × (n < stop.next)) (deep.found ++ stop.found) to from
            (AreAll-append (IsDeeper depth (label_at segments) at) (λ n. IsInLaterLane depth (label_at segments) at n × (n < stop.next)) deep.found stop.found
            (λ j k d s. deeper_first (label_at segments) depth d.depth at j k ascend d.deeper d.later s.0) deep.all stop.all);
        between = stop.between;
        takes = Takes-append took before now stop.between deep.found stop.found deep.takes stop.takes;
        refuses = stop.refuses;
        steps = omega arith;
      }
    where
      ascend : LanesAscend depth (label_at segments)
      ascend = lanes_ascend segments tree depth below

      here : (n : ℕ) → IsInLaterLane depth (label_at segments) at n → IsPartner segments at n
      here n s = deeper_partner 0 n (record { depth = depth; deeper = below; later = s })

      to : (n : ℕ) → IsDeeper depth (label_at segments) at n ⊎ (IsInLaterLane depth (label_at segments) at n × (n < stop.next)) → IsPartner segments at n × (n < stop.next)
      to n (inl d) = (deeper_partner depth n d, deeper_first (label_at segments) depth d.depth at n stop.next ascend d.deeper d.later stop.is_one)
      to n (inr s) = (here n s.0, s.1)

      at_depth : (n : ℕ) → n < stop.next → IsDeeper 0 (label_at segments) at n → IsDeeper depth (label_at segments) at n ⊎ (IsInLaterLane depth (label_at segments) at n × (n < stop.next))
      at_depth n less d = elim (three depth d.depth) [
        | inl more ↦ inl (record { depth = d.depth; deeper = more; later = d.later })
        | inr other ↦ elim other [
          | inl same ↦ inr (subst (λ (k : ℕ). IsInLaterLane k (label_at segments) at n) (sym same) d.later, less)
          | inr fewer ↦ absurd (let first = deeper_first (label_at segments) d.depth depth at stop.next n (lanes_ascend segments tree d.depth d.deeper) fewer stop.is_one d.later in omega arith)
        ]
      ]

      from : (n : ℕ) → IsPartner segments at n × (n < stop.next) → IsDeeper depth (label_at segments) at n ⊎ (IsInLaterLane depth (label_at segments) at n × (n < stop.next))
      from n both = at_depth n both.1 (partner_deeper n both.0)
