-- Members of a group, whose conflicts are those of their segments.
use Rattle.std.proofs.Common.{◌≡◌, ◌↔◌, ℕ, ◌+◌, ◌<◌, ◌≤◌, List, [], ◌∷◌, ◌++◌, All, Bor, Contains, drop, false, get_or, length, set, take, inl, inr, refl, sym, ap, ◌∙◌, subst, arith}
use Rattle.std.specs.Prelude.{Ok, Err, IfOk, Result}
use Rattle.std.proofs.lemmas.Bool.{cases_order}
use Rattle.std.specs.List.Sorted.{IsPermutation}
use Rattle.std.proofs.lemmas.List.Elements.{All-contains, All-more, Contains-get_or}
use Rattle.std.proofs.lemmas.List.Sorted.{Contains-permutation}
use Rattle.log_segment.specs.declared.segment.Segment.{Segment}
use Rattle.race_model.specs.Label.{Triple, IsConcurrent}
use Rattle.stride_summary.specs.declared.run.Run.{Run}
use Rattle.stride_summary.specs.Run.{last_byte}
use Rattle.pair_compare.specs.Conflict.{GrowsBy, OneHas}
use Rattle.pair_compare.specs.Fields.{Agrees, AreAlike, AreWithin, IsApartPair, IsRunIn, Parts, label_value}
use Rattle.pair_compare.specs.Groups.{IsGroupPair, IsNumbered, IsPartedPair, IsRunOf, IsSameGroup, IsSameMember, pointed}
use Rattle.pair_compare.specs.declared.field.Field.{Field}
use Rattle.pair_compare.specs.declared.field.Field.TheVariants.{Depth, Span, Barrier, Residue, Offset}
use Rattle.pair_compare.specs.declared.group.Group.{Group}
use Rattle.pair_compare.specs.declared.member.Member.{Member}
use Rattle.std.proofs.Math.Seq.{take-append_seam}
use Rattle.std.proofs.lemmas.List.{append_assoc, append-nil, get_or-set_other, get_or-set_same, get_or_default, length-set}
use Rattle.pair_compare.proofs.Adds.{Adds-none, Adds-pushed, Adds-same}
use Rattle.pair_compare.proofs.Tasks.{Adds-append}
use Rattle.pair_compare.proofs.Dividing.{Parted, parted, pointed_by, points_to, same_value}
use Rattle.pair_compare.proofs.FieldOrder.{AreOrdered, not_concurrent}
use Rattle.pair_compare.proofs.Meeting.{IsConflictPair-from, IsPairOfRuns-from}

pub Adds-nothing : {K : Type 0} (O P : K → Type 0) → ((pair : K) → P pair → ⊥) → GrowsBy O O P
Adds-nothing O P none = record { kept = λ pair h. h; added = λ pair h. absurd (none pair h); only = λ pair h. inl h }

pub IfOk-two : {X Y : Type 0} (r : Result X Y) (P Q R : X → Type 0) → ((x : X) → P x → Q x → R x) → IfOk r P → IfOk r Q → IfOk r R
IfOk-two (Ok x) P Q R both p q = both x p q
IfOk-two (Err e) P Q R both p q = tt

-- the segment that a member's run is of
record Owner (level : ℕ) (field : Field) (refs : List (Bor Segment)) (n : ℕ × Run) : Type 0 where
  pub owner : Bor Segment
  pub listed : Contains refs owner
  pub inside : Contains owner.now.runs.items n.1
  pub value : n.0 ≡ label_value level field owner.now.label

owner_of : (level : ℕ) (field : Field) (refs : List (Bor Segment)) (n : ℕ × Run) → OneHas (IsRunIn level field) refs n → Owner level field refs n
owner_of level field refs n h =
    let same : n ≡ (label_value level field h.one.now.label, h.has.one) = h.has.has in
    record {
      owner = h.one;
      listed = h.listed;
      inside = subst (λ (r : Run). Contains h.one.now.runs.items r) (sym (ap (λ (m : ℕ × Run). m.1) same)) h.has.listed;
      value = ap (λ (m : ℕ × Run). m.0) same;
    }

parted_within : (Has Those : ℕ × Run → Type 0) (pair : ℕ × ℕ) → ((n : ℕ × Run) → Has n → Those n) → IsPartedPair Has pair → IsPartedPair Those pair
parted_within Has Those pair within h = record { a = h.a; b = h.b; a_in = within h.a h.a_in; b_in = within h.b h.b_in; apart = h.apart; lines = h.lines }

-- labels that differ in a field are concurrent if the field parts them, and else in order
parted_concurrent : (field : Field) (l m : List Triple) → Parts field → Parted field l m → IsConcurrent l m
parted_concurrent Depth l m parts h = absurd parts
parted_concurrent Span l m parts h = h
parted_concurrent Barrier l m parts h = absurd parts
parted_concurrent Residue l m parts h = h
parted_concurrent Offset l m parts h = absurd parts

parted_ordered : (field : Field) (l m : List Triple) → (Parts field → ⊥) → Parted field l m → AreOrdered l m
parted_ordered Depth l m none h = h
parted_ordered Span l m none h = absurd (none tt)
parted_ordered Barrier l m none h = h
parted_ordered Residue l m none h = absurd (none tt)
parted_ordered Offset l m none h = h

pub concurrent_sym : (l m : List Triple) → IsConcurrent l m → IsConcurrent m l
concurrent_sym l m h = record { different = λ e. h.different (sym e); not_before = h.not_after; not_after = h.not_before }

module _ (level : ℕ) (field : Field) (refs : List (Bor Segment)) (alike : AreAlike level field refs) where
  agree_of : (a : Segment) → Contains (pointed refs) a → Agrees field alike.prefix alike.known a.label
  agree_of a h =
      let to = points_to refs a h in
      subst (λ (s : Segment). Agrees field alike.prefix alike.known s.label) to.is (All-contains (λ s. Agrees field alike.prefix alike.known s.now.label) refs to.pointer alike.each to.listed)

  labels : (a b : Segment) → Contains (pointed refs) a → Contains (pointed refs) b → label_value level field a.label < label_value level field b.label → Parted field a.label b.label
  labels a b a_in b_in less = parted level field alike.prefix alike.known a.label b.label alike.long (agree_of a a_in) (agree_of b b_in) less

  concurrent : Parts field → (a b : Segment) → Contains (pointed refs) a → Contains (pointed refs) b → (label_value level field a.label ≡ label_value level field b.label → ⊥) → IsConcurrent a.label b.label
  concurrent parts a b a_in b_in differ = elim (cases_order (label_value level field a.label) (label_value level field b.label)) [
    | inl same ↦ absurd (differ same)
    | inr (inl less) ↦ parted_concurrent field a.label b.label parts (labels a b a_in b_in less)
    | inr (inr more) ↦ concurrent_sym b.label a.label (parted_concurrent field b.label a.label parts (labels b a b_in a_in more))
  ]

  -- no labels that differ in a field that orders them are concurrent
  pub none_apart : (Parts field → ⊥) → (pair : ℕ × ℕ) → IsApartPair level field (pointed refs) pair → ⊥
  none_apart none pair h = elim (cases_order (label_value level field h.two.a.label) (label_value level field h.two.b.label)) [
    | inl same ↦ h.apart same
    | inr (inl less) ↦ not_concurrent h.two.a.label h.two.b.label (parted_ordered field h.two.a.label h.two.b.label none (labels h.two.a h.two.b h.two.a_in h.two.b_in less)) h.two.racing.concurrent
    | inr (inr more) ↦ not_concurrent h.two.b.label h.two.a.label (parted_ordered field h.two.b.label h.two.a.label none (labels h.two.b h.two.a h.two.b_in h.two.a_in more)) (concurrent_sym h.two.a.label h.two.b.label h.two.racing.concurrent)
  ]

  group_apart : Parts field → (pair : ℕ × ℕ) → IsPartedPair (OneHas (IsRunIn level field) refs) pair → IsApartPair level field (pointed refs) pair
  group_apart parts pair h =
      let a = owner_of level field refs h.a h.a_in in
      let b = owner_of level field refs h.b h.b_in in
      let a_in = pointed_by refs a.owner a.listed in
      let b_in = pointed_by refs b.owner b.listed in
      let differ : label_value level field a.owner.now.label ≡ label_value level field b.owner.now.label → ⊥ = λ e. h.apart (a.value ∙ (e ∙ sym b.value)) in
      record {
        two = record {
          a = a.owner.now;
          b = b.owner.now;
          a_in = a_in;
          b_in = b_in;
          racing = record {
            concurrent = concurrent parts a.owner.now b.owner.now a_in b_in differ;
            conflict = IsConflictPair-from a.owner.now.runs.items b.owner.now.runs.items pair (record { one = h.a.1; listed = a.inside; has = record { one = h.b.1; listed = b.inside; has = h.lines } });
          };
        };
        apart = differ;
      }

  member_run : (a : Segment) (run : Run) → Contains (pointed refs) a → Contains a.runs.items run → OneHas (IsRunIn level field) refs (label_value level field a.label, run)
  member_run a run a_in inside =
      let to = points_to refs a a_in in
      record {
        one = to.pointer;
        listed = to.listed;
        has = subst (λ (s : Segment). OneHas (IsNumbered (label_value level field s.label)) s.runs.items (label_value level field a.label, run)) (sym to.is) (record { one = run; listed = inside; has = refl });
      }

  apart_group : (pair : ℕ × ℕ) → IsApartPair level field (pointed refs) pair → IsPartedPair (OneHas (IsRunIn level field) refs) pair
  apart_group pair h =
      let found = IsPairOfRuns-from h.two.a.runs.items h.two.b.runs.items pair h.two.racing.conflict in
      record {
        a = (label_value level field h.two.a.label, found.one);
        b = (label_value level field h.two.b.label, found.has.one);
        a_in = member_run h.two.a found.one h.two.a_in found.listed;
        b_in = member_run h.two.b found.has.one h.two.b_in found.has.listed;
        apart = h.apart;
        lines = found.has.has;
      }

  -- one more group has the pairs that it parts
  pub Adds-group : (groups more : List Group) (group : Group) → Parts field → ((n : ℕ × Run) → OneHas IsRunOf group.members.items n ↔ OneHas (IsRunIn level field) refs n) → more ≡ groups ++ group ∷ []
      → GrowsBy (OneHas IsGroupPair groups) (OneHas IsGroupPair more) (IsApartPair level field (pointed refs))
  Adds-group groups more group parts members is = subst (λ (gs : List Group). GrowsBy (OneHas IsGroupPair groups) (OneHas IsGroupPair gs) (IsApartPair level field (pointed refs))) (sym is)
      (Adds-same (OneHas IsGroupPair groups) (OneHas IsGroupPair (groups ++ group ∷ [])) (IsGroupPair group) (IsApartPair level field (pointed refs))
      (λ pair h. group_apart parts pair (parted_within (OneHas IsRunOf group.members.items) (OneHas (IsRunIn level field) refs) pair (λ n. (members n).0) h))
      (λ pair h. parted_within (OneHas (IsRunIn level field) refs) (OneHas IsRunOf group.members.items) pair (λ n. (members n).1) (apart_group pair h))
      (Adds-pushed IsGroupPair groups group))

-- where all values of the field are the same
pub value_of : (level : ℕ) (field : Field) (least most : ℕ) (refs : List (Bor Segment)) (a : Segment) → AreWithin level field least most refs → most ≤ least → Contains (pointed refs) a → label_value level field a.label ≡ most
value_of level field least most refs a within same a_in =
    let to = points_to refs a a_in in
    let range = All-contains (λ s. (least ≤ label_value level field s.now.label) × (label_value level field s.now.label ≤ most)) refs to.pointer within to.listed in
    subst (λ (s : Segment). label_value level field s.label ≡ most) to.is (same_value (label_value level field to.pointer.now.label) least most range.0 range.1 same)

pub none_differ : (level : ℕ) (field : Field) (least most : ℕ) (refs : List (Bor Segment)) (pair : ℕ × ℕ) → AreWithin level field least most refs → most ≤ least → IsApartPair level field (pointed refs) pair → ⊥
none_differ level field least most refs pair within same h = h.apart (value_of level field least most refs h.two.a within same h.two.a_in ∙ sym (value_of level field least most refs h.two.b within same h.two.b_in))

pub OneHas-permuted : {X K : Type 0} (P : X → K → Type 0) (xs ys : List X) (k : K) → IsPermutation xs ys → OneHas P xs k → OneHas P ys k
OneHas-permuted P xs ys k same h = record { one = h.one; listed = Contains-permutation xs ys h.one same h.listed; has = h.has }

-- the new members are the old ones and those of the first of some runs
pub record Taken (part : ℕ) (runs rest : List Run) (old new : List Member) : Type 0 where
  pub taken : List Run
  pub whole : runs ≡ taken ++ rest
  pub grows : GrowsBy (OneHas IsRunOf old) (OneHas IsRunOf new) (OneHas (IsNumbered part) taken)

pub taken_none : (part : ℕ) (runs : List Run) (old : List Member) → Taken part runs runs old old
taken_none part runs old = record { taken = []; whole = refl; grows = Adds-none (OneHas IsRunOf old) (IsNumbered part) }

pub taken_more : (part : ℕ) (runs some others : List Run) (old new more : List Member) (member : Member) → member.part ≡ part → member.runs.now ≡ some → more ≡ new ++ member ∷ [] → Taken part runs (some ++ others) old new → Taken part runs others old more
taken_more part runs some others old new more member parted has is before = record {
  taken = before.taken ++ some;
  whole = before.whole ∙ sym (append_assoc before.taken some others);
  grows = Adds-append (OneHas IsRunOf old) (OneHas IsRunOf new) (OneHas IsRunOf more) (IsNumbered part) before.taken some before.grows
      (subst (λ (ms : List Member). GrowsBy (OneHas IsRunOf new) (OneHas IsRunOf ms) (OneHas (IsNumbered part) some)) (sym is)
      (subst (λ (rs : List Run). GrowsBy (OneHas IsRunOf new) (OneHas IsRunOf (new ++ member ∷ [])) (OneHas (IsNumbered part) rs)) has
      (subst (λ (p : ℕ). GrowsBy (OneHas IsRunOf new) (OneHas IsRunOf (new ++ member ∷ [])) (OneHas (IsNumbered p) member.runs.now)) parted (Adds-pushed IsRunOf new member))));
}

pub taken_all : (part : ℕ) (runs rest : List Run) (old new : List Member) → rest ≡ [] → Taken part runs rest old new → GrowsBy (OneHas IsRunOf old) (OneHas IsRunOf new) (OneHas (IsNumbered part) runs)
taken_all part runs rest old new none h =
    let same : runs ≡ h.taken = h.whole ∙ (ap (λ (rs : List Run). h.taken ++ rs) none ∙ append-nil h.taken) in
    subst (λ (rs : List Run). GrowsBy (OneHas IsRunOf old) (OneHas IsRunOf new) (OneHas (IsNumbered part) rs)) (sym same) h.grows

pub nothing_left : (runs : List Run) → length runs ≡ 0 → runs ≡ []
nothing_left [] none = refl
nothing_left (run ∷ runs) none = absurd (omega arith)

-- one more run between wider bounds
pub in_bounds_more : (runs : List Run) (i : ℕ) (run : Run) (low lower high higher : ℕ) → i < length runs → run ≡ get_or runs i run → lower ≤ low → lower ≤ run.base → high ≤ higher → last_byte run ≤ higher
    → All (λ r. (low ≤ r.base) × (last_byte r ≤ high)) (take i runs) → All (λ r. (lower ≤ r.base) × (last_byte r ≤ higher)) (take (i + 1) runs)
in_bounds_more runs i run low lower high higher inside is down own up own_up before =
    All-more (λ r. (lower ≤ r.base) × (last_byte r ≤ higher)) runs i run inside
    (λ k d within. let bounds = before k d within in let first = bounds.0 in let last = bounds.1 in (omega arith, omega arith))
    (subst (λ (r : Run). (lower ≤ r.base) × (last_byte r ≤ higher)) is (own, own_up))

-- one more read
pub quiet_more : (runs : List Run) (i : ℕ) (run : Run) → i < length runs → run ≡ get_or runs i run → run.write ≡ false → All (λ r. r.write ≡ false) (take i runs) → All (λ r. r.write ≡ false) (take (i + 1) runs)
quiet_more runs i run inside is read before = All-more (λ r. r.write ≡ false) runs i run inside before (subst (λ (r : Run). r.write ≡ false) is read)

-- what one of a list has, one of the other has, place by place
pub OneHas-each : {X K : Type 0} (P : X → K → Type 0) (xs ys : List X) (k : K) → length ys ≡ length xs → ((i : ℕ) (d : X) → i < length xs → P (get_or xs i d) k → P (get_or ys i d) k) → OneHas P xs k → OneHas P ys k
OneHas-each P xs ys k same each h =
    let (i, within, is) = h.listed in
    record { one = get_or ys i h.one; listed = Contains-get_or ys i h.one (omega arith); has = each i h.one within (subst (λ x. P x k) (sym is) h.has) }

one_member : (m other : Member) (n : ℕ × Run) → other.part ≡ m.part → other.runs.now ≡ m.runs.now → IsRunOf m n → IsRunOf other n
one_member m other n part runs h = subst (λ (p : ℕ). OneHas (IsNumbered p) other.runs.now n) (sym part) (subst (λ (rs : List Run). OneHas (IsNumbered m.part) rs n) (sym runs) h)

pub same_members : (olds news : List Member) → length news ≡ length olds → ((i : ℕ) (d : Member) → i < length olds → IsSameMember (get_or olds i d) (get_or news i d)) → (n : ℕ × Run) → OneHas IsRunOf news n ↔ OneHas IsRunOf olds n
same_members olds news same each n = (
  OneHas-each IsRunOf news olds n (sym same) (λ i d inside h. one_member (get_or news i d) (get_or olds i d) n (sym (each i d (omega arith)).part) (sym (each i d (omega arith)).runs) h),
  OneHas-each IsRunOf olds news n same (λ i d inside h. one_member (get_or olds i d) (get_or news i d) n (each i d inside).part (each i d inside).runs h),
)

-- a list in which one was put for another that has the same
set_within : {X K : Type 0} (P : X → K → Type 0) (xs : List X) (i : ℕ) (x : X) (k : K) → i < length xs → ((d : X) → P (get_or xs i d) k ↔ P x k) → OneHas P (set xs i x) k ↔ OneHas P xs k
set_within P xs i x k inside same = (
  OneHas-each P (set xs i x) xs k (sym (length-set xs i x)) (λ j d within h. elim (cases_order j i) [
    | inl at ↦ subst (λ (n : ℕ). P (get_or xs n d) k) (sym at) ((same d).1 (subst (λ y. P y k) (put j d at) h))
    | inr (inl less) ↦ subst (λ y. P y k) (get_or-set_other xs i j x d (λ e. omega arith)) h
    | inr (inr more) ↦ subst (λ y. P y k) (get_or-set_other xs i j x d (λ e. omega arith)) h
  ]),
  OneHas-each P xs (set xs i x) k (length-set xs i x) (λ j d within h. elim (cases_order j i) [
    | inl at ↦ subst (λ y. P y k) (sym (put j d at)) ((same d).0 (subst (λ (n : ℕ). P (get_or xs n d) k) at h))
    | inr (inl less) ↦ subst (λ y. P y k) (sym (get_or-set_other xs i j x d (λ e. omega arith))) h
    | inr (inr more) ↦ subst (λ y. P y k) (sym (get_or-set_other xs i j x d (λ e. omega arith))) h
  ]),
) where
  put : (j : ℕ) (d : _) → j ≡ i → get_or (set xs i x) j d ≡ x
  put j d at = subst (λ (n : ℕ). get_or (set xs i x) n d ≡ x) (sym at) (get_or-set_same xs i x d inside)

-- one more group has the same runs as before
pub same_more : (groups : List Group) (i : ℕ) (d new : Group) (pair : ℕ × ℕ) → i < length groups → IsSameGroup (get_or groups i d) new → OneHas IsGroupPair (set groups i new) pair ↔ OneHas IsGroupPair groups pair
same_more groups i d new pair inside same = set_within IsGroupPair groups i new pair inside (λ e.
    let old : Group = get_or groups i d in
    let there : get_or groups i e ≡ old = get_or_default groups i e d inside in (
      λ h. parted_within (OneHas IsRunOf old.members.items) (OneHas IsRunOf new.members.items) pair (λ n. (same n).1) (subst (λ (g : Group). IsGroupPair g pair) there h),
      λ h. subst (λ (g : Group). IsGroupPair g pair) (sym there) (parted_within (OneHas IsRunOf new.members.items) (OneHas IsRunOf old.members.items) pair (λ n. (same n).0) h),
    ))

-- groups of which each has the same runs as before
pub same_groups : (olds news : List Group) → length news ≡ length olds → ((i : ℕ) (d : Group) → i < length olds → IsSameGroup (get_or olds i d) (get_or news i d)) → (pair : ℕ × ℕ) → OneHas IsGroupPair news pair ↔ OneHas IsGroupPair olds pair
same_groups olds news same each pair = (
  OneHas-each IsGroupPair news olds pair (sym same) (λ i d inside h. parted_within (OneHas IsRunOf (get_or news i d).members.items) (OneHas IsRunOf (get_or olds i d).members.items) pair (λ n. (each i d (omega arith) n).0) h),
  OneHas-each IsGroupPair olds news pair same (λ i d inside h. parted_within (OneHas IsRunOf (get_or olds i d).members.items) (OneHas IsRunOf (get_or news i d).members.items) pair (λ n. (each i d inside n).1) h),
)

-- a member or a group with the same runs adds the same
pub Adds-member : (members more : List Member) (old new : Member) → new.part ≡ old.part → new.runs.now ≡ old.runs.now → more ≡ members ++ new ∷ [] → GrowsBy (OneHas IsRunOf members) (OneHas IsRunOf more) (IsRunOf old)
Adds-member members more old new part runs is = subst (λ (ms : List Member). GrowsBy (OneHas IsRunOf members) (OneHas IsRunOf ms) (IsRunOf old)) (sym is)
    (Adds-same (OneHas IsRunOf members) (OneHas IsRunOf (members ++ new ∷ [])) (IsRunOf new) (IsRunOf old)
    (λ n. one_member new old n (sym part) (sym runs)) (λ n. one_member old new n part runs) (Adds-pushed IsRunOf members new))

pub Adds-measured : (groups more : List Group) (old new : Group) → IsSameGroup old new → more ≡ groups ++ new ∷ [] → GrowsBy (OneHas IsGroupPair groups) (OneHas IsGroupPair more) (IsGroupPair old)
Adds-measured groups more old new same is = subst (λ (gs : List Group). GrowsBy (OneHas IsGroupPair groups) (OneHas IsGroupPair gs) (IsGroupPair old)) (sym is)
    (Adds-same (OneHas IsGroupPair groups) (OneHas IsGroupPair (groups ++ new ∷ [])) (IsGroupPair new) (IsGroupPair old)
    (λ pair. parted_within (OneHas IsRunOf new.members.items) (OneHas IsRunOf old.members.items) pair (λ n. (same n).0))
    (λ pair. parted_within (OneHas IsRunOf old.members.items) (OneHas IsRunOf new.members.items) pair (λ n. (same n).1)) (Adds-pushed IsGroupPair groups new))

-- a vector whose elements were lent out
pub restored : {X : Type 0} (xs news : List X) (count : ℕ) → length news ≡ length xs → count ≡ length xs → take count (news ++ drop (length news) xs) ≡ news
restored xs news count same counted = subst (λ (n : ℕ). take n (news ++ drop (length news) xs) ≡ news) (same ∙ sym counted) (take-append_seam news (drop (length news) xs))
