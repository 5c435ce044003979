-- Where all values of a field are the same, the next field is looked at.
use Rattle.std.proofs.Common.{◌≡◌, ℕ, ◌+◌, ◌-◌, ◌*◌, ◌^◌, ◌<◌, ◌≤◌, List, [], ◌∷◌, ◌++◌, All, Bor, Contains, length, get_or, Some, sym, ap, subst, ◌∙◌, arith}
use Rattle.std.proofs.lemmas.List.{append-nil, append_assoc, length_push}
use Rattle.std.proofs.lemmas.List.Elements.{All-contains}
use Rattle.std.proofs.lemmas.Option.{slice_get_past}
use Rattle.log_segment.specs.declared.segment.Segment.{Segment}
use Rattle.race_model.specs.Label.{Triple}
use Rattle.pair_compare.specs.Compare.{IsSegmentPair}
use Rattle.pair_compare.specs.Fields.{Agrees, AgreesBefore, AreAlike, AreWithin, CanDivide, HasNoLevel, HasTriple, next_field, next_level, fields_left, field_value, label_value}
use Rattle.pair_compare.specs.Groups.{pointed}
use Rattle.pair_compare.specs.declared.field.Field.{Field}
use Rattle.pair_compare.specs.declared.field.Field.TheVariants.{Depth, Span, Barrier, Residue, Offset}
use Rattle.pair_compare.proofs.Dividing.{points_to, same_value, value_own}

value_none : (level : ℕ) (prefix label : List Triple) → length prefix ≡ level → label ≡ prefix ++ [] → label_value level Depth label ≡ 0
value_none level prefix label long is =
    let whole : label ≡ prefix = is ∙ append-nil prefix in
    let short : length label ≤ level = let e : length label ≡ length prefix = ap length whole in omega arith in
    ap (field_value Depth) (slice_get_past label level short)

-- a label that has the level, where its field's value is known
deeper : (level : ℕ) (prefix : List Triple) (known : Triple) (label : List Triple) (most : ℕ) → length prefix ≡ level → Agrees Depth prefix known label → label_value level Depth label ≡ most → (most ≡ 0 → ⊥) → HasTriple Span prefix known label
deeper level prefix known label most long ([], is) value some = absurd (some (sym value ∙ value_none level prefix label long is))
deeper level prefix known label most long (t ∷ rest, is) value some = record { own = t; rest = rest; parts = is; agrees = tt }

at_least : (prefix : List Triple) (own : Triple) (rest label : List Triple) → label ≡ prefix ++ own ∷ rest → length prefix + 1 ≤ length label
at_least prefix own rest label is = let e : length label ≡ length (prefix ++ own ∷ rest) = ap length is in let l = longer prefix own rest in omega arith
  where
    longer : (prefix : List Triple) (own : Triple) (rest : List Triple) → length prefix + 1 ≤ length (prefix ++ own ∷ rest)
    longer [] own rest = omega arith
    longer (t ∷ prefix) own rest = let l = longer prefix own rest in omega arith

-- what comes next
pub record Next (level : ℕ) (field : Field) (refs : List (Bor Segment)) : Type 0 where
  pub alike : AreAlike level field refs
  pub few : level ≤ 5

module _ (level least most : ℕ) (r : Bor Segment) (rest : List (Bor Segment)) (same : most ≤ least) where
  abbrev refs : List (Bor Segment)
  refs = r ∷ rest

  value_is : (field : Field) → CanDivide level field least most refs → (k : ℕ) (d : Bor Segment) → k < length refs → label_value level field (get_or refs k d).now.label ≡ most
  value_is field can k d h = let range = can.within k d h in same_value (label_value level field (get_or refs k d).now.label) least most range.0 range.1 same

  from_depth : CanDivide level Depth least most refs → (most ≡ 0 → ⊥) → Next level Span refs
  from_depth can some =
      let each : All (λ s. HasTriple Span can.alike.prefix can.alike.known s.now.label) refs = λ k d h.
      deeper level can.alike.prefix can.alike.known (get_or refs k d).now.label most can.alike.long (can.alike.each k d h) (value_is Depth can k d h) some in
      let first = each 0 r (omega arith) in
      let more = at_least can.alike.prefix first.own first.rest r.now.label first.parts in
      let deep = can.deep 0 r (omega arith) in
      let long = can.alike.long in
      record {
        alike = record { prefix = can.alike.prefix; known = can.alike.known; long = can.alike.long; each = each };
        few = omega arith;
      }

  -- where each label has the triple, all have the same value of the field there, so they agree as far as the next one
  from_triple : (field next : Field) (can : CanDivide level field least most refs) → All (λ s. HasTriple field can.alike.prefix can.alike.known s.now.label) refs
      → ((first own : Triple) → AgreesBefore field can.alike.known first → AgreesBefore field can.alike.known own → field_value field (Some own) ≡ field_value field (Some first) → AgreesBefore next first own)
      → ((known : Triple) (label : List Triple) → HasTriple next can.alike.prefix known label → Agrees next can.alike.prefix known label) → Next level next refs
  from_triple field next can each agree agrees =
      let first = each 0 r (omega arith) in
      let mine : label_value level field r.now.label ≡ field_value field (Some first.own) = value_own level field can.alike.prefix first.own first.rest r.now.label can.alike.long first.parts in
      let more = at_least can.alike.prefix first.own first.rest r.now.label first.parts in
      let deep = can.deep 0 r (omega arith) in
      let long = can.alike.long in
      record {
        alike = record {
          prefix = can.alike.prefix;
          known = first.own;
          long = can.alike.long;
          each = λ k d h.
              let s = get_or refs k d in
              let a = each k d h in
              let yours : label_value level field s.now.label ≡ field_value field (Some a.own) = value_own level field can.alike.prefix a.own a.rest s.now.label can.alike.long a.parts in
              let same : field_value field (Some a.own) ≡ field_value field (Some first.own) = sym yours ∙ (value_is field can k d h ∙ (sym (value_is field can 0 r (omega arith)) ∙ mine)) in
              agrees first.own s.now.label (record { own = a.own; rest = a.rest; parts = a.parts; agrees = agree first.own a.own first.agrees a.agrees same });
        };
        few = omega arith;
      }

  from_span : CanDivide level Span least most refs → Next level Barrier refs
  from_span can = from_triple Span Barrier can can.alike.each (λ first own f o same. same) (λ known label h. h)

  from_barrier : CanDivide level Barrier least most refs → Next level Residue refs
  from_barrier can = from_triple Barrier Residue can can.alike.each (λ first own f o same. (o ∙ sym f, same)) (λ known label h. h)

  from_residue : CanDivide level Residue least most refs → Next level Offset refs
  from_residue can = from_triple Residue Offset can can.alike.each (λ first own f o same. (o.0 ∙ sym f.0, o.1 ∙ sym f.1, same)) (λ known label h. h)

  from_offset : CanDivide level Offset least most refs → Next (level + 1) Depth refs
  from_offset can =
      let first = can.alike.each 0 r (omega arith) in
      let mine : label_value level Offset r.now.label ≡ first.own.offset = value_own level Offset can.alike.prefix first.own first.rest r.now.label can.alike.long first.parts in
      let more = at_least can.alike.prefix first.own first.rest r.now.label first.parts in
      let deep = can.deep 0 r (omega arith) in
      let long : length can.alike.prefix ≡ level = can.alike.long in
      let push = length_push can.alike.prefix first.own in
      record {
        alike = record {
          prefix = can.alike.prefix ++ first.own ∷ [];
          known = first.own;
          long = omega arith;
          each = λ k d h.
              let s = get_or refs k d in
              let a = can.alike.each k d h in
              let yours : label_value level Offset s.now.label ≡ a.own.offset = value_own level Offset can.alike.prefix a.own a.rest s.now.label can.alike.long a.parts in
              let offsets : a.own.offset ≡ first.own.offset = sym yours ∙ (value_is Offset can k d h ∙ (sym (value_is Offset can 0 r (omega arith)) ∙ mine)) in
              let spans : a.own.span ≡ first.own.span = a.agrees.0 ∙ sym first.agrees.0 in
              let barriers : a.own.barrier ≡ first.own.barrier = a.agrees.1 ∙ sym first.agrees.1 in
              let owns : a.own ≡ first.own = λ i. record { offset = offsets i; span = spans i; barrier = barriers i } in
              (a.rest, a.parts ∙ (ap (λ (t : Triple). can.alike.prefix ++ t ∷ a.rest) owns ∙ sym (append_assoc can.alike.prefix (first.own ∷ []) a.rest)));
        };
        few = omega arith;
      }

  next_of : (field : Field) → CanDivide level field least most refs → (HasNoLevel field most → ⊥) → Next (next_level field level) (next_field field) refs
  next_of Depth can some = from_depth can some
  next_of Span can some = from_span can
  next_of Barrier can some = from_barrier can
  next_of Residue can some = from_residue can
  next_of Offset can some = from_offset can

pub next_alike : (level least most : ℕ) (field : Field) (refs : List (Bor Segment)) → most ≤ least → 1 ≤ length refs → CanDivide level field least most refs → (HasNoLevel field most → ⊥) → Next (next_level field level) (next_field field) refs
next_alike level least most field [] same some can going = absurd (omega arith)
next_alike level least most field (r ∷ rest) same some can going = next_of level least most r rest same field can going

pub next_can : (level least most low high : ℕ) (field : Field) (refs : List (Bor Segment)) (next : ℕ × Field) → most ≤ least → 1 ≤ length refs → CanDivide level field least most refs → (HasNoLevel field most → ⊥) → next ≡ (next_level field level, next_field field)
    → AreWithin next.0 next.1 low high refs → CanDivide next.0 next.1 low high refs
next_can level least most low high field refs next same some can going is within = record {
  alike = subst (λ (p : ℕ × Field). AreAlike p.0 p.1 refs) (sym is) (next_alike level least most field refs same some can going).alike;
  deep = can.deep;
  within = within;
}

-- labels that end at the level are the same
pub ended_same : (level least most : ℕ) (field : Field) (refs : List (Bor Segment)) (pair : ℕ × ℕ) → CanDivide level field least most refs → HasNoLevel field most → IsSegmentPair (pointed refs) pair → ⊥
ended_same level least most Span members pair can none h = absurd none
ended_same level least most Barrier members pair can none h = absurd none
ended_same level least most Residue members pair can none h = absurd none
ended_same level least most Offset members pair can none h = absurd none
ended_same level least most Depth members pair can none h = h.racing.concurrent.different (ends h.a h.a_in ∙ sym (ends h.b h.b_in))
  where
    prefix_only : (label : List Triple) → Agrees Depth can.alike.prefix can.alike.known label → label_value level Depth label ≤ most → label ≡ can.alike.prefix
    prefix_only label ([], is) below = is ∙ append-nil can.alike.prefix
    prefix_only label (t ∷ rest, is) below = let one : label_value level Depth label ≡ 1 = value_own level Depth can.alike.prefix t rest label can.alike.long is in absurd (omega arith)

    ends : (a : Segment) → Contains (pointed members) a → a.label ≡ can.alike.prefix
    ends a listed =
        let to = points_to members a listed in
        let agrees = All-contains (λ s. Agrees Depth can.alike.prefix can.alike.known s.now.label) members to.pointer can.alike.each to.listed in
        let range = All-contains (λ s. (least ≤ label_value level Depth s.now.label) × (label_value level Depth s.now.label ≤ most)) members to.pointer can.within to.listed in
        ap (λ (s : Segment). s.label) (sym to.is) ∙ prefix_only to.pointer.now.label agrees range.1

-- fewer fields are left
pub fewer_left : (level : ℕ) (field : Field) → next_level field level ≤ 5 → (5 - next_level field level) * 5 + fields_left (next_field field) + 1 ≡ (5 - level) * 5 + fields_left field
fewer_left level Depth few = omega arith
fewer_left level Span few = omega arith
fewer_left level Barrier few = omega arith
fewer_left level Residue few = omega arith
fewer_left level Offset few = omega arith

pub falls : (a b d e : ℕ) → a + 1 ≡ b → d < 2 ^ 64 → a * 2 ^ 64 + d < b * 2 ^ 64 + e
falls a b d e next small = omega arith

-- the next field is divided in fewer steps
pub record GoesOn (level least most : ℕ) (field : Field) (refs : List (Bor Segment)) (next : ℕ × Field) (low high : ℕ) : Type 0 where
  pub can : CanDivide next.0 next.1 low high refs
  pub few : next.0 ≤ 5
  pub less : ((5 - next.0) * 5 + fields_left next.1) * 2 ^ 64 + (high - low) < ((5 - level) * 5 + fields_left field) * 2 ^ 64 + (most - least)

pub goes_on : (level least most low high : ℕ) (field : Field) (refs : List (Bor Segment)) (next : ℕ × Field) → most ≤ least → 1 ≤ length refs → CanDivide level field least most refs → (HasNoLevel field most → ⊥) → next ≡ (next_level field level, next_field field)
    → AreWithin next.0 next.1 low high refs → high < 2 ^ 64 → GoesOn level least most field refs next low high
goes_on level least most low high field refs next same some can going is within fits =
    let few : next.0 ≤ 5 = subst (λ (p : ℕ × Field). p.0 ≤ 5) (sym is) (next_alike level least most field refs same some can going).few in
    let left : (5 - next.0) * 5 + fields_left next.1 + 1 ≡ (5 - level) * 5 + fields_left field =
    subst (λ (p : ℕ × Field). (5 - p.0) * 5 + fields_left p.1 + 1 ≡ (5 - level) * 5 + fields_left field) (sym is) (fewer_left level field (next_alike level least most field refs same some can going).few) in
    record {
      can = next_can level least most low high field refs next same some can going is within;
      few = few;
      less = falls ((5 - next.0) * 5 + fields_left next.1) ((5 - level) * 5 + fields_left field) (high - low) (most - least) left (omega (arith, fits));
    }
