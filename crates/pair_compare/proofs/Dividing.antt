-- Dividing segments by a field in which their labels may differ.
use Rattle.std.proofs.Common.{◌≡◌, ℕ, zero, suc, ◌%◌, ◌<◌, ◌≤◌, List, [], ◌∷◌, ◌++◌, Bool, true, false, cond, Bor, Contains, filter, length, inl, inr, refl, sym, ap, ◌∙◌, subst, arith}
use Rattle.std.specs.Prelude.{Some, slice_get}
use Rattle.std.proofs.lemmas.List.{append-nil}
use Rattle.log_segment.specs.declared.segment.Segment.{Segment}
use Rattle.race_model.specs.Label.{Triple, IsConcurrent, IsLabelBefore}
use Rattle.race_laws.proofs.LabelOrder.{label_before_longer}
use Rattle.pair_compare.specs.Fields.{Agrees, field_value, label_value}
use Rattle.pair_compare.specs.Groups.{pointed}
use Rattle.pair_compare.specs.declared.field.Field.{Field}
use Rattle.pair_compare.specs.declared.field.Field.TheVariants.{Depth, Span, Barrier, Residue, Offset}
use Rattle.pair_compare.proofs.Adds.{not_in_nothing}
use Rattle.pair_compare.proofs.FieldOrder.{AreOrdered, barriers_order, lanes_apart, offsets_order, spans_apart}

-- the triple behind a prefix
at_own : (prefix : List Triple) (own : Triple) (rest : List Triple) → slice_get (prefix ++ own ∷ rest) (length prefix) ≡ Some own
at_own [] own rest = refl
at_own (t ∷ prefix) own rest = at_own prefix own rest

pub value_own : (level : ℕ) (field : Field) (prefix : List Triple) (own : Triple) (rest label : List Triple) → length prefix ≡ level → label ≡ prefix ++ own ∷ rest → label_value level field label ≡ field_value field (Some own)
value_own level field prefix own rest label long parts =
    subst (λ (n : ℕ). label_value n field label ≡ field_value field (Some own)) long
    (subst (λ (l : List Triple). label_value (length prefix) field l ≡ field_value field (Some own)) (sym parts) (ap (field_value field) (at_own prefix own rest)))

-- what labels are to each other that are the same before the field and differ there
abbrev pub Parted : Field → List Triple → List Triple → Type 0
Parted Depth l m = AreOrdered l m
Parted Span l m = IsConcurrent l m
Parted Barrier l m = AreOrdered l m
Parted Residue l m = IsConcurrent l m
Parted Offset l m = AreOrdered l m

depth_parted : (level : ℕ) (prefix xs ys l m : List Triple) → length prefix ≡ level → l ≡ prefix ++ xs → m ≡ prefix ++ ys → label_value level Depth l < label_value level Depth m → AreOrdered l m
depth_parted level prefix [] [] l m long l_is m_is less =
    let same : label_value level Depth l ≡ label_value level Depth m = ap (label_value level Depth) (l_is ∙ sym m_is) in
    absurd (omega arith)
depth_parted level prefix [] (u ∷ ys) l m long l_is m_is less =
    inl (subst (λ (k : List Triple). IsLabelBefore k m) (sym (l_is ∙ append-nil prefix)) (subst (λ (k : List Triple). IsLabelBefore prefix k) (sym m_is) (label_before_longer prefix u ys)))
depth_parted level prefix (t ∷ xs) [] l m long l_is m_is less =
    inr (subst (λ (k : List Triple). IsLabelBefore k l) (sym (m_is ∙ append-nil prefix)) (subst (λ (k : List Triple). IsLabelBefore prefix k) (sym l_is) (label_before_longer prefix t xs)))
depth_parted level prefix (t ∷ xs) (u ∷ ys) l m long l_is m_is less =
    let mine : label_value level Depth l ≡ 1 = value_own level Depth prefix t xs l long l_is in
    let yours : label_value level Depth m ≡ 1 = value_own level Depth prefix u ys m long m_is in
    absurd (omega arith)

module _ (prefix : List Triple) (l m xs ys : List Triple) (t u : Triple) (l_is : l ≡ prefix ++ t ∷ xs) (m_is : m ≡ prefix ++ u ∷ ys) where
  moved_concurrent : IsConcurrent (prefix ++ t ∷ xs) (prefix ++ u ∷ ys) → IsConcurrent l m
  moved_concurrent c = subst (λ (k : List Triple). IsConcurrent k m) (sym l_is) (subst (λ (k : List Triple). IsConcurrent (prefix ++ t ∷ xs) k) (sym m_is) c)

  moved_before : IsLabelBefore (prefix ++ t ∷ xs) (prefix ++ u ∷ ys) → AreOrdered l m
  moved_before b = inl (subst (λ (k : List Triple). IsLabelBefore k m) (sym l_is) (subst (λ (k : List Triple). IsLabelBefore (prefix ++ t ∷ xs) k) (sym m_is) b))

pub parted : (level : ℕ) (field : Field) (prefix : List Triple) (known : Triple) (l m : List Triple) → length prefix ≡ level → Agrees field prefix known l → Agrees field prefix known m → label_value level field l < label_value level field m → Parted field l m
parted level Depth prefix known l m long (xs, l_is) (ys, m_is) less = depth_parted level prefix xs ys l m long l_is m_is less
parted level Span prefix known l m long a b less =
    let mine : label_value level Span l ≡ a.own.span = value_own level Span prefix a.own a.rest l long a.parts in
    let yours : label_value level Span m ≡ b.own.span = value_own level Span prefix b.own b.rest m long b.parts in
    moved_concurrent prefix l m a.rest b.rest a.own b.own a.parts b.parts (spans_apart prefix a.rest b.rest a.own b.own (λ e. omega arith))
parted level Barrier prefix known l m long a b less =
    let mine : label_value level Barrier l ≡ a.own.barrier = value_own level Barrier prefix a.own a.rest l long a.parts in
    let yours : label_value level Barrier m ≡ b.own.barrier = value_own level Barrier prefix b.own b.rest m long b.parts in
    moved_before prefix l m a.rest b.rest a.own b.own a.parts b.parts (barriers_order prefix a.rest b.rest a.own b.own (a.agrees ∙ sym b.agrees) (omega arith))
parted level Residue prefix known l m long a b less =
    let mine : label_value level Residue l ≡ a.own.offset % a.own.span = value_own level Residue prefix a.own a.rest l long a.parts in
    let yours : label_value level Residue m ≡ b.own.offset % b.own.span = value_own level Residue prefix b.own b.rest m long b.parts in
    moved_concurrent prefix l m a.rest b.rest a.own b.own a.parts b.parts (lanes_apart prefix a.rest b.rest a.own b.own (a.agrees.1 ∙ sym b.agrees.1)
    (λ e. (let same : label_value level Residue l ≡ label_value level Residue m = mine ∙ (e ∙ sym yours) in omega arith)))
parted level Offset prefix known l m long a b less =
    let mine : label_value level Offset l ≡ a.own.offset = value_own level Offset prefix a.own a.rest l long a.parts in
    let yours : label_value level Offset m ≡ b.own.offset = value_own level Offset prefix b.own b.rest m long b.parts in
    moved_before prefix l m a.rest b.rest a.own b.own a.parts b.parts
    (offsets_order prefix a.rest b.rest a.own b.own (a.agrees.0 ∙ sym b.agrees.0) (a.agrees.1 ∙ sym b.agrees.1) (a.agrees.2 ∙ sym b.agrees.2) (omega arith))

pub same_value : (v least most : ℕ) → least ≤ v → v ≤ most → most ≤ least → v ≡ most
same_value v least most low high same = grind arith

-- the pointer to a segment
pub record PointsTo (refs : List (Bor Segment)) (a : Segment) : Type 0 where
  pub pointer : Bor Segment
  pub listed : Contains refs pointer
  pub is : pointer.now ≡ a

later_in : {X : Type 0} (x y : X) (ys : List X) → Contains ys x → Contains (y ∷ ys) x
later_in x y ys (k, within, is) = (suc k, omega arith, is)

pub points_to : (refs : List (Bor Segment)) (a : Segment) → Contains (pointed refs) a → PointsTo refs a
points_to [] a h = absurd (not_in_nothing a h)
points_to (r ∷ refs) a (zero, within, is) = record { pointer = r; listed = (0, omega arith, refl); is = is }
points_to (r ∷ refs) a (suc k, within, is) = let rest = points_to refs a (k, omega arith, is) in record { pointer = rest.pointer; listed = later_in rest.pointer r refs rest.listed; is = rest.is }

pub pointed_by : (refs : List (Bor Segment)) (r : Bor Segment) → Contains refs r → Contains (pointed refs) r.now
pointed_by [] r h = absurd (not_in_nothing r h)
pointed_by (s ∷ refs) r (zero, within, is) = (0, omega arith, ap (λ (x : Bor Segment). x.now) is)
pointed_by (s ∷ refs) r (suc k, within, is) = later_in r.now s.now (pointed refs) (pointed_by refs r (k, omega arith, is))

kept_in : {X : Type 0} (p : X → Bool) (x y : X) (ys : List X) (b : Bool) → Contains ys x → Contains (cond b (y ∷ ys) ys) x
kept_in p x y ys true h = later_in x y ys h
kept_in p x y ys false h = h

first_in : {X : Type 0} (y : X) (ys : List X) (b : Bool) → b ≡ true → Contains (cond b (y ∷ ys) ys) y
first_in y ys true e = (0, omega arith, refl)
first_in y ys false e = absurd (cc)

pub Contains-filter : {X : Type 0} (p : X → Bool) (xs : List X) (x : X) → p x ≡ true → Contains xs x → Contains (filter p xs) x
Contains-filter p [] x passes h = absurd (not_in_nothing x h)
Contains-filter p (y ∷ ys) x passes (zero, within, is) = subst (λ (z : _). Contains (cond (p y) (y ∷ filter p ys) (filter p ys)) z) is (first_in y (filter p ys) (p y) (ap p is ∙ passes))
Contains-filter p (y ∷ ys) x passes (suc k, within, is) = kept_in p x y (filter p ys) (p y) (Contains-filter p ys x passes (k, omega arith, is))
