-- Putting a position before the later ones of its group.
use Rattle.std.proofs.Common.{◌≡◌, ◌⊎◌, inl, inr, ℕ, ◌+◌, ◌<◌, ◌≤◌, Bool, true, false, cond, List, length, Option, Some, None, get_or, refl, sym, ap, subst, ◌∙◌, arith}
use Rattle.std.specs.BTreeMap.{BTreeMap, get}
use Rattle.std.specs.Cmp.Lexicographic.{slice_cmp}
use Rattle.std.specs.Global.{Vec}
use Rattle.std.specs.Ordering.{nat_cmp, is_eq}
use Rattle.std.specs.declared.cmp.Ordering.{Ordering}
use Rattle.std.specs.declared.cmp.Ordering.TheVariants.{Less, Equal, Greater}
use Rattle.std.proofs.lemmas.Cmp.{nat_list_cmp_total, tied_itself}
use Rattle.std.proofs.lemmas.Map.Lookups.{exact_bytes}
use Rattle.std.proofs.lemmas.Option.{slice_get_read}
use Rattle.race_model.specs.Label.{Triple}
use Rattle.log_segment.specs.declared.segment.Segment.{Segment}
use Rattle.segment_groups.specs.Group.{group_key, label_at, label_of}
use Rattle.segment_groups.specs.Level.{AreHeads, HasKey, IsLeastNumber, IsMember, Labels}

pub label_read : (segments : List Segment) (at : ℕ) (segment : Segment) → at < length segments → segment ≡ get_or segments at segment → label_at segments at ≡ segment.label
label_read segments at segment within read = ap label_of (slice_get_read segments (length segments) at segment refl within read)

pub label_deep : (segments : List Segment) (at depth : ℕ) (segment : Segment) (triples : List Triple) → at < length segments → segment ≡ get_or segments at segment → triples ≡ (get_or segments at segment).label
    → depth < length triples → depth < length (label_at segments at)
label_deep segments at depth segment triples within read same deep = subst (λ (l : List Triple). depth < length l) (same ∙ sym (ap (λ (s : Segment). s.label) read) ∙ sym (label_read segments at segment within read)) deep

first_same : (P Q : ℕ → Type 0) (found : Option ℕ) → ((n : ℕ) → P n → Q n) → ((n : ℕ) → Q n → P n) → IsLeastNumber P found → IsLeastNumber Q found
first_same P Q None to from none = λ n q. none n (from n q)
first_same P Q (Some least) to from first = (to least first.0, λ n q. first.1 n (from n q))

same_or_later : (m n : ℕ) → m ≤ n → (m ≡ n) ⊎ (m + 1 ≤ n)
same_or_later m n le = grind arith

-- the position isn't the first of the key's group
not_here : (depth : ℕ) (labels : Labels) (at : ℕ) (key : List ℕ) (found : Option ℕ) → (HasKey depth labels key at → ⊥) → IsLeastNumber (λ n. (at + 1 ≤ n) × HasKey depth labels key n) found → IsLeastNumber (λ n. (at ≤ n) × HasKey depth labels key n) found
not_here depth labels at key found other = first_same (λ n. (at + 1 ≤ n) × HasKey depth labels key n) (λ n. (at ≤ n) × HasKey depth labels key n) found
    (λ n h. ((let low = h.0 in omega arith), h.1))
    (λ n h. elim (same_or_later at n h.0) [
      | inl same ↦ absurd (other (subst (λ (k : ℕ). HasKey depth labels key k) (sym same) h.1))
      | inr later ↦ (later, h.1)
    ])

pub member_first : (depth : ℕ) (labels : Labels) (at : ℕ) (key : List ℕ) (found : Option ℕ) → depth < length (labels at) → key ≡ group_key depth (labels at)
    → IsLeastNumber (λ n. (at + 1 ≤ n) × HasKey depth labels key n) found → IsLeastNumber (IsMember depth labels at) found
member_first depth labels at key found deep is = first_same (λ n. (at + 1 ≤ n) × HasKey depth labels key n) (IsMember depth labels at) found
    (λ n h. record { later = (let low = h.0 in omega arith); group = record { mine = deep; yours = h.1.deep; same = sym is ∙ sym h.1.keyed } })
    (λ n member. ((let less = member.later in omega arith), record { deep = member.group.yours; keyed = sym member.group.same ∙ sym is }))

equal_is : (o : Ordering) → is_eq o ≡ true → o ≡ Equal
equal_is Less e = cc
equal_is Equal e = refl
equal_is Greater e = cc

pub heads_put : (depth : ℕ) (labels : Labels) (at : ℕ) (old new : BTreeMap (Vec ℕ) ℕ) (key : Vec ℕ) → depth < length (labels at) → key.items ≡ group_key depth (labels at)
    → ((q : Vec ℕ) → get (λ x y. slice_cmp nat_cmp x.items y.items) new q ≡ cond (is_eq (slice_cmp nat_cmp key.items q.items)) (Some at) (get (λ x y. slice_cmp nat_cmp x.items y.items) old q))
    → AreHeads depth labels (at + 1) old → AreHeads depth labels at new
heads_put depth labels at old new key deep is updated are q = subst (λ (o : Option ℕ). IsLeastNumber (λ n. (at ≤ n) × HasKey depth labels q.items n) o) (sym (updated q)) (go (is_eq (slice_cmp nat_cmp key.items q.items)) refl)
  where
    go : (b : Bool) → is_eq (slice_cmp nat_cmp key.items q.items) ≡ b → IsLeastNumber (λ n. (at ≤ n) × HasKey depth labels q.items n) (cond b (Some at) (get (λ x y. slice_cmp nat_cmp x.items y.items) old q))
    go true e =
        let same : key.items ≡ q.items = exact_bytes key.items q.items (equal_is (slice_cmp nat_cmp key.items q.items) e) in
        ((omega arith, record { deep = deep; keyed = sym is ∙ same }), λ n h. h.0)
    go false e = not_here depth labels at q.items _
        (λ h. let same : key.items ≡ q.items = is ∙ h.keyed in
        let equal : is_eq (slice_cmp nat_cmp key.items q.items) ≡ true = ap (λ (ks : List ℕ). is_eq (slice_cmp nat_cmp ks q.items)) same ∙ ap is_eq (tied_itself nat_list_cmp_total q.items) in
        cc) (are q)
