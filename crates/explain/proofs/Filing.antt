-- Suspects by their keys, as one more is put there.
use Rattle.std.proofs.Common.{◌≡◌, List, [], ◌∷◌, ◌++◌, Contains, Bool, true, false, Ordering, Equal, Less, Greater, Option, Some, None, refl, sym, subst, ◌∙◌}
use Rattle.std.specs.Borrow.{Bor}
use Rattle.std.specs.BTreeMap.{BTreeMap, Updates, UpdatesBy, get, get_by}
use Rattle.std.specs.Cmp.{IsTotalOrder}
use Rattle.std.specs.Global.{Vec}
use Rattle.std.specs.Option.{option_copied, IsSomeAnd}
use Rattle.std.specs.Ordering.{is_eq}
use Rattle.std.proofs.lemmas.List.Elements.{Contains-append_left}
use Rattle.std.proofs.lemmas.Option.{same_Some}
use Rattle.log_segment.specs.declared.segment.Segment.{Segment}
use Rattle.explain.specs.Filed.{IsFiled}

equal_is : (o : Ordering) → is_eq o ≡ true → o ≡ Equal
equal_is Less e = cc
equal_is Equal e = refl
equal_is Greater e = cc

module _ {K : Type 0} {R : K → K → Ordering} (o : IsTotalOrder R) where
  get_same : {X : Type 0} (m : BTreeMap K X) (x y : K) → R x y ≡ Equal → get R m x ≡ get R m y
  get_same m x y e i = get_by (λ z. o.congr x y z e i) m

  -- those of each key stay
  pub filed_more : (old taken new : BTreeMap K (Vec (Bor Segment))) (key : K) (group grown : Vec (Bor Segment)) (one : Bor Segment)
      → ((found : Vec (Bor Segment)) → get R old key ≡ Some found → group ≡ found) → UpdatesBy R (R key) old taken None → grown.items ≡ group.items ++ one ∷ [] → Updates R taken new key (Some grown)
      → (other : K) (s : Segment) → IsFiled R old other s → IsFiled R new other s
  filed_more old taken new key group grown one was takes grows puts other s h = go (is_eq (R key other)) refl
    where
      go : (b : Bool) → is_eq (R key other) ≡ b → IsFiled R new other s
      go false apart = record { found = h.found; there = puts.2 other apart ∙ (takes.2 other apart ∙ h.there); has = h.has }
      go true e =
          let equal : R key other ≡ Equal = equal_is (R key other) e in
          let same : group ≡ h.found = was h.found (get_same old key other equal ∙ h.there) in
          record {
            found = grown;
            there = sym (get_same new key other equal) ∙ puts.1;
            has = record {
              one = h.has.one;
              listed = subst (λ (l : List (Bor Segment)). Contains l h.has.one) (sym grows)
                  (Contains-append_left group.items (one ∷ []) h.has.one (subst (λ (g : Vec (Bor Segment)). Contains g.items h.has.one) (sym same) h.has.listed));
              same = h.has.same;
            };
          }

-- what was found is what stands there
pub finds : {X : Type 0} (P : X → Type 0) (found : Option (Bor X)) (x : X) → option_copied found ≡ Some x → P x → IsSomeAnd found (λ (b : Bor X). P b.now)
finds P None x is has = absurd (cc)
finds P (Some b) x is has = subst P (sym (same_Some b.now x is)) has

pub not_found : {X : Type 0} (P : X → Type 0) (found : Option X) → found ≡ None → IsSomeAnd found P → ⊥
not_found P found is has = let none : IsSomeAnd None P = subst (λ o. IsSomeAnd o P) is has in none

pub found_has : {X : Type 0} (P : X → Type 0) (found : Option X) (x : X) → found ≡ Some x → IsSomeAnd found P → P x
found_has P found x is has = let there : IsSomeAnd (Some x) P = subst (λ o. IsSomeAnd o P) is has in there
