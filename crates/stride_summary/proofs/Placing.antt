-- A map that tells the places of keys.
use Rattle.std.proofs.Common.{◌≡◌, ℕ, ◌+◌, ◌<◌, Bool, true, false, cond, List, [], ◌∷◌, ◌++◌, length, get_or, Option, Some, None, inl, inr, refl, sym, ap, ◌∙◌, subst, arith}
use Rattle.std.specs.Prelude.{All}
use Rattle.std.specs.BTreeMap.{BTreeMap}
use Rattle.std.specs.Ordering.{is_eq}
use Rattle.std.specs.declared.cmp.Ordering.{Ordering}
use Rattle.std.specs.declared.cmp.Ordering.TheVariants.{Less, Equal, Greater}
use Rattle.std.proofs.lemmas.Bool.{cases_lt}
use Rattle.std.proofs.lemmas.Cmp.{tied_itself}
use Rattle.std.proofs.lemmas.List.{get_or_append_left, get_or_at, length_push}
use Rattle.stride_summary.specs.contracts.key.KeyOrd.TheImpl.Laws.{total-law}
use Rattle.stride_summary.specs.declared.key.Key.{Key}
use Rattle.stride_summary.specs.declared.stretch.Stretch.{Stretch}
use Rattle.stride_summary.specs.Places.{TellsPlaces, key_cmp, place_under}
use Rattle.stride_summary.specs.Stretches.{IsPlaceOf}
use Rattle.stride_summary.proofs.Ordered.{exact_key}

equal_is : (o : Ordering) → is_eq o ≡ true → o ≡ Equal
equal_is Less e = cc
equal_is Equal e = refl
equal_is Greater e = cc

-- one more key, with its place
module _ (old new : BTreeMap Key ℕ) (stretches : List Stretch) (stretch : Stretch) (key : Key) (is : stretch.key ≡ key)
    (updated : (q : Key) → place_under new q ≡ cond (is_eq (key_cmp key q)) (Some (length stretches)) (place_under old q)) (told : TellsPlaces old stretches) where
  long : length (stretches ++ stretch ∷ []) ≡ length stretches + 1
  long = length_push stretches stretch

  keyed_before : (i : ℕ) (d : Stretch) → i < length stretches → (get_or (stretches ++ stretch ∷ []) i d).key ≡ (get_or stretches i d).key
  keyed_before i d before = ap (λ (s : Stretch). s.key) (get_or_append_left stretches (stretch ∷ []) d i before)

  keyed_last : (i : ℕ) (d : Stretch) → length stretches ≡ i → (get_or (stretches ++ stretch ∷ []) i d).key ≡ key
  keyed_last i d last = ap (λ (s : Stretch). s.key) (get_or_at stretches stretch [] d i last) ∙ is

  Told : Key → Option ℕ → Type 0
  Told q found = (found ≡ None → All (λ (s : Stretch). s.key ≡ q → ⊥) (stretches ++ stretch ∷ []))
      × ((place : ℕ) → found ≡ Some place → IsPlaceOf (stretches ++ stretch ∷ []) q place)

  still : (q : Key) → (key ≡ q → ⊥) → Told q (place_under old q)
  unfolding Told
  still q other = (
    (λ none i d within same. elim (cases_lt i (length stretches)) [
      | inl before ↦ (told q).0 none i d before (sym (keyed_before i d before) ∙ same)
      | inr not ↦ other (sym (keyed_last i d (omega (arith, long))) ∙ same)
    ]),
    (λ place found. let at = (told q).1 place found in (omega (arith, long, at.0), λ d. keyed_before place d at.0 ∙ at.1 d)),
  )

  here : (q : Key) → key ≡ q → Told q (Some (length stretches))
  unfolding Told
  here q same = (
    (λ none. absurd (cc none)),
    (λ place found. let last : length stretches ≡ place = cc found in (omega (arith, long), λ d. keyed_last place d last ∙ same)),
  )

  pub told_put : TellsPlaces new (stretches ++ stretch ∷ [])
  unfolding Told
  told_put q = subst (Told q) (sym (updated q)) (go (is_eq (key_cmp key q)) refl) where
    go : (b : Bool) → is_eq (key_cmp key q) ≡ b → Told q (cond b (Some (length stretches)) (place_under old q))
    go true e = here q (exact_key key q (equal_is (key_cmp key q) e))
    go false e = still q (λ same.
        let equal : is_eq (key_cmp key q) ≡ true = ap (λ (k : Key). is_eq (key_cmp k q)) same ∙ ap is_eq (tied_itself total-law q) in
        cc)
