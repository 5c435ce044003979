-- The lanes of a team, the last of which is apart from the others.
use Rattle.std.proofs.Common.{◌≡◌, refl, ap, sym, ◌∙◌, subst, ℕ, ◌+◌, ◌<◌, List, [], ◌∷◌, ◌++◌, length, slice_index_or, arith}
use Rattle.std.specs.Prelude.{Bool, true, false, nat_lt}
use Rattle.std.proofs.lemmas.Bool.{ltb-true, ltb-false}
use Rattle.std.proofs.lemmas.List.{get_or_append_left, length-append}
use Rattle.std.proofs.Math.Seq.{get_or-append_seam}
use Rattle.team_live.specs.Phases.{EachDid, IsBack}

module _ {M : Type 0} (number : ℕ) (lanes earlier : List M) (last : M) (is : lanes ≡ earlier ++ last ∷ []) where
  count : length lanes ≡ length earlier + 1
  count = ap (λ (xs : List M). length xs) is ∙ length-append earlier (last ∷ [])

  before : (index : ℕ) (d : M) → index < length earlier → slice_index_or lanes index d ≡ slice_index_or earlier index d
  before index d less = ap (λ (xs : List M). slice_index_or xs index d) is ∙ get_or_append_left earlier (last ∷ []) d index less

  there : (index : ℕ) (d : M) → index ≡ length earlier → slice_index_or lanes index d ≡ last
  there index d at =
      ap (λ (k : ℕ). slice_index_or lanes k d) at ∙ ap (λ (xs : List M). slice_index_or xs (length earlier) d) is ∙ get_or-append_seam earlier last [] d

pub did_all : {M : Type 0} (did : ℕ → ℕ → M → M → Type 0) (number : ℕ) (lanes earlier after : List M) (last home : M) → lanes ≡ earlier ++ last ∷ [] → EachDid did number earlier after → did number (length earlier) last home
    → EachDid did number lanes (after ++ home ∷ [])
did_all {M} did number lanes earlier after last home is others own = record {
  count = length-append after (home ∷ []) ∙ ap (λ (n : ℕ). n + 1) others.count ∙ sym (count number lanes earlier last is);
  each = λ index d less. by index d less (nat_lt index (length earlier)) refl;
}
  where
    by : (index : ℕ) (d : M) → index < length lanes → (below : Bool) → nat_lt index (length earlier) ≡ below → did number index (slice_index_or lanes index d) (slice_index_or (after ++ home ∷ []) index d)
    by index d less true below =
        let inside : index < length earlier = ltb-true index (length earlier) below in
        let same = others.count in
        subst (λ (m : M). did number index m (slice_index_or (after ++ home ∷ []) index d)) (sym (before number lanes earlier last is index d inside))
        (subst (λ (m : M). did number index (slice_index_or earlier index d) m) (sym (get_or_append_left after (home ∷ []) d index (omega (arith, inside, same)))) (others.each index d inside))
    by index d less false below =
        let past = ltb-false index (length earlier) below in
        let long = count number lanes earlier last is in
        let at : index ≡ length earlier = omega (arith, past, less, long) in
        subst (λ (m : M). did number index m (slice_index_or (after ++ home ∷ []) index d)) (sym (there number lanes earlier last is index d at))
        (subst (λ (m : M). did number index last m) (sym (there number (after ++ home ∷ []) after home refl index d (at ∙ sym others.count)))
        (subst (λ (k : ℕ). did number k last home) (sym at) own))

-- the lane of a parcel that is back
pub back_did : {M : Type 0} (did : ℕ → ℕ → M → M → Type 0) (number index number' index' number'' index'' : ℕ) (lane sent back home : M) → number' ≡ number → index' ≡ index → sent ≡ lane → IsBack did number' index' sent number'' index'' back → home ≡ back
    → did number index lane home
back_did {M} did number index number' index' number'' index'' lane sent back home numbers indices lanes b is =
    subst (λ (k : ℕ). did k index lane home) numbers
    (subst (λ (k : ℕ). did number' k lane home) indices
    (subst (λ (m : M). did number' index' m home) lanes
    (subst (λ (m : M). did number' index' sent m) (sym is) b.done)))
