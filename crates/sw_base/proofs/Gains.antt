-- What appends add up to, and what is left after one that failed.
use Rattle.std.proofs.Common.{◌≡◌, refl, ℕ, List, [], ◌++◌, Option, Some, None, ap, sym, ◌∙◌, append_assoc}
use Rattle.std.proofs.lemmas.List.{append-nil}
use Rattle.sw_base.specs.Environment.{gained, GainsPrefix}

pub gained-none : (written : Option (List ℕ)) → gained written [] ≡ written
gained-none None = refl
gained-none (Some bytes) = ap Some (append-nil bytes)

pub gained-gained : (written : Option (List ℕ)) (a b : List ℕ) → gained (gained written a) b ≡ gained written (a ++ b)
gained-gained None a b = refl
gained-gained (Some bytes) a b = ap Some (append_assoc bytes a b)

-- nothing was added
pub GainsPrefix-same : (old new : Option (List ℕ)) (piece : List ℕ) → new ≡ old → GainsPrefix old new piece
GainsPrefix-same old new piece same = record { prefix = []; rest = piece; parts = refl; gains = same ∙ sym (gained-none old) }

-- all of it was added
pub GainsPrefix-all : (old new : Option (List ℕ)) (piece : List ℕ) → new ≡ gained old piece → GainsPrefix old new piece
GainsPrefix-all old new piece all = record { prefix = piece; rest = []; parts = sym (append-nil piece); gains = all }

-- a prefix of a first part is one of the whole
pub GainsPrefix-append : (old new : Option (List ℕ)) (a b : List ℕ) → GainsPrefix old new a → GainsPrefix old new (a ++ b)
GainsPrefix-append old new a b gains = record {
  prefix = gains.prefix;
  rest = gains.rest ++ b;
  parts = ap (λ c. c ++ b) gains.parts ∙ append_assoc gains.prefix gains.rest b;
  gains = gains.gains;
}

-- a prefix of a second part, after the first
pub GainsPrefix-after : (old between new : Option (List ℕ)) (a b : List ℕ) → between ≡ gained old a → GainsPrefix between new b → GainsPrefix old new (a ++ b)
GainsPrefix-after old between new a b first gains = record {
  prefix = a ++ gains.prefix;
  rest = gains.rest;
  parts = ap (λ c. a ++ c) gains.parts ∙ sym (append_assoc a gains.prefix gains.rest);
  gains = gains.gains ∙ ap (λ w. gained w gains.prefix) first ∙ gained-gained old a gains.prefix;
}
