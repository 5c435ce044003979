-- What a file that is read piece by piece is known to be.
use Rattle.std.proofs.Common.{◌≡◌, refl, sym, ap, ◌∙◌, arith, ℕ, ◌<◌, ◌≤◌, List, [], ◌∷◌, ◌++◌, length, take, drop, Option, Some, None, append_assoc, length-append, inl, inr}
use Rattle.std.proofs.lemmas.Bool.{cases_lt}
use Rattle.std.specs.Prelude.{unwrap_or}
use Rattle.std.specs.Option.{option_map}
use Rattle.std.proofs.lemmas.List.{append-nil, drop_at, take-append-drop}
use Rattle.sw_base.specs.Environment.{Content, WhereTold, Reads}

-- the file begins with these bytes
pub record BeginsWith (file bytes : List ℕ) : Type 0 where
  pub rest : List ℕ
  pub parts : file ≡ bytes ++ rest

-- a folder's file begins with these bytes, where the folder tells
pub record ToldPrefix (told : Option Content) (name bytes : List ℕ) : Type 0 where
  pub prefix : (c : Content) → told ≡ Some c → BeginsWith (unwrap_or (c.held name) []) bytes

begins_with_more : (file bytes window : List ℕ) (n : ℕ) → BeginsWith file bytes → Reads file (length bytes) n window → BeginsWith file (bytes ++ take n window)
begins_with_more file bytes window n begins reads = record {
  rest = drop n begins.rest;
  parts = begins.parts
      ∙ ap (λ (bs : List ℕ). bytes ++ bs) (sym (take-append-drop n begins.rest))
      ∙ sym (append_assoc bytes (take n begins.rest) (drop n begins.rest))
      ∙ ap (λ (bs : List ℕ). (bytes ++ bs) ++ drop n begins.rest) (sym is);
} where
  after : drop (length bytes) file ≡ begins.rest
  after = ap (λ (bs : List ℕ). drop (length bytes) bs) begins.parts ∙ drop_at bytes begins.rest (length bytes) refl

  is : take n window ≡ take n begins.rest
  is = reads.prefix ∙ ap (λ (bs : List ℕ). take n bs) after

-- nothing was read yet
pub told_none : (told : Option Content) (name : List ℕ) → ToldPrefix told name []
told_none told name = record { prefix = λ c is. record { rest = unwrap_or (c.held name) []; parts = refl } }

-- one piece more was read
pub told_more : (told : Option Content) (name bytes window : List ℕ) (n : ℕ) → ToldPrefix told name bytes
    → WhereTold told (λ c. Reads (unwrap_or (c.held name) []) (length bytes) n window) → ToldPrefix told name (bytes ++ take n window)
told_more told name bytes window n begins reads =
    record { prefix = λ c is. begins_with_more (unwrap_or (c.held name) []) bytes window n (begins.prefix c is) (reads c is) }

whole : (file bytes : List ℕ) → BeginsWith file bytes → length file ≤ length bytes → file ≡ bytes
whole file bytes begins enough = at begins.rest begins.parts
  where
    at : (rest : List ℕ) → file ≡ bytes ++ rest → file ≡ bytes
    at [] parts = parts ∙ append-nil bytes
    at (x ∷ xs) parts = absurd (omega (arith, ap length parts, length-append bytes (x ∷ xs)))

held_whole : (held : Option (List ℕ)) (bytes : List ℕ) (size : ℕ) → Some size ≡ option_map length held → BeginsWith (unwrap_or held []) bytes
    → (length (unwrap_or held []) ≡ size → length (unwrap_or held []) ≤ length bytes) → held ≡ Some bytes
held_whole None bytes size sized begins enough = cc
held_whole (Some file) bytes size sized begins enough =
    let same : length file ≡ size = ap (λ (n : Option ℕ). unwrap_or n 0) (sym sized) in
    ap Some (whole file bytes begins (enough same))

-- no more bytes came
pub told_stop : (told : Option Content) (name bytes window : List ℕ) (size : ℕ) → ToldPrefix told name bytes
    → WhereTold told (λ c. Some size ≡ option_map length (c.held name)) → 0 < length window
    → WhereTold told (λ c. Reads (unwrap_or (c.held name) []) (length bytes) 0 window) → WhereTold told (λ c. c.held name ≡ Some bytes)
told_stop told name bytes window size begins sized room reads =
    λ c is. held_whole (c.held name) bytes size (sized c is) (begins.prefix c is)
    (λ same. elim (cases_lt (length bytes) (length (unwrap_or (c.held name) []))) [
      | inl more ↦ let none = (reads c is).some room more in omega arith
      | inr enough ↦ enough
    ])
