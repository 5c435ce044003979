-- Headers have eight bytes.
use Rattle.std.proofs.Common.{◌≡◌, List, [], ◌++◌, ◌<◌, length, take, drop, get_or, ℕ, Option, Some, refl, ap, ◌∙◌, arith}
use Rattle.std.specs.Prelude.{unwrap_or}
use Rattle.std.proofs.lemmas.List.{take_at, drop_at}
use Rattle.log_format.specs.declared.format.Format.{Format}
use Rattle.log_format.specs.declared.format.Format.TheVariants.{First, Second}
use Rattle.log_format.specs.Format.{index_header, older_header}

pub length-index_header : (format : Format) → length (index_header format) ≡ 8
length-index_header First = refl
length-index_header Second = refl

-- what follows an index's header
pub after_index_header : (format : Format) (rest : List ℕ) → drop 8 (index_header format ++ rest) ≡ rest
after_index_header format rest = drop_at (index_header format) rest 8 (length-index_header format)

pub first_index_header : (format : Format) (rest : List ℕ) → take 8 (index_header format ++ rest) ≡ index_header format
first_index_header format rest = take_at (index_header format) rest 8 (length-index_header format)

apart : (m n : ℕ) → m ≡ n → m < n → ⊥
apart m n same less = omega arith

-- the header of an older index is another
pub older_is_other : (format : Format) (bytes : List ℕ) → older_header format ≡ Some bytes → bytes ≡ index_header format → ⊥
older_is_other First bytes older is = cc
older_is_other Second bytes older is =
    apart 49 50 (ap (λ (o : Option (List ℕ)). get_or (unwrap_or o []) 7 0) (older ∙ ap (λ (bs : List ℕ). Some bs) is)) (omega arith)
