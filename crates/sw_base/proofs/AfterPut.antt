-- What a folder holds after a file was put or a log was sealed.
use Rattle.std.proofs.Common.{◌≡◌, ◌≢◌, ℕ, List, Some, refl, sym, true, false}
use Rattle.std.proofs.lemmas.Bool.{false_from_ne_true}
use Rattle.std.proofs.lemmas.Slice.Eq.{bytes_eq-Decides}
use Rattle.std.specs.Str.{bytes_eq}
use Rattle.sw_base.specs.Environment.{Files, with_file}

-- the name holds the bytes
pub with_file-here : (name bytes : List ℕ) (files : Files) → with_file name bytes files name ≡ Some bytes
with_file-here name bytes files = let same : bytes_eq name name ≡ true = (bytes_eq-Decides name name).1 refl in rw same refl

-- another name is as before
pub with_file-elsewhere : (name bytes : List ℕ) (files : Files) (other : List ℕ) → other ≢ name → with_file name bytes files other ≡ files other
with_file-elsewhere name bytes files other apart =
    let differs : bytes_eq name other ≡ false = false_from_ne_true (bytes_eq name other) (λ same. apart (sym ((bytes_eq-Decides name other).0 same))) in
    rw differs refl
