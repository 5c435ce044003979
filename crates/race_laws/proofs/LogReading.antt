-- Bytes spell one list of records: what is read of a log is a prefix of what it holds.
use Rattle.std.proofs.Common.{◌≡◌, ℕ, suc, ◌≤◌, List, [], ◌∷◌, ◌++◌, length, take, drop, refl, sym, ap, ◌∙◌, arith, append_assoc, All}
use Rattle.std.specs.List.{flat_map}
use Rattle.std.proofs.lemmas.List.{append-nil, append_cancel_left, take_at, drop_at, take_all, drop_all}
use Rattle.log_format.specs.declared.format.Format.{Format}
use Rattle.log_format.specs.Format.{log_header}
use Rattle.log_format.specs.declared.record.Record.{Record}
use Rattle.log_format.specs.Spelling.{spelling, log_bytes}
use Rattle.log_format.specs.Table.{IsTabled}
use Rattle.log_format.proofs.Records.{length-spelling, spelling-injective}
use Rattle.race_model.specs.LogFault.{IsRead}

-- all but the first
all_tail : {X : Type 0} (P : X → Type 0) (x : X) (xs : List X) → All P (x ∷ xs) → All P xs
all_tail P x xs each = λ k d h. each (suc k) d (omega arith)

-- bytes that begin with two spellings begin with one
pub same_first : {format : Format} (r s : Record) (more other : List ℕ) → IsTabled format r → IsTabled format s → spelling r ++ more ≡ spelling s ++ other → (r ≡ s) × (more ≡ other)
same_first r s more other r_tabled s_tabled same = (
  spelling-injective r s r_tabled.fits s_tabled.fits
      (sym (take_at (spelling r) more 24 (length-spelling r)) ∙ ap (λ bs. take 24 bs) same ∙ take_at (spelling s) other 24 (length-spelling s)),
  sym (drop_at (spelling r) more 24 (length-spelling r)) ∙ ap (λ bs. drop 24 bs) same ∙ drop_at (spelling s) other 24 (length-spelling s),
)

-- what a shorter list of records leaves of the bytes
pub record IsPrefix (records before : List Record) (rest more : List ℕ) : Type 0 where
  pub prefix : before ≡ take (length before) records
  pub left : more ≡ flat_map spelling (drop (length before) records) ++ rest

pub is_prefix : {format : Format} (records before : List Record) (rest more : List ℕ) → All (IsTabled format) records → All (IsTabled format) before → length before ≤ length records
    → flat_map spelling records ++ rest ≡ flat_map spelling before ++ more → IsPrefix records before rest more
is_prefix records [] rest more tabled before_tabled within same = record { prefix = refl; left = sym same }
is_prefix [] (b ∷ before) rest more tabled before_tabled within same = absurd (omega arith)
is_prefix {format} (r ∷ records) (b ∷ before) rest more tabled before_tabled within same =
    let regrouped : spelling r ++ (flat_map spelling records ++ rest) ≡ spelling b ++ (flat_map spelling before ++ more)
    = sym (append_assoc (spelling r) (flat_map spelling records) rest) ∙ same ∙ append_assoc (spelling b) (flat_map spelling before) more in
    let first = same_first r b _ _ (tabled 0 r (omega arith)) (before_tabled 0 b (omega arith)) regrouped in
    let rest_is = is_prefix records before rest more (all_tail (IsTabled format) r records tabled) (all_tail (IsTabled format) b before before_tabled) (omega arith) first.1 in
    record {
      prefix = ap (λ (x : Record). x ∷ before) (sym first.0) ∙ ap (λ (xs : List Record). r ∷ xs) rest_is.prefix;
      left = rest_is.left;
    }

-- a log that was read to the end of some records has the fewer ones as its prefix
pub read_prefix : {format : Format} (bytes : List ℕ) (records before : List Record) (rest more : List ℕ) → IsRead format bytes records rest → IsRead format bytes before more
    → length before ≤ length records → IsPrefix records before rest more
read_prefix {format} bytes records before rest more one other within =
    is_prefix records before rest more one.tabled other.tabled within
    (append_cancel_left (log_header format) _ _
    (sym (append_assoc (log_header format) (flat_map spelling records) rest) ∙ sym one.parts ∙ other.parts ∙ append_assoc (log_header format) (flat_map spelling before) more))

-- and is told to have just these records where it is told to have as many
pub record IsNext (records before : List Record) (rest more : List ℕ) : Type 0 where
  pub before_is : before ≡ records
  pub more_is : more ≡ rest

pub is_next : {format : Format} (bytes : List ℕ) (records before : List Record) (rest more : List ℕ) → IsRead format bytes records rest → IsRead format bytes before more
    → length before ≡ length records → IsNext records before rest more
is_next bytes records before rest more one other same =
    let prefix = read_prefix bytes records before rest more one other (omega arith) in
    record {
      before_is = prefix.prefix ∙ take_all (length before) records (omega arith);
      more_is = prefix.left ∙ ap (λ (xs : List Record). flat_map spelling xs ++ rest) (drop_all (length before) records (omega arith));
    }

-- a whole log is read to its end
pub whole_read : {format : Format} (records : List Record) → All (IsTabled format) records → IsRead format (log_bytes (log_header format) records) records []
whole_read {format} records tabled = record { parts = sym (append-nil (log_bytes (log_header format) records)); tabled = tabled }
