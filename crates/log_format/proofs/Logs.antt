-- Laws of the bytes of a log: how they split, and that they tell the records.
use Rattle.std.proofs.Common.{◌≡◌, ℕ, zero, suc, ◌+◌, ◌*◌, List, [], ◌∷◌, ◌++◌, All, length, take, drop, refl, sym, ap, ◌∙◌, arith, append_assoc, length-append}
use Rattle.std.specs.List.{flat_map}
use Rattle.std.proofs.lemmas.Grind.{flat_map-append}
use Rattle.std.proofs.Math.Seq.{take-append_seam, take-append-add, drop-append_seam, drop-append-add, take-nil, drop-nil}
use Rattle.log_format.specs.declared.format.Format.{Format}
use Rattle.log_format.specs.declared.record.Record.{Record}
use Rattle.log_format.specs.Spelling.{spelling, log_bytes}
use Rattle.log_format.specs.Table.{RecordFits, IsTabled}
use Rattle.log_format.proofs.Records.{length-spelling, spelling-injective}

-- the bytes of some records, and then of more
pub spellings-append : (rs ss : List Record) → flat_map spelling (rs ++ ss) ≡ flat_map spelling rs ++ flat_map spelling ss
spellings-append rs ss = flat_map-append spelling rs ss

-- a log of more records
pub log_bytes-append : (header : List ℕ) (rs ss : List Record) → log_bytes header (rs ++ ss) ≡ log_bytes header rs ++ flat_map spelling ss
log_bytes-append header rs ss = ap (λ (bs : List ℕ). header ++ bs) (spellings-append rs ss) ∙ sym (append_assoc header (flat_map spelling rs) (flat_map spelling ss))

-- the records of a log have 24 bytes each
pub length-spellings : (rs : List Record) → length (flat_map spelling rs) ≡ 24 * length rs
length-spellings [] = refl
length-spellings (r ∷ rs) = omega (arith, length-append (spelling r) (flat_map spelling rs), length-spelling r, length-spellings rs)

one_record_on : (r : Record) (n : ℕ) → 24 * suc n ≡ length (spelling r) + 24 * n
one_record_on r n = omega (arith, length-spelling r)

-- the first records' bytes
pub take-spellings : (n : ℕ) (rs : List Record) → take (24 * n) (flat_map spelling rs) ≡ flat_map spelling (take n rs)
take-spellings zero rs = refl
take-spellings (suc n) [] = take-nil (24 * suc n)
take-spellings (suc n) (r ∷ rs) =
    ap (λ (m : ℕ). take m (spelling r ++ flat_map spelling rs)) (one_record_on r n)
    ∙ take-append-add (spelling r) (flat_map spelling rs) (24 * n)
    ∙ ap (λ (bs : List ℕ). spelling r ++ bs) (take-spellings n rs)

-- the bytes of the records after them
pub drop-spellings : (n : ℕ) (rs : List Record) → drop (24 * n) (flat_map spelling rs) ≡ flat_map spelling (drop n rs)
drop-spellings zero rs = refl
drop-spellings (suc n) [] = drop-nil (24 * suc n)
drop-spellings (suc n) (r ∷ rs) =
    ap (λ (m : ℕ). drop m (spelling r ++ flat_map spelling rs)) (one_record_on r n)
    ∙ drop-append-add (spelling r) (flat_map spelling rs) (24 * n)
    ∙ drop-spellings n rs

first_spelled : (r : Record) (bs : List ℕ) → take 24 (spelling r ++ bs) ≡ spelling r
first_spelled r bs = ap (λ (n : ℕ). take n (spelling r ++ bs)) (sym (length-spelling r)) ∙ take-append_seam (spelling r) bs

rest_spelled : (r : Record) (bs : List ℕ) → drop 24 (spelling r ++ bs) ≡ bs
rest_spelled r bs = ap (λ (n : ℕ). drop n (spelling r ++ bs)) (sym (length-spelling r)) ∙ drop-append_seam (spelling r) bs

-- the bytes of records tell the records
pub spellings-injective : (rs ss : List Record) → All RecordFits rs → All RecordFits ss → flat_map spelling rs ≡ flat_map spelling ss → rs ≡ ss
spellings-injective [] [] rs_fit ss_fit same = refl
spellings-injective [] (s ∷ ss) rs_fit ss_fit same = absurd (omega (arith, ap length same, length-spellings (s ∷ ss)))
spellings-injective (r ∷ rs) [] rs_fit ss_fit same = absurd (omega (arith, ap length same, length-spellings (r ∷ rs)))
spellings-injective (r ∷ rs) (s ∷ ss) rs_fit ss_fit same =
    let first : spelling r ≡ spelling s = sym (first_spelled r (flat_map spelling rs)) ∙ ap (λ (bs : List ℕ). take 24 bs) same ∙ first_spelled s (flat_map spelling ss) in
    let rest : flat_map spelling rs ≡ flat_map spelling ss = sym (rest_spelled r (flat_map spelling rs)) ∙ ap (λ (bs : List ℕ). drop 24 bs) same ∙ rest_spelled s (flat_map spelling ss) in
    let one : r ≡ s = spelling-injective r s (rs_fit 0 r (omega arith)) (ss_fit 0 s (omega arith)) first in
    let others : rs ≡ ss = spellings-injective rs ss (λ k d h. rs_fit (suc k) d (omega arith)) (λ k d h. ss_fit (suc k) d (omega arith)) rest in
    ap (λ (x : Record). x ∷ rs) one ∙ ap (λ (xs : List Record). s ∷ xs) others

-- and so does a log
pub log_bytes-injective : {format : Format} (header : List ℕ) (rs ss : List Record) → All (IsTabled format) rs → All (IsTabled format) ss → log_bytes header rs ≡ log_bytes header ss → rs ≡ ss
log_bytes-injective header rs ss rs_tabled ss_tabled same =
    spellings-injective rs ss (λ k d h. (rs_tabled k d h).fits) (λ k d h. (ss_tabled k d h).fits)
    (sym (drop-append_seam header (flat_map spelling rs)) ∙ ap (λ (bs : List ℕ). drop (length header) bs) same ∙ drop-append_seam header (flat_map spelling ss))
