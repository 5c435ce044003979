-- An index tells its rows, and one that was put is there.
use Rattle.std.proofs.Common.{◌≡◌, ◌⊎◌, inl, inr, ℕ, ◌<◌, ◌≤◌, List, [], ◌∷◌, ◌++◌, All, length, drop, map, Bool, Some, refl, sym, ap, ◌∙◌, arith, length-append}
use Rattle.std.specs.Prelude.{if◌then◌else◌}
use Rattle.std.specs.List.{flat_map}
use Rattle.std.proofs.lemmas.Bool.{cases_order}
use Rattle.std.proofs.lemmas.List.{append-nil, length-map}
use Rattle.std.proofs.lemmas.List.Elements.{All-head}
use Rattle.std.proofs.lemmas.Slice.Eq.{bytes_eq-Decides}
use Rattle.sw_base.specs.declared.path.Step.{Step}
use Rattle.sw_base.specs.Environment.{Files, with_file}
use Rattle.sw_base.specs.Names.{index_name}
use Rattle.log_format.specs.declared.format.Format.{Format}
use Rattle.log_format.proofs.Headers.{after_index_header}
use Rattle.race_model.specs.Row.{Row, RawRow, RowFits, row_spelling, used, raw_of, index_bytes}
use Rattle.race_model.specs.IndexFault.{AreRows, IsIndex}
use Rattle.race_laws.proofs.RowSpelling.{GoesOn, goes_on, length-row}
use Rattle.race_laws.proofs.IndexPlaces.{used-raw_of, raws_fit, both_parts}

-- rows stand differently in the file
raw_of-injective : (row other : Row) → raw_of row ≡ raw_of other → row ≡ other
raw_of-injective row other same =
    let path : row.path ≡ other.path = sym (used-raw_of row) ∙ ap used same ∙ used-raw_of other in
    let records : row.records ≡ other.records = ap (λ (raw : RawRow). raw.records) same in
    ap (λ (p : List Step). let it : Row = record { path = p; records = row.records } in it) path
    ∙ ap (λ (n : ℕ). let it : Row = record { path = other.path; records = n } in it) records

raws-injective : (rows others : List Row) → map raw_of rows ≡ map raw_of others → rows ≡ others
raws-injective [] [] same = refl
raws-injective [] (o ∷ others) same = absurd (omega (arith, ap length same))
raws-injective (r ∷ rows) [] same = absurd (omega (arith, ap length same))
raws-injective (r ∷ rows) (o ∷ others) same =
    let parts : (raw_of r ≡ raw_of o) × (map raw_of rows ≡ map raw_of others) = both_parts same in
    ap (λ (x : Row). x ∷ rows) (raw_of-injective r o parts.0) ∙ ap (λ (xs : List Row). o ∷ xs) (raws-injective rows others parts.1)

no_more : (more : List RawRow) → All RowFits more → [] ≡ flat_map row_spelling more ++ [] → more ≡ []
no_more [] fit none = refl
no_more (raw ∷ more) fit none =
    absurd (omega (arith, ap length none, length-append (row_spelling raw ++ flat_map row_spelling more) (let nothing : List ℕ = [] in nothing), length-append (row_spelling raw) (flat_map row_spelling more), length-row raw (All-head RowFits raw more fit).four))

raws_from_bytes : (rs ss : List RawRow) → All RowFits rs → All RowFits ss → length rs ≤ length ss → flat_map row_spelling rs ≡ flat_map row_spelling ss → rs ≡ ss
raws_from_bytes rs ss rs_fit ss_fit shorter same =
    let on : GoesOn rs ss [] [] = goes_on rs ss [] [] rs_fit ss_fit shorter (append-nil (flat_map row_spelling rs) ∙ same ∙ sym (append-nil (flat_map row_spelling ss))) in
    sym (on.rows ∙ ap (λ (more : List RawRow). rs ++ more) (no_more on.more on.fit on.rest) ∙ append-nil rs)

pub index_bytes-injective : (format : Format) (rows others : List Row) → AreRows rows → AreRows others → index_bytes format rows ≡ index_bytes format others → rows ≡ others
index_bytes-injective format rows others rows_are others_are same = by_length (cases_order (length rows) (length others)) where
  bytes : flat_map row_spelling (map raw_of rows) ≡ flat_map row_spelling (map raw_of others)
  bytes =
      sym (after_index_header format (flat_map row_spelling (map raw_of rows)))
      ∙ ap (λ (bs : List ℕ). drop 8 bs) same
      ∙ after_index_header format (flat_map row_spelling (map raw_of others))

  one : length rows ≤ length others → rows ≡ others
  one shorter = raws-injective rows others
      (raws_from_bytes (map raw_of rows) (map raw_of others) (raws_fit rows rows_are.each) (raws_fit others others_are.each) (omega (arith, length-map rows raw_of, length-map others raw_of)) bytes)

  other : length others ≤ length rows → rows ≡ others
  other shorter = sym (raws-injective others rows
      (raws_from_bytes (map raw_of others) (map raw_of rows) (raws_fit others others_are.each) (raws_fit rows rows_are.each) (omega (arith, length-map rows raw_of, length-map others raw_of)) (sym bytes)))

  by_length : (length rows ≡ length others) ⊎ ((length rows < length others) ⊎ (length others < length rows)) → rows ≡ others
  by_length (inl equal) = one (omega arith)
  by_length (inr (inl less)) = one (omega arith)
  by_length (inr (inr more)) = other (omega arith)

same_some : {X : Type 0} {x y : X} → Some x ≡ Some y → x ≡ y
same_some same = cc

-- a folder has at most one well-formed index
pub index_once : {format : Format} (files : Files) (dir : List ℕ) (rows others : List Row) → IsIndex format files dir rows → IsIndex format files dir others → rows ≡ others
index_once {format} files dir rows others one other =
    index_bytes-injective format rows others one.rows_are other.rows_are (same_some (sym one.held ∙ other.held))

-- rows that were put are the index
pub put_is_index : {format : Format} (files : Files) (dir : List ℕ) (rows : List Row) → AreRows rows → IsIndex format (with_file (index_name dir) (index_bytes format rows) files) dir rows
put_is_index {format} files dir rows rows_are = record {
  held = ap (λ (b : Bool). if b then Some (index_bytes format rows) else files (index_name dir)) ((bytes_eq-Decides (index_name dir) (index_name dir)).1 refl);
  rows_are = rows_are;
}
