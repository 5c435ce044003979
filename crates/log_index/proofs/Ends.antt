-- How the reading of rows goes on and ends.
use Rattle.std.proofs.Common.{◌≡◌, ◌≢◌, inl, inr, ℕ, ◌+◌, ◌<◌, List, [], ◌∷◌, ◌++◌, length, take, drop, map, Some, refl, sym, ap, subst, ◌∙◌, arith, append_assoc, length-append}
use Rattle.std.specs.List.{flat_map}
use Rattle.std.proofs.lemmas.Grind.{flat_map-append}
use Rattle.std.proofs.lemmas.List.{append-nil, map-append, length-map, drop-drop}
use Rattle.sw_base.specs.declared.path.Step.{Step}
use Rattle.sw_base.specs.Window.{Window, Shows}
use Rattle.log_format.specs.declared.format.Format.{Format}
use Rattle.log_format.specs.Format.{index_header, older_header}
use Rattle.race_model.specs.declared.why.IndexWhy.{IndexWhy}
use Rattle.race_model.specs.declared.why.IndexWhy.TheVariants.{Old, Header, TooMany, Cut, Depth, Span, Lane, Order, Records}
use Rattle.race_model.specs.BadPlace.{index_rank, bad_row}
use Rattle.race_model.specs.Row.{Row, RawRow, row_spelling, raw_of}
use Rattle.race_model.specs.Listing.{IsListing}
use Rattle.race_model.specs.IndexFault.{FailsTest, Fails as HasFault, FailsIndexFirst, AreFirstRows, IsFirstBadIndexPlace}
use Rattle.race_laws.proofs.Listings.{begins_none}
use Rattle.race_laws.proofs.RowSpelling.{length-row}
use Rattle.race_laws.proofs.IndexPlaces.{used-raws_of, row_first, old_first as old_first_place, header_first as header_first_place}
use Rattle.log_index.specs.declared.row.IndexAnswer.TheVariants.{Bad}
use Rattle.log_index.specs.Rows.{OneMore, ReadsRow, FailsAt, SpellsFirstRows, IsFirstBadRow}
use Rattle.race_model.specs.Row.{row_path}

-- the end of rows that are no whole listing
pub end_fails : (rows : List Row) → (rows ≢ []) → (IsListing (map row_path rows) → ⊥) → FailsIndexFirst (map raw_of rows) [] Order
end_fails rows some not = record { fails = inr (refl, λ is. not (subst (λ (paths : List (List Step)). IsListing paths) (used-raws_of rows) is)); least = least } where
  none : map raw_of rows ≡ [] → rows ≡ []
  none is = by_rows rows refl where
    by_rows : (rs : List Row) → rows ≡ rs → rows ≡ []
    by_rows [] same = same
    by_rows (r ∷ rs) same = absurd (omega (arith, ap length is, length-map rows raw_of, ap length same))

  no_test : (why : IndexWhy) → FailsTest (map raw_of rows) [] why → ⊥
  no_test why test = absurd (omega (arith, ap length test.spelled, length-append (row_spelling test.row) test.more, length-row test.row test.fits.four))

  least : (other : IndexWhy) → index_rank other < 7 → HasFault (map raw_of rows) [] other → ⊥
  least Old less fails = fails
  least Header less fails = fails
  least TooMany less fails = fails.1 refl
  least Cut less (inl short) = short.0 refl
  least Cut less (inr empty) = some (none empty.0)
  least Depth less fails = no_test Depth fails
  least Span less fails = no_test Span fails
  least Lane less fails = no_test Lane fails
  least Order less fails = absurd (omega arith)
  least Records less fails = no_test Records fails

spellings-more : (before : List Row) (row : Row) → flat_map row_spelling (map raw_of (before ++ row ∷ [])) ≡ flat_map row_spelling (map raw_of before) ++ row_spelling (raw_of row)
spellings-more before row =
    ap (λ (raws : List RawRow). flat_map row_spelling raws) (map-append raw_of before (row ∷ []))
    ∙ flat_map-append row_spelling (map raw_of before) (raw_of row ∷ [])
    ∙ ap (λ (bs : List ℕ). flat_map row_spelling (map raw_of before) ++ bs) (append-nil (row_spelling (raw_of row)))

pub more_parts : (bytes : List ℕ) (before now : List Row) (rest : List ℕ) → bytes ≡ flat_map row_spelling (map raw_of before) ++ rest → OneMore before now rest
    → bytes ≡ flat_map row_spelling (map raw_of now) ++ drop 48 rest
more_parts bytes before now rest parts more =
    parts
    ∙ ap (λ (bs : List ℕ). flat_map row_spelling (map raw_of before) ++ bs) more.adds.parts
    ∙ sym (append_assoc (flat_map row_spelling (map raw_of before)) (row_spelling (raw_of more.row)) (drop 48 rest))
    ∙ ap (λ (bs : List ℕ). bs ++ drop 48 rest) (sym (spellings-more before more.row))
    ∙ ap (λ (rows : List Row). flat_map row_spelling (map raw_of rows) ++ drop 48 rest) (sym more.rows)

-- these rows were read of the file, up to the window
pub record IsReadTo (file : List ℕ) (rows : List Row) (window : Window) : Type 0 where
  pub shows : Shows window file
  pub parts : drop 8 file ≡ flat_map row_spelling (map raw_of rows) ++ drop window.place file

-- no row is read yet
pub read_none : (file : List ℕ) (rows : List Row) (window : Window) → rows ≡ [] → window.place ≡ 8 → Shows window file → IsReadTo file rows window
read_none file rows window none start shows = record {
  shows = shows;
  parts = ap (λ (n : ℕ). drop n file) (sym start) ∙ ap (λ (rs : List Row). flat_map row_spelling (map raw_of rs) ++ drop window.place file) (sym none);
}

-- one row more is read
pub read_more : (file : List ℕ) (before now : List Row) (old new : Window) → IsReadTo file before old → ReadsRow file before now old new → new.place ≡ old.place + 48 → IsReadTo file now new
read_more file before now old new read reads place = record {
  shows = reads.shows;
  parts = more_parts (drop 8 file) before now (drop old.place file) read.parts reads.more
      ∙ ap (λ (bs : List ℕ). flat_map row_spelling (map raw_of now) ++ bs) (drop-drop 48 old.place file ∙ ap (λ (n : ℕ). drop n file) (sym place));
}

-- no byte is left
pub read_all : (file : List ℕ) (rows : List Row) (window : Window) → IsReadTo file rows window → AreFirstRows rows → drop window.place file ≡ [] → SpellsFirstRows (drop 8 file) rows
read_all file rows window read good none = record {
  spelled = read.parts ∙ ap (λ (bs : List ℕ). flat_map row_spelling (map raw_of rows) ++ bs) none ∙ append-nil (flat_map row_spelling (map raw_of rows));
  good = good;
}

-- behind the header
module _ (format : Format) (bytes rest : List ℕ) (parts : bytes ≡ index_header format ++ rest) where
  whole_parts : (rows : List Row) (left : List ℕ) → rest ≡ flat_map row_spelling (map raw_of rows) ++ left → bytes ≡ index_header format ++ flat_map row_spelling (map raw_of rows) ++ left
  whole_parts rows left is =
      parts ∙ ap (λ (bs : List ℕ). index_header format ++ bs) is ∙ sym (append_assoc (index_header format) (flat_map row_spelling (map raw_of rows)) left)

  pub stops_first : (n : ℕ) (why : IndexWhy) → FailsAt rest n why → IsFirstBadRow format bytes n why
  stops_first n why stops files dir held =
      subst (λ (m : ℕ). IsFirstBadIndexPlace format files dir (bad_row m why)) (sym stops.number)
      (row_first files dir bytes held stops.before stops.rest stops.good (whole_parts stops.before stops.rest stops.parts) why stops.first)

  pub end_first : (rows : List Row) (why : IndexWhy) → SpellsFirstRows rest rows → FailsIndexFirst (map raw_of rows) [] why → IsFirstBadRow format bytes (length rows + 1) why
  end_first rows why first fails files dir held =
      row_first files dir bytes held rows [] first.good (whole_parts rows [] (first.spelled ∙ sym (append-nil (flat_map row_spelling (map raw_of rows))))) why fails

-- before it
pub old_first : (format : Format) (bytes : List ℕ) → older_header format ≡ Some (take 8 bytes) → IsFirstBadRow format bytes 0 Old
old_first format bytes old files dir held = old_first_place files dir bytes held old

pub header_first : (format : Format) (bytes : List ℕ) → (older_header format ≡ Some (take 8 bytes) → ⊥) → take 8 bytes ≢ index_header format → IsFirstBadRow format bytes 0 Header
header_first format bytes not_old other files dir held = header_first_place files dir bytes held not_old other

-- no row is good
pub none_good : (rows : List Row) → rows ≡ [] → AreFirstRows rows
none_good rows none = subst (λ (rs : List Row). AreFirstRows rs) (sym none) (record { begins = begins_none; each = λ k d h. absurd (omega arith); limit = omega arith })

-- the answer at the end
pub same_answer : {n m : ℕ} {v w : IndexWhy} → Bad n v ≡ Bad m w → (n ≡ m) × (v ≡ w)
same_answer same = (cc, cc)
