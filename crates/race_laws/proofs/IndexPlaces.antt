-- Laws of the bad places of an index.
use Rattle.std.proofs.Common.{◌≡◌, ◌≢◌, ◌⊎◌, inl, inr, ℕ, ◌+◌, ◌-◌, ◌<◌, ◌≤◌, List, [], ◌∷◌, ◌++◌, All, length, take, drop, map, replicate, Option, Some, None, cond, ◌==◌, refl, sym, ap, subst, ◌∙◌, arith, append_assoc, length-append}
use Rattle.std.specs.List.{flat_map}
use Rattle.std.proofs.lemmas.List.{append-nil, length-replicate, length-map, map-append}
use Rattle.std.proofs.lemmas.List.Elements.{All-head, All-append, All-weaker, All-replicate, All-map}
use Rattle.std.proofs.Math.Seq.{take-append_seam, drop-append_seam, get_or-append_seam}
use Rattle.std.proofs.lemmas.Bool.{cases_order}
use Rattle.std.specs.Cmp.{nat_cmp_is}
use Rattle.std.specs.Ordering.{nat_cmp, ordering_then}
use Rattle.std.specs.declared.cmp.Ordering.{Ordering}
use Rattle.std.specs.declared.cmp.Ordering.TheVariants.{Less, Equal, Greater}
use Rattle.sw_base.specs.declared.path.Step.{Step}
use Rattle.sw_base.specs.Environment.{Files}
use Rattle.sw_base.specs.Names.{index_name}
use Rattle.log_format.specs.declared.format.Format.{Format}
use Rattle.log_format.specs.Format.{index_header, older_header}
use Rattle.log_format.proofs.Headers.{after_index_header, first_index_header, older_is_other}
use Rattle.race_model.specs.declared.why.IndexWhy.{IndexWhy}
use Rattle.race_model.specs.declared.why.IndexWhy.TheVariants.{Old, Header, TooMany, Cut, Depth, Span, Lane, Order, Records}
use Rattle.race_model.specs.BadPlace.{BadPlace, no_index, bad_row, missing_log, bad_record, too_many_segments, index_rank, IsEarlier}
use Rattle.race_model.specs.Row.{Row, RawRow, StepFits, RowFits, row_spelling, used, unused, no_step, raw_of, index_bytes}
use Rattle.race_model.specs.Listing.{IsListing, BeginsListing}
use Rattle.race_model.specs.IndexFault.{HasRegionSpan, HasLaneInSpan, HasDepth, RowPasses, FailsTest, Fails, FailsIndexFirst, IsAtRow, HasRowFault, IsBadRow, HoldsBadRow, IsBadIndexPlace, IsFirstBadIndexPlace, IsStep, IsRow, AreFirstRows, AreRows, IsIndex}
use Rattle.race_laws.proofs.Listings.{begins_shorter, lists_begins, lists_some}
use Rattle.race_laws.proofs.RowSpelling.{length-row, SameRow, same_row, GoesOn, goes_on}

abbrev pub path_of : Row → List Step
path_of row = row.path

-- a row's steps in the file are its path's
pub used-raw_of : (row : Row) → used (raw_of row) ≡ row.path
used-raw_of row = take-append_seam row.path (replicate (4 - length row.path) no_step)

pub used-raws_of : (rows : List Row) → map used (map raw_of rows) ≡ map path_of rows
used-raws_of [] = refl
used-raws_of (row ∷ rows) =
    ap (λ (path : List Step). path ∷ map used (map raw_of rows)) (used-raw_of row)
    ∙ ap (λ (paths : List (List Step)). row.path ∷ paths) (used-raws_of rows)

unused-raw_of : (row : Row) → unused (raw_of row) ≡ replicate (4 - length row.path) no_step
unused-raw_of row = drop-append_seam row.path (replicate (4 - length row.path) no_step)

step_fits : (step : Step) → IsStep step → StepFits step
step_fits step is = record {
  region = is.region;
  lane = omega (arith, is.lane, is.span.limit);
  span = omega (arith, is.span.limit);
}

no_step_fits : StepFits no_step
no_step_fits = record { region = omega arith; lane = omega arith; span = omega arith }

-- a row of an index has fields below their widths
pub raw_fits : (row : Row) → IsRow row → RowFits (raw_of row)
raw_fits row is = record {
  depth = omega (arith, is.depth);
  reserved = omega arith;
  four = omega (arith, is.depth, length-append row.path (replicate (4 - length row.path) no_step), length-replicate (4 - length row.path) no_step);
  steps = All-append StepFits row.path (replicate (4 - length row.path) no_step) (All-weaker IsStep StepFits step_fits row.path is.steps) (All-replicate StepFits (4 - length row.path) no_step no_step_fits);
  records = omega (arith, is.records.limit);
}

pub raws_fit : (rows : List Row) → All IsRow rows → All RowFits (map raw_of rows)
raws_fit rows each = All-map RowFits raw_of rows (All-weaker IsRow (λ row. RowFits (raw_of row)) raw_fits rows each)

has_depth : (row : Row) → IsRow row → HasDepth (raw_of row)
has_depth row is = record {
  limit = is.depth;
  reserved = refl;
  unused = subst (λ (steps : List Step). All (λ step. step ≡ no_step) steps) (sym (unused-raw_of row)) (All-replicate (λ step. step ≡ no_step) (4 - length row.path) no_step refl);
}

-- a row of an index passes each test
pub row_passes : (before : List Row) (row : Row) → IsRow row → BeginsListing (map path_of (before ++ row ∷ [])) → (why : IndexWhy) → RowPasses (map raw_of before) (raw_of row) why
row_passes before row is begins Old = tt
row_passes before row is begins Header = tt
row_passes before row is begins TooMany = tt
row_passes before row is begins Cut = tt
row_passes before row is begins Depth = has_depth row is
row_passes before row is begins Span =
    subst (λ (steps : List Step). All HasRegionSpan steps) (sym (used-raw_of row)) (All-weaker IsStep HasRegionSpan (λ step good. good.span) row.path is.steps)
row_passes before row is begins Lane =
    subst (λ (steps : List Step). All HasLaneInSpan steps) (sym (used-raw_of row)) (All-weaker IsStep HasLaneInSpan (λ step good. good.lane) row.path is.steps)
row_passes before row is begins Order =
    subst (λ (paths : List (List Step)). BeginsListing paths) (sym (used-raws_of (before ++ row ∷ [])) ∙ ap (λ (raws : List RawRow). map used raws) (raws-append before row)) begins where
      raws-append : (before : List Row) (row : Row) → map raw_of (before ++ row ∷ []) ≡ map raw_of before ++ raw_of row ∷ []
      raws-append [] row = refl
      raws-append (b ∷ before) row = ap (λ (raws : List RawRow). raw_of b ∷ raws) (raws-append before row)
row_passes before row is begins Records = is.records

-- a row among others of an index fails no test
module _ (before : List Row) (row : Row) (x : List ℕ) (is : IsRow row) (begins : BeginsListing (map path_of (before ++ row ∷ []))) (room : length before < 65536) where
  test_passed : (why : IndexWhy) → FailsTest (map raw_of before) (row_spelling (raw_of row) ++ x) why → ⊥
  test_passed why test =
      let same : SameRow (raw_of row) test.row x test.more = same_row (raw_of row) test.row x test.more (raw_fits row is) test.fits test.spelled in
      test.fails (subst (λ (raw : RawRow). RowPasses (map raw_of before) raw why) same.row (row_passes before row is begins why))

  bytes_there : length (row_spelling (raw_of row) ++ x) ≡ 48 + length x
  bytes_there = omega (arith, length-append (row_spelling (raw_of row)) x, length-row (raw_of row) (raw_fits row is).four)

  no_fault : (why : IndexWhy) → Fails (map raw_of before) (row_spelling (raw_of row) ++ x) why → ⊥
  no_fault Old fails = fails
  no_fault Header fails = fails
  no_fault TooMany fails = absurd (omega (arith, fails.0, length-map before raw_of))
  no_fault Cut (inl short) = absurd (omega (arith, short.1, bytes_there))
  no_fault Cut (inr none) = absurd (omega (arith, ap length none.1, bytes_there))
  no_fault Depth test = test_passed Depth test
  no_fault Span test = test_passed Span test
  no_fault Lane test = test_passed Lane test
  no_fault Order (inl test) = test_passed Order test
  no_fault Order (inr ends) = absurd (omega (arith, ap length ends.0, bytes_there))
  no_fault Records test = test_passed Records test

pub both_parts : {X : Type 0} {x y : X} {xs ys : List X} → x ∷ xs ≡ y ∷ ys → (x ≡ y) × (xs ≡ ys)
both_parts same = (cc, cc)

-- where rows of the file begin some rows of an index, the next row is one of these
record IsSplit (rows : List Row) (before : List RawRow) (next : RawRow) : Type 0 where
  prefix : List Row
  row : Row
  back : List Row
  parts : rows ≡ prefix ++ row ∷ back
  prefix_is : before ≡ map raw_of prefix
  row_is : next ≡ raw_of row

split : (rows : List Row) (before : List RawRow) (next : RawRow) (more : List RawRow) → map raw_of rows ≡ before ++ next ∷ more → IsSplit rows before next
split [] [] next more same = absurd (omega (arith, ap length same))
split [] (raw ∷ before) next more same = absurd (omega (arith, ap length same))
split (row ∷ rows) [] next more same = record { prefix = []; row = row; back = rows; parts = refl; prefix_is = refl; row_is = sym (both_parts same).0 }
split (row ∷ rows) (raw ∷ before) next more same =
    let both : (raw_of row ≡ raw) × (map raw_of rows ≡ before ++ next ∷ more) = both_parts same in
    let it : IsSplit rows before next = split rows before next more both.1 in
    record {
      prefix = row ∷ it.prefix;
      row = it.row;
      back = it.back;
      parts = ap (λ (rs : List Row). row ∷ rs) it.parts;
      prefix_is = ap (λ (r : RawRow). r ∷ before) (sym both.0) ∙ ap (λ (rs : List RawRow). raw_of row ∷ rs) it.prefix_is;
      row_is = it.row_is;
    }

-- a row in the middle of the first rows of an index
record IsMiddle (prefix : List Row) (row : Row) : Type 0 where
  is_row : IsRow row
  begins : BeginsListing (map path_of (prefix ++ row ∷ []))
  room : length prefix < 65536

middle : (prefix : List Row) (row : Row) (back : List Row) → AreFirstRows (prefix ++ row ∷ back) → IsMiddle prefix row
middle prefix row back good =
    let count : length (prefix ++ row ∷ back) ≡ length prefix + (1 + length back) = omega (arith, length-append prefix (row ∷ back)) in
    let paths : map path_of (prefix ++ row ∷ back) ≡ map path_of (prefix ++ row ∷ []) ++ map path_of back =
    ap (λ (rs : List Row). map path_of rs) (sym (append_assoc prefix (row ∷ []) back)) ∙ map-append path_of (prefix ++ row ∷ []) back in
    record {
      is_row = subst (λ (r : Row). IsRow r) (get_or-append_seam prefix row back row) (good.each (length prefix) row (omega arith));
      begins = begins_shorter (map path_of (prefix ++ row ∷ [])) (map path_of back) (subst (λ (ps : List (List Step)). BeginsListing ps) paths good.begins);
      room = omega (arith, good.limit);
    }

-- the bytes of an index whose first rows are these
module _ (format : Format) (bytes : List ℕ) (rows : List Row) (rest : List ℕ) (good : AreFirstRows rows) (parts : bytes ≡ index_header format ++ flat_map row_spelling (map raw_of rows) ++ rest) where
  after_header : (before : List RawRow) (x : List ℕ) → bytes ≡ index_header format ++ flat_map row_spelling before ++ x → flat_map row_spelling before ++ x ≡ flat_map row_spelling (map raw_of rows) ++ rest
  after_header before x is =
      sym (after_index_header format (flat_map row_spelling before ++ x))
      ∙ ap (λ (bs : List ℕ). drop 8 bs) (sym (append_assoc (index_header format) (flat_map row_spelling before) x) ∙ sym is ∙ parts ∙ append_assoc (index_header format) (flat_map row_spelling (map raw_of rows)) rest)
      ∙ after_index_header format (flat_map row_spelling (map raw_of rows) ++ rest)

  has_header : take 8 bytes ≡ index_header format
  has_header = ap (λ (bs : List ℕ). take 8 bs) (parts ∙ append_assoc (index_header format) (flat_map row_spelling (map raw_of rows)) rest) ∙ first_index_header format (flat_map row_spelling (map raw_of rows) ++ rest)

  -- none of them is bad
  earlier_good : (n : ℕ) (why : IndexWhy) → n ≤ length rows → HasRowFault format bytes n why → ⊥
  earlier_good n why within fault = by_more on.more on.rows on.rest where
    on : GoesOn fault.before (map raw_of rows) fault.rest rest
    on = goes_on fault.before (map raw_of rows) fault.rest rest fault.at_row.fit (raws_fit rows good.each) (omega (arith, fault.at_row.number, length-map rows raw_of)) (after_header fault.before fault.rest fault.at_row.parts)

    by_more : (more : List RawRow) → map raw_of rows ≡ fault.before ++ more → fault.rest ≡ flat_map row_spelling more ++ rest → ⊥
    by_more [] same left = absurd (omega (arith, fault.at_row.number, ap length same, length-map rows raw_of, length-append fault.before (let none : List RawRow = [] in none)))
    by_more (next ∷ more) same left =
        let at : IsSplit rows fault.before next = split rows fault.before next more same in
        let here : IsMiddle at.prefix at.row = middle at.prefix at.row at.back (subst (λ (rs : List Row). AreFirstRows rs) at.parts good) in
        let left_is : fault.rest ≡ row_spelling (raw_of at.row) ++ (flat_map row_spelling more ++ rest) =
        left ∙ append_assoc (row_spelling next) (flat_map row_spelling more) rest ∙ ap (λ (r : RawRow). row_spelling r ++ (flat_map row_spelling more ++ rest)) at.row_is in
        no_fault at.prefix at.row (flat_map row_spelling more ++ rest) here.is_row here.begins here.room why
        (subst (λ (bs : List ℕ). Fails (map raw_of at.prefix) bs why) left_is (subst (λ (raws : List RawRow). Fails raws fault.rest why) at.prefix_is fault.fails))

  -- the next one has the faults of the bytes that are left
  next_fault : (why : IndexWhy) → HasRowFault format bytes (length rows + 1) why → Fails (map raw_of rows) rest why
  next_fault why fault = by_more on.more on.rows on.rest where
    on : GoesOn fault.before (map raw_of rows) fault.rest rest
    on = goes_on fault.before (map raw_of rows) fault.rest rest fault.at_row.fit (raws_fit rows good.each) (omega (arith, fault.at_row.number, length-map rows raw_of)) (after_header fault.before fault.rest fault.at_row.parts)

    by_more : (more : List RawRow) → map raw_of rows ≡ fault.before ++ more → fault.rest ≡ flat_map row_spelling more ++ rest → Fails (map raw_of rows) rest why
    by_more [] same left =
        subst (λ (bs : List ℕ). Fails (map raw_of rows) bs why) left
        (subst (λ (raws : List RawRow). Fails raws fault.rest why) (sym (append-nil fault.before) ∙ sym same) fault.fails)
    by_more (next ∷ more) same left = absurd (omega (arith, fault.at_row.number, ap length same, length-map rows raw_of, length-append fault.before (next ∷ more)))

  -- and none further on is there where no byte is left
  later_none : (n : ℕ) (why : IndexWhy) → length rows + 1 < n → rest ≡ [] → HasRowFault format bytes n why → ⊥
  later_none n why after none fault = by_more on.more on.rows on.fit on.rest where
    on : GoesOn (map raw_of rows) fault.before rest fault.rest
    on = goes_on (map raw_of rows) fault.before rest fault.rest (raws_fit rows good.each) fault.at_row.fit (omega (arith, fault.at_row.number, length-map rows raw_of)) (sym (after_header fault.before fault.rest fault.at_row.parts))

    by_more : (more : List RawRow) → fault.before ≡ map raw_of rows ++ more → All RowFits more → rest ≡ flat_map row_spelling more ++ fault.rest → ⊥
    by_more [] same fit left = absurd (omega (arith, fault.at_row.number, ap length same, length-map rows raw_of, length-append (map raw_of rows) (let nothing : List RawRow = [] in nothing)))
    by_more (next ∷ more) same fit left =
        absurd (omega (arith, ap length none, ap length left, length-append (row_spelling next ++ flat_map row_spelling more) fault.rest, length-append (row_spelling next) (flat_map row_spelling more), length-row next (All-head RowFits next more fit).four))

  no_bad_row : (n : ℕ) (why : IndexWhy) → n ≤ length rows → IsBadRow format bytes n why → ⊥
  no_bad_row n Old within bad = older_is_other format (take 8 bytes) bad.1 has_header
  no_bad_row n Header within bad = bad.1 has_header
  no_bad_row n TooMany within bad = earlier_good n TooMany within bad
  no_bad_row n Cut within bad = earlier_good n Cut within bad
  no_bad_row n Depth within bad = earlier_good n Depth within bad
  no_bad_row n Span within bad = earlier_good n Span within bad
  no_bad_row n Lane within bad = earlier_good n Lane within bad
  no_bad_row n Order within bad = earlier_good n Order within bad
  no_bad_row n Records within bad = earlier_good n Records within bad

  next_bad_row : (why : IndexWhy) → IsBadRow format bytes (length rows + 1) why → Fails (map raw_of rows) rest why
  next_bad_row Old bad = absurd (omega (arith, bad.0))
  next_bad_row Header bad = absurd (bad.1 has_header)
  next_bad_row TooMany bad = next_fault TooMany bad
  next_bad_row Cut bad = next_fault Cut bad
  next_bad_row Depth bad = next_fault Depth bad
  next_bad_row Span bad = next_fault Span bad
  next_bad_row Lane bad = next_fault Lane bad
  next_bad_row Order bad = next_fault Order bad
  next_bad_row Records bad = next_fault Records bad

  pub bad_next_row : (why : IndexWhy) → Fails (map raw_of rows) rest why → IsBadRow format bytes (length rows + 1) why
  bad_next_row why fails = by_why why fails where
    at_row : IsAtRow format bytes (length rows + 1) (map raw_of rows) rest
    at_row = record { number = omega (arith, length-map rows raw_of); fit = raws_fit rows good.each; parts = parts }

    by_why : (w : IndexWhy) → Fails (map raw_of rows) rest w → IsBadRow format bytes (length rows + 1) w
    by_why Old failed = absurd failed
    by_why Header failed = absurd failed
    by_why TooMany failed = record { before = map raw_of rows; rest = rest; at_row = at_row; fails = failed }
    by_why Cut failed = record { before = map raw_of rows; rest = rest; at_row = at_row; fails = failed }
    by_why Depth failed = record { before = map raw_of rows; rest = rest; at_row = at_row; fails = failed }
    by_why Span failed = record { before = map raw_of rows; rest = rest; at_row = at_row; fails = failed }
    by_why Lane failed = record { before = map raw_of rows; rest = rest; at_row = at_row; fails = failed }
    by_why Order failed = record { before = map raw_of rows; rest = rest; at_row = at_row; fails = failed }
    by_why Records failed = record { before = map raw_of rows; rest = rest; at_row = at_row; fails = failed }

-- of two bad rows the earlier has the lower number, or the rule that is tried before
bad_rows_order : (m n : ℕ) (v w : IndexWhy) → IsEarlier (bad_row m v) (bad_row n w) → (m < n) ⊎ ((m ≡ n) × (index_rank v < index_rank w))
bad_rows_order m n v w earlier = by_number (cases_order m n) where
  rest : Ordering
  rest = ordering_then (nat_cmp (index_rank v) (index_rank w)) Equal

  by_rank : m ≡ n → nat_cmp m n ≡ Equal → (index_rank v ≡ index_rank w) ⊎ ((index_rank v < index_rank w) ⊎ (index_rank w < index_rank v)) → (m < n) ⊎ ((m ≡ n) × (index_rank v < index_rank w))
  by_rank same is (inl ranks) = absurd (let r : Equal ≡ nat_cmp (index_rank v) (index_rank w) = nat_cmp_is (index_rank v) (index_rank w) Equal ranks in
      let chain : ordering_then Equal (ordering_then Equal Equal) ≡ Less = ap (λ (o : Ordering). ordering_then o (ordering_then Equal Equal)) (sym is) ∙ ap (λ (o : Ordering). ordering_then (nat_cmp m n) (ordering_then o Equal)) r ∙ earlier in cc)
  by_rank same is (inr (inl less)) = inr (same, less)
  by_rank same is (inr (inr more)) = absurd (let r : Greater ≡ nat_cmp (index_rank v) (index_rank w) = nat_cmp_is (index_rank v) (index_rank w) Greater more in
      let chain : ordering_then Equal (ordering_then Greater Equal) ≡ Less = ap (λ (o : Ordering). ordering_then o (ordering_then Greater Equal)) (sym is) ∙ ap (λ (o : Ordering). ordering_then (nat_cmp m n) (ordering_then o Equal)) r ∙ earlier in cc)

  by_number : (m ≡ n) ⊎ ((m < n) ⊎ (n < m)) → (m < n) ⊎ ((m ≡ n) × (index_rank v < index_rank w))
  by_number (inl same) = by_rank same (sym (nat_cmp_is m n Equal same)) (cases_order (index_rank v) (index_rank w))
  by_number (inr (inl less)) = inl less
  by_number (inr (inr more)) = absurd (let r : Greater ≡ nat_cmp m n = nat_cmp_is m n Greater more in
      let chain : ordering_then Greater rest ≡ Less = ap (λ (o : Ordering). ordering_then o rest) r ∙ earlier in cc)

same_bytes : (held : Option (List ℕ)) (bytes other : List ℕ) → held ≡ Some bytes → held ≡ Some other → other ≡ bytes
same_bytes held bytes other one two = cc

not_both : (held : Option (List ℕ)) (bytes : List ℕ) → held ≡ Some bytes → held ≡ None → ⊥
not_both held bytes there none = cc

below_zero : (n : ℕ) (why : IndexWhy) → (n < 0) ⊎ ((n ≡ 0) × (index_rank why < 0)) → ⊥
below_zero n why (inl less) = omega arith
below_zero n why (inr less) = absurd (omega (arith, less.1))

module _ {format : Format} (files : Files) (dir : List ℕ) (bytes : List ℕ) (held : files (index_name dir) ≡ Some bytes) where
  module _ (rows : List Row) (rest : List ℕ) (good : AreFirstRows rows) (parts : bytes ≡ index_header format ++ flat_map row_spelling (map raw_of rows) ++ rest) where
    bad_row_here : (n : ℕ) (why : IndexWhy) → HoldsBadRow format files dir n why → IsBadRow format bytes n why
    bad_row_here n why bad = subst (λ (bs : List ℕ). IsBadRow format bs n why) (same_bytes (files (index_name dir)) bytes bad.bytes held bad.held) bad.bad

    -- and after good rows the first fault of the bytes that are left
    pub row_first : (why : IndexWhy) → FailsIndexFirst (map raw_of rows) rest why → IsFirstBadIndexPlace format files dir (bad_row (length rows + 1) why)
    row_first why first = record { bad = record { bytes = bytes; held = held; bad = bad_next_row format bytes rows rest good parts why first.fails }; least = least } where
      by_order : (n : ℕ) (other : IndexWhy) → IsBadRow format bytes n other → (n < length rows + 1) ⊎ ((n ≡ length rows + 1) × (index_rank other < index_rank why)) → ⊥
      by_order n other bad (inl less) = no_bad_row format bytes rows rest good parts n other (omega arith) bad
      by_order n other bad (inr less) =
          first.least other less.1 (next_bad_row format bytes rows rest good parts other (subst (λ (m : ℕ). IsBadRow format bytes m other) less.0 bad))

      least : (q : BadPlace) → IsEarlier q (bad_row (length rows + 1) why) → IsBadIndexPlace format files dir q → ⊥
      least no_index earlier bad = not_both (files (index_name dir)) bytes held bad
      least (bad_row n other) earlier bad = by_order n other (bad_row_here n other bad) (bad_rows_order n (length rows + 1) other why earlier)
      least (missing_log row) earlier bad = bad
      least (bad_record row n other) earlier bad = bad
      least (too_many_segments row n) earlier bad = bad

  -- the header of the format before is the first bad place, and else a header that isn't the format's
  pub old_first : older_header format ≡ Some (take 8 bytes) → IsFirstBadIndexPlace format files dir (bad_row 0 Old)
  old_first old = record { bad = record { bytes = bytes; held = held; bad = (refl, old) }; least = least } where
    least : (q : BadPlace) → IsEarlier q (bad_row 0 Old) → IsBadIndexPlace format files dir q → ⊥
    least no_index earlier bad = not_both (files (index_name dir)) bytes held bad
    least (bad_row n why) earlier bad = below_zero n why (bad_rows_order n 0 why Old earlier)
    least (missing_log row) earlier bad = bad
    least (bad_record row n other) earlier bad = bad
    least (too_many_segments row n) earlier bad = bad

  pub header_first : (older_header format ≡ Some (take 8 bytes) → ⊥) → take 8 bytes ≢ index_header format → IsFirstBadIndexPlace format files dir (bad_row 0 Header)
  header_first not_old other = record { bad = record { bytes = bytes; held = held; bad = (refl, other) }; least = least } where
    no_old : (n : ℕ) (why : IndexWhy) (bs : List ℕ) → bs ≡ bytes → (n < 0) ⊎ ((n ≡ 0) × (index_rank why < 1)) → IsBadRow format bs n why → ⊥
    no_old n why bs same (inl less) bad = omega arith
    no_old n Old bs same (inr less) bad = not_old (bad.1 ∙ ap (λ (xs : List ℕ). Some (take 8 xs)) same)
    no_old n Header bs same (inr less) bad = absurd (omega (arith, less.1))
    no_old n TooMany bs same (inr less) bad = absurd (omega (arith, less.1))
    no_old n Cut bs same (inr less) bad = absurd (omega (arith, less.1))
    no_old n Depth bs same (inr less) bad = absurd (omega (arith, less.1))
    no_old n Span bs same (inr less) bad = absurd (omega (arith, less.1))
    no_old n Lane bs same (inr less) bad = absurd (omega (arith, less.1))
    no_old n Order bs same (inr less) bad = absurd (omega (arith, less.1))
    no_old n Records bs same (inr less) bad = absurd (omega (arith, less.1))

    least : (q : BadPlace) → IsEarlier q (bad_row 0 Header) → IsBadIndexPlace format files dir q → ⊥
    least no_index earlier bad = not_both (files (index_name dir)) bytes held bad
    least (bad_row n why) earlier bad = no_old n why bad.bytes (same_bytes (files (index_name dir)) bytes bad.bytes held bad.held) (bad_rows_order n 0 why Header earlier) bad.bad
    least (missing_log row) earlier bad = bad
    least (bad_record row n rule) earlier bad = bad
    least (too_many_segments row n) earlier bad = bad

-- after whole rows the end is no fault
module _ (rows : List Row) (good : AreRows rows) where
  some_rows : map raw_of rows ≡ [] → ⊥
  some_rows none = by_rows rows refl where
    by_rows : (rs : List Row) → rows ≡ rs → ⊥
    by_rows [] same = lists_some (subst (λ (rs : List Row). IsListing (map path_of rs)) same good.lists)
    by_rows (r ∷ rs) same = absurd (omega (arith, ap length none, length-map rows raw_of, ap length same))

  no_test : (why : IndexWhy) → FailsTest (map raw_of rows) [] why → ⊥
  no_test why test = absurd (omega (arith, ap length test.spelled, length-append (row_spelling test.row) test.more, length-row test.row test.fits.four))

  end_good : (why : IndexWhy) → Fails (map raw_of rows) [] why → ⊥
  end_good Old fails = fails
  end_good Header fails = fails
  end_good TooMany fails = fails.1 refl
  end_good Cut (inl short) = short.0 refl
  end_good Cut (inr none) = some_rows none.0
  end_good Depth test = no_test Depth test
  end_good Span test = no_test Span test
  end_good Lane test = no_test Lane test
  end_good Order (inl test) = no_test Order test
  end_good Order (inr ends) = ends.1 (subst (λ (ps : List (List Step)). IsListing ps) (sym (used-raws_of rows)) good.lists)
  end_good Records test = no_test Records test

  first_rows : AreFirstRows rows
  first_rows = record { begins = lists_begins (map path_of rows) good.lists; each = good.each; limit = good.limit }

-- a well-formed index has no bad place
pub index_good : {format : Format} (files : Files) (dir : List ℕ) (rows : List Row) (place : BadPlace) → IsIndex format files dir rows → IsBadIndexPlace format files dir place → ⊥
index_good {format} files dir rows place is = by_place place where
  bytes : List ℕ
  bytes = index_bytes format rows

  good : AreFirstRows rows
  good = first_rows rows is.rows_are

  parts : index_bytes format rows ≡ index_header format ++ flat_map row_spelling (map raw_of rows) ++ []
  parts = sym (append-nil (index_bytes format rows))

  later : (n : ℕ) (why : IndexWhy) → length rows + 1 < n → IsBadRow format (index_bytes format rows) n why → ⊥
  later n Old after bad = absurd (omega (arith, bad.0))
  later n Header after bad = absurd (omega (arith, bad.0))
  later n TooMany after bad = later_none format (index_bytes format rows) rows [] good parts n TooMany after refl bad
  later n Cut after bad = later_none format (index_bytes format rows) rows [] good parts n Cut after refl bad
  later n Depth after bad = later_none format (index_bytes format rows) rows [] good parts n Depth after refl bad
  later n Span after bad = later_none format (index_bytes format rows) rows [] good parts n Span after refl bad
  later n Lane after bad = later_none format (index_bytes format rows) rows [] good parts n Lane after refl bad
  later n Order after bad = later_none format (index_bytes format rows) rows [] good parts n Order after refl bad
  later n Records after bad = later_none format (index_bytes format rows) rows [] good parts n Records after refl bad

  by_number : (n : ℕ) (why : IndexWhy) → IsBadRow format (index_bytes format rows) n why → (n ≡ length rows + 1) ⊎ ((n < length rows + 1) ⊎ (length rows + 1 < n)) → ⊥
  by_number n why bad (inl same) = end_good rows is.rows_are why (next_bad_row format (index_bytes format rows) rows [] good parts why (subst (λ (m : ℕ). IsBadRow format (index_bytes format rows) m why) same bad))
  by_number n why bad (inr (inl less)) = no_bad_row format (index_bytes format rows) rows [] good parts n why (omega arith) bad
  by_number n why bad (inr (inr more)) = later n why more bad

  by_place : (q : BadPlace) → IsBadIndexPlace format files dir q → ⊥
  by_place no_index bad = not_both (files (index_name dir)) (index_bytes format rows) is.held bad
  by_place (bad_row n why) bad =
      by_number n why (bad_row_here files dir (index_bytes format rows) is.held rows [] good parts n why bad) (cases_order n (length rows + 1))
  by_place (missing_log row) bad = bad
  by_place (bad_record row n why) bad = bad
  by_place (too_many_segments row n) bad = bad

earlier_number : (m n : ℕ) (v w : IndexWhy) → m < n → IsEarlier (bad_row m v) (bad_row n w)
earlier_number m n v w less =
    ap (λ (o : Ordering). ordering_then o (ordering_then (nat_cmp (index_rank v) (index_rank w)) Equal)) (sym (nat_cmp_is m n Less less))

earlier_rule : (n : ℕ) (v w : IndexWhy) → index_rank v < index_rank w → IsEarlier (bad_row n v) (bad_row n w)
earlier_rule n v w less =
    ap (λ (o : Ordering). ordering_then o (ordering_then (nat_cmp (index_rank v) (index_rank w)) Equal)) (sym (nat_cmp_is n n Equal refl))
    ∙ ap (λ (o : Ordering). ordering_then o Equal) (sym (nat_cmp_is (index_rank v) (index_rank w) Less less))

rule_of : ℕ → IndexWhy
rule_of n = cond (n == 0) Old (cond (n == 1) Header (cond (n == 2) TooMany (cond (n == 3) Cut (cond (n == 4) Depth (cond (n == 5) Span (cond (n == 6) Lane (cond (n == 7) Order Records)))))))

rule_of-rank : (why : IndexWhy) → rule_of (index_rank why) ≡ why
unfolding rule_of
rule_of-rank Old = refl
rule_of-rank Header = refl
rule_of-rank TooMany = refl
rule_of-rank Cut = refl
rule_of-rank Depth = refl
rule_of-rank Span = refl
rule_of-rank Lane = refl
rule_of-rank Order = refl
rule_of-rank Records = refl

-- an index has at most one first bad place
pub first_once : {format : Format} (files : Files) (dir : List ℕ) (p q : BadPlace) → IsFirstBadIndexPlace format files dir p → IsFirstBadIndexPlace format files dir q → p ≡ q
first_once files dir no_index no_index one other = refl
first_once files dir no_index (bad_row n w) one other = absurd (not_both (files (index_name dir)) other.bad.bytes other.bad.held one.bad)
first_once files dir (bad_row m v) no_index one other = absurd (not_both (files (index_name dir)) one.bad.bytes one.bad.held other.bad)
first_once files dir (bad_row m v) (bad_row n w) one other = by_number (cases_order m n) where
  by_rank : m ≡ n → (index_rank v ≡ index_rank w) ⊎ ((index_rank v < index_rank w) ⊎ (index_rank w < index_rank v)) → bad_row m v ≡ bad_row n w
  by_rank same (inl ranks) = ap (λ (k : ℕ). bad_row k v) same ∙ ap (λ (r : IndexWhy). bad_row n r) (sym (rule_of-rank v) ∙ ap rule_of ranks ∙ rule_of-rank w)
  by_rank same (inr (inl less)) = absurd (other.least (bad_row m v) (subst (λ (k : ℕ). IsEarlier (bad_row m v) (bad_row k w)) same (earlier_rule m v w less)) one.bad)
  by_rank same (inr (inr more)) = absurd (one.least (bad_row n w) (subst (λ (k : ℕ). IsEarlier (bad_row n w) (bad_row k v)) (sym same) (earlier_rule n w v more)) other.bad)

  by_number : (m ≡ n) ⊎ ((m < n) ⊎ (n < m)) → bad_row m v ≡ bad_row n w
  by_number (inl same) = by_rank same (cases_order (index_rank v) (index_rank w))
  by_number (inr (inl less)) = absurd (other.least (bad_row m v) (earlier_number m n v w less) one.bad)
  by_number (inr (inr more)) = absurd (one.least (bad_row n w) (earlier_number n m w v more) other.bad)
first_once files dir (missing_log row) q one other = absurd one.bad
first_once files dir (bad_record row n why) q one other = absurd one.bad
first_once files dir (too_many_segments row n) q one other = absurd one.bad
first_once files dir no_index (missing_log row) one other = absurd other.bad
first_once files dir no_index (bad_record row n why) one other = absurd other.bad
first_once files dir no_index (too_many_segments row n) one other = absurd other.bad
first_once files dir (bad_row m v) (missing_log row) one other = absurd other.bad
first_once files dir (bad_row m v) (bad_record row n why) one other = absurd other.bad
first_once files dir (bad_row m v) (too_many_segments row n) one other = absurd other.bad
