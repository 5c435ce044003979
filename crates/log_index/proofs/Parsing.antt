-- A row's fields that pass each test are those of a row of an index.
use Rattle.std.proofs.Common.{◌≡◌, ◌≢◌, inl, inr, ℕ, ◌+◌, ◌-◌, ◌<◌, List, [], ◌∷◌, ◌++◌, All, length, take, drop, map, replicate, refl, sym, ap, subst, ◌∙◌, arith, length-append, length-take, length-drop}
use Rattle.std.proofs.lemmas.List.{map-append, length-map, take-append-drop}
use Rattle.std.proofs.lemmas.List.Elements.{All-head, All-tail, All-take, All-push}
use Rattle.sw_base.specs.declared.path.Step.{Step}
use Rattle.race_model.specs.declared.why.IndexWhy.{IndexWhy}
use Rattle.race_model.specs.declared.why.IndexWhy.TheVariants.{Old, Header, TooMany, Cut, Depth, Span, Lane, Order, Records}
use Rattle.race_model.specs.BadPlace.{index_rank}
use Rattle.race_model.specs.Row.{Row, RawRow, StepFits, RowFits, row_spelling, used, unused, no_step, raw_of}
use Rattle.race_model.specs.Listing.{BeginsListing}
use Rattle.race_model.specs.IndexFault.{HasDepth, HasRegionSpan, HasLaneInSpan, HasRecords, RowPasses, FailsTest, Fails as HasFault, FailsIndexFirst, IsRow, AreFirstRows}
use Rattle.race_laws.proofs.RowSpelling.{SameRow, same_row, length-row}
use Rattle.log_index.specs.Rows.{FailsTestFirst, AddsRow}
use Rattle.race_model.specs.Row.{row_path}
use Rattle.log_index.proofs.RowTests.{paths_same}

all_same : {X : Type 0} (xs : List X) (x : X) → All (λ y. y ≡ x) xs → xs ≡ replicate (length xs) x
all_same [] x all = refl
all_same {X} (y ∷ xs) x all =
    ap (λ (z : X). z ∷ xs) (All-head (λ y. y ≡ x) y xs all) ∙ ap (λ (zs : List X). x ∷ zs) (all_same xs x (All-tail (λ y. y ≡ x) y xs all))

-- the row of fields
abbrev pub row_from : RawRow → Row
row_from raw = record { path = used raw; records = raw.records }

used_length : (raw : RawRow) → RowFits raw → HasDepth raw → length (used raw) ≡ raw.depth
used_length raw fits is = omega (arith, length-take raw.depth raw.steps, fits.four, is.limit)

steps_are : (raw : RawRow) → RowFits raw → HasDepth raw → used raw ++ replicate (4 - length (used raw)) no_step ≡ raw.steps
steps_are raw fits is =
    let count : length (unused raw) ≡ 4 - length (used raw) = omega (arith, length-drop raw.depth raw.steps, fits.four, used_length raw fits is) in
    ap (λ (n : ℕ). used raw ++ replicate n no_step) (sym count)
    ∙ ap (λ (steps : List Step). used raw ++ steps) (sym (all_same (unused raw) no_step is.unused))
    ∙ take-append-drop raw.depth raw.steps

pub raw_of-row_from : (raw : RawRow) → RowFits raw → HasDepth raw → raw_of (row_from raw) ≡ raw
raw_of-row_from raw fits is =
    ap (λ (n : ℕ). let it : RawRow = record { depth = n; reserved = 0; steps = used raw ++ replicate (4 - length (used raw)) no_step; records = raw.records } in it) (used_length raw fits is)
    ∙ ap (λ (n : ℕ). let it : RawRow = record { depth = raw.depth; reserved = n; steps = used raw ++ replicate (4 - length (used raw)) no_step; records = raw.records } in it) (sym is.reserved)
    ∙ ap (λ (steps : List Step). let it : RawRow = record { depth = raw.depth; reserved = raw.reserved; steps = steps; records = raw.records } in it) (steps_are raw fits is)

is_row : (raw : RawRow) → RowFits raw → HasDepth raw → All HasRegionSpan (used raw) → All HasLaneInSpan (used raw) → HasRecords raw.records → IsRow (row_from raw)
is_row raw fits depth spans lanes records = record {
  depth = omega (arith, used_length raw fits depth, depth.limit);
  steps = λ k d h. record { region = (All-take StepFits raw.depth raw.steps fits.steps k d h).region; span = spans k d h; lane = lanes k d h };
  records = records;
}

cut_off : (bytes rest prefix : List ℕ) → bytes ≡ take 48 rest → bytes ≡ prefix → rest ≡ prefix ++ drop 48 rest
cut_off bytes rest prefix taken is = sym (take-append-drop 48 rest) ∙ ap (λ (bs : List ℕ). bs ++ drop 48 rest) (sym taken ∙ is)

-- the row may be added
pub adds_row : (before : List Row) (raw : RawRow) (rest : List ℕ) → AreFirstRows before → (length before ≢ 65536) → RowFits raw → rest ≡ row_spelling raw ++ drop 48 rest
    → ((why : IndexWhy) → RowPasses (map raw_of before) raw why) → AddsRow before (row_from raw) rest
adds_row before raw rest good room fits spelled passes = record {
  good = record {
    begins = subst (λ (paths : List (List Step)). BeginsListing paths) (paths_same before raw ∙ sym (map-append row_path before (row_from raw ∷ []))) (passes Order);
    each = All-push IsRow before (row_from raw) good.each (is_row raw fits (passes Depth) (passes Span) (passes Lane) (passes Records));
    limit = omega (arith, good.limit, room, length-append before (row_from raw ∷ []));
  };
  whole = omega (arith, ap length spelled, length-append (row_spelling raw) (drop 48 rest), length-row raw fits.four);
  parts = spelled ∙ ap (λ (r : RawRow). row_spelling r ++ drop 48 rest) (sym (raw_of-row_from raw fits (passes Depth)));
}

-- the first test that the row fails is the first fault of the bytes that are left
pub fails_first : (before : List RawRow) (raw : RawRow) (rest more : List ℕ) (why : IndexWhy) → (length before ≢ 65536) → RowFits raw → rest ≡ row_spelling raw ++ more
    → FailsTestFirst before raw why → FailsIndexFirst before rest why
fails_first before raw rest more why room fits spelled first = record { fails = fault why first.fails; least = least } where
  there : length rest ≡ 48 + length more
  there = omega (arith, ap length spelled, length-append (row_spelling raw) more, length-row raw fits.four)

  test : (w : IndexWhy) → (RowPasses before raw w → ⊥) → FailsTest before rest w
  test w fails = record { row = raw; more = more; fits = fits; spelled = spelled; fails = fails }

  fault : (w : IndexWhy) → (RowPasses before raw w → ⊥) → HasFault before rest w
  fault Old fails = absurd (fails tt)
  fault Header fails = absurd (fails tt)
  fault TooMany fails = absurd (fails tt)
  fault Cut fails = absurd (fails tt)
  fault Depth fails = test Depth fails
  fault Span fails = test Span fails
  fault Lane fails = test Lane fails
  fault Order fails = inl (test Order fails)
  fault Records fails = test Records fails

  not_test : (w : IndexWhy) → RowPasses before raw w → FailsTest before rest w → ⊥
  not_test w passes other =
      let same : SameRow raw other.row more other.more = same_row raw other.row more other.more fits other.fits (sym spelled ∙ other.spelled) in
      other.fails (subst (λ (r : RawRow). RowPasses before r w) same.row passes)

  not_fault : (w : IndexWhy) → RowPasses before raw w → HasFault before rest w → ⊥
  not_fault Old passes fails = fails
  not_fault Header passes fails = fails
  not_fault TooMany passes fails = room fails.0
  not_fault Cut passes (inl short) = absurd (omega (arith, short.1, there))
  not_fault Cut passes (inr none) = absurd (omega (arith, ap length none.1, there))
  not_fault Depth passes fails = not_test Depth passes fails
  not_fault Span passes fails = not_test Span passes fails
  not_fault Lane passes fails = not_test Lane passes fails
  not_fault Order passes (inl fails) = not_test Order passes fails
  not_fault Order passes (inr ends) = absurd (omega (arith, ap length ends.0, there))
  not_fault Records passes fails = not_test Records passes fails

  least : (other : IndexWhy) → index_rank other < index_rank why → HasFault before rest other → ⊥
  least other less fails = not_fault other (first.passed other less) fails

-- the same with the bytes of the row cut off, and the row told by its parts
pub adds_row_as : (before : List Row) (raw : RawRow) (bytes rest : List ℕ) (path : List Step) (records : ℕ) → AreFirstRows before → (length before ≢ 65536) → RowFits raw
    → bytes ≡ take 48 rest → bytes ≡ row_spelling raw → ((why : IndexWhy) → RowPasses (map raw_of before) raw why) → path ≡ used raw → records ≡ raw.records
    → AddsRow before (record { path = path; records = records }) rest
adds_row_as before raw bytes rest path records good room fits prefix spelled passes path_is records_is =
    let cut : rest ≡ row_spelling raw ++ drop 48 rest = cut_off bytes rest (row_spelling raw) prefix spelled in
    let adds : AddsRow before (row_from raw) rest = adds_row before raw rest good room fits cut passes in
    subst (λ (p : List Step). AddsRow before (record { path = p; records = records }) rest) (sym path_is)
    (subst (λ (n : ℕ). AddsRow before (record { path = used raw; records = n }) rest) (sym records_is) adds)

pub fails_first_as : (before : List Row) (raw : RawRow) (bytes rest : List ℕ) (why : IndexWhy) → (length before ≢ 65536) → RowFits raw → bytes ≡ take 48 rest → bytes ≡ row_spelling raw
    → FailsTestFirst (map raw_of before) raw why → FailsIndexFirst (map raw_of before) rest why
fails_first_as before raw bytes rest why room fits prefix spelled first =
    fails_first (map raw_of before) raw rest (drop 48 rest) why (λ full. room (sym (length-map before raw_of) ∙ full)) fits (cut_off bytes rest (row_spelling raw) prefix spelled) first
