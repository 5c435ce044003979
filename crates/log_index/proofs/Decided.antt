-- An index of bytes without a bad place has rows.
use Rattle.std.proofs.Common.{◌≡◌, ◌≢◌, ◌⊎◌, inl, inr, ℕ, zero, suc, ◌+◌, ◌^◌, ◌<◌, ◌≤◌, List, [], ◌∷◌, ◌++◌, All, length, get_or, take, drop, map, Option, Some, None, refl, sym, ap, subst, ◌∙◌, arith, append_assoc, length-take, length-drop}
use Rattle.std.specs.Int.{w16, w32, w64, from_be_bytes}
use Rattle.std.specs.List.{flat_map}
use Rattle.std.proofs.lemmas.Bool.{cases_lt}
use Rattle.std.proofs.lemmas.List.{append-nil, map-append, length-map, take-append-drop, get_or-drop}
use Rattle.std.proofs.lemmas.List.Elements.{All-nil, All-cons, All-head, All-tail}
use Rattle.sw_base.specs.declared.path.Step.{Step}
use Rattle.sw_base.specs.Environment.{Files}
use Rattle.sw_base.specs.Names.{index_name}
use Rattle.log_format.specs.declared.format.Format.{Format}
use Rattle.log_format.specs.Format.{index_header}
use Rattle.race_model.specs.declared.why.IndexWhy.{IndexWhy}
use Rattle.race_model.specs.declared.why.IndexWhy.TheVariants.{Old, Header, TooMany, Cut, Depth, Span, Lane, Order, Records}
use Rattle.race_model.specs.BadPlace.{BadPlace, no_index, bad_row}
use Rattle.race_model.specs.Row.{Row, RawRow, StepFits, RowFits, step_spelling, row_spelling, used, unused, no_step, raw_of, index_bytes}
use Rattle.race_model.specs.Listing.{BeginsListing, IsListing, IsLastLane, IsNextLane, IsFirstLane, IsNextRegion, IsNextPath}
use Rattle.race_model.specs.IndexFault.{HasRegionSpan, HasLaneInSpan, RowPasses, FailsTest, Fails as HasFault, IsBadRow, IsBadIndexPlace, AreFirstRows, IsIndex}
use Rattle.race_laws.proofs.Listings.{begins_none, begins_at_root, begins_one, begins_less, begins_more, lists_less, lists_more, lists_some}
use Rattle.race_laws.proofs.IndexPlaces.{used-raws_of, bad_next_row, both_parts}
use Rattle.log_index.specs.Rows.{AddsRow, OneMore}
use Rattle.race_model.specs.Row.{row_path}
use Rattle.log_index.proofs.Ends.{more_parts}
use Rattle.log_index.proofs.Parsing.{row_from, adds_row}
use Rattle.log_index.proofs.RowTests.{paths_same}
use Rattle.log_format.proofs.Bytes.{two_at, four_at, eight_at, two_bound, four_bound, eight_bound}
use Rattle.log_format.proofs.Deciding.{Decided, stable, through, both, either, equal, at_most}
use Rattle.log_index.proofs.Spelled.{step_spelled, row_spelled, four_fit}

all : {X : Type 0} (P : X → Type 0) → ((x : X) → Decided (P x)) → (xs : List X) → Decided (All P xs)
all P told [] = inl (All-nil P)
all P told (x ∷ xs) = through (λ p. All-cons P x xs p.0 p.1) (λ a. (All-head P x xs a, All-tail P x xs a)) (both (told x) (all P told xs))

step_is : (s t : Step) → s.region ≡ t.region → s.lane ≡ t.lane → s.span ≡ t.span → s ≡ t
step_is s t region lane span =
    ap (λ (n : ℕ). let it : Step = record { region = n; lane = s.lane; span = s.span } in it) region
    ∙ ap (λ (n : ℕ). let it : Step = record { region = t.region; lane = n; span = s.span } in it) lane
    ∙ ap (λ (n : ℕ). let it : Step = record { region = t.region; lane = t.lane; span = n } in it) span

same_step : (s t : Step) → Decided (s ≡ t)
same_step s t =
    through (λ p. step_is s t p.0 p.1.0 p.1.1) (λ same. (ap (λ (x : Step). x.region) same, (ap (λ (x : Step). x.lane) same, ap (λ (x : Step). x.span) same)))
    (both (equal s.region t.region) (both (equal s.lane t.lane) (equal s.span t.span)))

first_lane : (region : ℕ) (step : Step) → Decided (IsFirstLane region step)
first_lane region step =
    through (λ p. record { region_is = p.0; lane = p.1.0; some = p.1.1 }) (λ is. (is.region_is, (is.lane, is.some)))
    (both (equal step.region region) (both (equal step.lane 0) (at_most 1 step.span)))

next_lane : (step next : Step) → Decided (IsNextLane step next)
next_lane step next =
    through (λ p. record { region = p.0; span = p.1.0; lane = p.1.1.0; within = p.1.1.1 }) (λ is. (is.region, (is.span, (is.lane, is.within))))
    (both (equal next.region step.region) (both (equal next.span step.span) (both (equal next.lane (step.lane + 1)) (at_most (suc next.lane) next.span))))

next_region : (step next : Step) → Decided (IsNextRegion step next)
next_region step next =
    through (λ p. record { last = p.0; first = p.1 }) (λ is. (is.last, is.first))
    (both (equal (step.lane + 1) step.span) (first_lane (step.region + 1) next))

next_path : (path next : List Step) → Decided (IsNextPath path next)
next_path path [] = inr (λ on. on)
next_path [] (next ∷ []) = first_lane 0 next
next_path (step ∷ below) (next ∷ []) = both (all IsLastLane (λ s. equal (s.lane + 1) s.span) below) (either (next_lane step next) (next_region step next))
next_path [] (next ∷ more ∷ others) = inr (λ on. on)
next_path (step ∷ below) (next ∷ more ∷ others) = both (same_step step next) (next_path below (more ∷ others))

-- rows are none, or have a last one
data View (rows : List Row) : Type 0 where
  no_row : rows ≡ [] → View rows
  last : (prefix : List Row) (row : Row) → rows ≡ prefix ++ row ∷ [] → View rows

view : (rows : List Row) → View rows
view [] = no_row refl
view (row ∷ rows) = more (view rows) where
  more : View rows → View (row ∷ rows)
  more (no_row is) = last [] row (ap (λ (rs : List Row). row ∷ rs) is)
  more (last prefix end is) = last (row ∷ prefix) end (ap (λ (rs : List Row). row ∷ rs) is)

empty_path : (path : List Step) → Decided (path ≡ [])
empty_path [] = inl refl
empty_path (step ∷ path) = inr (λ none. absurd (omega (arith, ap length none)))

goes_on : (rows : List Row) (path : List Step) → BeginsListing (map row_path rows) → Decided (BeginsListing (map row_path rows ++ path ∷ []))
goes_on rows path begins = by_view (view rows) where
  by_view : View rows → Decided (BeginsListing (map row_path rows ++ path ∷ []))
  by_view (no_row is) =
      subst (λ (rs : List Row). Decided (BeginsListing (map row_path rs ++ path ∷ []))) (sym is)
      (through (begins_one path) (begins_at_root path []) (empty_path path))
  by_view (last prefix row is) =
      let paths : map row_path rows ≡ map row_path prefix ++ row.path ∷ [] = ap (λ (rs : List Row). map row_path rs) is ∙ map-append row_path prefix (row ∷ []) in
      let longer : map row_path rows ++ path ∷ [] ≡ map row_path prefix ++ row.path ∷ path ∷ [] =
      ap (λ (ps : List (List Step)). ps ++ path ∷ []) paths ∙ append_assoc (map row_path prefix) (row.path ∷ []) (path ∷ []) in
      subst (λ (ps : List (List Step)). Decided (BeginsListing ps)) (sym longer)
      (through (λ on. begins_more (map row_path prefix) row.path path (subst (λ (ps : List (List Step)). BeginsListing ps) paths begins) on)
      (λ is_prefix. (begins_less (map row_path prefix) row.path path is_prefix).1) (next_path row.path path))

whole : (rows : List Row) → BeginsListing (map row_path rows) → Decided (IsListing (map row_path rows))
whole rows begins = by_view (view rows) where
  by_view : View rows → Decided (IsListing (map row_path rows))
  by_view (no_row is) = inr (λ lists. lists_some (subst (λ (rs : List Row). IsListing (map row_path rs)) is lists))
  by_view (last prefix row is) =
      let paths : map row_path rows ≡ map row_path prefix ++ row.path ∷ [] = ap (λ (rs : List Row). map row_path rs) is ∙ map-append row_path prefix (row ∷ []) in
      subst (λ (ps : List (List Step)). Decided (IsListing ps)) (sym paths)
      (through (λ lasts. lists_more (map row_path prefix) row.path (subst (λ (ps : List (List Step)). BeginsListing ps) paths begins) lasts)
      (lists_less (map row_path prefix) row.path) (all IsLastLane (λ s. equal (s.lane + 1) s.span) row.path))

-- each test of a row can be told
passes : (before : List Row) (raw : RawRow) → BeginsListing (map row_path before) → (why : IndexWhy) → Decided (RowPasses (map raw_of before) raw why)
passes before raw begins Old = inl tt
passes before raw begins Header = inl tt
passes before raw begins TooMany = inl tt
passes before raw begins Cut = inl tt
passes before raw begins Depth =
    through (λ p. record { limit = p.0; reserved = p.1.0; unused = p.1.1 }) (λ is. (is.limit, (is.reserved, is.unused)))
    (both (at_most raw.depth 4) (both (equal raw.reserved 0) (all (λ step. step ≡ no_step) (λ step. same_step step no_step) (unused raw))))
passes before raw begins Span =
    all HasRegionSpan (λ step. through (λ p. record { some = p.0; limit = p.1 }) (λ is. (is.some, is.limit)) (both (at_most 1 step.span) (at_most step.span 64))) (used raw)
passes before raw begins Lane = all HasLaneInSpan (λ step. at_most (suc step.lane) step.span) (used raw)
passes before raw begins Order =
    subst (λ (ps : List (List Step)). Decided (BeginsListing ps)) (sym (paths_same before raw)) (goes_on before (used raw) begins)
passes before raw begins Records =
    through (λ p. record { some = p.0; limit = p.1 }) (λ is. (is.some, is.limit)) (both (at_most 1 raw.records) (at_most raw.records 4194304))

-- parts of lists of bytes are lists of bytes
record Small (bs : List ℕ) : Type 0 where
  each : (i : ℕ) → get_or bs i 0 < 256

small_cons : (b : ℕ) (bs : List ℕ) → b < 256 → Small bs → Small (b ∷ bs)
small_cons b bs small rest = record { each = each } where
  each : (i : ℕ) → get_or (b ∷ bs) i 0 < 256
  each zero = small
  each (suc i) = rest.each i

small_take : (n : ℕ) (bs : List ℕ) → Small bs → Small (take n bs)
small_take zero bs small = record { each = λ i. omega arith }
small_take (suc n) [] small = record { each = λ i. omega arith }
small_take (suc n) (b ∷ bs) small = small_cons b (take n bs) (small.each zero) (small_take n bs (record { each = λ j. small.each (suc j) }))

small_drop : (n : ℕ) (bs : List ℕ) → Small bs → Small (drop n bs)
small_drop n bs small = record { each = λ i. subst (λ (b : ℕ). b < 256) (sym (get_or-drop n bs i 0)) (small.each (n + i)) }

-- the step that eight bytes spell
step_of : List ℕ → Step
step_of bs = record { region = from_be_bytes w32 (four_at bs 0); lane = from_be_bytes w16 (two_at bs 4); span = from_be_bytes w16 (two_at bs 6) }

step_of_fits : (bs : List ℕ) → Small bs → StepFits (step_of bs)
unfolding step_of
step_of_fits bs small = record {
  region = four_bound (get_or bs 0 0) (get_or bs 1 0) (get_or bs 2 0) (get_or bs 3 0) (small.each 0) (small.each 1) (small.each 2) (small.each 3);
  lane = two_bound (get_or bs 4 0) (get_or bs 5 0) (small.each 4) (small.each 5);
  span = two_bound (get_or bs 6 0) (get_or bs 7 0) (small.each 6) (small.each 7);
}

step_of_spells : (bs : List ℕ) → length bs ≡ 8 → Small bs → bs ≡ step_spelling (step_of bs)
unfolding step_of
step_of_spells bs size small = step_spelled bs (step_of bs) size small.each refl refl refl

cut_32 : (bs : List ℕ) → bs ≡ take 8 bs ++ (take 8 (drop 8 bs) ++ (take 8 (drop 8 (drop 8 bs)) ++ (drop 8 (drop 8 (drop 8 bs)) ++ [])))
cut_32 bs =
    sym (take-append-drop 8 bs)
    ∙ ap (λ (xs : List ℕ). take 8 bs ++ xs) (sym (take-append-drop 8 (drop 8 bs))
    ∙ ap (λ (xs : List ℕ). take 8 (drop 8 bs) ++ xs) (sym (take-append-drop 8 (drop 8 (drop 8 bs)))
    ∙ ap (λ (xs : List ℕ). take 8 (drop 8 (drop 8 bs)) ++ xs) (sym (append-nil (drop 8 (drop 8 (drop 8 bs)))))))

-- the row that 48 bytes spell
record SpellsRow (bs : List ℕ) : Type 0 where
  raw : RawRow
  fits : RowFits raw
  spelled : bs ≡ row_spelling raw

four_spelled : (bs : List ℕ) → length bs ≡ 32 → Small bs
    → bs ≡ flat_map step_spelling (step_of (take 8 bs) ∷ step_of (take 8 (drop 8 bs)) ∷ step_of (take 8 (drop 8 (drop 8 bs))) ∷ step_of (drop 8 (drop 8 (drop 8 bs))) ∷ [])
four_spelled bs size small =
    let one : List ℕ = drop 8 bs in
    let two : List ℕ = drop 8 one in
    let three : List ℕ = drop 8 two in
    let small_one : Small one = small_drop 8 bs small in
    let small_two : Small two = small_drop 8 one small_one in
    let small_three : Small three = small_drop 8 two small_two in
    let one_size : length one ≡ 24 = omega (arith, length-drop 8 bs) in
    let two_size : length two ≡ 16 = omega (arith, length-drop 8 one) in
    let three_size : length three ≡ 8 = omega (arith, length-drop 8 two) in
    cut_32 bs
    ∙ ap (λ (xs : List ℕ). xs ++ (take 8 one ++ (take 8 two ++ (three ++ [])))) (step_of_spells (take 8 bs) (omega (arith, length-take 8 bs)) (small_take 8 bs small))
    ∙ ap (λ (xs : List ℕ). step_spelling (step_of (take 8 bs)) ++ (xs ++ (take 8 two ++ (three ++ [])))) (step_of_spells (take 8 one) (omega (arith, length-take 8 one)) (small_take 8 one small_one))
    ∙ ap (λ (xs : List ℕ). step_spelling (step_of (take 8 bs)) ++ (step_spelling (step_of (take 8 one)) ++ (xs ++ (three ++ [])))) (step_of_spells (take 8 two) (omega (arith, length-take 8 two)) (small_take 8 two small_two))
    ∙ ap (λ (xs : List ℕ). step_spelling (step_of (take 8 bs)) ++ (step_spelling (step_of (take 8 one)) ++ (step_spelling (step_of (take 8 two)) ++ (xs ++ [])))) (step_of_spells three three_size small_three)

row_of_bytes : (bs : List ℕ) → length bs ≡ 48 → Small bs → SpellsRow bs
row_of_bytes bs size small =
    let mid : List ℕ = take 32 (drop 8 bs) in
    let small_mid : Small mid = small_take 32 (drop 8 bs) (small_drop 8 bs small) in
    let mid_size : length mid ≡ 32 = omega (arith, length-take 32 (drop 8 bs), length-drop 8 bs) in
    let a : List ℕ = take 8 mid in
    let b : List ℕ = take 8 (drop 8 mid) in
    let c : List ℕ = take 8 (drop 8 (drop 8 mid)) in
    let d : List ℕ = drop 8 (drop 8 (drop 8 mid)) in
    let one : Small (drop 8 mid) = small_drop 8 mid small_mid in
    let two : Small (drop 8 (drop 8 mid)) = small_drop 8 (drop 8 mid) one in
    let row : RawRow = record {
      depth = from_be_bytes w32 (four_at bs 0);
      reserved = from_be_bytes w32 (four_at bs 4);
      steps = step_of a ∷ step_of b ∷ step_of c ∷ step_of d ∷ [];
      records = from_be_bytes w64 (eight_at bs 40);
    } in
    record {
      raw = row;
      fits = record {
        depth = four_bound (get_or bs 0 0) (get_or bs 1 0) (get_or bs 2 0) (get_or bs 3 0) (small.each 0) (small.each 1) (small.each 2) (small.each 3);
        reserved = four_bound (get_or bs 4 0) (get_or bs 5 0) (get_or bs 6 0) (get_or bs 7 0) (small.each 4) (small.each 5) (small.each 6) (small.each 7);
        four = refl;
        steps = four_fit (step_of a) (step_of b) (step_of c) (step_of d) (step_of_fits a (small_take 8 mid small_mid)) (step_of_fits b (small_take 8 (drop 8 mid) one))
            (step_of_fits c (small_take 8 (drop 8 (drop 8 mid)) two)) (step_of_fits d (small_drop 8 (drop 8 (drop 8 mid)) two));
        records = eight_bound (get_or bs 40 0) (get_or bs 41 0) (get_or bs 42 0) (get_or bs 43 0) (get_or bs 44 0) (get_or bs 45 0) (get_or bs 46 0) (get_or bs 47 0)
            (small.each 40) (small.each 41) (small.each 42) (small.each 43) (small.each 44) (small.each 45) (small.each 46) (small.each 47);
      };
      spelled = row_spelled bs row size small.each refl refl (four_spelled mid mid_size small_mid) refl;
    }

same_list : (xs ys : List ℕ) → Decided (xs ≡ ys)
same_list [] [] = inl refl
same_list [] (y ∷ ys) = inr (λ same. absurd (omega (arith, ap length same)))
same_list (x ∷ xs) [] = inr (λ same. absurd (omega (arith, ap length same)))
same_list (x ∷ xs) (y ∷ ys) =
    through (λ p. ap (λ (n : ℕ). n ∷ xs) p.0 ∙ ap (λ (zs : List ℕ). y ∷ zs) p.1) both_parts (both (equal x y) (same_list xs ys))

-- the folder has a well-formed index
pub record HasRows (format : Format) (files : Files) (dir : List ℕ) : Type 0 where
  pub rows : List Row
  pub is_index : IsIndex format files dir rows

module _ (format : Format) (files : Files) (dir : List ℕ) (bytes : List ℕ) (held : files (index_name dir) ≡ Some bytes) (good : (place : BadPlace) → IsBadIndexPlace format files dir place → ⊥) where
  not_bad : (n : ℕ) (why : IndexWhy) → IsBadRow format bytes n why → ⊥
  not_bad n why bad = good (bad_row n why) (record { bytes = bytes; held = held; bad = bad })

  module _ (rows : List Row) (rest : List ℕ) (first : AreFirstRows rows) (parts : bytes ≡ index_header format ++ flat_map row_spelling (map raw_of rows) ++ rest) where
    no_fault : (why : IndexWhy) → HasFault (map raw_of rows) rest why → ⊥
    no_fault why fault = not_bad (length rows + 1) why (bad_next_row format bytes rows rest first parts why fault)

    at_end : rest ≡ [] → HasRows format files dir
    at_end ended =
        let lists : IsListing (map row_path rows) = stable (whole rows first.begins)
        (λ not. no_fault Order (inr (ended, λ lists. not (subst (λ (ps : List (List Step)). IsListing ps) (used-raws_of rows) lists)))) in
        let bytes_are : bytes ≡ index_bytes format rows = parts ∙ ap (λ (bs : List ℕ). index_header format ++ flat_map row_spelling (map raw_of rows) ++ bs) ended ∙ append-nil (index_bytes format rows) in
        record {
          rows = rows;
          is_index = record { held = held ∙ ap (λ (bs : List ℕ). Some bs) bytes_are; rows_are = record { lists = lists; each = first.each; limit = first.limit } };
        }

    -- the row that is next
    record Next : Type 0 where
      row : Row
      adds : AddsRow rows row rest

    next : (rest ≢ []) → Small rest → Next
    next some small =
        let long : 48 ≤ length rest = stable (at_most 48 (length rest)) (λ short. no_fault Cut (inl (some, is_short short))) in
        let cut : SpellsRow (take 48 rest) = row_of_bytes (take 48 rest) (omega (arith, length-take 48 rest)) (small_take 48 rest small) in
        let spelled : rest ≡ row_spelling cut.raw ++ drop 48 rest = sym (take-append-drop 48 rest) ∙ ap (λ (bs : List ℕ). bs ++ drop 48 rest) cut.spelled in
        let room : length rows ≢ 65536 = λ full. no_fault TooMany (length-map rows raw_of ∙ full, some) in
        record { row = row_from cut.raw; adds = adds_row rows cut.raw rest first room cut.fits spelled (tests cut.raw cut.fits spelled) } where
          is_short : (48 ≤ length rest → ⊥) → length rest < 48
          is_short short = by_order (cases_lt (length rest) 48) where
            by_order : (length rest < 48) ⊎ (48 ≤ length rest) → length rest < 48
            by_order (inl less) = less
            by_order (inr more) = absurd (short more)

          tests : (raw : RawRow) → RowFits raw → rest ≡ row_spelling raw ++ drop 48 rest → (why : IndexWhy) → RowPasses (map raw_of rows) raw why
          tests raw fits spelled why = stable (passes rows raw first.begins why) (fails why) where
            test : (w : IndexWhy) → (RowPasses (map raw_of rows) raw w → ⊥) → FailsTest (map raw_of rows) rest w
            test w not = record { row = raw; more = drop 48 rest; fits = fits; spelled = spelled; fails = not }

            fails : (w : IndexWhy) → (RowPasses (map raw_of rows) raw w → ⊥) → ⊥
            fails Old not = not tt
            fails Header not = not tt
            fails TooMany not = not tt
            fails Cut not = not tt
            fails Depth not = no_fault Depth (test Depth not)
            fails Span not = no_fault Span (test Span not)
            fails Lane not = no_fault Lane (test Lane not)
            fails Order not = no_fault Order (inl (test Order not))
            fails Records not = no_fault Records (test Records not)

    next_parts : (row : Row) → AddsRow rows row rest → bytes ≡ index_header format ++ flat_map row_spelling (map raw_of (rows ++ row ∷ [])) ++ drop 48 rest
    next_parts row adds =
        let more : OneMore rows (rows ++ row ∷ []) rest = record { row = row; rows = refl; adds = adds } in
        parts
        ∙ append_assoc (index_header format) (flat_map row_spelling (map raw_of rows)) rest
        ∙ ap (λ (bs : List ℕ). index_header format ++ bs) (more_parts (flat_map row_spelling (map raw_of rows) ++ rest) rows (rows ++ row ∷ []) rest refl more)
        ∙ sym (append_assoc (index_header format) (flat_map row_spelling (map raw_of (rows ++ row ∷ []))) (drop 48 rest))

  read_all : (fuel : ℕ) (rows : List Row) (rest : List ℕ) → length rest ≤ fuel → Small rest → AreFirstRows rows → bytes ≡ index_header format ++ flat_map row_spelling (map raw_of rows) ++ rest → HasRows format files dir
  read_all fuel rows [] short small first parts = at_end rows [] first parts refl
  read_all zero rows (b ∷ rest) short small first parts = absurd (omega arith)
  read_all (suc fuel) rows (b ∷ rest) short small first parts =
      let one : Next rows (b ∷ rest) first parts = next rows (b ∷ rest) first parts (λ ended. absurd (omega (arith, ap length ended))) small in
      read_all fuel (rows ++ one.row ∷ []) (drop 48 (b ∷ rest)) (omega (arith, length-drop 48 (b ∷ rest))) (small_drop 48 (b ∷ rest) small) one.adds.good (next_parts rows (b ∷ rest) first parts one.row one.adds)

  all_read : Small bytes → HasRows format files dir
  all_read small =
      let header : take 8 bytes ≡ index_header format = stable (same_list (take 8 bytes) (index_header format)) (λ other. not_bad 0 Header (refl, other)) in
      let parts : bytes ≡ (index_header format ++ []) ++ drop 8 bytes = sym (take-append-drop 8 bytes) ∙ ap (λ (bs : List ℕ). bs ++ drop 8 bytes) (header ∙ sym (append-nil (index_header format))) in
      read_all (length (drop 8 bytes)) [] (drop 8 bytes) (omega arith) (small_drop 8 bytes small) (record { begins = begins_none; each = λ k d h. absurd (omega arith); limit = omega arith }) parts

-- a folder whose index isn't bad has rows
pub has_rows : (format : Format) (files : Files) (dir : List ℕ) → ((bytes : List ℕ) → files (index_name dir) ≡ Some bytes → (i : ℕ) → get_or bytes i 0 < 256) → ((place : BadPlace) → IsBadIndexPlace format files dir place → ⊥)
    → HasRows format files dir
has_rows format files dir small good = by_held (files (index_name dir)) refl where
  by_held : (held : Option (List ℕ)) → files (index_name dir) ≡ held → HasRows format files dir
  by_held None missing = absurd (good no_index missing)
  by_held (Some bytes) held = all_read format files dir bytes held good (record { each = small bytes held })
