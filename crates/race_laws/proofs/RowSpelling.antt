-- Laws of the spelling of rows.
use Rattle.std.proofs.Common.{◌≡◌, ℕ, ◌*◌, ◌≤◌, List, [], ◌∷◌, ◌++◌, All, length, take, drop, refl, sym, ap, subst, ◌∙◌, arith, append_assoc, length-append}
use Rattle.std.specs.Int.{w16, w32, w64, to_be_bytes, from_be_bytes}
use Rattle.std.specs.List.{flat_map}
use Rattle.std.proofs.lemmas.List.Elements.{All-head, All-tail}
use Rattle.std.proofs.lemmas.Nat.{from_be_bytes-to_be_bytes_2, from_be_bytes-to_be_bytes_4, from_be_bytes-to_be_bytes_8}
use Rattle.std.proofs.Math.Seq.{take-append_seam, drop-append_seam}
use Rattle.sw_base.specs.declared.path.Step.{Step}
use Rattle.race_model.specs.Row.{RawRow, StepFits, RowFits, step_spelling, row_spelling}

-- the step that eight bytes tell
step_from : List ℕ → Step
step_from bytes = record { region = from_be_bytes w32 (take 4 bytes); lane = from_be_bytes w16 (take 2 (drop 4 bytes)); span = from_be_bytes w16 (take 2 (drop 6 bytes)) }

step_from-spelling : (step : Step) → StepFits step → step_from (step_spelling step) ≡ step
unfolding step_from step_spelling
step_from-spelling step fits =
    let region : from_be_bytes w32 (to_be_bytes w32 step.region) ≡ step.region = from_be_bytes-to_be_bytes_4 step.region fits.region in
    let lane : from_be_bytes w16 (to_be_bytes w16 step.lane) ≡ step.lane = from_be_bytes-to_be_bytes_2 step.lane fits.lane in
    let span : from_be_bytes w16 (to_be_bytes w16 step.span) ≡ step.span = from_be_bytes-to_be_bytes_2 step.span fits.span in
    ap (λ (n : ℕ). let it : Step = record { region = n; lane = from_be_bytes w16 (to_be_bytes w16 step.lane); span = from_be_bytes w16 (to_be_bytes w16 step.span) } in it) region
    ∙ ap (λ (n : ℕ). let it : Step = record { region = step.region; lane = n; span = from_be_bytes w16 (to_be_bytes w16 step.span) } in it) lane
    ∙ ap (λ (n : ℕ). let it : Step = record { region = step.region; lane = step.lane; span = n } in it) span

-- the fields of a row that 48 bytes tell
fields_from : List ℕ → RawRow
fields_from bytes = record {
  depth = from_be_bytes w32 (take 4 bytes);
  reserved = from_be_bytes w32 (take 4 (drop 4 bytes));
  steps = step_from (take 8 (drop 8 bytes)) ∷ step_from (take 8 (drop 16 bytes)) ∷ step_from (take 8 (drop 24 bytes)) ∷ step_from (take 8 (drop 32 bytes)) ∷ [];
  records = from_be_bytes w64 (take 8 (drop 40 bytes));
}

four_from-spelling : (depth reserved : ℕ) (a b c d : Step) (records : ℕ) → RowFits (record { depth = depth; reserved = reserved; steps = a ∷ b ∷ c ∷ d ∷ []; records = records })
    → fields_from (row_spelling (record { depth = depth; reserved = reserved; steps = a ∷ b ∷ c ∷ d ∷ []; records = records })) ≡ record { depth = depth; reserved = reserved; steps = a ∷ b ∷ c ∷ d ∷ []; records = records }
unfolding fields_from row_spelling step_spelling
four_from-spelling depth reserved a b c d records fits =
    let depth_is : from_be_bytes w32 (to_be_bytes w32 depth) ≡ depth = from_be_bytes-to_be_bytes_4 depth fits.depth in
    let reserved_is : from_be_bytes w32 (to_be_bytes w32 reserved) ≡ reserved = from_be_bytes-to_be_bytes_4 reserved fits.reserved in
    let records_is : from_be_bytes w64 (to_be_bytes w64 records) ≡ records = from_be_bytes-to_be_bytes_8 records fits.records in
    let a_is : step_from (step_spelling a) ≡ a = step_from-spelling a (fits.steps 0 a (omega arith)) in
    let b_is : step_from (step_spelling b) ≡ b = step_from-spelling b (fits.steps 1 a (omega arith)) in
    let c_is : step_from (step_spelling c) ≡ c = step_from-spelling c (fits.steps 2 a (omega arith)) in
    let d_is : step_from (step_spelling d) ≡ d = step_from-spelling d (fits.steps 3 a (omega arith)) in
    let row : ℕ → ℕ → Step → Step → Step → Step → ℕ → RawRow = λ n m s t u v k. record { depth = n; reserved = m; steps = s ∷ t ∷ u ∷ v ∷ []; records = k } in
    ap (λ (n : ℕ). row n (from_be_bytes w32 (to_be_bytes w32 reserved)) (step_from (step_spelling a)) (step_from (step_spelling b)) (step_from (step_spelling c)) (step_from (step_spelling d)) (from_be_bytes w64 (to_be_bytes w64 records))) depth_is
    ∙ ap (λ (n : ℕ). row depth n (step_from (step_spelling a)) (step_from (step_spelling b)) (step_from (step_spelling c)) (step_from (step_spelling d)) (from_be_bytes w64 (to_be_bytes w64 records))) reserved_is
    ∙ ap (λ (s : Step). row depth reserved s (step_from (step_spelling b)) (step_from (step_spelling c)) (step_from (step_spelling d)) (from_be_bytes w64 (to_be_bytes w64 records))) a_is
    ∙ ap (λ (s : Step). row depth reserved a s (step_from (step_spelling c)) (step_from (step_spelling d)) (from_be_bytes w64 (to_be_bytes w64 records))) b_is
    ∙ ap (λ (s : Step). row depth reserved a b s (step_from (step_spelling d)) (from_be_bytes w64 (to_be_bytes w64 records))) c_is
    ∙ ap (λ (s : Step). row depth reserved a b c s (from_be_bytes w64 (to_be_bytes w64 records))) d_is
    ∙ ap (λ (n : ℕ). row depth reserved a b c d n) records_is

fields_from-spelling : (row : RawRow) → RowFits row → fields_from (row_spelling row) ≡ row
fields_from-spelling row fits = of_steps row.steps fits.four refl where
  of_steps : (steps : List Step) → length steps ≡ 4 → row.steps ≡ steps → fields_from (row_spelling row) ≡ row
  of_steps (a ∷ b ∷ c ∷ d ∷ []) four is =
      let whole : record { depth = row.depth; reserved = row.reserved; steps = a ∷ b ∷ c ∷ d ∷ []; records = row.records } ≡ row =
      ap (λ (ss : List Step). let it : RawRow = record { depth = row.depth; reserved = row.reserved; steps = ss; records = row.records } in it) (sym is) in
      subst (λ (r : RawRow). fields_from (row_spelling r) ≡ r) whole
      (four_from-spelling row.depth row.reserved a b c d row.records (subst (λ (r : RawRow). RowFits r) (sym whole) fits))
  of_steps _ four is = absurd (omega arith)

length-step : (step : Step) → length (step_spelling step) ≡ 8
unfolding step_spelling
length-step step = refl

length-steps : (steps : List Step) → length (flat_map step_spelling steps) ≡ 8 * length steps
length-steps [] = refl
length-steps (s ∷ steps) = omega (arith, length-step s, length-steps steps, length-append (step_spelling s) (flat_map step_spelling steps))

-- a row has 48 bytes
pub length-row : (row : RawRow) → length row.steps ≡ 4 → length (row_spelling row) ≡ 48
unfolding row_spelling
length-row row four =
    omega (arith, four, length-steps row.steps, length-append (to_be_bytes w32 row.depth ++ to_be_bytes w32 row.reserved ++ flat_map step_spelling row.steps) (to_be_bytes w64 row.records), length-append (to_be_bytes w32 row.depth ++ to_be_bytes w32 row.reserved) (flat_map step_spelling row.steps))

-- rows that fit are spelled differently
pub row_spelling-injective : (r s : RawRow) → RowFits r → RowFits s → row_spelling r ≡ row_spelling s → r ≡ s
row_spelling-injective r s r_fits s_fits same = sym (fields_from-spelling r r_fits) ∙ ap fields_from same ∙ fields_from-spelling s s_fits

-- bytes begin with one row at most, and so what follows it is told too
pub record SameRow (r s : RawRow) (x y : List ℕ) : Type 0 where
  pub row : r ≡ s
  pub rest : x ≡ y

first_bytes : (r : RawRow) (x : List ℕ) → RowFits r → take 48 (row_spelling r ++ x) ≡ row_spelling r
first_bytes r x fits = ap (λ (n : ℕ). take n (row_spelling r ++ x)) (sym (length-row r fits.four)) ∙ take-append_seam (row_spelling r) x

pub rest_bytes : (r : RawRow) (x : List ℕ) → RowFits r → drop 48 (row_spelling r ++ x) ≡ x
rest_bytes r x fits = ap (λ (n : ℕ). drop n (row_spelling r ++ x)) (sym (length-row r fits.four)) ∙ drop-append_seam (row_spelling r) x

pub same_row : (r s : RawRow) (x y : List ℕ) → RowFits r → RowFits s → row_spelling r ++ x ≡ row_spelling s ++ y → SameRow r s x y
same_row r s x y r_fits s_fits same = record {
  row = row_spelling-injective r s r_fits s_fits (sym (first_bytes r x r_fits) ∙ ap (λ (bs : List ℕ). take 48 bs) same ∙ first_bytes s y s_fits);
  rest = sym (rest_bytes r x r_fits) ∙ ap (λ (bs : List ℕ). drop 48 bs) same ∙ rest_bytes s y s_fits;
}

-- of two ways to read rows, the longer goes on from the shorter
pub record GoesOn (rs ss : List RawRow) (x y : List ℕ) : Type 0 where
  pub more : List RawRow
  pub rows : ss ≡ rs ++ more
  pub fit : All RowFits more
  pub rest : x ≡ flat_map row_spelling more ++ y

pub goes_on : (rs ss : List RawRow) (x y : List ℕ) → All RowFits rs → All RowFits ss → length rs ≤ length ss → flat_map row_spelling rs ++ x ≡ flat_map row_spelling ss ++ y → GoesOn rs ss x y
goes_on [] ss x y rs_fit ss_fit shorter same = record { more = ss; rows = refl; fit = ss_fit; rest = same }
goes_on (r ∷ rs) [] x y rs_fit ss_fit shorter same = absurd (omega arith)
goes_on (r ∷ rs) (s ∷ ss) x y rs_fit ss_fit shorter same =
    let one : SameRow r s (flat_map row_spelling rs ++ x) (flat_map row_spelling ss ++ y) = same_row r s (flat_map row_spelling rs ++ x) (flat_map row_spelling ss ++ y) (All-head RowFits r rs rs_fit) (All-head RowFits s ss ss_fit)
    (sym (append_assoc (row_spelling r) (flat_map row_spelling rs) x) ∙ same ∙ append_assoc (row_spelling s) (flat_map row_spelling ss) y) in
    let others : GoesOn rs ss x y = goes_on rs ss x y (All-tail RowFits r rs rs_fit) (All-tail RowFits s ss ss_fit) (omega arith) one.rest in
    record { more = others.more; rows = ap (λ (t : RawRow). t ∷ ss) (sym one.row) ∙ ap (λ (ts : List RawRow). r ∷ ts) others.rows; fit = others.fit; rest = others.rest }
