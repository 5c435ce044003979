-- Bytes spell the fields that are read from them.
use Rattle.std.proofs.Common.{◌≡◌, ℕ, ◌<◌, ◌≤◌, List, [], ◌∷◌, ◌++◌, All, length, get_or, take, drop, refl, sym, ap, ◌∙◌, arith, append_assoc, length-drop}
use Rattle.std.specs.Int.{w16, w32, w64, to_be_bytes, from_be_bytes}
use Rattle.std.specs.List.{flat_map}
use Rattle.std.proofs.lemmas.List.{take-append-drop, get_or-drop}
use Rattle.std.proofs.lemmas.List.Elements.{All-nil, All-cons}
use Rattle.std.proofs.lemmas.Nat.{be_bytes_2, be_bytes_4, be_bytes_8}
use Rattle.sw_base.specs.declared.path.Step.{Step}
use Rattle.log_format.proofs.Bytes.{two_at, four_at, eight_at, two_bytes, four_bytes, eight_bytes}
use Rattle.race_model.specs.Row.{RawRow, StepFits, step_spelling, row_spelling}

list_of_8 : (bs : List ℕ) → length bs ≡ 8 → bs ≡ eight_at bs 0
list_of_8 (a ∷ b ∷ c ∷ d ∷ e ∷ f ∷ g ∷ h ∷ []) size = refl
list_of_8 _ size = absurd (omega arith)

first_eight : (bs : List ℕ) → 8 ≤ length bs → take 8 bs ≡ eight_at bs 0
first_eight (a ∷ b ∷ c ∷ d ∷ e ∷ f ∷ g ∷ h ∷ rest) size = refl
first_eight _ size = absurd (omega arith)

-- eight bytes spell the step that has their numbers as its fields
pub step_spelled : (bs : List ℕ) (step : Step) → length bs ≡ 8 → ((i : ℕ) → get_or bs i 0 < 256)
    → step.region ≡ from_be_bytes w32 (four_at bs 0) → step.lane ≡ from_be_bytes w16 (two_at bs 4) → step.span ≡ from_be_bytes w16 (two_at bs 6)
    → bs ≡ step_spelling step
unfolding step_spelling
step_spelled bs step size small region lane span =
    let region_bytes : to_be_bytes w32 step.region ≡ four_at bs 0 = be_bytes_4 (four_at bs 0) step.region refl (four_bytes bs 0 small).each region in
    let lane_bytes : to_be_bytes w16 step.lane ≡ two_at bs 4 = be_bytes_2 (two_at bs 4) step.lane refl (two_bytes bs 4 small).each lane in
    let span_bytes : to_be_bytes w16 step.span ≡ two_at bs 6 = be_bytes_2 (two_at bs 6) step.span refl (two_bytes bs 6 small).each span in
    list_of_8 bs size
    ∙ ap (λ (xs : List ℕ). xs ++ two_at bs 4 ++ two_at bs 6) (sym region_bytes)
    ∙ ap (λ (xs : List ℕ). to_be_bytes w32 step.region ++ xs ++ two_at bs 6) (sym lane_bytes)
    ∙ ap (λ (xs : List ℕ). to_be_bytes w32 step.region ++ to_be_bytes w16 step.lane ++ xs) (sym span_bytes)

pub four_fit : (a b c d : Step) → StepFits a → StepFits b → StepFits c → StepFits d → All StepFits (a ∷ b ∷ c ∷ d ∷ [])
four_fit a b c d a_fits b_fits c_fits d_fits =
    All-cons StepFits a (b ∷ c ∷ d ∷ []) a_fits (All-cons StepFits b (c ∷ d ∷ []) b_fits (All-cons StepFits c (d ∷ []) c_fits (All-cons StepFits d [] d_fits (All-nil StepFits))))

-- 48 bytes, cut where the fields are
cut_48 : (bs : List ℕ) → length bs ≡ 48 → bs ≡ eight_at bs 0 ++ take 32 (drop 8 bs) ++ drop 32 (drop 8 bs)
cut_48 bs size =
    sym (take-append-drop 8 bs)
    ∙ ap (λ (xs : List ℕ). xs ++ drop 8 bs) (first_eight bs (omega arith))
    ∙ ap (λ (xs : List ℕ). eight_at bs 0 ++ xs) (sym (take-append-drop 32 (drop 8 bs)))
    ∙ sym (append_assoc (eight_at bs 0) (take 32 (drop 8 bs)) (drop 32 (drop 8 bs)))

last_eight : (bs : List ℕ) → length bs ≡ 48 → drop 32 (drop 8 bs) ≡ eight_at bs 40
last_eight bs size =
    list_of_8 (drop 32 (drop 8 bs)) (omega (arith, length-drop 32 (drop 8 bs), length-drop 8 bs)) ∙ simp get_or-drop

-- the bytes of a row spell the row that has their numbers as its fields
pub row_spelled : (bs : List ℕ) (row : RawRow) → length bs ≡ 48 → ((i : ℕ) → get_or bs i 0 < 256)
    → row.depth ≡ from_be_bytes w32 (four_at bs 0) → row.reserved ≡ from_be_bytes w32 (four_at bs 4)
    → take 32 (drop 8 bs) ≡ flat_map step_spelling row.steps → row.records ≡ from_be_bytes w64 (eight_at bs 40)
    → bs ≡ row_spelling row
unfolding row_spelling
row_spelled bs row size small depth reserved steps records =
    let depth_bytes : to_be_bytes w32 row.depth ≡ four_at bs 0 = be_bytes_4 (four_at bs 0) row.depth refl (four_bytes bs 0 small).each depth in
    let reserved_bytes : to_be_bytes w32 row.reserved ≡ four_at bs 4 = be_bytes_4 (four_at bs 4) row.reserved refl (four_bytes bs 4 small).each reserved in
    let records_bytes : to_be_bytes w64 row.records ≡ eight_at bs 40 = be_bytes_8 (eight_at bs 40) row.records refl (eight_bytes bs 40 small).each records in
    cut_48 bs size
    ∙ ap (λ (xs : List ℕ). eight_at bs 0 ++ take 32 (drop 8 bs) ++ xs) (last_eight bs size ∙ sym records_bytes)
    ∙ ap (λ (xs : List ℕ). eight_at bs 0 ++ xs ++ to_be_bytes w64 row.records) steps
    ∙ ap (λ (xs : List ℕ). xs ++ four_at bs 4 ++ flat_map step_spelling row.steps ++ to_be_bytes w64 row.records) (sym depth_bytes)
    ∙ ap (λ (xs : List ℕ). to_be_bytes w32 row.depth ++ xs ++ flat_map step_spelling row.steps ++ to_be_bytes w64 row.records) (sym reserved_bytes)
