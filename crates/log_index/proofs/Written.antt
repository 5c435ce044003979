-- Bytes that are written one field after another are the spelling.
use Rattle.std.proofs.Common.{◌≡◌, ℕ, ◌-◌, List, [], ◌∷◌, ◌++◌, length, drop, replicate, sym, ap, ◌∙◌, append_assoc}
use Rattle.std.specs.Int.{w16, w32, w64, to_be_bytes}
use Rattle.std.specs.List.{flat_map}
use Rattle.std.proofs.lemmas.Grind.{flat_map-append}
use Rattle.std.proofs.lemmas.List.{drop-replicate}
use Rattle.sw_base.specs.declared.path.Step.{Step}
use Rattle.race_model.specs.Row.{Row, no_step, raw_of, step_spelling, row_spelling}

pub step_written : (step : Step) (old one two three region lane span : List ℕ) → one ≡ old ++ region → two ≡ one ++ lane → three ≡ two ++ span
    → region ≡ to_be_bytes w32 step.region → lane ≡ to_be_bytes w16 step.lane → span ≡ to_be_bytes w16 step.span → three ≡ old ++ step_spelling step
unfolding step_spelling
step_written step old one two three region lane span one_is two_is three_is region_is lane_is span_is =
    three_is
    ∙ ap (λ (xs : List ℕ). xs ++ span) (two_is ∙ ap (λ (xs : List ℕ). xs ++ lane) one_is)
    ∙ append_assoc (old ++ region) lane span
    ∙ append_assoc old region (lane ++ span)
    ∙ ap (λ (xs : List ℕ). old ++ (xs ++ (lane ++ span))) region_is
    ∙ ap (λ (xs : List ℕ). old ++ (to_be_bytes w32 step.region ++ (xs ++ span))) lane_is
    ∙ ap (λ (xs : List ℕ). old ++ (to_be_bytes w32 step.region ++ (to_be_bytes w16 step.lane ++ xs))) span_is

abbrev pub four_steps : List Step
four_steps = no_step ∷ no_step ∷ no_step ∷ no_step ∷ []

pub row_written : (row : Row) (old one two three four five depth records : List ℕ) → one ≡ old ++ depth → two ≡ one ++ 0 ∷ 0 ∷ 0 ∷ 0 ∷ []
    → three ≡ two ++ flat_map step_spelling row.path → four ≡ three ++ flat_map step_spelling (drop (length row.path) four_steps) → five ≡ four ++ records
    → depth ≡ to_be_bytes w32 (length row.path) → records ≡ to_be_bytes w64 row.records → five ≡ old ++ row_spelling (raw_of row)
unfolding row_spelling
row_written row old one two three four five depth records one_is two_is three_is four_is five_is depth_is records_is =
    let zero_bytes : List ℕ = 0 ∷ 0 ∷ 0 ∷ 0 ∷ [] in
    let used : List ℕ = flat_map step_spelling row.path in
    let unused : List ℕ = flat_map step_spelling (drop (length row.path) four_steps) in
    let steps : used ++ unused ≡ flat_map step_spelling (row.path ++ replicate (4 - length row.path) no_step) =
    ap (λ (ss : List Step). used ++ flat_map step_spelling ss) (drop-replicate (length row.path) 4 no_step)
    ∙ sym (flat_map-append step_spelling row.path (replicate (4 - length row.path) no_step)) in
    five_is
    ∙ ap (λ (xs : List ℕ). xs ++ records) (four_is ∙ ap (λ (xs : List ℕ). xs ++ unused) (three_is ∙ ap (λ (xs : List ℕ). xs ++ used) (two_is ∙ ap (λ (xs : List ℕ). xs ++ zero_bytes) one_is)))
    ∙ ap (λ (xs : List ℕ). xs ++ records) (append_assoc ((old ++ depth) ++ zero_bytes) used unused ∙ ap (λ (xs : List ℕ). ((old ++ depth) ++ zero_bytes) ++ xs) steps)
    ∙ ap (λ (xs : List ℕ). ((xs ++ flat_map step_spelling (row.path ++ replicate (4 - length row.path) no_step)) ++ records)) (append_assoc old depth zero_bytes)
    ∙ ap (λ (xs : List ℕ). xs ++ records) (append_assoc old (depth ++ zero_bytes) (flat_map step_spelling (row.path ++ replicate (4 - length row.path) no_step)))
    ∙ append_assoc old ((depth ++ zero_bytes) ++ flat_map step_spelling (row.path ++ replicate (4 - length row.path) no_step)) records
    ∙ ap (λ (xs : List ℕ). old ++ (((xs ++ zero_bytes) ++ flat_map step_spelling (row.path ++ replicate (4 - length row.path) no_step)) ++ records)) depth_is
    ∙ ap (λ (xs : List ℕ). old ++ (((to_be_bytes w32 (length row.path) ++ zero_bytes) ++ flat_map step_spelling (row.path ++ replicate (4 - length row.path) no_step)) ++ xs)) records_is
