use Rattle.std.proofs.Common.{Bor, map, ◌≡◌, ℕ, List, [], ◌∷◌, ◌++◌, length, Option, ap, sym, subst, ◌∙◌, append_assoc, flat_map}
use Rattle.std.proofs.lemmas.Grind.{flat_map-append}
use Rattle.std.proofs.lemmas.List.{append-nil, map-append}
use Rattle.sw_base.specs.Environment.{GainsPrefix, gained}
use Rattle.sw_base.proofs.Gains.{gained-gained, GainsPrefix-append, GainsPrefix-after}
use Rattle.race_report.specs.Report.{race_line, count_line, report_text}

-- the text of a report, parted before one of its pairs
report_text-parts : (done : List (ℕ × ℕ)) (pair : ℕ × ℕ) (rest : List (ℕ × ℕ)) (count : ℕ)
    → flat_map race_line (done ++ pair ∷ rest) ++ count_line count ≡ flat_map race_line done ++ (race_line pair ++ (flat_map race_line rest ++ count_line count))
report_text-parts done pair rest count =
    ap (λ t. t ++ count_line count) (flat_map-append race_line done (pair ∷ rest))
    ∙ append_assoc (flat_map race_line done) (flat_map race_line (pair ∷ rest)) (count_line count)
    ∙ ap (λ t. flat_map race_line done ++ t) (append_assoc (race_line pair) (flat_map race_line rest) (count_line count))

-- a pair's line that was refused leaves a prefix of the report
pub GainsPrefix-report : (old between new : Option (List ℕ)) (done : List (ℕ × ℕ)) (pair : ℕ × ℕ) (rest all : List (ℕ × ℕ)) → all ≡ done ++ pair ∷ rest
    → between ≡ gained old (flat_map race_line done) → GainsPrefix between new (race_line pair) → GainsPrefix old new (report_text all)
GainsPrefix-report old between new done pair rest all parts first prefix =
    let P : List ℕ → Type 0 = GainsPrefix old new in
    subst P (sym (ap report_text parts ∙ report_text-parts done pair rest (length (done ++ pair ∷ rest))))
    (GainsPrefix-after old between new (flat_map race_line done) (race_line pair ++ (flat_map race_line rest ++ count_line (length (done ++ pair ∷ rest)))) first
    (GainsPrefix-append between new (race_line pair) (flat_map race_line rest ++ count_line (length (done ++ pair ∷ rest))) prefix))

-- one more item of a turn
pub map-now-push : (pairs : List (Bor (ℕ × ℕ))) (pair : Bor (ℕ × ℕ)) → map (λ (p : Bor (ℕ × ℕ)). p.now) (pairs ++ pair ∷ []) ≡ map (λ (p : Bor (ℕ × ℕ)). p.now) pairs ++ pair.now ∷ []
map-now-push pairs pair = map-append (λ (p : Bor (ℕ × ℕ)). p.now) pairs (pair ∷ [])

-- the next of the pairs that were left
pub left-step : (shown left rest all : List (ℕ × ℕ)) (pair : ℕ × ℕ) → shown ++ left ≡ all → left ≡ pair ∷ rest → (shown ++ pair ∷ []) ++ rest ≡ all
left-step shown left rest all pair whole is = append_assoc shown (pair ∷ []) rest ∙ ap (λ l. shown ++ l) (sym is) ∙ whole

-- what is written with one more pair's line
pub written-step : (old between new : Option (List ℕ)) (shown : List (ℕ × ℕ)) (pair : ℕ × ℕ) → between ≡ gained old (flat_map race_line shown) → new ≡ gained between (race_line pair)
    → new ≡ gained old (flat_map race_line (shown ++ pair ∷ []))
written-step old between new shown pair first then =
    then ∙ ap (λ w. gained w (race_line pair)) first ∙ gained-gained old (flat_map race_line shown) (race_line pair)
    ∙ ap (gained old) (ap (λ l. flat_map race_line shown ++ l) (sym (append-nil (race_line pair))) ∙ sym (flat_map-append race_line shown (pair ∷ [])))

-- where no pair is left, the lines are those of all, and the count makes them the report
pub GainsPrefix-count : (old between new : Option (List ℕ)) (shown left all : List (ℕ × ℕ)) (count : ℕ) → shown ++ left ≡ all → left ≡ [] → count ≡ length all
    → between ≡ gained old (flat_map race_line shown) → GainsPrefix between new (count_line count) → GainsPrefix old new (report_text all)
GainsPrefix-count old between new shown left all count whole none counts first prefix =
    let same : shown ≡ all = sym (append-nil shown) ∙ ap (λ l. shown ++ l) (sym none) ∙ whole in
    let P : List ℕ → Type 0 = GainsPrefix old new in
    subst P (ap (λ l. flat_map race_line l ++ count_line count) same ∙ ap (λ n. flat_map race_line all ++ count_line n) counts)
    (GainsPrefix-after old between new (flat_map race_line shown) (count_line count) first prefix)
