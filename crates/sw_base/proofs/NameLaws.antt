-- Names of logs tell tasks apart, up to the numbers of lanes, and no log has the index's name.
use Rattle.std.proofs.Common.{◌≡◌, ◌≢◌, ℕ, ◌<◌, ◌≤◌, ◌^◌, suc, List, [], ◌∷◌, ◌++◌, map, refl, sym, ◌∙◌, append_assoc, arith, lit<}
use Rattle.std.proofs.lemmas.Fmt.{decimal_by_steps, decimal_injective}
use Rattle.std.proofs.lemmas.List.{append_cancel_left}
use Rattle.std.specs.Fmt.{decimal}
use Rattle.std.specs.List.{flat_map}
use Rattle.std.specs.Prelude.{All, codes}
use Rattle.sw_base.specs.Names.{bare_log_name, index_name, log_name, step_text}
use Rattle.sw_base.specs.declared.path.Step.{Step}

-- the bytes of digits: none is below that of `0`
abbrev AllHigh : List ℕ → Type 0
AllHigh [] = Unit {0}
AllHigh (b ∷ bs) = (48 ≤ b) × AllHigh bs

high-append : (bs cs : List ℕ) → AllHigh bs → AllHigh cs → AllHigh (bs ++ cs)
high-append [] cs left right = right
high-append (b ∷ bs) cs left right = (left.0, high-append bs cs left.1 right)

decimal_high : (n : ℕ) → n < 2 ^ 64 → AllHigh (decimal n)
decimal_high = decimal_by_steps (λ _ ds. AllHigh ds) (λ n small. (omega arith, tt)) (λ n ds more high. high-append ds _ high (omega arith, tt))

-- two numbers that are each followed by another mark begin two equal texts: they are equal, and so is what follows
split : (ds es : List ℕ) (c d : ℕ) (xs ys : List ℕ) → AllHigh ds → AllHigh es → c < 48 → d < 48 → ds ++ c ∷ xs ≡ es ++ d ∷ ys → (ds ≡ es) × (c ∷ xs ≡ d ∷ ys)
split [] [] c d xs ys left right low mark same = (refl, same)
split [] (b ∷ es) c d xs ys left right low mark same = let head : c ≡ b = cc in absurd (omega arith)
split (a ∷ ds) [] c d xs ys left right low mark same = let head : a ≡ d = cc in absurd (omega arith)
split (a ∷ ds) (b ∷ es) c d xs ys left right low mark same =
    let head : a ≡ b = cc in
    let tail : ds ++ c ∷ xs ≡ es ++ d ∷ ys = cc in
    let rest = split ds es c d xs ys left.1 right.1 low mark tail in
    (let prefix : ds ≡ es = rest.0 in cc, rest.1)

-- where a step lies: its region and its lane
abbrev pub place : Step → ℕ × ℕ
place step = (step.region, step.lane)

-- a step's numbers fit 64 bits
abbrev pub HasPlace : Step → Type 0
HasPlace step = (step.region < 2 ^ 64) × (step.lane < 2 ^ 64)

-- what follows the first letter of a name
abbrev ending : List Step → List ℕ
ending path = flat_map step_text path ++ codes ".swl"

-- it begins with a mark that is no digit
begins : (path : List Step) → (c : ℕ) × (xs : List ℕ) × (c < 48) × (ending path ≡ c ∷ xs)
begins [] = (46, codes "swl", lit< tt, refl)
begins (step ∷ path) = (45, _, lit< tt, refl)

-- a step's numbers, each with the mark before it
spread : (step : Step) (path : List Step) → ending (step ∷ path) ≡ 45 ∷ (decimal step.region ++ 46 ∷ (decimal step.lane ++ ending path))
spread step path = simp append_assoc

-- the steps of paths whose names end alike lie at the same places
places : (p q : List Step) → All HasPlace p → All HasPlace q → ending p ≡ ending q → map place p ≡ map place q
places [] [] fits others same = refl
places [] (b ∷ q) fits others same = let marks : ◌≡◌ {A = ℕ} 46 45 = cc in absurd (omega arith)
places (a ∷ p) [] fits others same = let marks : ◌≡◌ {A = ℕ} 45 46 = cc in absurd (omega arith)
places (a ∷ p) (b ∷ q) fits others same =
    let here : HasPlace a = fits 0 a (omega arith) in
    let there : HasPlace b = others 0 b (omega arith) in
    let whole = sym (spread a p) ∙ same ∙ spread b q in
    let inner : decimal a.region ++ 46 ∷ (decimal a.lane ++ ending p) ≡ decimal b.region ++ 46 ∷ (decimal b.lane ++ ending q) = cc in
    let first = split (decimal a.region) (decimal b.region) 46 46 _ _ (decimal_high a.region here.0) (decimal_high b.region there.0) (lit< tt) (lit< tt) inner in
    let second : 46 ∷ (decimal a.lane ++ ending p) ≡ 46 ∷ (decimal b.lane ++ ending q) = first.1 in
    let after : decimal a.lane ++ ending p ≡ decimal b.lane ++ ending q = cc in
    let left = begins p in
    let right = begins q in
    let last = split (decimal a.lane) (decimal b.lane) left.0 right.0 left.1 right.1 (decimal_high a.lane here.1) (decimal_high b.lane there.1) left.2 right.2 (rw (left.3, right.3) at after) in
    let region : a.region ≡ b.region = decimal_injective a.region b.region here.0 there.0 first.0 in
    let lane : a.lane ≡ b.lane = decimal_injective a.lane b.lane here.1 there.1 last.0 in
    let rest : map place p ≡ map place q = places p q (λ k d h. fits (suc k) d (omega arith)) (λ k d h. others (suc k) d (omega arith)) (left.3 ∙ last.1 ∙ sym right.3) in
    cc

-- logs of one name are of tasks at the same place
pub log_name-places : (dir : List ℕ) (p q : List Step) → All HasPlace p → All HasPlace q → log_name dir p ≡ log_name dir q → map place p ≡ map place q
unfolding log_name bare_log_name
log_name-places dir p q fits others same =
    let bare : 116 ∷ ending p ≡ 116 ∷ ending q = append_cancel_left (dir ++ codes "/") (116 ∷ ending p) (116 ∷ ending q) same in
    let end : ending p ≡ ending q = cc in
    places p q fits others end

-- no log has the index's name
pub log_name-not_index : (dir : List ℕ) (path : List Step) → log_name dir path ≢ index_name dir
unfolding log_name bare_log_name index_name
log_name-not_index dir path same =
    let bare : 47 ∷ 116 ∷ ending path ≡ codes "/index.swi" = append_cancel_left dir (47 ∷ 116 ∷ ending path) (codes "/index.swi") (rw (← append_assoc dir (codes "/") (116 ∷ ending path)) same) in
    let second : ◌≡◌ {A = ℕ} 116 105 = cc in
    absurd (omega arith)
