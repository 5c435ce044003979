-- Logs of two folders have two names: no name within a folder has a slash.
use Rattle.std.proofs.Common.{◌≡◌, ◌≢◌, ℕ, ◌<◌, ◌^◌, List, [], ◌∷◌, ◌++◌, refl, sym, subst, ◌∙◌, append_assoc, arith, lit<}
use Rattle.std.specs.Prelude.{All, codes}
use Rattle.std.specs.Fmt.{decimal}
use Rattle.std.specs.List.{flat_map}
use Rattle.std.proofs.lemmas.Fmt.{decimal_by_steps}
use Rattle.std.proofs.lemmas.List.Elements.{All-head, All-tail}
use Rattle.sw_base.specs.declared.path.Step.{Step}
use Rattle.sw_base.specs.Names.{bare_log_name, log_name, step_text}
use Rattle.sw_base.proofs.NameLaws.{HasPlace}

-- no byte is a slash
abbrev NoSlash : List ℕ → Type 0
NoSlash [] = Unit {0}
NoSlash (b ∷ bs) = (b ≢ 47) × NoSlash bs

no_slash-append : (bs cs : List ℕ) → NoSlash bs → NoSlash cs → NoSlash (bs ++ cs)
no_slash-append [] cs left right = right
no_slash-append (b ∷ bs) cs left right = (left.0, no_slash-append bs cs left.1 right)

lower : (b : ℕ) → b < 47 → b ≢ 47
lower b less same = absurd (omega (arith, less, same))

higher : (b : ℕ) → 47 < b → b ≢ 47
higher b more same = absurd (omega (arith, more, same))

of_decimal : (n : ℕ) → n < 2 ^ 64 → NoSlash (decimal n)
of_decimal = decimal_by_steps (λ _ ds. NoSlash ds) (λ n small. (higher _ (omega arith), tt)) (λ n ds more none. no_slash-append ds _ none (higher _ (omega arith), tt))

of_step : (step : Step) → HasPlace step → NoSlash (step_text step)
of_step step fits = (
  lower 45 (lit< tt),
  no_slash-append (decimal step.region ++ codes ".") (decimal step.lane) (no_slash-append (decimal step.region) (codes ".") (of_decimal step.region fits.0) (lower 46 (lit< tt), tt)) (of_decimal step.lane fits.1),
)

of_steps : (path : List Step) → All HasPlace path → NoSlash (flat_map step_text path)
of_steps [] fits = tt
of_steps (step ∷ path) fits = no_slash-append (step_text step) (flat_map step_text path) (of_step step (All-head HasPlace step path fits)) (of_steps path (All-tail HasPlace step path fits))

of_name : (path : List Step) → All HasPlace path → NoSlash (bare_log_name path)
unfolding bare_log_name
of_name path fits = (
  higher 116 (lit< tt),
  no_slash-append (flat_map step_text path) (codes ".swl") (of_steps path fits) (lower 46 (lit< tt), (higher 115 (lit< tt), (higher 119 (lit< tt), (higher 108 (lit< tt), tt)))),
)

some_slash : (bs cs : List ℕ) → NoSlash (bs ++ 47 ∷ cs) → ⊥
some_slash [] cs none = none.0 refl
some_slash (b ∷ bs) cs none = some_slash bs cs none.1

-- what stands before the last slash
before_slash : (cs bs xs ys : List ℕ) → NoSlash xs → NoSlash ys → cs ++ 47 ∷ xs ≡ bs ++ 47 ∷ ys → cs ≡ bs
before_slash [] [] xs ys one other same = refl
before_slash [] (b ∷ bs) xs ys one other same = let tail : xs ≡ bs ++ 47 ∷ ys = cc in absurd (some_slash bs ys (subst NoSlash tail one))
before_slash (a ∷ cs) [] xs ys one other same = let tail : ys ≡ cs ++ 47 ∷ xs = cc in absurd (some_slash cs xs (subst NoSlash tail other))
before_slash (a ∷ cs) (b ∷ bs) xs ys one other same =
    let head : a ≡ b = cc in
    let tail : cs ++ 47 ∷ xs ≡ bs ++ 47 ∷ ys = cc in
    let rest : cs ≡ bs = before_slash cs bs xs ys one other tail in
    cc

pub log_name-dir : (dir new : List ℕ) (p q : List Step) → All HasPlace p → All HasPlace q → log_name dir p ≡ log_name new q → dir ≡ new
unfolding log_name
log_name-dir dir new p q fits others same =
    before_slash dir new (bare_log_name p) (bare_log_name q) (of_name p fits) (of_name q others)
    (sym (append_assoc dir (codes "/") (bare_log_name p)) ∙ same ∙ append_assoc new (codes "/") (bare_log_name q))
