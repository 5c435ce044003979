-- The code of statements weighs what the statements do, and no region that breaks no rule weighs too much.
use Rattle.std.proofs.Common.{◌≡◌, refl, sym, ap, subst, ℕ, zero, suc, ◌+◌, ◌*◌, ◌≤◌, Bool, true, false, not, Option, Some, None, ℤ, pos, negsuc, neg_ℤ, ◌-ℤ◌, FitsSigned, w64, arith}
use Rattle.std.specs.Prelude.{option_map}
use Rattle.std.proofs.lemmas.Bool.{ltb-false}
use Rattle.std.proofs.lemmas.Int.{fits_signed_from_abs}
use Rattle.kernel_syntax.specs.Tree.{Neg}
use Rattle.kernel_syntax.proofs.Wrapping.{wrapped-fits}
use Rattle.kernel_text.specs.Grammar.{Tree, NumberAt, NameAt, TidAt, SpanAt, Element, Group, Minus, Binary, Stmts, NoMore, Let, Assign, Store, Update, If, IfElse, Loop, Parallel, For, Barrier, Critical, CriticalOf}
use Rattle.kernel_reader.specs.Scope.{Names, Place, with_local, slots, past, count_literal}
use Rattle.kernel_reader.specs.Rules.{plain_value, fixed_value, is_fixed, holds_work, loop_weight, weight, in_branch, in_region, in_work, in_critical, mutex_of}
use Rattle.kernel_reader.specs.Resolve.{sites, stmts_sites, term, code}
use Rattle.kernel_model.specs.Iterations.{count_of}
use Rattle.kernel_model.specs.Lawful.{fixed_bound, unrolled_bounds, unrolled_weight, code_weight, max_weight, IsLight}
use Rattle.kernel_laws.proofs.Kept.{AreKept}
use Rattle.kernel_laws.proofs.Working.{work-same}
use Rattle.kernel_laws.proofs.Numbers.{IsSmall, IsSmallTree, HaveSmallBounds}

-- the negative of a small number needs no wrapping
small-fits : (z : ℤ) → IsSmall z → FitsSigned w64 (neg_ℤ z)
small-fits (pos zero) small = fits_signed_from_abs w64 (pos 0) (omega arith)
small-fits (pos (suc n)) small = fits_signed_from_abs w64 (negsuc n) (omega arith)
small-fits (negsuc n) small = absurd small

-- a sign before a number, in brackets or not
signed-value : (n : Names) (site : ℕ) (t : Tree) → IsSmallTree t → option_map neg_ℤ (plain_value t) ≡ fixed_bound (Neg (term n site t))
signed-value n site (NumberAt line value) small = ap (λ (z : ℤ). Some z) (sym (wrapped-fits (neg_ℤ value) (small-fits value small)))
signed-value n site (NameAt line name) small = refl
signed-value n site (TidAt line) small = refl
signed-value n site (SpanAt line) small = refl
signed-value n site (Element line name opened index closed) small = refl
signed-value n site (Group opened inside closed) small = signed-value n site inside small
signed-value n site (Minus line operand) small = refl
signed-value n site (Binary left op line right) small = refl

-- the value that the text fixes
value-same : (n : Names) (site : ℕ) (t : Tree) → IsSmallTree t → fixed_value t ≡ fixed_bound (term n site t)
value-same n site (NumberAt line value) small = refl
value-same n site (NameAt line name) small = refl
value-same n site (TidAt line) small = refl
value-same n site (SpanAt line) small = refl
value-same n site (Element line name opened index closed) small = refl
value-same n site (Group opened inside closed) small = value-same n site inside small
value-same n site (Minus line operand) small = signed-value n site operand small
value-same n site (Binary left op line right) small = refl

count-same : (z : ℤ) → count_of z ≡ count_literal z
count-same (pos n) = refl
count-same (negsuc n) = refl

-- a loop by its bounds, its work and the weight of its body
loop-same : (from to : Option ℤ) (work : Bool) (body : ℕ) → unrolled_weight (unrolled_bounds from to work) body ≡ loop_weight from to work body
loop-same (Some a) (Some b) true body = ap (λ (n : ℕ). n * (body + 1)) (count-same (b -ℤ a))
loop-same (Some a) (Some b) false body = refl
loop-same (Some a) None work body = refl
loop-same None to work body = refl

loop-weighs : (from to a b : Option ℤ) (work holds : Bool) (body n rest m : ℕ) → a ≡ from → b ≡ to → work ≡ holds → body ≡ n → rest ≡ m
    → unrolled_weight (unrolled_bounds from to work) body + rest ≡ loop_weight a b holds n + m
loop-weighs from to a b work holds body n rest m first last works weighs later = let same = loop-same from to work body in cc

one-more : {m n : ℕ} → m ≡ n → 1 + m ≡ 1 + n
one-more e = ap (λ (k : ℕ). 1 + k) e

-- the code weighs what the statements do
pub weight-same : (s : Stmts) (p : Place) (site : ℕ) → HaveSmallBounds s → code_weight (code p site s) ≡ weight s
weight-same NoMore p site small = refl
weight-same (Let line name_line name sign_line value rest) p site small = one-more (weight-same rest _ _ small)
weight-same (Assign line name sign_line value rest) p site small = one-more (weight-same rest _ _ small)
weight-same (Store line name opened index closed sign_line value rest) p site small = one-more (weight-same rest _ _ small)
weight-same (Update line name_line name opened index closed minus sign_line value rest) p site small = one-more (weight-same rest _ _ small)
weight-same (If line test opened if_true closed rest) p site small = one-more (weight-same rest _ _ small.1)
weight-same (IfElse line test opened if_true closed else_line else_opened if_false else_closed rest) p site small = one-more (weight-same rest _ _ small.2)
weight-same (Loop line name_line name in_line from dots to opened body closed rest) p site small =
    let inside = site + sites from + sites to in
    let first = value-same p.names site from small.0 in
    let last = value-same p.names (site + sites from) to small.1 in
    let works = work-same body (with_local p name false) inside in
    let weighs = weight-same body (with_local p name false) inside small.2 in
    loop-weighs _ _ (fixed_value from) (fixed_value to) _ (holds_work body) _ (weight body) _ (weight rest) first last works weighs
    (weight-same rest (past p (1 + slots body)) (inside + stmts_sites body) small.3)
weight-same (Parallel line number_line span opened body closed rest) p site small = one-more (weight-same rest _ _ small.1)
weight-same (For line name_line name in_line from dots to schedule nowait opened body closed rest) p site small = one-more (weight-same rest _ _ small.1)
weight-same (Barrier line rest) p site small = one-more (weight-same rest _ _ small)
weight-same (Critical line opened body closed rest) p site small = one-more (weight-same rest _ _ small.1)
weight-same (CriticalOf line name_line name opened body closed rest) p site small = one-more (weight-same rest _ _ small.1)

-- statements at one place that break no rule at another
pub light-code : (s : Stmts) (p q : Place) (site : ℕ) → HaveSmallBounds s → AreKept q s → IsLight (code p site s)
light-code NoMore p q site small kept = tt
light-code (Let line name_line name sign_line value rest) p q site small kept = light-code rest _ (with_local q name true) _ small kept.2
light-code (Assign line name sign_line value rest) p q site small kept = light-code rest _ q _ small kept.2
light-code (Store line name opened index closed sign_line value rest) p q site small kept = light-code rest _ q _ small kept.3
light-code (Update line name_line name opened index closed minus sign_line value rest) p q site small kept = light-code rest _ q _ small kept.3
light-code (If line test opened if_true closed rest) p q site small kept =
    (light-code if_true p (in_branch q true) _ small.0 kept.1, tt, light-code rest _ (past q (slots if_true)) _ small.1 kept.2)
light-code (IfElse line test opened if_true closed else_line else_opened if_false else_closed rest) p q site small kept = (
  light-code if_true p (in_branch q true) _ small.0 kept.1,
  light-code if_false (past p (slots if_true)) (in_branch (past q (slots if_true)) true) _ small.1 kept.2,
  light-code rest _ (past q (slots if_true + slots if_false)) _ small.2 kept.3,
)
light-code (Loop line name_line name in_line from dots to opened body closed rest) p q site small kept = (
  light-code body (with_local p name false) (in_branch (with_local q name false) (not (is_fixed from to))) _ small.2 kept.3,
  light-code rest _ (past q (1 + slots body)) _ small.3 kept.4,
)
light-code (Parallel line number_line span opened body closed rest) p q site small kept = (
  subst (λ (n : ℕ). n ≤ max_weight) (sym (weight-same body p site small.0)) (ltb-false 65536 (weight body) kept.2),
  light-code body p (in_region q (count_literal span)) site small.0 kept.1,
  light-code rest _ (past q (slots body)) _ small.1 kept.3,
)
light-code (For line name_line name in_line from dots to schedule nowait opened body closed rest) p q site small kept = (
  light-code body (with_local p name false) (in_work (with_local q name false)) _ small.0 kept.5,
  light-code rest _ (past q (1 + slots body)) _ small.1 kept.6,
)
light-code (Barrier line rest) p q site small kept = light-code rest p q site small kept.2
light-code (Critical line opened body closed rest) p q site small kept =
    (light-code body p (in_critical q 0) site small.0 kept.1, light-code rest _ (past q (slots body)) _ small.1 kept.2)
light-code (CriticalOf line name_line name opened body closed rest) p q site small kept =
    (light-code body p (in_critical q (mutex_of q name)) site small.0 kept.2, light-code rest _ (past q (slots body)) _ small.1 kept.3)
