-- In the code of statements that break no rule, every lane meets each worksharing loop and barrier of its team.
use Rattle.std.proofs.Common.{◌≡◌, refl, ap₂, ◌∙◌, sym, ℕ, ◌+◌, Bool, true, false, not, ◌&&◌, true≢false}
use Rattle.std.specs.Prelude.{is_some, option_map, neg_ℤ}
use Rattle.kernel_text.specs.Grammar.{Tree, NumberAt, NameAt, TidAt, SpanAt, Element, Group, Minus, Binary, Stmts, NoMore, Let, Assign, Store, Update, If, IfElse, Loop, Parallel, For, Barrier, Critical, CriticalOf}
use Rattle.kernel_reader.specs.Scope.{Names, Place, with_local, slots, past, count_literal}
use Rattle.kernel_reader.specs.Rules.{plain_value, fixed_value, is_fixed, holds_work, in_branch, in_region, in_work, in_critical, mutex_of}
use Rattle.kernel_reader.specs.Resolve.{sites, term, code}
use Rattle.kernel_syntax.specs.Tree.{Neg}
use Rattle.kernel_model.specs.Lawful.{fixed_bound, has_fixed_bounds, code_holds_work, IsEven}
use Rattle.kernel_laws.proofs.Kept.{AreKept}
use Rattle.kernel_laws.proofs.Working.{work-same, is_barred, branch-barred, section-barred, no-work}

-- a sign before a number, in brackets or not
signed-same : (n : Names) (site : ℕ) (t : Tree) → is_some (option_map neg_ℤ (plain_value t)) ≡ is_some (fixed_bound (Neg (term n site t)))
signed-same n site (NumberAt line value) = refl
signed-same n site (NameAt line name) = refl
signed-same n site (TidAt line) = refl
signed-same n site (SpanAt line) = refl
signed-same n site (Element line name opened index closed) = refl
signed-same n site (Group opened inside closed) = signed-same n site inside
signed-same n site (Minus line operand) = refl
signed-same n site (Binary left op line right) = refl

-- the text fixes the values of the same bounds
fixed-same : (n : Names) (site : ℕ) (t : Tree) → is_some (fixed_value t) ≡ is_some (fixed_bound (term n site t))
fixed-same n site (NumberAt line value) = refl
fixed-same n site (NameAt line name) = refl
fixed-same n site (TidAt line) = refl
fixed-same n site (SpanAt line) = refl
fixed-same n site (Element line name opened index closed) = refl
fixed-same n site (Group opened inside closed) = fixed-same n site inside
fixed-same n site (Minus line operand) = signed-same n site operand
fixed-same n site (Binary left op line right) = refl

pub bounds-same : (n : Names) (one other : ℕ) (from to : Tree) → is_fixed from to ≡ has_fixed_bounds (term n one from) (term n other to)
bounds-same n one other from to = ap₂ (λ (x y : Bool). x && y) (fixed-same n one from) (fixed-same n other to)

-- where the statements of a loop hold work, its bounds are fixed
fixed-where : (fixed : Bool) (q : Place) (s : Stmts) → AreKept (in_branch q (not fixed)) s → holds_work s ≡ true → fixed ≡ true
fixed-where true q s kept work = refl
fixed-where false q s kept work = absurd (true≢false (sym work ∙ no-work (in_branch q true) s (branch-barred q) kept))

-- the code holds no work
pub free : (p q : Place) (site : ℕ) (s : Stmts) → is_barred q ≡ true → AreKept q s → code_holds_work (code p site s) ≡ false
free p q site s barred kept = work-same s p site ∙ no-work q s barred kept

-- statements at one place that break no rule at another
pub even-code : (s : Stmts) (p q : Place) (site : ℕ) → AreKept q s → IsEven (code p site s)
even-code NoMore p q site kept = tt
even-code (Let line name_line name sign_line value rest) p q site kept = even-code rest _ (with_local q name true) _ kept.2
even-code (Assign line name sign_line value rest) p q site kept = even-code rest _ q _ kept.2
even-code (Store line name opened index closed sign_line value rest) p q site kept = even-code rest _ q _ kept.3
even-code (Update line name_line name opened index closed minus sign_line value rest) p q site kept = even-code rest _ q _ kept.3
even-code (If line test opened if_true closed rest) p q site kept = (
  free p (in_branch q true) _ if_true (branch-barred q) kept.1,
  refl,
  even-code if_true p (in_branch q true) _ kept.1,
  tt,
  even-code rest _ (past q (slots if_true)) _ kept.2,
)
even-code (IfElse line test opened if_true closed else_line else_opened if_false else_closed rest) p q site kept =
    let other = past q (slots if_true) in (
      free p (in_branch q true) _ if_true (branch-barred q) kept.1,
      free (past p (slots if_true)) (in_branch other true) _ if_false (branch-barred other) kept.2,
      even-code if_true p (in_branch q true) _ kept.1,
      even-code if_false (past p (slots if_true)) (in_branch other true) _ kept.2,
      even-code rest _ (past q (slots if_true + slots if_false)) _ kept.3,
    )
even-code (Loop line name_line name in_line from dots to opened body closed rest) p q site kept =
    let inside = with_local q name false in (
      λ work. sym (bounds-same p.names site (site + sites from) from to)
          ∙ fixed-where (is_fixed from to) inside body kept.3 (sym (work-same body (with_local p name false) (site + sites from + sites to)) ∙ work),
      even-code body _ (in_branch inside (not (is_fixed from to))) _ kept.3,
      even-code rest _ (past q (1 + slots body)) _ kept.4,
    )
even-code (Parallel line number_line span opened body closed rest) p q site kept =
    (even-code body p (in_region q (count_literal span)) site kept.1, even-code rest _ (past q (slots body)) _ kept.3)
even-code (For line name_line name in_line from dots to schedule nowait opened body closed rest) p q site kept =
    let inside = in_work (with_local q name false) in (
      free (with_local p name false) inside _ body (section-barred inside refl) kept.5,
      even-code body (with_local p name false) inside _ kept.5,
      even-code rest _ (past q (1 + slots body)) _ kept.6,
    )
even-code (Barrier line rest) p q site kept = even-code rest p q site kept.2
even-code (Critical line opened body closed rest) p q site kept =
    let inside = in_critical q 0 in (
      free p inside site body (section-barred inside refl) kept.1,
      even-code body p inside site kept.1,
      even-code rest _ (past q (slots body)) _ kept.2,
    )
even-code (CriticalOf line name_line name opened body closed rest) p q site kept =
    let inside = in_critical q (mutex_of q name) in (
      free p inside site body (section-barred inside refl) kept.2,
      even-code body p inside site kept.2,
      even-code rest _ (past q (slots body)) _ kept.3,
    )
