-- Where work stands: in the code where it stands in the text, and in no statements whose lanes don't all meet it.
use Rattle.std.proofs.Common.{◌≡◌, refl, ap, ap₂, ◌∙◌, ℕ, ◌+◌, Bool, true, false, not, ◌||◌, eqb}
use Rattle.kernel_text.specs.Grammar.{Stmts, NoMore, Let, Assign, Store, Update, If, IfElse, Loop, Parallel, For, Barrier, Critical, CriticalOf}
use Rattle.kernel_reader.specs.Scope.{Place, with_local, slots, past}
use Rattle.kernel_reader.specs.Rules.{is_fixed, holds_work, is_misplaced, in_branch, in_critical, mutex_of}
use Rattle.kernel_reader.specs.Resolve.{sites, code}
use Rattle.kernel_model.specs.Lawful.{code_holds_work}
use Rattle.kernel_laws.proofs.Kept.{AreKept}

either : (a b c d : Bool) → a ≡ b → c ≡ d → (a || c) ≡ (b || d)
either a b c d one other = ap₂ (λ (x y : Bool). x || y) one other

-- the code holds work where the statements do
pub work-same : (s : Stmts) (p : Place) (site : ℕ) → code_holds_work (code p site s) ≡ holds_work s
work-same NoMore p site = refl
work-same (Let line name_line name sign_line value rest) p site = work-same rest _ _
work-same (Assign line name sign_line value rest) p site = work-same rest _ _
work-same (Store line name opened index closed sign_line value rest) p site = work-same rest _ _
work-same (Update line name_line name opened index closed minus sign_line value rest) p site = work-same rest _ _
work-same (If line test opened if_true closed rest) p site = either _ _ _ _ (work-same if_true p (site + sites test)) (work-same rest _ _)
work-same (IfElse line test opened if_true closed else_line else_opened if_false else_closed rest) p site =
    either _ _ _ _ (work-same if_true p (site + sites test)) (either _ _ _ _ (work-same if_false _ _) (work-same rest _ _))
work-same (Loop line name_line name in_line from dots to opened body closed rest) p site = either _ _ _ _ (work-same body _ _) (work-same rest _ _)
work-same (Parallel line number_line span opened body closed rest) p site = work-same rest _ _
work-same (For line name_line name in_line from dots to schedule nowait opened body closed rest) p site = refl
work-same (Barrier line rest) p site = refl
work-same (Critical line opened body closed rest) p site = either _ _ _ _ (work-same body p site) (work-same rest _ _)
work-same (CriticalOf line name_line name opened body closed rest) p site = either _ _ _ _ (work-same body p site) (work-same rest _ _)

-- outside any region, or where not all lanes of one come alike
abbrev pub is_barred : Place → Bool
is_barred p = is_misplaced p || p.uneven

neither : (a b : Bool) → a ≡ false → b ≡ false → (a || b) ≡ false
neither a b one other = either a false b false one other

stays : (a b c : Bool) → (a || b) ≡ true → (a || (b || c)) ≡ true
stays true b c e = refl
stays false true c e = refl
stays false false c e = absurd cc

barred-branch : (p : Place) (uneven : Bool) → is_barred p ≡ true → is_barred (in_branch p uneven) ≡ true
barred-branch p uneven e = stays (is_misplaced p) p.uneven uneven e

divided-barred : (a b : Bool) → ((a || true) || b) ≡ true
divided-barred true b = refl
divided-barred false b = refl

uneven-barred : (a b : Bool) → (a || (b || true)) ≡ true
uneven-barred true b = refl
uneven-barred false true = refl
uneven-barred false false = refl

-- inside an `if`, or a loop that isn't fixed
pub branch-barred : (p : Place) → is_barred (in_branch p true) ≡ true
branch-barred p = uneven-barred (is_misplaced p) p.uneven

-- inside a worksharing loop or a critical section
pub section-barred : (p : Place) → p.divided ≡ true → is_barred p ≡ true
section-barred p e = ap (λ (b : Bool). (eqb p.regions 0 || b) || p.uneven) e ∙ divided-barred (eqb p.regions 0) p.uneven

-- work that is not barred
not-barred : (a b : Bool) → (a || b) ≡ true → a ≡ false → b ≡ false → ⊥
not-barred true b barred placed even = absurd cc
not-barred false true barred placed even = absurd cc
not-barred false false barred placed even = absurd cc

-- there no work breaks no rule
pub no-work : (q : Place) (s : Stmts) → is_barred q ≡ true → AreKept q s → holds_work s ≡ false
no-work q NoMore barred kept = refl
no-work q (Let line name_line name sign_line value rest) barred kept = no-work (with_local q name true) rest barred kept.2
no-work q (Assign line name sign_line value rest) barred kept = no-work q rest barred kept.2
no-work q (Store line name opened index closed sign_line value rest) barred kept = no-work q rest barred kept.3
no-work q (Update line name_line name opened index closed minus sign_line value rest) barred kept = no-work q rest barred kept.3
no-work q (If line test opened if_true closed rest) barred kept =
    neither (holds_work if_true) (holds_work rest) (no-work (in_branch q true) if_true (branch-barred q) kept.1) (no-work (past q (slots if_true)) rest barred kept.2)
no-work q (IfElse line test opened if_true closed else_line else_opened if_false else_closed rest) barred kept =
    neither (holds_work if_true) (holds_work if_false || holds_work rest) (no-work (in_branch q true) if_true (branch-barred q) kept.1)
    (neither (holds_work if_false) (holds_work rest)
    (no-work (in_branch (past q (slots if_true)) true) if_false (branch-barred (past q (slots if_true))) kept.2)
    (no-work (past q (slots if_true + slots if_false)) rest barred kept.3))
no-work q (Loop line name_line name in_line from dots to opened body closed rest) barred kept =
    let inside = with_local q name false in
    neither (holds_work body) (holds_work rest)
    (no-work (in_branch inside (not (is_fixed from to))) body (barred-branch inside (not (is_fixed from to)) barred) kept.3)
    (no-work (past q (1 + slots body)) rest barred kept.4)
no-work q (Parallel line number_line span opened body closed rest) barred kept = no-work (past q (slots body)) rest barred kept.3
no-work q (For line name_line name in_line from dots to schedule nowait opened body closed rest) barred kept =
    absurd (not-barred (is_misplaced q) q.uneven barred kept.0 kept.1)
no-work q (Barrier line rest) barred kept = absurd (not-barred (is_misplaced q) q.uneven barred kept.0 kept.1)
no-work q (Critical line opened body closed rest) barred kept =
    neither (holds_work body) (holds_work rest) (no-work (in_critical q 0) body (section-barred (in_critical q 0) refl) kept.1)
    (no-work (past q (slots body)) rest barred kept.2)
no-work q (CriticalOf line name_line name opened body closed rest) barred kept =
    let inside = in_critical q (mutex_of q name) in
    neither (holds_work body) (holds_work rest) (no-work inside body (section-barred inside refl) kept.2) (no-work (past q (slots body)) rest barred kept.3)
