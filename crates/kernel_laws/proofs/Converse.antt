-- Statements with good names whose code is lawful break no rule.
use Rattle.std.proofs.Common.{◌≡◌, refl, sym, ap, subst, ◌∙◌, ℕ, ◌+◌, ◌*◌, ◌<◌, ◌≤◌, Bool, true, false, not, ◌||◌, cond, leb, ltb, eqb, List, [], ◌∷◌, ◌++◌, length, Option, Some, None, All, ℤ, pos, negsuc, arith, length-append, true≢false}
use Rattle.std.specs.Prelude.{◌&&◌, is_some, IsTrue, IsSome}
use Rattle.std.proofs.lemmas.Bool.Decides.{nat_tests}
use Rattle.std.proofs.lemmas.List.Elements.{All-head, All-tail}
use Rattle.kernel_syntax.specs.declared.syntax.Op.{Op}
use Rattle.kernel_syntax.specs.declared.syntax.Op.TheVariants.{Add, Sub, Mul, Div, Rem, Eq, Ne, Lt, Le, Gt, Ge}
use Rattle.kernel_syntax.specs.Tree.{Code}
use Rattle.kernel_syntax.specs.Bounds.{IsChunk, IsBoundedSchedule, IsBoundedCode}
use Rattle.kernel_text.specs.declared.fault.KernelWhy.{KernelWhy}
use Rattle.kernel_text.specs.declared.fault.KernelWhy.TheVariants as why
use Rattle.kernel_text.specs.Tokens.{Refusal}
use Rattle.kernel_text.specs.Grammar.{Tree, NumberAt, NameAt, TidAt, SpanAt, Element, Group, Minus, Binary, ScheduleTree, Unsaid, Static, StaticBy, Dynamic, DynamicBy, Stmts, NoMore, Let, Assign, Store, Update, If, IfElse, Loop, Parallel, For, Barrier, Critical, CriticalOf}
use Rattle.kernel_reader.specs.declared.binding.Variable.{Variable}
use Rattle.kernel_reader.specs.Scope.{Names, Place, is_array, is_among, is_between, variable_of, with_local, slots, past, count_literal}
use Rattle.kernel_reader.specs.Rules.{fault_at, fault_if, is_unfit, name_faults, array_faults, tree_faults, assigned_faults, schedule_faults, critical_faults, is_fixed, holds_work, weight, is_misplaced, is_taken, mutex_of, stmts_faults}
use Rattle.kernel_reader.specs.Resolve.{sites, stmts_sites, slot_of, term, schedule_of, code}
use Rattle.kernel_reader.proofs.Broken.{none-of-both}
use Rattle.kernel_model.specs.Lawful as model
use Rattle.kernel_model.specs.Lawful.{variable_at, IsAssigned, IsEvenOp, IsLoopVariable, IsEvenTerm, IsScoped, after_assigning, code_holds_work, has_fixed_bounds, IsEven, IsNested, code_weight, max_weight, IsLight}
use Rattle.kernel_laws.specs.Naming.{IsNamed, AreNamed}
use Rattle.kernel_laws.proofs.Surroundings.{Around, inside_of}
use Rattle.kernel_laws.proofs.Numbers.{HaveSmallBounds}
use Rattle.kernel_laws.proofs.Working.{work-same, is_barred}
use Rattle.kernel_laws.proofs.Evenness.{bounds-same}
use Rattle.kernel_laws.proofs.Weights.{weight-same}
use Rattle.kernel_laws.proofs.Scoping.{scope_of, AreBelow, below-more, none-at, found-at, named_faults, target_faults}

-- a rule that isn't broken
kept-rule : (b : Bool) (line : ℕ) (w : KernelWhy) → b ≡ false → fault_if b line w ≡ []
kept-rule true line w e = absurd cc
kept-rule false line w e = refl

-- ahead of others
pub ahead : (b : Bool) (line : ℕ) (w : KernelWhy) (ys : List Refusal) → b ≡ false → ys ≡ [] → fault_if b line w ++ ys ≡ []
ahead b line w ys e later = none-of-both (fault_if b line w) ys (kept-rule b line w e) later

-- ---- expressions

named-none : (o : Option Variable) (line : ℕ) → IsSome o → named_faults o false line ≡ []
named-none None line some = absurd cc
named-none (Some v) line some = refl

array-none : (b : Bool) (line : ℕ) → IsTrue b → cond b (fault_if false line why.NotUniform) (fault_at line why.Unknown) ≡ []
array-none true line is = refl
array-none false line is = absurd cc

known-none : (t : Tree) (n : Names) → IsNamed n t → tree_faults n false t ≡ []
known-none (NumberAt line value) n named = refl
known-none (NameAt line name) n named = named-none (variable_of name n.scope) line named
known-none (TidAt line) n named = refl
known-none (SpanAt line) n named = refl
known-none (Element line name opened index closed) n named =
    none-of-both (array_faults n false line name) (tree_faults n false index) (array-none (is_array name n.arrays) line named.0) (known-none index n named.1)
known-none (Group opened inside closed) n named = known-none inside n named
known-none (Minus line operand) n named = known-none operand n named
known-none (Binary left op line right) n named =
    none-of-both (tree_faults n false left) (tree_faults n false right) (known-none left n named.0) (known-none right n named.1)

fit-op : (op : Op) → IsEvenOp op → is_unfit op ≡ false
fit-op Add e = refl
fit-op Sub e = refl
fit-op Mul e = refl
fit-op Div e = absurd e
fit-op Rem e = absurd e
fit-op Eq e = absurd e
fit-op Ne e = absurd e
fit-op Lt e = absurd e
fit-op Le e = absurd e
fit-op Gt e = absurd e
fit-op Ge e = absurd e

even-name-none : (total next : ℕ) (n : Names) (line : ℕ) (name : List ℕ) → AreBelow next n.scope → IsSome (variable_of name n.scope)
    → IsLoopVariable (variable_at (scope_of total n) (slot_of n name)) → name_faults n true line name ≡ []
even-name-none total next n line name below some even = by (variable_of name n.scope) refl some
  where
    by : (o : Option Variable) → variable_of name n.scope ≡ o → IsSome o
        → named_faults o true line ≡ []
    by None is some = absurd cc
    by (Some v) is some = kept-rule v.assignable line why.NotUniform (subst IsLoopVariable (found-at total next n name v below is) even)

even-none : (t : Tree) (total next : ℕ) (n : Names) (site : ℕ) → AreBelow next n.scope → IsNamed n t → IsEvenTerm (scope_of total n) (term n site t) → tree_faults n true t ≡ []
even-none (NumberAt line value) total next n site below named even = refl
even-none (NameAt line name) total next n site below named even = even-name-none total next n line name below named even
even-none (TidAt line) total next n site below named even = absurd even
even-none (SpanAt line) total next n site below named even = refl
even-none (Element line name opened index closed) total next n site below named even = absurd even
even-none (Group opened inside closed) total next n site below named even = even-none inside total next n site below named even
even-none (Minus line operand) total next n site below named even = even-none operand total next n site below named even
even-none (Binary left op line right) total next n site below named even =
    none-of-both (tree_faults n true left) (fault_if (true && is_unfit op) line why.NotUniform ++ tree_faults n true right) (even-none left total next n site below named.0 even.0)
    (ahead (is_unfit op) line why.NotUniform (tree_faults n true right) (fit-op op even.1) (even-none right total next n (site + sites left) below named.1 even.2))

true-not : (b : Bool) → IsTrue b → not b ≡ false
true-not true is = refl
true-not false is = absurd cc

-- a variable that is assigned to
assigned-none : (total next : ℕ) (q : Place) (line : ℕ) (name : List ℕ) → AreBelow next q.names.scope → IsSome (variable_of name q.names.scope)
    → IsAssigned (scope_of total q.names) (slot_of q.names name) (variable_at (scope_of total q.names) (slot_of q.names name)) → assigned_faults q line name ≡ []
assigned-none total next q line name below some is = by (variable_of name q.names.scope) refl some
  where
    by : (o : Option Variable) → variable_of name q.names.scope ≡ o → IsSome o
        → target_faults o line ≡ []
    by None at some = absurd cc
    by (Some v) at some =
        let there : IsTrue v.assignable = subst (IsAssigned (scope_of total q.names) (slot_of q.names name)) (found-at total next q.names name v below at) is in
        kept-rule (not v.assignable) line why.Unknown (true-not v.assignable there)

-- the scope behind the first statement that gives a variable its value
same-scope : (total next : ℕ) (n : Names) (name : List ℕ) (c : model.Scope → Type 0) → AreBelow next n.scope → IsSome (variable_of name n.scope)
    → c (after_assigning (scope_of total n) (slot_of n name) (variable_at (scope_of total n) (slot_of n name))) → c (scope_of total n)
same-scope total next n name c below some is = by (variable_of name n.scope) refl some
  where
    by : (o : Option Variable) → variable_of name n.scope ≡ o → IsSome o → c (scope_of total n)
    by None at some = absurd cc
    by (Some v) at some = subst (λ (o : Option model.Variable). c (after_assigning (scope_of total n) (slot_of n name) o)) (found-at total next n name v below at) is

-- ---- numbers that are counted

pub between-is : (most : ℕ) (z : ℤ) → 1 ≤ count_literal z → count_literal z ≤ most → not (is_between 1 most z) ≡ false
between-is most (pos n) some few = grind (arith, nat_tests)
between-is most (negsuc n) some few = absurd (omega (arith, some))

chunk-none : (line : ℕ) (z : ℤ) → IsChunk (count_literal z) → fault_if (not (is_between 1 1048576 z)) line why.Count ≡ []
chunk-none line z c = kept-rule (not (is_between 1 1048576 z)) line why.Count (between-is 1048576 z c.some c.limit)

schedule-none : (s : ScheduleTree) → IsBoundedSchedule (schedule_of s) → schedule_faults s ≡ []
schedule-none Unsaid b = refl
schedule-none (Static line) b = refl
schedule-none (StaticBy line number_line chunk) b = chunk-none number_line chunk b
schedule-none (Dynamic line) b = refl
schedule-none (DynamicBy line number_line chunk) b = chunk-none number_line chunk b

-- ---- what is around

-- the innermost mutex is locked last
abbrev pub IsLast : Option ℕ → List ℕ → Type 0
IsLast None held = held ≡ []
IsLast (Some mutex) held = (outer : List ℕ) × (held ≡ outer ++ mutex ∷ [])

pub record IsHeld (critical : Option ℕ) (criticals : ℕ) (held : List ℕ) : Type 0 where
  pub count : length held ≡ criticals
  pub last : IsLast critical held

last-of : (P : ℕ → Type 0) (outer : List ℕ) (mutex : ℕ) → All P (outer ++ mutex ∷ []) → P mutex
last-of P [] mutex all = All-head P mutex [] all
last-of P (x ∷ xs) mutex all = last-of P xs mutex (All-tail P x (xs ++ mutex ∷ []) all)

above-last : (o : Option ℕ) (held : List ℕ) (mutex : ℕ) → IsLast o held → All (λ (outer : ℕ). outer < mutex) held
    → elim o [ None ↦ false | Some around ↦ leb mutex around ] ≡ false
above-last None held mutex last all = refl
above-last (Some around) held mutex last all =
    let lt = last-of (λ (outer : ℕ). outer < mutex) last.0 around (subst (All (λ (outer : ℕ). outer < mutex)) last.1 all) in
    grind (arith, nat_tests)

critical-none : (p : Place) (a : Around) (held : List ℕ) (line mutex : ℕ) → IsHeld a.critical a.criticals held → All (λ (outer : ℕ). outer < mutex) held → length held < 8
    → critical_faults (inside_of p a) line mutex ≡ []
critical-none p a held line mutex h all few =
    let count = h.count in
    let small : leb 8 a.criticals ≡ false = grind (arith, nat_tests) in
    ahead (elim a.critical [ None ↦ false | Some around ↦ leb mutex around ]) line why.CriticalOrder _ (above-last a.critical held mutex h.last all)
    (kept-rule (leb 8 a.criticals) line why.Deep small)

nothing-around : (o : Option ℕ) (held : List ℕ) → IsLast o held → held ≡ [] → is_some o ≡ false
nothing-around None held last none = refl
nothing-around (Some mutex) held last none = absurd (no-last last.0 mutex (sym last.1 ∙ none))
  where
    no-last : (outer : List ℕ) (mutex : ℕ) → outer ++ mutex ∷ [] ≡ [] → ⊥
    no-last [] mutex e = absurd cc
    no-last (x ∷ xs) mutex e = absurd cc

-- ---- where work stands

or-right : (a b : Bool) → (a || b) ≡ false → b ≡ false
or-right true b e = absurd cc
or-right false b e = e

or-left : (a b : Bool) → (a || b) ≡ false → a ≡ false
or-left true b e = absurd cc
or-left false b e = refl

or-false : (m u : Bool) → (m || (u || false)) ≡ true → (m || u) ≡ true
or-false true u e = refl
or-false false true e = refl
or-false false false e = absurd cc

loop-quiet : (fixed m u work rest : Bool) → ((m || u) ≡ true → (work || rest) ≡ false) → (work ≡ true → fixed ≡ true) → (m || (u || not fixed)) ≡ true → work ≡ false
loop-quiet fixed m u false rest quiet fix barred = refl
loop-quiet false m u true rest quiet fix barred = absurd (true≢false (sym (fix refl)))
loop-quiet true m u true rest quiet fix barred = absurd (true≢false (quiet (or-false m u barred)))

not-barred : (b : Bool) → (b ≡ true → true ≡ false) → b ≡ false
not-barred true quiet = absurd (true≢false (quiet refl))
not-barred false quiet = refl

region-free : (n : ℕ) → ((eqb (n + 1) 0 || false) || false) ≡ true → ⊥
region-free n e =
    let zero : eqb (n + 1) 0 ≡ false = grind (arith, nat_tests) in
    true≢false (sym e ∙ ap (λ (b : Bool). (b || false) || false) zero)

-- ---- statements

-- these statements with this code, where this is around and these mutexes are held
pub record AreFine (total mutexes : ℕ) (p : Place) (a : Around) (held : List ℕ) (s : Stmts) (c : Code) : Type 0 where
  pub below : AreBelow p.slot p.names.scope
  pub named : AreNamed p s
  pub small : HaveSmallBounds s
  pub quiet : is_barred (inside_of p a) ≡ true → holds_work s ≡ false
  pub scoped : IsScoped (scope_of total p.names) c
  pub bounded : IsBoundedCode c
  pub even : IsEven c
  pub nested : IsNested mutexes a.regions a.spans held c
  pub light : IsLight c
  pub locked : IsHeld a.critical a.criticals held

-- what is held in a section
section-held : (critical : Option ℕ) (criticals : ℕ) (held : List ℕ) (mutex : ℕ) → IsHeld critical criticals held → IsHeld (Some mutex) (criticals + 1) (held ++ mutex ∷ [])
section-held critical criticals held mutex h =
    let count = h.count in
    let longer = length-append held (mutex ∷ []) in
    record { count = omega (arith, count, longer); last = (held, refl) }

-- statements that are fine break no rule
pub faultless : (s : Stmts) (total mutexes : ℕ) (p : Place) (site : ℕ) (a : Around) (held : List ℕ) → AreFine total mutexes p a held s (code p site s) → stmts_faults (inside_of p a) s ≡ []
faultless NoMore total mutexes p site a held f = refl
faultless (Let line name_line name sign_line value rest) total mutexes p site a held f =
    let local = with_local p name true in
    let scope : IsScoped (scope_of total local.names) (code local (site + sites value) rest) =
    subst (λ (o : Option model.Variable). IsScoped (after_assigning (scope_of total p.names) p.slot o) (code local (site + sites value) rest))
    (none-at p.slot p.names.scope p.slot (omega arith) f.below) f.scoped.2 in
    ahead (is_taken p name) name_line why.Twice _ f.named.0 (none-of-both (tree_faults p.names false value) _ (known-none value p.names f.named.1)
    (faultless rest total mutexes local (site + sites value) a held (record { below = (omega arith, f.below); named = f.named.2; small = f.small; quiet = f.quiet; scoped = scope; bounded = f.bounded.1; even = f.even; nested = f.nested; light = f.light; locked = f.locked })))
faultless (Assign line name sign_line value rest) total mutexes p site a held f =
    let scope : IsScoped (scope_of total p.names) (code p (site + sites value) rest) =
    same-scope total p.slot p.names name (λ (n : model.Scope). IsScoped n (code p (site + sites value) rest)) f.below f.named.0 f.scoped.2 in
    none-of-both (assigned_faults p line name) _ (assigned-none total p.slot p line name f.below f.named.0 f.scoped.1) (none-of-both (tree_faults p.names false value) _ (known-none value p.names f.named.1)
    (faultless rest total mutexes p (site + sites value) a held (record { below = f.below; named = f.named.2; small = f.small; quiet = f.quiet; scoped = scope; bounded = f.bounded.1; even = f.even; nested = f.nested; light = f.light; locked = f.locked })))
faultless (Store line name opened index closed sign_line value rest) total mutexes p site a held f =
    none-of-both (array_faults p.names false line name) _ (array-none (is_array name p.names.arrays) line f.named.0) (none-of-both (tree_faults p.names false index) _ (known-none index p.names f.named.1)
    (none-of-both (tree_faults p.names false value) _ (known-none value p.names f.named.2)
    (faultless rest total mutexes p (site + 1 + sites index + sites value) a held (record { below = f.below; named = f.named.3; small = f.small; quiet = f.quiet; scoped = f.scoped.3; bounded = f.bounded.3; even = f.even; nested = f.nested; light = f.light; locked = f.locked }))))
faultless (Update line name_line name opened index closed minus sign_line value rest) total mutexes p site a held f =
    none-of-both (array_faults p.names false name_line name) _ (array-none (is_array name p.names.arrays) name_line f.named.0) (none-of-both (tree_faults p.names false index) _ (known-none index p.names f.named.1)
    (none-of-both (tree_faults p.names false value) _ (known-none value p.names f.named.2)
    (faultless rest total mutexes p (site + 1 + sites index + sites value) a held (record { below = f.below; named = f.named.3; small = f.small; quiet = f.quiet; scoped = f.scoped.3; bounded = f.bounded.3; even = f.even; nested = f.nested; light = f.light; locked = f.locked }))))
faultless (If line test opened if_true closed rest) total mutexes p site a held f =
    let inner = record a { uneven = a.uneven || true } in
    none-of-both (tree_faults p.names false test) _ (known-none test p.names f.named.0)
    (none-of-both (stmts_faults (inside_of p inner) if_true) _
    (faultless if_true total mutexes p (site + sites test) inner held (record { below = f.below; named = f.named.1; small = f.small.0; quiet = λ _. sym (work-same if_true p (site + sites test)) ∙ f.even.0; scoped = f.scoped.1; bounded = f.bounded.1; even = f.even.2; nested = f.nested.0; light = f.light.0; locked = f.locked }))
    (faultless rest total mutexes (past p (slots if_true)) (site + sites test + stmts_sites if_true) a held (record { below = below-more p.slot (p.slot + (slots if_true)) p.names.scope (omega arith) f.below; named = f.named.2; small = f.small.1; quiet = λ b. or-right (holds_work if_true) _ (f.quiet b); scoped = f.scoped.3; bounded = f.bounded.3; even = f.even.4; nested = f.nested.2; light = f.light.2; locked = f.locked })))
faultless (IfElse line test opened if_true closed else_line else_opened if_false else_closed rest) total mutexes p site a held f =
    let inner = record a { uneven = a.uneven || true } in
    let other = site + sites test + stmts_sites if_true in
    none-of-both (tree_faults p.names false test) _ (known-none test p.names f.named.0)
    (none-of-both (stmts_faults (inside_of p inner) if_true) _
    (faultless if_true total mutexes p (site + sites test) inner held (record { below = f.below; named = f.named.1; small = f.small.0; quiet = λ _. sym (work-same if_true p (site + sites test)) ∙ f.even.0; scoped = f.scoped.1; bounded = f.bounded.1; even = f.even.2; nested = f.nested.0; light = f.light.0; locked = f.locked }))
    (none-of-both (stmts_faults (inside_of (past p (slots if_true)) inner) if_false) _
    (faultless if_false total mutexes (past p (slots if_true)) other inner held (record { below = below-more p.slot (p.slot + (slots if_true)) p.names.scope (omega arith) f.below; named = f.named.2; small = f.small.1; quiet = λ _. sym (work-same if_false (past p (slots if_true)) other) ∙ f.even.1; scoped = f.scoped.2; bounded = f.bounded.2; even = f.even.3; nested = f.nested.1; light = f.light.1; locked = f.locked }))
    (faultless rest total mutexes (past p (slots if_true + slots if_false)) (other + stmts_sites if_false) a held (record { below = below-more p.slot (p.slot + (slots if_true + slots if_false)) p.names.scope (omega arith) f.below; named = f.named.3; small = f.small.2; quiet = λ b. or-right (holds_work if_false) _ (or-right (holds_work if_true) _ (f.quiet b)); scoped = f.scoped.3; bounded = f.bounded.3; even = f.even.4; nested = f.nested.2; light = f.light.2; locked = f.locked }))))
faultless (Loop line name_line name in_line from dots to opened body closed rest) total mutexes p site a held f =
    let local = with_local p name false in
    let inner = record a { uneven = a.uneven || not (is_fixed from to) } in
    let inside = site + sites from + sites to in
    let fixed : holds_work body ≡ true → is_fixed from to ≡ true = λ work. bounds-same p.names site (site + sites from) from to ∙ f.even.0 (work-same body local inside ∙ work) in
    ahead (is_taken p name) name_line why.Twice _ f.named.0 (none-of-both (tree_faults p.names false from) _ (known-none from p.names f.named.1)
    (none-of-both (tree_faults p.names false to) _ (known-none to p.names f.named.2)
    (none-of-both (stmts_faults (inside_of local inner) body) _
    (faultless body total mutexes local inside inner held (record { below = (omega arith, f.below); named = f.named.3; small = f.small.2; quiet = loop-quiet (is_fixed from to) (is_misplaced (inside_of p a)) a.uneven (holds_work body) (holds_work rest) f.quiet fixed; scoped = f.scoped.3; bounded = f.bounded.2; even = f.even.1; nested = f.nested.0; light = f.light.0; locked = f.locked }))
    (faultless rest total mutexes (past p (1 + slots body)) (inside + stmts_sites body) a held (record { below = below-more p.slot (p.slot + (1 + slots body)) p.names.scope (omega arith) f.below; named = f.named.4; small = f.small.3; quiet = λ b. or-right (holds_work body) _ (f.quiet b); scoped = f.scoped.4; bounded = f.bounded.3; even = f.even.2; nested = f.nested.1; light = f.light.1; locked = f.locked })))))
faultless (Parallel line number_line span opened body closed rest) total mutexes p site a held f =
    let lanes = count_literal span in
    let inner = record a { regions = a.regions + 1; spans = a.spans * lanes; divided = false; uneven = false } in
    let less = f.nested.1 in
    let within = f.nested.2 in
    let weighs = f.light.0 in
    let same = weight-same body p site f.small.0 in
    let few : leb 4 a.regions ≡ false = grind (arith, nat_tests) in
    let fits : ltb 64 (a.spans * lanes) ≡ false = grind (arith, nat_tests) in
    let light : ltb 65536 (weight body) ≡ false = grind (arith, nat_tests) in
    ahead (is_some a.critical) line why.ParallelHere _ (nothing-around a.critical held f.locked.last f.nested.0) (ahead (leb 4 a.regions) line why.Deep _ few
    (ahead (not (is_between 1 64 span)) number_line why.Count _ (between-is 64 span f.bounded.0.some f.bounded.0.limit) (ahead (ltb 64 (a.spans * lanes)) number_line why.Large _ fits
    (none-of-both (stmts_faults (inside_of p inner) body) _
    (faultless body total mutexes p site inner [] (record { below = f.below; named = f.named.0; small = f.small.0; quiet = λ b. absurd (region-free a.regions b); scoped = f.scoped.0; bounded = f.bounded.3; even = f.even.0; nested = f.nested.3; light = f.light.1; locked = subst (IsHeld a.critical a.criticals) f.nested.0 f.locked }))
    (ahead (ltb 65536 (weight body)) closed why.Large _ light
    (faultless rest total mutexes (past p (slots body)) (site + stmts_sites body) a held (record { below = below-more p.slot (p.slot + (slots body)) p.names.scope (omega arith) f.below; named = f.named.1; small = f.small.1; quiet = f.quiet; scoped = f.scoped.1; bounded = f.bounded.4; even = f.even.1; nested = f.nested.4; light = f.light.2; locked = f.locked })))))))
faultless (For line name_line name in_line from dots to schedule nowait opened body closed rest) total mutexes p site a held f =
    let local = with_local p name false in
    let inner = record a { divided = true } in
    let inside = site + sites from + sites to in
    let free = not-barred (is_barred (inside_of p a)) f.quiet in
    ahead (is_misplaced (inside_of p a)) line why.WorkHere _ (or-left (is_misplaced (inside_of p a)) a.uneven free) (ahead a.uneven line why.NotUniform _ (or-right (is_misplaced (inside_of p a)) a.uneven free)
    (ahead (is_taken p name) name_line why.Twice _ f.named.0
    (none-of-both (tree_faults p.names true from) _ (even-none from total p.slot p.names site f.below f.named.1 f.scoped.0)
    (none-of-both (tree_faults p.names true to) _ (even-none to total p.slot p.names (site + sites from) f.below f.named.2 f.scoped.1)
    (none-of-both (schedule_faults schedule) _ (schedule-none schedule f.bounded.2)
    (none-of-both (stmts_faults (inside_of local inner) body) _
    (faultless body total mutexes local inside inner held (record { below = (omega arith, f.below); named = f.named.3; small = f.small.0; quiet = λ _. sym (work-same body local inside) ∙ f.even.0; scoped = f.scoped.3; bounded = f.bounded.5; even = f.even.1; nested = f.nested.0; light = f.light.0; locked = f.locked }))
    (faultless rest total mutexes (past p (1 + slots body)) (inside + stmts_sites body) a held (record { below = below-more p.slot (p.slot + (1 + slots body)) p.names.scope (omega arith) f.below; named = f.named.4; small = f.small.1; quiet = λ b. absurd (true≢false (sym b ∙ free)); scoped = f.scoped.4; bounded = f.bounded.6; even = f.even.2; nested = f.nested.1; light = f.light.1; locked = f.locked }))))))))
faultless (Barrier line rest) total mutexes p site a held f =
    let free = not-barred (is_barred (inside_of p a)) f.quiet in
    ahead (is_misplaced (inside_of p a)) line why.BarrierHere _ (or-left (is_misplaced (inside_of p a)) a.uneven free) (ahead a.uneven line why.NotUniform _ (or-right (is_misplaced (inside_of p a)) a.uneven free)
    (faultless rest total mutexes p site a held (record { below = f.below; named = f.named; small = f.small; quiet = λ b. absurd (true≢false (sym b ∙ free)); scoped = f.scoped; bounded = f.bounded.1; even = f.even; nested = f.nested; light = f.light; locked = f.locked })))
faultless (Critical line opened body closed rest) total mutexes p site a held f =
    let inner = record a { critical = Some 0; criticals = a.criticals + 1; divided = true } in
    none-of-both (critical_faults (inside_of p a) line 0) _ (critical-none p a held line 0 f.locked f.nested.1 f.nested.2) (none-of-both (stmts_faults (inside_of p inner) body) _
    (faultless body total mutexes p site inner (held ++ 0 ∷ []) (record { below = f.below; named = f.named.0; small = f.small.0; quiet = λ _. sym (work-same body p site) ∙ f.even.0; scoped = f.scoped.0; bounded = f.bounded.3; even = f.even.1; nested = f.nested.3; light = f.light.0; locked = section-held a.critical a.criticals held 0 f.locked }))
    (faultless rest total mutexes (past p (slots body)) (site + stmts_sites body) a held (record { below = below-more p.slot (p.slot + (slots body)) p.names.scope (omega arith) f.below; named = f.named.1; small = f.small.1; quiet = λ b. or-right (holds_work body) _ (f.quiet b); scoped = f.scoped.1; bounded = f.bounded.4; even = f.even.2; nested = f.nested.4; light = f.light.1; locked = f.locked })))
faultless (CriticalOf line name_line name opened body closed rest) total mutexes p site a held f =
    let inner = record a { critical = Some (mutex_of p name); criticals = a.criticals + 1; divided = true } in
    ahead (not (is_among name p.mutexes)) line why.Unknown _ (true-not (is_among name p.mutexes) f.named.0) (none-of-both (critical_faults (inside_of p a) line (mutex_of p name)) _ (critical-none p a held line (mutex_of p name) f.locked f.nested.1 f.nested.2) (none-of-both (stmts_faults (inside_of p inner) body) _
    (faultless body total mutexes p site inner (held ++ (mutex_of p name) ∷ []) (record { below = f.below; named = f.named.1; small = f.small.0; quiet = λ _. sym (work-same body p site) ∙ f.even.0; scoped = f.scoped.0; bounded = f.bounded.3; even = f.even.1; nested = f.nested.3; light = f.light.0; locked = section-held a.critical a.criticals held (mutex_of p name) f.locked }))
    (faultless rest total mutexes (past p (slots body)) (site + stmts_sites body) a held (record { below = below-more p.slot (p.slot + (slots body)) p.names.scope (omega arith) f.below; named = f.named.2; small = f.small.1; quiet = λ b. or-right (holds_work body) _ (f.quiet b); scoped = f.scoped.1; bounded = f.bounded.4; even = f.even.2; nested = f.nested.4; light = f.light.1; locked = f.locked }))))
