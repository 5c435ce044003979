-- The code of statements that break no rule nests as regions and critical sections may.
use Rattle.std.proofs.Common.{◌≡◌, refl, sym, ap, subst, ℕ, ◌+◌, ◌*◌, ◌<◌, ◌≤◌, true, false, not, leb, List, [], ◌∷◌, ◌++◌, length, Option, Some, None, All, arith, length-append}
use Rattle.std.specs.Prelude.{is_some, bytes_eq}
use Rattle.std.proofs.lemmas.Bool.{leb-false, ltb-false}
use Rattle.std.proofs.lemmas.List.Elements.{All-nil, All-push, All-weaker}
use Rattle.std.proofs.lemmas.List.Quantifiers.{position-Some}
use Rattle.kernel_text.specs.Grammar.{Stmts, NoMore, Let, Assign, Store, Update, If, IfElse, Loop, Parallel, For, Barrier, Critical, CriticalOf}
use Rattle.kernel_reader.specs.Scope.{number_of, Place, with_local, slots, past, count_literal}
use Rattle.kernel_reader.specs.Rules.{is_fixed, in_branch, in_region, in_work, in_critical, mutex_of}
use Rattle.kernel_reader.specs.Resolve.{code}
use Rattle.kernel_model.specs.Lawful.{IsNested}
use Rattle.kernel_laws.proofs.Kept.{IsOrdered, AreKept}

-- what is held where this is the innermost mutex
abbrev IsBelow : Option ℕ → List ℕ → Type 0
IsBelow None held = held ≡ []
IsBelow (Some around) held = All (λ (outer : ℕ). outer ≤ around) held

-- the mutexes that are held there: as many as there are sections
record AreHeld (critical : Option ℕ) (sections : ℕ) (held : List ℕ) : Type 0 where
  count : length held ≡ sections
  below : IsBelow critical held

-- no section is around
nothing-held : (o : Option ℕ) (held : List ℕ) → IsBelow o held → is_some o ≡ false → held ≡ []
nothing-held None held below e = below
nothing-held (Some around) held below e = absurd cc

-- a mutex above the innermost one is above all that are held
above-all : (o : Option ℕ) (held : List ℕ) (mutex : ℕ) → IsBelow o held → elim o [ None ↦ false | Some around ↦ leb mutex around ] ≡ false
    → All (λ (outer : ℕ). outer < mutex) held
above-all None held mutex below e = subst (λ (h : List ℕ). All (λ (outer : ℕ). outer < mutex) h) (sym below) (All-nil (λ (outer : ℕ). outer < mutex))
above-all (Some around) held mutex below e =
    let less = leb-false mutex around e in
    All-weaker (λ (outer : ℕ). outer ≤ around) (λ (outer : ℕ). outer < mutex) (λ outer le. omega (arith, le, less)) held below

-- what is held in the section
held-more : (o : Option ℕ) (sections : ℕ) (held : List ℕ) (mutex : ℕ) → AreHeld o sections held → All (λ (outer : ℕ). outer < mutex) held
    → AreHeld (Some mutex) (sections + 1) (held ++ mutex ∷ [])
held-more o sections held mutex h all =
    let count = h.count in
    let longer = length-append held (mutex ∷ []) in
    let lower = All-weaker (λ (outer : ℕ). outer < mutex) (λ (outer : ℕ). outer ≤ mutex) (λ outer lt. omega (arith, lt)) held all in
    record { count = omega (arith, count, longer); below = All-push (λ (outer : ℕ). outer ≤ mutex) held mutex lower (omega arith) }

-- none is held in a region
held-region : (o : Option ℕ) (sections : ℕ) (held : List ℕ) → AreHeld o sections held → held ≡ [] → AreHeld o sections []
held-region o sections held h e = subst (AreHeld o sections) e h

-- the declared mutexes are numbered from 1
mutex-within : (p : Place) (name : List ℕ) → mutex_of p name ≤ length p.mutexes
mutex-within p name = by (number_of name p.mutexes) refl
  where
    by : (o : Option ℕ) → number_of name p.mutexes ≡ o → elim o [ None ↦ 0 | Some n ↦ n + 1 ] ≤ length p.mutexes
    by None at = omega arith
    by (Some n) at = let within = (position-Some (λ x. bytes_eq x name) p.mutexes n [] at).0 in omega (arith, within)

-- a section of a mutex that is ordered
record IsSection (mutexes mutex : ℕ) (o : Option ℕ) (sections : ℕ) (held : List ℕ) : Type 0 where
  declared : mutex ≤ mutexes
  above : All (λ (outer : ℕ). outer < mutex) held
  few : length held < 8
  inside : AreHeld (Some mutex) (sections + 1) (held ++ mutex ∷ [])

section : (q : Place) (mutexes mutex : ℕ) (held : List ℕ) → mutex ≤ mutexes → IsOrdered q mutex → AreHeld q.critical q.criticals held
    → IsSection mutexes mutex q.critical q.criticals held
section q mutexes mutex held declared o h =
    let above = above-all q.critical held mutex h.below o.above in
    let count = h.count in
    let few = leb-false 8 q.criticals o.few in
    record { declared = declared; above = above; few = omega (arith, count, few); inside = held-more q.critical q.criticals held mutex h above }

-- statements at one place that break no rule at another with the same mutexes
nested-code : (s : Stmts) (p q : Place) (site : ℕ) (held : List ℕ) → p.mutexes ≡ q.mutexes → AreHeld q.critical q.criticals held → AreKept q s
    → IsNested (length q.mutexes) q.regions q.spans held (code p site s)
nested-code NoMore p q site held same h kept = tt
nested-code (Let line name_line name sign_line value rest) p q site held same h kept = nested-code rest _ (with_local q name true) _ held same h kept.2
nested-code (Assign line name sign_line value rest) p q site held same h kept = nested-code rest _ q _ held same h kept.2
nested-code (Store line name opened index closed sign_line value rest) p q site held same h kept = nested-code rest _ q _ held same h kept.3
nested-code (Update line name_line name opened index closed minus sign_line value rest) p q site held same h kept = nested-code rest _ q _ held same h kept.3
nested-code (If line test opened if_true closed rest) p q site held same h kept = (
  nested-code if_true p (in_branch q true) _ held same h kept.1,
  tt,
  nested-code rest _ (past q (slots if_true)) _ held same h kept.2,
)
nested-code (IfElse line test opened if_true closed else_line else_opened if_false else_closed rest) p q site held same h kept = (
  nested-code if_true p (in_branch q true) _ held same h kept.1,
  nested-code if_false (past p (slots if_true)) (in_branch (past q (slots if_true)) true) _ held same h kept.2,
  nested-code rest _ (past q (slots if_true + slots if_false)) _ held same h kept.3,
)
nested-code (Loop line name_line name in_line from dots to opened body closed rest) p q site held same h kept = (
  nested-code body (with_local p name false) (in_branch (with_local q name false) (not (is_fixed from to))) _ held same h kept.3,
  nested-code rest _ (past q (1 + slots body)) _ held same h kept.4,
)
nested-code (Parallel line number_line span opened body closed rest) p q site held same h kept =
    let region = kept.0 in
    let none_held = nothing-held q.critical held h.below region.apart in
    let few = leb-false 4 q.regions region.few in (
      none_held,
      omega (arith, few),
      ltb-false 64 (q.spans * count_literal span) region.small,
      nested-code body p (in_region q (count_literal span)) site [] same (held-region q.critical q.criticals held h none_held) kept.1,
      nested-code rest _ (past q (slots body)) _ held same h kept.3,
    )
nested-code (For line name_line name in_line from dots to schedule nowait opened body closed rest) p q site held same h kept = (
  nested-code body (with_local p name false) (in_work (with_local q name false)) _ held same h kept.5,
  nested-code rest _ (past q (1 + slots body)) _ held same h kept.6,
)
nested-code (Barrier line rest) p q site held same h kept = nested-code rest p q site held same h kept.2
nested-code (Critical line opened body closed rest) p q site held same h kept =
    let x = section q (length q.mutexes) 0 held (omega arith) kept.0 h in (
      x.declared,
      x.above,
      x.few,
      nested-code body p (in_critical q 0) site (held ++ 0 ∷ []) same x.inside kept.1,
      nested-code rest _ (past q (slots body)) _ held same h kept.2,
    )
nested-code (CriticalOf line name_line name opened body closed rest) p q site held same h kept =
    let mutex = mutex_of p name in
    let number : mutex_of q name ≡ mutex = ap (λ (names : List (List ℕ)). elim (number_of name names) [ None ↦ 0 | Some n ↦ n + 1 ]) (sym same) in
    let declared : mutex ≤ length q.mutexes = subst (λ (names : List (List ℕ)). mutex ≤ length names) same (mutex-within p name) in
    let x = section q (length q.mutexes) mutex held declared (subst (IsOrdered q) number kept.1) h in (
      x.declared,
      x.above,
      x.few,
      nested-code body p (in_critical q mutex) site (held ++ mutex ∷ []) same x.inside (subst (λ (m : ℕ). AreKept (in_critical q m) body) number kept.2),
      nested-code rest _ (past q (slots body)) _ held same h kept.3,
    )

-- the body of `main`
pub nested-main : (q : Place) (site : ℕ) (s : Stmts) → q.critical ≡ None → q.criticals ≡ 0 → AreKept q s → IsNested (length q.mutexes) q.regions q.spans [] (code q site s)
nested-main q site s outside zero kept =
    nested-code s q q site [] refl (record { count = sym zero; below = subst (λ (o : Option ℕ). IsBelow o []) (sym outside) refl }) kept
