-- In the code of statements that break no rule, every variable and array is there, and no statement assigns to a loop's variable.
use Rattle.std.proofs.Common.{◌≡◌, refl, sym, ap, ◌∙◌, subst, ℕ, ◌+◌, ◌<◌, ◌≤◌, Bool, true, false, not, cond, eqb, List, [], ◌∷◌, length, map, Option, Some, None, arith}
use Rattle.std.specs.Prelude.{◌&&◌, is_some, find, bytes_eq, unwrap_or, option_map}
use Rattle.std.proofs.lemmas.Bool.Decides.{nat_tests}
use Rattle.std.proofs.lemmas.List.Quantifiers.{position-Some}
use Rattle.kernel_syntax.specs.declared.syntax.Array.{Array}
use Rattle.kernel_syntax.specs.declared.syntax.Op.{Op}
use Rattle.kernel_syntax.specs.declared.syntax.Op.TheVariants.{Add, Sub, Mul, Div, Rem, Eq, Ne, Lt, Le, Gt, Ge}
use Rattle.kernel_text.specs.declared.fault.KernelWhy.TheVariants as why
use Rattle.kernel_text.specs.Tokens.{Refusal}
use Rattle.kernel_text.specs.Grammar.{Tree, NumberAt, NameAt, TidAt, SpanAt, Element, Group, Minus, Binary, Stmts, NoMore, Let, Assign, Store, Update, If, IfElse, Loop, Parallel, For, Barrier, Critical, CriticalOf}
use Rattle.kernel_reader.specs.declared.binding.Variable.{Variable}
use Rattle.kernel_reader.specs.Scope.{Names, Place, array_number, is_array, variable_of, with_local, slots, past, count_literal}
use Rattle.kernel_reader.specs.Rules.{fault_at, fault_if, is_unfit, name_faults, array_faults, tree_faults, assigned_faults, is_fixed, in_branch, in_region, in_work, in_critical, mutex_of}
use Rattle.kernel_reader.specs.Resolve.{sites, stmts_sites, slot_of, array_at, term, code}
use Rattle.kernel_reader.proofs.Broken.{nil_left, nil_right, fault_if-none, not-false}
use Rattle.kernel_reader.proofs.Alike.{AreAlike, code-alike}
use Rattle.kernel_syntax.specs.Tree.{Code}
use Rattle.kernel_model.specs.Lawful as model
use Rattle.kernel_model.specs.Lawful.{Scope, variable_at, with_variable, IsNew, IsAssigned, after_assigning, IsKnown, IsEvenOp, IsLoopVariable, IsEvenTerm, IsScoped}
use Rattle.kernel_laws.proofs.Kept.{AreKept}

-- ---- variables in scope

-- a variable without its name
abbrev pub nameless : Variable → model.Variable
nameless v = record { slot = v.slot; assignable = v.assignable }

-- the scope of a kernel with so many slots
abbrev pub scope_of : ℕ → Names → Scope
scope_of total n = record { arrays = length n.arrays; slots = total; variables = map nameless n.scope }

-- the slots of the variables in scope come below the next one, later ones above earlier ones
abbrev pub AreBelow : ℕ → List Variable → Type 0
AreBelow next [] = Unit {0}
AreBelow next (v ∷ vs) = (v.slot < next) × AreBelow v.slot vs

pub below-more : (next more : ℕ) (vs : List Variable) → next ≤ more → AreBelow next vs → AreBelow more vs
below-more next more [] le below = tt
below-more next more (v ∷ vs) le below = let lt = below.0 in (omega (arith, lt, le), below.1)

-- no variable has the next slot
pub none-at : (next : ℕ) (vs : List Variable) (more : ℕ) → next ≤ more → AreBelow next vs → find (λ (v : model.Variable). eqb v.slot more) (map nameless vs) ≡ None
none-at next [] more le below = refl
none-at next (v ∷ vs) more le below =
    let lt = below.0 in
    let differ : eqb v.slot more ≡ false = grind (arith, nat_tests) in
    ap (λ (b : Bool). cond b (Some (nameless v)) (find (λ (w : model.Variable). eqb w.slot more) (map nameless vs))) differ
    ∙ none-at v.slot vs more (omega (arith, lt, le)) below.1

-- the variable of a name has a slot below the next one
slot-below : (next : ℕ) (vs : List Variable) (name : List ℕ) (v : Variable) → AreBelow next vs → variable_of name vs ≡ Some v → v.slot < next
slot-below next [] name v below e = absurd cc
slot-below next (w ∷ vs) name v below e = by (bytes_eq w.name name) refl (slot-below w.slot vs name v below.1)
  where
    by : (b : Bool) → bytes_eq w.name name ≡ b → (variable_of name vs ≡ Some v → v.slot < w.slot) → v.slot < next
    by true is deeper = let same : w ≡ v = cc in subst (λ (x : Variable). x.slot < next) same below.0
    by false is deeper =
        let later : variable_of name vs ≡ Some v = cc in
        let lt = deeper later in
        let lower = below.0 in
        omega (arith, lt, lower)

-- the variable of a name is the one of its slot
same-at : (next : ℕ) (vs : List Variable) (name : List ℕ) (v : Variable) → AreBelow next vs → variable_of name vs ≡ Some v
    → find (λ (w : model.Variable). eqb w.slot v.slot) (map nameless vs) ≡ Some (nameless v)
same-at next [] name v below e = absurd cc
same-at next (w ∷ vs) name v below e = by (bytes_eq w.name name) refl (same-at w.slot vs name v below.1)
  where
    by : (b : Bool) → bytes_eq w.name name ≡ b
        → (variable_of name vs ≡ Some v → find (λ (x : model.Variable). eqb x.slot v.slot) (map nameless vs) ≡ Some (nameless v))
        → find (λ (x : model.Variable). eqb x.slot v.slot) (map nameless (w ∷ vs)) ≡ Some (nameless v)
    by true is deeper =
        let same : w ≡ v = cc in
        let slots_same = ap (λ (x : Variable). x.slot) same in
        let found : eqb w.slot v.slot ≡ true = grind (arith, nat_tests) in
        ap (λ (b : Bool). cond b (Some (nameless w)) (find (λ (x : model.Variable). eqb x.slot v.slot) (map nameless vs))) found
        ∙ ap (λ (x : Variable). Some (nameless x)) same
    by false is deeper =
        let later : variable_of name vs ≡ Some v = cc in
        let lt = slot-below w.slot vs name v below.1 later in
        let differ : eqb w.slot v.slot ≡ false = grind (arith, nat_tests) in
        ap (λ (b : Bool). cond b (Some (nameless w)) (find (λ (x : model.Variable). eqb x.slot v.slot) (map nameless vs))) differ
        ∙ deeper later

-- a name in scope is the slot of its variable
pub found-at : (total next : ℕ) (n : Names) (name : List ℕ) (v : Variable) → AreBelow next n.scope → variable_of name n.scope ≡ Some v
    → variable_at (scope_of total n) (slot_of n name) ≡ Some (nameless v)
found-at total next n name v below is =
    let slot_is : slot_of n name ≡ v.slot = ap (λ (o : Option Variable). unwrap_or (option_map (λ (w : Variable). w.slot) o) 0) is in
    ap (λ (slot : ℕ). variable_at (scope_of total n) slot) slot_is ∙ same-at next n.scope name v below is

-- what a name in scope means
record IsThere (total : ℕ) (n : Names) (name : List ℕ) : Type 0 where
  v : Variable
  is : variable_of name n.scope ≡ Some v
  at : variable_at (scope_of total n) (slot_of n name) ≡ Some (nameless v)

-- ---- expressions

-- the rules of a name by what it means
abbrev pub named_faults : Option Variable → Bool → ℕ → List Refusal
named_faults o in_bound line = elim o [ None ↦ fault_at line why.Unknown | Some v ↦ fault_if (in_bound && v.assignable) line why.NotUniform ]

abbrev pub target_faults : Option Variable → ℕ → List Refusal
target_faults o line = elim o [ None ↦ fault_at line why.Unknown | Some v ↦ fault_if (not v.assignable) line why.Unknown ]

-- a name that is known
known-name : (total next : ℕ) (n : Names) (in_bound : Bool) (line : ℕ) (name : List ℕ) → AreBelow next n.scope → name_faults n in_bound line name ≡ [] → IsThere total n name
known-name total next n in_bound line name below lawful = by (variable_of name n.scope) refl lawful
  where
    by : (o : Option Variable) → variable_of name n.scope ≡ o → named_faults o in_bound line ≡ [] → IsThere total n name
    by None is e = absurd cc
    by (Some v) is e = record { v = v; is = is; at = found-at total next n name v below is }

-- an array that is known
known-array : (n : Names) (line : ℕ) (name : List ℕ) → array_faults n false line name ≡ [] → array_at n name < length n.arrays
known-array n line name lawful = by (array_number name n.arrays) refl lawful
  where
    by : (o : Option ℕ) → array_number name n.arrays ≡ o → cond (is_some o) (fault_if false line why.NotUniform) (fault_at line why.Unknown) ≡ []
        → array_at n name < length n.arrays
    by None is e = absurd cc
    by (Some k) is e =
        let none : Array = record { name = []; width = 0; count = 0; base = 0; first = 0 } in
        let within = (position-Some (λ (a : Array). bytes_eq a.name name) n.arrays k none is).0 in
        subst (λ (o : Option ℕ). unwrap_or o 0 < length n.arrays) (sym is) within

-- expressions that break no rule
known-term : (t : Tree) (total next : ℕ) (n : Names) (site : ℕ) → AreBelow next n.scope → tree_faults n false t ≡ [] → IsKnown (scope_of total n) (term n site t)
known-term (NumberAt line value) total next n site below lawful = tt
known-term (NameAt line name) total next n site below lawful =
    ap (λ (o : Option model.Variable). is_some o) (known-name total next n false line name below lawful).at
known-term (TidAt line) total next n site below lawful = tt
known-term (SpanAt line) total next n site below lawful = tt
known-term (Element line name opened index closed) total next n site below lawful =
    (known-array n line name (nil_left (array_faults n false line name) _ lawful), known-term index total next n (site + 1) below (nil_right (array_faults n false line name) _ lawful))
known-term (Group opened inside closed) total next n site below lawful = known-term inside total next n site below lawful
known-term (Minus line operand) total next n site below lawful = known-term operand total next n site below lawful
known-term (Binary left op line right) total next n site below lawful =
    (known-term left total next n site below (nil_left (tree_faults n false left) _ lawful), known-term right total next n (site + sites left) below (nil_right (tree_faults n false left) _ lawful))

-- the operations in bounds of worksharing loops
even-op : (op : Op) → is_unfit op ≡ false → IsEvenOp op
even-op Add e = tt
even-op Sub e = tt
even-op Mul e = tt
even-op Div e = absurd cc
even-op Rem e = absurd cc
even-op Eq e = absurd cc
even-op Ne e = absurd cc
even-op Lt e = absurd cc
even-op Le e = absurd cc
even-op Gt e = absurd cc
even-op Ge e = absurd cc

-- a name there is a loop's variable
even-name : (total next : ℕ) (n : Names) (line : ℕ) (name : List ℕ) → AreBelow next n.scope → name_faults n true line name ≡ []
    → IsLoopVariable (variable_at (scope_of total n) (slot_of n name))
even-name total next n line name below lawful =
    let x = known-name total next n true line name below lawful in
    let fixed = fault_if-none x.v.assignable line why.NotUniform
    (subst (λ (o : Option Variable). named_faults o true line ≡ []) x.is lawful) in
    subst IsLoopVariable (sym x.at) fixed

no-array : (b : Bool) (line : ℕ) → cond b (fault_if true line why.NotUniform) (fault_at line why.Unknown) ≡ [] → ⊥
no-array true line e = absurd cc
no-array false line e = absurd cc

even-term : (t : Tree) (total next : ℕ) (n : Names) (site : ℕ) → AreBelow next n.scope → tree_faults n true t ≡ [] → IsEvenTerm (scope_of total n) (term n site t)
even-term (NumberAt line value) total next n site below lawful = tt
even-term (NameAt line name) total next n site below lawful = even-name total next n line name below lawful
even-term (TidAt line) total next n site below lawful = absurd cc
even-term (SpanAt line) total next n site below lawful = tt
even-term (Element line name opened index closed) total next n site below lawful =
    absurd (no-array (is_array name n.arrays) line (nil_left (array_faults n true line name) _ lawful))
even-term (Group opened inside closed) total next n site below lawful = even-term inside total next n site below lawful
even-term (Minus line operand) total next n site below lawful = even-term operand total next n site below lawful
even-term (Binary left op line right) total next n site below lawful =
    let later = nil_right (tree_faults n true left) _ lawful in (
      even-term left total next n site below (nil_left (tree_faults n true left) _ lawful),
      even-op op (fault_if-none (is_unfit op) line why.NotUniform (nil_left (fault_if (is_unfit op) line why.NotUniform) _ later)),
      even-term right total next n (site + sites left) below (nil_right (fault_if (is_unfit op) line why.NotUniform) _ later),
    )

-- ---- statements

-- a `let` declares its variable
declared : (total : ℕ) (q : Place) (name : List ℕ) (rest : Code) → AreBelow q.slot q.names.scope → q.slot < total
    → IsScoped (scope_of total (with_local q name true).names) rest
    → IsAssigned (scope_of total q.names) q.slot (variable_at (scope_of total q.names) q.slot)
    × IsScoped (after_assigning (scope_of total q.names) q.slot (variable_at (scope_of total q.names) q.slot)) rest
declared total q name rest below lt scoped =
    subst (λ (o : Option model.Variable). IsAssigned (scope_of total q.names) q.slot o × IsScoped (after_assigning (scope_of total q.names) q.slot o) rest)
    (sym (none-at q.slot q.names.scope q.slot (omega arith) below)) (lt, scoped)

-- an assignment is to a `let` variable
assigned : (total : ℕ) (q : Place) (line : ℕ) (name : List ℕ) (rest : Code) → AreBelow q.slot q.names.scope → assigned_faults q line name ≡ []
    → IsScoped (scope_of total q.names) rest
    → IsAssigned (scope_of total q.names) (slot_of q.names name) (variable_at (scope_of total q.names) (slot_of q.names name))
    × IsScoped (after_assigning (scope_of total q.names) (slot_of q.names name) (variable_at (scope_of total q.names) (slot_of q.names name))) rest
assigned total q line name rest below lawful scoped = by (variable_of name q.names.scope) refl lawful
  where
    slot : ℕ
    slot = slot_of q.names name

    by : (o : Option Variable) → variable_of name q.names.scope ≡ o
        → target_faults o line ≡ []
        → IsAssigned (scope_of total q.names) slot (variable_at (scope_of total q.names) slot)
        × IsScoped (after_assigning (scope_of total q.names) slot (variable_at (scope_of total q.names) slot)) rest
    by None is e = absurd cc
    by (Some v) is e =
        let at = found-at total q.slot q.names name v below is in
        subst (λ (o : Option model.Variable). IsAssigned (scope_of total q.names) slot o × IsScoped (after_assigning (scope_of total q.names) slot o) rest)
        (sym at) (not-false v.assignable (fault_if-none (not v.assignable) line why.Unknown e), scoped)

-- a loop's variable is new
new : (total : ℕ) (q : Place) → AreBelow q.slot q.names.scope → q.slot < total → IsNew (scope_of total q.names) q.slot
new total q below lt = record { unused = none-at q.slot q.names.scope q.slot (omega arith) below; within = lt }

-- the code is the same at a place where names mean the same
moved : (total site : ℕ) (p q : Place) (n : Scope) (s : Stmts) → AreAlike q p → IsScoped n (code q site s) → IsScoped n (code p site s)
moved total site p q n s alike scoped = subst (IsScoped n) (code-alike s q p site alike) scoped

-- statements that break no rule, in a kernel that has slots for them
pub scoped-code : (s : Stmts) (total : ℕ) (q : Place) (site : ℕ) → AreBelow q.slot q.names.scope → q.slot + slots s ≤ total → AreKept q s
    → IsScoped (scope_of total q.names) (code q site s)
scoped-code NoMore total q site below room kept = tt
scoped-code (Let line name_line name sign_line value rest) total q site below room kept =
    let local = with_local q name true in
    let later = scoped-code rest total local (site + sites value) (omega arith, below) (omega arith) kept.2 in
    let parts = declared total q name (code local (site + sites value) rest) below (omega arith) later in
    (known-term value total q.slot q.names site below kept.1, parts.0, parts.1)
scoped-code (Assign line name sign_line value rest) total q site below room kept =
    let later = scoped-code rest total q (site + sites value) below room kept.2 in
    let parts = assigned total q line name (code q (site + sites value) rest) below kept.0 later in
    (known-term value total q.slot q.names site below kept.1, parts.0, parts.1)
scoped-code (Store line name opened index closed sign_line value rest) total q site below room kept = (
  known-array q.names line name kept.0,
  known-term index total q.slot q.names (site + 1) below kept.1,
  known-term value total q.slot q.names (site + 1 + sites index) below kept.2,
  scoped-code rest total q (site + 1 + sites index + sites value) below room kept.3,
)
scoped-code (Update line name_line name opened index closed minus sign_line value rest) total q site below room kept = (
  known-array q.names name_line name kept.0,
  known-term index total q.slot q.names (site + 1) below kept.1,
  known-term value total q.slot q.names (site + 1 + sites index) below kept.2,
  scoped-code rest total q (site + 1 + sites index + sites value) below room kept.3,
)
scoped-code (If line test opened if_true closed rest) total q site below room kept =
    let inside = site + sites test in
    let after = past q (slots if_true) in (
      known-term test total q.slot q.names site below kept.0,
      moved total inside q (in_branch q true) (scope_of total q.names) if_true (record { names = refl; mutexes = refl; slot = refl })
          (scoped-code if_true total (in_branch q true) inside below (omega arith) kept.1),
      tt,
      scoped-code rest total after (inside + stmts_sites if_true) (below-more q.slot after.slot q.names.scope (omega arith) below) (omega arith) kept.2,
    )
scoped-code (IfElse line test opened if_true closed else_line else_opened if_false else_closed rest) total q site below room kept =
    let inside = site + sites test in
    let other = inside + stmts_sites if_true in
    let between = past q (slots if_true) in
    let after = past q (slots if_true + slots if_false) in (
      known-term test total q.slot q.names site below kept.0,
      moved total inside q (in_branch q true) (scope_of total q.names) if_true (record { names = refl; mutexes = refl; slot = refl })
          (scoped-code if_true total (in_branch q true) inside below (omega arith) kept.1),
      moved total other between (in_branch between true) (scope_of total q.names) if_false (record { names = refl; mutexes = refl; slot = refl })
          (scoped-code if_false total (in_branch between true) other (below-more q.slot between.slot q.names.scope (omega arith) below) (omega arith) kept.2),
      scoped-code rest total after (other + stmts_sites if_false) (below-more q.slot after.slot q.names.scope (omega arith) below) (omega arith) kept.3,
    )
scoped-code (Loop line name_line name in_line from dots to opened body closed rest) total q site below room kept =
    let inside = site + sites from + sites to in
    let local = with_local q name false in
    let turns = in_branch local (not (is_fixed from to)) in
    let after = past q (1 + slots body) in (
      known-term from total q.slot q.names site below kept.1,
      known-term to total q.slot q.names (site + sites from) below kept.2,
      new total q below (omega arith),
      moved total inside local turns (scope_of total local.names) body (record { names = refl; mutexes = refl; slot = refl })
          (scoped-code body total turns inside (omega arith, below) (omega arith) kept.3),
      scoped-code rest total after (inside + stmts_sites body) (below-more q.slot after.slot q.names.scope (omega arith) below) (omega arith) kept.4,
    )
scoped-code (Parallel line number_line span opened body closed rest) total q site below room kept =
    let region = in_region q (count_literal span) in
    let after = past q (slots body) in (
      moved total site q region (scope_of total q.names) body (record { names = refl; mutexes = refl; slot = refl })
          (scoped-code body total region site below (omega arith) kept.1),
      scoped-code rest total after (site + stmts_sites body) (below-more q.slot after.slot q.names.scope (omega arith) below) (omega arith) kept.3,
    )
scoped-code (For line name_line name in_line from dots to schedule nowait opened body closed rest) total q site below room kept =
    let inside = site + sites from + sites to in
    let local = with_local q name false in
    let after = past q (1 + slots body) in (
      even-term from total q.slot q.names site below kept.3,
      even-term to total q.slot q.names (site + sites from) below kept.4,
      new total q below (omega arith),
      moved total inside local (in_work local) (scope_of total local.names) body (record { names = refl; mutexes = refl; slot = refl })
          (scoped-code body total (in_work local) inside (omega arith, below) (omega arith) kept.5),
      scoped-code rest total after (inside + stmts_sites body) (below-more q.slot after.slot q.names.scope (omega arith) below) (omega arith) kept.6,
    )
scoped-code (Barrier line rest) total q site below room kept = scoped-code rest total q site below room kept.2
scoped-code (Critical line opened body closed rest) total q site below room kept =
    let after = past q (slots body) in (
      moved total site q (in_critical q 0) (scope_of total q.names) body (record { names = refl; mutexes = refl; slot = refl })
          (scoped-code body total (in_critical q 0) site below (omega arith) kept.1),
      scoped-code rest total after (site + stmts_sites body) (below-more q.slot after.slot q.names.scope (omega arith) below) (omega arith) kept.2,
    )
scoped-code (CriticalOf line name_line name opened body closed rest) total q site below room kept =
    let after = past q (slots body) in
    let section = in_critical q (mutex_of q name) in (
      moved total site q section (scope_of total q.names) body (record { names = refl; mutexes = refl; slot = refl })
          (scoped-code body total section site below (omega arith) kept.2),
      scoped-code rest total after (site + stmts_sites body) (below-more q.slot after.slot q.names.scope (omega arith) below) (omega arith) kept.3,
    )
