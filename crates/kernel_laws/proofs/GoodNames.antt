-- Names of a kernel that breaks no rule.
use Rattle.std.proofs.Common.{◌≡◌, refl, ℕ, ◌+◌, ◌*◌, Bool, true, false, not, ◌||◌, cond, leb, ltb, List, [], ◌∷◌, ◌++◌, length, Option, Some, None}
use Rattle.std.specs.Prelude.{◌&&◌, is_none, IsTrue, IsSome, unwrap_or}
use Rattle.kernel_syntax.specs.declared.syntax.Array.{Array}
use Rattle.kernel_syntax.specs.Layout.{elements}
use Rattle.kernel_text.specs.declared.fault.KernelWhy.TheVariants as why
use Rattle.kernel_text.specs.Grammar.{Tree, NumberAt, NameAt, TidAt, SpanAt, Element, Group, Minus, Binary, Stmts, NoMore, Let, Assign, Store, Update, If, IfElse, Loop, Parallel, For, Barrier, Critical, CriticalOf, Declaration, ArrayOf, MutexOf, KernelTree}
use Rattle.kernel_reader.specs.declared.binding.Variable.{Variable}
use Rattle.kernel_reader.specs.Scope.{Names, Place, is_array, is_among, is_between, variable_of, with_local, slots, past, count_literal}
use Rattle.kernel_reader.specs.Rules.{fault_at, fault_if, is_unfit, array_faults, tree_faults, is_fixed, width_of, array_of, declarations_faults, mutex_of, at_main, kernel_faults}
use Rattle.kernel_reader.proofs.Broken.{nil_left, nil_right, fault_if-none}
use Rattle.kernel_laws.specs.Naming.{IsNamed, AreNamed, AreDeclaredOnce, HasGoodNames}
use Rattle.kernel_laws.proofs.Surroundings.{Around, inside_of}
use Rattle.kernel_laws.proofs.Scoping.{named_faults, target_faults}
use Rattle.kernel_laws.proofs.Kept.{AreKept, are-kept}

some-named : (o : Option Variable) (in_bound : Bool) (line : ℕ)
    → named_faults o in_bound line ≡ [] → IsSome o
some-named None in_bound line e = absurd cc
some-named (Some v) in_bound line e = refl

some-array : (b in_bound : Bool) (line : ℕ) → cond b (fault_if in_bound line why.NotUniform) (fault_at line why.Unknown) ≡ [] → IsTrue b
some-array true in_bound line e = refl
some-array false in_bound line e = absurd cc

some-target : (o : Option Variable) (line : ℕ) → target_faults o line ≡ [] → IsSome o
some-target None line e = absurd cc
some-target (Some v) line e = refl

is-true : (b : Bool) → not b ≡ false → IsTrue b
is-true true e = refl
is-true false e = absurd cc

-- expressions
named-tree : (t : Tree) (n : Names) (in_bound : Bool) → tree_faults n in_bound t ≡ [] → IsNamed n t
named-tree (NumberAt line value) n in_bound e = tt
named-tree (NameAt line name) n in_bound e = some-named (variable_of name n.scope) in_bound line e
named-tree (TidAt line) n in_bound e = tt
named-tree (SpanAt line) n in_bound e = tt
named-tree (Element line name opened index closed) n in_bound e =
    (some-array (is_array name n.arrays) in_bound line (nil_left (array_faults n in_bound line name) _ e), named-tree index n in_bound (nil_right (array_faults n in_bound line name) _ e))
named-tree (Group opened inside closed) n in_bound e = named-tree inside n in_bound e
named-tree (Minus line operand) n in_bound e = named-tree operand n in_bound e
named-tree (Binary left op line right) n in_bound e =
    let later = nil_right (tree_faults n in_bound left) _ e in
    (named-tree left n in_bound (nil_left (tree_faults n in_bound left) _ e), named-tree right n in_bound (nil_right (fault_if (in_bound && is_unfit op) line why.NotUniform) _ later))

-- statements
named-stmts : (s : Stmts) (p : Place) (a : Around) → AreKept (inside_of p a) s → AreNamed p s
named-stmts NoMore p a kept = tt
named-stmts (Let line name_line name sign_line value rest) p a kept =
    (kept.0, named-tree value p.names false kept.1, named-stmts rest (with_local p name true) a kept.2)
named-stmts (Assign line name sign_line value rest) p a kept =
    (some-target (variable_of name p.names.scope) line kept.0, named-tree value p.names false kept.1, named-stmts rest p a kept.2)
named-stmts (Store line name opened index closed sign_line value rest) p a kept =
    (some-array (is_array name p.names.arrays) false line kept.0, named-tree index p.names false kept.1, named-tree value p.names false kept.2, named-stmts rest p a kept.3)
named-stmts (Update line name_line name opened index closed minus sign_line value rest) p a kept =
    (some-array (is_array name p.names.arrays) false name_line kept.0, named-tree index p.names false kept.1, named-tree value p.names false kept.2, named-stmts rest p a kept.3)
named-stmts (If line test opened if_true closed rest) p a kept =
    (named-tree test p.names false kept.0, named-stmts if_true p (record a { uneven = a.uneven || true }) kept.1, named-stmts rest (past p (slots if_true)) a kept.2)
named-stmts (IfElse line test opened if_true closed else_line else_opened if_false else_closed rest) p a kept =
    let inner = record a { uneven = a.uneven || true } in (
      named-tree test p.names false kept.0,
      named-stmts if_true p inner kept.1,
      named-stmts if_false (past p (slots if_true)) inner kept.2,
      named-stmts rest (past p (slots if_true + slots if_false)) a kept.3,
    )
named-stmts (Loop line name_line name in_line from dots to opened body closed rest) p a kept = (
  kept.0,
  named-tree from p.names false kept.1,
  named-tree to p.names false kept.2,
  named-stmts body (with_local p name false) (record a { uneven = a.uneven || not (is_fixed from to) }) kept.3,
  named-stmts rest (past p (1 + slots body)) a kept.4,
)
named-stmts (Parallel line number_line span opened body closed rest) p a kept = (
  named-stmts body p (record a { regions = a.regions + 1; spans = a.spans * count_literal span; divided = false; uneven = false }) kept.1,
  named-stmts rest (past p (slots body)) a kept.3,
)
named-stmts (For line name_line name in_line from dots to schedule nowait opened body closed rest) p a kept = (
  kept.2,
  named-tree from p.names true kept.3,
  named-tree to p.names true kept.4,
  named-stmts body (with_local p name false) (record a { divided = true }) kept.5,
  named-stmts rest (past p (1 + slots body)) a kept.6,
)
named-stmts (Barrier line rest) p a kept = named-stmts rest p a kept.2
named-stmts (Critical line opened body closed rest) p a kept = (
  named-stmts body p (record a { critical = Some 0; criticals = a.criticals + 1; divided = true }) kept.1,
  named-stmts rest (past p (slots body)) a kept.2,
)
named-stmts (CriticalOf line name_line name opened body closed rest) p a kept = (
  is-true (is_among name p.mutexes) kept.0,
  named-stmts body p (record a { critical = Some (mutex_of p name); criticals = a.criticals + 1; divided = true }) kept.2,
  named-stmts rest (past p (slots body)) a kept.3,
)

-- declarations
declared-once : (ds : List Declaration) (arrays : List Array) (mutexes : List (List ℕ)) → declarations_faults arrays mutexes ds ≡ [] → AreDeclaredOnce arrays mutexes ds
declared-once [] arrays mutexes e = tt
declared-once (ArrayOf line name_line name width_line width count_line count ∷ ds) arrays mutexes e =
    let twice = fault_if (is_array name arrays || is_among name mutexes) name_line why.Twice in
    let free = nil_right twice _ e in
    let room = nil_right (fault_if (leb 64 (length arrays)) name_line why.Large) _ free in
    let wide = nil_right (fault_if (is_none (width_of width)) width_line why.Width) _ room in
    let counted = nil_right (fault_if (not (is_between 1 1048576 count)) count_line why.Count) _ wide in
    let small = nil_right (fault_if (ltb 1048576 (elements arrays + count_literal count)) count_line why.Large) _ counted in
    (fault_if-none (is_array name arrays || is_among name mutexes) name_line why.Twice (nil_left twice _ e), declared-once ds (arrays ++ array_of name (unwrap_or (width_of width) 0) count ∷ []) mutexes small)
declared-once (MutexOf line name_line name ∷ ds) arrays mutexes e =
    let twice = fault_if (is_array name arrays || is_among name mutexes) name_line why.Twice in
    let free = nil_right twice _ e in
    (fault_if-none (is_array name arrays || is_among name mutexes) name_line why.Twice (nil_left twice _ e), declared-once ds arrays (mutexes ++ name ∷ []) (nil_right (fault_if (leb 63 (length mutexes)) name_line why.Large) _ free))

-- a kernel
pub good-names : (tree : KernelTree) → kernel_faults tree ≡ [] → HasGoodNames tree
good-names tree e = record {
  declared = declared-once tree.declarations [] [] (nil_left (declarations_faults [] [] tree.declarations) _ e);
  used =
      named-stmts tree.body (at_main tree.declarations) (record { regions = 0; spans = 1; critical = None; criticals = 0; divided = false; uneven = false })
      (are-kept (at_main tree.declarations) tree.body (nil_right (declarations_faults [] [] tree.declarations) _ e));
}
