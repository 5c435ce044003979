-- The kernel of a text is lawful.
use Rattle.std.proofs.Common.{◌≡◌, refl, sym, subst, ℕ, ◌+◌, ◌≤◌, not, ◌||◌, leb, ltb, List, [], ◌∷◌, ◌++◌, length, arith, append_assoc, length-append}
use Rattle.std.specs.Prelude.{is_none, unwrap_or}
use Rattle.std.proofs.lemmas.Bool.{leb-false}
use Rattle.kernel_syntax.specs.declared.syntax.Array.{Array}
use Rattle.kernel_syntax.specs.Layout.{elements}
use Rattle.kernel_text.specs.declared.fault.KernelWhy.TheVariants as why
use Rattle.kernel_syntax.specs.Bounds.{IsBounded}
use Rattle.kernel_syntax.specs.Program.{Program}
use Rattle.kernel_syntax.proofs.Laying.{length-laid}
use Rattle.kernel_text.specs.declared.token.Word.TheVariants as word
use Rattle.kernel_text.specs.declared.token.Sign.TheVariants as sign
use Rattle.kernel_text.specs.Grammar.{Declaration, ArrayOf, MutexOf, stmts_tokens, declarations_tokens, reserved, mark, block, KernelTree, kernel_tokens}
use Rattle.kernel_reader.specs.Scope.{Place, slots, is_array, is_among, is_between, count_literal}
use Rattle.kernel_reader.specs.Rules.{fault_if, width_of, array_of, declarations_faults, arrays_of, mutex_names, at_main}
use Rattle.kernel_reader.specs.Resolve.{code, program}
use Rattle.kernel_reader.specs.KernelOf.{IsKernelOf}
use Rattle.kernel_reader.proofs.Broken.{nil_left, nil_right, fault_if-none}
use Rattle.kernel_reader.proofs.Bounded.{kernels_are_bounded}
use Rattle.kernel_model.specs.Lawful.{IsScoped, IsLawful}
use Rattle.kernel_laws.proofs.Kept.{AreKept, are-kept}
use Rattle.kernel_laws.proofs.Evenness.{free, even-code}
use Rattle.kernel_laws.proofs.Nesting.{nested-main}
use Rattle.kernel_laws.proofs.Numbers.{AreSmall, small-split, small-bounds, HaveSmallBounds, tokens_of-small}
use Rattle.kernel_laws.proofs.Fitting.{code-fits}
use Rattle.kernel_laws.proofs.Weights.{light-code}
use Rattle.kernel_laws.proofs.Scoping.{scope_of, scoped-code}
use Rattle.kernel_laws.proofs.Declaring.{filled-laid, declared-filled}

-- the tokens of a kernel's body are small where all are
body-small : (k : KernelTree) → AreSmall (kernel_tokens k) → AreSmall (stmts_tokens k.body)
body-small k small =
    let main = reserved k.line word.Main ∷ block k.opened (stmts_tokens k.body) k.closed in
    let behind = (small-split (declarations_tokens k.declarations) main small).1 in
    (small-split (stmts_tokens k.body) (mark k.closed sign.CloseBrace ∷ []) behind.1.1).0

-- and so are the bounds of its loops
pub bounds-small : (k : KernelTree) → AreSmall (kernel_tokens k) → HaveSmallBounds k.body
bounds-small k small = small-bounds k.body (body-small k small)

-- at most 63 mutexes are declared
few-declared : (ds : List Declaration) (arrays : List Array) (mutexes : List (List ℕ)) → length mutexes ≤ 63 → declarations_faults arrays mutexes ds ≡ []
    → length (mutexes ++ mutex_names ds) ≤ 63
few-declared [] arrays mutexes few lawful = omega (arith, few, length-append mutexes [])
few-declared (ArrayOf line name_line name width_line width count_line count ∷ ds) arrays mutexes few lawful =
    let free = nil_right (fault_if (is_array name arrays || is_among name mutexes) name_line why.Twice) _ lawful in
    let room = nil_right (fault_if (leb 64 (length arrays)) name_line why.Large) _ free in
    let wide = nil_right (fault_if (is_none (width_of width)) width_line why.Width) _ room in
    let counted = nil_right (fault_if (not (is_between 1 1048576 count)) count_line why.Count) _ wide in
    let small = nil_right (fault_if (ltb 1048576 (elements arrays + count_literal count)) count_line why.Large) _ counted in
    few-declared ds (arrays ++ array_of name (unwrap_or (width_of width) 0) count ∷ []) mutexes few small
few-declared (MutexOf line name_line name ∷ ds) arrays mutexes few lawful =
    let free = nil_right (fault_if (is_array name arrays || is_among name mutexes) name_line why.Twice) _ lawful in
    let room = leb-false 63 (length mutexes) (fault_if-none (leb 63 (length mutexes)) name_line why.Large (nil_left (fault_if (leb 63 (length mutexes)) name_line why.Large) _ free)) in
    let later = nil_right (fault_if (leb 63 (length mutexes)) name_line why.Large) _ free in
    let longer = length-append mutexes (name ∷ []) in
    subst (λ (names : List (List ℕ)). length names ≤ 63) (append_assoc mutexes (name ∷ []) (mutex_names ds))
    (few-declared ds arrays (mutexes ++ name ∷ []) (omega (arith, room, longer)) later)

-- the kernel of a text
pub kernels_are_lawful : (text : List ℕ) (p : Program) → IsKernelOf text p → IsLawful p
kernels_are_lawful text p k = subst IsLawful (sym k.resolved) lawful
  where
    tree : KernelTree
    tree = k.tree

    q : Place
    q = at_main tree.declarations

    kept : AreKept q tree.body
    kept = are-kept q tree.body (nil_right (declarations_faults [] [] tree.declarations) _ k.lawful)

    tokens : AreSmall (kernel_tokens tree)
    tokens = tokens_of-small text (kernel_tokens tree) k.tokens

    small : HaveSmallBounds tree.body
    small = bounds-small tree tokens

    main_scoped : IsScoped (scope_of (slots tree.body) q.names) (code q 0 tree.body)
    main_scoped = scoped-code tree.body (slots tree.body) q 0 tt (omega arith) kept

    lawful : IsLawful (program tree)
    lawful = record {
      bounded = subst IsBounded k.resolved (kernels_are_bounded text p k);
      numbers = code-fits q 0 tree.body (body-small tree tokens);
      few_mutexes = few-declared tree.declarations [] [] (omega arith) (nil_left (declarations_faults [] [] tree.declarations) _ k.lawful);
      filled = filled-laid (arrays_of tree.declarations) (declared-filled tree.declarations [] [] (nil_left (declarations_faults [] [] tree.declarations) _ k.lawful));
      alone = refl;
      scoped =
          subst (λ (n : ℕ). IsScoped (record { arrays = n; slots = slots tree.body; variables = [] }) (code q 0 tree.body))
          (sym (length-laid (arrays_of tree.declarations))) main_scoped;
      idle = free q q 0 tree.body refl kept;
      even = even-code tree.body q q 0 kept;
      nested = nested-main q 0 tree.body refl refl kept;
      light = light-code tree.body q q 0 small kept;
    }
