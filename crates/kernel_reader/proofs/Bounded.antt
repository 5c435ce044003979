-- The numbers of a kernel that breaks no rule are within the bounds of the language.
use Rattle.std.proofs.Common.{◌≡◌, sym, subst, inl, inr, ℕ, ◌+◌, ◌*◌, ◌≤◌, Bool, true, false, not, ◌||◌, cond, leb, ltb, List, [], ◌∷◌, ◌++◌, length, Option, Some, None, All, refl, arith, append_assoc, length-append}
use Rattle.std.specs.Prelude.{is_some, is_none, unwrap_or, bytes_eq, codes, ℤ, pos, negsuc}
use Rattle.std.proofs.lemmas.Bool.{leb-false, ltb-false}
use Rattle.std.proofs.lemmas.Bool.Decides.{nat_tests}
use Rattle.std.proofs.lemmas.List.{append-nil}
use Rattle.std.proofs.lemmas.List.Sums.{sum_by_push}
use Rattle.std.proofs.lemmas.List.Elements.{All-nil, All-push}
use Rattle.std.proofs.lemmas.List.Quantifiers.{position-Some}
use Rattle.kernel_syntax.specs.declared.syntax.Array.{Array}
use Rattle.log_format.specs.Fitting.{IsWidth}
use Rattle.kernel_syntax.specs.Layout.{elements, IsWithinLimits}
use Rattle.kernel_syntax.specs.Program.{Program}
use Rattle.kernel_syntax.specs.Bounds.{IsLine, IsSpan, IsChunk, IsBoundedSchedule, IsBoundedTerm, IsBoundedCode, IsBounded}
use Rattle.kernel_syntax.proofs.Laying.{HasWidth, length-laid, elements-laid, widths-laid, laid-laid}
use Rattle.kernel_text.specs.declared.fault.KernelWhy.TheVariants as why
use Rattle.kernel_text.specs.declared.token.Word.TheVariants as word
use Rattle.kernel_text.specs.declared.token.Sign.TheVariants as sign
use Rattle.kernel_text.specs.declared.token.Token.{Token}
use Rattle.kernel_text.specs.Tokens.{Refusal}
use Rattle.kernel_text.specs.Grammar.{Tree, NumberAt, NameAt, TidAt, SpanAt, Element, Group, Minus, Binary, tree_tokens, sign_of, update_sign, reserved, mark, block, range, ScheduleTree, Unsaid, Static, StaticBy, Dynamic, DynamicBy, schedule_tokens, nowait_tokens, Stmts, NoMore, Let, Assign, Store, Update, If, IfElse, Loop, Parallel, For, Barrier, Critical, CriticalOf, stmts_tokens, Declaration, ArrayOf, MutexOf, declarations_tokens, KernelTree, kernel_tokens}
use Rattle.kernel_reader.specs.Scope.{number_of, is_among, is_array, Names, Place, with_local, slots, past, count_literal, is_between}
use Rattle.kernel_reader.specs.Rules.{fault_if, width_of, array_of, declarations_faults, array_faults, tree_faults, declared_faults, assigned_faults, schedule_faults, critical_faults, stmts_faults, weight, is_misplaced, mutex_of, is_fixed, in_branch, in_region, in_work, in_critical, arrays_of, mutex_names, at_main, kernel_faults}
use Rattle.kernel_reader.specs.Resolve.{sites, stmts_sites, term, schedule_of, code, program}
use Rattle.kernel_reader.specs.KernelOf.{IsKernelOf}
use Rattle.kernel_reader.proofs.Broken.{nil_left, nil_right, fault_if-none, not-false, between-le}
use Rattle.kernel_text.proofs.Few.{tokens_of-few}
use Rattle.kernel_text.proofs.Lines.{AreLined, lined-split, tokens_of-lined}
use Rattle.kernel_reader.proofs.Rooms.{kernel-room}

-- ---- numbers that are counted

-- such a number is at least 1
pub between-least : (most : ℕ) (z : ℤ) → is_between 1 most z ≡ true → 1 ≤ count_literal z
between-least most (pos n) e = grind (arith, nat_tests)
between-least most (negsuc n) e = absurd cc

-- a number that breaks no rule is between 1 and the most
counted-between : (most : ℕ) (z : ℤ) (line : ℕ) → fault_if (not (is_between 1 most z)) line why.Count ≡ [] → is_between 1 most z ≡ true
counted-between most z line lawful = not-false (is_between 1 most z) (fault_if-none (not (is_between 1 most z)) line why.Count lawful)

-- the lanes of a region
span-bounded : (z : ℤ) (line : ℕ) → fault_if (not (is_between 1 64 z)) line why.Count ≡ [] → IsSpan (count_literal z)
span-bounded z line lawful =
    let between = counted-between 64 z line lawful in
    record { some = between-least 64 z between; limit = between-le 64 z between }

-- the iterations of a chunk
chunk-bounded : (z : ℤ) (line : ℕ) → fault_if (not (is_between 1 1048576 z)) line why.Count ≡ [] → IsChunk (count_literal z)
chunk-bounded z line lawful =
    let between = counted-between 1048576 z line lawful in
    record { some = between-least 1048576 z between; limit = between-le 1048576 z between }

-- a schedule that breaks no rule
schedule-bounded : (s : ScheduleTree) → schedule_faults s ≡ [] → IsBoundedSchedule (schedule_of s)
schedule-bounded Unsaid lawful = tt
schedule-bounded (Static line) lawful = tt
schedule-bounded (StaticBy line number_line chunk) lawful = chunk-bounded chunk number_line lawful
schedule-bounded (Dynamic line) lawful = record { some = omega arith; limit = omega arith }
schedule-bounded (DynamicBy line number_line chunk) lawful = chunk-bounded chunk number_line lawful

-- ---- expressions

-- each line is a token's, and each site is one of those that follow the first
term-bounded : (n : Names) (site : ℕ) (t : Tree) → AreLined (tree_tokens t) → site + sites t ≤ 65536 → IsBoundedTerm (term n site t)
term-bounded n site (NumberAt line value) lined room = tt
term-bounded n site (NameAt line name) lined room = tt
term-bounded n site (TidAt line) lined room = tt
term-bounded n site (SpanAt line) lined room = tt
term-bounded n site (Element line name opened index closed) lined room =
    let inside = lined-split (tree_tokens index) (mark closed sign.CloseBracket ∷ []) lined.1.1 in
    (record { line_is = lined.0; site_fits = omega arith }, term-bounded n (site + 1) index inside.0 (omega arith))
term-bounded n site (Group opened inside closed) lined room =
    term-bounded n site inside (lined-split (tree_tokens inside) (mark closed sign.CloseParen ∷ []) lined.1).0 room
term-bounded n site (Minus line operand) lined room = term-bounded n site operand lined.1 room
term-bounded n site (Binary left op line right) lined room =
    let parts = lined-split (tree_tokens left) (mark line (sign_of op) ∷ tree_tokens right) lined in
    (parts.1.0, term-bounded n site left parts.0 (omega arith), term-bounded n (site + sites left) right parts.1.1 (omega arith))

-- ---- blocks and ranges

-- the lines of a block's statements, of its closing brace and behind it
block-lined : (opened : ℕ) (body : List Token) (closed : ℕ) (after : List Token) → AreLined (block opened body closed ++ after)
    → AreLined body × IsLine closed × AreLined after
block-lined opened body closed after lined =
    let whole = lined-split (block opened body closed) after lined in
    let inside = lined-split body (mark closed sign.CloseBrace ∷ []) whole.0.1 in
    (inside.0, inside.1.0, whole.1)

-- the lines of a range's bounds and behind it
range-lined : (name_line : ℕ) (name : List ℕ) (in_line : ℕ) (from : Tree) (dots : ℕ) (to : Tree) (after : List Token)
    → AreLined (range name_line name in_line from dots to ++ after) → AreLined (tree_tokens from) × AreLined (tree_tokens to) × AreLined after
range-lined name_line name in_line from dots to after lined =
    let whole = lined-split (range name_line name in_line from dots to) after lined in
    let inside = lined-split (tree_tokens from) (mark dots sign.Dots ∷ tree_tokens to) whole.0.1.1 in
    (inside.0, inside.1.1, whole.1)

-- ---- statements

-- the declared mutexes are numbered from 1
mutex-small : (p : Place) (name : List ℕ) → length p.mutexes ≤ 63 → mutex_of p name ≤ 63
mutex-small p name few = small (number_of name p.mutexes) refl
  where
    small : (o : Option ℕ) → number_of name p.mutexes ≡ o → elim o [ None ↦ 0 | Some n ↦ n + 1 ] ≤ 63
    small None at = omega arith
    small (Some n) at = let within = (position-Some (λ x. bytes_eq x name) p.mutexes n [] at).0 in omega arith

-- faults ahead of others
pub nil_split : (xs ys : List Refusal) → xs ++ ys ≡ [] → (xs ≡ []) × (ys ≡ [])
nil_split xs ys e = (nil_left xs ys e, nil_right xs ys e)

-- statements at one place that break no rule at another
code-bounded : (p q : Place) (site : ℕ) (s : Stmts) → length p.mutexes ≤ 63 → AreLined (stmts_tokens s) → site + stmts_sites s ≤ 65536 → stmts_faults q s ≡ []
    → IsBoundedCode (code p site s)
code-bounded p q site NoMore few lined room lawful = tt
code-bounded p q site (Let line name_line name sign_line value rest) few lined room lawful =
    let parts = lined-split (tree_tokens value) (stmts_tokens rest) lined.1.1.1 in
    let free = nil_right (declared_faults q name_line name) _ lawful in
    let kept = nil_right (tree_faults q.names false value) _ free in (
      term-bounded p.names site value parts.0 (omega arith),
      code-bounded (with_local p name true) (with_local q name true) (site + sites value) rest few parts.1 (omega arith) kept,
    )
code-bounded p q site (Assign line name sign_line value rest) few lined room lawful =
    let parts = lined-split (tree_tokens value) (stmts_tokens rest) lined.1.1 in
    let known = nil_right (assigned_faults q line name) _ lawful in
    let kept = nil_right (tree_faults q.names false value) _ known in
    (term-bounded p.names site value parts.0 (omega arith), code-bounded p q (site + sites value) rest few parts.1 (omega arith) kept)
code-bounded p q site (Store line name opened index closed sign_line value rest) few lined room lawful =
    let behind = mark closed sign.CloseBracket ∷ mark sign_line sign.Assign ∷ tree_tokens value ++ stmts_tokens rest in
    let first = lined-split (tree_tokens index) behind lined.1.1 in
    let second = lined-split (tree_tokens value) (stmts_tokens rest) first.1.1.1 in
    let known = nil_right (array_faults q.names false line name) _ lawful in
    let indexed = nil_right (tree_faults q.names false index) _ known in
    let kept = nil_right (tree_faults q.names false value) _ indexed in (
      record { line_is = lined.0; site_fits = omega arith },
      term-bounded p.names (site + 1) index first.0 (omega arith),
      term-bounded p.names (site + 1 + sites index) value second.0 (omega arith),
      code-bounded p q (site + 1 + sites index + sites value) rest few second.1 (omega arith) kept,
    )
code-bounded p q site (Update line name_line name opened index closed minus sign_line value rest) few lined room lawful =
    let behind = mark closed sign.CloseBracket ∷ mark sign_line (update_sign minus) ∷ tree_tokens value ++ stmts_tokens rest in
    let first = lined-split (tree_tokens index) behind lined.1.1.1 in
    let second = lined-split (tree_tokens value) (stmts_tokens rest) first.1.1.1 in
    let known = nil_right (array_faults q.names false name_line name) _ lawful in
    let indexed = nil_right (tree_faults q.names false index) _ known in
    let kept = nil_right (tree_faults q.names false value) _ indexed in (
      record { line_is = lined.1.0; site_fits = omega arith },
      term-bounded p.names (site + 1) index first.0 (omega arith),
      term-bounded p.names (site + 1 + sites index) value second.0 (omega arith),
      code-bounded p q (site + 1 + sites index + sites value) rest few second.1 (omega arith) kept,
    )
code-bounded p q site (If line test opened if_true closed rest) few lined room lawful =
    let inside = site + sites test in
    let first = lined-split (tree_tokens test) (block opened (stmts_tokens if_true) closed ++ stmts_tokens rest) lined.1 in
    let parts = block-lined opened (stmts_tokens if_true) closed (stmts_tokens rest) first.1 in
    let tested = nil_right (tree_faults q.names false test) _ lawful in
    let kept = nil_split (stmts_faults (in_branch q true) if_true) _ tested in (
      term-bounded p.names site test first.0 (omega arith),
      code-bounded p (in_branch q true) inside if_true few parts.0 (omega arith) kept.0,
      tt,
      code-bounded (past p (slots if_true)) (past q (slots if_true)) (inside + stmts_sites if_true) rest few parts.2 (omega arith) kept.1,
    )
code-bounded p q site (IfElse line test opened if_true closed else_line else_opened if_false else_closed rest) few lined room lawful =
    let inside = site + sites test in
    let other = inside + stmts_sites if_true in
    let behind = reserved else_line word.Else ∷ block else_opened (stmts_tokens if_false) else_closed ++ stmts_tokens rest in
    let first = lined-split (tree_tokens test) (block opened (stmts_tokens if_true) closed ++ behind) lined.1 in
    let yes_parts = block-lined opened (stmts_tokens if_true) closed behind first.1 in
    let no_parts = block-lined else_opened (stmts_tokens if_false) else_closed (stmts_tokens rest) yes_parts.2.1 in
    let tested = nil_right (tree_faults q.names false test) _ lawful in
    let kept = nil_split (stmts_faults (in_branch q true) if_true) _ tested in
    let later = nil_split (stmts_faults (in_branch (past q (slots if_true)) true) if_false) _ kept.1 in (
      term-bounded p.names site test first.0 (omega arith),
      code-bounded p (in_branch q true) inside if_true few yes_parts.0 (omega arith) kept.0,
      code-bounded (past p (slots if_true)) (in_branch (past q (slots if_true)) true) other if_false few no_parts.0 (omega arith) later.0,
      code-bounded (past p (slots if_true + slots if_false)) (past q (slots if_true + slots if_false)) (other + stmts_sites if_false) rest few no_parts.2 (omega arith) later.1,
    )
code-bounded p q site (Loop line name_line name in_line from dots to opened body closed rest) few lined room lawful =
    let inside = site + sites from + sites to in
    let head = range-lined name_line name in_line from dots to (block opened (stmts_tokens body) closed ++ stmts_tokens rest) lined.1 in
    let parts = block-lined opened (stmts_tokens body) closed (stmts_tokens rest) head.2 in
    let turns = in_branch (with_local q name false) (not (is_fixed from to)) in
    let free = nil_right (declared_faults q name_line name) _ lawful in
    let begun = nil_right (tree_faults q.names false from) _ free in
    let ended = nil_right (tree_faults q.names false to) _ begun in
    let kept = nil_split (stmts_faults turns body) _ ended in (
      term-bounded p.names site from head.0 (omega arith),
      term-bounded p.names (site + sites from) to head.1 (omega arith),
      code-bounded (with_local p name false) turns inside body few parts.0 (omega arith) kept.0,
      code-bounded (past p (1 + slots body)) (past q (1 + slots body)) (inside + stmts_sites body) rest few parts.2 (omega arith) kept.1,
    )
code-bounded p q site (Parallel line number_line span opened body closed rest) few lined room lawful =
    let parts = block-lined opened (stmts_tokens body) closed (stmts_tokens rest) lined.1.1 in
    let open_here = nil_right (fault_if (is_some q.critical) line why.ParallelHere) _ lawful in
    let shallow = nil_right (fault_if (leb 4 q.regions) line why.Deep) _ open_here in
    let counted = nil_split (fault_if (not (is_between 1 64 span)) number_line why.Count) _ shallow in
    let small = nil_right (fault_if (ltb 64 (q.spans * count_literal span)) number_line why.Large) _ counted.1 in
    let kept = nil_split (stmts_faults (in_region q (count_literal span)) body) _ small in
    let light = nil_right (fault_if (ltb 65536 (weight body)) closed why.Large) _ kept.1 in (
      span-bounded span number_line counted.0,
      lined.0,
      parts.1,
      code-bounded p (in_region q (count_literal span)) site body few parts.0 (omega arith) kept.0,
      code-bounded (past p (slots body)) (past q (slots body)) (site + stmts_sites body) rest few parts.2 (omega arith) light,
    )
code-bounded p q site (For line name_line name in_line from dots to schedule nowait opened body closed rest) few lined room lawful =
    let inside = site + sites from + sites to in
    let tail = block opened (stmts_tokens body) closed ++ stmts_tokens rest in
    let head = range-lined name_line name in_line from dots to (schedule_tokens schedule ++ (nowait_tokens nowait ++ tail)) lined.1 in
    let waits = lined-split (schedule_tokens schedule) (nowait_tokens nowait ++ tail) head.2 in
    let parts = block-lined opened (stmts_tokens body) closed (stmts_tokens rest) (lined-split (nowait_tokens nowait) tail waits.1).1 in
    let in_place = nil_right (fault_if (is_misplaced q) line why.WorkHere) _ lawful in
    let even = nil_right (fault_if q.uneven line why.NotUniform) _ in_place in
    let free = nil_right (declared_faults q name_line name) _ even in
    let begun = nil_right (tree_faults q.names true from) _ free in
    let ended = nil_right (tree_faults q.names true to) _ begun in
    let scheduled = nil_split (schedule_faults schedule) _ ended in
    let kept = nil_split (stmts_faults (in_work (with_local q name false)) body) _ scheduled.1 in (
      term-bounded p.names site from head.0 (omega arith),
      term-bounded p.names (site + sites from) to head.1 (omega arith),
      schedule-bounded schedule scheduled.0,
      lined.0,
      parts.1,
      code-bounded (with_local p name false) (in_work (with_local q name false)) inside body few parts.0 (omega arith) kept.0,
      code-bounded (past p (1 + slots body)) (past q (1 + slots body)) (inside + stmts_sites body) rest few parts.2 (omega arith) kept.1,
    )
code-bounded p q site (Barrier line rest) few lined room lawful =
    let in_place = nil_right (fault_if (is_misplaced q) line why.BarrierHere) _ lawful in
    let even = nil_right (fault_if q.uneven line why.NotUniform) _ in_place in
    (lined.0, code-bounded p q site rest few lined.1 room even)
code-bounded p q site (Critical line opened body closed rest) few lined room lawful =
    let parts = block-lined opened (stmts_tokens body) closed (stmts_tokens rest) lined.1 in
    let ordered = nil_right (critical_faults q line 0) _ lawful in
    let kept = nil_split (stmts_faults (in_critical q 0) body) _ ordered in (
      omega arith,
      lined.0,
      parts.1,
      code-bounded p (in_critical q 0) site body few parts.0 (omega arith) kept.0,
      code-bounded (past p (slots body)) (past q (slots body)) (site + stmts_sites body) rest few parts.2 (omega arith) kept.1,
    )
code-bounded p q site (CriticalOf line name_line name opened body closed rest) few lined room lawful =
    let parts = block-lined opened (stmts_tokens body) closed (stmts_tokens rest) lined.1.1 in
    let known = nil_right (fault_if (not (is_among name q.mutexes)) line why.Unknown) _ lawful in
    let ordered = nil_right (critical_faults q line (mutex_of q name)) _ known in
    let kept = nil_split (stmts_faults (in_critical q (mutex_of q name)) body) _ ordered in (
      mutex-small p name few,
      lined.0,
      parts.1,
      code-bounded p (in_critical q (mutex_of q name)) site body few parts.0 (omega arith) kept.0,
      code-bounded (past p (slots body)) (past q (slots body)) (site + stmts_sites body) rest few parts.2 (omega arith) kept.1,
    )

-- ---- declarations

-- arrays and mutexes within the limits
record AreWithin (arrays : List Array) (mutexes : List (List ℕ)) : Type 0 where
  limits : IsWithinLimits arrays
  widths : All HasWidth arrays
  few : length mutexes ≤ 63

-- the four widths, by which name is there
width-chosen : (a b c d : Bool) (line : ℕ) (o : Option ℕ) → cond a (Some 1) (cond b (Some 2) (cond c (Some 4) (cond d (Some 8) None))) ≡ o → fault_if (is_none o) line why.Width ≡ []
    → IsWidth (unwrap_or o 0)
width-chosen true b c d line o e lawful = subst (λ (o : Option ℕ). IsWidth (unwrap_or o 0)) e (inl refl)
width-chosen false true c d line o e lawful = subst (λ (o : Option ℕ). IsWidth (unwrap_or o 0)) e (inr (inl refl))
width-chosen false false true d line o e lawful = subst (λ (o : Option ℕ). IsWidth (unwrap_or o 0)) e (inr (inr (inl refl)))
width-chosen false false false true line o e lawful = subst (λ (o : Option ℕ). IsWidth (unwrap_or o 0)) e (inr (inr (inr refl)))
width-chosen false false false false line None e lawful = absurd cc
width-chosen false false false false line (Some n) e lawful = absurd cc

-- a width that breaks no rule
width-bounded : (name : List ℕ) (line : ℕ) → fault_if (is_none (width_of name)) line why.Width ≡ [] → IsWidth (unwrap_or (width_of name) 0)
width-bounded name line lawful =
    width-chosen (bytes_eq name (codes "i8")) (bytes_eq name (codes "i16")) (bytes_eq name (codes "i32")) (bytes_eq name (codes "i64")) line (width_of name) refl lawful

-- one array more
array-within : (arrays : List Array) (mutexes : List (List ℕ)) (a : Array) (name_line count_line : ℕ) → AreWithin arrays mutexes → IsWidth a.width
    → fault_if (leb 64 (length arrays)) name_line why.Large ≡ [] → fault_if (ltb 1048576 (elements arrays + a.count)) count_line why.Large ≡ []
    → AreWithin (arrays ++ a ∷ []) mutexes
array-within arrays mutexes a name_line count_line within width room small =
    let free = leb-false 64 (length arrays) (fault_if-none (leb 64 (length arrays)) name_line why.Large room) in
    let total = ltb-false 1048576 (elements arrays + a.count) (fault_if-none (ltb 1048576 (elements arrays + a.count)) count_line why.Large small) in
    let longer = length-append arrays (a ∷ []) in
    let more = sum_by_push (λ (b : Array). b.count) arrays a in
    record {
      limits = record { few = omega arith; small = omega arith };
      widths = All-push HasWidth arrays a within.widths width;
      few = within.few;
    }

-- one mutex more
mutex-within : (arrays : List Array) (mutexes : List (List ℕ)) (name : List ℕ) (name_line : ℕ) → AreWithin arrays mutexes
    → fault_if (leb 63 (length mutexes)) name_line why.Large ≡ [] → AreWithin arrays (mutexes ++ name ∷ [])
mutex-within arrays mutexes name name_line within room =
    let free = leb-false 63 (length mutexes) (fault_if-none (leb 63 (length mutexes)) name_line why.Large room) in
    let longer = length-append mutexes (name ∷ []) in
    record { limits = within.limits; widths = within.widths; few = omega arith }

-- declarations behind others
declared-within : (ds : List Declaration) (arrays : List Array) (mutexes : List (List ℕ)) → AreWithin arrays mutexes → declarations_faults arrays mutexes ds ≡ []
    → AreWithin (arrays ++ arrays_of ds) (mutexes ++ mutex_names ds)
declared-within [] arrays mutexes within lawful =
    subst (λ (x : List Array). AreWithin x (mutexes ++ [])) (sym (append-nil arrays)) (subst (AreWithin arrays) (sym (append-nil mutexes)) within)
declared-within (ArrayOf line name_line name width_line width count_line count ∷ ds) arrays mutexes within lawful =
    let a = array_of name (unwrap_or (width_of width) 0) count in
    let free = nil_right (fault_if (is_array name arrays || is_among name mutexes) name_line why.Twice) _ lawful in
    let room = nil_split (fault_if (leb 64 (length arrays)) name_line why.Large) _ free in
    let wide = nil_split (fault_if (is_none (width_of width)) width_line why.Width) _ room.1 in
    let counted = nil_right (fault_if (not (is_between 1 1048576 count)) count_line why.Count) _ wide.1 in
    let small = nil_split (fault_if (ltb 1048576 (elements arrays + count_literal count)) count_line why.Large) _ counted in
    let more = array-within arrays mutexes a name_line count_line within (width-bounded width width_line wide.0) room.0 small.0 in
    subst (λ (x : List Array). AreWithin x (mutexes ++ mutex_names ds)) (append_assoc arrays (a ∷ []) (arrays_of ds))
    (declared-within ds (arrays ++ a ∷ []) mutexes more small.1)
declared-within (MutexOf line name_line name ∷ ds) arrays mutexes within lawful =
    let free = nil_right (fault_if (is_array name arrays || is_among name mutexes) name_line why.Twice) _ lawful in
    let room = nil_split (fault_if (leb 63 (length mutexes)) name_line why.Large) _ free in
    subst (AreWithin (arrays ++ arrays_of ds)) (append_assoc mutexes (name ∷ []) (mutex_names ds))
    (declared-within ds arrays (mutexes ++ name ∷ []) (mutex-within arrays mutexes name name_line within room.0) room.1)

-- ---- kernels

-- the declarations of a kernel that breaks no rule
kernel-within : (k : KernelTree) → kernel_faults k ≡ [] → AreWithin (arrays_of k.declarations) (mutex_names k.declarations)
kernel-within k lawful =
    declared-within k.declarations [] [] (record { limits = record { few = omega arith; small = omega arith }; widths = All-nil HasWidth; few = omega arith })
    (nil_left (declarations_faults [] [] k.declarations) _ lawful)

-- the kernel of a tree of so few tokens that breaks no rule
program-bounded : (k : KernelTree) → AreLined (kernel_tokens k) → length (kernel_tokens k) ≤ 65536 → kernel_faults k ≡ [] → IsBounded (program k)
program-bounded k lined few lawful =
    let arrays = arrays_of k.declarations in
    let main = reserved k.line word.Main ∷ block k.opened (stmts_tokens k.body) k.closed in
    let within = kernel-within k lawful in
    let limits = within.limits in
    let behind = (lined-split (declarations_tokens k.declarations) main lined).1 in
    let body = lined-split (stmts_tokens k.body) (mark k.closed sign.CloseBrace ∷ []) behind.1.1 in
    let room : 0 + stmts_sites k.body ≤ 65536 = omega (arith, kernel-room k few) in
    record {
      limits = record { few = omega (arith, limits.few, length-laid arrays); small = omega (arith, limits.small, elements-laid arrays) };
      widths = widths-laid arrays within.widths;
      placed = sym (laid-laid arrays);
      line = behind.0;
      end_line = body.1.0;
      body = code-bounded (at_main k.declarations) (at_main k.declarations) 0 k.body within.few body.0 room (nil_right (declarations_faults [] [] k.declarations) _ lawful);
    }

-- the kernel of a text is within the bounds
pub kernels_are_bounded : (text : List ℕ) (p : Program) → IsKernelOf text p → IsBounded p
kernels_are_bounded text p k =
    let ts = kernel_tokens k.tree in
    subst IsBounded (sym k.resolved) (program-bounded k.tree (tokens_of-lined text ts k.tokens) (tokens_of-few text ts k.tokens) k.lawful)
