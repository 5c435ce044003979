-- What each kind of statement holds, and what is left of a body after its first statements.
use Rattle.std.proofs.Common.{◌≡◌, refl, ap, sym, ◌∙◌, ℕ, ◌+◌, ◌<◌, Bool, true, false, List, [], ◌∷◌, ◌++◌, length, drop, get_or, append_assoc, zero, suc, ◌≤◌, ℤ, pos, negsuc, ◌+ℤ◌, ◌-ℤ◌, ◌≤ℤ◌, ◌<ℤ◌, arith}
use Rattle.std.proofs.lemmas.Int.{ints}
use Rattle.std.specs.Prelude.{◌||◌, map}
use Rattle.std.proofs.lemmas.List.{drop_more, drop_all, append-nil, map-append}
use Rattle.team_phases.specs.declared.unrolling.Piece.{Piece}
use Rattle.team_phases.specs.Pieces.{part_of_piece}
use Rattle.kernel_syntax.specs.declared.syntax.Stmt.{Stmt}
use Rattle.kernel_syntax.specs.Program.{code_of, stmt_code}
use Rattle.kernel_syntax.specs.Tree.{Done}
use Rattle.kernel_model.specs.Lawful.{code_holds_work}
use Rattle.kernel_model.specs.Parts.{Part, Set, unrolled, parts_of}
use Rattle.kernel_model.specs.Iterations.{count_of, total_of}
use Rattle.kernel_rules.proofs.RunningParts.{parts_of-first, code_holds_work-first}

-- a statement, and the statements after it
rest_at : (items : List Stmt) (i : ℕ) (x : Stmt) → i < length items → x ≡ get_or items i x →
    code_of (drop i items) ≡ stmt_code x (code_of (drop (i + 1) items))
rest_at items i x within is = ap code_of (drop_more items i x within ∙ ap (λ (y : Stmt). y ∷ drop (i + 1) items) (sym is))

-- a statement that holds no work, and the statements after it
pub skips_work : (items : List Stmt) (i : ℕ) (x : Stmt) → i < length items → x ≡ get_or items i x → code_holds_work (stmt_code x Done) ≡ false →
    code_holds_work (code_of (drop i items)) ≡ code_holds_work (code_of (drop (i + 1) items))
skips_work items i x within is free =
    ap code_holds_work (rest_at items i x within is)
    ∙ code_holds_work-first x (code_of (drop (i + 1) items))
    ∙ ap (λ (b : Bool). b || code_holds_work (code_of (drop (i + 1) items))) free

-- one that holds work
pub finds_work : (items : List Stmt) (i : ℕ) (x : Stmt) → i < length items → x ≡ get_or items i x → code_holds_work (stmt_code x Done) ≡ true →
    code_holds_work (code_of (drop i items)) ≡ true
finds_work items i x within is free =
    ap code_holds_work (rest_at items i x within is)
    ∙ code_holds_work-first x (code_of (drop (i + 1) items))
    ∙ ap (λ (b : Bool). b || code_holds_work (code_of (drop (i + 1) items))) free

-- the parts of a statement, and of the statements after it
pub parts_at : (items : List Stmt) (i : ℕ) (x : Stmt) (before after all : List Part) → i < length items → x ≡ get_or items i x →
    before ++ parts_of (code_of (drop i items)) ≡ all → after ≡ before ++ parts_of (stmt_code x Done) →
    after ++ parts_of (code_of (drop (i + 1) items)) ≡ all
parts_at items i x before after all within is sofar more =
    let later = parts_of (code_of (drop (i + 1) items)) in
    ap (λ (ps : List Part). ps ++ later) more
    ∙ append_assoc before (parts_of (stmt_code x Done)) later
    ∙ ap (λ (ps : List Part). before ++ ps) (sym (ap parts_of (rest_at items i x within is) ∙ parts_of-first x (code_of (drop (i + 1) items))))
    ∙ sofar

-- ---- turns of a loop

count_none : (z : ℤ) → z ≤ℤ pos 0 → count_of z ≡ 0
count_none (pos zero) h = refl
count_none (pos (suc n)) h = absurd (omega (arith, ints))
count_none (negsuc n) h = refl

total_none : (a b : ℤ) → b ≤ℤ a → total_of a b ≡ 0
total_none a b h = count_none (b -ℤ a) (omega (arith, ints))

total_next : (a b : ℤ) → a <ℤ b → total_of a b ≡ suc (total_of (a +ℤ pos 1) b)
total_next a b h = by_gap (b -ℤ a) refl
  where
    by_gap : (z : ℤ) → b -ℤ a ≡ z → total_of a b ≡ suc (total_of (a +ℤ pos 1) b)
    by_gap (pos zero) is = absurd (omega (arith, ints))
    by_gap (pos (suc n)) is =
        let rest : b -ℤ (a +ℤ pos 1) ≡ pos n = omega (arith, ints) in
        ap count_of is ∙ ap suc (sym (ap count_of rest))
    by_gap (negsuc n) is = absurd (omega (arith, ints))

-- one turn more
pub round_next : (old new body all : List Part) (slot : ℕ) (v to : ℤ) → v <ℤ to → old ++ unrolled (total_of v to) slot v body ≡ all →
    new ≡ (old ++ Set slot v ∷ []) ++ body → new ++ unrolled (total_of (v +ℤ pos 1) to) slot (v +ℤ pos 1) body ≡ all
round_next old new body all slot v to more sofar one =
    let later = unrolled (total_of (v +ℤ pos 1) to) slot (v +ℤ pos 1) body in
    ap (λ ps. ps ++ later) one
    ∙ append_assoc (old ++ Set slot v ∷ []) body later
    ∙ append_assoc old (Set slot v ∷ []) (body ++ later)
    ∙ ap (λ n. old ++ unrolled n slot v body) (sym (total_next v to more))
    ∙ sofar

-- no turn more
pub round_last : (old body all : List Part) (slot : ℕ) (v to : ℤ) → to ≤ℤ v → old ++ unrolled (total_of v to) slot v body ≡ all → old ≡ all
round_last old body all slot v to done sofar =
    sym (append-nil old) ∙ ap (λ n. old ++ unrolled n slot v body) (sym (total_none v to done)) ∙ sofar

-- no statement more
pub stmts_last : (items : List Stmt) (i : ℕ) (old all : List Part) → length items ≤ i → old ++ parts_of (code_of (drop i items)) ≡ all → old ≡ all
stmts_last items i old all done sofar =
    sym (append-nil old) ∙ ap (λ (ss : List Stmt). old ++ parts_of (code_of ss)) (sym (drop_all i items done)) ∙ sofar

-- ---- one piece more

pub pushed : (old new : List Piece) (x : Piece) (parts : List Part) → new ≡ old ++ x ∷ [] → map part_of_piece old ≡ parts →
    map part_of_piece new ≡ parts ++ part_of_piece x ∷ []
pushed old new x parts is sofar =
    ap (map part_of_piece) is ∙ map-append part_of_piece old (x ∷ []) ∙ ap (λ (ps : List Part). ps ++ part_of_piece x ∷ []) sofar

-- a statement, and then perhaps a barrier
pub then_bar : (before more all : List Part) (part : Part) (s : Stmt) → parts_of (stmt_code s Done) ≡ part ∷ more →
    all ≡ (before ++ part ∷ []) ++ more → all ≡ before ++ parts_of (stmt_code s Done)
then_bar before more all part s is are =
    are ∙ append_assoc before (part ∷ []) more ∙ ap (λ ps. before ++ ps) (sym is)
