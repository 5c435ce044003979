-- The first construct of statements one after another.
use Rattle.std.proofs.Common.{◌≡◌, refl, ap, sym, ◌∙◌, ℕ, ◌+◌, ◌<◌, ◌≤◌, List, [], ◌∷◌, ◌++◌, length, drop, get_or, append_assoc, Option, Some, None}
use Rattle.std.specs.Prelude.{slice_get}
use Rattle.std.proofs.lemmas.List.{drop_more, drop_all, append-nil}
use Rattle.kernel_syntax.specs.declared.syntax.Stmt.{Stmt}
use Rattle.kernel_syntax.specs.Program.{code_of, stmt_code}
use Rattle.kernel_syntax.specs.Tree.{Code, Done, Set, Store, Update, If, Loop, Parallel, For, Barrier, Critical}
use Rattle.kernel_syntax.proofs.Following.{followed_by, stmt_code-first}
use Rattle.certify.specs.Constructs.{construct_lines, schedule_lines}

-- the first of two lists one after another
pub first_left : (xs ys : List ℕ) (line : ℕ) → slice_get xs 0 ≡ Some line → slice_get (xs ++ ys) 0 ≡ Some line
first_left [] ys line is = cc
first_left (x ∷ xs) ys line is = is

pub first_right : (xs ys : List ℕ) → slice_get xs 0 ≡ None → slice_get (xs ++ ys) 0 ≡ slice_get ys 0
first_right [] ys is = refl
first_right (x ∷ xs) ys is = cc

pub none_first : (xs : List ℕ) → slice_get xs 0 ≡ None → xs ≡ []
none_first [] is = refl
none_first (x ∷ xs) is = cc

lines-follow : (code later : Code) → construct_lines (followed_by code later) ≡ construct_lines code ++ construct_lines later
lines-follow Done later = refl
lines-follow (Set slot value rest) later = lines-follow rest later
lines-follow (Store array index value line site rest) later = lines-follow rest later
lines-follow (Update array index value minus line site rest) later = ap (λ (l : List ℕ). line ∷ l) (lines-follow rest later)
lines-follow (If test if_true if_false rest) later = below (construct_lines if_true ++ construct_lines if_false) rest later (lines-follow rest later)
  where
    below : (one : List ℕ) (rest later : Code) → construct_lines (followed_by rest later) ≡ construct_lines rest ++ construct_lines later
        → one ++ construct_lines (followed_by rest later) ≡ (one ++ construct_lines rest) ++ construct_lines later
    below one rest later is = ap (λ (l : List ℕ). one ++ l) is ∙ sym (append_assoc one (construct_lines rest) (construct_lines later))
lines-follow (Loop slot from to body rest) later =
    ap (λ (l : List ℕ). construct_lines body ++ l) (lines-follow rest later) ∙ sym (append_assoc (construct_lines body) (construct_lines rest) (construct_lines later))
lines-follow (Parallel span line end body rest) later =
    ap (λ (l : List ℕ). construct_lines body ++ l) (lines-follow rest later) ∙ sym (append_assoc (construct_lines body) (construct_lines rest) (construct_lines later))
lines-follow (For slot from to schedule nowait line end body rest) later =
    let one = schedule_lines schedule line ++ construct_lines body in
    ap (λ (l : List ℕ). one ++ l) (lines-follow rest later) ∙ sym (append_assoc one (construct_lines rest) (construct_lines later))
lines-follow (Barrier line rest) later = lines-follow rest later
lines-follow (Critical mutex line end body rest) later =
    let one = line ∷ construct_lines body in
    ap (λ (l : List ℕ). one ++ l) (lines-follow rest later) ∙ sym (append_assoc one (construct_lines rest) (construct_lines later))

lines_at : (items : List Stmt) (i : ℕ) (x : Stmt) → i < length items → x ≡ get_or items i x
    → construct_lines (code_of (drop i items)) ≡ construct_lines (stmt_code x Done) ++ construct_lines (code_of (drop (i + 1) items))
lines_at items i x within is =
    ap (λ (ss : List Stmt). construct_lines (code_of ss)) (drop_more items i x within ∙ ap (λ (y : Stmt). y ∷ drop (i + 1) items) (sym is))
    ∙ ap construct_lines (stmt_code-first x (code_of (drop (i + 1) items)))
    ∙ lines-follow (stmt_code x Done) (code_of (drop (i + 1) items))

-- a statement with a construct, and one without, before others
pub finds_line : (items : List Stmt) (i : ℕ) (x : Stmt) (line : ℕ) → i < length items → x ≡ get_or items i x → slice_get (construct_lines (stmt_code x Done)) 0 ≡ Some line
    → slice_get (construct_lines (code_of (drop i items))) 0 ≡ Some line
finds_line items i x line within is found =
    ap (λ (l : List ℕ). slice_get l 0) (lines_at items i x within is) ∙ first_left (construct_lines (stmt_code x Done)) (construct_lines (code_of (drop (i + 1) items))) line found

pub skips_lines : (items : List Stmt) (i : ℕ) (x : Stmt) → i < length items → x ≡ get_or items i x → slice_get (construct_lines (stmt_code x Done)) 0 ≡ None
    → slice_get (construct_lines (code_of (drop i items))) 0 ≡ slice_get (construct_lines (code_of (drop (i + 1) items))) 0
skips_lines items i x within is none =
    ap (λ (l : List ℕ). slice_get l 0) (lines_at items i x within is) ∙ first_right (construct_lines (stmt_code x Done)) (construct_lines (code_of (drop (i + 1) items))) none
