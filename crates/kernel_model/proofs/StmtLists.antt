-- Lists of statements: a statement among them, and what holds of each where it holds of all.
use Rattle.std.proofs.Common.{◌≡◌, ap, sym, ◌∙◌, ℕ, zero, suc, ◌+◌, ◌<◌, List, [], ◌∷◌, ◌++◌, Some, subst}
use Rattle.std.specs.Prelude.{slice_get, get_or, length, take, drop}
use Rattle.std.proofs.lemmas.List.{take_more, drop_more, take-append-drop}
use Rattle.std.proofs.lemmas.Option.{same_Some}
use Rattle.kernel_syntax.specs.declared.syntax.Stmt.{Stmt}
use Rattle.kernel_syntax.specs.Program.{stmt_code, code_of}
use Rattle.kernel_syntax.specs.Tree.{Code, Done, Set, Store, Update, If, Loop, Parallel, For, Barrier, Critical}
use Rattle.kernel_syntax.specs.Bounds.{IsBoundedCode}
use Rattle.kernel_syntax.proofs.Following.{followed_by, stmt_code-first}

pub split_at : (xs : List Stmt) (i : ℕ) (x : Stmt) → i < length xs → x ≡ get_or xs i x → xs ≡ take i xs ++ x ∷ drop (i + 1) xs
split_at xs i x within is =
    sym (take-append-drop i xs)
    ∙ ap (λ (l : List Stmt). take i xs ++ l) (drop_more xs i x within ∙ ap (λ (y : Stmt). y ∷ drop (i + 1) xs) (sym is))

pub grown : (xs : List Stmt) (i : ℕ) (x : Stmt) → i < length xs → x ≡ get_or xs i x → take (i + 1) xs ≡ take i xs ++ x ∷ []
grown xs i x within is = take_more xs i x within ∙ ap (λ (y : Stmt). take i xs ++ y ∷ []) (sym is)

bounded_both : (code later : Code) → IsBoundedCode (followed_by code later) → IsBoundedCode code × IsBoundedCode later
bounded_both Done later b = (tt, b)
bounded_both (Set slot value rest) later b = let r = bounded_both rest later b.1 in ((b.0, r.0), r.1)
bounded_both (Store array index value line site rest) later b = let r = bounded_both rest later b.3 in ((b.0, b.1, b.2, r.0), r.1)
bounded_both (Update array index value minus line site rest) later b = let r = bounded_both rest later b.3 in ((b.0, b.1, b.2, r.0), r.1)
bounded_both (If test if_true if_false rest) later b = let r = bounded_both rest later b.3 in ((b.0, b.1, b.2, r.0), r.1)
bounded_both (Loop slot from to body rest) later b = let r = bounded_both rest later b.3 in ((b.0, b.1, b.2, r.0), r.1)
bounded_both (Parallel span line end body rest) later b = let r = bounded_both rest later b.4 in ((b.0, b.1, b.2, b.3, r.0), r.1)
bounded_both (For slot from to schedule nowait line end body rest) later b = let r = bounded_both rest later b.6 in ((b.0, b.1, b.2, b.3, b.4, b.5, r.0), r.1)
bounded_both (Barrier line rest) later b = let r = bounded_both rest later b.1 in ((b.0, r.0), r.1)
bounded_both (Critical mutex line end body rest) later b = let r = bounded_both rest later b.4 in ((b.0, b.1, b.2, b.3, r.0), r.1)

-- a fact that both of two lists of statements have where they have it together
module _ (P : Code → Type 0) (both : (code later : Code) → P (followed_by code later) → P code × P later) where
  pub each_has : (stmts : List Stmt) (k : ℕ) (x : Stmt) → slice_get stmts k ≡ Some x → P (code_of stmts) → P (stmt_code x Done)
  each_has [] k x found p = cc
  each_has (y ∷ stmts) zero x found p = subst (λ (z : Stmt). P (stmt_code z Done)) (same_Some y x found) (both (stmt_code y Done) (code_of stmts) (subst P (stmt_code-first y (code_of stmts)) p)).0
  each_has (y ∷ stmts) (suc k) x found p = each_has stmts k x found (both (stmt_code y Done) (code_of stmts) (subst P (stmt_code-first y (code_of stmts)) p)).1

pub bounded_at : (stmts : List Stmt) (k : ℕ) (x : Stmt) → slice_get stmts k ≡ Some x → IsBoundedCode (code_of stmts) → IsBoundedCode (stmt_code x Done)
bounded_at = each_has IsBoundedCode bounded_both
