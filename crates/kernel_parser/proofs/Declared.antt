-- Declarations one after the other, as a loop reads them.
use Rattle.std.proofs.Common.{◌≡◌, ℕ, List, [], ◌∷◌, ◌++◌, Option, Some, None, Bor, refl, sym, ap, ◌∙◌, append_assoc, append-nil}
use Rattle.std.specs.Prelude.{map}
use Rattle.std.proofs.lemmas.List.{map-append}
use Rattle.kernel_text.specs.declared.token.Word.TheVariants as word
use Rattle.kernel_text.specs.declared.token.Token.{Token}
use Rattle.kernel_text.specs.Grammar.{reserved, Declaration, declaration_tokens, declarations_tokens, Stmts, KernelTree}
use Rattle.kernel_parser.specs.declared.tree.Declaration as code
use Rattle.kernel_parser.specs.Trees.{declaration_of}
use Rattle.kernel_parser.specs.Parsing.{IsDeclared}

-- these declarations are left, behind the ones that were made
pub record AreLeft (ds : List Declaration) (line : ℕ) (after : List Token) (made : List code.Declaration) (ts : List Token) : Type 0 where
  pub rest : List Declaration
  pub whole : map declaration_of made ++ rest ≡ ds
  pub parts : ts ≡ declarations_tokens rest ++ reserved line word.Main ∷ after

abbrev pub LeavesDeclarations : List Token → List code.Declaration → List Token → Type 0
LeavesDeclarations ts made left = (ds : List Declaration) (line : ℕ) (after : List Token) → ts ≡ declarations_tokens ds ++ reserved line word.Main ∷ after → AreLeft ds line after made left

-- what stands before the rest of them is one, or `main`
abbrev pub TellsDeclaration : Token → List Token → Option (code.Declaration × Bor (List Token)) → Type 0
TellsDeclaration t ts r = (d : Declaration) (after : List Token) → t ∷ ts ≡ declaration_tokens d ++ after → IsDeclared d after r

abbrev pub TellsEnd : Token → Option (code.Declaration × Bor (List Token)) → Type 0
TellsEnd t r = (line : ℕ) → t ≡ reserved line word.Main → r ≡ None

pub declaration-steps : (all : List Token) (made more : List code.Declaration) (ts us : List Token) (t : Token) (x : code.Declaration × Bor (List Token)) → LeavesDeclarations all made ts → ts ≡ t ∷ us
    → TellsDeclaration t us (Some x) → TellsEnd t (Some x) → more ≡ made ++ x.0 ∷ [] → LeavesDeclarations all more x.1.now
declaration-steps all made more ts us t x leaves split tells ends more_is ds line after is =
    let l = leaves ds line after is in next l.rest l.whole (sym split ∙ l.parts)
  where
    next : (rest : List Declaration) → map declaration_of made ++ rest ≡ ds → t ∷ us ≡ declarations_tokens rest ++ reserved line word.Main ∷ after → AreLeft ds line after more x.1.now
    next [] whole e = let first : t ≡ reserved line word.Main = cc in let none = ends line first in absurd cc
    next (d ∷ rest) whole e =
        let r = tells d (declarations_tokens rest ++ reserved line word.Main ∷ after) (e ∙ append_assoc (declaration_tokens d) (declarations_tokens rest) _) in
        record {
          rest = rest;
          whole = ap (λ (xs : List code.Declaration). map declaration_of xs ++ rest) more_is ∙ ap (λ (ys : List Declaration). ys ++ rest) (map-append declaration_of made (x.0 ∷ []))
              ∙ append_assoc (map declaration_of made) (declaration_of x.0 ∷ []) rest ∙ ap (λ (y : Declaration). map declaration_of made ++ y ∷ rest) r.0 ∙ whole;
          parts = r.1;
        }

pub declarations-end : (all : List Token) (made : List code.Declaration) (ts us : List Token) (t : Token) → LeavesDeclarations all made ts → ts ≡ t ∷ us → TellsDeclaration t us None
    → (ds : List Declaration) (line : ℕ) (after : List Token) → all ≡ declarations_tokens ds ++ reserved line word.Main ∷ after → (map declaration_of made ≡ ds) × (ts ≡ reserved line word.Main ∷ after)
declarations-end all made ts us t leaves split tells ds line after is =
    let l = leaves ds line after is in last l.rest l.whole l.parts
  where
    last : (rest : List Declaration) → map declaration_of made ++ rest ≡ ds → ts ≡ declarations_tokens rest ++ reserved line word.Main ∷ after → (map declaration_of made ≡ ds) × (ts ≡ reserved line word.Main ∷ after)
    last [] whole e = (sym (append-nil (map declaration_of made)) ∙ whole, e)
    last (d ∷ rest) whole e = absurd (tells d (declarations_tokens rest ++ reserved line word.Main ∷ after) (sym split ∙ (e ∙ append_assoc (declaration_tokens d) (declarations_tokens rest) _)))

-- a kernel by its parts
pub kernel-is : (k : KernelTree) (made : List Declaration) (line opened : ℕ) (body : Stmts) (closed : ℕ) → made ≡ k.declarations → line ≡ k.line → opened ≡ k.opened → body ≡ k.body → closed ≡ k.closed
    → record { declarations = made; line = line; opened = opened; body = body; closed = closed } ≡ k
kernel-is k made line opened body closed made_is line_is opened_is body_is closed_is = rw (made_is, line_is, opened_is, body_is, closed_is) refl
