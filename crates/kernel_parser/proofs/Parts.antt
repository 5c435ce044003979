-- How a part of an expression is read: an operand, and then operators with their right operands.
use Rattle.std.proofs.Common.{◌≡◌, ℕ, ◌-◌, ◌<◌, ◌≤◌, List, [], ◌∷◌, ◌++◌, refl, sym, ap, subst, ◌∙◌, append_assoc, arith}
use Rattle.std.specs.Prelude.{ℤ}
use Rattle.kernel_text.proofs.UnfoldingOperators.{same-op}
use Rattle.kernel_syntax.specs.declared.syntax.Op.{Op}
use Rattle.kernel_text.specs.declared.token.Word.{Word}
use Rattle.kernel_text.specs.declared.token.Word.TheVariants as word
use Rattle.kernel_text.specs.declared.token.Sign.{Sign}
use Rattle.kernel_text.specs.declared.token.Sign.TheVariants as sign
use Rattle.kernel_text.specs.declared.token.Lexeme.{Lexeme}
use Rattle.kernel_text.specs.declared.token.Lexeme.TheVariants.{Named, Number, Reserved, Mark}
use Rattle.kernel_text.specs.declared.token.Token.{Token}
use Rattle.kernel_text.specs.Grammar.{Tree, NumberAt, NameAt, TidAt, SpanAt, Element, Group, Minus, Binary, Derives, depth, tree_tokens, rank_of, left_rank, right_rank, sign_of, unary, expr, named, number, reserved, mark}
use Rattle.kernel_text.proofs.Operators.{ranks}
use Rattle.kernel_parser.specs.Parsing.{IsPart, Stops, StartsWith}
use Rattle.kernel_parser.proofs.Signs.{heads-is, begins-with, stops-at, stops-operator, stops-below, stops-less, no-bracket-behind}

pub part-at : (rank levels : ℕ) (ts us : List Token) (t : Tree) (after : List Token) → us ≡ ts → IsPart rank levels ts t after → IsPart rank levels us t after
part-at rank levels ts us t after e is = rw e is

-- ---- operands

-- an operand by its first lexeme
pub data Starts : Lexeme → Tree → Type 0 where
  IsNumber : (line : ℕ) → (value : ℤ) → Starts (Number value) (NumberAt line value)
  IsName : (line : ℕ) → (name : List ℕ) → Starts (Named name) (NameAt line name)
  IsTid : (line : ℕ) → Starts (Reserved word.Tid) (TidAt line)
  IsSpan : (line : ℕ) → Starts (Reserved word.Span) (SpanAt line)
  IsElement : (line : ℕ) → (name : List ℕ) → (opened : ℕ) → (index : Tree) → (closed : ℕ) → Starts (Named name) (Element line name opened index closed)
  IsGroup : (opened : ℕ) → (inside : Tree) → (closed : ℕ) → Starts (Mark sign.OpenParen) (Group opened inside closed)
  IsMinus : (line : ℕ) → (operand : Tree) → Starts (Mark sign.Minus) (Minus line operand)

no-binary : (o : Op) → rank_of o ≤ unary → ⊥
no-binary o le = let r = ranks o in absurd (omega (arith, r.some, le))

pub starts : (t : Tree) (x : Token) (xs after : List Token) → x ∷ xs ≡ tree_tokens t ++ after → Derives unary t → Starts x.lexeme t
starts (NumberAt line value) x xs after e d = let a = heads-is _ _ _ _ e in rw a.1 (IsNumber line value)
starts (NameAt line name) x xs after e d = let a = heads-is _ _ _ _ e in rw a.1 (IsName line name)
starts (TidAt line) x xs after e d = let a = heads-is _ _ _ _ e in rw a.1 (IsTid line)
starts (SpanAt line) x xs after e d = let a = heads-is _ _ _ _ e in rw a.1 (IsSpan line)
starts (Element line name opened index closed) x xs after e d = let a = heads-is _ _ _ _ e in rw a.1 (IsElement line name opened index closed)
starts (Group opened inside closed) x xs after e d = let a = heads-is _ _ _ _ e in rw a.1 (IsGroup opened inside closed)
starts (Minus line operand) x xs after e d = let a = heads-is _ _ _ _ e in rw a.1 (IsMinus line operand)
starts (Binary left o line right) x xs after e d = absurd (no-binary o d.0)

-- an operand has a token
pub never-none : (t : Tree) (levels : ℕ) (ts after : List Token) → ts ≡ [] → IsPart unary levels ts t after → ⊥
never-none t levels ts after none is = none-is t (sym none ∙ is.parts) is.derives
  where
    none-is : (t : Tree) → [] ≡ tree_tokens t ++ after → Derives unary t → ⊥
    none-is (NumberAt line value) e d = absurd cc
    none-is (NameAt line name) e d = absurd cc
    none-is (TidAt line) e d = absurd cc
    none-is (SpanAt line) e d = absurd cc
    none-is (Element line name opened index closed) e d = absurd cc
    none-is (Group opened inside closed) e d = absurd cc
    none-is (Minus line operand) e d = absurd cc
    none-is (Binary left o line right) e d = absurd (no-binary o d.0)

pub number-is : (levels line : ℕ) (value : ℤ) (ts : List Token) (t : Tree) (after : List Token) → IsPart unary levels (number line value ∷ ts) t after → (NumberAt line value ≡ t) × (ts ≡ after)
number-is levels line value ts t after is = same t (starts t _ ts after is.parts is.derives) is.parts
  where
    same : (t : Tree) → Starts (Number value) t → number line value ∷ ts ≡ tree_tokens t ++ after → (NumberAt line value ≡ t) × (ts ≡ after)
    same _ (IsNumber line2 _) e = let a = heads-is _ _ _ _ e in (ap (λ (l : ℕ). NumberAt l value) a.0, a.2)

pub tid-is : (levels line : ℕ) (w : Word) (ts : List Token) (t : Tree) (after : List Token) → w ≡ word.Tid → IsPart unary levels (reserved line w ∷ ts) t after → (TidAt line ≡ t) × (ts ≡ after)
tid-is levels line w ts t after w_is is = same t (subst (λ (w : Word). Starts (Reserved w) t) w_is (starts t _ ts after is.parts is.derives)) is.parts
  where
    same : (t : Tree) → Starts (Reserved word.Tid) t → reserved line w ∷ ts ≡ tree_tokens t ++ after → (TidAt line ≡ t) × (ts ≡ after)
    same _ (IsTid line2) e = let a = heads-is _ _ _ _ e in (ap TidAt a.0, a.2)

pub span-is : (levels line : ℕ) (w : Word) (ts : List Token) (t : Tree) (after : List Token) → w ≡ word.Span → IsPart unary levels (reserved line w ∷ ts) t after → (SpanAt line ≡ t) × (ts ≡ after)
span-is levels line w ts t after w_is is = same t (subst (λ (w : Word). Starts (Reserved w) t) w_is (starts t _ ts after is.parts is.derives)) is.parts
  where
    same : (t : Tree) → Starts (Reserved word.Span) t → reserved line w ∷ ts ≡ tree_tokens t ++ after → (SpanAt line ≡ t) × (ts ≡ after)
    same _ (IsSpan line2) e = let a = heads-is _ _ _ _ e in (ap SpanAt a.0, a.2)

-- no other reserved name is one
pub no-word : (w : Word) (t : Tree) → (w ≡ word.Tid → ⊥) → (w ≡ word.Span → ⊥) → Starts (Reserved w) t → ⊥
no-word _ _ no_tid no_span (IsTid line) = no_tid refl
no-word _ _ no_tid no_span (IsSpan line) = no_span refl

-- nor begins another sign one
pub no-sign : (s : Sign) (t : Tree) → (s ≡ sign.Minus → ⊥) → (s ≡ sign.OpenParen → ⊥) → Starts (Mark s) t → ⊥
no-sign _ _ no_minus no_paren (IsGroup opened inside closed) = no_paren refl
no-sign _ _ no_minus no_paren (IsMinus line operand) = no_minus refl

-- a prefix sign and its operand
pub record MinusOf (levels line : ℕ) (ts : List Token) (t : Tree) (after : List Token) : Type 0 where
  pub operand : Tree
  pub whole : Minus line operand ≡ t
  pub room : 1 ≤ levels
  pub is : IsPart unary (levels - 1) ts operand after

pub minus-of : (levels line : ℕ) (ts : List Token) (t : Tree) (after : List Token) → IsPart unary levels (mark line sign.Minus ∷ ts) t after → MinusOf levels line ts t after
minus-of levels line ts t after is = same t (starts t _ ts after is.parts is.derives) is
  where
    same : (t : Tree) → Starts (Mark sign.Minus) t → IsPart unary levels (mark line sign.Minus ∷ ts) t after → MinusOf levels line ts t after
    same _ (IsMinus line2 operand) is =
        let a = heads-is _ _ _ _ is.parts in
        let low = is.flat in
        record { operand = operand; whole = ap (λ (l : ℕ). Minus l operand) a.0; room = omega (arith, low); is = record { parts = a.2; derives = is.derives; flat = omega (arith, low); ends = is.ends } }

-- an expression in brackets
pub record GroupOf (levels opened : ℕ) (ts : List Token) (t : Tree) (after : List Token) : Type 0 where
  pub inside : Tree
  pub closed : ℕ
  pub whole : Group opened inside closed ≡ t
  pub room : 1 ≤ levels
  pub is : IsPart expr (levels - 1) ts inside (mark closed sign.CloseParen ∷ after)

pub group-of : (levels opened : ℕ) (ts : List Token) (t : Tree) (after : List Token) → IsPart unary levels (mark opened sign.OpenParen ∷ ts) t after → GroupOf levels opened ts t after
group-of levels opened ts t after is = same t (starts t _ ts after is.parts is.derives) is
  where
    same : (t : Tree) → Starts (Mark sign.OpenParen) t → IsPart unary levels (mark opened sign.OpenParen ∷ ts) t after → GroupOf levels opened ts t after
    same _ (IsGroup opened2 inside closed) is =
        let a = heads-is _ _ _ _ is.parts in
        let low = is.flat in
        record {
          inside = inside;
          closed = closed;
          whole = ap (λ (l : ℕ). Group l inside closed) a.0;
          room = omega (arith, low);
          is = record { parts = a.2 ∙ append_assoc (tree_tokens inside) (mark closed sign.CloseParen ∷ []) after; derives = is.derives; flat = omega (arith, low); ends = stops-at expr _ (refl, refl) };
        }

-- a name with its index
pub record ElementOf (levels line : ℕ) (name : List ℕ) (ts : List Token) (t : Tree) (after : List Token) : Type 0 where
  pub opened : ℕ
  pub index : Tree
  pub closed : ℕ
  pub inner : List Token
  pub whole : Element line name opened index closed ≡ t
  pub room : 1 ≤ levels
  pub parts : ts ≡ mark opened sign.OpenBracket ∷ inner
  pub is : IsPart expr (levels - 1) inner index (mark closed sign.CloseBracket ∷ after)

-- a name without one
pub name-alone : (levels line : ℕ) (name : List ℕ) (ts : List Token) (t : Tree) (after : List Token) → (StartsWith (Mark sign.OpenBracket) ts → ⊥) → IsPart unary levels (named line name ∷ ts) t after → (NameAt line name ≡ t) × (ts ≡ after)
name-alone levels line name ts t after none is = same t (starts t _ ts after is.parts is.derives) is.parts
  where
    same : (t : Tree) → Starts (Named name) t → named line name ∷ ts ≡ tree_tokens t ++ after → (NameAt line name ≡ t) × (ts ≡ after)
    same _ (IsName line2 _) e = let a = heads-is _ _ _ _ e in (ap (λ (l : ℕ). NameAt l name) a.0, a.2)
    same _ (IsElement line2 _ opened index closed) e = let a = heads-is _ _ _ _ e in absurd (none (begins-with (mark opened sign.OpenBracket) _ ts a.2))

pub element-of : (levels line : ℕ) (name : List ℕ) (ts : List Token) (t : Tree) (after : List Token) → StartsWith (Mark sign.OpenBracket) ts → IsPart unary levels (named line name ∷ ts) t after → ElementOf levels line name ts t after
element-of levels line name ts t after some is = same t (starts t _ ts after is.parts is.derives) is
  where
    same : (t : Tree) → Starts (Named name) t → IsPart unary levels (named line name ∷ ts) t after → ElementOf levels line name ts t after
    same _ (IsName line2 _) is = let a = heads-is _ _ _ _ is.parts in absurd (no-bracket-behind unary ts after some a.2 is.ends)
    same _ (IsElement line2 _ opened index closed) is =
        let a = heads-is _ _ _ _ is.parts in
        let low = is.flat in
        record {
          opened = opened;
          index = index;
          closed = closed;
          inner = (tree_tokens index ++ mark closed sign.CloseBracket ∷ []) ++ after;
          whole = ap (λ (l : ℕ). Element l name opened index closed) a.0;
          room = omega (arith, low);
          parts = a.2;
          is = record { parts = append_assoc (tree_tokens index) (mark closed sign.CloseBracket ∷ []) after; derives = is.derives; flat = omega (arith, low); ends = stops-at expr _ (refl, refl) };
        }

-- ---- operators

-- the tree comes of its left part by the operators and operands that are left, each with its tokens
pub data Grows (rank levels : ℕ) (t : Tree) (after : List Token) : Tree → List Token → Type 0 where
  Whole : Grows rank levels t after t after
  More : (left : Tree) → (o : Op) → (line : ℕ) → (right : Tree) → (ts us : List Token) → rank_of o ≤ rank → IsPart (right_rank o) levels ts right us → Grows rank levels t after (Binary left o line right) us
      → Grows rank levels t after left (mark line (sign_of o) ∷ ts)

-- a part's first operand, and what is left of it
pub record Begun (rank levels : ℕ) (ts : List Token) (t : Tree) (after : List Token) : Type 0 where
  pub operand : Tree
  pub left : List Token
  pub is : IsPart unary levels ts operand left
  pub grows : Grows rank levels t after operand left

unwound : (rank levels : ℕ) (t : Tree) (after : List Token) (p : ℕ) (u : Tree) (ts us : List Token) → ts ≡ tree_tokens u ++ us → Derives p u → p ≤ rank → depth u ≤ levels → Stops unary us → ((q : ℕ) → q < p → Stops q us)
    → Grows rank levels t after u us → Begun rank levels ts t after
unwound rank levels t after p (NumberAt line value) ts us e d le low ends stops grows = record { operand = NumberAt line value; left = us; is = record { parts = e; derives = tt; flat = low; ends = ends }; grows = grows }
unwound rank levels t after p (NameAt line name) ts us e d le low ends stops grows = record { operand = NameAt line name; left = us; is = record { parts = e; derives = tt; flat = low; ends = ends }; grows = grows }
unwound rank levels t after p (TidAt line) ts us e d le low ends stops grows = record { operand = TidAt line; left = us; is = record { parts = e; derives = tt; flat = low; ends = ends }; grows = grows }
unwound rank levels t after p (SpanAt line) ts us e d le low ends stops grows = record { operand = SpanAt line; left = us; is = record { parts = e; derives = tt; flat = low; ends = ends }; grows = grows }
unwound rank levels t after p (Element line name opened index closed) ts us e d le low ends stops grows =
    record { operand = Element line name opened index closed; left = us; is = record { parts = e; derives = d; flat = low; ends = ends }; grows = grows }
unwound rank levels t after p (Group opened inside closed) ts us e d le low ends stops grows = record { operand = Group opened inside closed; left = us; is = record { parts = e; derives = d; flat = low; ends = ends }; grows = grows }
unwound rank levels t after p (Minus line operand) ts us e d le low ends stops grows = record { operand = Minus line operand; left = us; is = record { parts = e; derives = d; flat = low; ends = ends }; grows = grows }
unwound rank levels t after p (Binary left o line right) ts us e d le low ends stops grows =
    let r = ranks o in
    let second : IsPart (right_rank o) levels (tree_tokens right ++ us) right us = record { parts = refl; derives = d.2; flat = omega (arith, low); ends = stops (right_rank o) (omega (arith, r.right, d.0)) } in
    let more = More left o line right (tree_tokens right ++ us) us (omega (arith, d.0, le)) second grows in
    let behind : List Token = mark line (sign_of o) ∷ tree_tokens right ++ us in
    unwound rank levels t after (left_rank o) left ts behind (e ∙ append_assoc (tree_tokens left) (mark line (sign_of o) ∷ tree_tokens right) us) d.1 (omega (arith, r.left, d.0, le)) (omega (arith, low))
    (stops-operator unary o line _ (omega (arith, r.some))) (λ q less. stops-operator q o line _ (omega (arith, less, r.left))) more

-- each part begins with an operand
pub begun : (rank levels : ℕ) (ts : List Token) (t : Tree) (after : List Token) → IsPart rank levels ts t after → Begun rank levels ts t after
begun rank levels ts t after is =
    unwound rank levels t after rank t ts after is.parts is.derives (omega arith) is.flat (stops-below rank unary after (omega arith) is.ends) (λ q less. stops-below rank q after (omega (arith, less)) is.ends) Whole

pub grows-at : (rank levels : ℕ) (t : Tree) (after : List Token) (u v : Tree) (us vs : List Token) → v ≡ u → vs ≡ us → Grows rank levels t after u us → Grows rank levels t after v vs
grows-at rank levels t after u v us vs e f grows = rw (e, f) grows

-- no operator is left
pub grown : (rank levels : ℕ) (t : Tree) (after : List Token) (u : Tree) (us : List Token) → Grows rank levels t after u us → ((o : Op) (line : ℕ) (ts : List Token) → us ≡ mark line (sign_of o) ∷ ts → rank < rank_of o) → (u ≡ t) × (us ≡ after)
grown rank levels t after _ _ Whole none = (refl, refl)
grown rank levels t after _ _ (More left o line right ts us le is grows) none = let less = none o line ts refl in absurd (omega (arith, le, less))

-- the operator that is left, its right operand, and what is left behind it
pub record Grown (rank levels : ℕ) (t : Tree) (after : List Token) (u : Tree) (o : Op) (line n : ℕ) (ts : List Token) : Type 0 where
  pub right : Tree
  pub left : List Token
  pub is : IsPart n levels ts right left
  pub grows : Grows rank levels t after (Binary u o line right) left

pub grows-by : (rank levels : ℕ) (t : Tree) (after : List Token) (u : Tree) (us : List Token) (o : Op) (line : ℕ) (ts : List Token) → Grows rank levels t after u us → us ≡ mark line (sign_of o) ∷ ts → rank_of o ≤ rank → Stops rank after → (n : ℕ) → n ≡ right_rank o → Grown rank levels t after u o line n ts
grows-by rank levels t after _ _ o line ts Whole e le stops n n_is = let less = stops-less rank o line ts after stops e in absurd (omega (arith, le, less))
grows-by rank levels t after _ _ o line ts (More u p line2 right vs us le2 is grows) e le stops n n_is =
    let a = heads-is _ _ _ _ e in
    let same : p ≡ o = same-op p o a.1 in
    let here : line2 ≡ line = a.0 in
    record {
      right = right;
      left = us;
      is = subst (λ (n : ℕ). IsPart n levels ts right us) (ap right_rank same ∙ sym n_is) (part-at (right_rank p) levels vs ts right us (sym a.2) is);
      grows = subst (λ (o : Op). Grows rank levels t after (Binary u o line right) us) same (subst (λ (l : ℕ). Grows rank levels t after (Binary u p l right) us) here grows);
    }

-- ---- the arms of an operand

-- the first token, in the terms of the grammar
pub operand-at : (levels : ℕ) (all ts : List Token) (x y : Token) (t : Tree) (after : List Token) → all ≡ x ∷ ts → x.lexeme ≡ y.lexeme → x.line ≡ y.line → IsPart unary levels all t after → IsPart unary levels (y ∷ ts) t after
operand-at levels all ts x y t after e lexeme_is line_is is = let same : x ≡ y = token-is x y lexeme_is line_is in part-at unary levels all (y ∷ ts) t after (ap (λ (z : Token). z ∷ ts) (sym same) ∙ sym e) is
  where
    token-is : (x y : Token) → x.lexeme ≡ y.lexeme → x.line ≡ y.line → x ≡ y
    token-is x y lexeme_is line_is = ap (λ (l : Lexeme). record { lexeme = l; line = x.line }) lexeme_is ∙ ap (λ (n : ℕ). record { lexeme = y.lexeme; line = n }) line_is

-- a token of another sort is none of an operand
pub no-operand : (levels : ℕ) (x : Token) (ts : List Token) (t : Tree) (after : List Token) → IsPart unary levels (x ∷ ts) t after → (Starts x.lexeme t → ⊥) → ⊥
no-operand levels x ts t after is none = none (starts t x ts after is.parts is.derives)
