-- What the judge answers is what the grammar says of the tokens.
use Rattle.std.proofs.Common.{◌≡◌, ℕ, pos, ◌<◌, ◌≤◌, false, List, [], ◌∷◌, ◌++◌, inl, length, take, None, refl, sym, ap, subst, ◌∙◌, append_assoc, append-nil, length-append, arith}
use Rattle.std.specs.Prelude.{fold}
use Rattle.std.proofs.lemmas.List.Elements.{All-from_recursion, recursion_from_All}
use Rattle.kernel_text.specs.declared.token.Word.TheVariants as word
use Rattle.kernel_text.specs.declared.token.Sign.TheVariants as sign
use Rattle.kernel_text.specs.declared.token.Lexeme.{Lexeme}
use Rattle.kernel_text.specs.declared.token.Lexeme.TheVariants.{Named, Number, Reserved, Mark}
use Rattle.kernel_text.specs.declared.token.Token.{Token}
use Rattle.kernel_text.specs.declared.judging.Want.{Want}
use Rattle.kernel_text.specs.declared.judging.Want.TheVariants as want
use Rattle.kernel_text.specs.declared.judging.Judgement.TheVariants as verdict
use Rattle.kernel_text.specs.Grammar.{NumberAt, Unsaid, NoMore, declarations_tokens, KernelTree, kernel_tokens, IsKernel}
use Rattle.kernel_text.specs.Faults.{kernel_levels, BeginsShallow, IsVerdict}
use Rattle.kernel_text.specs.Wanting.{Last, Braced, Plain, At, Value, value_tokens, Fill, fill_tokens, fill_levels, Fulfils, GoesOnWith, EndsAt, AreDelimited, LeadsTo, Refuses, stack_of}
use Rattle.kernel_text.proofs.Levels.{AreLow, join}

-- the least that can stand there
abbrev least_block : Braced
least_block = record { opened = 0; body = NoMore; closed = 0; derives = tt }

pub least : (w : Want) → Value w
least want.Kernel = (record { declarations = []; line = 0; opened = 0; body = NoMore; closed = 0 }, tt)
least want.Name = (0, [])
least want.Number = (0, pos 0)
least want.In = 0
least want.Assign = 0
least want.UpdateSign = (false, 0)
least want.OpenBracket = 0
least want.CloseBracket = 0
least want.CloseParen = 0
least want.CloseBrace = 0
least want.Dots = 0
least (want.Block n) = least_block
least (want.Stmts n) = (NoMore, tt)
least want.Target = Plain 0
least (want.Else n) = None
least want.Schedule = Unsaid
least want.Chunk = None
least want.Nowait = None
least want.SectionName = None
least (want.Expr n) = (NumberAt 0 (pos 0), tt)
least (want.Operand n) = (NumberAt 0 (pos 0), tt)
least (want.Index n) = None
least (want.Operators n c) = (Last, tt)

pub least_fill : (s : List Want) → Fill s
least_fill [] = tt
least_fill (w ∷ s) = (least w, least_fill s)

-- ---- what is still wanted can't be left out

none-of : (xs ys : List Token) → xs ++ ys ≡ [] → (xs ≡ []) × (ys ≡ [])
none-of [] ys e = (refl, e)
none-of (x ∷ xs) ys e = absurd cc

kernel-some : (k : KernelTree) → kernel_tokens k ≡ [] → ⊥
kernel-some k e = let none = none-of (declarations_tokens k.declarations) _ e in let same = none.1 in absurd cc

target-some : (v : Value want.Target) → value_tokens want.Target v ≡ [] → ⊥
target-some (Plain at) e = absurd cc
target-some (At v at) e = absurd cc

-- what may be left out may go on
goes-on : (w : Want) (v : Value w) → value_tokens w v ≡ [] → (x : Lexeme) × GoesOnWith w x
goes-on want.Kernel v e = absurd (kernel-some v.0 e)
goes-on want.Target v e = absurd (target-some v e)
goes-on (want.Stmts n) v e = (Reserved word.Let, λ same. absurd cc)
goes-on (want.Else n) v e = (Reserved word.Else, refl)
goes-on want.Schedule v e = (Reserved word.Static, inl refl)
goes-on want.Chunk v e = (Number (pos 0), (pos 0, refl))
goes-on want.Nowait v e = (Reserved word.Nowait, refl)
goes-on want.SectionName v e = (Named [], ([], refl))
goes-on (want.Expr n) v e = (Mark sign.OpenBracket, inl refl)
goes-on (want.Operand n) v e = (Mark sign.OpenBracket, refl)
goes-on (want.Index n) v e = (Mark sign.OpenBracket, refl)
goes-on (want.Operators n c) v e = (Mark sign.OpenBracket, inl refl)
goes-on _ v e = absurd cc

never-none : (w : Want) (s : List Want) (ls : List ℕ) → AreDelimited (w ∷ s) → Fulfils (w ∷ s) [] ls → ⊥
never-none w s ls a r =
    let f = r.fill in
    let none = none-of (value_tokens w f.0) (fill_tokens s f.1) r.tokens in
    let on = goes-on w f.0 none.0 in
    subst (λ (ts : List Token). EndsAt w ts) none.1 (a.0 f.1) on.0 on.1

-- ---- the tokens that are taken

abbrev pub start : List Want
start = want.Kernel ∷ []

fulfils-as : (s : List Want) (ts us : List Token) (ls ms : List ℕ) → ts ≡ us → ls ≡ ms → Fulfils s ts ls → Fulfils s us ms
fulfils-as s ts us ls ms e f r = record { fill = r.fill; tokens = r.tokens ∙ e; levels = r.levels ∙ f }

-- after these tokens, that open low levels, just what the stack wants may come
pub record Judged (ts rest : List Token) (s : List Want) : Type 0 where
  pub good : List Token
  pub parts : ts ≡ good ++ rest
  pub apart : AreDelimited s
  pub levels : List ℕ
  pub low : AreLow levels
  pub many : length levels ≡ length good
  pub puts : (us : List Token) (ls : List ℕ) → Fulfils s us ls → Fulfils start (good ++ us) (levels ++ ls)
  pub leaves : (us : List Token) (ls : List ℕ) → Fulfils start (good ++ us) ls → (more : List ℕ) × (ls ≡ levels ++ more) × Fulfils s us more

pub judged-none : (ts : List Token) (s : List Want) → s ≡ start → Judged ts ts s
judged-none ts s e = subst (λ (s : List Want). Judged ts ts s) (sym e) (record {
  good = [];
  parts = refl;
  apart = ((λ f x never. never), tt);
  levels = [];
  low = tt;
  many = refl;
  puts = λ us ls r. r;
  leaves = λ us ls r. (ls, refl, r);
})

pub judged-more : (ts rest after : List Token) (t : Token) (s next : List Want) (level : ℕ) → Judged ts rest s → rest ≡ t ∷ after → level ≤ 32 → LeadsTo s t.lexeme level next → Judged ts after next
judged-more ts rest after t s next level j e low k =
    let many = j.many in
    record {
      good = j.good ++ t ∷ [];
      parts = j.parts ∙ ap (λ (us : List Token). j.good ++ us) e ∙ sym (append_assoc j.good (t ∷ []) after);
      apart = k.apart;
      levels = j.levels ++ level ∷ [];
      low = join j.levels (level ∷ []) j.low (low, tt);
      many = omega (arith, length-append j.good (t ∷ []), length-append j.levels (level ∷ []));
      puts = λ us ls r. fulfils-as start _ _ _ _ (sym (append_assoc j.good (t ∷ []) us)) (sym (append_assoc j.levels (level ∷ []) ls)) (j.puts (t ∷ us) (level ∷ ls) (k.puts t.line us ls r));
      leaves = λ us ls r.
          let first = j.leaves (t ∷ us) ls (fulfils-as start _ _ _ _ (append_assoc j.good (t ∷ []) us) refl r) in
          let then = k.leaves t.line us first.0 first.2 in
          (then.0, first.1 ∙ ap (λ (ms : List ℕ). j.levels ++ ms) then.1 ∙ sym (append_assoc j.levels (level ∷ []) then.0), then.2);
    }

-- ---- verdicts

take-append : (xs ys : List ℕ) → take (length xs) (xs ++ ys) ≡ xs
take-append [] ys = refl
take-append (x ∷ xs) ys = ap (λ (r : List ℕ). x ∷ r) (take-append xs ys)

taken : (ls ms ns : List ℕ) (good : List Token) → length ls ≡ length good → ns ≡ ls ++ ms → take (length good) ns ≡ ls
taken ls ms ns good many e = ap (take (length good)) e ∙ ap (λ n. take n (ls ++ ms)) (sym many) ∙ take-append ls ms

begins : (good rest : List Token) (ls ms : List ℕ) → length ls ≡ length good → AreLow ls → Fulfils start (good ++ rest) (ls ++ ms) → BeginsShallow good
begins good rest ls ms many low r =
    let k = r.fill.0.0 in (
      k,
      rest,
      r.fill.0.1,
      sym (append-nil (kernel_tokens k)) ∙ r.tokens,
      All-from_recursion (λ n. n ≤ 32) _ (subst AreLow (sym (taken ls ms (kernel_levels k) good many (sym (append-nil (kernel_levels k)) ∙ r.levels))) low),
    )

begins-judged : (ts rest : List Token) (s : List Want) (j : Judged ts rest s) → BeginsShallow j.good
begins-judged ts rest s j = let f = least_fill s in begins j.good (fill_tokens s f) j.levels (fill_levels s f) j.many j.low (j.puts (fill_tokens s f) (fill_levels s f) (record { fill = f; tokens = refl; levels = refl }))

of-kernel : (k : KernelTree) (ts : List Token) → IsKernel k → kernel_tokens k ≡ ts → Fulfils start ts (kernel_levels k)
of-kernel k ts d e = record { fill = ((k, d), tt); tokens = append-nil (kernel_tokens k) ∙ e; levels = append-nil (kernel_levels k) }

pub is-kernel : (ts rest : List Token) (s : List Want) → Judged ts rest s → rest ≡ [] → s ≡ [] → IsVerdict ts verdict.Kernel
is-kernel ts rest s j e f =
    let r = j.puts [] [] (subst (λ (s : List Want). Fulfils s [] []) (sym f) (record { fill = tt; tokens = refl; levels = refl })) in
    let k = r.fill.0.0 in
    let levels : kernel_levels k ≡ j.levels = sym (append-nil (kernel_levels k)) ∙ r.levels ∙ append-nil j.levels in (
      k,
      r.fill.0.1,
      All-from_recursion (λ n. n ≤ 32) _ (subst AreLow (sym levels) j.low),
      sym (append-nil (kernel_tokens k)) ∙ r.tokens ∙ ap (λ (us : List Token). j.good ++ us) (sym e) ∙ sym j.parts,
    )

pub is-syntax : (ts rest after : List Token) (t : Token) (s : List Want) → Judged ts rest s → rest ≡ t ∷ after → Refuses s t.lexeme → IsVerdict ts (verdict.Syntax t.line)
is-syntax ts rest after t s j e h = (
  t,
  record {
    good = j.good;
    rest = after;
    parts = j.parts ∙ ap (λ (us : List Token). j.good ++ us) e;
    begins = begins-judged ts rest s j;
    stops = λ b.
        let left = j.leaves (t ∷ b.1) (kernel_levels b.0) (of-kernel b.0 _ b.2 (b.3 ∙ append_assoc j.good (t ∷ []) b.1)) in
        h t.line b.1 left.0 left.2;
  },
  refl,
)

low-last : (ls : List ℕ) (level : ℕ) → AreLow (ls ++ level ∷ []) → level ≤ 32
low-last [] level low = low.0
low-last (l ∷ ls) level low = low-last ls level low.1

pub is-deep : (ts rest after : List Token) (t : Token) (s next : List Want) (level : ℕ) → Judged ts rest s → rest ≡ t ∷ after → 32 < level → LeadsTo s t.lexeme level next → IsVerdict ts (verdict.Deep t.line)
is-deep ts rest after t s next level j e deep k =
    let f = least_fill next in
    let r = j.puts _ _ (k.puts t.line (fill_tokens next f) (fill_levels next f) (record { fill = f; tokens = refl; levels = refl })) in (
      t,
      record {
        good = j.good;
        rest = after;
        parts = j.parts ∙ ap (λ (us : List Token). j.good ++ us) e;
        begins = begins-judged ts rest s j;
        goes_on = (r.fill.0.0, fill_tokens next f, r.fill.0.1, sym (append-nil (kernel_tokens r.fill.0.0)) ∙ r.tokens ∙ sym (append_assoc j.good (t ∷ []) (fill_tokens next f)));
        deep = λ b.
            let left = j.leaves (t ∷ b.1) (kernel_levels b.0) (of-kernel b.0 _ b.2 (b.3 ∙ append_assoc j.good (t ∷ []) b.1)) in
            let then = k.leaves t.line b.1 left.0 left.2 in
            let many = j.many in
            let count : length (j.levels ++ level ∷ []) ≡ length (j.good ++ t ∷ []) = omega (arith, length-append j.good (t ∷ []), length-append j.levels (level ∷ [])) in
            let same = taken (j.levels ++ level ∷ []) then.0 (kernel_levels b.0) (j.good ++ t ∷ []) count (left.1 ∙ ap (λ (ms : List ℕ). j.levels ++ ms) then.1 ∙ sym (append_assoc j.levels (level ∷ []) then.0)) in
            let low = low-last j.levels level (subst AreLow same (recursion_from_All (λ n. n ≤ 32) _ b.4)) in
            omega (arith, low, deep);
      },
      refl,
    )

pub is-early : (ts rest : List Token) (w : Want) (s now : List Want) → Judged ts rest now → rest ≡ [] → now ≡ w ∷ s → IsVerdict ts verdict.Early
is-early ts rest w s now j e f =
    let all : ts ≡ j.good = j.parts ∙ ap (λ (us : List Token). j.good ++ us) e ∙ append-nil j.good in
    record {
      begins = subst BeginsShallow (sym all) (begins-judged ts rest now j);
      unfinished = λ k d g.
          let left = j.leaves [] (kernel_levels k) (of-kernel k _ d (g ∙ all ∙ sym (append-nil j.good))) in
          never-none w s left.0 (subst AreDelimited f j.apart) (subst (λ (s : List Want). Fulfils s [] left.0) f left.2);
    }

-- a stack of some wants has a next
pub stack_some : (ws : List Want) → 0 < length ws → (w : Want) × (s : List Want) × (stack_of ws ≡ w ∷ s)
stack_some [] some = absurd (omega (arith, some))
stack_some (w ∷ ws) some = behind ws w []
  where
    behind : (ws : List Want) (w : Want) (s : List Want) → (v : Want) × (u : List Want) × (fold (λ (s : List Want) (w : Want). w ∷ s) (w ∷ s) ws ≡ v ∷ u)
    behind [] w s = (w, s, refl)
    behind (v ∷ ws) w s = behind ws v (w ∷ s)
