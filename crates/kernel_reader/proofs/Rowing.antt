-- Operators in a row: what their parts have of the whole.
use Rattle.std.proofs.Common.{◌≡◌, ℕ, suc, ◌+◌, ◌<◌, ◌≤◌, Bool, List, [], ◌∷◌, ◌++◌, length, refl, sym, ap, ap₂, subst, ◌∙◌, arith}
use Rattle.std.specs.Prelude.{◌&&◌}
use Rattle.kernel_syntax.specs.declared.syntax.Expr.{Expr}
use Rattle.kernel_syntax.specs.Program.{term_of}
use Rattle.kernel_syntax.specs.Tree as kernel
use Rattle.kernel_text.specs.declared.fault.KernelWhy.TheVariants as why
use Rattle.kernel_text.specs.Grammar.{Tree, NumberAt, NameAt, TidAt, SpanAt, Element, Group, Minus, Binary}
use Rattle.kernel_reader.specs.declared.binding.Behind.{Behind}
use Rattle.kernel_reader.specs.declared.fault.ReadKernelFault.{ReadKernelFault}
use Rattle.kernel_reader.specs.Scope.{Names}
use Rattle.kernel_reader.specs.Resolve.{sites, term}
use Rattle.kernel_reader.specs.Rules.{tree_faults, fault_if, is_unfit}
use Rattle.kernel_parser.specs.Trees.{tree_of}
use Rattle.kernel_reader.specs.Rows.{in_row}
use Rattle.kernel_reader.specs.Settled.{IsFirstOf}
use Rattle.kernel_reader.proofs.Broken.{first-before, first-behind, none-of-both}

-- how many operators, signs and brackets an expression has
abbrev pub parts : Tree → ℕ
parts (NumberAt line value) = 0
parts (NameAt line name) = 0
parts (TidAt line) = 0
parts (SpanAt line) = 0
parts (Element line name opened index closed) = suc (parts index)
parts (Group opened inside closed) = suc (parts inside)
parts (Minus line operand) = suc (parts operand)
parts (Binary left op line right) = suc (parts left + parts right)

-- with the operator behind it
abbrev pub joined : Tree → Behind → Tree
joined t b = Binary t b.op b.line (tree_of b.right.now)

pub row-push : (t : Tree) (bs : List Behind) (b : Behind) → in_row t (bs ++ b ∷ []) ≡ in_row (joined t b) bs
row-push t [] b = refl
row-push t (c ∷ bs) b = ap (λ (u : Tree). joined u c) (row-push t bs b)

parts-row : (t : Tree) (bs : List Behind) → parts t ≤ parts (in_row t bs)
parts-row t [] = omega arith
parts-row t (b ∷ bs) = let less = parts-row t bs in omega (arith, less)

sites-row : (t : Tree) (bs : List Behind) → sites t ≤ sites (in_row t bs)
sites-row t [] = omega arith
sites-row t (b ∷ bs) = let less = sites-row t bs in omega (arith, less)

first-row : (n : Names) (in_bound : Bool) (t : Tree) (bs : List Behind) (f : ReadKernelFault) → IsFirstOf (tree_faults n in_bound t) f → IsFirstOf (tree_faults n in_bound (in_row t bs)) f
first-row n in_bound t [] f is = is
first-row n in_bound t (b ∷ bs) f is = first-before (tree_faults n in_bound (in_row t bs)) _ f (first-row n in_bound t bs f is)

-- the operands before the ones that are left were read
pub record IsBegun (n : Names) (in_bound : Bool) (site : ℕ) (whole : Tree) (bs : List Behind) (e : Expr) (next : ℕ) : Type 0 where
  pub t : Tree
  pub row : in_row t bs ≡ whole
  pub lawful : tree_faults n in_bound t ≡ []
  pub term_is : term_of e ≡ term n site t
  pub next_is : next ≡ site + sites t

-- the operator that is next
pub record IsNext (n : Names) (in_bound : Bool) (site : ℕ) (whole : Tree) (b : Behind) (bs : List Behind) (next : ℕ) : Type 0 where
  pub smaller : parts (tree_of b.right.now) < parts whole
  pub room : next + sites (tree_of b.right.now) ≤ site + sites whole

pub next-is : (n : Names) (in_bound : Bool) (site : ℕ) (whole : Tree) (bs cs : List Behind) (b : Behind) (e : Expr) (next : ℕ) → bs ≡ cs ++ b ∷ []
    → IsBegun n in_bound site whole bs e next → IsNext n in_bound site whole b cs next
next-is n in_bound site whole bs cs b e next split begun =
    let row : in_row (joined begun.t b) cs ≡ whole = sym (row-push begun.t cs b) ∙ (ap (in_row begun.t) (sym split) ∙ begun.row) in
    let fewer = subst (λ (u : Tree). parts (joined begun.t b) ≤ parts u) row (parts-row (joined begun.t b) cs) in
    let within = subst (λ (u : Tree). sites (joined begun.t b) ≤ sites u) row (sites-row (joined begun.t b) cs) in
    let at = begun.next_is in
    record { smaller = omega (arith, fewer); room = omega (arith, within, at) }

-- a rule that is broken behind it is the first of the whole
pub broken-next : (n : Names) (in_bound : Bool) (site : ℕ) (whole : Tree) (bs cs : List Behind) (b : Behind) (e : Expr) (next : ℕ) (f : ReadKernelFault) → bs ≡ cs ++ b ∷ []
    → IsBegun n in_bound site whole bs e next
    → IsFirstOf (fault_if (in_bound && is_unfit b.op) b.line why.NotUniform ++ tree_faults n in_bound (tree_of b.right.now)) f
    → IsFirstOf (tree_faults n in_bound whole) f
broken-next n in_bound site whole bs cs b e next f split begun is =
    let row : in_row (joined begun.t b) cs ≡ whole = sym (row-push begun.t cs b) ∙ (ap (in_row begun.t) (sym split) ∙ begun.row) in
    subst (λ (u : Tree). IsFirstOf (tree_faults n in_bound u) f) row
    (first-row n in_bound (joined begun.t b) cs f (first-behind (tree_faults n in_bound begun.t) _ f begun.lawful is))

-- the operator and its operand were read, too
pub begun-next : (n : Names) (in_bound : Bool) (site : ℕ) (whole : Tree) (bs cs : List Behind) (b : Behind) (e right made : Expr) (next after : ℕ) → bs ≡ cs ++ b ∷ []
    → IsBegun n in_bound site whole bs e next
    → fault_if (in_bound && is_unfit b.op) b.line why.NotUniform ≡ [] → tree_faults n in_bound (tree_of b.right.now) ≡ []
    → term_of right ≡ term n next (tree_of b.right.now) → after ≡ next + sites (tree_of b.right.now)
    → term_of made ≡ kernel.Binary b.op b.line (term_of e) (term_of right)
    → IsBegun n in_bound site whole cs made after
begun-next n in_bound site whole bs cs b e right made next after split begun fit lawful term_is after_is is =
    let at = begun.next_is in
    record {
      t = joined begun.t b;
      row = sym (row-push begun.t cs b) ∙ (ap (in_row begun.t) (sym split) ∙ begun.row);
      lawful = none-of-both (tree_faults n in_bound begun.t) _ begun.lawful (none-of-both (fault_if (in_bound && is_unfit b.op) b.line why.NotUniform) _ fit lawful);
      term_is = is ∙ ap₂ (kernel.Binary b.op b.line) begun.term_is (term_is ∙ ap (λ (s : ℕ). term n s (tree_of b.right.now)) at);
      next_is = omega (arith, at, after_is);
    }

-- the first operand
pub record IsHead (whole t : Tree) : Type 0 where
  pub smaller : parts t < parts whole
  pub room : sites t ≤ sites whole

pub head-is : (t : Tree) (bs : List Behind) (whole : Tree) → in_row t bs ≡ whole → 1 ≤ length bs → IsHead whole t
head-is t [] whole row some = absurd (omega (arith, some))
head-is t (b ∷ bs) whole row some =
    let few = parts-row t bs in
    let within = sites-row t bs in
    subst (λ (u : Tree). IsHead u t) row (record { smaller = omega (arith, few); room = omega (arith, within) })

pub broken-head : (n : Names) (in_bound : Bool) (t : Tree) (bs : List Behind) (whole : Tree) (f : ReadKernelFault) → in_row t bs ≡ whole
    → IsFirstOf (tree_faults n in_bound t) f → IsFirstOf (tree_faults n in_bound whole) f
broken-head n in_bound t bs whole f row is = subst (λ (u : Tree). IsFirstOf (tree_faults n in_bound u) f) row (first-row n in_bound t bs f is)
