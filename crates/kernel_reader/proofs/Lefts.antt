-- Statements one after the other, as a loop reads them.
use Rattle.std.proofs.Common.{◌≡◌, ℕ, ◌+◌, ◌≤◌, Bool, true, false, ◌||◌, List, [], ◌∷◌, ◌++◌, length, take, drop, refl, sym, ap, subst, ◌∙◌, arith}
use Rattle.std.proofs.lemmas.List.{length-take, take-append-drop, take-append-le}
use Rattle.kernel_syntax.specs.declared.syntax.Array.{Array}
use Rattle.kernel_syntax.specs.declared.syntax.Stmt.{Stmt}
use Rattle.kernel_syntax.specs.Tree.{Code}
use Rattle.kernel_syntax.specs.Program.{stmts_code, code_of}
use Rattle.kernel_syntax.proofs.Equations.{stmts_code-append}
use Rattle.kernel_text.specs.Tokens.{Refusal}
use Rattle.kernel_text.specs.Grammar.{Stmts, NoMore}
use Rattle.kernel_reader.specs.Rules.{stmts_faults, holds_work, weight}
use Rattle.kernel_reader.specs.Resolve.{code}
use Rattle.kernel_reader.specs.Settled.{IsFirstOf, capped}
use Rattle.kernel_reader.specs.Folding.{names_at, IsFolded, IsLeft, IsAdvance}
use Rattle.kernel_reader.specs.declared.binding.Variable.{Variable}
use Rattle.kernel_reader.specs.declared.fault.ReadKernelFault.{ReadKernelFault}
use Rattle.kernel_reader.specs.declared.place.State.{State}
use Rattle.kernel_reader.specs.declared.place.Section.{Section}
use Rattle.kernel_reader.specs.declared.statements.Added.{Added}
use Rattle.kernel_reader.specs.declared.statements.Folded.{Folded}
use Rattle.kernel_reader.proofs.Advances.{or-assoc}

or-false : (a : Bool) → (a || false) ≡ a
or-false true = refl
or-false false = refl

weighs-more : (w x k v : ℕ) → v ≡ capped (w + x) → capped (w + x + k) ≡ capped (v + k)
weighs-more w x k v e = omega (arith, e)

-- one more statement was read
pub left-steps : (arrays : List Array) (mutexes : List (List ℕ)) (old now new : State) (section : Section) (b c rest : Stmts) (made more : List Stmt) (w v : ℕ) (working work : Bool) (x : Added)
    → IsLeft arrays mutexes old now section b c made w working → IsAdvance arrays mutexes now new section c rest x → more ≡ made ++ x.stmt ∷ [] → v ≡ capped (w + x.weight) → work ≡ (working || x.works)
    → IsLeft arrays mutexes old new section b rest more v work
left-steps arrays mutexes old now new section b c rest made more w v working work x l a more_is weight_is works_is =
    let next : Code = code (names_at arrays mutexes new section) new.site rest in
    record {
      faults = l.faults ∙ a.faults;
      code_is = l.code_is ∙ ap (stmts_code made) a.code_is ∙ sym (ap (λ (xs : List Stmt). stmts_code xs next) more_is ∙ stmts_code-append made (x.stmt ∷ []) next);
      slots_are = l.slots_are ∙ a.slots_are;
      sites_are = l.sites_are ∙ a.sites_are;
      weighs = l.weighs ∙ a.weighs w ∙ weighs-more w x.weight (weight rest) v weight_is;
      works_is = l.works_is ∙ ap (λ (t : Bool). working || t) a.works_is ∙ or-assoc working x.works (holds_work rest) ∙ ap (λ (t : Bool). t || holds_work rest) (sym works_is);
    }

-- a rule that the next one breaks is the first of all
pub left-fails : (arrays : List Array) (mutexes : List (List ℕ)) (old now : State) (section : Section) (b c : Stmts) (made : List Stmt) (w : ℕ) (working : Bool) (f : ReadKernelFault)
    → IsLeft arrays mutexes old now section b c made w working → IsFirstOf (stmts_faults (names_at arrays mutexes now section) c) f → IsFirstOf (stmts_faults (names_at arrays mutexes old section) b) f
left-fails arrays mutexes old now section b c made w working f l told = subst (λ (faults : List Refusal). IsFirstOf faults f) (sym l.faults) told

-- all statements were read
pub left-ends : (arrays : List Array) (mutexes : List (List ℕ)) (old now new : State) (section : Section) (b : Stmts) (made : List Stmt) (w : ℕ) (working : Bool) (x : Folded)
    → IsLeft arrays mutexes old now section b NoMore made w working → x.body.stmts.items ≡ made → x.weight ≡ w → x.works ≡ working → w ≤ 65537 → new.slot ≡ now.slot → new.site ≡ now.site
    → (stmts_faults (names_at arrays mutexes old section) b ≡ []) × IsFolded arrays mutexes old new section b x
left-ends arrays mutexes old now new section b made w working x l made_is weight_is works_is small slot_is site_is = (
  l.faults,
  record {
    code_is = ap code_of made_is ∙ sym l.code_is;
    weighs = omega (arith, l.weighs);
    works_is = works_is ∙ sym (l.works_is ∙ or-false working);
    slot_is = omega (arith, l.slots_are);
    site_is = omega (arith, l.sites_are);
  },
)

-- the variables that were there stay the first ones
pub take-through : (k : ℕ) (xs ys zs : List Variable) → k ≡ length xs → take k ys ≡ xs → take (length ys) zs ≡ ys → take k zs ≡ xs
take-through k xs ys zs k_is first more =
    let n : length (take k ys) ≡ length xs = ap length first in
    let le : k ≤ length ys = omega (arith, length-take k ys) in
    let split : ys ++ drop (length ys) zs ≡ zs = ap (λ (l : List Variable). l ++ drop (length ys) zs) (sym more) ∙ take-append-drop (length ys) zs in
    ap (take k) (sym split) ∙ take-append-le k ys (drop (length ys) zs) le ∙ first
