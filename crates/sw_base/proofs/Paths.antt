-- Paths that compare equal are equal.
use Rattle.std.proofs.Common.{◌≡◌, List, [], ◌∷◌, refl, subst, arith}
use Rattle.std.specs.Prelude.{◌↔◌}
use Rattle.std.proofs.lemmas.Cmp.{tied_itself}
use Rattle.std.proofs.lemmas.Bool.Decides.{nat_tests}
use Rattle.std.specs.declared.cmp.Ordering.{Ordering}
use Rattle.std.specs.declared.cmp.Ordering.TheVariants.{Less, Equal, Greater}
use Rattle.std.specs.Ordering.{ordering_then}
use Rattle.sw_base.specs.Names.{path_cmp, step_cmp}
use Rattle.sw_base.specs.PathOrder.{path_cmp_total}
use Rattle.sw_base.specs.declared.path.Step.{Step}

-- steps that compare equal are equal
pub step_cmp-equal : (one other : Step) → step_cmp one other ≡ Equal → one ≡ other
step_cmp-equal one other same = grind (arith, nat_tests)

-- where two answers in turn are equal, each is
pub both_equal : (first second : Ordering) → ordering_then first second ≡ Equal → (first ≡ Equal) × (second ≡ Equal)
both_equal Less second same = absurd (cc)
both_equal Equal second same = (refl, same)
both_equal Greater second same = absurd (cc)

-- paths that compare equal are equal
pub path_cmp-equal : (one other : List Step) → path_cmp one other ≡ Equal → one ≡ other
path_cmp-equal [] [] same = refl
path_cmp-equal [] (y ∷ ys) same = absurd (cc)
path_cmp-equal (x ∷ xs) [] same = absurd (cc)
path_cmp-equal (x ∷ xs) (y ∷ ys) same =
    let both = both_equal (step_cmp x y) (path_cmp xs ys) same in
    let first = step_cmp-equal x y both.0 in
    let rest = path_cmp-equal xs ys both.1 in
    cc

pub path_cmp_decides : (one other : List Step) → (path_cmp one other ≡ Equal) ↔ (one ≡ other)
path_cmp_decides one other = (path_cmp-equal one other, λ same. subst (λ (p : List Step). path_cmp one p ≡ Equal) same (tied_itself path_cmp_total one))
