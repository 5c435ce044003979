use Rattle.std.proofs.Common.{◌≡◌, ℕ, ◌+◌, ◌++◌, ◌∷◌, [], List, take, set, Contains, nat_eq, sym, subst, arith, rules}
use Rattle.std.specs.List.{IsDistinct}
use Rattle.std.proofs.lemmas.Grind.{common_steps}
use Rattle.mutex_set.proofs.Sets.{distinct_more}
use Rattle.mutex_set.proofs.held.Held.enter.Goals as goal

pub invariant_of-self : goal.invariant_of-self
invariant_of-self c =
    let held : List ℕ = take c.self.inside.count c.self.inside.ids in
    let fresh : Contains held c.args.id → ⊥ = search rules in
    let more : take (c.self.inside.count + 1) (set c.self.inside.ids c.from-count.result c.args.id) ≡ held ++ c.args.id ∷ [] = grind (arith, common_steps) in
    (omega (arith, c.self.invariant.0, c.if-count-eq-MOST.false, c.from-count.ensures), subst (λ (xs : List ℕ). IsDistinct nat_eq xs) (sym more) (distinct_more held c.args.id c.self.invariant.1 fresh))
