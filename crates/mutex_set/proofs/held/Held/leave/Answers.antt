use Rattle.std.proofs.Common.{◌≡◌, ℕ, ◌-◌, ◌++◌, ◌∷◌, [], List, take, nat_eq, sym, subst, arith, rules}
use Rattle.std.specs.List.{IsDistinct}
use Rattle.std.proofs.lemmas.Grind.{common_steps}
use Rattle.mutex_set.proofs.Sets.{distinct_prefix, others_prefix}
use Rattle.mutex_set.proofs.held.Held.leave.Goals as goal

pub invariant_of-self : goal.invariant_of-self
invariant_of-self c =
    let outer : List ℕ = take (c.self.inside.count - 1) c.self.inside.ids in
    let parts : take c.self.inside.count c.self.inside.ids ≡ outer ++ c.args.id ∷ [] = grind (arith, common_steps) in
    (omega (arith, c.self.invariant.0), distinct_prefix outer c.args.id (subst (λ (xs : List ℕ). IsDistinct nat_eq xs) parts c.self.invariant.1))

pub returns-clause-others : goal.returns-clause-others
returns-clause-others c =
    let outer : List ℕ = take (c.self.inside.count - 1) c.self.inside.ids in
    let parts : c.args.self.now ≡ outer ++ c.args.id ∷ [] = grind (arith, common_steps) in
    rw parts (sym (others_prefix outer c.args.id (rw (c.self.view_is, parts) at c.self.invariant.1)))
