use Rattle.std.proofs.Common.{◌*◌, ◌+◌, ◌^◌, ◌<◌, ◌≤◌, ℕ, subst, arith}
use Rattle.std.proofs.lemmas.Nat.{leading_length}
use Rattle.interval_tree.proofs.tree.levels_of.Goals as goal

pub returns-clause-fits : goal.returns-clause-fits
returns-clause-fits c =
    let m = leading_length 64 c.args.count (omega arith) in
    subst (λ (k : ℕ). c.args.count < 2 ^ k) (omega (arith, m.1)) m.2

pub returns-clause-least : goal.returns-clause-least
returns-clause-least c =
    let m = leading_length 64 c.args.count (omega arith) in
    subst (λ (k : ℕ). 2 ^ k ≤ 2 * c.args.count + 1) (omega (arith, m.1)) m.3
