use Rattle.std.proofs.Common.{◌≡◌, ◌<◌, List, [], ◌∷◌, ◌++◌, length, length-append, arith, ap}
use Rattle.std.proofs.lemmas.Bool.Decides.{nat_tests}
use Rattle.std.proofs.lemmas.Slice.Eq.{starts_is}
use Rattle.std.specs.Bool.{Decides}
use Rattle.sw_base.specs.Names.{IsUnder}
use Rattle.sw_base.specs.contracts.path.StepPartialEq.TheImpl.{eq-value}
use Rattle.sw_base.specs.declared.path.Step.{Step}
use Rattle.sw_base.proofs.path.Path.is_under.Goals as goal

-- `==` on steps decides whether they are the same
decides : (a b : Step) → Decides (eq-value.it a b) (a ≡ b)
decides a b = grind (arith, nat_tests)

-- a longer path that begins with the other lies below it
under : (path above rest : List Step) → path ≡ above ++ rest → length above < length path → IsUnder path above
under path above [] whole longer = absurd (omega (arith, ap length whole, length-append above []))
under path above (first ∷ rest) whole longer = record { first = first; rest = rest; parts = whole }

pub returns-then-above-steps : goal.returns-then-above-steps
returns-then-above-steps c =
    let same = starts_is decides c.steps-steps.result.now c.steps-above.result.now c.starts_with.result c.starts_with.ensures.value in
    let both = rw (c.steps-steps.ensures.steps, c.steps-above.ensures.steps) at same in
    let longer = rw (c.steps-steps.ensures.steps, c.steps-above.ensures.steps) at c.if-above-steps.true in
    (λ yes. under _ _ _ (both.0 yes) longer, λ below. both.1 _ below.parts)
