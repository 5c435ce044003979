use Rattle.std.proofs.Common.{ℕ, ◌+◌, ◌-◌, ◌*◌, ◌/◌, ◌%◌, ◌<◌, arith}
use Rattle.std.proofs.Math.Nat.{mul-le-mul_left}
use Rattle.std.proofs.lemmas.Nat.{div-add-mod', mod_below}
use Rattle.stride_overlap.proofs.Euclid.{IsStep, Meets-back, Meets-forth, place_below, sum_below}
use Rattle.stride_overlap.proofs.meeting.+least_meeting.Goals as goal

-- the step that a call takes, where no multiple of the stride is in the window
step_of : (a m l h : ℕ) → 0 < a → 0 < l → h < ((l - 1) / a + 1) * a → IsStep a m l h (m / a) (m % a) ((l - 1) / a + 1)
step_of a m l h some above over = record {
  split = omega (arith, div-add-mod' m a);
  reached = omega (arith, div-add-mod' (l - 1) a, mod_below (l - 1) a some);
  first = omega (arith, div-add-mod' (l - 1) a, mod_below (l - 1) a some);
  over = over;
}

pub overflow_add-result : goal.overflow_add-result
overflow_add-result t c =
    let step = step_of c.args.stride c.args.other c.args.low c.args.high (omega arith) (omega arith) (omega arith) in
    let rest = mod_below c.args.other c.args.stride (omega arith) in
    let within : c.in-Some.rest.first < c.args.stride = c.in-Some.ensures.within (omega (arith, step.first, step.reached)) in
    let sum = sum_below _ _ _ _ _ _ _ _ _ step rest within c.in-Some.ensures.found in
    omega (arith, sum, c.requires.small, c.requires.strides)

pub overflow_add-result-in-Some : goal.overflow_add-result-in-Some
overflow_add-result-in-Some t c =
    let step = step_of c.args.stride c.args.other c.args.low c.args.high (omega arith) (omega arith) (omega arith) in
    let rest = mod_below c.args.other c.args.stride (omega arith) in
    let within : c.in-Some.rest.first < c.args.stride = c.in-Some.ensures.within (omega (arith, step.first, step.reached)) in
    let sum = sum_below _ _ _ _ _ _ _ _ _ step rest within c.in-Some.ensures.found in
    omega (arith, sum, c.requires.small, c.requires.strides)

pub returns-in-Some-clause-found : goal.returns-in-Some-clause-found
returns-in-Some-clause-found t c =
    Meets-back _ _ _ _ _ _ _ _ _ (step_of c.args.stride c.args.other c.args.low c.args.high (omega arith) (omega arith) (omega arith)) c.in-Some.ensures.found

pub returns-in-Some-clause-least : goal.returns-in-Some-clause-least
returns-in-Some-clause-least t c i j meets =
    let step = step_of c.args.stride c.args.other c.args.low c.args.high (omega arith) (omega arith) (omega arith) in
    let before = Meets-forth _ _ _ _ _ _ _ i j step meets in
    let less = c.in-Some.ensures.least j before.0 before.2 in
    (omega (arith, before.1, less.1, mul-le-mul_left (c.args.other / c.args.stride) less.0), less.0)

pub returns-in-Some-clause-within : goal.returns-in-Some-clause-within
returns-in-Some-clause-within t c small =
    let step = step_of c.args.stride c.args.other c.args.low c.args.high (omega arith) (omega arith) (omega arith) in
    let within : c.in-Some.rest.first < c.args.stride = c.in-Some.ensures.within (omega (arith, step.first, step.reached)) in
    place_below _ _ _ _ _ _ small within (Meets-back _ _ _ _ _ _ _ _ _ step c.in-Some.ensures.found)

pub returns-in-None-clause-none : goal.returns-in-None-clause-none
returns-in-None-clause-none t c i j meets =
    let step = step_of c.args.stride c.args.other c.args.low c.args.high (omega arith) (omega arith) (omega arith) in
    let before = Meets-forth _ _ _ _ _ _ _ i j step meets in
    c.in-None.ensures.none j before.0 before.2
