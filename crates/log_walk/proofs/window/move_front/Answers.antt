use Rattle.std.proofs.Common.{ap, ◌∙◌, arith, ◌+◌, ◌-◌, List, ℕ, take, drop, length-take-le, length-drop}
use Rattle.std.proofs.lemmas.List.{take_at}
use Rattle.std.proofs.lemmas.Slice.{between_is}
use Rattle.log_walk.proofs.window.move_front.Goals as goal

pub returns-clause-front : goal.returns-clause-front
returns-clause-front c =
    let from = c.args.from in
    let n = c.args.to - c.args.from in
    let xs : List ℕ = c.args.bytes.now.items in
    ap (λ (ys : List ℕ). take n ys) c.copy_within.ensures.items
    ∙ take_at (take n (drop from xs)) (drop (0 + n) xs) n (length-take-le n (drop from xs) (omega (arith, length-drop from xs, c.requires.from, c.requires.to)))
    ∙ between_is xs c.args.from c.args.to
