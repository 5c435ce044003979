use Rattle.std.proofs.Common.{[], ◌∷◌, ◌++◌, length, ◌∙◌, ap, arith}
use Rattle.interval_tree.proofs.Halves.{IsCut-from_split, furthest-cut, half_fits, pushed-cut, pushed-none}
use Rattle.interval_tree.proofs.tree.+push_reaches.Goals as goal

pub returns-clause-furthest : goal.returns-clause-furthest
returns-clause-furthest t c =
    let cut = IsCut-from_split c.args.runs.now c.split_at.result.0.now c.split_at.result.1.now c.in-Some.run'.now c.in-Some.right.now c.split_at.ensures.front c.split_at.ensures.back c.in-Some.ensures.cases.0 in
    omega (arith, furthest-cut _ _ _ _ cut, c.in_ok-left_reach.ensures.furthest, c.in_ok-right_reach.ensures.furthest)

pub returns-in_default-clause-pushed : goal.returns-in_default-clause-pushed
returns-in_default-clause-pushed t c = pushed-none c.args.runs.now c.args.reaches.now.items (omega (arith, c.in_default.ensures.cases, c.split_at.ensures.back_len))

pub returns-clause-pushed : goal.returns-clause-pushed
returns-clause-pushed t c =
    let cut = IsCut-from_split c.args.runs.now c.split_at.result.0.now c.split_at.result.1.now c.in-Some.run'.now c.in-Some.right.now c.split_at.ensures.front c.split_at.ensures.back c.in-Some.ensures.cases.0 in
    let reach = returns-clause-furthest t c in
    let pushed = pushed-cut _ _ _ _ _ _ _ cut c.in_ok-left_reach.ensures.pushed c.in_ok-right_reach.ensures.pushed in
    (λ levels fits. c.in_ok-push.ensures.items ∙ ap (λ r. c.push_reaches-2.new.reaches.items ++ r ∷ []) reach ∙ pushed levels fits)

pub push_reaches-requires : goal.push_reaches-requires
push_reaches-requires t c =
    let half = half_fits c.args.levels (length c.args.runs.now) (length c.split_at.result.0.now) (omega (arith, c.in-Some.ensures.cases.1, c.split_at.ensures.back_len)) c.requires (omega (arith, c.split_at.ensures.front_len)) in
    (omega (arith, half.0, c.decreases), half.1)

pub push_reaches-requires-2 : goal.push_reaches-requires-2
push_reaches-requires-2 t c =
    let half = half_fits c.args.levels (length c.args.runs.now) (length c.in-Some.right.now) (omega (arith, c.in-Some.ensures.cases.1, c.split_at.ensures.back_len)) c.requires (omega (arith, c.in-Some.ensures.cases.1, c.split_at.ensures.back_len)) in
    (omega (arith, half.0, c.decreases), half.1)
