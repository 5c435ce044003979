use Rattle.std.proofs.Common.{◌≡◌, ◌∷◌, [], ℕ, List, Contains, map, rules, subst, sym}
use Rattle.std.proofs.lemmas.List.{map-append}
use Rattle.std.proofs.lemmas.List.Elements.{All-contains_itself}
use Rattle.std.proofs.lemmas.Map.Views.{All-turn}
use Rattle.std.proofs.lemmas.Result.{err_from_is_err_and}
use Rattle.std.specs.Map.Iter.{deref}
use Rattle.pair_compare.specs.Conflict.{AddsSome}
use Rattle.pair_compare.proofs.Findings.{AddsPairs-inserted, AddsSome-inserted}
use Rattle.pair_compare.proofs.Inserts.{Inserts-from_updates}
use Rattle.pair_compare.proofs.team.unite.Goals as goal

pub loop-pair-preserved : goal.loop-pair-preserved
loop-pair-preserved c =
    let inserts = Inserts-from_updates _ _ _ c.in_ok-insert.ensures.updates in
    let whole = AddsPairs-inserted c.args.pairs.now.keys c.loop-pair.pairs.keys c.insert.new.self.keys (map deref c.loop-pair.yielded) c.in-Some.pair.now c.loop-pair.invariant.0 inserts in
    let one : Contains c.args.more.now.keys c.in-Some.pair.now = All-turn deref (Contains c.args.more.now.keys) _ _ _ _ _ _ _ (All-contains_itself c.args.more.now.keys) c.into_iter-pair-iterator.ensures.into_iter_gives.0 c.loop-pair.yielded_by c.in-Some.is c.next.ensures.steps in
    (rw (map-append deref c.loop-pair.yielded (c.in-Some.pair ∷ [])) whole, AddsSome-inserted c.args.pairs.now.keys c.loop-pair.pairs.keys c.insert.new.self.keys (Contains c.args.more.now.keys) c.in-Some.pair.now one c.loop-pair.invariant.1 inserts)

pub returns-in_err-insert-clause-refused : goal.returns-in_err-insert-clause-refused
returns-in_err-insert-clause-refused c =
    let p = err_from_is_err_and c.from_residual.result c.from_residual.ensures.1 in
    let same : c.insert.new.self.keys ≡ c.loop-pair.pairs.keys = search rules in
    rw (p.1) (subst (λ (keys : List (ℕ × ℕ)). AddsSome c.args.pairs.now.keys keys (Contains c.args.more.now.keys)) (sym same) c.loop-pair.invariant.1)
