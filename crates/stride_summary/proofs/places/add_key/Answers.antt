use Rattle.std.proofs.Common.{◌≡◌, ℕ, List, ◌∷◌, [], ◌++◌, length, cond, Some, subst, sym, rules}
use Rattle.std.specs.Ordering.{is_eq}
use Rattle.stride_summary.specs.declared.key.Key.{Key}
use Rattle.stride_summary.specs.declared.stretch.Stretch.{Stretch}
use Rattle.stride_summary.specs.Places.{TellsPlaces, key_cmp, place_under}
use Rattle.stride_summary.proofs.Placing.{told_put}
use Rattle.stride_summary.proofs.places.add_key.Goals as goal

pub returns-clause-told : goal.returns-clause-told
returns-clause-told c =
    let pushed : c.push.new.self.items ≡ c.args.stretches.now.items ++ c.args.stretch ∷ [] = search rules in
    let place : c.len-place.result ≡ length c.args.stretches.now.items = search rules in
    let updated = subst (λ (n : ℕ). (q : Key) → place_under c.insert.new.self q ≡ cond (is_eq (key_cmp c.args.key q)) (Some n) (place_under c.args.places.now q)) place c.in_ok-insert.ensures.updates.0 in
    subst (λ (ss : List Stretch). TellsPlaces c.insert.new.self ss) (sym pushed)
    (told_put c.args.places.now c.insert.new.self c.args.stretches.now.items c.args.stretch c.args.key c.requires.key updated c.requires.told)
