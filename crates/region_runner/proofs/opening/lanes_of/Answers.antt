use Rattle.std.proofs.Common.{rules, ◌≡◌, ◌∙◌, ap, sym, subst, length, map, ◌++◌, ◌∷◌, [], Ok}
use Rattle.std.specs.Prelude.{IsOk}
use Rattle.std.proofs.lemmas.List.{map-append, map-id}
use Rattle.std.proofs.lemmas.Iterator.Adapters.{YieldsList-from_vec}
use Rattle.std.proofs.lemmas.Iterator.Consumers.{YieldsList-end, YieldsList-turn}
use Rattle.region_runner.proofs.opening.lanes_of.Goals as goal

pub unreachable-requires : goal.unreachable-requires
unreachable-requires g c =
    let turn = YieldsList-turn (YieldsList-from_vec {s = c.into_iter-lane-iterator.result} c.args.opened.items (search rules) (search rules)) c.loop-lane.yielded _ c.loop-lane.yielded_by _ c.next.new.self c.in-Some.lane c.in-Some.is c.next.ensures.steps in
    let wrong = subst (λ lane. IsOk lane) (sym turn.1 ∙ c.in_default.is) (c.requires (length c.loop-lane.yielded) c.in-Some.lane turn.0) in
    cc

pub loop-lane-preserved : goal.loop-lane-preserved
loop-lane-preserved g c =
    let pushed : c.push.new.self.items ≡ c.loop-lane.lanes.items ++ c.in-Ok.begun ∷ [] = search rules in
    record { so_far = rw (pushed) (ap (λ xs. xs ++ c.in-Some.lane ∷ []) c.loop-lane.invariant.so_far ∙ ap (λ x. map (λ m. Ok m) c.loop-lane.lanes.items ++ x ∷ []) c.in-Ok.is ∙ sym (map-append (λ m. Ok m) c.loop-lane.lanes.items (c.in-Ok.begun ∷ []))) }

pub returns : goal.returns
returns g c =
    let end = YieldsList-end (YieldsList-from_vec {s = c.into_iter-lane-iterator.result} c.args.opened.items (search rules) (search rules)) c.loop-lane.yielded _ c.loop-lane.yielded_by _ c.next.new.self c.in-None.is c.next.ensures.steps in
    sym end.0 ∙ map-id c.loop-lane.yielded ∙ c.loop-lane.invariant.so_far
