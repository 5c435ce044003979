use Rattle.std.proofs.Common.{◌≡◌, ◌<◌, ◌≤◌, List, Contains, Bool, true, false, not, refl, rules, subst}
use Rattle.std.proofs.lemmas.Result.{on_ok_weaker}
use Rattle.pair_compare.specs.Conflict.{AddsPairs, OneHas}
use Rattle.pair_compare.specs.Sweeps.{IsHullPair}
use Rattle.pair_compare.specs.declared.hull.Hull.{Hull}
use Rattle.pair_compare.proofs.Activity.{adds_early, adds_late, reads_apart, updates_apart}
use Rattle.pair_compare.proofs.sweeping.meet_active.Goals as goal

pub returns-then-hull-from : goal.returns-then-hull-from
returns-then-hull-from c =
    let early : c.args.hull.now.low < c.args.from = search rules in
    adds_early c.args.pairs.now.keys c.args.pairs.now.keys c.args.from c.args.hull.now c.args.active.now early

pub meet_if-requires : goal.meet_if-requires
meet_if-requires c = λ read other listed. reads_apart c.args.pairs.now.keys c.args.pairs.now.keys c.args.from c.args.hull.now c.args.active.now c.requires read other (subst (λ (hs : List Hull). Contains hs other) c.deref.ensures.value listed)

taken_back : (b : Bool) → not b ≡ false → b ≡ true
taken_back true e = refl
taken_back false e = cc

pub meet_if-requires-2 : goal.meet_if-requires-2
meet_if-requires-2 c = λ atomic other listed. updates_apart c.args.pairs.now.keys c.args.pairs.now.keys c.args.from c.args.hull.now c.args.active.now c.requires (taken_back c.args.hull.now.run.now.atomic atomic) other (subst (λ (hs : List Hull). Contains hs other) c.deref-2.ensures.value listed)

pub returns : goal.returns
returns c =
    let late : c.args.from ≤ c.args.hull.now.low = search rules in
    let k0 = c.args.pairs.now.keys in
    let k1 = c.meet_if.new.pairs.keys in
    let k2 = c.meet_if-2.new.pairs.keys in
    on_ok_weaker c.meet_all.result
    (λ adds. adds_late k0 k1 c.args.from c.args.hull.now c.args.active.now k2 c.meet_all.new.pairs.keys late
    (subst (λ (hs : List Hull). AddsPairs k0 k1 (OneHas (IsHullPair c.args.hull.now) hs)) c.deref.ensures.value c.in_ok-meet_if.ensures)
    (subst (λ (hs : List Hull). AddsPairs k1 k2 (OneHas (IsHullPair c.args.hull.now) hs)) c.deref-2.ensures.value c.in_ok-meet_if-2.ensures)
    (subst (λ (hs : List Hull). AddsPairs k2 c.meet_all.new.pairs.keys (OneHas (IsHullPair c.args.hull.now) hs)) c.deref-3.ensures.value adds)) c.meet_all.ensures
