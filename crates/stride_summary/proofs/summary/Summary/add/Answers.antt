use Rattle.std.proofs.Common.{◌≡◌, ◌⊎◌, ◌↔◌, ◌∙◌, List, Contains, ap, subst, sym}
use Rattle.std.proofs.lemmas.Result.{on_err_weaker, on_ok_weaker}
use Rattle.std.specs.Global.{Vec}
use Rattle.stride_summary.specs.declared.single.Single.{Single}
use Rattle.stride_summary.specs.declared.singles.Singles.{Singles}
use Rattle.stride_summary.specs.declared.stretch.Stretch.{Stretch}
use Rattle.stride_summary.specs.Run.{access_key}
use Rattle.stride_summary.specs.Singles.{HoldsSingle}
use Rattle.stride_summary.specs.Stretches.{HoldsSame}
use Rattle.stride_summary.proofs.Alone.{sums_alone, sums_keyed, sums_same}
use Rattle.stride_summary.proofs.Storing.{HoldsSame-twice}
use Rattle.stride_summary.proofs.summary.Summary.add.Goals as goal

pub returns-in-Some-clause-added : goal.returns-in-Some-clause-added
returns-in-Some-clause-added c =
    let old = c.args.self.now in
    let mid = c.place_of.new.self in
    let new = c.add_to.new.self in
    on_ok_weaker c.add_to.result (λ more k a. sums_keyed old.stretches.items mid.stretches.items new.stretches.items old.singles.list.items new.singles.list.items (access_key c.args.access.now) c.args.access.now.addr
    c.place_of.ensures.same k a more (ap (λ (s : Singles). s.list.items) (c.add_to.ensures.singles ∙ c.place_of.ensures.singles))) c.add_to.ensures.added

pub returns-in-Some-clause-refused : goal.returns-in-Some-clause-refused
returns-in-Some-clause-refused c =
    let old = c.args.self.now in
    let mid = c.place_of.new.self in
    let new = c.add_to.new.self in
    let same = ap (λ (s : Singles). s.list.items) (c.add_to.ensures.singles ∙ c.place_of.ensures.singles) in
    on_err_weaker c.add_to.result (λ kept k a. sums_same old.stretches.items new.stretches.items new.stretches.items old.singles.list.items new.singles.list.items (access_key c.args.access.now) c.args.access.now.addr
    (HoldsSame-twice old.stretches.items mid.stretches.items new.stretches.items c.place_of.ensures.same kept) k a
    (λ s. subst (λ (ss : List Single). Contains new.singles.list.items s ↔ Contains ss s) same ((λ h. h), (λ h. h)))) c.add_to.ensures.refused

pub returns-in-None-clause-added : goal.returns-in-None-clause-added
returns-in-None-clause-added c =
    let old = c.args.self.now in
    let mid = c.place_of.new.self in
    let new = c.add_single.new.self in
    let kept = subst (λ (v : Vec Stretch). HoldsSame old.stretches.items v.items) (sym c.add_single.ensures.stretches) c.place_of.ensures.same in
    on_ok_weaker c.add_single.result (λ more k a. sums_alone old.stretches.items new.stretches.items new.stretches.items old.singles.list.items new.singles.list.items (access_key c.args.access.now) c.args.access.now.addr
    kept k a (subst (λ (ss : List Single). HoldsSingle new.singles.list.items k a ↔ (HoldsSingle ss k a ⊎ ((access_key c.args.access.now ≡ k) × (c.args.access.now.addr ≡ a)))) (ap (λ (s : Singles). s.list.items) c.place_of.ensures.singles) (more k a))) c.add_single.ensures.added

pub returns-in-None-clause-refused : goal.returns-in-None-clause-refused
returns-in-None-clause-refused c =
    let old = c.args.self.now in
    let new = c.add_single.new.self in
    let kept = subst (λ (v : Vec Stretch). HoldsSame old.stretches.items v.items) (sym c.add_single.ensures.stretches) c.place_of.ensures.same in
    on_err_weaker c.add_single.result (λ same k a. sums_same old.stretches.items new.stretches.items new.stretches.items old.singles.list.items new.singles.list.items (access_key c.args.access.now) c.args.access.now.addr
    kept k a (λ s. subst (λ (ss : List Single). Contains new.singles.list.items s ↔ Contains ss s) (ap (λ (s : Singles). s.list.items) c.place_of.ensures.singles) (same s))) c.add_single.ensures.refused
