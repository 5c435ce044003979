use Rattle.std.proofs.Common.{◌≡◌, ℕ, Bool, false, IsTrue, subst, sym, ◌∙◌}
use Rattle.pair_compare.proofs.Inserts.{Inserts, Inserts-from_updates, AddsPairs-insert, AddsPairs-nothing, Contains-known}
use Rattle.pair_compare.proofs.conflict.add_conflict.Goals as goal

not_so : {b : Bool} → IsTrue b → b ≡ false → ⊥
not_so h e = cc

pub returns-then-not-may_race-clause-added : goal.returns-then-not-may_race-clause-added
returns-then-not-may_race-clause-added c = AddsPairs-nothing c.args.pairs.now.keys c.args.a.now c.args.b.now (λ conflict. absurd (not_so (c.may_race.ensures.1 (conflict.writes, conflict.not_both_atomic)) c.if-not-may_race.true))

pub returns-in_ok-insert-clause-added : goal.returns-in_ok-insert-clause-added
returns-in_ok-insert-clause-added c =
    let may = c.may_race.ensures.0 c.if-not-may_race.false in
    let both = c.collide.ensures.0 c.if-collide.true in
    AddsPairs-insert _ _ _ _ (record { shares = both.1; writes = may.0; not_both_atomic = may.1; no_mutex = both.0 })
    (subst (λ (pair : ℕ × ℕ). Inserts c.args.pairs.now.keys c.insert.new.self.keys pair) c.lines_of-lines.ensures (Inserts-from_updates _ _ _ c.in_ok-insert.ensures.updates))

pub returns-then-contains-clause-added : goal.returns-then-contains-clause-added
returns-then-contains-clause-added c = AddsPairs-nothing c.args.pairs.now.keys c.args.a.now c.args.b.now (λ conflict. Contains-known c.args.pairs.now _ _ c.lines_of-lines.ensures (sym c.contains.ensures ∙ c.if-contains.true))

pub returns-else-collide-clause-added : goal.returns-else-collide-clause-added
returns-else-collide-clause-added c = AddsPairs-nothing c.args.pairs.now.keys c.args.a.now c.args.b.now (λ conflict. absurd (not_so (c.collide.ensures.1 (conflict.no_mutex, conflict.shares)) c.if-collide.false))
