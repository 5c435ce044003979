use Rattle.std.proofs.Common.{◌≡◌, ap, subst, sym, vec_len, arith}
use Rattle.std.specs.Global.{Vec}
use Rattle.std.specs.Prelude.{All}
use Rattle.stride_summary.specs.declared.stretch.Stretch.{Stretch}
use Rattle.stride_summary.specs.Run.{access_key}
use Rattle.stride_summary.proofs.Alone.{holds_more, others_put}
use Rattle.stride_summary.proofs.summary.Summary.add_single.Goals as goal

pub invariant_of-self-clause-others : goal.invariant_of-self-clause-others
invariant_of-self-clause-others c =
    let key = access_key c.args.access.now in
    let mid = c.make_single_room.new.self in
    others_put mid.singles.list.items c.put.new.self.list.items mid.stretches.items key c.args.access.now.addr
    (subst (λ (v : Vec Stretch). All (λ stretch. stretch.key ≡ key → ⊥) v.items) (sym c.make_single_room.ensures.stretches) c.requires.fresh) c.put.ensures.added mid.others

pub invariant_of-self-clause-early : goal.invariant_of-self-clause-early
invariant_of-self-clause-early c = λ less. absurd (omega (arith, less, c.requires.full, c.make_single_room.ensures.most, ap (λ (v : Vec Stretch). vec_len v) c.make_single_room.ensures.stretches))

pub returns-clause-added : goal.returns-clause-added
returns-clause-added c = holds_more c.args.self.now.singles.list.items c.make_single_room.new.self.singles.list.items c.put.new.self.list.items (access_key c.args.access.now) c.args.access.now.addr c.make_single_room.ensures.same c.put.ensures.added
