use Rattle.std.proofs.Common.{List, sym, ap, subst, ◌∙◌, arith}
use Rattle.stride_summary.specs.declared.stretch.Stretch.{Stretch}
use Rattle.stride_summary.specs.declared.summary.Summary.{Summary}
use Rattle.stride_summary.specs.Run.{access_key}
use Rattle.stride_summary.specs.Stretches.{HoldsSame, IsPlaceOf}
use Rattle.stride_summary.proofs.Holding.{on_err_from}
use Rattle.stride_summary.proofs.Storing.{HoldsOneMore-at}
use Rattle.stride_summary.proofs.summary.Summary.add_to.Goals as goal

pub returns-in_err-make_room-clause-refused : goal.returns-in_err-make_room-clause-refused
returns-in_err-make_room-clause-refused c =
    let followed = ap (λ (s : Summary). s.stretches.items) c.follow.ensures in
    on_err_from c.from_residual.result
    (subst (λ (xs : List Stretch). HoldsSame xs c.make_room.new.self.stretches.items) followed c.in_err-make_room.ensures.same)

pub returns-clause-added : goal.returns-clause-added
returns-clause-added c =
    let key = access_key c.args.access.now in
    let followed = ap (λ (s : Summary). s.stretches.items) c.follow.ensures in
    let at : IsPlaceOf c.follow.new.self.stretches.items key c.args.place = subst (λ (xs : List Stretch). IsPlaceOf xs key c.args.place) (sym followed) c.requires in
    HoldsOneMore-at c.args.self.now.stretches.items c.make_room.new.self.stretches.items c.add_at.new.self.stretches.items c.args.place key c.args.access.now.addr
    (subst (λ (xs : List Stretch). HoldsSame xs c.make_room.new.self.stretches.items) followed c.in_ok-make_room.ensures.same)
    (omega (arith, at.0, c.in_ok-make_room.ensures.count), λ d. c.in_ok-make_room.ensures.key d ∙ at.1 d)
    c.add_at.ensures.added
