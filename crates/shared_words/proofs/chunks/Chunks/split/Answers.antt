use Rattle.std.proofs.Common.{rules, arith, ◌≡◌, ap, ◌∙◌}
use Rattle.atomic_table.specs.Table.{Me}
use Rattle.shared_words.specs.declared.share.Share.{Share}
use Rattle.shared_words.proofs.Dealing.{lends_allowed}
use Rattle.shared_words.proofs.chunks.Chunks.split.Goals as goal

pub split_seat-other-requires : goal.split_seat-other-requires
split_seat-other-requires c =
    let v : c.take-seat.result.me.0 ≡ c.args.hand.now.view = ap (λ (m : Me (Unit {0}) Share). m.0) c.take-seat.ensures.view in
    let same = ap (λ (x : Share). x.splits) v in
    let few = c.requires.splits in (
      search rules,
      search rules,
      lends_allowed c.self.inside.table.shared.key _ _ c.take-seat.ensures.live (ap (λ (x : Share). x.first) v ∙ c.requires.first) (omega arith),
    )
