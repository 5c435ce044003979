use Rattle.std.proofs.Common.{rules, ◌≡◌, ap, ◌∙◌}
use Rattle.atomic_table.specs.Table.{Me}
use Rattle.shared_words.specs.declared.share.Share.{Share}
use Rattle.shared_words.proofs.Dealing.{regains_allowed, looks_allowed}
use Rattle.shared_words.proofs.chunks.Chunks.join.Goals as goal

pub join_seat-requires : goal.join_seat-requires
join_seat-requires c =
    let v : c.take-seat.result.me.0 ≡ c.args.hand.now.view = ap (λ (m : Me (Unit {0}) Share). m.0) c.take-seat.ensures.view in
    let w : c.take.result.me.0 ≡ c.args.other.view = ap (λ (m : Me (Unit {0}) Share). m.0) c.take.ensures.view in (
      search rules,
      search rules,
      search rules,
      search rules,
      regains_allowed c.self.inside.table.shared.key _ _ _ _ c.take-seat.ensures.live (ap (λ (x : Share). x.first) v ∙ c.requires.first)
          c.take.ensures.live (ap (λ (x : Share). x.first) w ∙ c.requires.split),
    )

pub load-requires : goal.load-requires
load-requires c = (search rules, search rules, looks_allowed c.self.inside.table.shared.key _ _ _)
