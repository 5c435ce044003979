use Rattle.std.proofs.Common.{rules, ◌≡◌, ap, ap₂, sym, ◌∙◌, ◌∷◌}
use Rattle.atomic_table.specs.Table.{Me}
use Rattle.shared_words.specs.declared.view.View.{View}
use Rattle.shared_words.specs.Views.{split_number}
use Rattle.shared_words.proofs.Joining.{joins_allowed}
use Rattle.shared_words.proofs.words.Words.join.Goals as goal

pub join_seat-requires : goal.join_seat-requires
join_seat-requires c =
    let home = c.requires.home in
    let v : c.take-seat.result.me.0 ≡ c.args.hand.now.view = ap (λ (m : Me (Unit {0}) View). m.0) c.take-seat.ensures.view in
    let w : c.take.result.me.0 ≡ c.args.other.view = ap (λ (m : Me (Unit {0}) View). m.0) c.take.ensures.view in (
      search rules,
      search rules,
      search rules,
      search rules,
      joins_allowed c.self.inside.table.shared.key _ _ _ _ c.take-seat.ensures.rests.live c.take.ensures.rests.live
          (ap (λ (x : View). x.name) w ∙ (home.split ∙ ap₂ (λ (x y : View). split_number x.name ∷ y.name) (sym w) (sym v))) (ap (λ (x : View). x.out) w ∙ home.none_out)
          (ap (λ (x : View). x.held) w ∙ home.holds_none),
    )
