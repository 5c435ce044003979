use Rattle.std.proofs.Common.{◌≡◌, ap, ◌∙◌, subst, vec_len, arith}
use Rattle.atomic_table.specs.Table.{Me}
use Rattle.step_history.specs.History.{HasHistory}
use Rattle.shared_words.specs.declared.view.View.{View}
use Rattle.shared_words.proofs.Ending.{ends}
use Rattle.shared_words.proofs.words.Words.close.Goals as goal

pub returns-clause-history : goal.returns-clause-history
returns-clause-history c =
    let v : c.take.result.me.0 ≡ c.args.hand.view = ap (λ (m : Me (Unit {0}) View). m.0) c.take.ensures.view in
    let room = c.copy_elements.new.room in
    let long : vec_len room ≡ vec_len c.self.inside.room = c.copy_elements.ensures.len in
    let key = c.self.invariant in
    let P : View → Type 0 = λ u. HasHistory u.items room.items in
    subst P v (ends c.self.inside.table.shared.key c.take.result.id c.take.result.me.0 _ room.items _ c.close_with-closed.ensures.values.2
    c.take.ensures.rests.live (ap (λ (u : View). u.name) v ∙ c.requires.first) (ap (λ (u : View). u.out) v ∙ c.requires.none_out)
    (omega arith) (λ word within. c.copy_elements.ensures.values word (omega arith)))
