use Rattle.std.proofs.Common.{◌≡◌, ℤ, refl, sym, ap, ◌∙◌, subst, w64, to_z, of_z, rules}
use Rattle.std.proofs.lemmas.Int.{to_z-of_z}
use Rattle.log_format.specs.declared.record.Kind.TheVariants as kind
use Rattle.log_format.specs.Fitting.{fitted}
use Rattle.kernel_model.specs.State.{from_bits}
use Rattle.kernel_model.specs.Value.{access, read}
use Rattle.log_replay.specs.Following.{Reached, here}
use Rattle.log_replay.specs.Forks.{standing}
use Rattle.task_place.specs.Placing.{meant}
use Rattle.log_replay.proofs.Stepping.{read_reaches, read_strays, follows_unread}
use Rattle.log_replay.proofs.lane.ReplayLane.read.Goals as goal

pub returns-in_err-next-clause-follows : goal.returns-in_err-next-clause-follows
returns-in_err-next-clause-follows g c =
    follows_unread (g.F.Folder.state c.args.folder.now) (read (meant c.args.element.now) c.args.site c.args.line) (standing c.args.self.now) (standing c.next.new.self) c.in_err-next.field-0.0 c.from_residual.result c.from_residual.ensures.1 c.in_err-next.ensures.takes

pub returns-then-not-is_same-clause-follows : goal.returns-then-not-is_same-clause-follows
returns-then-not-is_same-clause-follows g c = λ log done rest at.
    let e = meant c.args.element.now in
    let value_is : to_z w64 (of_z w64 c.fit-value.result) ≡ fitted (from_bits c.in_ok-next.next.value) c.args.element.now.width =
    to_z-of_z w64 c.fit-value.result (search rules) ∙ c.fit-value.ensures ∙ ap (λ (z : ℤ). fitted z c.args.element.now.width) (to_z-of_z w64 c.cast_signed.result (search rules) ∙ c.cast_signed.ensures) in
    let due : c.access-due.result ≡ access kind.Read e c.args.site c.args.line (fitted (from_bits c.in_ok-next.next.value) c.args.element.now.width) =
    c.access-due.ensures ∙ ap (λ (z : ℤ). access kind.Read e c.args.site c.args.line z) value_is in
    read_strays (g.F.Folder.state c.args.folder.now) log done rest (standing c.args.self.now) at c.in_ok-next.next (standing c.next.new.self) (c.in_ok-next.ensures.takes log done rest at) e c.args.site c.args.line c.next.new.self.count
    (λ is. let same = c.is_same.ensures.1 (is ∙ sym due) in cc (same, c.if-not-is_same.true)) refl

pub returns-clause-follows : goal.returns-clause-follows
returns-clause-follows g c = λ log done rest at.
    let e = meant c.args.element.now in
    let value_is : to_z w64 (of_z w64 c.fit-value.result) ≡ fitted (from_bits c.in_ok-next.next.value) c.args.element.now.width =
    to_z-of_z w64 c.fit-value.result (search rules) ∙ c.fit-value.ensures ∙ ap (λ (z : ℤ). fitted z c.args.element.now.width) (to_z-of_z w64 c.cast_signed.result (search rules) ∙ c.cast_signed.ensures) in
    let due : c.access-due.result ≡ access kind.Read e c.args.site c.args.line (fitted (from_bits c.in_ok-next.next.value) c.args.element.now.width) =
    c.access-due.ensures ∙ ap (λ (z : ℤ). access kind.Read e c.args.site c.args.line z) value_is in
    subst (λ (z : ℤ). Reached (g.F.Folder.state c.args.folder.now) log (read e c.args.site c.args.line (here (standing c.args.self.now) done rest)) z (standing c.next.new.self)) (sym value_is)
    (read_reaches (g.F.Folder.state c.args.folder.now) log done rest (standing c.args.self.now) at c.in_ok-next.next (standing c.next.new.self) (c.in_ok-next.ensures.takes log done rest at) e c.args.site c.args.line
    (c.is_same.ensures.0 (search (rules, c.if-not-is_same.false)) ∙ due))
