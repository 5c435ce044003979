use Rattle.std.proofs.Common.{◌≡◌, refl, sym, ◌∙◌, min, rules}
use Rattle.log_format.specs.declared.record.Kind.TheVariants as kind
use Rattle.kernel_model.specs.State.{event}
use Rattle.kernel_model.specs.Trace.{draw}
use Rattle.log_replay.specs.Forks.{standing}
use Rattle.log_replay.proofs.Stepping.{draw_reaches, draw_strays, follows_unread}
use Rattle.log_replay.proofs.lane.ReplayLane.draw.Goals as goal

pub returns-in_err-next-clause-follows : goal.returns-in_err-next-clause-follows
returns-in_err-next-clause-follows g c =
    follows_unread (g.F.Folder.state c.args.folder.now) (draw c.args.line c.args.chunks) (standing c.args.self.now) (standing c.next.new.self) c.in_err-next.field-0.0 c.from_residual.result c.from_residual.ensures.1 c.in_err-next.ensures.takes

pub returns-then-not-is_same-clause-follows : goal.returns-then-not-is_same-clause-follows
returns-then-not-is_same-clause-follows g c = λ log done rest at.
    let due : c.event-due.result ≡ event kind.Chunk c.args.line (min c.in_ok-next.next.addr c.args.chunks) c.args.chunks = search rules in
    draw_strays (g.F.Folder.state c.args.folder.now) log done rest (standing c.args.self.now) at c.in_ok-next.next (standing c.next.new.self) (c.in_ok-next.ensures.takes log done rest at) c.args.line c.args.chunks c.next.new.self.count
    (λ is. let same = c.is_same.ensures.1 (is ∙ sym due) in cc (same, c.if-not-is_same.true)) refl

pub returns-clause-follows : goal.returns-clause-follows
returns-clause-follows g c = λ log done rest at.
    let due : c.event-due.result ≡ event kind.Chunk c.args.line (min c.in_ok-next.next.addr c.args.chunks) c.args.chunks = search rules in
    draw_reaches (g.F.Folder.state c.args.folder.now) log done rest (standing c.args.self.now) at c.in_ok-next.next (standing c.next.new.self) (c.in_ok-next.ensures.takes log done rest at) c.args.line c.args.chunks
    (c.is_same.ensures.0 (search (rules, c.if-not-is_same.false)) ∙ due)
