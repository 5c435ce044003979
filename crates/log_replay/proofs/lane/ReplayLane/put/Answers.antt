use Rattle.std.proofs.Common.{refl, rules}
use Rattle.kernel_model.specs.State.{put}
use Rattle.log_replay.specs.Forks.{standing}
use Rattle.log_replay.proofs.Stepping.{put_reaches, put_strays, follows_unread}
use Rattle.log_replay.proofs.lane.ReplayLane.put.Goals as goal

pub returns-in_err-next-clause-follows : goal.returns-in_err-next-clause-follows
returns-in_err-next-clause-follows g c =
    follows_unread (g.F.Folder.state c.args.folder.now) (put c.args.due) (standing c.args.self.now) (standing c.next.new.self) c.in_err-next.field-0.0 c.from_residual.result c.from_residual.ensures.1 c.in_err-next.ensures.takes

pub returns-then-not-is_same-clause-follows : goal.returns-then-not-is_same-clause-follows
returns-then-not-is_same-clause-follows g c = λ log done rest at.
    put_strays (g.F.Folder.state c.args.folder.now) log done rest (standing c.args.self.now) at c.in_ok-next.next (standing c.next.new.self) (c.in_ok-next.ensures.takes log done rest at) c.args.due c.next.new.self.count
    (λ is. let same = c.is_same.ensures.1 is in cc (same, c.if-not-is_same.true)) refl

pub returns-clause-follows : goal.returns-clause-follows
returns-clause-follows g c = λ log done rest at.
    put_reaches (g.F.Folder.state c.args.folder.now) log done rest (standing c.args.self.now) at c.in_ok-next.next (standing c.next.new.self) (c.in_ok-next.ensures.takes log done rest at) c.args.due c.requires
    (c.is_same.ensures.0 (search (rules, c.if-not-is_same.false)))
