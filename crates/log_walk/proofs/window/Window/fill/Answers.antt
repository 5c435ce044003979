use Rattle.log_walk.specs.Unread.{unread}
use Rattle.log_walk.proofs.Unread.{next_ahead}
use Rattle.log_walk.proofs.window.Window.fill.Goals as goal

pub returns-clause-next : goal.returns-clause-next
returns-clause-next g c = λ left told.
    next_ahead c.read_more.new.self (g.T.File.rest c.read_more.new.file) (unread c.args.self.now (g.T.File.rest c.args.file.now)) left c.args.count c.in_ok-read_more.ensures.unread told c.in_ok-read_more.ensures.all
