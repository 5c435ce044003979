use Rattle.std.proofs.Common.{codes}
use Rattle.memory_environment.specs.MemFolder.{content_of}
use Rattle.certify.proofs.Putting.{put_more, rows_more}
use Rattle.certify.proofs.holding.put_logs.Goals as goal

pub loop-log-preserved : goal.loop-log-preserved
loop-log-preserved c = record {
  content = put_more (codes "c") c.loop-log.yielded c.in-Some.log (content_of c.args.folder.now) (content_of c.loop-log.folder) (content_of c.put_log.new.folder) c.loop-log.invariant.content c.in_ok-put_log.ensures;
  rows = rows_more c.args.rows.now.items c.loop-log.rows.items c.push.new.self.items c.loop-log.yielded c.in-Some.log c.loop-log.invariant.rows c.in_ok-push.ensures.items;
}
