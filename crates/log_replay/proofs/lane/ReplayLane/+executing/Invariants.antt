use Rattle.std.proofs.Common.{◌≡◌, ◌≤◌, ◌-◌, ◌*◌, Ok, take}
use Rattle.kernel_syntax.specs.Program.{code_of}
use Rattle.kernel_model.specs.Drawing.{turn_from, draw_all}
use Rattle.kernel_model.specs.Iterations.{chunk_count, chunk_iterations}
use Rattle.kernel_model.specs.Trace.{each, run, turns}
use Rattle.log_replay.specs.Following.{FollowsPart}
use Rattle.log_replay.specs.Forks.{standing}
use Rattle.log_replay.proofs.Draws.{FollowedChunks, FollowsOn}
use Rattle.log_replay.proofs.lane.ReplayLane.+executing.Given as goal

abbrev pub invariant-chunks-chunks : goal.invariant-chunks-chunks
invariant-chunks-chunks g l = record {
  followed : FollowedChunks (g.F.Folder.state l.fn.folder) l.place (code_of l.body.stmts.items) l.fn.slot l.fn.from l.fn.chunk l.fn.total l.first (standing l.fn.self) (standing l.self);
  stride : l.stride ≡ l.fn.chunk * l.place.span;
  fewer : l.self.reader.left ≤ l.fn.self.reader.left;
  same : g.F.Folder.state l.folder ≡ g.F.Folder.state l.fn.folder;
  no_fault : g.F.Folder.read_faults l.folder ≡ g.F.Folder.read_faults l.fn.folder;
}

abbrev pub decreases-chunks-chunks : goal.decreases-chunks-chunks
decreases-chunks-chunks g l = l.total - l.first

abbrev pub invariant-drawn_chunks-draws : goal.invariant-drawn_chunks-draws
invariant-drawn_chunks-draws g l = record {
  on : FollowsOn (g.F.Folder.state l.fn.folder) (draw_all l.fn.line (chunk_count l.fn.chunk l.fn.total) (λ q. each (chunk_iterations l.fn.chunk l.fn.total q) (turn_from l.place (code_of l.body.stmts.items) l.fn.slot l.fn.from))) (standing l.fn.self) (standing l.self);
  fewer : l.self.reader.left ≤ l.fn.self.reader.left;
  same : g.F.Folder.state l.folder ≡ g.F.Folder.state l.fn.folder;
  no_fault : g.F.Folder.read_faults l.folder ≡ g.F.Folder.read_faults l.fn.folder;
}

abbrev pub decreases-drawn_chunks-draws : goal.decreases-drawn_chunks-draws
decreases-drawn_chunks-draws g l = l.self.reader.left

abbrev pub invariant-repeat-loop-i : goal.invariant-repeat-loop-i
invariant-repeat-loop-i g l = record {
  follows : FollowsPart (g.F.Folder.state l.fn.folder) (turns l.i l.fn.first (turn_from l.place (code_of l.body.stmts.items) l.slot l.from)) (standing l.fn.self) (standing l.self) (Ok tt);
  fewer : l.self.reader.left ≤ l.fn.self.reader.left;
  same : g.F.Folder.state l.folder ≡ g.F.Folder.state l.fn.folder;
  no_fault : g.F.Folder.read_faults l.folder ≡ g.F.Folder.read_faults l.fn.folder;
}

abbrev pub invariant-statements-loop-stmt : goal.invariant-statements-loop-stmt
invariant-statements-loop-stmt g l = record {
  items : l.stmt-items ≡ l.body.stmts.items;
  follows : FollowsPart (g.F.Folder.state l.fn.folder) (run l.place (code_of (take l.stmt-index l.body.stmts.items))) (standing l.fn.self) (standing l.self) (Ok tt);
  fewer : l.self.reader.left ≤ l.fn.self.reader.left;
  same : g.F.Folder.state l.folder ≡ g.F.Folder.state l.fn.folder;
  no_fault : g.F.Folder.read_faults l.folder ≡ g.F.Folder.read_faults l.fn.folder;
}
