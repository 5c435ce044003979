use Rattle.std.proofs.Common.{◌≡◌, ℕ, List, None, length}
use Rattle.log_format.specs.declared.record.Record.{Record}
use Rattle.event_buffer.specs.Buffered.{IsStill}
use Rattle.event_buffer.specs.Logged.{HoldsRecords}
use Rattle.lane_runner.specs.Children.{EachIsNew}
use Rattle.lane_runner.proofs.children.children.Given as goal

abbrev pub invariant-loop-lane : goal.invariant-loop-lane
invariant-loop-lane g l = record {
  each : EachIsNew g.L.Log l.fn.buffer l.number l.span l.logs.items;
  count : length l.logs.items ≡ l.lane;
  still : IsStill l.fn.buffer l.buffer;
  waiting : l.buffer.waiting ≡ l.fn.buffer.waiting;
  unrefused : l.buffer.refused ≡ None;
  records : (header : List ℕ) (records : List Record) → HoldsRecords header l.fn.buffer records → HoldsRecords header l.buffer records;
}
