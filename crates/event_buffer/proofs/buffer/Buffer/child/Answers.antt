use Rattle.std.proofs.Common.{◌≤◌, rules, ap, subst, ℕ}
use Rattle.event_buffer.specs.Buffered.{Buffered, buffered, bytes_in}
use Rattle.event_buffer.proofs.Closing.{child_logs}
use Rattle.event_buffer.proofs.buffer.Buffer.child.Goals as goal

pub returns-clause-done : goal.returns-clause-done
returns-clause-done g c = search rules

pub returns-clause-stopped : goal.returns-clause-stopped
returns-clause-stopped g c = search rules

pub returns-clause-records : goal.returns-clause-records
returns-clause-records g c =
    let inside = c.self.inside in
    child_logs c.child.result c.args.self.now (buffered c.child.new.self (bytes_in inside.block) inside.count) c.requires.unrefused
    (subst (λ (n : ℕ). 24 ≤ n) (ap (λ (b : Buffered). b.size) c.self.view_is) c.self.invariant.0) (returns-clause-done g c) (returns-clause-stopped g c)
