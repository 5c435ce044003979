use Rattle.std.proofs.Common.{sym, subst, ℤ, w64, to_z, of_z, rules}
use Rattle.std.proofs.lemmas.Int.{to_z-of_z}
use Rattle.serial_run.specs.declared.frame.Frame.{Frame}
use Rattle.serial_run.specs.declared.frame.Frame.TheVariants as frame
use Rattle.serial_run.specs.Resting.{frame_part}
use Rattle.serial_run.specs.Stepping.{TakesPart, stand}
use Rattle.serial_run.proofs.lane.SerialLane.go_on.Goals as goal

pub returns-in-Turns : goal.returns-in-Turns
returns-in-Turns c =
    let x = stand c.args.self.now c.args.memory.now in
    let new = stand c.turn.new.self c.args.memory.now in
    let v = c.in-Turns in
    λ layout tells.
    subst (λ (f : Frame). TakesPart layout (frame_part x.at f) x new c.turn.result) (sym v.is)
    (subst (λ (z : ℤ). TakesPart layout (frame_part x.at (frame.Turns v.body v.slot z v.end)) x new c.turn.result) (to_z-of_z w64 v.next (search rules))
    (subst (λ (z : ℤ). TakesPart layout (frame_part x.at (frame.Turns v.body v.slot (to_z w64 (of_z w64 v.next)) z)) x new c.turn.result) (to_z-of_z w64 v.end (search rules))
    (c.turn.ensures layout c.args.memory.now)))

pub returns-in-Chunks : goal.returns-in-Chunks
returns-in-Chunks c =
    let x = stand c.args.self.now c.args.memory.now in
    let new = stand c.deal.new.self c.args.memory.now in
    let v = c.in-Chunks in
    λ layout tells.
    subst (λ (f : Frame). TakesPart layout (frame_part x.at f) x new c.deal.result) (sym v.is)
    (subst (λ (z : ℤ). TakesPart layout (frame_part x.at (frame.Chunks v.body v.slot z v.to v.chunk v.next)) x new c.deal.result) (to_z-of_z w64 v.from (search rules))
    (subst (λ (z : ℤ). TakesPart layout (frame_part x.at (frame.Chunks v.body v.slot (to_z w64 (of_z w64 v.from)) z v.chunk v.next)) x new c.deal.result) (to_z-of_z w64 v.to (search rules))
    (c.deal.ensures layout c.args.memory.now)))

pub returns-in-Barrier : goal.returns-in-Barrier
returns-in-Barrier c = λ layout tells.
    subst (λ (f : Frame). TakesPart layout (frame_part c.args.self.now.place f) (stand c.args.self.now c.args.memory.now) (stand c.meet.new.self c.meet.new.memory) c.meet.result) (sym c.in-Barrier.is)
    (c.meet.ensures layout)

pub returns-in-Statements : goal.returns-in-Statements
returns-in-Statements c = λ layout tells.
    subst (λ (f : Frame). TakesPart layout (frame_part c.args.self.now.place f) (stand c.args.self.now c.args.memory.now) (stand c.next.new.self c.next.new.memory) c.next.result) (sym c.in-Statements.is)
    (c.next.ensures layout tells)
