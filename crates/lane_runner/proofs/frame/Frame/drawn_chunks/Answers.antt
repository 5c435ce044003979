use Rattle.std.proofs.Common.{ap, sym, ◌∙◌, subst, ℕ, List, Bool, ℤ, Err, w64, to_z, of_z}
use Rattle.std.proofs.lemmas.Result.{err_from_is_err_and}
use Rattle.std.proofs.lemmas.Int.{to_z-of_z}
use Rattle.kernel_syntax.specs.Program.{code_of}
use Rattle.kernel_model.specs.Effect.{Returned}
use Rattle.kernel_model.specs.Iterations.{chunk_count, chunk_iterations}
use Rattle.kernel_model.specs.Trace.{each}
use Rattle.shared_words.specs.declared.view.View.{View}
use Rattle.shared_words.specs.Handles.{HandValue}
use Rattle.kernel_model.specs.Drawing.{turn_from, draw_all, draw_once}
use Rattle.lane_runner.specs.Alone.{IsAlone}
use Rattle.lane_runner.specs.Drawing.{open_past}
use Rattle.lane_runner.specs.Going.{Goes, Made, site}
use Rattle.lane_runner.proofs.Bodies.{log_later}
use Rattle.kernel_model.proofs.Turns.{chunk_grows}
use Rattle.lane_runner.proofs.Draining.{draws_more, draws_end, draws_stop}
use Rattle.lane_runner.proofs.Values.{can_follow}
use Rattle.lane_runner.proofs.Teams.{teams_later}
use Rattle.lane_runner.proofs.frame.Frame.drawn_chunks.Goals as goal

pub returns-in_err-drawn_chunk-clause-goes : goal.returns-in_err-drawn_chunk-clause-goes
returns-in_err-drawn_chunk-clause-goes g c =
    let p = err_from_is_err_and c.from_residual.result c.from_residual.ensures.1 in
    let from : ℤ = to_z w64 (of_z w64 c.args.from) in
    let grows = chunk_grows (site c.args.world.now) (code_of c.args.body.now.stmts.items) c.args.slot from c.args.total c.args.chunk in
    rw (p.1, p.2)
    (subst (λ (z : ℤ). Goes c.args.world.now (draw_all c.args.line (chunk_count c.args.chunk c.args.total) (λ q. each (chunk_iterations c.args.chunk c.args.total q) (turn_from (site c.args.world.now) (code_of c.args.body.now.stmts.items) c.args.slot z))) c.args.self.now.locals.slots.items c.drawn_chunk.new.self.locals.slots.items c.args.self.now.track c.drawn_chunk.new.self.track (Err c.in_err-drawn_chunk.field-0.0)) (to_z-of_z w64 c.args.from c.ranges.from)
    (draws_stop c.args.line (chunk_count c.args.chunk c.args.total) (λ q. each (chunk_iterations c.args.chunk c.args.total q) (turn_from (site c.args.world.now) (code_of c.args.body.now.stmts.items) c.args.slot from)) grows
    c.args.world.now c.args.self.now.locals.slots.items c.draws.self.locals.slots.items c.drawn_chunk.new.self.locals.slots.items c.args.self.now.track c.draws.self.track c.drawn_chunk.new.self.track c.draws.invariant.on c.in_err-drawn_chunk.field-0.0 c.in_err-drawn_chunk.ensures.goes))

pub returns-then-not-branch-clause-goes : goal.returns-then-not-branch-clause-goes
returns-then-not-branch-clause-goes g c =
    let from : ℤ = to_z w64 (of_z w64 c.args.from) in
    let grows = chunk_grows (site c.args.world.now) (code_of c.args.body.now.stmts.items) c.args.slot from c.args.total c.args.chunk in
    let made = c.in_ok-drawn_chunk.ensures.goes in
    subst (λ (z : ℤ). Made c.args.world.now (draw_all c.args.line (chunk_count c.args.chunk c.args.total) (λ q. each (chunk_iterations c.args.chunk c.args.total q) (turn_from (site c.args.world.now) (code_of c.args.body.now.stmts.items) c.args.slot z))) c.args.self.now.locals.slots.items c.drawn_chunk.new.self.locals.slots.items c.args.self.now.track c.drawn_chunk.new.self.track (Returned tt)) (to_z-of_z w64 c.args.from c.ranges.from)
    (draws_end c.args.line (chunk_count c.args.chunk c.args.total) (λ q. each (chunk_iterations c.args.chunk c.args.total q) (turn_from (site c.args.world.now) (code_of c.args.body.now.stmts.items) c.args.slot from)) grows
    c.args.world.now c.args.self.now.locals.slots.items c.draws.self.locals.slots.items c.drawn_chunk.new.self.locals.slots.items c.args.self.now.track c.draws.self.track c.drawn_chunk.new.self.track c.draws.invariant.on
    (can_follow _ _ _ _ _ _ _ c.draws.invariant.can made)
    (subst (λ (b : Bool). Made c.args.world.now (draw_once c.args.line (chunk_count c.args.chunk c.args.total) (λ q. each (chunk_iterations c.args.chunk c.args.total q) (turn_from (site c.args.world.now) (code_of c.args.body.now.stmts.items) c.args.slot from))) c.draws.self.locals.slots.items c.drawn_chunk.new.self.locals.slots.items c.draws.self.track c.drawn_chunk.new.self.track (Returned b)) c.if-not-branch.true made))

pub draws-preserved : goal.draws-preserved
draws-preserved g c =
    let from : ℤ = to_z w64 (of_z w64 c.args.from) in
    let grows = chunk_grows (site c.args.world.now) (code_of c.args.body.now.stmts.items) c.args.slot from c.args.total c.args.chunk in
    let made = c.in_ok-drawn_chunk.ensures.goes in
    record {
      can = can_follow _ _ _ _ _ _ _ c.draws.invariant.can made;
      held = ap (λ (h : HandValue View). h.view.held) made.done.hand ∙ c.draws.invariant.held;
      opened = c.in_ok-drawn_chunk.ensures.loops ∙ ap (λ (b : Bool). open_past b c.draws.self.track.tally.next_loop) c.if-not-branch.false ∙ c.draws.invariant.opened;
      log = log_later c.args.self.now.track.buffer c.draws.self.track.buffer c.drawn_chunk.new.self.track.buffer c.draws.invariant.log c.in_ok-drawn_chunk.ensures.log;
      on =
          draws_more c.args.line (chunk_count c.args.chunk c.args.total) (λ q. each (chunk_iterations c.args.chunk c.args.total q) (turn_from (site c.args.world.now) (code_of c.args.body.now.stmts.items) c.args.slot from)) grows
          c.args.world.now c.args.self.now.locals.slots.items c.draws.self.locals.slots.items c.drawn_chunk.new.self.locals.slots.items c.args.self.now.track c.draws.self.track c.drawn_chunk.new.self.track c.draws.invariant.on
          (subst (λ (b : Bool). Made c.args.world.now (draw_once c.args.line (chunk_count c.args.chunk c.args.total) (λ q. each (chunk_iterations c.args.chunk c.args.total q) (turn_from (site c.args.world.now) (code_of c.args.body.now.stmts.items) c.args.slot from))) c.draws.self.locals.slots.items c.drawn_chunk.new.self.locals.slots.items c.draws.self.track c.drawn_chunk.new.self.track (Returned b)) c.if-not-branch.false made);
    }

pub drawn_chunk-requires-clause-executes : goal.drawn_chunk-requires-clause-executes
drawn_chunk-requires-clause-executes g c κs given = record {
  can = c.draws.invariant.can;
  bounded = c.requires.executes.bounded;
  alone = subst (λ (held : List ℕ). IsAlone c.args.world.now.words.locks held (code_of c.args.body.now.stmts.items)) (sym c.draws.invariant.held) c.requires.executes.alone;
  runs = teams_later _ _ _ _ _ _ c.draws.invariant.log (code_of c.args.body.now.stmts.items) c.requires.executes.runs;
}
