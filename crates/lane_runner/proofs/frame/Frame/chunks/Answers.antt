use Rattle.std.proofs.Common.{◌≡◌, sym, subst, pos, ◌+ℤ◌, ◌≤ℤ◌, ℕ, ◌+◌, ◌-◌, ◌*◌, ◌^◌, ◌<◌, min, ℤ, Err, w64, to_z, of_z, rules, arith, refl, ◌∙◌}
use Rattle.std.proofs.lemmas.Result.{err_from_is_err_and}
use Rattle.std.proofs.lemmas.Int.{to_z-of_z}
use Rattle.kernel_syntax.specs.Program.{code_of}
use Rattle.kernel_model.specs.Iterations.{static_iterations}
use Rattle.kernel_model.specs.Trace.{each, turns}
use Rattle.kernel_model.specs.Effect.{Returned}
use Rattle.kernel_model.specs.Drawing.{turn_from}
use Rattle.lane_runner.specs.Going.{Made, Goes, site}
use Rattle.lane_runner.proofs.Bodies.{log_still, log_later}
use Rattle.kernel_model.proofs.Turns.{below_top}
use Rattle.lane_runner.proofs.Dealing.{MadeChunks, chunks_none, chunks_all, chunks_grow, chunks_stop}
use Rattle.lane_runner.proofs.Ongoing.{executes_later}
use Rattle.lane_runner.proofs.frame.Frame.chunks.Goals as goal

within_is : (lane span given : ℕ) → given ≡ span → lane < given → lane < span
within_is lane span given is less = omega (arith, is, less)

pub chunks-init : goal.chunks-init
chunks-init g c =
    let within = within_is c.args.world.now.lane c.args.world.now.span c.span.result c.span.ensures.span c.span.ensures.within in
    let small : c.args.chunk * c.args.world.now.lane < 2 ^ 64 = search rules in
    let begins : c.args.chunk * c.args.world.now.lane ≡ c.from-chunk.result * c.from-2.result = search rules in
    record {
      made =
          subst (λ (n : ℕ). MadeChunks c.args.world.now (site c.args.world.now) (code_of c.args.body.now.stmts.items) c.args.slot (to_z w64 (of_z w64 c.args.from)) c.args.chunk c.args.total n c.args.self.now.locals.slots.items c.args.self.now.locals.slots.items c.args.self.now.track c.args.self.now.track) begins
          (chunks_none c.args.world.now (site c.args.world.now) (code_of c.args.body.now.stmts.items) c.args.slot (to_z w64 (of_z w64 c.args.from)) c.args.chunk c.args.total c.requires.some within c.args.self.now.locals.slots.items c.args.self.now.track c.requires.executes.can small);
      log = log_still c.args.self.now.track.buffer;
      loops = refl;
      stride = search rules;
    }

pub repeat-requires-clause-executes : goal.repeat-requires-clause-executes
repeat-requires-clause-executes g c κs given = executes_later c.chunks.invariant.made.made c.chunks.invariant.log c.requires.executes

pub repeat-requires-clause-top : goal.repeat-requires-clause-top
repeat-requires-clause-top g c κs given =
    let count : c.min-count.result ≡ min c.args.chunk (c.args.total - c.chunks.first) = search rules in
    let within_loop : c.chunks.first < c.args.total = search rules in
    subst (λ (z : ℤ). (z +ℤ pos (c.chunks.first + c.min-count.result)) ≤ℤ pos (2 ^ 63 - 1)) (sym (to_z-of_z w64 c.args.from c.ranges.from))
    (below_top c.args.from (c.chunks.first + c.min-count.result) c.args.total (omega (arith, count, within_loop)) c.requires.top)

pub returns-in_err-repeat-clause-goes : goal.returns-in_err-repeat-clause-goes
returns-in_err-repeat-clause-goes g c =
    let p = err_from_is_err_and c.from_residual.result c.from_residual.ensures.1 in
    let within = within_is c.args.world.now.lane c.args.world.now.span c.span.result c.span.ensures.span c.span.ensures.within in
    let count : c.min-count.result ≡ min c.args.chunk (c.args.total - c.chunks.first) = search rules in
    let within_loop : c.chunks.first < c.args.total = search rules in
    let small : c.args.total < 2 ^ 64 = search rules in
    rw (p.1, p.2)
    (subst (λ (z : ℤ). Goes c.args.world.now (each (static_iterations c.args.chunk c.args.total c.args.world.now.lane c.args.world.now.span) (turn_from (site c.args.world.now) (code_of c.args.body.now.stmts.items) c.args.slot z)) c.args.self.now.locals.slots.items c.repeat.new.self.locals.slots.items c.args.self.now.track c.repeat.new.self.track (Err c.in_err-repeat.field-0.0)) (to_z-of_z w64 c.args.from c.ranges.from)
    (chunks_stop c.args.world.now (site c.args.world.now) (code_of c.args.body.now.stmts.items) c.args.slot (to_z w64 (of_z w64 c.args.from)) c.args.chunk c.args.total c.requires.some within c.chunks.first c.args.self.now.locals.slots.items c.chunks.self.locals.slots.items c.repeat.new.self.locals.slots.items
    c.args.self.now.track c.chunks.self.track c.repeat.new.self.track c.chunks.invariant.made within_loop small c.in_err-repeat.field-0.0
    (subst (λ (n : ℕ). Goes c.args.world.now (turns n c.chunks.first (turn_from (site c.args.world.now) (code_of c.args.body.now.stmts.items) c.args.slot (to_z w64 (of_z w64 c.args.from)))) c.chunks.self.locals.slots.items c.repeat.new.self.locals.slots.items c.chunks.self.track c.repeat.new.self.track (Err c.in_err-repeat.field-0.0)) count c.in_err-repeat.ensures.goes)))

pub chunks-preserved : goal.chunks-preserved
chunks-preserved g c =
    let within = within_is c.args.world.now.lane c.args.world.now.span c.span.result c.span.ensures.span c.span.ensures.within in
    let count : c.min-count.result ≡ min c.args.chunk (c.args.total - c.chunks.first) = search rules in
    let within_loop : c.chunks.first < c.args.total = search rules in
    let small : c.args.total < 2 ^ 64 = search rules in
    let next : min (c.chunks.first + c.args.chunk * c.args.world.now.span) (2 ^ 64 - 1) ≡ c.saturating_add-first.result = search rules in
    record {
      made =
          subst (λ (n : ℕ). MadeChunks c.args.world.now (site c.args.world.now) (code_of c.args.body.now.stmts.items) c.args.slot (to_z w64 (of_z w64 c.args.from)) c.args.chunk c.args.total n c.args.self.now.locals.slots.items c.repeat.new.self.locals.slots.items c.args.self.now.track c.repeat.new.self.track) next
          (chunks_grow c.args.world.now (site c.args.world.now) (code_of c.args.body.now.stmts.items) c.args.slot (to_z w64 (of_z w64 c.args.from)) c.args.chunk c.args.total c.requires.some within c.chunks.first c.args.self.now.locals.slots.items c.chunks.self.locals.slots.items c.repeat.new.self.locals.slots.items
          c.args.self.now.track c.chunks.self.track c.repeat.new.self.track c.chunks.invariant.made within_loop small
          (subst (λ (n : ℕ). Made c.args.world.now (turns n c.chunks.first (turn_from (site c.args.world.now) (code_of c.args.body.now.stmts.items) c.args.slot (to_z w64 (of_z w64 c.args.from)))) c.chunks.self.locals.slots.items c.repeat.new.self.locals.slots.items c.chunks.self.track c.repeat.new.self.track (Returned tt)) count c.in_ok-repeat.ensures.goes));
      log = log_later c.args.self.now.track.buffer c.chunks.self.track.buffer c.repeat.new.self.track.buffer c.chunks.invariant.log c.in_ok-repeat.ensures.log;
      loops = c.repeat.ensures.loops ∙ c.chunks.invariant.loops;
      stride = c.chunks.invariant.stride;
    }

pub returns-clause-goes : goal.returns-clause-goes
returns-clause-goes g c =
    let within = within_is c.args.world.now.lane c.args.world.now.span c.span.result c.span.ensures.span c.span.ensures.within in
    subst (λ (z : ℤ). Made c.args.world.now (each (static_iterations c.args.chunk c.args.total c.args.world.now.lane c.args.world.now.span) (turn_from (site c.args.world.now) (code_of c.args.body.now.stmts.items) c.args.slot z)) c.args.self.now.locals.slots.items c.chunks.self.locals.slots.items c.args.self.now.track c.chunks.self.track (Returned tt)) (to_z-of_z w64 c.args.from c.ranges.from)
    (chunks_all c.args.world.now (site c.args.world.now) (code_of c.args.body.now.stmts.items) c.args.slot (to_z w64 (of_z w64 c.args.from)) c.args.chunk c.args.total c.requires.some within c.chunks.first c.args.self.now.locals.slots.items c.chunks.self.locals.slots.items c.args.self.now.locals.slots.items
    c.args.self.now.track c.chunks.self.track c.args.self.now.track c.chunks.invariant.made c.chunks-test.false)
