use Rattle.std.proofs.Common.{◌≡◌, ap, sym, subst, ◌∙◌, ℕ, ◌+◌, ◌-◌, ◌^◌, ◌<◌, ◌≤◌, ℤ, pos, ◌+ℤ◌, ◌≤ℤ◌, w64, arith}
use Rattle.std.proofs.lemmas.Int.{to_z-of_z}
use Rattle.kernel_syntax.specs.Program.{code_of}
use Rattle.kernel_syntax.specs.Share.{even_share_of}
use Rattle.kernel_model.specs.Iterations.{static_iterations, chunk_count, chunk_iterations}
use Rattle.kernel_model.specs.Trace.{each, turns}
use Rattle.kernel_model.specs.Drawing.{turn_from, draw_all}
use Rattle.lane_runner.specs.Going.{Goes, site}
use Rattle.kernel_model.proofs.Turns.{share_within, below_top}
use Rattle.lane_runner.proofs.Dealing.{shared_even, shared_static, shared_drawn}
use Rattle.lane_runner.proofs.frame.Frame.share.Goals as goal

within_is : (lane span given : ℕ) → given ≡ span → lane < given → lane < span
within_is lane span given is less = omega (arith, is, less)

pub even_share-first-requires : goal.even_share-first-requires
even_share-first-requires g c = subst (λ (n : ℕ). n < c.span.result) (sym c.lane.ensures) c.span.ensures.within

pub repeat-requires-clause-top : goal.repeat-requires-clause-top
repeat-requires-clause-top g c κs given =
    let lt = within_is c.args.world.now.lane c.args.world.now.span c.span.result c.span.ensures.span c.span.ensures.within in
    let is : c.even_share-first.result ≡ even_share_of c.args.total c.args.world.now.lane c.args.world.now.span =
    c.even_share-first.ensures ∙ ap (λ (n : ℕ). even_share_of c.args.total n c.span.result) c.lane.ensures ∙ ap (λ (n : ℕ). even_share_of c.args.total c.args.world.now.lane n) c.span.ensures.span in
    let within : c.even_share-first.result.0 + c.even_share-first.result.1 ≤ c.args.total =
    subst (λ (p : ℕ × ℕ). p.0 + p.1 ≤ c.args.total) (sym is) (share_within c.args.total c.args.world.now.lane c.args.world.now.span lt) in
    subst (λ (z : ℤ). (z +ℤ pos (c.even_share-first.result.0 + c.even_share-first.result.1)) ≤ℤ pos (2 ^ 63 - 1)) (sym (to_z-of_z w64 c.args.from c.ranges.from))
    (below_top c.args.from (c.even_share-first.result.0 + c.even_share-first.result.1) c.args.total within c.requires.top)

pub returns-in-Even-clause-goes : goal.returns-in-Even-clause-goes
returns-in-Even-clause-goes g c =
    let is : c.even_share-first.result ≡ even_share_of c.args.total c.args.world.now.lane c.args.world.now.span =
    c.even_share-first.ensures ∙ ap (λ (n : ℕ). even_share_of c.args.total n c.span.result) c.lane.ensures ∙ ap (λ (n : ℕ). even_share_of c.args.total c.args.world.now.lane n) c.span.ensures.span in
    shared_even c.args.world.now (site c.args.world.now) (code_of c.args.body.now.stmts.items) c.args.slot c.args.from c.args.line c.args.total c.args.self.now.locals.slots.items c.repeat.new.self.locals.slots.items c.args.self.now.track c.repeat.new.self.track c.repeat.result
    c.args.schedule c.even_share-first.result c.in-Even.is is
    (subst (λ (z : ℤ). Goes c.args.world.now (turns c.even_share-first.result.1 c.even_share-first.result.0 (turn_from (site c.args.world.now) (code_of c.args.body.now.stmts.items) c.args.slot z)) c.args.self.now.locals.slots.items c.repeat.new.self.locals.slots.items c.args.self.now.track c.repeat.new.self.track c.repeat.result)
    (to_z-of_z w64 c.args.from c.ranges.from) c.repeat.ensures.goes)

pub returns-in-Static-clause-goes : goal.returns-in-Static-clause-goes
returns-in-Static-clause-goes g c =
    shared_static c.args.world.now (site c.args.world.now) (code_of c.args.body.now.stmts.items) c.args.slot c.args.from c.args.line c.args.total c.args.self.now.locals.slots.items c.chunks.new.self.locals.slots.items c.args.self.now.track c.chunks.new.self.track c.chunks.result
    c.args.schedule c.in-Static.chunk c.in-Static.is
    (subst (λ (z : ℤ). Goes c.args.world.now (each (static_iterations c.in-Static.chunk c.args.total c.args.world.now.lane c.args.world.now.span) (turn_from (site c.args.world.now) (code_of c.args.body.now.stmts.items) c.args.slot z)) c.args.self.now.locals.slots.items c.chunks.new.self.locals.slots.items c.args.self.now.track c.chunks.new.self.track c.chunks.result)
    (to_z-of_z w64 c.args.from c.ranges.from) c.chunks.ensures.goes)

pub returns-in-Dynamic-clause-goes : goal.returns-in-Dynamic-clause-goes
returns-in-Dynamic-clause-goes g c =
    shared_drawn c.args.world.now (site c.args.world.now) (code_of c.args.body.now.stmts.items) c.args.slot c.args.from c.args.line c.args.total c.args.self.now.locals.slots.items c.drawn_chunks.new.self.locals.slots.items c.args.self.now.track c.drawn_chunks.new.self.track c.drawn_chunks.result
    c.args.schedule c.in-Dynamic.chunk c.in-Dynamic.is
    (subst (λ (n : ℕ). Goes c.args.world.now (draw_all c.args.line (chunk_count n c.args.total) (λ q. each (chunk_iterations n c.args.total q) (turn_from (site c.args.world.now) (code_of c.args.body.now.stmts.items) c.args.slot c.args.from))) c.args.self.now.locals.slots.items c.drawn_chunks.new.self.locals.slots.items c.args.self.now.track c.drawn_chunks.new.self.track c.drawn_chunks.result)
    c.from.ensures
    (subst (λ (z : ℤ). Goes c.args.world.now (draw_all c.args.line (chunk_count c.from.result c.args.total) (λ q. each (chunk_iterations c.from.result c.args.total q) (turn_from (site c.args.world.now) (code_of c.args.body.now.stmts.items) c.args.slot z))) c.args.self.now.locals.slots.items c.drawn_chunks.new.self.locals.slots.items c.args.self.now.track c.drawn_chunks.new.self.track c.drawn_chunks.result)
    (to_z-of_z w64 c.args.from c.ranges.from) c.drawn_chunks.ensures.goes))
