use Rattle.std.proofs.Common.{◌≡◌, sym, ◌∙◌, subst, ℕ, suc, ◌+◌, ◌-◌, ◌*◌, ◌^◌, ◌<◌, ◌≤◌, min, true, ℤ, pos, ◌+ℤ◌, ◌≤ℤ◌, Err, nat_lt, w64, rules, arith}
use Rattle.std.proofs.lemmas.Result.{err_from_is_err_and}
use Rattle.std.proofs.lemmas.Int.{to_z-of_z}
use Rattle.kernel_syntax.specs.Program.{code_of}
use Rattle.kernel_model.specs.Iterations.{chunk_count}
use Rattle.kernel_model.specs.Trace.{draw, turns}
use Rattle.kernel_model.specs.Effect.{Returned}
use Rattle.kernel_model.specs.Drawing.{turn_from}
use Rattle.lane_runner.specs.Going.{Goes, Made, site}
use Rattle.lane_runner.proofs.Values.{can_follow}
use Rattle.kernel_model.proofs.Turns.{below_top, chunk_begins}
use Rattle.lane_runner.proofs.Chunking.{draw_stops, none_left, chunk_stops, chunk_ends}
use Rattle.lane_runner.proofs.Ongoing.{executes_later}
use Rattle.lane_runner.proofs.frame.Frame.drawn_chunk.Goals as goal

below : (q n given : ℕ) → given ≡ n → q ≤ given → (q ≡ given → ⊥) → q < n
below q n given is most other = omega (arith, is, most, other)

is_below : (q n : ℕ) → q < n → nat_lt q n ≡ true
is_below q n less = grind (arith, less)

pub returns-in_err-number-clause-goes : goal.returns-in_err-number-clause-goes
returns-in_err-number-clause-goes g c =
    let p = err_from_is_err_and c.from_residual.result c.from_residual.ensures.1 in
    let count : c.div_ceil-chunks.result ≡ chunk_count c.args.chunk c.args.total = search rules in
    rw (p.1, p.2) (draw_stops c.args.world.now (site c.args.world.now) (code_of c.args.body.now.stmts.items) c.args.slot c.args.from c.args.line c.args.total c.args.chunk c.args.self.now.locals.slots.items c.args.self.now.track c.draw.new.self c.in_err-number.field-0.0
    (subst (λ (n : ℕ). Goes c.args.world.now (draw c.args.line n) c.args.self.now.locals.slots.items c.args.self.now.locals.slots.items c.args.self.now.track c.draw.new.self (Err c.in_err-number.field-0.0)) count (c.in_err-number.ensures.goes c.args.self.now.locals.slots.items)))

pub returns-then-number-chunks-clause-goes : goal.returns-then-number-chunks-clause-goes
returns-then-number-chunks-clause-goes g c =
    let count : c.div_ceil-chunks.result ≡ chunk_count c.args.chunk c.args.total = search rules in
    none_left c.args.world.now (site c.args.world.now) (code_of c.args.body.now.stmts.items) c.args.slot c.args.from c.args.line c.args.total c.args.chunk c.args.self.now.locals.slots.items c.in_ok-number.number c.args.self.now.track c.draw.new.self
    (subst (λ (n : ℕ). Made c.args.world.now (draw c.args.line n) c.args.self.now.locals.slots.items c.args.self.now.locals.slots.items c.args.self.now.track c.draw.new.self (Returned c.in_ok-number.number)) count (c.in_ok-number.ensures.goes c.args.self.now.locals.slots.items))
    (can_follow _ _ _ _ _ _ _ c.requires.executes.can (c.in_ok-number.ensures.goes c.args.self.now.locals.slots.items)) (c.if-number-chunks.true ∙ count)

pub overflow_sub-total : goal.overflow_sub-total
overflow_sub-total g c =
    let count : c.div_ceil-chunks.result ≡ chunk_count c.args.chunk c.args.total = search rules in
    let begins = chunk_begins c.args.total c.args.chunk c.in_ok-number.number c.requires.some (below c.in_ok-number.number (chunk_count c.args.chunk c.args.total) c.div_ceil-chunks.result count c.in_ok-number.ensures.within c.if-number-chunks.false) in
    omega (arith, begins)

pub overflow_mul-first : goal.overflow_mul-first
overflow_mul-first g c =
    let count : c.div_ceil-chunks.result ≡ chunk_count c.args.chunk c.args.total = search rules in
    let begins = chunk_begins c.args.total c.args.chunk c.in_ok-number.number c.requires.some (below c.in_ok-number.number (chunk_count c.args.chunk c.args.total) c.div_ceil-chunks.result count c.in_ok-number.ensures.within c.if-number-chunks.false) in
    let small : c.args.total < 2 ^ 64 = search rules in
    omega (arith, begins, small)

pub repeat-requires-clause-executes : goal.repeat-requires-clause-executes
repeat-requires-clause-executes g c κs given = executes_later (c.in_ok-number.ensures.goes c.args.self.now.locals.slots.items) c.in_ok-number.ensures.log c.requires.executes

pub repeat-requires-clause-top : goal.repeat-requires-clause-top
repeat-requires-clause-top g c κs given =
    let count : c.div_ceil-chunks.result ≡ chunk_count c.args.chunk c.args.total = search rules in
    let begins = chunk_begins c.args.total c.args.chunk c.in_ok-number.number c.requires.some (below c.in_ok-number.number (chunk_count c.args.chunk c.args.total) c.div_ceil-chunks.result count c.in_ok-number.ensures.within c.if-number-chunks.false) in
    let least : c.min.result ≡ min c.args.chunk (c.args.total - c.in_ok-number.number * c.args.chunk) = search rules in
    subst (λ (z : ℤ). (z +ℤ pos (c.in_ok-number.number * c.args.chunk + c.min.result)) ≤ℤ pos (2 ^ 63 - 1)) (sym (to_z-of_z w64 c.args.from c.ranges.from))
    (below_top c.args.from (c.in_ok-number.number * c.args.chunk + c.min.result) c.args.total (omega (arith, begins, least)) c.requires.top)

pub returns-in_err-repeat-clause-goes : goal.returns-in_err-repeat-clause-goes
returns-in_err-repeat-clause-goes g c =
    let p = err_from_is_err_and c.from_residual-in_err-repeat.result c.from_residual-in_err-repeat.ensures.1 in
    let count : c.div_ceil-chunks.result ≡ chunk_count c.args.chunk c.args.total = search rules in
    let least : c.min.result ≡ min c.args.chunk (c.args.total - c.in_ok-number.number * c.args.chunk) = search rules in
    let less = below c.in_ok-number.number (chunk_count c.args.chunk c.args.total) c.div_ceil-chunks.result count c.in_ok-number.ensures.within c.if-number-chunks.false in
    let made = subst (λ (n : ℕ). Made c.args.world.now (draw c.args.line n) c.args.self.now.locals.slots.items c.args.self.now.locals.slots.items c.args.self.now.track c.draw.new.self (Returned c.in_ok-number.number)) count (c.in_ok-number.ensures.goes c.args.self.now.locals.slots.items) in
    rw (p.1, p.2)
    (chunk_stops c.args.world.now (site c.args.world.now) (code_of c.args.body.now.stmts.items) c.args.slot c.args.from c.args.line c.args.total c.args.chunk c.args.self.now.locals.slots.items c.in_ok-number.number c.args.self.now.track c.draw.new.self made (is_below c.in_ok-number.number (chunk_count c.args.chunk c.args.total) less) c.repeat.new.self.locals.slots.items c.repeat.new.self.track c.in_err-repeat.field-0.0
    (subst (λ (n : ℕ). Goes c.args.world.now (turns n (c.in_ok-number.number * c.args.chunk) (turn_from (site c.args.world.now) (code_of c.args.body.now.stmts.items) c.args.slot c.args.from)) c.args.self.now.locals.slots.items c.repeat.new.self.locals.slots.items c.draw.new.self c.repeat.new.self.track (Err c.in_err-repeat.field-0.0)) least
    (subst (λ (z : ℤ). Goes c.args.world.now (turns c.min.result (c.in_ok-number.number * c.args.chunk) (turn_from (site c.args.world.now) (code_of c.args.body.now.stmts.items) c.args.slot z)) c.args.self.now.locals.slots.items c.repeat.new.self.locals.slots.items c.draw.new.self c.repeat.new.self.track (Err c.in_err-repeat.field-0.0)) (to_z-of_z w64 c.args.from c.ranges.from) c.in_err-repeat.ensures.goes)))

pub returns-clause-goes : goal.returns-clause-goes
returns-clause-goes g c =
    let count : c.div_ceil-chunks.result ≡ chunk_count c.args.chunk c.args.total = search rules in
    let least : c.min.result ≡ min c.args.chunk (c.args.total - c.in_ok-number.number * c.args.chunk) = search rules in
    let less = below c.in_ok-number.number (chunk_count c.args.chunk c.args.total) c.div_ceil-chunks.result count c.in_ok-number.ensures.within c.if-number-chunks.false in
    let made = subst (λ (n : ℕ). Made c.args.world.now (draw c.args.line n) c.args.self.now.locals.slots.items c.args.self.now.locals.slots.items c.args.self.now.track c.draw.new.self (Returned c.in_ok-number.number)) count (c.in_ok-number.ensures.goes c.args.self.now.locals.slots.items) in
    let can = can_follow _ _ _ _ _ _ _ (can_follow _ _ _ _ _ _ _ c.requires.executes.can (c.in_ok-number.ensures.goes c.args.self.now.locals.slots.items)) c.in_ok-repeat.ensures.goes in
    chunk_ends c.args.world.now (site c.args.world.now) (code_of c.args.body.now.stmts.items) c.args.slot c.args.from c.args.line c.args.total c.args.chunk c.args.self.now.locals.slots.items c.in_ok-number.number c.args.self.now.track c.draw.new.self made (is_below c.in_ok-number.number (chunk_count c.args.chunk c.args.total) less) c.repeat.new.self.locals.slots.items c.repeat.new.self.track can
    (subst (λ (n : ℕ). Made c.args.world.now (turns n (c.in_ok-number.number * c.args.chunk) (turn_from (site c.args.world.now) (code_of c.args.body.now.stmts.items) c.args.slot c.args.from)) c.args.self.now.locals.slots.items c.repeat.new.self.locals.slots.items c.draw.new.self c.repeat.new.self.track (Returned tt)) least
    (subst (λ (z : ℤ). Made c.args.world.now (turns c.min.result (c.in_ok-number.number * c.args.chunk) (turn_from (site c.args.world.now) (code_of c.args.body.now.stmts.items) c.args.slot z)) c.args.self.now.locals.slots.items c.repeat.new.self.locals.slots.items c.draw.new.self c.repeat.new.self.track (Returned tt)) (to_z-of_z w64 c.args.from c.ranges.from) c.in_ok-repeat.ensures.goes))

pub returns-then-number-chunks-clause-loops : goal.returns-then-number-chunks-clause-loops
returns-then-number-chunks-clause-loops g c =
    c.in_ok-number.ensures.closed (let is = c.if-number-chunks.true in omega (arith, is)) ∙ (let e : c.args.self.now.track.tally.next_loop + 1 ≡ suc c.args.self.now.track.tally.next_loop = omega arith in e)

pub returns-then-number-chunks-clause-count : goal.returns-then-number-chunks-clause-count
returns-then-number-chunks-clause-count g c = let count = c.in_ok-number.ensures.count in omega (arith, count)

pub returns-clause-loops : goal.returns-clause-loops
returns-clause-loops g c =
    let count : c.div_ceil-chunks.result ≡ chunk_count c.args.chunk c.args.total = search rules in
    let less = below c.in_ok-number.number (chunk_count c.args.chunk c.args.total) c.div_ceil-chunks.result count c.in_ok-number.ensures.within c.if-number-chunks.false in
    c.repeat.ensures.loops ∙ c.in_ok-number.ensures.open (subst (λ (n : ℕ). c.in_ok-number.number < n) (sym count) less)

pub returns-clause-count : goal.returns-clause-count
returns-clause-count g c =
    let count = c.in_ok-number.ensures.count in
    let more = c.in_ok-repeat.ensures.goes.done.log.count in
    omega (arith, count, more)
