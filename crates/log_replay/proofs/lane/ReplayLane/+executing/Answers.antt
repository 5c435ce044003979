-- Statements, by what their parts do.
use Rattle.std.proofs.Common.{◌≡◌, refl, ap, sym, ◌∙◌, subst, ℕ, ◌+◌, ◌-◌, ◌*◌, ◌^◌, ◌<◌, ◌≤◌, min, Bool, List, ℤ, pos, ◌+ℤ◌, ◌≤ℤ◌, length, take, drop, get_or, Ok, Err, w64, to_z, of_z, rules, arith}
use Rattle.std.proofs.lemmas.Result.{err_from_is_err_and}
use Rattle.std.proofs.lemmas.List.{take_all}
use Rattle.std.proofs.lemmas.Option.{slice_get_read}
use Rattle.std.proofs.lemmas.Int.{to_z-of_z}
use Rattle.log_format.specs.declared.record.Record.{Record}
use Rattle.log_format.specs.declared.record.Kind.TheVariants as kind
use Rattle.log_reader.specs.Reading.{Reading}
use Rattle.kernel_syntax.specs.declared.syntax.Stmt.{Stmt}
use Rattle.kernel_syntax.specs.Bounds.{IsBoundedCode}
use Rattle.kernel_syntax.specs.Program.{code_of, stmt_code, term_of}
use Rattle.kernel_syntax.specs.Share.{even_share_of}
use Rattle.kernel_syntax.specs.Tree as tree
use Rattle.kernel_syntax.specs.Tree.{Code, Done}
use Rattle.kernel_syntax.proofs.Equations.{stmt_code-If, stmt_code-Loop, stmt_code-Parallel, stmt_code-For, stmt_code-Barrier, stmt_code-Critical}
use Rattle.kernel_model.specs.Drawing.{turn_from, draw_once, draw_all}
use Rattle.kernel_model.specs.Iterations.{total_of, static_iterations, chunk_count, chunk_iterations}
use Rattle.kernel_model.specs.State.{put, event}
use Rattle.kernel_model.specs.Trace.{run, turns, each, shared, draw, loop_end}
use Rattle.kernel_model.specs.Value.{value}
use Rattle.task_place.proofs.Assigning.{is_assignment}
use Rattle.log_replay.specs.Following.{Standing, FollowsPart}
use Rattle.log_replay.specs.Forks.{standing}
use Rattle.log_replay.proofs.Following.{follows_same, retold}
use Rattle.kernel_model.proofs.StmtLists.{split_at, grown, bounded_at}
use Rattle.log_replay.proofs.Statements.{assigned, follows_assigned, follows_done, statements_next, statements_stop, test_stops, else_goes, then_goes, turns_next, turns_stop, from_stops, to_stops, bounds_go, turns_of, turns_of_grow, share_of, share_of_grows, loop_is, for_stops, for_goes, barrier_goes, lock_stops, section_stops, section_goes}
use Rattle.kernel_model.proofs.Turns.{share_within, below_top, chunk_grows, chunk_begins}
use Rattle.log_replay.proofs.Draws.{FollowedChunks, chunks_none, chunks_all, chunks_grow, chunks_stop, shared_even, shared_static, shared_drawn, draws_more, draws_end, draws_stop, draw_stops, none_left, chunk_stops, chunk_ends}
use Rattle.log_replay.proofs.lane.ReplayLane.+executing.Goals as goal

within_is : (lane span given : ℕ) → given ≡ span → lane < given → lane < span
within_is lane span given is less = omega (arith, is, less)

pub chunks-chunks-init : goal.chunks-chunks-init
chunks-chunks-init g t c =
    let within = within_is c.args.place.now.lane c.args.place.now.span c.span.result c.span.ensures.span c.span.ensures.within in
    let small : c.args.chunk * c.args.place.now.lane < 2 ^ 64 = search rules in
    let begins : c.args.chunk * c.args.place.now.lane ≡ c.from-chunk.result * c.from-2.result = search rules in
    record {
      followed = subst (λ (n : ℕ). FollowedChunks (g.F.Folder.state c.args.folder.now) c.args.place.now (code_of c.args.body.now.stmts.items) c.args.slot (to_z w64 (of_z w64 c.args.from)) c.args.chunk c.args.total n (standing c.args.self.now) (standing c.args.self.now)) begins (chunks_none (g.F.Folder.state c.args.folder.now) c.args.place.now (code_of c.args.body.now.stmts.items) c.args.slot (to_z w64 (of_z w64 c.args.from)) c.args.chunk c.args.total c.requires.some within (standing c.args.self.now) small);
      stride = search rules;
      fewer = omega arith;
      same = refl;
      no_fault = search rules;
    }

pub chunks-returns-in_err-repeat-clause-follows : goal.chunks-returns-in_err-repeat-clause-follows
chunks-returns-in_err-repeat-clause-follows g t c =
    let p = err_from_is_err_and c.from_residual.result c.from_residual.ensures.1 in
    let within = within_is c.args.place.now.lane c.args.place.now.span c.span.result c.span.ensures.span c.span.ensures.within in
    let count : c.min-count.result ≡ min c.args.chunk (c.args.total - c.chunks.first) = search rules in
    let within_loop : c.chunks.first < c.args.total = search rules in
    let small : c.args.total < 2 ^ 64 = search rules in
    rw (p.1, p.2)
    (subst (λ (z : ℤ). FollowsPart (g.F.Folder.state c.args.folder.now) (each (static_iterations c.args.chunk c.args.total c.args.place.now.lane c.args.place.now.span) (turn_from c.args.place.now (code_of c.args.body.now.stmts.items) c.args.slot z)) (standing c.args.self.now) (standing c.repeat.new.self) (Err c.in_err-repeat.field-0.0)) (to_z-of_z w64 c.args.from c.ranges.from)
    (chunks_stop (g.F.Folder.state c.args.folder.now) c.args.place.now (code_of c.args.body.now.stmts.items) c.args.slot (to_z w64 (of_z w64 c.args.from)) c.args.chunk c.args.total c.requires.some within c.chunks.first (standing c.args.self.now) (standing c.chunks.self) (standing c.repeat.new.self) c.chunks.invariant.followed within_loop small c.in_err-repeat.field-0.0
    (subst (λ (n : ℕ). FollowsPart (g.F.Folder.state c.args.folder.now) (turns n c.chunks.first (turn_from c.args.place.now (code_of c.args.body.now.stmts.items) c.args.slot (to_z w64 (of_z w64 c.args.from)))) (standing c.chunks.self) (standing c.repeat.new.self) (Err c.in_err-repeat.field-0.0)) count
    (retold (g.F.Folder.state c.args.folder.now) (g.F.Folder.state c.chunks.folder) (turns c.min-count.result c.chunks.first (turn_from c.args.place.now (code_of c.args.body.now.stmts.items) c.args.slot (to_z w64 (of_z w64 c.args.from)))) (standing c.chunks.self) (standing c.repeat.new.self) (Err c.in_err-repeat.field-0.0) c.chunks.invariant.same c.in_err-repeat.ensures.follows))))

pub chunks-chunks-preserved : goal.chunks-chunks-preserved
chunks-chunks-preserved g t c =
    let within = within_is c.args.place.now.lane c.args.place.now.span c.span.result c.span.ensures.span c.span.ensures.within in
    let count : c.min-count.result ≡ min c.args.chunk (c.args.total - c.chunks.first) = search rules in
    let within_loop : c.chunks.first < c.args.total = search rules in
    let small : c.args.total < 2 ^ 64 = search rules in
    let next : min (c.chunks.first + c.args.chunk * c.args.place.now.span) (2 ^ 64 - 1) ≡ c.saturating_add-first.result = search rules in
    record {
      followed =
          subst (λ (n : ℕ). FollowedChunks (g.F.Folder.state c.args.folder.now) c.args.place.now (code_of c.args.body.now.stmts.items) c.args.slot (to_z w64 (of_z w64 c.args.from)) c.args.chunk c.args.total n (standing c.args.self.now) (standing c.repeat.new.self)) next
          (chunks_grow (g.F.Folder.state c.args.folder.now) c.args.place.now (code_of c.args.body.now.stmts.items) c.args.slot (to_z w64 (of_z w64 c.args.from)) c.args.chunk c.args.total c.requires.some within c.chunks.first (standing c.args.self.now) (standing c.chunks.self) (standing c.repeat.new.self) c.chunks.invariant.followed within_loop small
          (subst (λ (n : ℕ). FollowsPart (g.F.Folder.state c.args.folder.now) (turns n c.chunks.first (turn_from c.args.place.now (code_of c.args.body.now.stmts.items) c.args.slot (to_z w64 (of_z w64 c.args.from)))) (standing c.chunks.self) (standing c.repeat.new.self) (Ok tt)) count
          (retold (g.F.Folder.state c.args.folder.now) (g.F.Folder.state c.chunks.folder) (turns c.min-count.result c.chunks.first (turn_from c.args.place.now (code_of c.args.body.now.stmts.items) c.args.slot (to_z w64 (of_z w64 c.args.from)))) (standing c.chunks.self) (standing c.repeat.new.self) (Ok tt) c.chunks.invariant.same c.in_ok-repeat.ensures.follows)));
      stride = c.chunks.invariant.stride;
      fewer = omega (arith, c.in_ok-repeat.ensures.fewer, c.chunks.invariant.fewer);
      same = c.in_ok-repeat.ensures.reads.same ∙ c.chunks.invariant.same;
      no_fault = search rules;
    }

pub chunks-returns-clause-follows : goal.chunks-returns-clause-follows
chunks-returns-clause-follows g t c =
    let within = within_is c.args.place.now.lane c.args.place.now.span c.span.result c.span.ensures.span c.span.ensures.within in
    subst (λ (z : ℤ). FollowsPart (g.F.Folder.state c.args.folder.now) (each (static_iterations c.args.chunk c.args.total c.args.place.now.lane c.args.place.now.span) (turn_from c.args.place.now (code_of c.args.body.now.stmts.items) c.args.slot z)) (standing c.args.self.now) (standing c.chunks.self) (Ok tt)) (to_z-of_z w64 c.args.from c.ranges.from)
    (chunks_all (g.F.Folder.state c.args.folder.now) c.args.place.now (code_of c.args.body.now.stmts.items) c.args.slot (to_z w64 (of_z w64 c.args.from)) c.args.chunk c.args.total c.requires.some within c.chunks.first (standing c.args.self.now) (standing c.chunks.self) (standing c.args.self.now) c.chunks.invariant.followed c.chunks-test.false)

pub critical-returns-in_err-put-clause-follows : goal.critical-returns-in_err-put-clause-follows
critical-returns-in_err-put-clause-follows g t c =
    let p = err_from_is_err_and c.from_residual.result c.from_residual.ensures.1 in
    let is : c.event.result ≡ event kind.Lock c.args.line c.args.mutex 0 = search rules in
    rw (p.1, p.2)
    (lock_stops (g.F.Folder.state c.args.folder.now) c.args.place.now c.args.mutex c.args.line c.args.end (code_of c.args.body.now.stmts.items) (standing c.args.self.now) (standing c.put.new.self) c.in_err-put.field-0.0
    (subst (λ (x : Record). FollowsPart (g.F.Folder.state c.args.folder.now) (put x) (standing c.args.self.now) (standing c.put.new.self) (Err c.in_err-put.field-0.0)) is c.in_err-put.ensures.follows))

pub critical-returns-in_err-statements-clause-follows : goal.critical-returns-in_err-statements-clause-follows
critical-returns-in_err-statements-clause-follows g t c =
    let p = err_from_is_err_and c.from_residual-in_err-statements.result c.from_residual-in_err-statements.ensures.1 in
    let is : c.event.result ≡ event kind.Lock c.args.line c.args.mutex 0 = search rules in
    rw (p.1, p.2)
    (section_stops (g.F.Folder.state c.args.folder.now) c.args.place.now c.args.mutex c.args.line c.args.end (code_of c.args.body.now.stmts.items) (standing c.args.self.now) (standing c.put.new.self) (subst (λ (x : Record). FollowsPart (g.F.Folder.state c.args.folder.now) (put x) (standing c.args.self.now) (standing c.put.new.self) (Ok tt)) is c.in_ok-put.ensures.follows) (standing c.statements.new.self) c.in_err-statements.field-0.0
    (retold (g.F.Folder.state c.args.folder.now) (g.F.Folder.state c.put.new.folder) (run c.args.place.now (code_of c.args.body.now.stmts.items)) (standing c.put.new.self) (standing c.statements.new.self) (Err c.in_err-statements.field-0.0) c.put.ensures.reads.same c.in_err-statements.ensures.follows))

pub critical-returns-clause-follows : goal.critical-returns-clause-follows
critical-returns-clause-follows g t c =
    let is : c.event.result ≡ event kind.Lock c.args.line c.args.mutex 0 = search rules in
    let is2 : c.event-2.result ≡ event kind.Unlock c.args.end c.args.mutex 0 = search rules in
    section_goes (g.F.Folder.state c.args.folder.now) c.args.place.now c.args.mutex c.args.line c.args.end (code_of c.args.body.now.stmts.items) (standing c.args.self.now) (standing c.put.new.self) (subst (λ (x : Record). FollowsPart (g.F.Folder.state c.args.folder.now) (put x) (standing c.args.self.now) (standing c.put.new.self) (Ok tt)) is c.in_ok-put.ensures.follows) (standing c.statements.new.self) (standing c.put-2.new.self) c.put-2.result
    (retold (g.F.Folder.state c.args.folder.now) (g.F.Folder.state c.put.new.folder) (run c.args.place.now (code_of c.args.body.now.stmts.items)) (standing c.put.new.self) (standing c.statements.new.self) (Ok tt) c.put.ensures.reads.same c.in_ok-statements.ensures.follows)
    (subst (λ (x : Record). FollowsPart (g.F.Folder.state c.args.folder.now) (put x) (standing c.statements.new.self) (standing c.put-2.new.self) c.put-2.result) is2
    (retold (g.F.Folder.state c.args.folder.now) (g.F.Folder.state c.statements.new.folder) (put c.event-2.result) (standing c.statements.new.self) (standing c.put-2.new.self) c.put-2.result (c.statements.ensures.reads.same ∙ c.put.ensures.reads.same) c.put-2.ensures.follows))

pub drawn_chunk-returns-in_err-number-clause-follows : goal.drawn_chunk-returns-in_err-number-clause-follows
drawn_chunk-returns-in_err-number-clause-follows g t c =
    let p = err_from_is_err_and c.from_residual.result c.from_residual.ensures.1 in
    let count : c.div_ceil-chunks.result ≡ chunk_count c.args.chunk c.args.total = search rules in
    rw (p.1, p.2)
    (draw_stops (g.F.Folder.state c.args.folder.now) c.args.place.now (code_of c.args.body.now.stmts.items) c.args.slot c.args.from c.args.line c.args.total c.args.chunk (standing c.args.self.now) (standing c.draw.new.self) c.in_err-number.field-0.0
    (subst (λ (n : ℕ). FollowsPart (g.F.Folder.state c.args.folder.now) (draw c.args.line n) (standing c.args.self.now) (standing c.draw.new.self) (Err c.in_err-number.field-0.0)) count c.in_err-number.ensures.follows))

pub drawn_chunk-returns-then-number-chunks-clause-follows : goal.drawn_chunk-returns-then-number-chunks-clause-follows
drawn_chunk-returns-then-number-chunks-clause-follows g t c =
    let count : c.div_ceil-chunks.result ≡ chunk_count c.args.chunk c.args.total = search rules in
    let drew = subst (λ (n : ℕ). FollowsPart (g.F.Folder.state c.args.folder.now) (draw c.args.line n) (standing c.args.self.now) (standing c.draw.new.self) (Ok c.in_ok-number.number)) count c.in_ok-number.ensures.follows in
    none_left (g.F.Folder.state c.args.folder.now) c.args.place.now (code_of c.args.body.now.stmts.items) c.args.slot c.args.from c.args.line c.args.total c.args.chunk c.in_ok-number.number (standing c.args.self.now) (standing c.draw.new.self) drew (omega (arith, count, c.if-number-chunks.true))

pub drawn_chunk-repeat-requires-clause-top : goal.drawn_chunk-repeat-requires-clause-top
drawn_chunk-repeat-requires-clause-top g t c κs within =
    let count : c.div_ceil-chunks.result ≡ chunk_count c.args.chunk c.args.total = search rules in
    let less : c.in_ok-number.number < (chunk_count c.args.chunk c.args.total) = omega (arith, count, c.if-number-chunks.false) in
    let begins = chunk_begins c.args.total c.args.chunk c.in_ok-number.number c.requires.some less in
    let least : c.min-count.result ≡ min c.args.chunk (c.args.total - c.in_ok-number.number * c.args.chunk) = search rules in
    subst (λ (z : ℤ). (z +ℤ pos (c.in_ok-number.number * c.args.chunk + c.min-count.result)) ≤ℤ pos (2 ^ 63 - 1)) (sym (to_z-of_z w64 c.args.from c.ranges.from))
    (below_top c.args.from (c.in_ok-number.number * c.args.chunk + c.min-count.result) c.args.total (omega (arith, begins, least)) c.requires.top)

pub drawn_chunk-returns-in_err-repeat-clause-follows : goal.drawn_chunk-returns-in_err-repeat-clause-follows
drawn_chunk-returns-in_err-repeat-clause-follows g t c =
    let p = err_from_is_err_and c.from_residual-in_err-repeat.result c.from_residual-in_err-repeat.ensures.1 in
    let count : c.div_ceil-chunks.result ≡ chunk_count c.args.chunk c.args.total = search rules in
    let drew = subst (λ (n : ℕ). FollowsPart (g.F.Folder.state c.args.folder.now) (draw c.args.line n) (standing c.args.self.now) (standing c.draw.new.self) (Ok c.in_ok-number.number)) count c.in_ok-number.ensures.follows in
    let less : c.in_ok-number.number < (chunk_count c.args.chunk c.args.total) = omega (arith, count, c.if-number-chunks.false) in
    let least : c.min-count.result ≡ min c.args.chunk (c.args.total - c.in_ok-number.number * c.args.chunk) = search rules in
    rw (p.1, p.2)
    (chunk_stops (g.F.Folder.state c.args.folder.now) c.args.place.now (code_of c.args.body.now.stmts.items) c.args.slot c.args.from c.args.line c.args.total c.args.chunk c.in_ok-number.number (standing c.args.self.now) (standing c.draw.new.self) drew less (standing c.repeat.new.self) c.in_err-repeat.field-0.0
    (subst (λ (n : ℕ). FollowsPart (g.F.Folder.state c.args.folder.now) (turns n (c.in_ok-number.number * c.args.chunk) (turn_from c.args.place.now (code_of c.args.body.now.stmts.items) c.args.slot c.args.from)) (standing c.draw.new.self) (standing c.repeat.new.self) (Err c.in_err-repeat.field-0.0)) least
    (subst (λ (z : ℤ). FollowsPart (g.F.Folder.state c.args.folder.now) (turns c.min-count.result (c.in_ok-number.number * c.args.chunk) (turn_from c.args.place.now (code_of c.args.body.now.stmts.items) c.args.slot z)) (standing c.draw.new.self) (standing c.repeat.new.self) (Err c.in_err-repeat.field-0.0)) (to_z-of_z w64 c.args.from c.ranges.from)
    (retold (g.F.Folder.state c.args.folder.now) (g.F.Folder.state c.draw.new.folder) (turns c.min-count.result (c.in_ok-number.number * c.args.chunk) (turn_from c.args.place.now (code_of c.args.body.now.stmts.items) c.args.slot (to_z w64 (of_z w64 c.args.from)))) (standing c.draw.new.self) (standing c.repeat.new.self) (Err c.in_err-repeat.field-0.0) c.draw.ensures.reads.same c.in_err-repeat.ensures.follows))))

pub drawn_chunk-returns-clause-follows : goal.drawn_chunk-returns-clause-follows
drawn_chunk-returns-clause-follows g t c =
    let count : c.div_ceil-chunks.result ≡ chunk_count c.args.chunk c.args.total = search rules in
    let drew = subst (λ (n : ℕ). FollowsPart (g.F.Folder.state c.args.folder.now) (draw c.args.line n) (standing c.args.self.now) (standing c.draw.new.self) (Ok c.in_ok-number.number)) count c.in_ok-number.ensures.follows in
    let less : c.in_ok-number.number < (chunk_count c.args.chunk c.args.total) = omega (arith, count, c.if-number-chunks.false) in
    let least : c.min-count.result ≡ min c.args.chunk (c.args.total - c.in_ok-number.number * c.args.chunk) = search rules in
    chunk_ends (g.F.Folder.state c.args.folder.now) c.args.place.now (code_of c.args.body.now.stmts.items) c.args.slot c.args.from c.args.line c.args.total c.args.chunk c.in_ok-number.number (standing c.args.self.now) (standing c.draw.new.self) drew less (standing c.repeat.new.self)
    (subst (λ (n : ℕ). FollowsPart (g.F.Folder.state c.args.folder.now) (turns n (c.in_ok-number.number * c.args.chunk) (turn_from c.args.place.now (code_of c.args.body.now.stmts.items) c.args.slot c.args.from)) (standing c.draw.new.self) (standing c.repeat.new.self) (Ok tt)) least
    (subst (λ (z : ℤ). FollowsPart (g.F.Folder.state c.args.folder.now) (turns c.min-count.result (c.in_ok-number.number * c.args.chunk) (turn_from c.args.place.now (code_of c.args.body.now.stmts.items) c.args.slot z)) (standing c.draw.new.self) (standing c.repeat.new.self) (Ok tt)) (to_z-of_z w64 c.args.from c.ranges.from)
    (retold (g.F.Folder.state c.args.folder.now) (g.F.Folder.state c.draw.new.folder) (turns c.min-count.result (c.in_ok-number.number * c.args.chunk) (turn_from c.args.place.now (code_of c.args.body.now.stmts.items) c.args.slot (to_z w64 (of_z w64 c.args.from)))) (standing c.draw.new.self) (standing c.repeat.new.self) (Ok tt) c.draw.ensures.reads.same c.in_ok-repeat.ensures.follows)))

pub drawn_chunks-returns-in_err-drawn_chunk-clause-follows : goal.drawn_chunks-returns-in_err-drawn_chunk-clause-follows
drawn_chunks-returns-in_err-drawn_chunk-clause-follows g t c =
    let p = err_from_is_err_and c.from_residual.result c.from_residual.ensures.1 in
    let grows = chunk_grows c.args.place.now (code_of c.args.body.now.stmts.items) c.args.slot (to_z w64 (of_z w64 c.args.from)) c.args.total c.args.chunk in
    rw (p.1, p.2)
    (subst (λ (z : ℤ). FollowsPart (g.F.Folder.state c.args.folder.now) (draw_all c.args.line (chunk_count c.args.chunk c.args.total) (λ q. each (chunk_iterations c.args.chunk c.args.total q) (turn_from c.args.place.now (code_of c.args.body.now.stmts.items) c.args.slot z))) (standing c.args.self.now) (standing c.drawn_chunk.new.self) (Err c.in_err-drawn_chunk.field-0.0)) (to_z-of_z w64 c.args.from c.ranges.from)
    (draws_stop c.args.line (chunk_count c.args.chunk c.args.total) (λ q. each (chunk_iterations c.args.chunk c.args.total q) (turn_from c.args.place.now (code_of c.args.body.now.stmts.items) c.args.slot (to_z w64 (of_z w64 c.args.from)))) grows (g.F.Folder.state c.args.folder.now) (standing c.args.self.now) (standing c.draws.self) (standing c.drawn_chunk.new.self) c.draws.invariant.on c.in_err-drawn_chunk.field-0.0
    (retold (g.F.Folder.state c.args.folder.now) (g.F.Folder.state c.draws.folder) (draw_once c.args.line (chunk_count c.args.chunk c.args.total) (λ q. each (chunk_iterations c.args.chunk c.args.total q) (turn_from c.args.place.now (code_of c.args.body.now.stmts.items) c.args.slot (to_z w64 (of_z w64 c.args.from))))) (standing c.draws.self) (standing c.drawn_chunk.new.self) (Err c.in_err-drawn_chunk.field-0.0) c.draws.invariant.same c.in_err-drawn_chunk.ensures.follows)))

pub drawn_chunks-returns-then-not-branch-clause-follows : goal.drawn_chunks-returns-then-not-branch-clause-follows
drawn_chunks-returns-then-not-branch-clause-follows g t c =
    let grows = chunk_grows c.args.place.now (code_of c.args.body.now.stmts.items) c.args.slot (to_z w64 (of_z w64 c.args.from)) c.args.total c.args.chunk in
    subst (λ (z : ℤ). FollowsPart (g.F.Folder.state c.args.folder.now) (draw_all c.args.line (chunk_count c.args.chunk c.args.total) (λ q. each (chunk_iterations c.args.chunk c.args.total q) (turn_from c.args.place.now (code_of c.args.body.now.stmts.items) c.args.slot z))) (standing c.args.self.now) (standing c.drawn_chunk.new.self) (Ok tt)) (to_z-of_z w64 c.args.from c.ranges.from)
    (draws_end c.args.line (chunk_count c.args.chunk c.args.total) (λ q. each (chunk_iterations c.args.chunk c.args.total q) (turn_from c.args.place.now (code_of c.args.body.now.stmts.items) c.args.slot (to_z w64 (of_z w64 c.args.from)))) grows (g.F.Folder.state c.args.folder.now) (standing c.args.self.now) (standing c.draws.self) (standing c.drawn_chunk.new.self) c.draws.invariant.on
    (subst (λ (b : Bool). FollowsPart (g.F.Folder.state c.args.folder.now) (draw_once c.args.line (chunk_count c.args.chunk c.args.total) (λ q. each (chunk_iterations c.args.chunk c.args.total q) (turn_from c.args.place.now (code_of c.args.body.now.stmts.items) c.args.slot (to_z w64 (of_z w64 c.args.from))))) (standing c.draws.self) (standing c.drawn_chunk.new.self) (Ok b)) c.if-not-branch.true
    (retold (g.F.Folder.state c.args.folder.now) (g.F.Folder.state c.draws.folder) (draw_once c.args.line (chunk_count c.args.chunk c.args.total) (λ q. each (chunk_iterations c.args.chunk c.args.total q) (turn_from c.args.place.now (code_of c.args.body.now.stmts.items) c.args.slot (to_z w64 (of_z w64 c.args.from))))) (standing c.draws.self) (standing c.drawn_chunk.new.self) (Ok c.in_ok-drawn_chunk.field-0) c.draws.invariant.same c.in_ok-drawn_chunk.ensures.follows)))

pub drawn_chunks-draws-preserved : goal.drawn_chunks-draws-preserved
drawn_chunks-draws-preserved g t c =
    let grows = chunk_grows c.args.place.now (code_of c.args.body.now.stmts.items) c.args.slot (to_z w64 (of_z w64 c.args.from)) c.args.total c.args.chunk in
    record {
      on = draws_more c.args.line (chunk_count c.args.chunk c.args.total) (λ q. each (chunk_iterations c.args.chunk c.args.total q) (turn_from c.args.place.now (code_of c.args.body.now.stmts.items) c.args.slot (to_z w64 (of_z w64 c.args.from)))) grows (g.F.Folder.state c.args.folder.now) (standing c.args.self.now) (standing c.draws.self) (standing c.drawn_chunk.new.self) c.draws.invariant.on
          (subst (λ (b : Bool). FollowsPart (g.F.Folder.state c.args.folder.now) (draw_once c.args.line (chunk_count c.args.chunk c.args.total) (λ q. each (chunk_iterations c.args.chunk c.args.total q) (turn_from c.args.place.now (code_of c.args.body.now.stmts.items) c.args.slot (to_z w64 (of_z w64 c.args.from))))) (standing c.draws.self) (standing c.drawn_chunk.new.self) (Ok b)) c.if-not-branch.false
          (retold (g.F.Folder.state c.args.folder.now) (g.F.Folder.state c.draws.folder) (draw_once c.args.line (chunk_count c.args.chunk c.args.total) (λ q. each (chunk_iterations c.args.chunk c.args.total q) (turn_from c.args.place.now (code_of c.args.body.now.stmts.items) c.args.slot (to_z w64 (of_z w64 c.args.from))))) (standing c.draws.self) (standing c.drawn_chunk.new.self) (Ok c.in_ok-drawn_chunk.field-0) c.draws.invariant.same c.in_ok-drawn_chunk.ensures.follows));
      fewer = omega (arith, c.in_ok-drawn_chunk.ensures.fewer, c.draws.invariant.fewer);
      same = c.in_ok-drawn_chunk.ensures.reads.same ∙ c.draws.invariant.same;
      no_fault = search rules;
    }

pub looped-returns-in_err-first-clause-follows : goal.looped-returns-in_err-first-clause-follows
looped-returns-in_err-first-clause-follows g t c =
    let p = err_from_is_err_and c.from_residual.result c.from_residual.ensures.1 in
    rw (p.1, p.2)
    (follows_same (g.F.Folder.state c.args.folder.now) _ (run c.args.place.now (tree.Loop c.args.slot (term_of c.args.from.now) (term_of c.args.to.now) (code_of c.args.body.now.stmts.items) tree.Done)) (standing c.args.self.now) (standing c.value.new.self) (Err c.in_err-first.field-0.0) (loop_is c.args.place.now c.args.slot (term_of c.args.from.now) (term_of c.args.to.now) (code_of c.args.body.now.stmts.items))
    (from_stops (g.F.Folder.state c.args.folder.now) c.args.place.now (term_of c.args.from.now) (term_of c.args.to.now) (turns_of c.args.place.now c.args.slot (code_of c.args.body.now.stmts.items)) (turns_of_grow c.args.place.now c.args.slot (code_of c.args.body.now.stmts.items)) (standing c.args.self.now) (standing c.value.new.self) c.in_err-first.field-0.0 c.in_err-first.ensures.follows))

pub looped-returns-in_err-last-clause-follows : goal.looped-returns-in_err-last-clause-follows
looped-returns-in_err-last-clause-follows g t c =
    let p = err_from_is_err_and c.from_residual-in_err-last.result c.from_residual-in_err-last.ensures.1 in
    rw (p.1, p.2)
    (follows_same (g.F.Folder.state c.args.folder.now) _ (run c.args.place.now (tree.Loop c.args.slot (term_of c.args.from.now) (term_of c.args.to.now) (code_of c.args.body.now.stmts.items) tree.Done)) (standing c.args.self.now) (standing c.value-2.new.self) (Err c.in_err-last.field-0.0) (loop_is c.args.place.now c.args.slot (term_of c.args.from.now) (term_of c.args.to.now) (code_of c.args.body.now.stmts.items))
    (to_stops (g.F.Folder.state c.args.folder.now) c.args.place.now (term_of c.args.from.now) (term_of c.args.to.now) (turns_of c.args.place.now c.args.slot (code_of c.args.body.now.stmts.items)) (turns_of_grow c.args.place.now c.args.slot (code_of c.args.body.now.stmts.items)) (standing c.args.self.now) c.in_ok-first.first (standing c.value.new.self) c.in_ok-first.ensures.follows (standing c.value-2.new.self) c.in_err-last.field-0.0
    (retold (g.F.Folder.state c.args.folder.now) (g.F.Folder.state c.value.new.folder) (value c.args.place.now (term_of c.args.to.now)) (standing c.value.new.self) (standing c.value-2.new.self) (Err c.in_err-last.field-0.0) c.value.ensures.reads.same c.in_err-last.ensures.follows)))

pub looped-returns-clause-follows : goal.looped-returns-clause-follows
looped-returns-clause-follows g t c =
    let first_is = to_z-of_z w64 c.in_ok-first.first (search rules) in
    let last_is = to_z-of_z w64 c.in_ok-last.last (search rules) in
    follows_same (g.F.Folder.state c.args.folder.now) _ (run c.args.place.now (tree.Loop c.args.slot (term_of c.args.from.now) (term_of c.args.to.now) (code_of c.args.body.now.stmts.items) tree.Done)) (standing c.args.self.now) (standing c.repeat.new.self) c.repeat.result (loop_is c.args.place.now c.args.slot (term_of c.args.from.now) (term_of c.args.to.now) (code_of c.args.body.now.stmts.items))
    (bounds_go (g.F.Folder.state c.args.folder.now) c.args.place.now (term_of c.args.from.now) (term_of c.args.to.now) (turns_of c.args.place.now c.args.slot (code_of c.args.body.now.stmts.items)) (turns_of_grow c.args.place.now c.args.slot (code_of c.args.body.now.stmts.items)) (standing c.args.self.now) c.in_ok-first.first (standing c.value.new.self) c.in_ok-first.ensures.follows c.in_ok-last.last (standing c.value-2.new.self) (standing c.repeat.new.self) c.repeat.result
    (retold (g.F.Folder.state c.args.folder.now) (g.F.Folder.state c.value.new.folder) (value c.args.place.now (term_of c.args.to.now)) (standing c.value.new.self) (standing c.value-2.new.self) (Ok c.in_ok-last.last) c.value.ensures.reads.same c.in_ok-last.ensures.follows)
    (subst (λ (n : ℕ). FollowsPart (g.F.Folder.state c.args.folder.now) (turns n 0 (turn_from c.args.place.now (code_of c.args.body.now.stmts.items) c.args.slot c.in_ok-first.first)) (standing c.value-2.new.self) (standing c.repeat.new.self) c.repeat.result)
    (c.total_of-total.ensures.count ∙ ap (λ (z : ℤ). total_of z (to_z w64 (of_z w64 c.in_ok-last.last))) first_is ∙ ap (λ (z : ℤ). total_of c.in_ok-first.first z) last_is)
    (subst (λ (z : ℤ). FollowsPart (g.F.Folder.state c.args.folder.now) (turns c.total_of-total.result 0 (turn_from c.args.place.now (code_of c.args.body.now.stmts.items) c.args.slot z)) (standing c.value-2.new.self) (standing c.repeat.new.self) c.repeat.result) first_is
    (retold (g.F.Folder.state c.args.folder.now) (g.F.Folder.state c.value-2.new.folder) (turns c.total_of-total.result 0 (turn_from c.args.place.now (code_of c.args.body.now.stmts.items) c.args.slot (to_z w64 (of_z w64 c.in_ok-first.first)))) (standing c.value-2.new.self) (standing c.repeat.new.self) c.repeat.result (c.value-2.ensures.reads.same ∙ c.value.ensures.reads.same) c.repeat.ensures.follows))))

pub worksharing-returns-in_err-first-clause-follows : goal.worksharing-returns-in_err-first-clause-follows
worksharing-returns-in_err-first-clause-follows g t c =
    let p = err_from_is_err_and c.from_residual.result c.from_residual.ensures.1 in
    rw (p.1, p.2)
    (from_stops (g.F.Folder.state c.args.folder.now) c.args.place.now (term_of c.args.from.now) (term_of c.args.to.now) (share_of c.args.place.now c.args.slot (code_of c.args.body.now.stmts.items) c.args.schedule c.args.line) (share_of_grows c.args.place.now c.args.slot (code_of c.args.body.now.stmts.items) c.args.schedule c.args.line) (standing c.args.self.now) (standing c.value.new.self) c.in_err-first.field-0.0 c.in_err-first.ensures.follows)

pub worksharing-returns-in_err-last-clause-follows : goal.worksharing-returns-in_err-last-clause-follows
worksharing-returns-in_err-last-clause-follows g t c =
    let p = err_from_is_err_and c.from_residual-in_err-last.result c.from_residual-in_err-last.ensures.1 in
    rw (p.1, p.2)
    (to_stops (g.F.Folder.state c.args.folder.now) c.args.place.now (term_of c.args.from.now) (term_of c.args.to.now) (share_of c.args.place.now c.args.slot (code_of c.args.body.now.stmts.items) c.args.schedule c.args.line) (share_of_grows c.args.place.now c.args.slot (code_of c.args.body.now.stmts.items) c.args.schedule c.args.line) (standing c.args.self.now) c.in_ok-first.first (standing c.value.new.self) c.in_ok-first.ensures.follows (standing c.value-2.new.self) c.in_err-last.field-0.0
    (retold (g.F.Folder.state c.args.folder.now) (g.F.Folder.state c.value.new.folder) (value c.args.place.now (term_of c.args.to.now)) (standing c.value.new.self) (standing c.value-2.new.self) (Err c.in_err-last.field-0.0) c.value.ensures.reads.same c.in_err-last.ensures.follows))

pub worksharing-returns-clause-follows : goal.worksharing-returns-clause-follows
worksharing-returns-clause-follows g t c =
    let first_is = to_z-of_z w64 c.in_ok-first.first (search rules) in
    let last_is = to_z-of_z w64 c.in_ok-last.last (search rules) in
    bounds_go (g.F.Folder.state c.args.folder.now) c.args.place.now (term_of c.args.from.now) (term_of c.args.to.now) (share_of c.args.place.now c.args.slot (code_of c.args.body.now.stmts.items) c.args.schedule c.args.line) (share_of_grows c.args.place.now c.args.slot (code_of c.args.body.now.stmts.items) c.args.schedule c.args.line) (standing c.args.self.now) c.in_ok-first.first (standing c.value.new.self) c.in_ok-first.ensures.follows c.in_ok-last.last (standing c.value-2.new.self) (standing c.share.new.self) c.share.result
    (retold (g.F.Folder.state c.args.folder.now) (g.F.Folder.state c.value.new.folder) (value c.args.place.now (term_of c.args.to.now)) (standing c.value.new.self) (standing c.value-2.new.self) (Ok c.in_ok-last.last) c.value.ensures.reads.same c.in_ok-last.ensures.follows)
    (subst (λ (n : ℕ). FollowsPart (g.F.Folder.state c.args.folder.now) (shared c.args.schedule c.args.place.now c.args.line n (turn_from c.args.place.now (code_of c.args.body.now.stmts.items) c.args.slot c.in_ok-first.first)) (standing c.value-2.new.self) (standing c.share.new.self) c.share.result)
    (c.total_of-total.ensures.count ∙ ap (λ (z : ℤ). total_of z (to_z w64 (of_z w64 c.in_ok-last.last))) first_is ∙ ap (λ (z : ℤ). total_of c.in_ok-first.first z) last_is)
    (subst (λ (z : ℤ). FollowsPart (g.F.Folder.state c.args.folder.now) (shared c.args.schedule c.args.place.now c.args.line c.total_of-total.result (turn_from c.args.place.now (code_of c.args.body.now.stmts.items) c.args.slot z)) (standing c.value-2.new.self) (standing c.share.new.self) c.share.result) first_is
    (retold (g.F.Folder.state c.args.folder.now) (g.F.Folder.state c.value-2.new.folder) (shared c.args.schedule c.args.place.now c.args.line c.total_of-total.result (turn_from c.args.place.now (code_of c.args.body.now.stmts.items) c.args.slot (to_z w64 (of_z w64 c.in_ok-first.first)))) (standing c.value-2.new.self) (standing c.share.new.self) c.share.result (c.value-2.ensures.reads.same ∙ c.value.ensures.reads.same) c.share.ensures.follows)))

pub repeat-returns-in_err-statements-clause-follows : goal.repeat-returns-in_err-statements-clause-follows
repeat-returns-in_err-statements-clause-follows g t c =
    let p = err_from_is_err_and c.from_residual.result c.from_residual.ensures.1 in
    let from_is = to_z-of_z w64 c.args.from c.ranges.from in
    let number_is = to_z-of_z w64 c.number_at.result (search rules) ∙ c.number_at.ensures ∙ ap (λ (z : ℤ). z +ℤ pos (c.args.first + c.loop-i.i)) from_is in
    let before = subst (λ (z : ℤ). FollowsPart (g.F.Folder.state c.args.folder.now) (turns c.loop-i.i c.args.first (turn_from c.args.place.now (code_of c.args.body.now.stmts.items) c.args.slot z)) (standing c.args.self.now) (standing c.loop-i.self) (Ok tt)) from_is c.loop-i.invariant.follows in
    let set_is = c.set.ensures.set ∙ ap (λ (z : ℤ). assigned c.args.slot z (standing c.loop-i.self)) number_is in
    let less : c.loop-i.i < c.args.count = omega arith in
    rw (p.1, p.2)
    (turns_stop (g.F.Folder.state c.args.folder.now) c.args.place.now (code_of c.args.body.now.stmts.items) c.args.slot c.args.from c.args.first c.loop-i.i (standing c.args.self.now) (standing c.loop-i.self) (standing c.statements.new.self) before c.args.count c.in_err-statements.field-0.0 less
    (follows_assigned (g.F.Folder.state c.args.folder.now) (run c.args.place.now (code_of c.args.body.now.stmts.items)) c.args.slot (c.args.from +ℤ pos (c.args.first + c.loop-i.i)) (standing c.loop-i.self) (standing c.statements.new.self) (Err c.in_err-statements.field-0.0)
    (subst (λ (x : Standing). FollowsPart (g.F.Folder.state c.args.folder.now) (run c.args.place.now (code_of c.args.body.now.stmts.items)) x (standing c.statements.new.self) (Err c.in_err-statements.field-0.0)) set_is
    (retold (g.F.Folder.state c.args.folder.now) (g.F.Folder.state c.loop-i.folder) (run c.args.place.now (code_of c.args.body.now.stmts.items)) (standing c.set.new.self) (standing c.statements.new.self) (Err c.in_err-statements.field-0.0) c.loop-i.invariant.same c.in_err-statements.ensures.follows))))

pub repeat-loop-i-preserved : goal.repeat-loop-i-preserved
repeat-loop-i-preserved g t c =
    let from_is = to_z-of_z w64 c.args.from c.ranges.from in
    let number_is = to_z-of_z w64 c.number_at.result (search rules) ∙ c.number_at.ensures ∙ ap (λ (z : ℤ). z +ℤ pos (c.args.first + c.loop-i.i)) from_is in
    let before = subst (λ (z : ℤ). FollowsPart (g.F.Folder.state c.args.folder.now) (turns c.loop-i.i c.args.first (turn_from c.args.place.now (code_of c.args.body.now.stmts.items) c.args.slot z)) (standing c.args.self.now) (standing c.loop-i.self) (Ok tt)) from_is c.loop-i.invariant.follows in
    let set_is = c.set.ensures.set ∙ ap (λ (z : ℤ). assigned c.args.slot z (standing c.loop-i.self)) number_is in
    record {
      follows =
          subst (λ (z : ℤ). FollowsPart (g.F.Folder.state c.args.folder.now) (turns (c.loop-i.i + 1) c.args.first (turn_from c.args.place.now (code_of c.args.body.now.stmts.items) c.args.slot z)) (standing c.args.self.now) (standing c.statements.new.self) (Ok tt)) (sym from_is)
          (turns_next (g.F.Folder.state c.args.folder.now) c.args.place.now (code_of c.args.body.now.stmts.items) c.args.slot c.args.from c.args.first c.loop-i.i (standing c.args.self.now) (standing c.loop-i.self) (standing c.statements.new.self) before
          (follows_assigned (g.F.Folder.state c.args.folder.now) (run c.args.place.now (code_of c.args.body.now.stmts.items)) c.args.slot (c.args.from +ℤ pos (c.args.first + c.loop-i.i)) (standing c.loop-i.self) (standing c.statements.new.self) (Ok tt)
          (subst (λ (x : Standing). FollowsPart (g.F.Folder.state c.args.folder.now) (run c.args.place.now (code_of c.args.body.now.stmts.items)) x (standing c.statements.new.self) (Ok tt)) set_is
          (retold (g.F.Folder.state c.args.folder.now) (g.F.Folder.state c.loop-i.folder) (run c.args.place.now (code_of c.args.body.now.stmts.items)) (standing c.set.new.self) (standing c.statements.new.self) (Ok tt) c.loop-i.invariant.same c.in_ok-statements.ensures.follows))));
      fewer = subst (λ (n : ℕ). c.statements.new.self.reader.left ≤ n) refl (omega (arith, c.in_ok-statements.ensures.fewer, ap (λ (r : Reading). r.left) c.set.ensures.reader, c.loop-i.invariant.fewer));
      same = c.in_ok-statements.ensures.reads.same ∙ c.loop-i.invariant.same;
      no_fault = search rules;
    }

pub repeat-returns-clause-follows : goal.repeat-returns-clause-follows
repeat-returns-clause-follows g t c =
    let from_is = to_z-of_z w64 c.args.from c.ranges.from in
    let all : c.loop-i.i ≡ c.args.count = omega arith in
    subst (λ (n : ℕ). FollowsPart (g.F.Folder.state c.args.folder.now) (turns n c.args.first (turn_from c.args.place.now (code_of c.args.body.now.stmts.items) c.args.slot c.args.from)) (standing c.args.self.now) (standing c.loop-i.self) (Ok tt)) all
    (subst (λ (z : ℤ). FollowsPart (g.F.Folder.state c.args.folder.now) (turns c.loop-i.i c.args.first (turn_from c.args.place.now (code_of c.args.body.now.stmts.items) c.args.slot z)) (standing c.args.self.now) (standing c.loop-i.self) (Ok tt)) from_is c.loop-i.invariant.follows)

pub share-repeat-requires-clause-top : goal.share-repeat-requires-clause-top
share-repeat-requires-clause-top g t c κs within =
    let lt = within_is c.args.place.now.lane c.args.place.now.span c.span.result c.span.ensures.span c.span.ensures.within in
    let is : c.even_share-first.result ≡ even_share_of c.args.total c.args.place.now.lane c.args.place.now.span =
    c.even_share-first.ensures ∙ ap (λ (n : ℕ). even_share_of c.args.total n c.span.result) c.lane.ensures ∙ ap (λ (n : ℕ). even_share_of c.args.total c.args.place.now.lane n) c.span.ensures.span in
    let reaches : c.even_share-first.result.0 + c.even_share-first.result.1 ≤ c.args.total =
    subst (λ (p : ℕ × ℕ). p.0 + p.1 ≤ c.args.total) (sym is) (share_within c.args.total c.args.place.now.lane c.args.place.now.span lt) in
    subst (λ (z : ℤ). (z +ℤ pos (c.even_share-first.result.0 + c.even_share-first.result.1)) ≤ℤ pos (2 ^ 63 - 1)) (sym (to_z-of_z w64 c.args.from c.ranges.from))
    (below_top c.args.from (c.even_share-first.result.0 + c.even_share-first.result.1) c.args.total reaches c.requires.top)

pub share-returns-in-Even-clause-follows : goal.share-returns-in-Even-clause-follows
share-returns-in-Even-clause-follows g t c =
    let is : c.even_share-first.result ≡ even_share_of c.args.total c.args.place.now.lane c.args.place.now.span =
    c.even_share-first.ensures ∙ ap (λ (n : ℕ). even_share_of c.args.total n c.span.result) c.lane.ensures ∙ ap (λ (n : ℕ). even_share_of c.args.total c.args.place.now.lane n) c.span.ensures.span in
    shared_even (g.F.Folder.state c.args.folder.now) c.args.place.now (code_of c.args.body.now.stmts.items) c.args.slot c.args.from c.args.line c.args.total (standing c.args.self.now) (standing c.repeat.new.self) c.repeat.result c.args.schedule c.even_share-first.result c.in-Even.is is
    (subst (λ (z : ℤ). FollowsPart (g.F.Folder.state c.args.folder.now) (turns c.even_share-first.result.1 c.even_share-first.result.0 (turn_from c.args.place.now (code_of c.args.body.now.stmts.items) c.args.slot z)) (standing c.args.self.now) (standing c.repeat.new.self) c.repeat.result) (to_z-of_z w64 c.args.from c.ranges.from) c.repeat.ensures.follows)

pub share-returns-in-Static-clause-follows : goal.share-returns-in-Static-clause-follows
share-returns-in-Static-clause-follows g t c =
    shared_static (g.F.Folder.state c.args.folder.now) c.args.place.now (code_of c.args.body.now.stmts.items) c.args.slot c.args.from c.args.line c.args.total (standing c.args.self.now) (standing c.chunks.new.self) c.chunks.result c.args.schedule c.in-Static.chunk c.in-Static.is
    (subst (λ (z : ℤ). FollowsPart (g.F.Folder.state c.args.folder.now) (each (static_iterations c.in-Static.chunk c.args.total c.args.place.now.lane c.args.place.now.span) (turn_from c.args.place.now (code_of c.args.body.now.stmts.items) c.args.slot z)) (standing c.args.self.now) (standing c.chunks.new.self) c.chunks.result) (to_z-of_z w64 c.args.from c.ranges.from) c.chunks.ensures.follows)

pub share-returns-in-Dynamic-clause-follows : goal.share-returns-in-Dynamic-clause-follows
share-returns-in-Dynamic-clause-follows g t c =
    shared_drawn (g.F.Folder.state c.args.folder.now) c.args.place.now (code_of c.args.body.now.stmts.items) c.args.slot c.args.from c.args.line c.args.total (standing c.args.self.now) (standing c.drawn_chunks.new.self) c.drawn_chunks.result c.args.schedule c.in-Dynamic.chunk c.in-Dynamic.is
    (subst (λ (n : ℕ). FollowsPart (g.F.Folder.state c.args.folder.now) (draw_all c.args.line (chunk_count n c.args.total) (λ q. each (chunk_iterations n c.args.total q) (turn_from c.args.place.now (code_of c.args.body.now.stmts.items) c.args.slot c.args.from))) (standing c.args.self.now) (standing c.drawn_chunks.new.self) c.drawn_chunks.result) c.from-chunk.ensures
    (subst (λ (z : ℤ). FollowsPart (g.F.Folder.state c.args.folder.now) (draw_all c.args.line (chunk_count c.from-chunk.result c.args.total) (λ q. each (chunk_iterations c.from-chunk.result c.args.total q) (turn_from c.args.place.now (code_of c.args.body.now.stmts.items) c.args.slot z))) (standing c.args.self.now) (standing c.drawn_chunks.new.self) c.drawn_chunks.result) (to_z-of_z w64 c.args.from c.ranges.from) c.drawn_chunks.ensures.follows))

pub statement-statements-requires-clause-bounded : goal.statement-statements-requires-clause-bounded
statement-statements-requires-clause-bounded g t c κs within =
    (subst IsBoundedCode (ap (λ (s : Stmt). stmt_code s Done) c.in-If.is ∙ stmt_code-If c.in-If.test c.in-If.yes c.in-If.no Done) c.requires.bounded).2

pub statement-statements-requires-else-chosen-eq0-clause-bounded : goal.statement-statements-requires-else-chosen-eq0-clause-bounded
statement-statements-requires-else-chosen-eq0-clause-bounded g t c κs within =
    (subst IsBoundedCode (ap (λ (s : Stmt). stmt_code s Done) c.in-If.is ∙ stmt_code-If c.in-If.test c.in-If.yes c.in-If.no Done) c.requires.bounded).1

pub statement-looped-requires-clause-bounded : goal.statement-looped-requires-clause-bounded
statement-looped-requires-clause-bounded g t c κs within =
    (subst IsBoundedCode (ap (λ (s : Stmt). stmt_code s Done) c.in-Loop.is ∙ stmt_code-Loop c.in-Loop.slot c.in-Loop.from c.in-Loop.to c.in-Loop.body Done) c.requires.bounded).2

pub statement-worksharing-requires-clause-bounded : goal.statement-worksharing-requires-clause-bounded
statement-worksharing-requires-clause-bounded g t c κs within =
    (subst IsBoundedCode (ap (λ (s : Stmt). stmt_code s Done) c.in-For.is ∙ stmt_code-For c.in-For.slot c.in-For.from c.in-For.to c.in-For.schedule c.in-For.nowait c.in-For.line c.in-For.end c.in-For.body Done) c.requires.bounded).5

pub statement-worksharing-requires-clause-chunk : goal.statement-worksharing-requires-clause-chunk
statement-worksharing-requires-clause-chunk g t c κs within =
    (subst IsBoundedCode (ap (λ (s : Stmt). stmt_code s Done) c.in-For.is ∙ stmt_code-For c.in-For.slot c.in-For.from c.in-For.to c.in-For.schedule c.in-For.nowait c.in-For.line c.in-For.end c.in-For.body Done) c.requires.bounded).2

pub statement-critical-requires-clause-bounded : goal.statement-critical-requires-clause-bounded
statement-critical-requires-clause-bounded g t c κs within =
    (subst IsBoundedCode (ap (λ (s : Stmt). stmt_code s Done) c.in-Critical.is ∙ stmt_code-Critical c.in-Critical.mutex c.in-Critical.line c.in-Critical.end c.in-Critical.body Done) c.requires.bounded).3

pub statement-returns-in_err-chosen-in-If-clause-follows : goal.statement-returns-in_err-chosen-in-If-clause-follows
statement-returns-in_err-chosen-in-If-clause-follows g t c =
    let p = err_from_is_err_and c.from_residual.result c.from_residual.ensures.1 in
    rw (p.1, p.2)
    (subst (λ (x : Code). FollowsPart (g.F.Folder.state c.args.folder.now) (run c.args.place.now x) (standing c.args.self.now) (standing c.value.new.self) (Err c.in_err-chosen-in-If.field-0.0)) (sym (ap (λ (s : Stmt). stmt_code s Done) c.in-If.is ∙ stmt_code-If c.in-If.test c.in-If.yes c.in-If.no Done))
    (test_stops (g.F.Folder.state c.args.folder.now) c.args.place.now (term_of c.in-If.test) (code_of c.in-If.yes.stmts.items) (code_of c.in-If.no.stmts.items) (standing c.args.self.now) (standing c.value.new.self) c.in_err-chosen-in-If.field-0.0 c.in_err-chosen-in-If.ensures.follows))

pub statement-returns-then-chosen-eq0-clause-follows : goal.statement-returns-then-chosen-eq0-clause-follows
statement-returns-then-chosen-eq0-clause-follows g t c =
    let back = to_z-of_z w64 c.in_ok-chosen-in-If.chosen (search rules) in
    subst (λ (x : Code). FollowsPart (g.F.Folder.state c.args.folder.now) (run c.args.place.now x) (standing c.args.self.now) (standing c.statements.new.self) c.statements.result) (sym (ap (λ (s : Stmt). stmt_code s Done) c.in-If.is ∙ stmt_code-If c.in-If.test c.in-If.yes c.in-If.no Done))
    (else_goes (g.F.Folder.state c.args.folder.now) c.args.place.now (term_of c.in-If.test) (code_of c.in-If.yes.stmts.items) (code_of c.in-If.no.stmts.items) (standing c.args.self.now) (standing c.value.new.self) c.in_ok-chosen-in-If.chosen (standing c.statements.new.self) c.statements.result c.in_ok-chosen-in-If.ensures.follows
    (sym back ∙ ap (λ (n : ℕ). to_z w64 n) c.if-chosen-eq0.true)
    (retold (g.F.Folder.state c.args.folder.now) (g.F.Folder.state c.value.new.folder) (run c.args.place.now (code_of c.in-If.no.stmts.items)) (standing c.value.new.self) (standing c.statements.new.self) c.statements.result c.value.ensures.reads.same c.statements.ensures.follows))

pub statement-returns-else-chosen-eq0-clause-follows : goal.statement-returns-else-chosen-eq0-clause-follows
statement-returns-else-chosen-eq0-clause-follows g t c =
    subst (λ (x : Code). FollowsPart (g.F.Folder.state c.args.folder.now) (run c.args.place.now x) (standing c.args.self.now) (standing c.statements-else-chosen-eq0.new.self) c.statements-else-chosen-eq0.result) (sym (ap (λ (s : Stmt). stmt_code s Done) c.in-If.is ∙ stmt_code-If c.in-If.test c.in-If.yes c.in-If.no Done))
    (then_goes (g.F.Folder.state c.args.folder.now) c.args.place.now (term_of c.in-If.test) (code_of c.in-If.yes.stmts.items) (code_of c.in-If.no.stmts.items) (standing c.args.self.now) (standing c.value.new.self) c.in_ok-chosen-in-If.chosen (standing c.statements-else-chosen-eq0.new.self) c.statements-else-chosen-eq0.result c.in_ok-chosen-in-If.ensures.follows
    (λ is. c.if-chosen-eq0.false (ap (λ (z : ℤ). of_z w64 z) is))
    (retold (g.F.Folder.state c.args.folder.now) (g.F.Folder.state c.value.new.folder) (run c.args.place.now (code_of c.in-If.yes.stmts.items)) (standing c.value.new.self) (standing c.statements-else-chosen-eq0.new.self) c.statements-else-chosen-eq0.result c.value.ensures.reads.same c.statements-else-chosen-eq0.ensures.follows))

pub statement-returns-in-Loop-clause-follows : goal.statement-returns-in-Loop-clause-follows
statement-returns-in-Loop-clause-follows g t c =
    subst (λ (x : Code). FollowsPart (g.F.Folder.state c.args.folder.now) (run c.args.place.now x) (standing c.args.self.now) (standing c.looped.new.self) c.looped.result) (sym (ap (λ (s : Stmt). stmt_code s Done) c.in-Loop.is ∙ stmt_code-Loop c.in-Loop.slot c.in-Loop.from c.in-Loop.to c.in-Loop.body Done))
    (c.looped.ensures.follows)

pub statement-fork-requires-clause-bounded : goal.statement-fork-requires-clause-bounded
statement-fork-requires-clause-bounded g t c κs given = (subst IsBoundedCode (ap (λ (s : Stmt). stmt_code s Done) c.in-Parallel.is ∙ stmt_code-Parallel c.in-Parallel.team Done) c.requires.bounded).3

pub statement-returns-in-Parallel-clause-follows : goal.statement-returns-in-Parallel-clause-follows
statement-returns-in-Parallel-clause-follows g t c =
    subst (λ (x : Code). FollowsPart (g.F.Folder.state c.args.folder.now) (run c.args.place.now x) (standing c.args.self.now) (standing c.fork.new.self) c.fork.result) (sym (ap (λ (s : Stmt). stmt_code s Done) c.in-Parallel.is ∙ stmt_code-Parallel c.in-Parallel.team Done))
    (c.fork.ensures.follows)

pub statement-returns-in-Critical-clause-follows : goal.statement-returns-in-Critical-clause-follows
statement-returns-in-Critical-clause-follows g t c =
    subst (λ (x : Code). FollowsPart (g.F.Folder.state c.args.folder.now) (run c.args.place.now x) (standing c.args.self.now) (standing c.critical.new.self) c.critical.result) (sym (ap (λ (s : Stmt). stmt_code s Done) c.in-Critical.is ∙ stmt_code-Critical c.in-Critical.mutex c.in-Critical.line c.in-Critical.end c.in-Critical.body Done))
    (c.critical.ensures.follows)

pub statement-returns-in_err-worksharing-in-For-clause-follows : goal.statement-returns-in_err-worksharing-in-For-clause-follows
statement-returns-in_err-worksharing-in-For-clause-follows g t c =
    let p = err_from_is_err_and c.from_residual-in_err-worksharing-in-For.result c.from_residual-in_err-worksharing-in-For.ensures.1 in
    rw (p.1, p.2)
    (subst (λ (x : Code). FollowsPart (g.F.Folder.state c.args.folder.now) (run c.args.place.now x) (standing c.args.self.now) (standing c.worksharing.new.self) (Err c.in_err-worksharing-in-For.field-0.0)) (sym (ap (λ (s : Stmt). stmt_code s Done) c.in-For.is ∙ stmt_code-For c.in-For.slot c.in-For.from c.in-For.to c.in-For.schedule c.in-For.nowait c.in-For.line c.in-For.end c.in-For.body Done))
    (for_stops (g.F.Folder.state c.args.folder.now) c.args.place.now c.in-For.slot (term_of c.in-For.from) (term_of c.in-For.to) c.in-For.schedule c.in-For.nowait c.in-For.line c.in-For.end (code_of c.in-For.body.stmts.items) (standing c.args.self.now) (standing c.worksharing.new.self) c.in_err-worksharing-in-For.field-0.0 c.in_err-worksharing-in-For.ensures.follows))

pub statement-returns-in_ok-worksharing-in-For-clause-follows : goal.statement-returns-in_ok-worksharing-in-For-clause-follows
statement-returns-in_ok-worksharing-in-For-clause-follows g t c =
    subst (λ (x : Code). FollowsPart (g.F.Folder.state c.args.folder.now) (run c.args.place.now x) (standing c.args.self.now) (standing c.end_loop.new.self) c.end_loop.result) (sym (ap (λ (s : Stmt). stmt_code s Done) c.in-For.is ∙ stmt_code-For c.in-For.slot c.in-For.from c.in-For.to c.in-For.schedule c.in-For.nowait c.in-For.line c.in-For.end c.in-For.body Done))
    (for_goes (g.F.Folder.state c.args.folder.now) c.args.place.now c.in-For.slot (term_of c.in-For.from) (term_of c.in-For.to) c.in-For.schedule c.in-For.nowait c.in-For.line c.in-For.end (code_of c.in-For.body.stmts.items) (standing c.args.self.now) (standing c.worksharing.new.self) (standing c.end_loop.new.self) c.end_loop.result c.in_ok-worksharing-in-For.ensures.follows
    (retold (g.F.Folder.state c.args.folder.now) (g.F.Folder.state c.worksharing.new.folder) (loop_end c.in-For.nowait c.in-For.end) (standing c.worksharing.new.self) (standing c.end_loop.new.self) c.end_loop.result c.worksharing.ensures.reads.same c.end_loop.ensures.follows))

pub statement-returns-in-Barrier-clause-follows : goal.statement-returns-in-Barrier-clause-follows
statement-returns-in-Barrier-clause-follows g t c =
    let is : c.event.result ≡ event kind.Barrier c.in-Barrier.line 0 0 = search rules in
    subst (λ (x : Code). FollowsPart (g.F.Folder.state c.args.folder.now) (run c.args.place.now x) (standing c.args.self.now) (standing c.put.new.self) c.put.result) (sym (ap (λ (s : Stmt). stmt_code s Done) c.in-Barrier.is ∙ stmt_code-Barrier c.in-Barrier.line Done))
    (barrier_goes (g.F.Folder.state c.args.folder.now) c.args.place.now c.in-Barrier.line (standing c.args.self.now) (standing c.put.new.self) c.put.result
    (subst (λ (x : Record). FollowsPart (g.F.Folder.state c.args.folder.now) (put x) (standing c.args.self.now) (standing c.put.new.self) c.put.result) is c.put.ensures.follows))

pub statements-loop-stmt-init : goal.statements-loop-stmt-init
statements-loop-stmt-init g t c =
    record {
      items = c.deref-stmt-items.ensures.value;
      follows = follows_done (g.F.Folder.state c.args.folder.now) c.args.place.now (standing c.args.self.now);
      fewer = omega arith;
      same = refl;
      no_fault = search rules;
    }

pub statements-statement-requires-clause-bounded : goal.statements-statement-requires-clause-bounded
statements-statement-requires-clause-bounded g t c κs given =
    let inside : c.loop-stmt.stmt-index < length c.deref-stmt-items.result.now = omega arith in
    bounded_at c.deref-stmt-items.result.now c.loop-stmt.stmt-index c.stmt-item.result (slice_get_read c.deref-stmt-items.result.now (length c.deref-stmt-items.result.now) c.loop-stmt.stmt-index c.stmt-item.result refl inside c.stmt-item.is)
    (subst (λ (l : List Stmt). IsBoundedCode (code_of l)) (sym c.deref-stmt-items.ensures.value) c.requires.bounded)

pub statements-returns-in_err-statement-clause-follows : goal.statements-returns-in_err-statement-clause-follows
statements-returns-in_err-statement-clause-follows g t c =
    let p = err_from_is_err_and c.from_residual.result c.from_residual.ensures.1 in
    let inside' : c.loop-stmt.stmt-index < length c.deref-stmt-items.result.now = omega arith in
    let inside : c.loop-stmt.stmt-index < length c.args.body.now.stmts.items = subst (λ (l : List Stmt). c.loop-stmt.stmt-index < length l) c.deref-stmt-items.ensures.value inside' in
    let is : c.stmt-item.result ≡ get_or c.args.body.now.stmts.items c.loop-stmt.stmt-index c.stmt-item.result = subst (λ (l : List Stmt). c.stmt-item.result ≡ get_or l c.loop-stmt.stmt-index c.stmt-item.result) c.deref-stmt-items.ensures.value c.stmt-item.is in
    rw (p.1, p.2)
    (subst (λ (ss : List Stmt). FollowsPart (g.F.Folder.state c.args.folder.now) (run c.args.place.now (code_of ss)) (standing c.args.self.now) (standing c.statement.new.self) (Err c.in_err-statement.field-0.0)) (sym (split_at c.args.body.now.stmts.items c.loop-stmt.stmt-index c.stmt-item.result inside is))
    (statements_stop (g.F.Folder.state c.args.folder.now) c.args.place.now (take c.loop-stmt.stmt-index c.args.body.now.stmts.items) c.stmt-item.result (standing c.args.self.now) (standing c.loop-stmt.self) (standing c.statement.new.self) c.loop-stmt.invariant.follows (drop (c.loop-stmt.stmt-index + 1) c.args.body.now.stmts.items) c.in_err-statement.field-0.0
    (retold (g.F.Folder.state c.args.folder.now) (g.F.Folder.state c.loop-stmt.folder) (run c.args.place.now (stmt_code c.stmt-item.result Done)) (standing c.loop-stmt.self) (standing c.statement.new.self) (Err c.in_err-statement.field-0.0) c.loop-stmt.invariant.same c.in_err-statement.ensures.follows)))

pub statements-loop-stmt-preserved : goal.statements-loop-stmt-preserved
statements-loop-stmt-preserved g t c =
    let inside' : c.loop-stmt.stmt-index < length c.deref-stmt-items.result.now = omega arith in
    let inside : c.loop-stmt.stmt-index < length c.args.body.now.stmts.items = subst (λ (l : List Stmt). c.loop-stmt.stmt-index < length l) c.deref-stmt-items.ensures.value inside' in
    let is : c.stmt-item.result ≡ get_or c.args.body.now.stmts.items c.loop-stmt.stmt-index c.stmt-item.result = subst (λ (l : List Stmt). c.stmt-item.result ≡ get_or l c.loop-stmt.stmt-index c.stmt-item.result) c.deref-stmt-items.ensures.value c.stmt-item.is in
    record {
      items = c.loop-stmt.invariant.items;
      follows =
          subst (λ (ss : List Stmt). FollowsPart (g.F.Folder.state c.args.folder.now) (run c.args.place.now (code_of ss)) (standing c.args.self.now) (standing c.statement.new.self) (Ok tt)) (sym (grown c.args.body.now.stmts.items c.loop-stmt.stmt-index c.stmt-item.result inside is))
          (statements_next (g.F.Folder.state c.args.folder.now) c.args.place.now (take c.loop-stmt.stmt-index c.args.body.now.stmts.items) c.stmt-item.result (standing c.args.self.now) (standing c.loop-stmt.self) (standing c.statement.new.self) c.loop-stmt.invariant.follows
          (retold (g.F.Folder.state c.args.folder.now) (g.F.Folder.state c.loop-stmt.folder) (run c.args.place.now (stmt_code c.stmt-item.result Done)) (standing c.loop-stmt.self) (standing c.statement.new.self) (Ok tt) c.loop-stmt.invariant.same c.in_ok-statement.ensures.follows));
      fewer = omega (arith, c.in_ok-statement.ensures.fewer, c.loop-stmt.invariant.fewer);
      same = c.in_ok-statement.ensures.reads.same ∙ c.loop-stmt.invariant.same;
      no_fault = search rules;
    }

pub statements-returns-clause-follows : goal.statements-returns-clause-follows
statements-returns-clause-follows g t c =
    let past : length c.args.body.now.stmts.items ≤ c.loop-stmt.stmt-index = subst (λ (l : List Stmt). length l ≤ c.loop-stmt.stmt-index) c.deref-stmt-items.ensures.value (omega arith) in
    subst (λ (ss : List Stmt). FollowsPart (g.F.Folder.state c.args.folder.now) (run c.args.place.now (code_of ss)) (standing c.args.self.now) (standing c.loop-stmt.self) (Ok tt)) (take_all c.loop-stmt.stmt-index c.args.body.now.stmts.items past) c.loop-stmt.invariant.follows

pub statement-assignment-requires-clause-assigns : goal.statement-assignment-requires-clause-assigns
statement-assignment-requires-clause-assigns g t c κs given = is_assignment c.args.stmt.now c.in_default.not-If c.in_default.not-Loop c.in_default.not-Parallel c.in_default.not-For c.in_default.not-Barrier c.in_default.not-Critical
