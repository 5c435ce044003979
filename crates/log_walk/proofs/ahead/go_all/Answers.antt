use Rattle.std.proofs.Common.{◌+◌, ◌<◌, All, length, sym, subst, arith}
use Rattle.log_walk.specs.Ahead.{IsJob}
use Rattle.log_walk.specs.declared.ahead.Job.{Job}
use Rattle.log_walk.proofs.ahead.go_all.Goals as goal

pub returns : goal.returns
returns g c = record {
  goes = λ told dir rows all k d within.
      (let P : Job g.row.T.Denot → Type 0 = λ job. IsJob g.T.File.rest g.T.File.faults c.args.format told dir rows job in
      let inside : k < length c.args.jobs.now = omega (arith, within, c.for_each_chunk_mut.auto.s) in
      let part = (c.for_each_chunk_mut.ensures.by_index k d inside).1 in
      let chunk = part.argument_is in
      let before : All P part.argument.now = λ i e few. subst P (sym (chunk.elements i e few)) (all (part.start + i) e (omega (arith, few, chunk.in_bounds))) in
      subst P part.new_element (part.call.0 told dir rows before part.offset d (omega (arith, part.offset_in_chunk, part.call.1))));
}
