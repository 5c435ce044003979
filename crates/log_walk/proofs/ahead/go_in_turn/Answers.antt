use Rattle.std.proofs.Common.{◌<◌, length, arith}
use Rattle.std.proofs.lemmas.List.Elements.{All-set}
use Rattle.log_walk.specs.Ahead.{IsJob}
use Rattle.log_walk.proofs.ahead.go_in_turn.Goals as goal

pub go-requires-clause-so : goal.go-requires-clause-so
go-requires-clause-so g c κs within =
    let r = c.requires.so in
    let inside : c.loop-job.job-index < length c.loop-job.jobs = omega (arith, c.loop-job-test.true, c.loop-job.auto.jobs) in
    (r.0, r.1, r.2, c.loop-job.invariant r.0 r.1 r.2 r.3 c.loop-job.job-index c.job-item.result inside)

pub loop-job-preserved : goal.loop-job-preserved
loop-job-preserved g c = λ told dir rows all.
    let was = c.loop-job.invariant told dir rows all in
    let inside : c.loop-job.job-index < length c.loop-job.jobs = omega (arith, c.loop-job-test.true, c.loop-job.auto.jobs) in
    All-set (IsJob g.T.File.rest g.T.File.faults c.args.format told dir rows) c.loop-job.jobs c.loop-job.job-index c.go.new.self (c.go.ensures.goes told dir rows (was c.loop-job.job-index c.job-item.result inside)) was

pub returns-then-is_bad : goal.returns-then-is_bad
returns-then-is_bad g c = record {
  goes = λ told dir rows all.
      (let was = c.loop-job.invariant told dir rows all in
      let inside : c.loop-job.job-index < length c.loop-job.jobs = omega (arith, c.loop-job-test.true, c.loop-job.auto.jobs) in
      All-set (IsJob g.T.File.rest g.T.File.faults c.args.format told dir rows) c.loop-job.jobs c.loop-job.job-index c.go.new.self (c.go.ensures.goes told dir rows (was c.loop-job.job-index c.job-item.result inside)) was);
}
