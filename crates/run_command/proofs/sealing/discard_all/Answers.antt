use Rattle.std.proofs.Common.{◌≡◌, arith, rules, refl, sym, ◌∙◌}
use Rattle.std.proofs.lemmas.Iterator.Adapters.{YieldsList-from_vec}
use Rattle.std.proofs.lemmas.Iterator.Consumers.{YieldsList-end}
use Rattle.std.proofs.lemmas.List.{map-id}
use Rattle.run_command.proofs.SealedLogs.{faults_none, faults_push}
use Rattle.run_command.proofs.sealing.discard_all.Goals as goal

pub loop-log-init : goal.loop-log-init
loop-log-init g c = record {
  same = refl;
  same_roots = refl;
  same_reads = refl;
  later = omega arith;
  faulty = faults_none g.F.Log.Log.faults _;
}

pub loop-log-preserved : goal.loop-log-preserved
loop-log-preserved g c = record {
  same = cc;
  same_roots = cc;
  same_reads = cc;
  later = let taken = c.discard.ensures.log_faults in omega arith;
  faulty = faults_push g.F.Log.Log.faults c.loop-log.yielded _ _ _ (λ rose. let taken = c.discard.ensures.log_faults in omega arith) c.loop-log.invariant.faulty
      (λ own. let rose = c.discard.ensures.log_faults.faulty own in let before = c.loop-log.invariant.later in omega arith);
}

pub returns-clause-faulty : goal.returns-clause-faulty
returns-clause-faulty g c =
    let end = YieldsList-end (YieldsList-from_vec {s = c.into_iter-log-iterator.result} c.args.logs.items (search rules) (search rules)) c.loop-log.yielded _ c.loop-log.yielded_by _ c.next.new.self c.in-None.is c.next.ensures.steps in
    let whole : c.loop-log.yielded ≡ c.args.logs.items = sym (map-id _) ∙ end.0 in
    rw (← whole) c.loop-log.invariant.faulty
