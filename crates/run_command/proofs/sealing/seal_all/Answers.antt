use Rattle.std.proofs.Common.{◌≡◌, arith, rules, refl, sym, inl, inr, ◌∙◌}
use Rattle.std.proofs.lemmas.Iterator.Adapters.{YieldsList-from_vec}
use Rattle.std.proofs.lemmas.Iterator.Consumers.{YieldsList-end}
use Rattle.std.proofs.lemmas.List.{map-id}
use Rattle.run_command.proofs.SealedLogs.{faultless_push, faults_none, faults_push, seals_all_none, seals_all_push}
use Rattle.run_command.proofs.sealing.seal_all.Goals as goal

pub loop-log-init : goal.loop-log-init
loop-log-init g c = record {
  seals = seals_all_none (g.F.Folder.state c.args.folder.now).content;
  tells = refl;
  same_roots = refl;
  same_reads = refl;
  later = omega arith;
  faulty = faults_none g.F.Log.Log.faults _;
  no_fault = λ all. refl;
  cause = λ is. absurd (cc);
}

pub loop-log-preserved : goal.loop-log-preserved
loop-log-preserved g c = record {
  seals = seals_all_push _ _ _ c.loop-log.yielded c.in-Some.field-0 c.loop-log.outcome c.seal_next-outcome.result _ (g.F.Folder.state c.loop-log.folder).content _
      c.loop-log.invariant.seals c.seal_next-outcome.ensures.sealed c.seal_next-outcome.ensures.refused c.seal_next-outcome.ensures.given_up;
  tells = cc;
  same_roots = cc;
  same_reads = cc;
  later = let taken = c.seal_next-outcome.ensures.log_faults in omega arith;
  faulty = faults_push g.F.Log.Log.faults c.loop-log.yielded _ _ _ (λ rose. let taken = c.seal_next-outcome.ensures.log_faults in omega arith) c.loop-log.invariant.faulty
      (λ own. let rose = c.seal_next-outcome.ensures.log_faults.faulty own in let before = c.loop-log.invariant.later in omega arith);
  no_fault = faultless_push g.F.Log.Log.faults c.loop-log.yielded _ c.loop-log.outcome c.seal_next-outcome.result _ _ _ _ _ c.loop-log.invariant.no_fault c.seal_next-outcome.ensures.no_fault c.seal_next-outcome.ensures.given_up;
  cause = λ is. elim (c.seal_next-outcome.ensures.cause is) [
    | inl was ↦ let rose = c.loop-log.invariant.cause was in let taken = c.seal_next-outcome.ensures.log_faults in omega arith
    | inr rose ↦ omega arith
  ];
}

pub returns-clause-seals : goal.returns-clause-seals
returns-clause-seals g c =
    let end = YieldsList-end (YieldsList-from_vec {s = c.into_iter-log-iterator.result} c.args.logs.items (search rules) (search rules)) c.loop-log.yielded _ c.loop-log.yielded_by _ c.next.new.self c.in-None.is c.next.ensures.steps in
    let whole : c.loop-log.yielded ≡ c.args.logs.items = sym (map-id _) ∙ end.0 in
    rw (← whole) c.loop-log.invariant.seals

pub returns-clause-faulty : goal.returns-clause-faulty
returns-clause-faulty g c =
    let end = YieldsList-end (YieldsList-from_vec {s = c.into_iter-log-iterator.result} c.args.logs.items (search rules) (search rules)) c.loop-log.yielded _ c.loop-log.yielded_by _ c.next.new.self c.in-None.is c.next.ensures.steps in
    let whole : c.loop-log.yielded ≡ c.args.logs.items = sym (map-id _) ∙ end.0 in
    rw (← whole) c.loop-log.invariant.faulty

pub returns-clause-no_fault : goal.returns-clause-no_fault
returns-clause-no_fault g c =
    let end = YieldsList-end (YieldsList-from_vec {s = c.into_iter-log-iterator.result} c.args.logs.items (search rules) (search rules)) c.loop-log.yielded _ c.loop-log.yielded_by _ c.next.new.self c.in-None.is c.next.ensures.steps in
    let whole : c.loop-log.yielded ≡ c.args.logs.items = sym (map-id _) ∙ end.0 in
    rw (← whole) c.loop-log.invariant.no_fault
