use Rattle.std.proofs.Common.{◌∙◌, ◌↔◌, refl, sym, subst}
use Rattle.std.proofs.lemmas.Option.{same_Some}
use Rattle.stride_summary.specs.declared.summary.Summary.{Summary}
use Rattle.stride_summary.specs.Run.{HasPair}
use Rattle.stride_summary.specs.Summary.{IsSummed}
use Rattle.log_segment.proofs.walking.Walk.close.Goals as goal

pub returns-clause-added : goal.returns-clause-added
returns-clause-added c = λ summary is. record {
  segment = _;
  gains = c.in_ok-push.ensures.items;
  path_is = c.copy.ensures.same;
  first = refl;
  last_is = refl;
  label = c.copy-2.ensures.same;
  pairs = λ key address. subst (λ (s : Summary). HasPair c.take_runs-runs.result.items key address ↔ IsSummed s key address)
      (same_Some c.in-Some.summary summary (sym c.in-Some.is ∙ (c.take.ensures.value ∙ is))) (c.take_runs-runs.ensures.pairs key address);
}
