use Rattle.std.proofs.Common.{◌≡◌, List, Contains, length, refl, rules, sym, subst}
use Rattle.std.proofs.lemmas.List.Elements.{Contains-push}
use Rattle.log_segment.specs.declared.segment.Segment.{Segment}
use Rattle.stride_summary.specs.declared.run.Run.{Run}
use Rattle.explain.proofs.Answering.{no_element}
use Rattle.explain.proofs.keeping.keep_part.Goals as goal

pub returns-then-is_empty-clause-part : goal.returns-then-is_empty-clause-part
returns-then-is_empty-clause-part c = λ run run_in on.
    let none : length c.in_ok-runs.runs.items ≡ 0 = search rules in
    absurd (no_element c.in_ok-runs.runs.items run none (c.in_ok-runs.ensures run (subst (λ (l : List Run). Contains l run) (sym c.deref.ensures.value) run_in) on))

pub returns-clause-part : goal.returns-clause-part
returns-clause-part c = λ run run_in on.
    let part : Segment = record { path = c.copy.result; first = c.args.segment.now.first; last = c.args.segment.now.last; label = c.copy-2.result; runs = c.in_ok-runs.runs } in
    record {
      part = part;
      listed = subst (λ (l : List Segment). Contains l part) (sym c.in_ok-push.ensures.items) (Contains-push c.args.kept.now.items part);
      path_is = c.copy.ensures.same;
      first_is = refl;
      last_is = refl;
      label_is = c.copy-2.ensures.same;
      holds = c.in_ok-runs.ensures run (subst (λ (l : List Run). Contains l run) (sym c.deref.ensures.value) run_in) on;
    }
