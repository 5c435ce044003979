use Rattle.std.proofs.Common.{◌≡◌, ◌≤◌, ◌∙◌, ℕ, List, [], Option, Some, None, sym, ap, subst, rules}
use Rattle.std.proofs.lemmas.Option.{none-some, same_Some}
use Rattle.std.specs.Prelude.{Ok, Err, IfOk}
use Rattle.sw_base.specs.Environment.{Rose}
use Rattle.race_model.specs.Label.{Triple}
use Rattle.log_segment.specs.declared.segment.Segment.{Segment}
use Rattle.log_walk.specs.Check.{ChecksLog}
use Rattle.log_walk.specs.declared.check.LogFault.TheVariants.{ReadFault}
use Rattle.log_walk.proofs.ahead.Job.go.Goals as goal

pub returns : goal.returns
returns g c = record {
  goes = λ told dir rows is. (
      let job = c.args.self.now in
      let none : job.answer ≡ None = search rules in
      let answer = c.check_log.result in
      let zero = is.counts.no_fault (λ e. none-some (Err ReadFault) (sym none ∙ e)) in
      let new = c.check_log.new.found.items in
      let counts = c.check_log.ensures.reads in
      let good : IfOk answer (λ checked. ChecksLog c.args.format is.bytes job.source.task job.source.opened job.source.label checked [] new) =
      subst (λ (b : Option (List ℕ)). IfOk answer (λ checked. ChecksLog c.args.format b job.source.task job.source.opened job.source.label checked [] new)) (is.fresh none).0
      (subst (λ (xs : List Segment). IfOk answer (λ checked. ChecksLog c.args.format (g.T.File.rest job.file) job.source.task job.source.opened job.source.label checked xs new)) (is.fresh none).1
      (subst (λ (l : List Triple). IfOk answer (λ checked. ChecksLog c.args.format (g.T.File.rest job.file) job.source.task job.source.opened l checked job.found.items new)) c.copy.ensures.same c.check_log.ensures.good)) in
      record {
        source = is.source;
        bytes = is.bytes;
        opens = is.opens;
        fresh = λ e. absurd (none-some answer (sym e));
        good = λ checked e. rw (same_Some answer (Ok checked) e) at good;
        counts = record {
          later = subst (λ (n : ℕ). n ≤ g.T.File.faults c.check_log.new.file) zero counts.later;
          cause = λ e. subst (λ (n : ℕ). Rose n (g.T.File.faults c.check_log.new.file)) zero (counts.cause (same_Some answer (Err ReadFault) e));
          no_fault = λ not. counts.no_fault (λ e. not (ap Some e)) ∙ zero;
        };
      });
}
