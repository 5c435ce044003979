use Rattle.std.proofs.Common.{rules, ◌++◌, sym, subst, ◌∙◌, ap}
use Rattle.std.proofs.lemmas.Result.{err_from_is_err_and}
use Rattle.sw_base.specs.Environment.{FolderState}
use Rattle.log_walk.specs.Sweep.{HasSwept, HasSweptAll}
use Rattle.log_walk.specs.declared.sweep.Sweep.{Sweep}
use Rattle.log_walk.proofs.swept.sweep_all_as.Goals as goal

pub regions-init : goal.regions-init
regions-init g c = record {
  trace = _;
  swept = c.in_ok-sweep.ensures.begins.swept;
  fresh = λ e is. let none_yet = c.in_ok-sweep.ensures.begins.fresh in absurd (cc (none_yet, is));
  same = c.in_ok-sweep.ensures.reads.same;
  no_fault = search rules;
}

pub returns-in_err-_segments-clause-refused : goal.returns-in_err-_segments-clause-refused
returns-in_err-_segments-clause-refused g c =
    let p = err_from_is_err_and c.from_residual-in_err-_segments.result c.from_residual-in_err-_segments.ensures.1 in
    let now = subst (λ (s : FolderState). HasSwept c.args.format s.content c.args.dir.now c.regions.sweep c.regions.invariant.trace) (sym c.regions.invariant.same) c.regions.invariant.swept in
    rw (p.1, p.2) (λ x told. (c.in_err-_segments.ensures.next.refused c.args.format c.args.dir.now c.regions.invariant.trace now).2 x (ap (λ s. s.content) c.regions.invariant.same ∙ told))

pub regions-preserved : goal.regions-preserved
regions-preserved g c =
    let now = subst (λ (s : FolderState). HasSwept c.args.format s.content c.args.dir.now c.regions.sweep c.regions.invariant.trace) (sym c.regions.invariant.same) c.regions.invariant.swept in
    let gives = rw c.in-Some.is at (c.in_ok-_segments.ensures.next.region c.args.format c.args.dir.now c.regions.invariant.trace now) in
    record {
      trace = c.regions.invariant.trace ++ gives.more;
      swept = subst (λ (s : FolderState). HasSwept c.args.format s.content c.args.dir.now c.next.new.self (c.regions.invariant.trace ++ gives.more)) c.regions.invariant.same gives.swept;
      fresh = c.in_ok-_segments.ensures.next.unrefused;
      same = c.in_ok-_segments.ensures.reads.same ∙ c.regions.invariant.same;
      no_fault = search rules;
    }

pub returns-clause-all : goal.returns-clause-all
returns-clause-all g c =
    let now = subst (λ (s : FolderState). HasSwept c.args.format s.content c.args.dir.now c.regions.sweep c.regions.invariant.trace) (sym c.regions.invariant.same) c.regions.invariant.swept in
    let all = c.in_ok-_segments.ensures.next.all c.args.format c.args.dir.now c.regions.invariant.trace now c.in_default.is in (
      c.regions.invariant.trace,
      subst (λ (s : Sweep). HasSweptAll c.args.format (g.F.Folder.state c.args.folder.now).content c.args.dir.now s c.regions.invariant.trace) (sym all.0)
          (subst (λ (s : FolderState). HasSweptAll c.args.format s.content c.args.dir.now c.regions.sweep c.regions.invariant.trace) c.regions.invariant.same all.1),
    )
