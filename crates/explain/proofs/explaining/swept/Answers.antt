use Rattle.std.proofs.Common.{rules, ◌≡◌, List, [], ◌∷◌, ◌++◌, Option, ap, sym, subst, ◌∙◌}
use Rattle.std.proofs.lemmas.Result.{err_from_is_err_and}
use Rattle.log_format.specs.declared.format.TheConstants.{FORMAT}
use Rattle.log_segment.specs.declared.segment.Segment.{Segment}
use Rattle.log_walk.specs.Sweep.{GivesRegion, HasSwept, HasSweptAll}
use Rattle.log_walk.specs.declared.sweep.Sweep.{Sweep}
use Rattle.log_walk.proofs.WalkMoves.{walked_more}
use Rattle.sw_base.specs.Environment.{Content, FolderState}
use Rattle.explain.specs.Suspects.{IsOnLines, KeepsRuns}
use Rattle.explain.proofs.Answering.{none_is_some}
use Rattle.explain.proofs.Kept.{holds_accesses, keeps_more}
use Rattle.explain.proofs.explaining.swept.Goals as goal

same_content : {one other : FolderState} → one ≡ other → one.content ≡ other.content
same_content same = ap (λ s. s.content) same

pub returns-in_err-region-clause-refused : goal.returns-in_err-region-clause-refused
returns-in_err-region-clause-refused g c =
    let p = err_from_is_err_and c.from_residual-in_err-region.result c.from_residual-in_err-region.ensures.1 in
    let so = c.regions.invariant.so in
    let now = subst (λ (t : Option Content). HasSwept FORMAT t c.args.dir.now c.regions.sweep so.trace) (sym (same_content c.regions.invariant.same)) so.swept in
    rw (p.1, p.2) (λ x told. (c.in_err-region.ensures.next.refused FORMAT c.args.dir.now so.trace now).2 x (same_content c.regions.invariant.same ∙ told))

pub regions-init : goal.regions-init
regions-init g c =
    let b = c.in_ok-sweep.ensures.begins in
    record {
      all = c.in_ok-sweep.root.items;
      so = record { trace = b.root ∷ []; swept = b.swept; in_order = b.gives.in_order };
      keeps = subst (λ (xs : List Segment). KeepsRuns (IsOnLines c.args.lines) xs c.keep_lines.new.kept.items) c.deref.ensures.value c.in_ok-keep_lines.ensures.keeps;
      fresh = λ e refused. none_is_some e (sym b.fresh ∙ refused);
      same = c.in_ok-sweep.ensures.reads.same;
      no_fault = search rules;
    }

pub regions-preserved : goal.regions-preserved
regions-preserved g c =
    let so = c.regions.invariant.so in
    let now = subst (λ (t : Option Content). HasSwept FORMAT t c.args.dir.now c.regions.sweep so.trace) (sym (same_content c.regions.invariant.same)) so.swept in
    let gives = rw c.in-Some.is at (c.in_ok-region.ensures.next.region FORMAT c.args.dir.now so.trace now) in
    record {
      all = c.regions.invariant.all ++ c.in-Some.region.items;
      so = walked_more (g.F.Folder.state c.args.folder.now).content c.args.dir.now c.regions.sweep c.next.new.self c.regions.invariant.all c.in-Some.region.items so
          (subst (λ (t : Option Content). GivesRegion FORMAT t c.args.dir.now c.regions.sweep c.next.new.self so.trace c.in-Some.region.items) (same_content c.regions.invariant.same) gives);
      keeps = keeps_more c.args.lines c.regions.invariant.all c.in-Some.region.items c.regions.kept.items c.keep_lines-in-Some.new.kept.items c.in_ok-keep_lines-2.ensures.old c.regions.invariant.keeps
          (subst (λ (xs : List Segment). KeepsRuns (IsOnLines c.args.lines) xs c.keep_lines-in-Some.new.kept.items) c.deref-in-Some.ensures.value c.in_ok-keep_lines-2.ensures.keeps);
      fresh = c.in_ok-region.ensures.next.unrefused;
      same = c.in_ok-region.ensures.reads.same ∙ c.regions.invariant.same;
      no_fault = search rules;
    }

pub returns-clause-all : goal.returns-clause-all
returns-clause-all g c =
    let so = c.regions.invariant.so in
    let now = subst (λ (t : Option Content). HasSwept FORMAT t c.args.dir.now c.regions.sweep so.trace) (sym (same_content c.regions.invariant.same)) so.swept in
    let both = c.in_ok-region.ensures.next.all FORMAT c.args.dir.now so.trace now c.in_default.is in
    let all = both.1 in (
      so.trace,
      subst (λ (s : Sweep). HasSweptAll FORMAT (g.F.Folder.state c.args.folder.now).content c.args.dir.now s so.trace) (sym both.0)
          (subst (λ (t : Option Content). HasSweptAll FORMAT t c.args.dir.now c.regions.sweep so.trace) (same_content c.regions.invariant.same) all),
      holds_accesses so.trace c.args.lines c.regions.invariant.all c.regions.kept.items all.keeps (so.in_order so.trace all.completes) c.regions.invariant.keeps,
    )
