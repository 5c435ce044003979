use Rattle.std.proofs.Common.{rules, ◌≡◌, ◌∙◌, ◌<◌, ℕ, List, Option, None, sym, subst, arith, ap}
use Rattle.std.specs.Prelude.{IfSome, Err, Vec}
use Rattle.std.specs.declared.alloc.Global.{Global}
use Rattle.std.proofs.lemmas.Result.{err_from_is_err_and}
use Rattle.sw_base.specs.Environment.{FolderState, Rose}
use Rattle.log_segment.specs.declared.segment.Segment.{Segment}
use Rattle.log_walk.specs.Sweep.{GivesRegion, HasSwept, HasSweptAll, logs_left}
use Rattle.log_walk.specs.declared.fault.WalkFault.{WalkFault}
use Rattle.log_walk.specs.declared.fault.WalkFault.TheVariants.{ReadFault}
use Rattle.log_walk.proofs.SweepMoves.{none_refused}
use Rattle.log_walk.proofs.WalkMoves.{WalkedTo, walked_more, of_folder}
use Rattle.log_walk.proofs.walking.walk_as.Goals as goal

pub returns-in_err-region-clause-refused : goal.returns-in_err-region-clause-refused
returns-in_err-region-clause-refused g c =
    let p = err_from_is_err_and c.from_residual-in_err-region.result c.from_residual-in_err-region.ensures.1 in
    let so = c.regions.invariant.so in
    let swept : HasSwept c.args.format (g.F.Folder.state c.regions.folder).content c.args.dir.now c.regions.sweep so.trace =
    subst (λ (s : FolderState). HasSwept c.args.format s.content c.args.dir.now c.regions.sweep so.trace) (sym c.regions.invariant.same) so.swept in
    let r = c.in_err-region.ensures.next.refused c.args.format c.args.dir.now so.trace swept in
    rw (p.1, p.2) (λ content told. r.2 content (ap (λ s. s.content) c.regions.invariant.same ∙ told))

pub returns-in_err-region-clause-reads : goal.returns-in_err-region-clause-reads
returns-in_err-region-clause-reads g c =
    let p = err_from_is_err_and c.from_residual-in_err-region.result c.from_residual-in_err-region.ensures.1 in
    let inv = c.regions.invariant in
    let reads = c.in_err-region.ensures.reads in
    rw (p.1, p.2) (record {
      same = reads.same ∙ inv.same;
      later = omega (arith, reads.later, inv.no_fault);
      cause = λ is.
          let fault : c.in_err-region.field-0.0 ≡ ReadFault = cc in
          subst (λ (n : ℕ). Rose n (g.F.Folder.read_faults c.next.new.folder)) inv.no_fault (reads.cause (ap (λ (e : WalkFault). Err e) fault, none_refused c.regions.sweep ReadFault inv.fresh));
      no_fault = λ other. reads.no_fault (λ fails. let fault : c.in_err-region.field-0.0 ≡ ReadFault = (let is = fails.0 in cc) in other (ap (λ (e : WalkFault). Err e) fault)) ∙ inv.no_fault;
    })

pub returns-in_default-clause-segments : goal.returns-in_default-clause-segments
returns-in_default-clause-segments g c =
    let so = c.regions.invariant.so in
    let swept : HasSwept c.args.format (g.F.Folder.state c.regions.folder).content c.args.dir.now c.regions.sweep so.trace =
    subst (λ (s : FolderState). HasSwept c.args.format s.content c.args.dir.now c.regions.sweep so.trace) (sym c.regions.invariant.same) so.swept in
    let none : c.in_ok-region.field-0 ≡ None = search rules in
    let all = c.in_ok-region.ensures.next.all c.args.format c.args.dir.now so.trace swept none in
    of_folder (g.F.Folder.state c.args.folder.now).content c.args.dir.now c.regions.sweep c.regions.found.items so
    (subst (λ (s : FolderState). HasSweptAll c.args.format s.content c.args.dir.now c.regions.sweep so.trace) c.regions.invariant.same all.1)

pub returns-in_default-clause-well_formed : goal.returns-in_default-clause-well_formed
returns-in_default-clause-well_formed g c = λ x told.
    let so = c.regions.invariant.so in
    let swept : HasSwept c.args.format (g.F.Folder.state c.regions.folder).content c.args.dir.now c.regions.sweep so.trace =
    subst (λ (s : FolderState). HasSwept c.args.format s.content c.args.dir.now c.regions.sweep so.trace) (sym c.regions.invariant.same) so.swept in
    let none : c.in_ok-region.field-0 ≡ None = search rules in
    let all = c.in_ok-region.ensures.next.all c.args.format c.args.dir.now so.trace swept none in
    let whole = all.1 in
    whole.well_formed x (ap (λ s. s.content) c.regions.invariant.same ∙ told)

pub regions-preserved : goal.regions-preserved
regions-preserved g c =
    let so = c.regions.invariant.so in
    let swept : HasSwept c.args.format (g.F.Folder.state c.regions.folder).content c.args.dir.now c.regions.sweep so.trace =
    subst (λ (s : FolderState). HasSwept c.args.format s.content c.args.dir.now c.regions.sweep so.trace) (sym c.regions.invariant.same) so.swept in
    let gives : GivesRegion c.args.format (g.F.Folder.state c.regions.folder).content c.args.dir.now c.regions.sweep c.next.new.self so.trace c.in-Some.region.items =
    subst (λ (o : Option (Vec Segment Global)). IfSome o (λ segments. GivesRegion c.args.format (g.F.Folder.state c.regions.folder).content c.args.dir.now c.regions.sweep c.next.new.self so.trace segments.items)) c.in-Some.is
    (c.in_ok-region.ensures.next.region c.args.format c.args.dir.now so.trace swept) in
    let less : logs_left c.next.new.self < logs_left c.regions.sweep =
    subst (λ (o : Option (Vec Segment Global)). IfSome o (λ segments. logs_left c.next.new.self < logs_left c.regions.sweep)) c.in-Some.is c.in_ok-region.ensures.next.shrinks in
    record {
      so = subst (λ (xs : List Segment). WalkedTo c.args.format (g.F.Folder.state c.args.folder.now).content c.args.dir.now c.next.new.self xs) (sym c.in_ok-append.ensures.items)
          (walked_more (g.F.Folder.state c.args.folder.now).content c.args.dir.now c.regions.sweep c.next.new.self c.regions.found.items c.in-Some.region.items so
          (subst (λ (s : FolderState). GivesRegion c.args.format s.content c.args.dir.now c.regions.sweep c.next.new.self so.trace c.in-Some.region.items) c.regions.invariant.same gives));
      fewer = omega (arith, less, c.regions.invariant.fewer);
      fresh = gives.fresh;
      same = c.in_ok-region.ensures.reads.same ∙ c.regions.invariant.same;
      no_fault = search rules;
    }
