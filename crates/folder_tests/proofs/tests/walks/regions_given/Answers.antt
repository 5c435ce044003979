use Rattle.std.proofs.Common.{sym, subst, List, [], ◌∷◌, ◌++◌}
use Rattle.std.specs.Prelude.{Option, IfSome, Vec}
use Rattle.std.specs.declared.alloc.Global.{Global}
use Rattle.log_format.specs.declared.format.TheConstants.{FORMAT}
use Rattle.log_segment.specs.declared.segment.Segment.{Segment}
use Rattle.sw_base.specs.Environment.{FolderState}
use Rattle.log_walk.specs.Sweep.{HasSwept, GivesRegion}
use Rattle.folder_tests.proofs.tests.walks.regions_given.Goals as goal

pub next-requires-2-clause-swept : goal.next-requires-2-clause-swept
next-requires-2-clause-swept g c κs within =
    let begins = c.in-Ok.ensures.begins in
    let trace = begins.root ∷ [] in
    let gives : GivesRegion FORMAT (g.F.Folder.state c.open.new.folder).content c.args.dir.now c.in-Ok.sweep c.next.new.self trace c.in-Ok-Some.field-0-0.items =
    subst (λ (o : Option (Vec Segment Global)). IfSome o (λ segments. GivesRegion FORMAT (g.F.Folder.state c.open.new.folder).content c.args.dir.now c.in-Ok.sweep c.next.new.self trace segments.items)) c.in-Ok-Some.field-0-is
    (c.in-Ok-Some.ensures.next.region FORMAT c.args.dir.now trace (subst (λ (s : FolderState). HasSwept FORMAT s.content c.args.dir.now c.in-Ok.sweep trace) (sym c.open.ensures.reads.same) begins.swept)) in
    (FORMAT, c.args.dir.now, trace ++ gives.more, subst (λ (s : FolderState). HasSwept FORMAT s.content c.args.dir.now c.next.new.self (trace ++ gives.more)) (sym c.next.ensures.reads.same) gives.swept)
