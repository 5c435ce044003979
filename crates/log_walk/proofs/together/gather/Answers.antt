use Rattle.std.proofs.Common.{◌∙◌, All, List, sym, subst, rules}
use Rattle.std.specs.Prelude.{Some}
use Rattle.std.proofs.lemmas.List.Elements.{All-pop, All-push}
use Rattle.log_walk.specs.Ahead.{IsAhead, IsJob}
use Rattle.log_walk.specs.declared.ahead.Ahead.{Ahead}
use Rattle.log_walk.proofs.together.gather.Goals as goal

pub close-requires-clause-so : goal.close-requires-clause-so
close-requires-clause-so g c κs within =
    let r = c.requires.so in
    let told = (g.F.Folder.state c.args.folder.now).content in
    let so = (c.jobs.invariant.so r.0 r.1 r.2).0 in
    (c.args.format, told, r.0, r.1, (All-pop (IsJob g.F.File.File.rest g.F.File.File.faults c.args.format told r.0 r.1) c.jobs.jobs.items c.pop.new.self.items (Some c.in-Some.job) c.in-Some.ensures.items so).1)

pub jobs-preserved-in-Continue-branch-3 : goal.jobs-preserved-in-Continue-branch-3
jobs-preserved-in-Continue-branch-3 g c =
    let told = (g.F.Folder.state c.args.folder.now).content in
    record {
      so = λ dir rows all.
          (let so = c.jobs.invariant.so dir rows all in
          let left = All-pop (IsJob g.F.File.File.rest g.F.File.File.faults c.args.format told dir rows) c.jobs.jobs.items c.pop.new.self.items (Some c.in-Some.job) c.in-Some.ensures.items so.0 in (
            left.0,
            subst (λ (xs : List Ahead). All (IsAhead c.args.format told dir rows) xs) (sym c.in_ok-push.ensures.items)
                (All-push (IsAhead c.args.format told dir rows) c.jobs.ahead.items c.in-Some-2.read so.1 (rw c.in-Some-2.is at (c.in_ok-read.ensures.ahead c.args.format told dir rows left.1))),
          ));
      same = c.close.ensures.reads.same ∙ c.jobs.invariant.same;
      no_fault = search rules;
    }

pub jobs-preserved : goal.jobs-preserved
jobs-preserved g c =
    let told = (g.F.Folder.state c.args.folder.now).content in
    record {
      so = λ dir rows all.
          (let so = c.jobs.invariant.so dir rows all in
          ((All-pop (IsJob g.F.File.File.rest g.F.File.File.faults c.args.format told dir rows) c.jobs.jobs.items c.pop.new.self.items (Some c.in-Some.job) c.in-Some.ensures.items so.0).0, so.1));
      same = c.close.ensures.reads.same ∙ c.jobs.invariant.same;
      no_fault = search rules;
    }

pub returns-clause-ahead : goal.returns-clause-ahead
returns-clause-ahead g c = λ dir rows all. (c.jobs.invariant.so dir rows all).1
