use Rattle.std.proofs.Common.{◌≡◌, ℕ, ◌+◌, List, [], ◌++◌, length, Option, ap, sym, subst, ◌∙◌, arith, rules}
use Rattle.std.proofs.lemmas.List.Sums.{sum_by-append}
use Rattle.std.proofs.lemmas.Result.{err_from_is_err_and}
use Rattle.log_format.specs.declared.format.TheConstants.{FORMAT}
use Rattle.sw_base.specs.Environment.{Content, FolderState}
use Rattle.log_segment.specs.declared.segment.Segment.{Segment}
use Rattle.log_walk.specs.Sweep.{GivesRegion, HasSwept, HasSweptAll}
use Rattle.folder_races.specs.Waiting.{size_of}
use Rattle.folder_races.proofs.Sweeping.{SweptPairs, SweptPairs-all, SweptPairs-compared, SweptPairs-next, SweptPairs-start}
use Rattle.folder_races.proofs.pairs.folder_pairs.Goals as goal

same_content : {one other : FolderState} → one ≡ other → one.content ≡ other.content
same_content same = ap (λ s. s.content) same

pub regions-init : goal.regions-init
regions-init g c = record {
  swept =
      let keys : c.new-pairs.result.keys ≡ [] = search rules in
      let none : c.new-waiting.result.items ≡ [] = search rules in
      subst (λ (pairs : List (ℕ × ℕ)). SweptPairs (g.F.Folder.state c.args.folder.now).content c.args.dir.now c.in_ok-sweep.sweep pairs c.new-waiting.result.items) (sym keys)
      (subst (λ (waiting : List Segment). SweptPairs (g.F.Folder.state c.args.folder.now).content c.args.dir.now c.in_ok-sweep.sweep [] waiting) (sym none)
      (SweptPairs-start _ _ _ _ c.in_ok-sweep.ensures.begins));
  counted = ap size_of (let none : c.new-waiting.result.items ≡ [] = search rules in none);
  few = omega arith;
  most = omega arith;
  fresh = λ e is. let none_yet = c.in_ok-sweep.ensures.begins.fresh in absurd (cc (none_yet, is));
  same = c.in_ok-sweep.ensures.reads.same;
  no_fault = search rules;
}

pub returns-in_err-segments-clause-refused : goal.returns-in_err-segments-clause-refused
returns-in_err-segments-clause-refused g c =
    let p = err_from_is_err_and c.from_residual-in_err-segments.result c.from_residual-in_err-segments.ensures.1 in
    let swept = c.regions.invariant.swept in
    let now = subst (λ (t : Option Content). HasSwept FORMAT t c.args.dir.now c.regions.sweep swept.trace) (sym (same_content c.regions.invariant.same)) swept.swept in
    rw (p.1, p.2) (λ x told. (c.in_err-segments.ensures.next.refused FORMAT c.args.dir.now swept.trace now).2 x (same_content c.regions.invariant.same ∙ told))

pub regions-preserved : goal.regions-preserved
regions-preserved g c = record {
  swept =
      let swept = c.regions.invariant.swept in
      let now = subst (λ (t : Option Content). HasSwept FORMAT t c.args.dir.now c.regions.sweep swept.trace) (sym (same_content c.regions.invariant.same)) swept.swept in
      let gives = rw c.in-Some.is at (c.in_ok-segments.ensures.next.region FORMAT c.args.dir.now swept.trace now) in
      let next = SweptPairs-next (g.F.Folder.state c.args.folder.now).content c.args.dir.now c.regions.sweep c.next_by.new.self c.regions.pairs.keys c.regions.waiting.items c.in-Some.segments.items swept
      (subst (λ (t : Option Content). GivesRegion FORMAT t c.args.dir.now c.regions.sweep c.next_by.new.self swept.trace c.in-Some.segments.items) (same_content c.regions.invariant.same) gives) in
      let appended : c.append.new.self.items ≡ c.regions.waiting.items ++ c.in-Some.segments.items = search rules in
      let waits = subst (λ (waiting : List Segment). SweptPairs (g.F.Folder.state c.args.folder.now).content c.args.dir.now c.next_by.new.self c.regions.pairs.keys waiting) (sym appended) next in
      let none : c.compare.new.waiting.items ≡ [] = search rules in
      subst (λ (waiting : List Segment). SweptPairs (g.F.Folder.state c.args.folder.now).content c.args.dir.now c.next_by.new.self c.compare.new.pairs.keys waiting) (sym none)
      (SweptPairs-compared (g.F.Folder.state c.args.folder.now).content c.args.dir.now c.next_by.new.self c.regions.pairs.keys c.compare.new.pairs.keys c.append.new.self.items waits c.in_ok-compare.ensures.added);
  counted = ap size_of (let none : c.compare.new.waiting.items ≡ [] = search rules in none);
  few = omega arith;
  most = c.next_limit-limit.ensures;
  fresh = c.in_ok-segments.ensures.next.unrefused;
  same = c.in_ok-segments.ensures.reads.same ∙ c.regions.invariant.same;
  no_fault = search rules;
}

pub regions-preserved-then-number-limit : goal.regions-preserved-then-number-limit
regions-preserved-then-number-limit g c = record {
  swept =
      let swept = c.regions.invariant.swept in
      let now = subst (λ (t : Option Content). HasSwept FORMAT t c.args.dir.now c.regions.sweep swept.trace) (sym (same_content c.regions.invariant.same)) swept.swept in
      let gives = rw c.in-Some.is at (c.in_ok-segments.ensures.next.region FORMAT c.args.dir.now swept.trace now) in
      let next = SweptPairs-next (g.F.Folder.state c.args.folder.now).content c.args.dir.now c.regions.sweep c.next_by.new.self c.regions.pairs.keys c.regions.waiting.items c.in-Some.segments.items swept
      (subst (λ (t : Option Content). GivesRegion FORMAT t c.args.dir.now c.regions.sweep c.next_by.new.self swept.trace c.in-Some.segments.items) (same_content c.regions.invariant.same) gives) in
      let appended : c.append.new.self.items ≡ c.regions.waiting.items ++ c.in-Some.segments.items = search rules in
      let waits = subst (λ (waiting : List Segment). SweptPairs (g.F.Folder.state c.args.folder.now).content c.args.dir.now c.next_by.new.self c.regions.pairs.keys waiting) (sym appended) next in
      waits;
  counted =
      (let inv = c.regions.invariant in
      let appended : c.append.new.self.items ≡ c.regions.waiting.items ++ c.in-Some.segments.items = search rules in
      let sizes = ap size_of appended ∙ sum_by-append (λ (s : Segment). length s.runs.items + 1) c.regions.waiting.items c.in-Some.segments.items in
      let here = ap size_of c.deref.ensures.value in
      let more = c.count.ensures in
      let added = c.saturating_add-number.ensures in
      omega (arith, inv.counted, inv.most, sizes, here, more, added, c.if-number-limit.true));
  few = c.if-number-limit.true;
  most = c.regions.invariant.most;
  fresh = c.in_ok-segments.ensures.next.unrefused;
  same = c.in_ok-segments.ensures.reads.same ∙ c.regions.invariant.same;
  no_fault = search rules;
}

pub returns-clause-pairs : goal.returns-clause-pairs
returns-clause-pairs g c =
    let swept = c.regions.invariant.swept in
    let now = subst (λ (t : Option Content). HasSwept FORMAT t c.args.dir.now c.regions.sweep swept.trace) (sym (same_content c.regions.invariant.same)) swept.swept in
    let all = (c.in_ok-segments.ensures.next.all FORMAT c.args.dir.now swept.trace now c.in_default.is).1 in
    SweptPairs-all (g.F.Folder.state c.args.folder.now).content c.args.dir.now c.regions.sweep c.regions.pairs.keys c.compare-2.new.pairs.keys c.regions.waiting.items swept
    (subst (λ (t : Option Content). HasSweptAll FORMAT t c.args.dir.now c.regions.sweep swept.trace) (same_content c.regions.invariant.same) all) c.in_ok-compare-2.ensures.added (search rules)
