use Rattle.std.proofs.Common.{rules, Option, [], ◌∷◌, ◌++◌, refl, ap, sym, subst, ◌∙◌, arith}
use Rattle.std.specs.Option.{is_some}
use Rattle.log_format.specs.declared.record.Record.{Record}
use Rattle.log_reader.specs.Reading.{GivesNext}
use Rattle.race_model.specs.Row.{Row}
use Rattle.explain.specs.Finding.{IsPlaceAfter, MayFollow}
use Rattle.explain.specs.declared.finding.Found.{Found}
use Rattle.explain.proofs.Answering.{none_is_some, not_so}
use Rattle.explain.proofs.Hits.{IsNoHit, hit_here, no_hit}
use Rattle.explain.proofs.Logs.{log_of, path_of, row_of_place}
use Rattle.explain.proofs.Scanning.{next_in_log, next_node, next_tells, number_of, scans_next, scans_none}
use Rattle.explain.proofs.searching.hit_in_log.Goals as goal

pub returns-then-not-has_path-clause-finds : goal.returns-then-not-has_path-clause-finds
returns-then-not-has_path-clause-finds g c = λ x told trace run one one_in partners tells y byte in_y on.
    let row = row_of_place c.args.rows.now c.args.second c.index-rows-second.result c.requires.second c.index-rows-second.is in
    let log = log_of x c.args.dir.now c.args.rows.now trace run c.args.second c.index-rows-second.result row in
    let path = path_of x c.args.dir.now trace c.args.second c.index-rows-second.result log y in_y ∙ sym (ap (λ (r : Row). r.path) c.row.view_is) in
    let held = partners c.args.second y byte in_y on in
    not_so (c.has_path.ensures held.0 held.1 (held.2.path_is ∙ path)) c.if-not-has_path.true

pub records-init : goal.records-init
records-init g c = record {
  scans = λ x told trace run y in_y partners tells.
      let row = row_of_place c.args.rows.now c.args.second c.index-rows-second.result c.requires.second c.index-rows-second.is in
      let log = log_of x c.args.dir.now c.args.rows.now trace run c.args.second c.index-rows-second.result row in
      scans_none log (IsNoHit trace c.args.lines y) (c.in_ok-reader.ensures.stands x told log.task.records log.whole log.counted) c.start-place.ensures.after;
  room = c.start-place.ensures.room c.in_ok-reader.reader.left c.in_ok-reader.ensures.few;
  same = c.in_ok-reader.ensures.reads.same;
  no_fault = search rules;
}

pub records-preserved : goal.records-preserved
records-preserved g c = record {
  scans = λ x told trace run y in_y partners tells.
      let s = c.records.invariant.scans x told trace run y in_y partners tells in
      let now = ap (λ s. s.content) c.records.invariant.same ∙ told in
      let gives = subst (λ (o : Option Record). GivesNext x s.left o c.next_record.new.reader) c.in-Some.is (c.in_ok-next.ensures.gives x now s.left s.stands) in
      let other = next_tells s c.in-Some.next c.next_record.new.reader c.found_at-other.result gives c.found_at-other.ensures in
      let races = c.in_ok-raced.ensures.races x (ap (λ s. s.content) c.in_ok-next.ensures.reads.same ∙ now) trace run y (next_node s) in_y (next_in_log s) (number_of s) partners tells other in
      scans_next s c.in-Some.next c.next_record.new.reader c.pass.new.self gives
      (λ byte on. none_is_some byte (sym c.in_default-raced.is ∙ (races byte).1 on))
      (λ may. subst (λ (f : Found). IsPlaceAfter c.pass.new.self (s.given ++ f.event ∷ [])) c.found_at-other.ensures (c.pass.ensures.after s.given s.after (subst (λ (f : Found). MayFollow c.records.place.held f.event) (sym c.found_at-other.ensures) may)));
  room =
      let room = c.records.invariant.room in
      let fewer = c.in_ok-next.ensures.fewer (ap is_some c.in-Some.is) in
      c.pass.ensures.room c.next_record.new.reader.left (record { records = omega (arith, room.records, fewer); regions = room.regions; barriers = room.barriers });
  same = c.in_ok-raced.ensures.reads.same ∙ (c.in_ok-next.ensures.reads.same ∙ c.records.invariant.same);
  no_fault = search rules;
}

pub returns-in-Some-raced-clause-finds : goal.returns-in-Some-raced-clause-finds
returns-in-Some-raced-clause-finds g c = λ x told trace run y in_y partners tells.
    let s = c.records.invariant.scans x told trace run y in_y partners tells in
    let now = ap (λ s. s.content) c.records.invariant.same ∙ told in
    let gives = subst (λ (o : Option Record). GivesNext x s.left o c.next_record.new.reader) c.in-Some.is (c.in_ok-next.ensures.gives x now s.left s.stands) in
    let other = next_tells s c.in-Some.next c.next_record.new.reader c.found_at-other.result gives c.found_at-other.ensures in
    let races = c.in_ok-raced.ensures.races x (ap (λ s. s.content) c.in_ok-next.ensures.reads.same ∙ now) trace run y (next_node s) in_y (next_in_log s) (number_of s) partners tells other in
    hit_here c.args.lines y s (record { number = _; byte = c.in-Some-raced.byte }) refl ((races c.in-Some-raced.byte).0 c.in-Some-raced.is)

pub returns-clause-finds : goal.returns-clause-finds
returns-clause-finds g c = λ x told trace run y in_y partners tells.
    let s = c.records.invariant.scans x told trace run y in_y partners tells in
    let now = ap (λ s. s.content) c.records.invariant.same ∙ told in
    no_hit c.args.lines y s c.next_record.new.reader
    (subst (λ (o : Option Record). GivesNext x s.left o c.next_record.new.reader) c.in_default.is (c.in_ok-next.ensures.gives x now s.left s.stands))
